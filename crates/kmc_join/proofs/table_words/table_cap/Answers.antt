use Rattle.std.proofs.Common.{sym}
use Rattle.std.specs.Prelude.{string_bytes}
use Rattle.kmc_join.proofs.TableCaps.{cap_of_others}
use Rattle.kmc_join.proofs.table_words.table_cap.Goals as goal

pub returns-clause-cap : goal.returns-clause-cap
returns-clause-cap c = sym (cap_of_others string_bytes c.args.words.now c.if-words-eq3.false c.if-words-eq4.false)
