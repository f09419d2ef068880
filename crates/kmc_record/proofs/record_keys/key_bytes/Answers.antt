use Rattle.std.proofs.Common.{ℕ, List, take, ap, ◌∙◌}
use Rattle.kmc_base.specs.Record.{codes_in}
use Rattle.kmc_record.specs.RecordKeys.{symbols_of}
use Rattle.kmc_record.specs.Lemmas.KeyBytes.{codes_of_number}
use Rattle.kmc_record.proofs.record_keys.key_bytes.Goals as goal

pub returns : goal.returns
returns c =
    let key = c.args.key in
    ap (λ (t : List ℕ). take (symbols_of key) (codes_in t)) c.high_bytes_first.ensures ∙ codes_of_number key
