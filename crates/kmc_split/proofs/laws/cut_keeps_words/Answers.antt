use Rattle.kmc_split.proofs.Kept.{words_are}
use Rattle.kmc_split.proofs.laws.cut_keeps_words.Goals as goal

pub returns : goal.returns
returns c = words_are
