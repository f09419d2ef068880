use Rattle.std.proofs.Common.{◌+◌, ◌-◌, length}
use Rattle.kmc_base.specs.Words.{window}
use Rattle.kmc_split.specs.Signature.{signature_of}
use Rattle.kmc_split.proofs.Unique.{one_list}
use Rattle.kmc_split.proofs.laws.cut_is_unique.Goals as goal

pub returns : goal.returns
returns c = λ k m codes runs other h g. one_list (λ i. signature_of m (window k codes i)) (length codes + 1 - k) 0 runs other h g
