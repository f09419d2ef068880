use Rattle.kmc_split.specs.Lemmas.Least.{signature_fits}
use Rattle.kmc_split.proofs.laws.signature_fits.Goals as goal

pub returns : goal.returns
returns c = signature_fits
