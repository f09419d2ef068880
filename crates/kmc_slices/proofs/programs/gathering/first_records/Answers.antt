use Rattle.std.proofs.Common.{Some, Err, ap, inr, refl}
use Rattle.kmc_slices.proofs.programs.gathering.first_records.Goals as goal

pub returns-clause-fault : goal.returns-clause-fault
returns-clause-fault g c = inr (inr (
  c.in-Err-File.fault,
  refl,
  _,
  _,
  (Some c.in-Some.reader, c.in-Some.ensures, refl),
  c.in-Err-File.ensures.fault c.in-Err-File.fault (ap Err c.in-Err-File.field-0-is),
))
