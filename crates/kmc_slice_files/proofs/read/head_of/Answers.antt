use Rattle.std.proofs.Common.{arith, rules}
use Rattle.kmc_slice_files.proofs.Reading.{head_is}
use Rattle.kmc_slice_files.proofs.read.head_of.Goals as goal

pub returns : goal.returns
returns c = record {
  bin = omega (arith, c.from_le_bytes.type_inv);
  spare = omega (arith, c.from_le_bytes-2.type_inv);
  long = omega (arith, c.from_le_bytes-3.type_inv);
  check = omega (arith, c.from_le_bytes-4.type_inv);
  is = head_is _ c.args.bytes.now (search rules) (λ i. omega (arith, c.fits-bytes i)) c.from_le_bytes.ensures c.from_le_bytes-2.ensures
      c.from_le_bytes-3.ensures c.from_le_bytes-4.ensures;
}
