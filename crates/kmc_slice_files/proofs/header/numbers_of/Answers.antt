use Rattle.std.proofs.Common.{arith, rules, refl}
use Rattle.kmc_slice_files.proofs.Heading.{numbers_are}
use Rattle.kmc_slice_files.proofs.header.numbers_of.Goals as goal

pub returns : goal.returns
returns c = record {
  letters = omega (arith, c.from_le_bytes.type_inv);
  version = omega (arith, c.from_le_bytes-2.type_inv);
  bins = omega (arith, c.from_le_bytes-3.type_inv);
  slices = omega (arith, c.from_le_bytes-4.type_inv);
  slice = omega (arith, c.from_le_bytes-5.type_inv);
  check = omega (arith, c.from_le_bytes-6.type_inv);
  is = numbers_are _ c.args.bytes.now (search rules) (λ i. omega (arith, c.fits-bytes i)) c.from_le_bytes.ensures c.from_le_bytes-2.ensures refl refl
      c.from_le_bytes-3.ensures c.from_le_bytes-4.ensures
      c.from_le_bytes-5.ensures c.from_le_bytes-6.ensures;
}
