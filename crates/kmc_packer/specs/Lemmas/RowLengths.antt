-- How long rows are.
use Rattle.std.proofs.Common.{◌≡◌, ℕ, ◌-◌, ◌≤◌, List, length, drop, arith, length-append, length-drop}
use Rattle.kmc_base.specs.Record.{packed_codes, size_of}
use Rattle.kmc_base.specs.Lemmas.Packing.{length_unpack}
use Rattle.kmc_base.specs.Lemmas.Spelled.{length_packed}
use Rattle.kmc_base.specs.Packed.{unpack}
use Rattle.kmc_database.specs.Layout.{IsLayout}
use Rattle.kmc_database.specs.Lemmas.Bytes.{length_low}
use Rattle.kmc_database.specs.Numbers.{low_first}
use Rattle.kmc_database.specs.Rows.{row_long, row_of}
use Rattle.kmc_database.specs.declared.layout.Layout.{Layout}

-- the row of a word of k codes
pub row_is_long : (l : Layout) (p : List ℕ × ℕ) → IsLayout l → length p.0 ≡ l.k → length (row_of l p) ≡ row_long l
row_is_long l p is long =
    let rest = drop l.prefix p.0 in
    let size : length (packed_codes rest) ≡ size_of (length rest) = length_packed rest in
    let left : length rest ≡ l.k - l.prefix = omega (arith, length-drop l.prefix p.0, long) in
    omega (arith, length-append (packed_codes rest) (low_first l.counter p.1), size, left, length_low l.counter p.1, is.whole)

pub row_within : (l : Layout) (k : ℕ) (p : List ℕ × ℕ) → IsLayout l → k ≡ l.k → length p.0 ≡ k → length (row_of l p) ≤ row_long l
row_within l k p is same long = omega (arith, row_is_long l p is (omega (arith, same, long)))

pub packed_row_long : (l : Layout) (n count : ℕ) → IsLayout l → length (row_of l (unpack l.k n, count)) ≡ row_long l
packed_row_long l n count is = row_is_long l (unpack l.k n, count) is (length_unpack l.k n)
