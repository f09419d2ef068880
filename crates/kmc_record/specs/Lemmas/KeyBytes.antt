-- The number of a record as 16 bytes, and the codes in them.
use Rattle.std.proofs.Common.{◌≡◌, ℕ, ◌+◌, ◌-◌, ◌/◌, ◌^◌, ◌≤◌, ◌++◌, take, ap, ◌∙◌, arith}
use Rattle.std.proofs.lemmas.List.{take_at}
use Rattle.std.specs.Int.{bytes_high_first}
use Rattle.kmc_base.specs.Packed.{unpack}
use Rattle.kmc_base.specs.Lemmas.Packing.{length_unpack, unpack_split}
use Rattle.kmc_base.specs.Lemmas.NumberBytes.{codes_of_bytes}
use Rattle.kmc_base.specs.Lemmas.Packs.{AreCodes, codes_unpack}
use Rattle.kmc_base.specs.Record.{codes_in}
use Rattle.kmc_record.specs.RecordKeys.{codes_of, symbols_of, packed_symbols}

-- ---- the symbols of a number

pub are_codes : (key : ℕ) → AreCodes (codes_of key)
are_codes key = codes_unpack (symbols_of key) (packed_symbols key)

-- ---- a packed word in two parts

-- the first n of 64 symbols
front_part : (n p : ℕ) → n ≤ 64 → take n (unpack 64 p) ≡ unpack n (p / 4 ^ (64 - n))
front_part n p most =
    let parts : 64 ≡ n + (64 - n) = omega arith in
    let whole : unpack 64 p ≡ unpack n (p / 4 ^ (64 - n)) ++ unpack (64 - n) p = ap (λ m. unpack m p) parts ∙ unpack_split n (64 - n) p in
    ap (take n) whole ∙ take_at (unpack n (p / 4 ^ (64 - n))) (unpack (64 - n) p) n (length_unpack n (p / 4 ^ (64 - n)))

-- the bytes of a number have its symbols in front
pub codes_of_number : (key : ℕ) → take (symbols_of key) (codes_in (bytes_high_first 16 key)) ≡ codes_of key
codes_of_number key = ap (take (symbols_of key)) (codes_of_bytes 16 key) ∙ front_part (symbols_of key) key (omega arith)
