-- What stands next in a file, told from the bytes of it that are held.
use Rattle.std.proofs.Common.{◌≡◌, ℕ, ◌^◌, ◌<◌, ◌≤◌, Bool, true, false, nat_eq, List, length, take, Option, Some, refl, sym, ap, ◌∙◌, arith, length-append, take_all}
use Rattle.std.proofs.lemmas.Bool.Decides.{nat_tests}
use Rattle.std.proofs.lemmas.Slice.Eq.{bytes_eq-Decides}
use Rattle.std.specs.Io.KnownBytes.{prepend_known}
use Rattle.std.specs.Prelude.{bytes_eq, ◌&&◌}
use Rattle.kmc_database.specs.DumpText.{has_form, has_layout, is_header}
use Rattle.kmc_database.specs.Numbers.{low_first}
use Rattle.kmc_database.specs.Numerals.{has_at, low_number}
use Rattle.kmc_database.specs.declared.reading.Header.{Header}
use Rattle.kmc_database.specs.Lemmas.Bytes.{length_low}
use Rattle.kmc_database.proofs.HandedOut.{take_longer}
use Rattle.kmc_database.proofs.LeftBytes.{held_first}
use Rattle.kmc_database.proofs.Numerals.{low_of, short_at, stands_at}

-- bytes that are not these
pub other_bytes : (xs ys : List ℕ) → (xs ≡ ys → ⊥) → bytes_eq xs ys ≡ false
other_bytes xs ys differ = go (bytes_eq xs ys) refl
  where
    go : (b : Bool) → bytes_eq xs ys ≡ b → bytes_eq xs ys ≡ false
    go true e = absurd (differ ((bytes_eq-Decides xs ys).0 e))
    go false e = e

module _ (held : List ℕ) (known : Option (List ℕ)) (bytes : List ℕ) (is : prepend_known held known ≡ Some bytes) where
  pub front_held : (n : ℕ) → n ≤ length held → take n bytes ≡ take n held
  front_held n few = let f = held_first held known bytes is in ap (take n) (sym f.2) ∙ take_longer held f.0 n few

  pub as_long : length held ≤ length bytes
  as_long = let f = held_first held known bytes is in omega (arith, ap length f.2, length-append held f.0)

  -- a part that stands in the bytes that are held
  pub begins_as : (part : List ℕ) → length part ≤ length held → has_at held 0 part ≡ has_at bytes 0 part
  begins_as part few = ap (λ (t : List ℕ). bytes_eq t part) (sym (front_held (length part) few))

  -- more bytes than a marker has
  pub no_marker : (marker : ℕ) → 5 ≤ length held → bytes_eq bytes (low_first 4 marker) ≡ false
  no_marker marker many =
      other_bytes bytes (low_first 4 marker) (λ e. omega (arith, many, as_long, ap length e, length_low 4 marker))

  -- more bytes than a header has
  pub no_header : (h : Header) → 73 ≤ length held → is_header h bytes ≡ false
  no_header h many =
      let long : nat_eq (length bytes) 72 ≡ false = grind (arith, nat_tests, as_long, many) in
      ap (λ b. b && has_layout h.layout bytes && has_at bytes 24 (low_first 8 h.rows) && has_form bytes) long

  -- an entry
  pub entry_told : (entry : ℕ) → 8 ≤ length held → entry < 256 ^ 8 → low_first 8 entry ≡ take 8 held
      → (low_number (take 8 bytes) ≡ entry) × (has_at bytes 0 (low_first 8 entry) ≡ true)
  entry_told entry few fits e =
      let here : take 8 bytes ≡ low_first 8 entry = front_held 8 few ∙ sym e in
      (ap low_number here ∙ low_of 8 entry fits, stands_at bytes 0 8 (low_first 8 entry) (length_low 8 entry) here)

-- all bytes are held
module _ (held bytes : List ℕ) (all : bytes ≡ held) where
  pub short_number : (k n : ℕ) → length held < k → has_at bytes 0 (low_first k n) ≡ false
  short_number k n few = short_at bytes (low_first k n) (omega (arith, few, ap length all, length_low k n))

  pub other_end : (marker : ℕ) → (length held ≡ 4 → ⊥) → bytes_eq bytes (low_first 4 marker) ≡ false
  other_end marker differ =
      other_bytes bytes (low_first 4 marker) (λ e. differ (sym (ap length all) ∙ ap length e ∙ length_low 4 marker))

  pub whole_end : (marker : ℕ) → length held ≡ 4 → has_at held 0 (low_first 4 marker) ≡ bytes_eq bytes (low_first 4 marker)
  whole_end marker long =
      let part = low_first 4 marker in
      ap (λ (t : List ℕ). bytes_eq t part) (take_all (length part) held (omega (arith, long, length_low 4 marker)) ∙ sym all)
