-- The two parts of a row that are put one behind the other.
use Rattle.std.proofs.Common.{◌≡◌, ℕ, ◌+◌, ◌-◌, ◌/◌, ◌≤◌, List, ◌++◌, length, take, drop, sym, ap, ◌∙◌, arith, take_all, length-drop}
use Rattle.std.proofs.lemmas.List.{length-take-le}
use Rattle.std.specs.Int.{bytes_high_first, to_le_bytes, w64}
use Rattle.kmc_base.specs.Lemmas.NumberBytes.{length_bytes}
use Rattle.kmc_base.specs.Lemmas.Packing.{length_unpack}
use Rattle.kmc_base.specs.Packed.{unpack}
use Rattle.kmc_database.specs.Layout.{IsLayout}
use Rattle.kmc_database.specs.Lemmas.Words.{few_bytes, row_is}
use Rattle.kmc_database.specs.Rows.{row_of}
use Rattle.kmc_database.specs.declared.layout.Layout.{Layout}
use Rattle.kmc_packer.specs.Lemmas.RowLengths.{row_is_long}

module _ (l : Layout) (is : IsLayout l) (k n count : ℕ) (same : k ≡ l.k) (word number : List ℕ) (word_is : word ≡ bytes_high_first 16 n)
    (number_is : number ≡ to_le_bytes w64 count) where
  abbrev size : ℕ
  size = (l.k - l.prefix) / 4

  abbrev front : List ℕ
  front = take (16 - (16 - size)) (drop (16 - size) word)

  abbrev back : List ℕ
  back = take l.counter number

  pub row_parts : front ++ back ≡ row_of l (unpack k n, count)
  row_parts =
      let long : length word ≡ 16 = ap length word_is ∙ length_bytes 16 n in
      let all : front ≡ drop (16 - size) word = take_all (16 - (16 - size)) (drop (16 - size) word) (omega (arith, length-drop (16 - size) word, long)) in
      (λ i. (all ∙ ap (drop (16 - size)) word_is) i ++ take l.counter (number_is i))
      ∙ sym (row_is l is n count)
      ∙ ap (λ m. row_of l (unpack m n, count)) (sym same)

  pub front_long : length front ≡ size
  front_long =
      let long : length word ≡ 16 = ap length word_is ∙ length_bytes 16 n in
      let few : size ≤ 15 = few_bytes l is n in
      let left : length (drop (16 - size) word) ≡ size = omega (arith, length-drop (16 - size) word, long, few) in
      let whole : 16 - (16 - size) ≡ size = omega (arith, few) in
      length-take-le (16 - (16 - size)) (drop (16 - size) word) (omega (arith, left, whole)) ∙ whole

  pub back_long : length back ≡ l.counter
  back_long =
      let long : length number ≡ 8 = ap length number_is in
      length-take-le l.counter number (omega (arith, long, is.counter))

  pub row_long_is : length (row_of l (unpack k n, count)) ≡ size + l.counter
  row_long_is = row_is_long l (unpack k n, count) is (length_unpack k n ∙ same)
