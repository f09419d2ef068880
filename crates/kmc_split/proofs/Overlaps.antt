-- An m-mer of 4 to 8 codes as two bytes of four codes that overlap.
use Rattle.std.proofs.Common.{◌≡◌, ℕ, ◌+◌, ◌-◌, ◌*◌, ◌%◌, ◌^◌, ◌<◌, ◌≤◌, ◌++◌, min, Bool, true, false, cond, List, length, drop, take, slice_index, sym, ap, subst, ◌∙◌, arith}
use Rattle.std.proofs.Math.Seq.{take-add}
use Rattle.std.proofs.lemmas.List.{drop-drop}
use Rattle.std.proofs.lemmas.Nat.{mod-mul-add, mod_below, mul-le, pow-add}
use Rattle.kmc_base.specs.Words.{rev_comp, canonical, window}
use Rattle.kmc_base.specs.Packed.{pack, unpack}
use Rattle.kmc_base.specs.Lemmas.Packs.{AreCodes, pack_fits, pack_parts, pack_canonical, rev_comp_join, length_rev_comp, codes_rev_comp}
use Rattle.kmc_base.specs.Lemmas.Powers.{pow_some}
use Rattle.kmc_base.specs.Lemmas.Rolling.{codes_part}
use Rattle.kmc_base.specs.Lemmas.Windows.{length_window}
use Rattle.kmc_split.specs.Signature.{is_allowed}
use Rattle.kmc_split.specs.Candidates.{packed_candidate, AreCandidates}
use Rattle.kmc_split.specs.Quads.{AreQuads, overlap, lesser_strand}
use Rattle.kmc_split.specs.Lemmas.Least.{packed_candidate_is}
use Rattle.kmc_split.proofs.Rolled.{Holds, number_holds}

-- ---- room

pub overlap_fits : (d m x y : ℕ) → m ≡ 4 + d → x < 256 → overlap d x y < 4 ^ m
overlap_fits d m x y e small =
    let whole : 4 ^ m ≡ 256 * 4 ^ d = ap (λ n. 4 ^ n) e ∙ pow-add 4 4 d in
    let one : 4 ^ d ≤ 4 ^ d = omega arith in
    let most : x * 4 ^ d ≤ 255 * 4 ^ d = mul-le x (4 ^ d) 255 (4 ^ d) (omega arith) one in
    let low : y % 4 ^ d < 4 ^ d = mod_below y (4 ^ d) (omega (arith, pow_some d)) in
    omega arith

pub min_below : (a b n : ℕ) → a < n → min a b < n
min_below a b n h = omega arith

-- ---- parts of words

split : (a b i : ℕ) (codes : List ℕ) → window (a + b) codes i ≡ window a codes i ++ window b codes (i + a)
split a b i codes = take-add a b (drop i codes) ∙ ap (λ (l : List ℕ). take a (drop i codes) ++ take b l) (drop-drop a i codes)

module _ (codes : List ℕ) (are : AreCodes codes) where
  ahead_parts : (a b i : ℕ) → i + (a + b) ≤ length codes → pack (window (a + b) codes i) ≡ pack (window a codes i) * 4 ^ b + pack (window b codes (i + a))
  ahead_parts a b i inside =
      ap pack (split a b i codes) ∙ pack_parts (window a codes i) (window b codes (i + a))
      ∙ ap (λ n. pack (window a codes i) * 4 ^ n + pack (window b codes (i + a))) (length_window b (i + a) codes (omega arith))

  back_parts : (a b i : ℕ) → i + (a + b) ≤ length codes
      → pack (rev_comp (window (a + b) codes i)) ≡ pack (rev_comp (window b codes (i + a))) * 4 ^ a + pack (rev_comp (window a codes i))
  back_parts a b i inside =
      ap (λ w. pack (rev_comp w)) (split a b i codes) ∙ ap pack (rev_comp_join (window a codes i) (window b codes (i + a)))
      ∙ pack_parts (rev_comp (window b codes (i + a))) (rev_comp (window a codes i))
      ∙ ap (λ n. pack (rev_comp (window b codes (i + a))) * 4 ^ n + pack (rev_comp (window a codes i)))
      (length_rev_comp (window a codes i) ∙ length_window a i codes (omega arith))

  ahead_fits : (n i : ℕ) → i + n ≤ length codes → pack (window n codes i) < 4 ^ n
  ahead_fits n i inside =
      subst (λ l. pack (window n codes i) < 4 ^ l) (length_window n i codes inside) (pack_fits (window n codes i) (codes_part n i codes are))

  back_fits : (n i : ℕ) → i + n ≤ length codes → pack (rev_comp (window n codes i)) < 4 ^ n
  back_fits n i inside =
      subst (λ l. pack (rev_comp (window n codes i)) < 4 ^ l) (length_rev_comp (window n codes i) ∙ length_window n i codes inside)
      (pack_fits (rev_comp (window n codes i)) (codes_rev_comp (window n codes i)))

  -- the last d of four codes
  last_codes : (d i : ℕ) → d ≤ 4 → i + (4 + d) ≤ length codes → pack (window 4 codes (i + d)) % 4 ^ d ≡ pack (window d codes (i + 4))
  last_codes d i few inside =
      let four : 4 - d + d ≡ 4 = omega arith in
      let place : i + d + (4 - d) ≡ i + 4 = omega arith in
      ap (λ n. pack (window n codes (i + d)) % 4 ^ d) (sym four)
      ∙ ap (λ x. x % 4 ^ d) (ahead_parts (4 - d) d (i + d) (omega arith))
      ∙ mod-mul-add (pack (window (4 - d) codes (i + d))) (4 ^ d) (pack (window d codes (i + d + (4 - d)))) (ahead_fits d (i + d + (4 - d)) (omega arith))
      ∙ ap (λ p. pack (window d codes p)) place

  -- and of the reverse complement of four codes
  first_codes : (d i : ℕ) → d ≤ 4 → i + (4 + d) ≤ length codes → pack (rev_comp (window 4 codes i)) % 4 ^ d ≡ pack (rev_comp (window d codes i))
  first_codes d i few inside =
      let four : d + (4 - d) ≡ 4 = omega arith in
      ap (λ n. pack (rev_comp (window n codes i)) % 4 ^ d) (sym four)
      ∙ ap (λ x. x % 4 ^ d) (back_parts d (4 - d) i (omega arith))
      ∙ mod-mul-add (pack (rev_comp (window (4 - d) codes (i + d)))) (4 ^ d) (pack (rev_comp (window d codes i))) (back_fits d i (omega arith))

  ahead_is : (d i : ℕ) → d ≤ 4 → i + (4 + d) ≤ length codes
      → overlap d (pack (window 4 codes i)) (pack (window 4 codes (i + d))) ≡ pack (window (4 + d) codes i)
  ahead_is d i few inside = ap (λ x. pack (window 4 codes i) * 4 ^ d + x) (last_codes d i few inside) ∙ sym (ahead_parts 4 d i inside)

  back_is : (d i : ℕ) → d ≤ 4 → i + (4 + d) ≤ length codes
      → overlap d (pack (rev_comp (window 4 codes (i + d)))) (pack (rev_comp (window 4 codes i))) ≡ pack (rev_comp (window (4 + d) codes i))
  back_is d i few inside =
      let all : d + 4 ≡ 4 + d = omega arith in
      ap (λ x. pack (rev_comp (window 4 codes (i + d))) * 4 ^ d + x) (first_codes d i few inside)
      ∙ sym (back_parts d 4 i (omega arith)) ∙ ap (λ n. pack (rev_comp (window n codes i))) all

  -- ---- the candidates

  module _ (quads turned : List ℕ) (bytes : AreQuads codes quads turned) where
    lesser_is : (d i : ℕ) → d ≤ 4 → i + (4 + d) ≤ length codes → lesser_strand d quads turned i ≡ pack (canonical (window (4 + d) codes i))
    lesser_is d i few inside =
        let w = window (4 + d) codes i in
        (λ t. min (overlap d (bytes.ahead i (omega arith) t) (bytes.ahead (i + d) (omega arith) t))
        (overlap d (bytes.back (i + d) (omega arith) t) (bytes.back i (omega arith) t)))
        ∙ (λ t. min (ahead_is d i few inside t) (back_is d i few inside t))
        ∙ sym (pack_canonical w (codes_part (4 + d) i codes are))

    lesser_holds_at : (m i : ℕ) → 4 ≤ m → m ≤ 8 → i + m ≤ length codes → Holds m (window m codes i) (lesser_strand (m - 4) quads turned i)
    lesser_holds_at m i some most inside =
        let all : 4 + (m - 4) ≡ m = omega arith in
        number_holds m codes i (lesser_strand (m - 4) quads turned i) are inside
        (lesser_is (m - 4) i (omega arith) (omega arith) ∙ ap (λ n. pack (canonical (window n codes i))) all)

    candidate_below : (m x : ℕ) → x < 4 ^ m → packed_candidate m x < 4 ^ m
    candidate_below m x h = go (is_allowed (unpack m x))
      where
        go : (b : Bool) → cond b x (4 ^ m - 1) < 4 ^ m
        go true = h
        go false = omega (arith, pow_some m)

    -- where the values are those of the overlaps
    pub are_candidates : (m n : ℕ) (values : List ℕ) → 4 ≤ m → m ≤ 8 → length codes < n + m
        → ((i : ℕ) → i < n → slice_index values i ≡ packed_candidate m (lesser_strand (m - 4) quads turned i)) → AreCandidates m codes values
    are_candidates m n values some most all is = record {
      each = λ i inside.
          let here = lesser_holds_at m i some most inside in
          is i (omega arith) ∙ packed_candidate_is m (lesser_strand (m - 4) quads turned i) (window m codes i) here.fits here.is;
      fit = λ i inside.
          subst (λ (x : ℕ). x < 4 ^ m) (sym (is i (omega arith))) (candidate_below m (lesser_strand (m - 4) quads turned i)
          (lesser_holds_at m i some most inside).fits);
    }
