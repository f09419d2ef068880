-- The words of a super-k-mer in a bin, by the candidates of its m-mers.
use Rattle.std.proofs.Common.{◌≡◌, ℕ, suc, ◌+◌, ◌-◌, ◌^◌, ◌<◌, ◌≤◌, ◌↔◌, slice_index, List, [], length, get_or, sym, ap, ◌∙◌, arith}
use Rattle.std.specs.List.{All}
use Rattle.std.proofs.lemmas.List.FromFn.{get_or-map-range_with_len}
use Rattle.kmc_base.specs.Words.{window, windows}
use Rattle.kmc_base.specs.Lemmas.Packs.{AreCodes}
use Rattle.kmc_base.specs.Lemmas.Windows.{length_windows}
use Rattle.kmc_split.specs.Signature.{signature_of, bin_of, bin_of_signature}
use Rattle.kmc_split.specs.Candidates.{candidate, unmarked}
use Rattle.kmc_split.specs.Minima.{low}
use Rattle.kmc_split.specs.Lemmas.Least.{signature_at}

pub word_of_windows : (k : ℕ) (codes : List ℕ) (i : ℕ) (d : List ℕ) → i < length codes + 1 - k → get_or (windows k codes) i d ≡ window k codes i
word_of_windows k codes i d inside = get_or-map-range_with_len (window k codes) 0 (length codes + 1 - k) i i d inside (omega arith)

module _ (m k n bin : ℕ) (codes values : List ℕ) (some : 1 ≤ m) (are : AreCodes codes) (within : m ≤ k) (inside : k ≤ length codes) (long : length values + m ≡ length codes + 1)
    (is : (i : ℕ) → i < length values → slice_index values i ≡ candidate m (window m codes i))
    (fit : (i : ℕ) → i < length values → slice_index values i < 4 ^ m) where
  low_signature : (i : ℕ) → i + k ≤ length codes → unmarked m (low (slice_index values) (k + 1 - m) i) ≡ signature_of m (window k codes i)
  low_signature i here =
      let width : k + 1 - m ≡ suc (k - m) = omega arith in
      ap (λ w. unmarked m (low (slice_index values) w i)) width
      ∙ signature_at m (k - m) k i codes (slice_index values) some (omega arith) here are (λ j h. is j (omega arith)) (λ j h. fit j (omega arith))

  pub bins_are : ((i : ℕ) → i + (k + 1 - m) ≤ length values → bin_of_signature n (unmarked m (low (slice_index values) (k + 1 - m) i)) ≡ bin) ↔ All
      (λ w. bin_of m n w ≡ bin) (windows k codes)
  bins_are = (
    (λ each i d less.
        let few : i < length codes + 1 - k = omega (arith, length_windows k codes) in
        ap (λ w. bin_of m n w) (word_of_windows k codes i d few) ∙ ap (bin_of_signature n) (sym (low_signature i (omega arith))) ∙ each i (omega arith)),
    (λ all i less.
        let few : i < length codes + 1 - k = omega arith in
        ap (bin_of_signature n) (low_signature i (omega arith)) ∙ ap (λ w. bin_of m n w) (sym (word_of_windows k codes i [] few)) ∙ all i []
        (omega (arith, length_windows k codes))),
  )
