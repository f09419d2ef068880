-- The words of runs.
use Rattle.std.proofs.Common.{◌≡◌, ℕ, ◌+◌, ◌-◌, ◌<◌, ◌≤◌, List, [], ◌∷◌, ◌++◌, length, map, get_or, refl, sym, ap, ◌∙◌, arith}
use Rattle.std.specs.List.{All, range_with_len}
use Rattle.std.proofs.lemmas.List.FromFn.{length-map-range_with_len, get_or-map-range_with_len}
use Rattle.std.proofs.lemmas.List.Elements.{All-cons}
use Rattle.kmc_base.specs.Words.{window, windows}
use Rattle.kmc_split.specs.declared.runs.Run.{Run}
use Rattle.kmc_split.specs.Signature.{signature_of}
use Rattle.kmc_split.specs.Cut.{IsRunAt, AreRuns, IsCut, run_codes, run_words, IsRunOf}
use Rattle.kmc_base.specs.Lemmas.Windows.{length_window}
use Rattle.kmc_split.specs.Lemmas.Least.{starts_within, window_window}
use Rattle.kmc_base.specs.Lemmas.Places.{places_append, places_moved}

-- the words of a run are those of the segment at its places
words_of_run : (k : ℕ) (codes : List ℕ) (r : Run) → 1 ≤ k → 1 ≤ r.words → r.start + (r.words + (k - 1)) ≤ length codes
    → windows k (run_codes k codes r) ≡ map (window k codes) (range_with_len r.start r.words)
words_of_run k codes r some words inside =
    let long = length_window (r.words + (k - 1)) r.start codes inside in
    let count : length (run_codes k codes r) + 1 - k ≡ r.words = omega (arith, long) in
    ap (λ n. map (window k (run_codes k codes r)) (range_with_len 0 n)) count
    ∙ places_moved (window k (run_codes k codes r)) (window k codes) r.words 0 r.start
    (λ j h. let e : 0 + j ≡ j = omega arith in ap (window k (run_codes k codes r)) e ∙ window_window k (r.words + (k - 1)) r.start j codes (omega arith))

module _ (k m : ℕ) (codes : List ℕ) (some : 1 ≤ k) (long : k ≤ length codes) where
  run_inside : (p : ℕ) (r : Run) → p + r.words ≤ length codes + 1 - k → r.start ≡ p → r.start + (r.words + (k - 1)) ≤ length codes
  run_inside p r within start = omega arith

  pub words_from : (p : ℕ) (rs : List Run) → AreRuns (λ i. signature_of m (window k codes i)) p (length codes + 1 - k) rs
      → run_words k codes rs ≡ map (window k codes) (range_with_len p (length codes + 1 - k - p))
  words_from p [] h =
      let none : length codes + 1 - k - p ≡ 0 = omega arith in
      sym (ap (λ n. map (window k codes) (range_with_len p n)) none)
  words_from p (r ∷ rs) h =
      let end = length codes + 1 - k in
      let within = starts_within (λ i. signature_of m (window k codes i)) end (p + r.words) rs h.3 in
      let here = words_of_run k codes r some h.1.some (run_inside p r within h.0) ∙ ap (λ b. map (window k codes) (range_with_len b r.words)) h.0 in
      let rest = words_from (p + r.words) rs h.3 in
      let count : r.words + (end - (p + r.words)) ≡ end - p = omega arith in
      (λ i. here i ++ rest i)
      ∙ sym (places_append (window k codes) p r.words (end - (p + r.words)))
      ∙ ap (λ n. map (window k codes) (range_with_len p n)) count

  run_is : (p : ℕ) (r : Run) → p + r.words ≤ length codes + 1 - k → r.start ≡ p → IsRunAt (λ i. signature_of m (window k codes i)) r → IsRunOf k m codes r
  run_is p r within start h = record {
    some = h.some;
    most = h.most;
    inside = run_inside p r within start;
    one = λ i d less.
        let words = words_of_run k codes r some h.some (run_inside p r within start) in
        let few : i < r.words = omega (arith, ap length words, length-map-range_with_len (window k codes) r.start r.words) in
        ap (λ (ws : List (List ℕ)). signature_of m (get_or ws i d)) words
        ∙ ap (signature_of m) (get_or-map-range_with_len (window k codes) r.start r.words i (r.start + i) d few refl)
        ∙ h.one (r.start + i) (omega arith) (omega arith);
  }

  pub runs_from : (p : ℕ) (rs : List Run) → AreRuns (λ i. signature_of m (window k codes i)) p (length codes + 1 - k) rs → All (IsRunOf k m codes) rs
  runs_from p [] h = λ i d less. absurd (omega arith)
  runs_from p (r ∷ rs) h =
      let within = starts_within (λ i. signature_of m (window k codes i)) (length codes + 1 - k) (p + r.words) rs h.3 in
      All-cons (IsRunOf k m codes) r rs (run_is p r within h.0 h.1) (runs_from (p + r.words) rs h.3)

pub words_are : (k m : ℕ) (codes : List ℕ) (runs : List Run) → 1 ≤ k → k ≤ length codes → IsCut k m codes runs → run_words k codes runs ≡ windows k codes
words_are k m codes runs some long h =
    let all : length codes + 1 - k - 0 ≡ length codes + 1 - k = omega arith in
    words_from k m codes some long 0 runs h ∙ ap (λ n. map (window k codes) (range_with_len 0 n)) all

pub runs_are : (k m : ℕ) (codes : List ℕ) (runs : List Run) → 1 ≤ k → k ≤ length codes → IsCut k m codes runs → All (IsRunOf k m codes) runs
runs_are k m codes runs some long h = runs_from k m codes some long 0 runs h
