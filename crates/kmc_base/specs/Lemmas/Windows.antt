-- How long windows are, and windows in longer lists.
use Rattle.std.proofs.Common.{◌≡◌, ℕ, zero, suc, ◌+◌, ◌-◌, ◌≤◌, List, [], ◌∷◌, ◌++◌, length, drop, take, ap, ◌∙◌, refl, arith, length-drop}
use Rattle.std.proofs.lemmas.List.{take-append-le, drop-append-le}
use Rattle.std.proofs.lemmas.List.FromFn.{length-map-range_with_len}
use Rattle.kmc_base.specs.Words.{window, windows}

pub length_window : (k i : ℕ) (xs : List ℕ) → i + k ≤ length xs → length (window k xs i) ≡ k
length_window zero i xs h = refl
length_window (suc k) zero [] h = absurd (omega arith)
length_window (suc k) zero (x ∷ xs) h = let r = length_window k zero xs (omega arith) in omega arith
length_window (suc k) (suc i) [] h = absurd (omega arith)
length_window (suc k) (suc i) (x ∷ xs) h = length_window (suc k) i xs (omega arith)

pub length_windows : (k : ℕ) (codes : List ℕ) → length (windows k codes) ≡ length codes + 1 - k
length_windows k codes = length-map-range_with_len (window k codes) 0 (length codes + 1 - k)

-- what is behind a list changes no window in it
pub window_front : (n p : ℕ) (xs ys : List ℕ) → p + n ≤ length xs → window n (xs ++ ys) p ≡ window n xs p
window_front n p xs ys h =
    ap (take n) (drop-append-le p xs ys (omega arith)) ∙ take-append-le n (drop p xs) ys (omega (arith, length-drop p xs))
