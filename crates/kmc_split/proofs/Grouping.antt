-- Runs that grow at their end.
use Rattle.std.proofs.Common.{◌≡◌, ℕ, ◌+◌, ◌-◌, ◌<◌, ◌≤◌, List, [], ◌∷◌, ◌++◌, refl, sym, ap, ◌∙◌, arith, ◌⊎◌, inl, inr}
use Rattle.kmc_split.specs.declared.runs.Run.{Run}
use Rattle.kmc_split.specs.Cut.{IsRunAt, IsLongOrOther, AreRuns}

same_start : (s : Run) (rs : List Run) (r r2 : Run) → r2.signature ≡ r.signature → IsLongOrOther s (rs ++ r ∷ []) → IsLongOrOther s (rs ++ r2 ∷ [])
same_start s [] r r2 e h = λ f. h (f ∙ e)
same_start s (t ∷ rs) r r2 e h = h

other_start : (s : Run) (rs : List Run) (r n : Run) → IsLongOrOther s (rs ++ r ∷ []) → IsLongOrOther s ((rs ++ r ∷ []) ++ n ∷ [])
other_start s [] r n h = h
other_start s (t ∷ rs) r n h = h

module _ (at : ℕ → ℕ) where
  longer : (r r2 : Run) (i : ℕ) → IsRunAt at r → r.start + r.words ≡ i → at i ≡ r.signature → r.words < 256
      → r2.start ≡ r.start → r2.words ≡ r.words + 1 → r2.signature ≡ r.signature → IsRunAt at r2
  longer r r2 i h end here less start words signature =
      record { some = omega arith; most = omega arith; one = one }
    where
      old_or_last : (j : ℕ) → j < r2.start + r2.words → (j < r.start + r.words) ⊎ (j ≡ i)
      old_or_last j to = grind (arith, start, words, end)

      one : (j : ℕ) → r2.start ≤ j → j < r2.start + r2.words → at j ≡ r2.signature
      one j from to =
          elim (old_or_last j to) [
            | inl k ↦ h.one j (omega arith) k ∙ sym signature
            | inr e ↦ ap at e ∙ here ∙ sym signature
          ]

  -- the last run has one place more
  pub extend : (p i : ℕ) (rs : List Run) (r r2 : Run) → AreRuns at p i (rs ++ r ∷ []) → at i ≡ r.signature → r.words < 256
      → r2.start ≡ r.start → r2.words ≡ r.words + 1 → r2.signature ≡ r.signature → AreRuns at p (i + 1) (rs ++ r2 ∷ [])
  extend p i [] r r2 h here less start words signature =
      (omega arith, longer r r2 i h.1 (omega arith) here less start words signature, tt, omega arith)
  extend p i (s ∷ rs) r r2 h here less start words signature =
      (h.0, h.1, same_start s rs r r2 signature h.2, extend (p + s.words) i rs r r2 h.3 here less start words signature)

  single : (n : Run) (i : ℕ) → n.start ≡ i → n.words ≡ 1 → n.signature ≡ at i → IsRunAt at n
  single n i start words signature = record { some = omega arith; most = omega arith; one = one }
    where
      one : (j : ℕ) → n.start ≤ j → j < n.start + n.words → at j ≡ n.signature
      one j from to =
          let e : j ≡ i = omega arith in ap at e ∙ sym signature

  -- a run is open at its first place
  pub begin : (p i : ℕ) (rs : List Run) (r n : Run) → AreRuns at p i (rs ++ r ∷ []) → n.start ≡ i → n.words ≡ 1 → n.signature ≡ at i
      → (r.signature ≡ n.signature → r.words ≡ 256)
      → AreRuns at p (i + 1) ((rs ++ r ∷ []) ++ n ∷ [])
  begin p i [] r n h start words signature apart =
      (h.0, h.1, apart, (omega arith, single n i start words signature, tt, omega arith))
  begin p i (s ∷ rs) r n h start words signature apart =
      (h.0, h.1, other_start s rs r n h.2, begin (p + s.words) i rs r n h.3 start words signature apart)

  pub first : (n : Run) → n.start ≡ 0 → n.words ≡ 1 → n.signature ≡ at 0 → AreRuns at 0 1 (n ∷ [])
  first n start words signature = (start, single n 0 start words signature, tt, omega arith)

module _ (at : ℕ → ℕ) where
  -- the run of the places from here to before there
  abbrev pub open_run : ℕ → ℕ → Run
  open_run start i = record { start = start; words = i - start; signature = at start }

  pub grow : (i start start2 : ℕ) (rs new : List Run) → start2 ≡ start → new ≡ rs → start < i → i - start ≤ 256
      → AreRuns at 0 i (rs ++ open_run start i ∷ []) → at i ≡ at start → (i - start ≡ 256 → ⊥)
      → (start2 < i + 1) × (i + 1 - start2 ≤ 256) × AreRuns at 0 (i + 1) (new ++ open_run start2 (i + 1) ∷ [])
  grow i start start2 rs new es en less most h same short =
      let less256 : i - start < 256 = omega arith in
      rw (es, en) (omega arith, omega arith, extend at 0 i rs (open_run start i) (open_run start (i + 1)) h same less256 refl (omega arith) refl)

  pub cut_here : (i start start2 : ℕ) (rs new : List Run) → start2 ≡ i → new ≡ rs ++ open_run start i ∷ []
      → AreRuns at 0 i (rs ++ open_run start i ∷ []) → (at start ≡ at i → i - start ≡ 256)
      → (start2 < i + 1) × (i + 1 - start2 ≤ 256) × AreRuns at 0 (i + 1) (new ++ open_run start2 (i + 1) ∷ [])
  cut_here i start start2 rs new es en h apart =
      rw (es, en) (omega arith, omega arith, begin at 0 i rs (open_run start i) (open_run i (i + 1)) h refl (omega arith) refl apart)
