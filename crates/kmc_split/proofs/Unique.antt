-- A list of signatures has exactly one list of runs.
use Rattle.std.proofs.Common.{◌≡◌, ℕ, zero, suc, ◌+◌, ◌-◌, ◌<◌, ◌≤◌, List, [], ◌∷◌, ◌++◌, refl, sym, subst, ◌∙◌, arith, ◌⊎◌, inl, inr, add-one}
use Rattle.std.proofs.lemmas.Bool.{cases_eq}
use Rattle.kmc_split.specs.declared.runs.Run.{Run}
use Rattle.kmc_split.specs.Cut.{IsRunAt, IsLongOrOther, AreRuns}
use Rattle.kmc_split.specs.Lemmas.Least.{starts_within}
use Rattle.kmc_split.proofs.Grouping.{open_run, first, grow, cut_here}

order : (a b : ℕ) → (a < b) ⊎ ((a ≡ b) ⊎ (b < a))
order a b = grind arith

module _ (at : ℕ → ℕ) (end : ℕ) where
  -- a run that ends before another one that begins with it is not followed by anything
  shorter : (p : ℕ) (r s : Run) (rs : List Run) → r.start ≡ p → s.start ≡ p → IsRunAt at r → IsRunAt at s
      → IsLongOrOther r rs → AreRuns at (p + r.words) end rs → p + s.words ≤ end → r.words < s.words → ⊥
  shorter p r s [] rp sp ri si long follow inside less = omega arith
  shorter p r s (t ∷ rs) rp sp ri si long follow inside less =
      let next = follow.1 in
      let from : s.start ≤ p + r.words = omega arith in
      let to : p + r.words < s.start + s.words = omega arith in
      let r_first : at p ≡ r.signature = ri.one p (omega arith) (omega (arith, ri.some)) in
      let s_first : at p ≡ s.signature = si.one p (omega arith) (omega (arith, si.some)) in
      let s_there : at (p + r.words) ≡ s.signature = si.one (p + r.words) from to in
      let t_there : at (p + r.words) ≡ t.signature = next.one (p + r.words) (omega arith) (omega (arith, next.some)) in
      let same : r.signature ≡ t.signature = sym r_first ∙ s_first ∙ sym s_there ∙ t_there in
      let full : r.words ≡ 256 = long same in
      omega (arith, si.most)

  same_heads : (p : ℕ) (r s : Run) (rs ss : List Run) → AreRuns at p end (r ∷ rs) → AreRuns at p end (s ∷ ss)
      → (r.words < s.words) ⊎ ((r.words ≡ s.words) ⊎ (s.words < r.words)) → (r.words ≡ s.words → rs ≡ ss) → r ∷ rs ≡ s ∷ ss
  same_heads p r s rs ss h k (inl less) rest = absurd (shorter p r s rs h.0 k.0 h.1 k.1 h.2 h.3 (starts_within at end (p + s.words) ss k.3) less)
  same_heads p r s rs ss h k (inr (inr less)) rest = absurd (shorter p s r ss k.0 h.0 k.1 h.1 k.2 k.3 (starts_within at end (p + r.words) rs h.3) less)
  same_heads p r s rs ss h k (inr (inl e)) rest =
      let starts : r.start ≡ s.start = h.0 ∙ sym k.0 in
      let r_first : at p ≡ r.signature = h.1.one p (omega arith) (omega (arith, h.1.some)) in
      let s_first : at p ≡ s.signature = k.1.one p (omega arith) (omega (arith, k.1.some)) in
      let signatures : r.signature ≡ s.signature = sym r_first ∙ s_first in
      let heads : r ≡ s = λ i. record { start = starts i; words = e i; signature = signatures i } in
      (λ i. heads i ∷ rest e i)

  pub one_list : (p : ℕ) (rs ss : List Run) → AreRuns at p end rs → AreRuns at p end ss → rs ≡ ss
  one_list p [] [] h k = refl
  one_list p [] (s ∷ ss) h k = absurd (omega (arith, k.1.some, starts_within at end (p + s.words) ss k.3))
  one_list p (r ∷ rs) [] h k = absurd (omega (arith, h.1.some, starts_within at end (p + r.words) rs h.3))
  one_list p (r ∷ rs) (s ∷ ss) h k =
      same_heads p r s rs ss h k (order r.words s.words) (λ e. one_list (p + r.words) rs ss h.3 (subst (λ (n : ℕ). AreRuns at (p + n) end ss) (sym e) k.3))

-- the runs of the first places, the last of them open
record IsOpen (at : ℕ → ℕ) (i : ℕ) : Type 0 where
  start : ℕ
  before : List Run
  some : start < i
  most : i - start ≤ 256
  runs : AreRuns at 0 i (before ++ open_run at start i ∷ [])

module _ (at : ℕ → ℕ) where
  one_more : (i : ℕ) → IsOpen at i → IsOpen at (i + 1)
  one_more i h = pick (cases_eq (at i) (at h.start)) (cases_eq (i - h.start) 256)
    where
      cut_it : (at h.start ≡ at i → i - h.start ≡ 256) → IsOpen at (i + 1)
      cut_it apart =
          let t = cut_here at i h.start i h.before (h.before ++ open_run at h.start i ∷ []) refl refl h.runs apart in
          record { start = i; before = h.before ++ open_run at h.start i ∷ []; some = t.0; most = t.1; runs = t.2 }

      pick : (at i ≡ at h.start) ⊎ (at i ≡ at h.start → ⊥) → (i - h.start ≡ 256) ⊎ (i - h.start ≡ 256 → ⊥) → IsOpen at (i + 1)
      pick (inl same) (inl full) = cut_it (λ e. full)
      pick (inl same) (inr short) =
          let t = grow at i h.start h.start h.before h.before refl refl h.some h.most h.runs same short in
          record { start = h.start; before = h.before; some = t.0; most = t.1; runs = t.2 }
      pick (inr other) (inl full) = cut_it (λ e. full)
      pick (inr other) (inr short) = cut_it (λ e. absurd (other (sym e)))

  all_places : (n : ℕ) → IsOpen at (suc n)
  all_places zero =
      record { start = 0; before = []; some = omega arith; most = omega arith; runs = first at (open_run at 0 1) refl refl refl }
  all_places (suc n) = subst (IsOpen at) (add-one (suc n)) (one_more (suc n) (all_places n))

  pub some_list : (n : ℕ) → (runs : List Run) × AreRuns at 0 n runs
  some_list zero = ([], refl)
  some_list (suc n) = let h = all_places n in (h.before ++ open_run at h.start (suc n) ∷ [], h.runs)
