use Rattle.std.proofs.Common.{◌≡◌, ℕ, zero, suc, List, get_or, replicate, refl, ap, ◌∙◌}
use Rattle.kmc_join.proofs.tally.none_small.Goals as goal

none_at : (k n : ℕ) → let none : ℕ = 0 in get_or (replicate k none) n 0 ≡ 0
none_at zero n = refl
none_at (suc k) zero = refl
none_at (suc k) (suc n) = none_at k n

pub returns : goal.returns
returns c = λ n. ap (λ (l : List ℕ). get_or l n 0) (c.in_ok-small.ensures.items_if_clones_equal (λ y e. e)) ∙ none_at 1024 n
