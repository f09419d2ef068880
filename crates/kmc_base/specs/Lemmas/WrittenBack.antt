-- A vector that was sorted in place.
use Rattle.std.proofs.Common.{◌≡◌, ℕ, List, [], ◌++◌, length, take, take_all, drop, append-nil, ap, ◌∙◌, arith}
use Rattle.std.proofs.Math.ListN.{drop_of_length-le}

-- a vector whose items were rewritten in place, as many as they were
pub written_back : {X : Type 0} (n : ℕ) (old new : List X) → length new ≡ length old → n ≡ length old → take n (new ++ drop (length new) old) ≡ new
written_back n old new same long =
    let none : drop (length new) old ≡ [] = drop_of_length-le old (omega (arith, same)) in
    ap (λ l. take n (new ++ l)) none ∙ ap (take n) (append-nil new) ∙ take_all n new (omega (arith, same, long))
