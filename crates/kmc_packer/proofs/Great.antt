-- Counts that their bytes do not hold, in lists and in the pairs that are written of them.
use Rattle.std.proofs.Common.{◌≡◌, ℕ, ◌+◌, ◌^◌, ◌<◌, inl, inr, List, [], ◌∷◌, ◌++◌, length, get_or, take, sym, ap, subst, ◌∙◌, append-nil}
use Rattle.std.specs.Prelude.{All}
use Rattle.std.proofs.lemmas.Grind.{flat_map-append}
use Rattle.std.proofs.lemmas.List.{map-append, take_more}
use Rattle.std.proofs.lemmas.List.Elements.{All-append, All-map, recursion_from_All}
use Rattle.std.proofs.lemmas.List.Sorted.{All-permutation, Contains-permutation}
use Rattle.kmc_base.specs.Lemmas.Members.{Has, contains_has, has_contains}
use Rattle.kmc_lists.specs.Listed.{Listed, spell, spelled}
use Rattle.kmc_lists.specs.Ordered.{in_order, joined, packs, whole}
use Rattle.kmc_lists.specs.Lemmas.Order.{in_order_moves}
use Rattle.kmc_database.specs.Files.{CountsFit}
use Rattle.kmc_database.specs.declared.layout.Layout.{Layout}
use Rattle.kmc_packer.specs.Counts.{HasGreat}

-- one list more
joined_more : (lists : List Listed) (i : ℕ) (c : Listed) → i < length lists → c ≡ get_or lists i c
    → joined (packs (take (i + 1) lists)) ≡ joined (packs (take i lists)) ++ c.packed
joined_more lists i c inside is =
    let front = take i lists in
    let last = get_or lists i c in
    ap (λ (cs : List Listed). joined (packs cs)) (take_more lists i c inside)
    ∙ ap joined (map-append (λ (v : Listed). v.packed) front (last ∷ []))
    ∙ flat_map-append (λ (ps : List (ℕ × ℕ)). ps) (packs front) (last.packed ∷ [])
    ∙ ap (λ (ps : List (ℕ × ℕ)). joined (packs front) ++ ps) (append-nil last.packed ∙ ap (λ (v : Listed). v.packed) (sym is))

pub held_more : (P : ℕ × ℕ → Type 0) (lists : List Listed) (i : ℕ) (c : Listed) → i < length lists → c ≡ get_or lists i c
    → All P (joined (packs (take i lists))) → All P c.packed → All P (joined (packs (take (i + 1) lists)))
held_more P lists i c inside is before here =
    subst (All P) (sym (joined_more lists i c inside is)) (All-append P (joined (packs (take i lists))) c.packed before here)

-- ---- one of the lists

left_of : {X : Type 0} (x : X) (xs ys : List X) → Has x xs → Has x (xs ++ ys)
left_of x [] ys m = absurd m
left_of x (y ∷ xs) ys (inl e) = inl e
left_of x (y ∷ xs) ys (inr m) = inr (left_of x xs ys m)

right_of : {X : Type 0} (x : X) (xs ys : List X) → Has x ys → Has x (xs ++ ys)
right_of x [] ys m = m
right_of x (y ∷ xs) ys m = inr (right_of x xs ys m)

in_joined : (p : ℕ × ℕ) (lists : List Listed) (c : Listed) → Has c lists → Has p c.packed → Has p (joined (packs lists))
in_joined p [] c m here = absurd m
in_joined p (d ∷ lists) c (inl e) here = left_of p d.packed (joined (packs lists)) (subst (λ (v : Listed). Has p v.packed) (sym e) here)
in_joined p (d ∷ lists) c (inr m) here = right_of p d.packed (joined (packs lists)) (in_joined p lists c m here)

pub great_in_list : (counter : ℕ) (lists : List Listed) (i : ℕ) (c : Listed) → i < length lists → c ≡ get_or lists i c → HasGreat counter c.packed
    → HasGreat counter (joined (packs lists))
great_in_list counter lists i c inside is has =
    let there : Has c lists = has_contains c lists (i, inside, sym is) in
    record {
      pair = has.pair;
      stands = contains_has has.pair (joined (packs lists)) (in_joined has.pair lists c there (has_contains has.pair c.packed has.stands));
      great = has.great;
    }

-- ---- the pairs that are written

spelled_has : (k : ℕ) (p : ℕ × ℕ) (ps : List (ℕ × ℕ)) → Has p ps → Has (spell k p) (spelled k ps)
spelled_has k p [] m = absurd m
spelled_has k p (q ∷ ps) (inl e) = inl (ap (spell k) e)
spelled_has k p (q ∷ ps) (inr m) = inr (spelled_has k p ps m)

pub great_written : (k counter : ℕ) (lists : List Listed) → HasGreat counter (joined (packs lists)) → HasGreat counter (spelled k (whole lists))
great_written k counter lists has =
    let ps = joined (packs lists) in
    let moved = Contains-permutation ps (in_order ps) has.pair (in_order_moves ps) has.stands in
    record {
      pair = spell k has.pair;
      stands = contains_has (spell k has.pair) (spelled k (whole lists)) (spelled_has k has.pair (whole lists) (has_contains has.pair (whole lists) moved));
      great = has.great;
    }

pub held_written : (l : Layout) (lists : List Listed) → All (λ p. p.1 < 256 ^ l.counter) (joined (packs lists)) → CountsFit l (spelled l.k (whole lists))
held_written l lists held =
    let ps = joined (packs lists) in
    let few : List ℕ × ℕ → Type 0 = λ p. p.1 < 256 ^ l.counter in
    recursion_from_All few (spelled l.k (whole lists))
    (All-map few (spell l.k) (whole lists) (All-permutation (λ p. p.1 < 256 ^ l.counter) ps (in_order ps) (in_order_moves ps) held))
