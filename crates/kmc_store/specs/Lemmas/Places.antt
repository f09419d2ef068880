-- Vectors of bytes, changed in one place.
use Rattle.std.proofs.Common.{◌≡◌, ℕ, ◌+◌, ◌<◌, ◌≤◌, List, [], ◌++◌, Vec, Global, length, map, get_or, set, sym, ap, subst, ◌∙◌, arith}
use Rattle.std.proofs.lemmas.List.{map-set, get_or-map, length-map, get_or-set_same, get_or-set_other, get_or_read}
use Rattle.std.proofs.Math.Seq.{map-set_same}
use mathlib.Core.Logic.{dite}
use native.Mathlib.Decide.{ℕ_discrete}
use Rattle.kmc_store.specs.Bins.{body_at}
use Rattle.kmc_store.specs.Growing.{HasRoomForBodies}

abbrev pub Bytes : Type 0
Bytes = Vec ℕ Global

abbrev pub bytes_of : Bytes → List ℕ
bytes_of v = v.items

pub body_is : (vs : List Bytes) (i : ℕ) (x : Bytes) → i < length vs → x ≡ get_or vs i x → body_at (map bytes_of vs) i ≡ x.items
body_is vs i x inside is = get_or-map bytes_of vs i x [] inside ∙ ap bytes_of (sym is)

-- the same bytes in another vector
pub set_keeps : (vs : List Bytes) (i : ℕ) (x v : Bytes) → x ≡ get_or vs i x → v.items ≡ x.items → map bytes_of (set vs i v) ≡ map bytes_of vs
set_keeps vs i x v is same = map-set_same bytes_of vs i v x (same ∙ ap bytes_of is)

-- a fact of each place below i, and of what is written at i
pub each_more : {A : Type 0} (P : ℕ → A → Type 0) (xs : List A) (i : ℕ) (v d : A) → i < length xs → ((k : ℕ) → k < i → P k (get_or xs k d)) → P i v
    → (k : ℕ) → k < i + 1 → P k (get_or (set xs i v) k d)
each_more P xs i v d inside below here k l = dite (ℕ_discrete k i)
    (λ e. subst (P k) (sym (ap (λ j. get_or (set xs i v) j d) e ∙ get_or-set_same xs i v d inside)) (subst (λ j. P j v) (sym e) here))
    (λ ne. subst (P k) (sym (get_or-set_other xs i k v d ne)) (below k (omega arith)))

-- what stands behind place i is as it was
pub left_more : {A : Type 0} (xs ys : List A) (i : ℕ) (v : A) → ((k : ℕ) (d : A) → i ≤ k → get_or xs k d ≡ get_or ys k d) → (k : ℕ) (d : A)
    → i + 1 ≤ k → get_or (set xs i v) k d ≡ get_or ys k d
left_more xs ys i v left k d l = get_or-set_other xs i k v d (omega arith) ∙ left k d (omega arith)

pub room_more : (own more : List Bytes) (i : ℕ) (v w : Bytes) (size : ℕ) → i < length own → i < length more → w ≡ get_or more i w → size
    ≡ length w.items → HasRoomForBodies v size
    → ((k : ℕ) (a b : Bytes) → k < i → HasRoomForBodies (get_or own k a) (length (get_or more k b).items))
    → (k : ℕ) (a b : Bytes) → k < i + 1 → HasRoomForBodies
    (get_or (set own i v) k a) (length (get_or more k b).items)
room_more own more i v w size inside inside_more is long here below k a b l =
    each_more (λ j x. HasRoomForBodies x (length (get_or more j b).items)) own i v a inside (λ j lj. below j a b lj)
    (subst (HasRoomForBodies v) (long ∙ ap (λ (z : Bytes). length z.items) (get_or_read more i w inside_more is b)) here) k l

-- the body at place i has grown by the other's
pub appended_more : (own more own₀ more₀ : List Bytes) (i : ℕ) (x y v : Bytes) → i < length own → i < length own₀ → i < length more₀ → x
    ≡ get_or own i x → y ≡ get_or more i y
    → v.items ≡ x.items ++ y.items → ((k : ℕ) (d : Bytes) → i ≤ k → get_or own k d ≡ get_or own₀ k d)
    → ((k : ℕ) (d : Bytes) → i ≤ k → get_or more k d ≡ get_or more₀ k d)
    → ((k : ℕ) → k < i → body_at (map bytes_of own) k ≡ body_at (map bytes_of own₀) k ++ body_at (map bytes_of more₀) k)
    → (k : ℕ) → k < i + 1 → body_at (map bytes_of (set own i v)) k ≡ body_at (map bytes_of own₀) k ++ body_at (map bytes_of more₀) k
appended_more own more own₀ more₀ i x y v inside inside₀ inside_more own_is more_is grown left left_others done k l =
    let here : body_at (map bytes_of own₀) i ≡ x.items = body_is own₀ i x inside₀ (own_is ∙ left i x (omega arith)) in
    let other : body_at (map bytes_of more₀) i ≡ y.items = body_is more₀ i y inside_more (more_is ∙ left_others i y (omega arith)) in
    ap (λ (bs : List (List ℕ)). get_or bs k []) (map-set bytes_of own i v)
    ∙ each_more (λ j b. b ≡ body_at (map bytes_of own₀) j ++ body_at (map bytes_of more₀) j) (map bytes_of own) i v.items []
    (omega (arith, length-map own bytes_of)) done
    (grown ∙ sym (λ j. here j ++ other j)) k l

-- the bodies have grown, whose vectors had got more room before
pub grown_with_room : (vs roomy more new : List Bytes) → map bytes_of roomy ≡ map bytes_of vs → length new ≡ length roomy
    → ((i : ℕ) → i < length roomy → body_at (map bytes_of new) i ≡ body_at (map bytes_of roomy) i ++ body_at (map bytes_of more) i)
    → (length new ≡ length vs) × ((i : ℕ) → i < length vs → body_at (map bytes_of new) i ≡ body_at (map bytes_of vs) i ++ body_at (map bytes_of more) i)
grown_with_room vs roomy more new kept wide each =
    let long : length roomy ≡ length vs = sym (length-map roomy bytes_of) ∙ ap length kept ∙ length-map vs bytes_of in
    (wide ∙ long, λ i l. each i (omega (arith, long)) ∙ ap (λ (bs : List (List ℕ)). body_at bs i ++ body_at (map bytes_of more) i) kept)
