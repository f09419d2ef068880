-- Bins that take in the bins of one more storer.
use Rattle.std.proofs.Common.{◌≡◌, ◌<◌, List, [], ◌∷◌, ◌++◌, length, map, refl, sym, ap, subst, ◌∙◌, append-nil, arith}
use Rattle.std.specs.List.{flat_map}
use Rattle.std.proofs.lemmas.List.{map-append, flat_map_more, get_or-replicate}
use Rattle.kmc_record.specs.Parts.{Parcel}
use Rattle.kmc_partqueue.specs.Seats.{ReaderState}
use Rattle.kmc_store.specs.Bins.{BinList, body_at, empty_bins, Merged}
use Rattle.kmc_store.specs.Bodies.{parts_in, AreAdded}
use Rattle.kmc_store.specs.Laws.{MergedPartsAreAdded}
use Rattle.kmc_partqueue.specs.SameSeats.{items_of}
use Rattle.kmc_stage_one.specs.Shards.{all_got, begun, AreGrown}
use Rattle.kmc_stage_one.specs.declared.shard.Shard.{Shard}

-- what the bins of some storers were before, all together
abbrev pub before_all : {A : Type 0} → List A → BinList → BinList
before_all [] bins = empty_bins bins.shape
before_all (x ∷ xs) bins = bins

-- and what those of the next are
abbrev pub before_next : {A : Type 0} → List A → BinList → BinList
before_next [] bins = bins
before_next (x ∷ xs) bins = empty_bins bins.shape

pub all_before : {A : Type 0} (xs : List A) (bins : BinList) → 0 < length xs → before_all xs bins ≡ bins
all_before [] bins some = absurd (omega arith)
all_before (x ∷ xs) bins some = refl

pub next_shape : {A : Type 0} (xs : List A) (bins : BinList) → (before_next xs bins).shape ≡ bins.shape
next_shape [] bins = refl
next_shape (x ∷ xs) bins = refl

-- one more seat
pub begun_more : (bins : BinList) (seats : List (ReaderState Parcel)) (s : ReaderState Parcel)
    → begun bins (seats ++ s ∷ []) ≡ begun bins seats ++ record { seat = s; bins = before_next seats bins } ∷ []
begun_more bins [] s = refl
begun_more bins (t ∷ seats) s =
    ap (λ (l : List Shard). record { seat = t; bins = bins } ∷ l) (map-append
    (λ (r : ReaderState Parcel). record { seat = r; bins = empty_bins bins.shape }) seats (s ∷ []))

pub next_more : {A : Type 0} (xs : List A) (x : A) (bins : BinList) → before_next (xs ++ x ∷ []) bins ≡ empty_bins bins.shape
next_more [] x bins = refl
next_more (y ∷ xs) x bins = refl

-- what is known of the storers that are left
pub grown_rest : (seen left : List Shard) (bins : BinList) → AreGrown bins (seen ++ left) → AreGrown (before_next seen bins) left
grown_rest [] left bins g = g
grown_rest (h ∷ []) left bins g = g.2
grown_rest (h ∷ (k ∷ seen)) left bins g = grown_rest (k ∷ seen) left (empty_bins bins.shape) g.2

-- bins to which some seats' parts were added, merged with those of one more storer
pub one_more : MergedPartsAreAdded → (seen : List Shard) (h : Shard) (bins old new : BinList)
    → AreAdded bins.shape (before_all seen bins).bodies old.bodies (all_got (map (λ (s : Shard). s.seat) seen))
    → AreAdded bins.shape (before_next seen bins).bodies h.bins.bodies (items_of h.seat.got) → Merged old h.bins new
    → AreAdded bins.shape bins.bodies new.bodies (all_got (map (λ (s : Shard). s.seat) (seen ++ h ∷ [])))
one_more law [] h bins old new before own merged = record {
  wide = merged.wide ∙ before.wide;
  each = λ i l.
      let none : body_at old.bodies i ≡ [] = before.each i l ∙ append-nil (body_at (empty_bins bins.shape).bodies i)
      ∙ get_or-replicate bins.shape.n i [] [] l in
      merged.bodies i (omega (arith, before.wide)) ∙ ap (λ t. t ++ body_at h.bins.bodies i) none ∙ own.each i l
      ∙ ap (λ (p : List Parcel). body_at bins.bodies i ++ flat_map (λ q. q.body) (parts_in i p)) (sym (append-nil (items_of h.seat.got)));
}
one_more law (g ∷ seen) h bins old new before own merged =
    subst (AreAdded bins.shape bins.bodies new.bodies)
    (flat_map_more (λ (s : ReaderState Parcel). items_of s.got) [] (map (λ (s : Shard). s.seat) (g ∷ seen)) h.seat ∙ ap all_got
    (sym (map-append (λ (s : Shard). s.seat) (g ∷ seen) (h ∷ []))))
    (law bins.shape bins.bodies old h.bins new (all_got (map (λ (s : Shard). s.seat) (g ∷ seen))) (items_of h.seat.got) before own merged)
