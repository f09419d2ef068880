-- The first lines of sources.
use Rattle.std.proofs.Common.{◌≡◌, ◌≢◌, ℕ, ◌+◌, ◌<◌, ◌≤◌, ◌^◌, ◌⊎◌, inl, inr, true, false, List, [], ◌∷◌, ◌++◌, length, get_or, map, set, drop, Option, None, refl, sym, ap, subst, ◌∙◌, arith, zero-add}
use Rattle.std.proofs.lemmas.Bool.{cases_eq, cases_lt}
use Rattle.std.proofs.lemmas.List.Sums.{sum_by-cons}
use Rattle.std.proofs.lemmas.List.{length-set, length-map, get_or-set_same, get_or-set_other, get_or-map, map-set}
use Rattle.std.specs.Io.KnownBytes.{IsAtEnd}
use Rattle.kmc_base.specs.Packed.{unpack}
use Rattle.kmc_lists.specs.Line.{text_of}
use Rattle.kmc_sum.specs.Line.{IsLineOf}
use Rattle.kmc_sum.specs.Listed.{IsLength}
use Rattle.kmc_sum.specs.Faults.{GaveFront, IsFaultAt, IsOfOtherLength, IsMalformed, BeginsNoLine}
use Rattle.kmc_sum.specs.Heads.{no_head, head_at, pending}
use Rattle.kmc_sum.specs.Source.{unread, IsRoom, GoesOn, IsEnough}
use Rattle.kmc_sum.specs.Sources.{IsSource, IsFresh, Agrees, AreReady, AreSources, AreOpened, GaveFronts, left_at, list_at, no_lists}
use Rattle.kmc_sum.specs.Sum.{sum_of, listed_count}
use Rattle.kmc_sum.specs.Refusals.{BeginsWith, IsFaultOf, IsFirstLineFault, IsReadBefore}
use Rattle.kmc_device.specs.Device.{HasFailed}
use Rattle.kmc_sum.specs.declared.error.LineFault.{LineFault}
use Rattle.kmc_sum.specs.declared.error.LineFault.TheVariants.{OtherLength}
use Rattle.kmc_sum.specs.declared.error.SourceFault.{SourceFault}
use Rattle.kmc_sum.specs.declared.error.SourceFault.TheVariants.{Line as AtLine, Read}
use Rattle.kmc_sum.specs.declared.line.Line.{Line}
use Rattle.kmc_sum.specs.declared.heads.Head.{Head}
use Rattle.kmc_sum.specs.declared.source.Room.{Room}
use Rattle.kmc_sum.specs.Lemmas.Beginnings.{gave_none, goes_nowhere, list_none}
use Rattle.kmc_sum.specs.Lemmas.Tallies.{rising_none}
use Rattle.kmc_sum.specs.Lemmas.Advances.{source_like, fault_after, left_now}
use Rattle.kmc_sum.specs.Lemmas.Gave.{line_pair, line_splits, listed_first, front_taken, gave_fewer, of_other_length}

module _ (a b : Option (List ℕ)) (before rest : List ℕ) (none : before ≡ []) (goes : GoesOn a b before rest) where
  module _ (l : Line) (is : IsLineOf l rest) where
    pub other_first : (m : ℕ) → l.k ≢ m → IsOfOtherLength m a b 1
    other_first m differ = of_other_length m a b [] rest l (gave_none m a b before rest none goes) is differ

    pub gave_first : (m : ℕ) → l.k ≡ m → GaveFront m a b ((unpack m l.packed, l.count) ∷ []) (drop l.end rest)
    gave_first m same =
        subst (λ n. GaveFront n a b ((unpack n l.packed, l.count) ∷ []) (drop l.end rest)) same
        (front_taken l.k a b [] (unpack l.k l.packed, l.count) rest (drop l.end rest) (gave_none l.k a b before rest none goes).bytes (line_splits l rest is)
        (listed_first l.k l.packed l.count (line_pair l rest is)))

    pub first_live : (m : ℕ) (room : Room) (source : ℕ) → Agrees l.k m → unread room ≡ drop l.end rest → room.lines ≡ 1
        → IsSource m a b room (record { live = true; packed = l.packed; count = l.count; source = source }) []
    first_live m room source agrees left lines = elim agrees [
      | inl zero_is ↦ absurd (omega (arith, zero_is, is.long.0))
      | inr same ↦ record {
        gave = subst (λ (t : List ℕ). GaveFront m a b ((unpack m l.packed, l.count) ∷ []) t) (sym left) (gave_first m same);
        lines = lines;
        fits = λ _. subst (λ n. l.packed < 4 ^ n) same is.fits;
        most = is.most;
        ended = λ e. cc;
      }
    ]

  pub malformed_first : (m : ℕ) → rest ≢ [] → IsEnough rest b → BeginsNoLine rest → IsMalformed m a b 1
  malformed_first m some enough no_line = record {
    pairs = [];
    rest = rest;
    gave = gave_none m a b before rest none goes;
    number = refl;
    some = some;
    enough = enough;
    none = no_line;
  }

  pub first_ended : (m : ℕ) (room : Room) (source : ℕ) → rest ≡ [] → unread room ≡ [] → room.lines ≡ 0 → IsAtEnd b → IsSource m a b room
      (record { live = false; packed = 0; count = 0; source = source }) []
  first_ended m room source empty left lines end = record {
    gave = subst (λ (t : List ℕ). GaveFront m a b [] t) (empty ∙ sym left) (gave_none m a b before rest none goes);
    lines = lines;
    fits = λ e. cc;
    most = omega arith;
    ended = λ _. (left, end);
  }

-- ---- many sources

agrees_before : (k found m : ℕ) → (k ≡ 0) ⊎ (found ≡ k) → Agrees found m → Agrees k m
agrees_before k found m (inl e) agrees = inl e
agrees_before k found m (inr e) agrees = subst (λ n. Agrees n m) e agrees

module _ (k found n i : ℕ) (starts nows : List (Option (List ℕ))) (rooms : List Room) (heads : List Head)
    (before : AreOpened k n i starts nows rooms heads) (inside : i < n) (kept : (k ≡ 0) ⊎ (found ≡ k))
    (now : Option (List ℕ)) (room : Room) (head : Head) (is : IsRoom room) (own : head.source ≡ i) (fits : (m : ℕ) → Agrees found m → head.packed < 4 ^ m)
    (first : (m : ℕ) → Agrees found m → IsSource m (left_at starts i) now room head []) where
  head_new : head_at (set heads (n + i) head) (n + i) ≡ head
  head_new = get_or-set_same heads (n + i) head no_head (omega (arith, before.heads_long))

  head_old : (j : ℕ) → j ≢ i → head_at (set heads (n + i) head) (n + j) ≡ head_at heads (n + j)
  head_old j differ = get_or-set_other heads (n + i) (n + j) head no_head (λ e. differ (omega (arith, e)))

  room_new : (r : Room) → get_or (set rooms i room) i r ≡ room
  room_new r = get_or-set_same rooms i room r (omega (arith, before.rooms_long))

  now_new : left_at (set nows i now) i ≡ now
  now_new = get_or-set_same nows i now None (omega (arith, before.nows_long))

  source_at : (j : ℕ) → j < i + 1 → (j ≡ i) ⊎ (j ≡ i → ⊥) → (head_at (set heads (n + i) head) (n + j)).source ≡ j
  source_at j less (inl e) = ap (λ m. (head_at (set heads (n + i) head) (n + m)).source) e ∙ ap (λ (h : Head). h.source) head_new ∙ own ∙ sym e
  source_at j less (inr differ) = ap (λ (h : Head). h.source) (head_old j differ) ∙ before.source j (omega (arith, differ))

  fits_at : (m j : ℕ) → Agrees found m → j < i + 1 → (j ≡ i) ⊎ (j ≡ i → ⊥) → (head_at (set heads (n + i) head) (n + j)).packed < 4 ^ m
  fits_at m j agrees less (inl e) = subst (λ (h : Head). h.packed < 4 ^ m) (sym (ap (λ x. head_at (set heads (n + i) head) (n + x)) e ∙ head_new))
      (fits m agrees)
  fits_at m j agrees less (inr differ) =
      subst (λ (h : Head). h.packed < 4 ^ m) (sym (head_old j differ)) (before.fits m j (agrees_before k found m kept agrees) (omega (arith, differ)))

  opened_at : (m j : ℕ) (r : Room) → Agrees found m → j < i + 1 → (j ≡ i) ⊎ (j ≡ i → ⊥)
      → IsRoom (get_or (set rooms i room) j r) × IsSource m (left_at starts j) (left_at (set nows i now) j) (get_or (set rooms i room) j r)
      (head_at (set heads (n + i) head) (n + j)) []
  opened_at m j r agrees less (inl e) =
      let here : get_or (set rooms i room) j r ≡ room = ap (λ x. get_or (set rooms i room) x r) e ∙ room_new r in (
        subst IsRoom (sym here) is,
        subst (λ x. IsSource m (left_at starts x) (left_at (set nows i now) j) (get_or (set rooms i room) j r)
            (head_at (set heads (n + i) head) (n + j)) []) (sym e)
            (source_like m (left_at starts i) now _ room _ head _ [] [] (sym (ap (λ x. left_at (set nows i now) x) e ∙ now_new)) (sym here)
            (sym (ap (λ x. head_at (set heads (n + i) head) (n + x)) e ∙ head_new)) refl (first m agrees)),
      )
  opened_at m j r agrees less (inr differ) =
      let old = before.opened m j r (agrees_before k found m kept agrees) (omega (arith, differ)) in (
        subst IsRoom (sym (get_or-set_other rooms i j room r differ)) old.0,
        source_like m (left_at starts j) _ _ _ _ _ _ [] [] (sym (get_or-set_other nows i j now None differ))
            (sym (get_or-set_other rooms i j room r differ)) (sym (head_old j differ)) refl old.1,
      )

  pub opened_next : AreOpened found n (i + 1) starts (set nows i now) (set rooms i room) (set heads (n + i) head)
  opened_next = record {
    starts_long = before.starts_long;
    nows_long = length-set nows i now ∙ before.nows_long;
    rooms_long = length-set rooms i room ∙ before.rooms_long;
    heads_long = length-set heads (n + i) head ∙ before.heads_long;
    source = λ j less. source_at j less (cases_eq j i);
    fits = λ m j agrees less. fits_at m j agrees less (cases_eq j i);
    opened = λ m j r agrees less. opened_at m j r agrees less (cases_eq j i);
    fresh = λ j r low high.
        let differ : j ≢ i = λ e. omega (arith, e) in
        let old = before.fresh j r (omega arith) high in
        (subst IsFresh (sym (get_or-set_other rooms i j room r differ)) old.0, get_or-set_other nows i j now None differ ∙ old.1);
  }

pub none_sum : (starts : List (Option (List ℕ))) (x : List ℕ) → sum_of (no_lists starts) x ≡ 0
none_sum [] x = refl
none_sum (a ∷ starts) x = sum_by-cons (λ (pairs : List (List ℕ × ℕ)). listed_count pairs x) [] (no_lists starts) ∙ zero-add
    (sum_of (no_lists starts) x) ∙ none_sum starts x

-- all are opened
module _ (k m n : ℕ) (starts nows : List (Option (List ℕ))) (rooms : List Room) (heads : List Head) (i : ℕ) (end : i ≡ n)
    (are : AreOpened k n i starts nows rooms heads) (agrees : Agrees k m) where
  pub all_ready : AreReady m n rooms heads
  all_ready = record {
    rooms_long = are.rooms_long;
    heads_long = are.heads_long;
    rooms_are = λ j r inside. (are.opened m j r agrees (omega arith)).0;
    source = λ j inside. are.source j (omega arith);
    fits = λ j inside. are.fits m j agrees (omega arith);
  }

  pub all_sources : AreSources m starts nows rooms heads (no_lists starts)
  all_sources = record {
    nows_long = are.nows_long ∙ sym are.starts_long;
    lists_long = length-map starts (λ _. []);
    each = λ j r inside.
        source_like m (left_at starts j) _ _ _ _ _ _ [] _ refl refl (ap (λ x. head_at heads (x + j)) (sym are.starts_long))
        (sym (list_none starts j inside)) (are.opened m j r agrees (omega (arith, inside, are.starts_long))).1;
  }

at_any : (k m : ℕ) (a b : Option (List ℕ)) (rest : List ℕ) → GaveFront k a b [] rest → GaveFront m a b [] rest
at_any k m a b rest h = record { listed = record { each = tt; rising = rising_none }; bytes = h.bytes }

-- one of them is at fault, or its reader failed
pub opened_lost : (k m n i : ℕ) (starts nows : List (Option (List ℕ))) (rooms : List Room) (heads : List Head) (now : Option (List ℕ)) (room : Room)
    → AreOpened k n i starts nows rooms heads → i < n
    → ((rest : List ℕ) × GaveFront m (left_at starts i) now [] rest) → GaveFronts m starts (set nows i now) (no_lists starts)
opened_lost k m n i starts nows rooms heads now room are inside lost = record {
  lists_long = length-map starts (λ _. []);
  each = λ j within. at j within (cases_eq j i) (cases_lt j i);
}
  where
    like : (j : ℕ) → j < length starts → (x : Option (List ℕ)) (rest : List ℕ) → left_at (set nows i now) j ≡ x → GaveFront m (left_at starts j) x [] rest
        → GaveFront m (left_at starts j) (left_at (set nows i now) j) (list_at (no_lists starts) j) rest
    like j within x rest e h =
        subst (λ (t : List (List ℕ × ℕ)). GaveFront m (left_at starts j) (left_at (set nows i now) j) t rest) (sym (list_none starts j within))
        (subst (λ y. GaveFront m (left_at starts j) y [] rest) (sym e) h)

    at : (j : ℕ) → j < length starts → (j ≡ i) ⊎ (j ≡ i → ⊥) → (j < i) ⊎ (i ≤ j) → (rest : List ℕ) × GaveFront m (left_at starts j)
        (left_at (set nows i now) j) (list_at (no_lists starts) j) rest
    at j within (inl e) order = (
      lost.0,
      like j within now lost.0 (ap (λ x. left_at (set nows i now) x) e ∙ get_or-set_same nows i now None (omega (arith, are.nows_long)))
          (subst (λ x. GaveFront m (left_at starts x) now [] lost.0) (sym e) lost.1),
    )
    at j within (inr differ) (inl below) =
        let source = (are.opened k j room (inr refl) below).1 in
        let fewer = gave_fewer k (left_at starts j) (left_at nows j) [] (pending k (head_at heads (n + j))) (unread (get_or rooms j room)) source.gave in
        let rest = text_of (pending k (head_at heads (n + j))) ++ unread (get_or rooms j room) in
        (rest, like j within (left_at nows j) rest (get_or-set_other nows i j now None differ) (at_any k m (left_at starts j) (left_at nows j) rest fewer))
    at j within (inr differ) (inr above) =
        let same = (are.fresh j room above (omega (arith, within, are.starts_long))).1 in (
          [],
          like j within (left_at starts j) [] (get_or-set_other nows i j now None differ ∙ same)
              (gave_none m (left_at starts j) (left_at starts j) [] [] refl (goes_nowhere (left_at starts j) [] [] refl)),
        )

-- one of the sources before this one begins with a word of k letters
pub record HasBegun (k i : ℕ) (starts nows : List (Option (List ℕ))) : Type 0 where
  pub first : ℕ
  pub before : first < i
  pub begins : BeginsWith k (left_at starts first) (left_at nows first)

-- one of the readers is at its first line
module _ {T : Type 0} (left : T → Option (List ℕ)) (readers : List T) (reader next : T) (k n i : ℕ) (starts : List (Option (List ℕ)))
    (rooms : List Room) (heads : List Head) (before : AreOpened k n i starts (map left readers) rooms heads)
    (room : Room) (inside : i < n) where
  here : i < length readers
  here = omega (arith, inside, before.nows_long, length-map readers left)

  start : left (get_or readers i reader) ≡ left_at starts i
  start = sym (get_or-map left readers i reader None here) ∙ (before.fresh i room (omega arith) inside).1

  pub reader_opened : (found : ℕ) (now : Room) (head : Head) → (k ≡ 0) ⊎ (found ≡ k) → IsRoom now → head.source ≡ i
      → ((m : ℕ) → Agrees found m → head.packed < 4 ^ m)
      → ((m : ℕ) → Agrees found m → IsSource m (left (get_or readers i reader)) (left next) now head [])
      → AreOpened found n (i + 1) starts (map left (set readers i next)) (set rooms i now) (set heads (n + i) head)
  reader_opened found now head kept is own fits first =
      subst (λ nows. AreOpened found n (i + 1) starts nows (set rooms i now) (set heads (n + i) head)) (sym (map-set left readers i next))
      (opened_next k found n i starts (map left readers) rooms heads before inside kept (left next) now head is own fits
      (λ m agrees. subst (λ a. IsSource m a (left next) now head []) start (first m agrees)))

  begins_still : (m j : ℕ) → j < i → BeginsWith m (left_at starts j) (left_at (map left readers) j) → BeginsWith m (left_at starts j)
      (left_at (map left (set readers i next)) j)
  begins_still m j below h =
      let differ : j ≢ i = λ e. omega (arith, e, below) in
      subst (λ x. BeginsWith m (left_at starts j) x) (sym (ap (λ l. left_at l j) (map-set left readers i next) ∙ get_or-set_other
      (map left readers) i j (left next) None differ)) h

  -- the sources before this one and this one begin so
  pub begun_next : (found : ℕ) → (found ≡ k) ⊎ BeginsWith found (left (get_or readers i reader)) (left next)
      → (1 ≤ k → HasBegun k i starts (map left readers)) → 1 ≤ found
      → HasBegun found (i + 1) starts (map left (set readers i next))
  begun_next found (inl same) old some =
      let w = old (omega (arith, same, some)) in
      subst (λ n. HasBegun n (i + 1) starts (map left (set readers i next))) (sym same)
      (record { first = w.first; before = omega (arith, w.before); begins = begins_still k w.first w.before w.begins })
  begun_next found (inr new) old some = record {
    first = i;
    before = omega arith;
    begins = subst (λ x. BeginsWith found (left_at starts i) x) (sym (left_now left readers i next here))
        (subst (λ a. BeginsWith found a (left next)) start new);
  }

  pub read_before : (m line : ℕ) → m ≡ k → 1 ≤ m → (1 ≤ k → HasBegun k i starts (map left readers)) → IsReadBefore m starts
      (map left (set readers i next)) i line
  read_before m line same some old =
      let w = old (omega (arith, same, some)) in
      subst (λ n. IsReadBefore n starts (map left (set readers i next)) i line) (sym same)
      (record { first = w.first; before = inl w.before; begins = begins_still k w.first w.before w.begins })

  pub reader_at_fault : (m source line : ℕ) (fault : LineFault) → source ≡ i
      → (fault ≡ OtherLength → IsReadBefore m starts (map left (set readers i next)) i line) → IsFaultAt m (left (get_or readers i reader))
      (left next) line fault → IsFirstLineFault m starts (map left (set readers i next)) source line fault
  reader_at_fault m source line fault is read h =
      fault_after left readers i next m starts source line fault here (omega (arith, inside, before.starts_long)) is read
      (subst (λ a. IsFaultAt m a (left next) line fault) start h)

  -- the reader of this source is at fault
  pub fault_opened : (olds news : List ℕ) (source : ℕ) (fault : SourceFault) → source ≡ i
      → ((line : ℕ) (f : LineFault) → fault ≡ AtLine line f → (m : ℕ) × IsLength m × IsFaultAt m (left (get_or readers i reader)) (left next) line f
      × (f ≡ OtherLength → m ≡ k)) → (1 ≤ k → HasBegun k i starts (map left readers)) → (fault ≡ Read → HasFailed source olds news)
      → (m : ℕ) × IsLength m × IsFaultOf m starts (map left (set readers i next)) olds news source fault
  fault_opened olds news source Read is first begun read = (1, (omega arith, omega arith), read refl)
  fault_opened olds news source (AtLine line f) is first begun read =
      let h = first line f refl in
      (h.0, h.1, reader_at_fault h.0 source line f is (λ other. read_before h.0 line (h.3 other) h.1.0 begun) h.2)

  pub reader_lost : (m : ℕ) → ((rest : List ℕ) × GaveFront m (left (get_or readers i reader)) (left next) [] rest) → GaveFronts m starts
      (map left (set readers i next)) (no_lists starts)
  reader_lost m lost =
      subst (λ nows. GaveFronts m starts nows (no_lists starts)) (sym (map-set left readers i next))
      (opened_lost k m n i starts (map left readers) rooms heads (left next) room before inside
      (lost.0, subst (λ a. GaveFront m a (left next) [] lost.0) start lost.1))
