-- One line more of the source whose head is first.
use Rattle.std.proofs.Common.{◌≡◌, ◌≢◌, ℕ, ◌+◌, ◌*◌, ◌-◌, ◌/◌, ◌<◌, ◌≤◌, ◌^◌, ◌⊎◌, inl, inr, List, [], ◌++◌, length, get_or, set, map, Option, None, refl, sym, ap, subst, ◌∙◌, arith}
use Rattle.std.proofs.lemmas.Bool.{cases_eq}
use Rattle.std.proofs.lemmas.List.{get_or-set_other, get_or-set_same, length-set, length-map, get_or-map, map-set}
use Rattle.std.proofs.Math.Seq.{map-set_same}
use Rattle.kmc_sum.specs.Refusals.{BeginsWith, IsFirstLineFault, IsReadBefore}
use Rattle.kmc_sum.specs.declared.heads.Head.{Head}
use Rattle.kmc_sum.specs.declared.source.Room.{Room}
use Rattle.kmc_sum.specs.Heads.{rank, no_head, head_at, pending, IsWinner, IsTree}
use Rattle.kmc_sum.specs.Source.{unread, IsRoom}
use Rattle.kmc_lists.specs.Line.{text_of}
use Rattle.kmc_device.specs.Device.{Watched, RisesByOne, HasFailed}
use Rattle.kmc_sum.specs.Faults.{GaveFront, IsFaultAt}
use Rattle.kmc_sum.specs.declared.error.LineFault.{LineFault}
use Rattle.kmc_sum.specs.declared.error.LineFault.TheVariants.{OtherLength}
use Rattle.kmc_sum.specs.Sources.{IsSource, AreReady, AreSources, GaveFronts, failures_of, left_at, list_at, with_first}
use Rattle.kmc_sum.specs.Lemmas.Gave.{gave_fewer, begins_other}
use Rattle.kmc_sum.specs.Lemmas.Trees.{same_winner, least, leaf}

pub source_like : (k : ℕ) (start a b : Option (List ℕ)) (r s : Room) (h g : Head) (t u : List (List ℕ × ℕ)) → a ≡ b → r ≡ s → h ≡ g → t ≡ u
    → IsSource k start a r h t → IsSource k start b s g u
source_like k start a b r s h g t u ea er eh et source =
    subst (λ x. IsSource k start x s g u) ea (subst (λ x. IsSource k start a x g u) er
    (subst (λ x. IsSource k start a r x u) eh (subst (λ x. IsSource k start a r h x) et source)))

module _ (k n : ℕ) (rooms : List Room) (heads : List Head) (ready : AreReady k n rooms heads) (tree : IsTree heads) (some : 1 ≤ n) where
  abbrev first : ℕ
  first = (head_at heads 1).source

  first_is : (i : ℕ) × (i < n) × (head_at heads 1 ≡ head_at heads (n + i))
  first_is =
      let m = leaf heads n ready.heads_long tree (omega (arith, ready.heads_long)) in
      let here : n + (m.0 - n) ≡ m.0 = omega (arith, m.1, ready.heads_long) in
      (m.0 - n, omega (arith, m.1, m.2, ready.heads_long), m.3 ∙ ap (head_at heads) (sym here))

  first_source : first ≡ first_is.0
  first_source = ap (λ (h : Head). h.source) first_is.2 ∙ ready.source first_is.0 first_is.1

  pub first_inside : first < n
  first_inside = omega (arith, first_source, first_is.1)

  pub first_leaf : head_at heads (n + first) ≡ head_at heads 1
  first_leaf = ap (λ i. head_at heads (n + i)) first_source ∙ sym first_is.2

  pub first_fits : (head_at heads 1).packed < 4 ^ k
  first_fits = subst (λ (h : Head). h.packed < 4 ^ k) first_leaf (ready.fits first first_inside)

  pub first_least : (i : ℕ) → n ≤ i → i < 2 * n → rank (head_at heads 1) ≤ rank (head_at heads i)
  first_least i low high = least heads n ready.heads_long tree i (omega arith) (omega (arith, ready.heads_long))

  pub source_first : (starts nows : List (Option (List ℕ))) (lists : List (List (List ℕ × ℕ))) (now : Option (List ℕ)) (room found : Room) → n
      ≡ length nows → AreSources k starts nows rooms heads lists
      → left_at nows first ≡ now → get_or rooms first room ≡ found → IsSource k (left_at starts first) now found (head_at heads 1) (list_at lists first)
  source_first starts nows lists now room found count are left here =
      let many : length starts ≡ n = sym (count ∙ are.nows_long) in
      source_like k (left_at starts first) _ _ _ _ _ _ _ _ left here (ap (λ m. head_at heads (m + first)) many ∙ first_leaf) refl
      (are.each first room (omega (arith, many, first_inside)))

  module _ (head : Head) where
    abbrev after : List Head
    after = set heads (n + first) head

    after_other : (j : ℕ) → j ≢ n + first → head_at after j ≡ head_at heads j
    after_other j differ = get_or-set_other heads (n + first) j head no_head differ

    pub inside_after : 2 * ((n + first) / 2) + 1 < length after
    inside_after = omega (arith, length-set heads (n + first) head, ready.heads_long, first_inside)

    pub settled_after : (j : ℕ) → j ≢ (n + first) / 2 → 1 ≤ j → 2 * j + 1 < length after → IsWinner after j
    settled_after j differ low high =
        let long : length after ≡ 2 * n = length-set heads (n + first) head ∙ ready.heads_long in
        same_winner heads after j (after_other j (λ e. omega (arith, e, long))) (after_other (2 * j) (λ e. differ (omega (arith, e))))
        (after_other (2 * j + 1) (λ e. differ (omega (arith, e))))
        (tree j low (omega (arith, high, long, ready.heads_long)))

    module _ (mended : List Head) (long : length mended ≡ length after) (leaves : (j : ℕ) → length after ≤ 2 * j → head_at mended j ≡ head_at after j) where
      size : length after ≡ 2 * n
      size = length-set heads (n + first) head ∙ ready.heads_long

      leaf_new : head_at mended (n + first) ≡ head
      leaf_new = leaves (n + first) (omega (arith, size)) ∙ get_or-set_same heads (n + first) head no_head (omega (arith, ready.heads_long, first_inside))

      leaf_other : (i : ℕ) → i ≢ first → head_at mended (n + i) ≡ head_at heads (n + i)
      leaf_other i differ = leaves (n + i) (omega (arith, size)) ∙ after_other (n + i) (λ e. differ (omega (arith, e)))

      pub ready_after : (room : Room) → IsRoom room → head.source ≡ first → head.packed < 4 ^ k → AreReady k n (set rooms first room) mended
      ready_after room is own fits = record {
        rooms_long = length-set rooms first room ∙ ready.rooms_long;
        heads_long = long ∙ size;
        rooms_are = λ i r inside. room_at i r inside (cases_eq i first);
        source = λ i inside. source_at i inside (cases_eq i first);
        fits = λ i inside. fits_at i inside (cases_eq i first);
      }
        where
          room_at : (i : ℕ) (r : Room) → i < n → (i ≡ first) ⊎ (i ≡ first → ⊥) → IsRoom (get_or (set rooms first room) i r)
          room_at i r inside (inl e) =
              subst IsRoom (sym (ap (λ j. get_or (set rooms first room) j r) e ∙ get_or-set_same rooms first room r
              (omega (arith, ready.rooms_long, first_inside)))) is
          room_at i r inside (inr differ) = subst IsRoom (sym (get_or-set_other rooms first i room r differ)) (ready.rooms_are i r inside)

          fits_at : (i : ℕ) → i < n → (i ≡ first) ⊎ (i ≡ first → ⊥) → (head_at mended (n + i)).packed < 4 ^ k
          fits_at i inside (inl e) = subst (λ (h : Head). h.packed < 4 ^ k) (sym (ap (λ j. head_at mended (n + j)) e ∙ leaf_new)) fits
          fits_at i inside (inr differ) = subst (λ (h : Head). h.packed < 4 ^ k) (sym (leaf_other i differ)) (ready.fits i inside)

          source_at : (i : ℕ) → i < n → (i ≡ first) ⊎ (i ≡ first → ⊥) → (head_at mended (n + i)).source ≡ i
          source_at i inside (inl e) = ap (λ j. (head_at mended (n + j)).source) e ∙ ap (λ (h : Head). h.source) leaf_new ∙ own ∙ sym e
          source_at i inside (inr differ) = ap (λ (h : Head). h.source) (leaf_other i differ) ∙ ready.source i inside

      pub behind_after : (packed : ℕ) → packed ≤ rank head → packed ≤ rank (head_at heads 1) → (j : ℕ) → n ≤ j → j < 2 * n → packed ≤ rank (head_at mended j)
      behind_after packed new old j low high = at (cases_eq j (n + first))
        where
          at : (j ≡ n + first) ⊎ (j ≡ n + first → ⊥) → packed ≤ rank (head_at mended j)
          at (inl e) = omega (arith, new, ap rank (ap (head_at mended) e ∙ leaf_new))
          at (inr differ) = omega (arith, old, first_least j low high, ap rank (leaves j (omega (arith, size)) ∙ after_other j differ))

      pub sources_after : (starts nows : List (Option (List ℕ))) (lists : List (List (List ℕ × ℕ))) (now : Option (List ℕ)) (room : Room) → n
          ≡ length nows → AreSources k starts nows rooms heads lists
          → IsSource k (left_at starts first) now room head (list_at lists first ++ pending k (head_at heads 1))
          → AreSources k starts (set nows first now) (set rooms first room) mended (with_first k heads lists)
      sources_after starts nows lists now room count are new = record {
        nows_long = length-set nows first now ∙ are.nows_long;
        lists_long = length-set lists first _ ∙ are.lists_long;
        each = λ i r inside. at i r inside (cases_eq i first);
      }
        where
          many : length starts ≡ n
          many = sym (count ∙ are.nows_long)

          more : List (List ℕ × ℕ)
          more = list_at lists first ++ pending k (head_at heads 1)

          at : (i : ℕ) (r : Room) → i < length starts → (i ≡ first) ⊎ (i ≡ first → ⊥)
              → IsSource k (left_at starts i) (left_at (set nows first now) i) (get_or (set rooms first room) i r)
              (head_at mended (length starts + i)) (list_at (with_first k heads lists) i)
          at i r inside (inl e) =
              let place : head_at mended (length starts + i) ≡ head = (λ j. head_at mended (many j + e j)) ∙ leaf_new in
              subst (λ j. IsSource k (left_at starts j) (left_at (set nows first now) i) (get_or (set rooms first room) i r)
              (head_at mended (length starts + i)) (list_at (with_first k heads lists) i)) (sym e)
              (source_like k (left_at starts first) _ _ _ _ _ _ _ _ (sym
              (ap (λ j. left_at (set nows first now) j) e ∙ get_or-set_same nows first now None (omega (arith, count, first_inside))))
              (sym (ap (λ j. get_or (set rooms first room) j r) e ∙ get_or-set_same rooms first room r
              (omega (arith, ready.rooms_long, first_inside)))) (sym place)
              (sym (ap (λ j. list_at (set lists first more) j) e ∙ get_or-set_same lists first more []
              (omega (arith, are.lists_long, many, first_inside)))) new)
          at i r inside (inr differ) =
              let place : head_at mended (length starts + i) ≡ head_at heads (length starts + i) = ap (λ m. head_at mended (m + i)) many
              ∙ leaf_other i differ ∙ sym (ap (λ m. head_at heads (m + i)) many) in
              source_like k (left_at starts i) _ _ _ _ _ _ _ _ (sym (get_or-set_other nows first i now None differ))
              (sym (get_or-set_other rooms first i room r differ)) (sym place)
              (sym (get_or-set_other lists first i more [] differ)) (are.each i r inside)

pub lost_after : (k n s : ℕ) (starts nows : List (Option (List ℕ))) (rooms : List Room) (heads : List Head) (lists : List (List (List ℕ × ℕ)))
    (now : Option (List ℕ)) → AreSources k starts nows rooms heads lists
    → s < length starts → ((rest : List ℕ) × GaveFront k (left_at starts s) now (list_at lists s) rest) → ((i : ℕ) → i < length starts → Room)
    → GaveFronts k starts (set nows s now) lists
lost_after k n s starts nows rooms heads lists now are inside lost room = record {
  lists_long = are.lists_long;
  each = λ i within. at i within (cases_eq i s);
}
  where
    at : (i : ℕ) → i < length starts → (i ≡ s) ⊎ (i ≡ s → ⊥) → (rest : List ℕ) × GaveFront k (left_at starts i) (left_at (set nows s now) i)
        (list_at lists i) rest
    at i within (inl e) = (
      lost.0,
      subst (λ j. GaveFront k (left_at starts j) (left_at (set nows s now) i) (list_at lists j) lost.0) (sym e)
          (subst (λ x. GaveFront k (left_at starts s) x (list_at lists s) lost.0)
          (sym (ap (λ j. left_at (set nows s now) j) e ∙ get_or-set_same nows s now None (omega (arith, inside, are.nows_long)))) lost.1),
    )
    at i within (inr differ) =
        let source = are.each i (room i within) within in
        let head = head_at heads (length starts + i) in
        let fewer = gave_fewer k (left_at starts i) (left_at nows i) (list_at lists i) (pending k head)
        (unread (get_or rooms i (room i within))) source.gave in (
          text_of (pending k head) ++ unread (get_or rooms i (room i within)),
          subst (λ x. GaveFront k (left_at starts i) x (list_at lists i) (text_of (pending k head) ++ unread (get_or rooms i (room i within))))
              (sym (get_or-set_other nows s i now None differ)) fewer,
        )

-- what the reader that went on has left
pub left_now : {T : Type 0} (left : T → Option (List ℕ)) (readers : List T) (s : ℕ) (reader : T) → s < length readers → left_at
    (map left (set readers s reader)) s ≡ left reader
left_now left readers s reader inside =
    get_or-map left (set readers s reader) s reader None (omega (arith, inside, length-set readers s reader)) ∙ ap left
    (get_or-set_same readers s reader reader inside)

-- one of the readers went on, and its source is at fault
pub fault_after : {T : Type 0} (left : T → Option (List ℕ)) (readers : List T) (s : ℕ) (reader : T) (k : ℕ) (starts : List (Option (List ℕ)))
    (source line : ℕ) (fault : LineFault) → s < length readers → s < length starts → source ≡ s
    → (fault ≡ OtherLength → IsReadBefore k starts (map left (set readers s reader)) s line) → IsFaultAt k (left_at starts s)
    (left reader) line fault → IsFirstLineFault k starts (map left (set readers s reader)) source line fault
fault_after left readers s reader k starts source line fault inside within e before h =
    let nows = map left (set readers s reader) in
    let now : left_at nows s ≡ left reader = left_now left readers s reader inside in
    record {
      inside = omega (arith, e, within);
      first = subst (λ i. IsFaultAt k (left_at starts i) (left_at nows i) line fault) (sym e)
          (subst (λ x. IsFaultAt k (left_at starts s) x line fault) (sym now) h);
      length_read = λ other. subst (λ i. IsReadBefore k starts nows i line) (sym e) (before other);
    }

-- the reader of the first head went on
module _ {T : Type 0} (left : T → Option (List ℕ)) (readers : List T) (reader next : T) (k : ℕ) (rooms : List Room) (heads : List Head)
    (ready : AreReady k (length readers) rooms heads) (tree : IsTree heads) (some : 1 ≤ length readers)
    (room : Room) (starts : List (Option (List ℕ))) (lists : List (List (List ℕ × ℕ))) (are : AreSources k starts (map left readers) rooms heads lists) where
  abbrev s : ℕ
  s = (head_at heads 1).source

  count : length readers ≡ length (map left readers)
  count = sym (length-map readers left)

  inside : s < length readers
  inside = first_inside k (length readers) rooms heads ready tree some

  within : s < length starts
  within = omega (arith, inside, count, are.nows_long)

  pub source_was : IsSource k (left_at starts s) (left (get_or readers s reader)) (get_or rooms s room) (head_at heads 1) (list_at lists s)
  source_was = source_first k (length readers) rooms heads ready tree some starts (map left readers) lists _ room _ count are
      (get_or-map left readers s reader None inside) refl

  pub sources_went_on : (head : Head) (mended : List Head) → length mended ≡ length (set heads (length readers + s) head)
      → ((j : ℕ) → length (set heads (length readers + s) head) ≤ 2 * j → head_at mended j ≡ head_at (set heads (length readers + s) head) j)
      → (found : Room) → IsSource k (left_at starts s) (left next) found head (list_at lists s ++ pending k (head_at heads 1))
      → AreSources k starts (map left (set readers s next)) (set rooms s found) mended (with_first k heads lists)
  sources_went_on head mended long leaves found is =
      subst (λ nows. AreSources k starts nows (set rooms s found) mended (with_first k heads lists)) (sym (map-set left readers s next))
      (sources_after k (length readers) rooms heads ready tree some head mended long leaves starts (map left readers) lists (left next) found count are is)

  pub source_at_fault : (source line : ℕ) (fault : LineFault) → source ≡ s → 2 ≤ line → IsFaultAt k (left_at starts s) (left next) line fault
      → IsFirstLineFault k starts (map left (set readers s next)) source line fault
  source_at_fault source line fault is two h =
      fault_after left readers s next k starts source line fault inside within is
      (λ other. record {
        first = s;
        before = inr (refl, two);
        begins = subst (λ x. BeginsWith k (left_at starts s) x) (sym (left_now left readers s next inside))
            (begins_other k (left_at starts s) (left next) line two (subst (λ (f : LineFault). IsFaultAt k (left_at starts s) (left next) line f) other h));
      })
      h

  pub source_lost : ((rest : List ℕ) × GaveFront k (left_at starts s) (left next) (list_at lists s) rest) → GaveFronts k starts
      (map left (set readers s next)) lists
  source_lost lost =
      subst (λ nows. GaveFronts k starts nows lists) (sym (map-set left readers s next))
      (lost_after k (length readers) s starts (map left readers) rooms heads lists (left next) are within lost (λ i _. room))

-- a read of one reader failed, or none did
module _ {T : Type 0} (readers : List (Watched T)) (s : ℕ) (result reader : Watched T) (inside : s < length readers) where
  pub failed_at : (source : ℕ) → source ≡ s → RisesByOne (get_or readers s result).failures reader.failures → HasFailed source (failures_of readers)
      (failures_of (set readers s reader))
  failed_at source is h =
      let old : get_or (failures_of readers) source 0 ≡ (get_or readers s result).failures = ap (λ i. get_or (failures_of readers) i 0) is
      ∙ get_or-map (λ (w : Watched T). w.failures) readers s result 0 inside in
      let new : get_or (failures_of (set readers s reader)) source 0 ≡ reader.failures =
      ap (λ i. get_or (failures_of (set readers s reader)) i 0) is
      ∙ ap (λ l. get_or l s 0) (map-set (λ (w : Watched T). w.failures) readers s reader)
      ∙ get_or-set_same (failures_of readers) s reader.failures 0 (omega (arith, inside, length-map readers (λ (w : Watched T). w.failures))) in
      record {
        inside = omega (arith, is, inside, length-map readers (λ (w : Watched T). w.failures));
        rises = subst (λ m. RisesByOne m (get_or (failures_of (set readers s reader)) source 0)) (sym old)
            (subst (λ m. RisesByOne (get_or readers s result).failures m) (sym new) h);
        others = λ other apart. ap (λ l. get_or l other 0) (map-set (λ (w : Watched T). w.failures) readers s reader)
            ∙ get_or-set_other (failures_of readers) s other reader.failures 0 (λ same. apart (same ∙ sym is));
      }

  pub kept_at : reader.failures ≡ (get_or readers s result).failures → failures_of (set readers s reader) ≡ failures_of readers
  kept_at h = map-set_same (λ (w : Watched T). w.failures) readers s reader result h

-- a read fails after none did
pub failed_after : (source : ℕ) (olds news starts : List ℕ) → olds ≡ starts → HasFailed source olds news → HasFailed source starts news
failed_after source olds news starts is h = subst (λ (l : List ℕ). HasFailed source l news) is h
