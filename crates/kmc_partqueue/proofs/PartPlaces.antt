-- Where each part is that was put, and what a reader's hold of a slot means.
use Rattle.std.proofs.Common.{◌≡◌, ℕ, ◌+◌, ◌*◌, ◌/◌, ◌%◌, ◌<◌, ◌≤◌, true, List, length, get_or, sym, ap, ◌∙◌, subst, ⊎_elim, mod-lt, lt_of_not-le, arith}
use mathlib.Core.Option.{some, some-injective}
use mathlib.Core.Logic.{dite}
use native.Mathlib.Decide.{ℕ_discrete, dec_le}
use lib.ListN.{get_elem?}
use Rattle.std.specs.Prelude.{Some}
use Rattle.kmc_partcore.specs.declared.shape.QueueShape.{QueueShape}
use Rattle.kmc_partcore.specs.declared.event.Received.{Received}
use Rattle.kmc_partqueue.specs.declared.views.Writing.{Writing}
use Rattle.kmc_partqueue.specs.declared.views.Reading.{Reading}
use Rattle.kmc_partqueue.specs.Counts.{Among, total_of, same}
use Rattle.kmc_partqueue.specs.Lane.{writing, reading, Cell, CellOk}
use Rattle.kmc_partqueue.specs.Rule.{head_at, end_at, mark_at, slot_at, is_entry, got_once, entries, WriterOk, ReaderOk, GotOk, LanesRule}
use Rattle.kmc_partqueue.specs.Plays.{next_slot_of, seen_slot_of}
use Rattle.kmc_partqueue.specs.Reached.{IsReached}
use Rattle.kmc_partqueue.specs.PartPlaces.{HasWriter, HasReader, IsInSlot, IsInHand, IsGivenBack, in_its_slot, in_a_hand, given_back, IsSomewhere, IsInOnePlace, IsHeldAlone}
use Rattle.kmc_partqueue.specs.Laws.{PartPlaceLaw, HeldSlotLaw}
use Rattle.kmc_partqueue.specs.Lemmas.Sums.{same_ne, below_one, below_none}
use Rattle.kmc_partqueue.proofs.Members.{some_member, member_at, within, among_last}
use Rattle.kmc_partqueue.proofs.Turns.{other_lane}
use Rattle.kmc_partqueue.proofs.OneLane.{full_found, holder}
use Rattle.kmc_partqueue.proofs.Frame.{St, heads_of}
use Rattle.kmc_partqueue.proofs.Final.{each_at}
use Rattle.kmc_partqueue.proofs.Kept.{rule_of}
use Rattle.kmc_partqueue.proofs.GivenBack.{IsHeld, reached_left}

-- an entry that counts is that of the part
counts : (a b c d : ℕ) → 1 ≤ same a b * same c d → (a ≡ b) × (c ≡ d)
counts a b c d le = let s : ℕ = same a b in let t : ℕ = same c d in (
  dite (ℕ_discrete a b) (λ e. e) (λ n. let z : s ≡ 0 = same_ne a b n in let le' : 1 ≤ 0 * t = subst (λ (y : ℕ). 1 ≤ y * t) z le in absurd (omega arith)),
  dite (ℕ_discrete c d) (λ e. e) (λ n. let z : t ≡ 0 = same_ne c d n in let le' : 1 ≤ s * 0 = subst (λ (y : ℕ). 1 ≤ s * y) z le in absurd (omega arith)),
)

module _ {T : Type 0} (k : QueueShape) (s : St T) (r : LanesRule k s) where
  abbrev heads : ℕ → ℕ
  heads = heads_of k s.words

  writer_ok : (a : Writing T) → HasWriter s a → WriterOk k r.lanes heads a
  writer_ok a has = each_at (WriterOk k r.lanes heads) has.1.writers (r.each_seat has.0 has.1 has.2).0 has.3.0 a has.3.1

  reader_ok : (b : Reading T) → HasReader s b → ReaderOk k r.lanes heads b
  reader_ok b has = each_at (ReaderOk k r.lanes heads) has.1.readers (r.each_seat has.0 has.1 has.2).1 has.3.0 b has.3.1

  module _ (a : Writing T) (has : HasWriter s a) (n : ℕ) (x : T) (put : get_elem? a.sent n ≡ some x) where
    abbrev w : ℕ
    w = a.number

    abbrev head : ℕ
    head = get_or s.words (head_at k w) 0

    own : WriterOk k r.lanes heads a
    own = writer_ok a has

    sent_is : get_elem? (r.lanes w).sent n ≡ some x
    sent_is = ap (λ (l : List T). get_elem? l n) (sym own.sent) ∙ put

    in_slot : head ≤ n → IsInSlot k s w n x
    in_slot le =
        let f = full_found k.per_writer r.some_room (r.lanes w) head (get_or s.words (end_at k w) 0) (λ (j : ℕ). get_or s.words (mark_at k w j) 0)
        (λ (j : ℕ). get_elem? s.homes (slot_at k w j)) (r.each_lane w own.known) n le (within (r.lanes w).sent n x sent_is) in
        record {
          marked = f.1;
          lies = f.2.2 ∙ (λ j. some (some (Some (some-injective f.2.0 x (sym f.2.1 ∙ sent_is) j))));
          got = r.taken_once w n own.known ∙ below_none n head le;
        }

    -- an entry of the part is the part
    the_part : (e : Received T) → GotOk k r.lanes heads e → e.writer ≡ w → e.number ≡ n → e ≡ record { writer = w; number = n; item = x }
    the_part e ok is number =
        let item : e.item ≡ x = some-injective e.item x (sym ok.put ∙ (λ j. get_elem? (r.lanes (is j)).sent (number j)) ∙ sent_is) in
        λ j. record { writer = is j; number = number j; item = item j }

    once : n < head → total_of (entries w n) s.views ≡ 1
    once lt = r.taken_once w n own.known ∙ below_one n head lt

    gave_back : n < head → 2 * (n / k.per_writer) + 2 ≤ get_or s.words (mark_at k w (n % k.per_writer)) 0 → IsGivenBack k s w n x
    gave_back lt marked =
        let all : ℕ = total_of (entries w n) s.views in let one : all ≡ 1 = once lt in
        let v = some_member (entries w n) s.views (let g : 1 ≤ all = omega arith in g) in
        let b = some_member (got_once w n) v.0.readers v.2 in let e = some_member (is_entry w n) b.0.got b.2 in
        let seat : HasReader s b.0 = (v.1.0, v.0, member_at s.views v.1.0 v.0 v.1.1, b.1) in
        let is = counts e.0.writer w e.0.number n e.2 in
        let ok = each_at (GotOk k r.lanes heads) b.0.got (reader_ok b.0 seat).shown e.1.0 e.0 e.1.1 in record {
          reader = b.0;
          seated = seat;
          listed = (e.1.0, e.1.1 ∙ (λ j. Some (the_part e.0 ok is.0 is.1 j)));
          marked = marked;
          got = one;
        }

    in_hand : n < head → IsHeld k s.views w n → IsInHand k s w n x
    in_hand lt h =
        let b : Reading T = h.by in let seat : HasReader s b = (h.seat, h.view, h.at, h.among) in
        let o = reader_ok b seat in let has = o.held h.holds.0 in let i : ℕ = n % k.per_writer in
        let at_cell : (r.lanes w).cells i ≡ (n, reading b.number) = (λ j. (r.lanes (sym h.holds.1 j)).cells (sym h.holds.2 j % k.per_writer)) ∙ has.0
        ∙ (λ j. (h.holds.2 j, reading b.number)) in
        let cell = subst (CellOk k.per_writer head (r.lanes w).sent (r.lanes w).held i (get_or s.words (mark_at k w i) 0)
        (get_elem? s.homes (slot_at k w i))) at_cell ((r.each_lane w own.known).each_cell i (mod-lt n r.some_room)) in
        let e : Received T = record { writer = b.lane; number = b.head; item = has.1.1 } in
        let listed = subst (Among e) (sym has.1.2) (among_last e has.1.0) in
        let ok = each_at (GotOk k r.lanes heads) b.got o.shown listed.0 e listed.1 in record {
          reader = b;
          seated = seat;
          holds = h.holds;
          listed = (listed.0, listed.1 ∙ (λ j. Some (the_part e ok h.holds.1 h.holds.2 j)));
          marked = cell.phase.0;
          out = cell.phase.2;
          got = once lt;
        }

    somewhere : IsReached k s → IsSomewhere k s w n x
    somewhere reached = dite (dec_le head n) (λ le. in_its_slot (in_slot le))
        (λ no. let lt : n < head = lt_of_not-le no in ⊎_elim
        (λ (back : 2 * (n / k.per_writer) + 2 ≤ get_or s.words (mark_at k w (n % k.per_writer)) 0). given_back (gave_back lt back))
        (λ (h : IsHeld k s.views w n). in_a_hand (in_hand lt h))
        (reached_left k s reached w n own.known lt))

    one_place : IsReached k s → IsInOnePlace k s w n x
    one_place reached = (
      somewhere reached,
      (λ p. let e : 0 ≡ 1 = sym p.0.got ∙ p.1.got in absurd (omega arith)),
      (λ p. let e : 0 ≡ 1 = sym p.0.got ∙ p.1.got in absurd (omega arith)),
      (λ p. let q : ℕ = n / k.per_writer in let m : ℕ = get_or s.words (mark_at k w (n % k.per_writer)) 0 in let a : m ≡ 2 * q + 1 = p.0.marked in
          let b : 2 * q + 2 ≤ m = p.1.marked in absurd (omega arith)),
    )

  -- one slot is in one lane
  one_lane : (v u i j : ℕ) → i < k.per_writer → j < k.per_writer → v * k.per_writer + i ≡ u * k.per_writer + j → (v ≡ u) × (i ≡ j)
  one_lane v u i j a b e = let c : ℕ = k.per_writer in dite (ℕ_discrete v u)
      (λ is. (is, (let x : ℕ = v * c in let y : ℕ = u * c in let xy : x ≡ y = ap (λ (z : ℕ). z * c) is in let e' : x + i ≡ y + j = e in omega arith)))
      (λ other. absurd (other_lane c v u i j a b other e))

  module _ (b : Reading T) (has : HasReader s b) (held : b.held ≡ true) where
    ok : ReaderOk k r.lanes heads b
    ok = reader_ok b has

    abbrev i₀ : ℕ
    i₀ = b.head % k.per_writer

    at_cell : (r.lanes b.lane).cells i₀ ≡ (b.head, reading b.number)
    at_cell = (ok.held held).0

    near : (n : ℕ) → n % k.per_writer < k.per_writer
    near n = mod-lt n r.some_room

    slot_is : seen_slot_of b ≡ slot_at k b.lane i₀
    slot_is = ap (λ (z : ℕ). b.lane * z + b.head % z) ok.per_writer

    held_alone : IsHeldAlone s b
    held_alone = record {
      out =
          (let cell = subst (CellOk k.per_writer (get_or s.words (head_at k b.lane) 0) (r.lanes b.lane).sent (r.lanes b.lane).held i₀
          (get_or s.words (mark_at k b.lane i₀) 0) (get_elem? s.homes (slot_at k b.lane i₀))) at_cell
          ((r.each_lane b.lane ok.lane).each_cell i₀ (near b.head)) in
          ap (get_elem? s.homes) slot_is ∙ cell.phase.2);
      writers =
          λ a seat busy same_slot. (let o = writer_ok a seat in let l = r.lanes a.number in let j : ℕ = length l.sent % k.per_writer in
          let next_is : next_slot_of a ≡ slot_at k a.number j = (λ t. a.number * o.per_writer t + length (o.sent t) % o.per_writer t) in
          let one = one_lane a.number b.lane j i₀ (near (length l.sent)) (near b.head) (sym next_is ∙ same_slot ∙ slot_is) in
          let e : (length l.sent, writing) ≡ (b.head, reading b.number) = sym ((r.each_lane a.number o.known).writes (sym o.held ∙ busy))
          ∙ (λ t. (r.lanes (one.0 t)).cells (one.1 t)) ∙ at_cell in
          clash (ap (λ (z : Cell). z.1) e));
      readers = λ d seat busy same_slot. (let o = reader_ok d seat in let j : ℕ = d.head % k.per_writer in
          let one = one_lane d.lane b.lane j i₀ (near d.head) (near b.head)
          (sym (ap (λ (z : ℕ). d.lane * z + d.head % z) o.per_writer) ∙ same_slot ∙ slot_is) in
          let e : (d.head, reading d.number) ≡ (b.head, reading b.number) = sym (o.held busy).0 ∙ (λ t. (r.lanes (one.0 t)).cells (one.1 t)) ∙ at_cell in
          ap holder (ap (λ (z : Cell). z.1) e));
    }
      where
        clash : writing ≡ reading b.number → ⊥
        clash e = cc

pub part_place_law : (T : Type 0) → PartPlaceLaw T
part_place_law T k s r a has n x put = one_place k s (rule_of k s r) a has n x put r

pub held_slot_law : (T : Type 0) → HeldSlotLaw T
held_slot_law T k s r b has held = held_alone k s (rule_of k s r) b has held
