-- What a call's step asks of the table is a step of the relation that the laws speak of.
use Rattle.std.proofs.Common.{◌≡◌, ℕ, suc, ◌+◌, ◌*◌, ◌/◌, ◌%◌, ◌<◌, ◌≤◌, ◌≢◌, eqb, true, false, List, [], ◌∷◌, ◌++◌, length, get_or, set, refl, sym, ap, ◌∙◌, subst, arith}
use mathlib.Core.Option.{none, some}
use mathlib.Core.Logic.{dite}
use native.Mathlib.Decide.{ℕ_discrete}
use lib.ListN.{get_elem?}
use lib.Seq.{set-get_or}
use prog.Atomic.{either}
use Rattle.std.specs.Prelude.{Option, Some, None}
use Rattle.atomic_table.specs.Table.{Act, Valid, carried_after, step as step_of, stepped, keeps, takes, gives, Allows, Splits, Joins}
use Rattle.atomic_table.proofs.Lists.{set_again, set_else, exchanged}
use Rattle.kmc_partcore.specs.declared.shape.QueueShape.{QueueShape}
use Rattle.kmc_partqueue.specs.declared.views.Writing.{Writing}
use Rattle.kmc_partqueue.specs.declared.views.Reading.{Reading}
use Rattle.kmc_partqueue.specs.declared.views.View.{View}
use Rattle.kmc_partqueue.specs.Ends.{SawAllEnds}
use Rattle.kmc_partqueue.specs.Rule.{end_at, head_at, mark_at}
use Rattle.kmc_partqueue.specs.Reached.{IsReached}
use Rattle.kmc_partqueue.specs.Plays.{Seated, next_slot_of, seen_slot_of, holding, sending, completed, looking, seeing, taking, freeing, ending, claimed_free_slot, published_part, closed_lane, read_head, saw_published_part, claimed_part, released_slot, read_end}
use Rattle.kmc_partqueue.specs.Dealing.{one_of_writers, one_of_readers, no_writer, its_writer, no_reader, its_reader, both, spent}
use Rattle.kmc_partqueue.specs.Steps as step
use Rattle.kmc_partqueue.proofs.Frame.{St}
use Rattle.kmc_partqueue.proofs.WriterSteps as writer
use Rattle.kmc_partqueue.proofs.ReaderSteps as reader
use Rattle.kmc_partqueue.proofs.Kept.{rule_of, reached}
use Rattle.kmc_partqueue.proofs.Ends.{all_ends}

module _ {T : Type 0} (k : QueueShape) where
  -- a load that finds nothing new
  still : (s : St T) (r : IsReached k s) (i id : ℕ) (c : List (ℕ × Option T)) (v : View T)
      → get_elem? s.views id ≡ some v → IsReached k (stepped s i (get_or s.words i 0) id c v keeps)
  still s r i id c v at =
      reached k s (stepped s i (get_or s.words i 0) id c v keeps) r []
      (step.finds_nothing (λ j. record { words = set-get_or s.words i 0 j; homes = s.homes; views = set_again s.views id v at j }))

  one_writer : (a a' : Writing T) → one_of_writers a ≡ one_of_writers a' → a ≡ a'
  one_writer a a' e = let x : a ∷ [] ≡ a' ∷ [] = ap (λ (v : View T). v.writers) e in cc

  one_reader : (b b' : Reading T) → one_of_readers b ≡ one_of_readers b' → b ≡ b'
  one_reader b b' e = let x : b ∷ [] ≡ b' ∷ [] = ap (λ (v : View T). v.readers) e in cc

  abbrev writer_with : Writing T → List (ℕ × Option T) → Seated T
  writer_with a c = (one_of_writers a, c)

  abbrev reader_with : Reading T → List (ℕ × Option T) → Seated T
  reader_with b c = (one_of_readers b, c)

  abbrev claims : Writing T → List (ℕ × Option T) → Seated T
  claims a c = (one_of_writers (holding a), (next_slot_of a, None) ∷ c)

  pub claims_free_slot : (n id : ℕ) (a : Writing T) (c : List (ℕ × Option T)) (i : ℕ)
      → i ≡ mark_at k a.number (length a.sent % k.per_writer) → a.held ≡ false
      → Allows (IsReached k) n id (one_of_writers a, c) i (λ y. y) (claimed_free_slot (step_of n i 0 0 none) (one_of_writers a, c))
  claims_free_slot n id a c i is empty s r wide at _ =
      let y : ℕ = get_or s.words i 0 in let turn : ℕ = 2 * (length a.sent / a.per_writer) in
      let p = writer.own k s (rule_of k s r) id a at in
      let turn_is : turn ≡ 2 * (length a.sent / k.per_writer) = ap (λ (z : ℕ). 2 * (length a.sent / z)) p.per_writer in
      let word_is : y ≡ get_or s.words (mark_at k a.number (length a.sent % k.per_writer)) 0 = ap (λ (z : ℕ). get_or s.words z 0) is in
      dite (ℕ_discrete y turn)
      (λ hit. let found = sym word_is ∙ hit ∙ turn_is in (
        one_of_writers (holding a),
        takes (next_slot_of a) None,
        writer.slot_free k s (rule_of k s r) id a at empty found,
        reached k s (stepped s i y id c (one_of_writers (holding a)) (takes (next_slot_of a) None)) r []
            (step.claims_free_slot id a at empty found (λ j. record {
              words = set-get_or s.words i 0 j;
              homes = set s.homes (next_slot_of a) none;
              views = set s.views id (one_of_writers (holding a));
            })),
        λ a' e. let one = one_writer a a' e in (
          subst (λ (b : Writing T). y ≡ 2 * (length b.sent / b.per_writer) → claims a c ≡ claims b c) one (λ _. refl),
          subst (λ (b : Writing T). y ≢ 2 * (length b.sent / b.per_writer) → (claims a c ≡ writer_with a c) × (b.per_writer ≤ length b.sent)) one
              (λ n. absurd (n hit)),
        ),
      ))
      (λ miss. let many : a.per_writer ≤ length a.sent = subst (λ (z : ℕ). z ≤ length a.sent) (sym p.per_writer)
      (writer.put_many k s (rule_of k s r) id a at (λ e. miss (word_is ∙ e ∙ sym turn_is))) in (
        one_of_writers a,
        keeps,
        tt,
        still s r i id c (one_of_writers a) at,
        λ a' e. let one = one_writer a a' e in (
          subst (λ (b : Writing T). y ≡ 2 * (length b.sent / b.per_writer) → writer_with a c ≡ claims b c) one (λ h. absurd (miss h)),
          subst (λ (b : Writing T). y ≢ 2 * (length b.sent / b.per_writer) → (writer_with a c ≡ writer_with a c)
              × (b.per_writer ≤ length b.sent)) one (λ _. (refl, many)),
        ),
      ))

  pub publishes_part : (n id : ℕ) (a : Writing T) (x : T) (c : List (ℕ × Option T)) (i new : ℕ)
      → i ≡ mark_at k a.number (length a.sent % k.per_writer) → new ≡ 2 * (length a.sent / k.per_writer) + 1
      → a.held ≡ true → a.done ≡ false → length a.sent < 4294967295
      → Allows (IsReached k) n id (one_of_writers a, (next_slot_of a, Some x) ∷ c) i (λ _. new)
      (λ _. published_part (step_of n i new 0 none) (one_of_writers a, (next_slot_of a, Some x) ∷ c) new)
  publishes_part n id a x c i new is marks held going small s r wide at _ = (
    one_of_writers (sending a x),
    gives,
    tt,
    reached k s (stepped s i new id ((next_slot_of a, Some x) ∷ c) (one_of_writers (sending a x)) gives) r (step.was_put a x ∷ [])
        (step.publishes_part id a x at held going small (λ j. record {
          words = set s.words (is j) (marks j);
          homes = set s.homes (next_slot_of a)
              (some (Some x));
          views = set s.views id (one_of_writers (sending a x));
        })),
    λ a' x' c' e. let one = one_writer a a' (ap (λ (m : Seated T). m.0) e) in let cs : (next_slot_of a, Some x) ∷ c ≡ (next_slot_of a', Some x')
        ∷ c' = ap (λ (m : Seated T). m.1) e in
        let xx : x ≡ x' = one_item cs in let tl : c ≡ c' = cc in λ j. (one_of_writers (sending (one j) (xx j)), tl j),
  )
    where
      one_item : {i i' : ℕ} {x x' : T} {c c' : List (ℕ × Option T)} → (i, Some x) ∷ c ≡ (i', Some x') ∷ c' → x ≡ x'
      one_item {i} {i'} {x} {x'} {c} {c'} e =
          let p : ℕ × Option T = (i, Some x) in let q : ℕ × Option T = (i', Some x') in let hd : p ≡ q = cc in
          let sm : Some x ≡ Some x' = ap (λ (z : ℕ × Option T). z.1) hd in cc

  pub closes_lane : (n id : ℕ) (a : Writing T) (c : List (ℕ × Option T)) (i new : ℕ) → i ≡ end_at k a.number
      → new ≡ suc (length a.sent) → a.done ≡ false
      → Allows (IsReached k) n id (one_of_writers a, c) i (λ _. new) (λ _. closed_lane (step_of n i new 0 none) (one_of_writers a, c) new)
  closes_lane n id a c i new index is going s r wide at _ = (
    one_of_writers (completed a),
    keeps,
    tt,
    reached k s (stepped s i new id c (one_of_writers (completed a)) keeps) r (step.was_completed a ∷ [])
        (step.closes_lane id a at going (λ j. record {
          words = set s.words (index j) (is j);
          homes = s.homes;
          views = set s.views id
              (one_of_writers (completed a));
        })),
    λ a' e j. (one_of_writers (completed (one_writer a a' e j)), c),
  )

  pub reads_head : (n id : ℕ) (b : Reading T) (c : List (ℕ × Option T)) (w i : ℕ) → w < k.writers → i ≡ head_at k w → b.held ≡ false
      → Allows (IsReached k) n id (one_of_readers b, c) i (λ y. y) (read_head (step_of n i 0 0 none) (one_of_readers b, c))
  reads_head n id b c w i near is empty s r wide at _ =
      let p = reader.own k s (rule_of k s r) id b at in let h : ℕ = get_or s.words (head_at k w) 0 in
      let y : ℕ = get_or s.words i 0 in let word_is : y ≡ h = ap (λ (z : ℕ). get_or s.words z 0) is in (
        one_of_readers (looking b w y),
        keeps,
        tt,
        reached k s (stepped s i y id c (one_of_readers (looking b w y)) keeps) r []
            (step.reads_head id b w at near empty (λ j. record {
              words = set-get_or s.words i 0 j;
              homes = s.homes;
              views = set s.views id
                  (one_of_readers (looking b w (word_is j)));
            })),
        λ b' w' e at_word. let one = one_reader b b' e in let all : b.writers ≡ k.writers = p.writers in let all' : b.writers ≡ b'.writers = ap
            (λ (z : Reading T). z.writers) one in
            let here : k.writers + w ≡ b'.writers + w' = sym is ∙ at_word in let lane : w ≡ w' = omega arith in (
              (λ j. (one_of_readers (looking (one j) (lane j) y), c)),
              (let ok = (rule_of k s r).each_lane w near in let x : h ≤ length ((rule_of k s r).lanes w).sent = ok.behind in let z : length
                  ((rule_of k s r).lanes w).sent ≤ 4294967295 = ok.limit in omega arith),
            ),
      )

  pub sees_published_part : (n id : ℕ) (b : Reading T) (c : List (ℕ × Option T)) (i : ℕ) → i ≡ mark_at k b.lane (b.head % k.per_writer)
      → Allows (IsReached k) n id (one_of_readers b, c) i (λ y. y) (saw_published_part (step_of n i 0 0 none) (one_of_readers b, c))
  sees_published_part n id b c i index s r wide at _ =
      let p = reader.own k s (rule_of k s r) id b at in let y : ℕ = get_or s.words i 0 in
      let turn : ℕ = 2 * (b.head / b.per_writer) + 1 in
      dite (ℕ_discrete y turn)
      (λ hit. (
        one_of_readers (seeing b),
        keeps,
        tt,
        reached k s (stepped s i y id c (one_of_readers (seeing b)) keeps) r []
            (step.sees_published_part id b at (ap (λ (z : ℕ). get_or s.words z 0) (sym index) ∙ hit ∙ ap
            (λ (z : ℕ). 2 * (b.head / z) + 1) p.per_writer) (λ j. record {
              words = set-get_or s.words i 0 j;
              homes = s.homes;
              views = set s.views id
                  (one_of_readers (seeing b));
            })),
        λ b' e. let one = one_reader b b' e in (
          (λ _ j. (one_of_readers (seeing (one j)), c)),
          subst
              (λ (z : Reading T). y ≢ 2 * (z.head / z.per_writer) + 1 → reader_with (seeing b) c ≡ reader_with b c) one (λ m. absurd (m hit)),
        ),
      ))
      (λ miss. (
        one_of_readers b,
        keeps,
        tt,
        still s r i id c (one_of_readers b) at,
        λ b' e. let one = one_reader b b' e in (
          subst (λ (z : Reading T). y ≡ 2 * (z.head / z.per_writer) + 1 → reader_with b c ≡ reader_with
              (seeing z) c) one (λ h. absurd (miss h)),
          λ _. refl,
        ),
      ))

  pub claims_part : (n id : ℕ) (b : Reading T) (c : List (ℕ × Option T)) (i old new : ℕ) → i ≡ head_at k b.lane
      → old ≡ b.head → new ≡ b.head + 1 → b.ready ≡ true → b.held ≡ false
      → Allows (IsReached k) n id (one_of_readers b, c) i (λ y. either (eqb y old) new y) (claimed_part (step_of n i old new none) (one_of_readers b, c))
  claims_part n id b c i old new index is next set_ready empty s r wide at _ =
      let y : ℕ = get_or s.words i 0 in let told = claimed_part (step_of n i old new none) (one_of_readers b, c) in
      exchanged y old new (λ z. (w : View T) × (a : Act (Option T)) × Valid s.homes c a × IsReached k (stepped s i z id c w a) × told y (w, carried_after c a))
      (λ hit. let at_head : get_or s.words (head_at k b.lane) 0 ≡ b.head = ap (λ (z : ℕ). get_or s.words z 0) (sym index) ∙ hit ∙ is in
      let t = reader.takes_kept k s (rule_of k s r) id b at set_ready at_head in let x : T = t.0 in (
        one_of_readers (taking b x),
        takes (seen_slot_of b) (Some x),
        t.2,
        reached k s (stepped s i new id c (one_of_readers (taking b x)) (takes (seen_slot_of b) (Some x))) r (step.was_taken b x ∷ [])
            (step.claims_part id b x at set_ready empty at_head t.2 (λ j. record {
              words = set s.words (index j) (next j);
              homes = set s.homes
                  (seen_slot_of b) none;
              views = set s.views id (one_of_readers (taking b x));
            })),
        λ b' e. let one = one_reader b b' e in (
          (λ _. (x, λ j. (one_of_readers (taking (one j) x), (seen_slot_of (one j), Some x) ∷ c))),
          λ m. absurd
              (m (hit ∙ is ∙ ap (λ (z : Reading T). z.head) one)),
        ),
      ))
      (λ miss. (
        one_of_readers b,
        keeps,
        tt,
        still s r i id c (one_of_readers b) at,
        λ b' e. let one = one_reader b b' e in (λ hit. absurd (miss (hit ∙ ap (λ (z : Reading T). z.head) (sym one) ∙ sym is)), λ _. refl),
      ))

  pub releases_slot : (n id : ℕ) (b : Reading T) (c : List (ℕ × Option T)) (i new : ℕ)
      → i ≡ mark_at k b.lane (b.head % k.per_writer) → new ≡ 2 * (b.head / k.per_writer) + 2 → b.held ≡ true
      → Allows (IsReached k) n id (one_of_readers b, (seen_slot_of b, None) ∷ c) i (λ _. new)
      (λ _. released_slot (step_of n i new 0 none) (one_of_readers b, (seen_slot_of b, None) ∷ c) new)
  releases_slot n id b c i new index is held s r wide at _ = (
    one_of_readers (freeing b),
    gives,
    tt,
    reached k s (stepped s i new id ((seen_slot_of b, None) ∷ c) (one_of_readers (freeing b)) gives) r []
        (step.releases_slot id b at held (λ j. record {
          words = set s.words (index j) (is j);
          homes = set s.homes (seen_slot_of b) (some None);
          views = set s.views id (one_of_readers (freeing b));
        })),
    λ b' c' e. let one = one_reader b b' (ap (λ (m : Seated T). m.0) e) in let cs : (seen_slot_of b, None) ∷ c ≡ (seen_slot_of b', None) ∷ c' = ap
        (λ (m : Seated T). m.1) e in let tl : c ≡ c' = cc in λ j. (one_of_readers (freeing (one j)), tl j),
  )

  pub reads_end : (n id : ℕ) (b : Reading T) (c : List (ℕ × Option T)) (i : ℕ) → i ≡ end_at k b.lane → ¬ SawAllEnds k.writers b.ends
      → Allows (IsReached k) n id (one_of_readers b, c) i (λ y. y) (read_end (step_of n i 0 0 none) (one_of_readers b, c))
  reads_end n id b c i index before s r wide at _ = let y : ℕ = get_or s.words i 0 in
      dite (ℕ_discrete y (suc b.head))
      (λ hit. (
        one_of_readers (ending b),
        keeps,
        tt,
        (let s' = stepped s i y id c (one_of_readers (ending b)) keeps in
            let found : get_or s.words (end_at k b.lane) 0 ≡ suc b.head = ap (λ (z : ℕ). get_or s.words z 0) (sym index) ∙ hit in
            let is : s' ≡ record { words = s.words; homes = s.homes; views = set s.views id (one_of_readers (ending b)) } =
            λ j. record { words = set-get_or s.words i 0 j; homes = s.homes; views = set s.views id (one_of_readers (ending b)) } in
            all_ends k.writers (ending b).ends (λ totals are. reached k s s' r (step.was_finished b.number totals ∷ [])
            (step.reads_last_end id b totals at found before are is))
            (λ more. reached k s s' r [] (step.reads_end id b at found more is))),
        λ b' e. let one = one_reader b b' e in (
          (λ _ j. (one_of_readers (ending (one j)), c)),
          subst
              (λ (z : Reading T). y ≢ suc z.head → reader_with (ending b) c ≡ reader_with b c) one (λ m. absurd (m hit)),
        ),
      ))
      (λ miss. (
        one_of_readers b,
        keeps,
        tt,
        still s r i id c (one_of_readers b) at,
        λ b' e. let one = one_reader b b' e in (
          subst (λ (z : Reading T). y ≡ suc z.head → reader_with b c ≡ reader_with (ending z) c) one
              (λ h. absurd (miss h)),
          λ _. refl,
        ),
      ))

  pub splits_writer : (id : ℕ) (v : View T) → Splits (IsReached k) id v (no_writer v) (its_writer v)
  splits_writer id v s r at =
      reached k s record { words = s.words; homes = s.homes; views = set s.views id (no_writer v) ++ its_writer v ∷ [] } r [] (step.splits_writer id v at refl)

  pub splits_reader : (id : ℕ) (v : View T) → Splits (IsReached k) id v (no_reader v) (its_reader v)
  splits_reader id v s r at =
      reached k s record { words = s.words; homes = s.homes; views = set s.views id (no_reader v) ++ its_reader v ∷ [] } r [] (step.splits_reader id v at refl)

  pub joins_seat : (id : ℕ) (v : View T) (other : ℕ) (w : View T) → Joins (IsReached k) id v other w (both v w) spent
  joins_seat id v other w s r at ne at' =
      reached k s record { words = s.words; homes = s.homes; views = set (set s.views id (both v w)) other spent } r []
      (step.joins_seat id other v w at ne (sym (set_else s.views id other (both v w) ne) ∙ at') refl)
