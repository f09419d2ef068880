-- Each reader that has seen all lanes at their ends was told once that the queue is finished, and no other was.
use Rattle.std.proofs.Common.{◌≡◌, ℕ, zero, suc, ◌+◌, List, [], ◌∷◌, ◌++◌, set, refl, sym, ap, ◌∙◌, subst, arith, ⊎_elim, append_assoc}
use mathlib.Core.Option.{some}
use mathlib.Core.Option as maybe
use lib.ListN.{get_elem?}
use Rattle.atomic_table.proofs.Lists.{at_snoc}
use Rattle.kmc_partcore.specs.declared.shape.QueueShape.{QueueShape}
use Rattle.kmc_partcore.specs.History.{Entry, History}
use Rattle.kmc_partqueue.specs.declared.views.Reading.{Reading}
use Rattle.kmc_partqueue.specs.declared.views.View.{View}
use Rattle.kmc_partqueue.specs.Counts.{Each, Among, same}
use Rattle.kmc_partqueue.specs.Ends.{SawAllEnds, AreSeenTotals}
use Rattle.kmc_partqueue.specs.Rule.{LanesRule}
use Rattle.kmc_partqueue.specs.Dealing.{one_of_readers, all_seats, fresh_reader, no_writer, its_writer, no_reader, its_reader, both, spent}
use Rattle.kmc_partqueue.specs.Plays.{ending}
use Rattle.kmc_partqueue.specs.Steps as step
use Rattle.kmc_partqueue.specs.Steps.{IsStep, AreSteps, was_finished}
use Rattle.kmc_partqueue.specs.Reached.{opened, IsReached}
use Rattle.kmc_partqueue.specs.Laws.{registrations}
use Rattle.kmc_partqueue.specs.Told.{tells_finished, times_finished}
use Rattle.kmc_partqueue.proofs.Members.{nobody, among_left}
use Rattle.kmc_partqueue.specs.Lemmas.Sums.{same_refl, same_ne, each_map, each_absent, each_append, views_stay}
use Rattle.kmc_partqueue.proofs.Frame.{St}
use Rattle.kmc_partqueue.proofs.Ends.{seen_all}
use Rattle.kmc_partqueue.proofs.Kept.{ruled, opening_rule}
use Rattle.kmc_partqueue.specs.Lemmas.Numbered.{each_row}
use Rattle.kmc_partqueue.proofs.Dealing.{each_first, each_rest}
use Rattle.kmc_partqueue.proofs.ReaderSteps as reader

none_told : (T : Type 0) (r n : ℕ) → times_finished {T = T} r (registrations n) ≡ 0
none_told T r zero = refl
none_told T r (suc n) = let z : times_finished {T = T} r (registrations n) ≡ 0 = none_told T r n in omega arith

module _ {T : Type 0} (k : QueueShape) where
  -- what the history says of a reader's notes
  pub record FinishTold (h : History T) (b : Reading T) : Type 0 where
    pub told : SawAllEnds k.writers b.ends
        → (totals : List ℕ) × AreSeenTotals k.writers b.ends totals × Among (was_finished b.number totals) h
    pub once : SawAllEnds k.writers b.ends → times_finished b.number h ≡ 1
    pub never : ¬ SawAllEnds k.writers b.ends → times_finished b.number h ≡ 0

  -- an entry that does not tell it this reader
  tells_on : (h : History T) (e : Entry T) (b : Reading T) → tells_finished b.number e ≡ 0 → FinishTold h b → FinishTold (e ∷ h) b
  tells_on h e b other t = let d : ℕ = tells_finished b.number e in let n : ℕ = times_finished b.number h in record {
    told = λ all. let r = t.told all in (r.0, r.1, (suc r.2.0, r.2.1));
    once = λ all. let o : n ≡ 1 = t.once all in (let g : d + n ≡ 1 = omega arith in g);
    never = λ few. let o : n ≡ 0 = t.never few in (let g : d + n ≡ 0 = omega arith in g);
  }

  -- the entry that tells it this reader
  tells_now : (h : History T) (b : Reading T) (totals : List ℕ) → FinishTold h b → ¬ SawAllEnds k.writers b.ends
      → AreSeenTotals k.writers (ending b).ends totals → FinishTold (was_finished b.number totals ∷ h) (ending b)
  tells_now h b totals t before are =
      let m : ℕ = same b.number b.number in let one : m ≡ 1 = same_refl b.number b.number refl in
      let n : ℕ = times_finished b.number h in let none_yet : n ≡ 0 = t.never before in record {
        told = λ _. (totals, are, (0, refl));
        once = λ _. (let g : m + n ≡ 1 = omega arith in g);
        never = λ few. absurd (few (seen_all k.writers (ending b).ends totals are));
      }

  -- some lane is still to be seen at its end, before and after the load
  tells_more : (h : History T) (b : Reading T) → FinishTold h b → ¬ SawAllEnds k.writers (ending b).ends → FinishTold h (ending b)
  tells_more h b t few =
      record {
        told = λ all. absurd (few all);
        once = λ all. absurd (few all);
        never = λ _. t.never
            (λ all. few (λ w near. let a = all w near in (a.0, among_left _ b.ends _ a.1)));
      }

  abbrev AllTell : History T → List (View T) → Type 0
  AllTell h vs = (j : ℕ) (v : View T) → get_elem? vs j ≡ some v → Each (FinishTold h) v.readers

  -- one seat moves, with no entry
  seat_moves : (h : History T) (vs : List (View T)) (id : ℕ) (v' : View T) → AllTell h vs
      → Each (FinishTold h) v'.readers → AllTell h (set vs id v')
  seat_moves h vs id v' old mine = views_stay (λ _ (u : View T). Each (FinishTold h) u.readers) vs id v' mine (λ j u _ e. old j u e)

  -- one seat moves, with an entry that tells nobody that the queue is finished
  seat_adds : (h : History T) (e : Entry T) → ((r : ℕ) → tells_finished r e ≡ 0)
      → (vs : List (View T)) (id : ℕ) (v' : View T) → AllTell h vs → Each (FinishTold h) v'.readers
      → AllTell (e ∷ h) (set vs id v')
  seat_adds h e other vs id v' old mine =
      views_stay (λ _ (u : View T). Each (FinishTold (e ∷ h)) u.readers) vs id v' (more v'.readers mine) (λ j u _ at. more u.readers (old j u at))
    where
      more : (l : List (Reading T)) → Each (FinishTold h) l → Each (FinishTold (e ∷ h)) l
      more = each_map (FinishTold h) (FinishTold (e ∷ h)) (λ b t. tells_on h e b (other b.number) t)

  -- a seat is split
  seat_splits : (h : History T) (vs : List (View T)) (id : ℕ) (left right : View T) → AllTell h vs
      → Each (FinishTold h) left.readers → Each (FinishTold h) right.readers → AllTell h (set vs id left ++ right ∷ [])
  seat_splits h vs id left right old a b j u e =
      ⊎_elim (seat_moves h vs id left old a j u) (λ (is : right ≡ u). subst (λ (z : View T). Each (FinishTold h) z.readers) is b)
      (at_snoc (set vs id left) right u j e)

  module _ (s s' : St T) (r : LanesRule k s) (h : History T) (old : AllTell h s.views) where
    moved : (e : History T) → IsStep k s s' e → AllTell (e ++ h) s'.views
    moved e (step.claims_free_slot id a at empty found is) =
        subst (λ (z : St T). AllTell h z.views) (sym is) (seat_moves h s.views id _ old tt)
    moved e (step.publishes_part id a x at held going small is) =
        subst (λ (z : St T). AllTell (step.was_put a x ∷ h) z.views) (sym is) (seat_adds h (step.was_put a x) (λ _. refl) s.views id _ old tt)
    moved e (step.closes_lane id a at going is) =
        subst (λ (z : St T). AllTell (step.was_completed a ∷ h) z.views) (sym is) (seat_adds h (step.was_completed a) (λ _. refl) s.views id _ old tt)
    moved e (step.reads_head id b w at near empty is) =
        let t = (old id (one_of_readers b) at).0 in
        subst (λ (z : St T). AllTell h z.views) (sym is) (seat_moves h s.views id _ old (record { told = t.told; once = t.once; never = t.never }, tt))
    moved e (step.sees_published_part id b at found is) =
        let t = (old id (one_of_readers b) at).0 in
        subst (λ (z : St T). AllTell h z.views) (sym is) (seat_moves h s.views id _ old (record { told = t.told; once = t.once; never = t.never }, tt))
    moved e (step.claims_part id b x at ready empty at_head has is) = let t = (old id (one_of_readers b) at).0 in
        subst (λ (z : St T). AllTell (step.was_taken b x ∷ h) z.views) (sym is)
        (seat_adds h (step.was_taken b x) (λ _. refl) s.views id _ old (record { told = t.told; once = t.once; never = t.never }, tt))
    moved e (step.releases_slot id b at held is) =
        let t = (old id (one_of_readers b) at).0 in
        subst (λ (z : St T). AllTell h z.views) (sym is) (seat_moves h s.views id _ old (record { told = t.told; once = t.once; never = t.never }, tt))
    moved e (step.reads_end id b at found more is) =
        let t = (old id (one_of_readers b) at).0 in
        subst (λ (z : St T). AllTell h z.views) (sym is) (seat_moves h s.views id _ old (tells_more h b t more, tt))
    moved e (step.reads_last_end id b totals at found before are is) =
        let t = (old id (one_of_readers b) at).0 in let d : Entry T = was_finished b.number totals in
        subst (λ (z : St T). AllTell (d ∷ h) z.views) (sym is)
        (views_stay (λ _ (u : View T). Each (FinishTold (d ∷ h)) u.readers) s.views id (one_of_readers (ending b)) (tells_now h b totals t before are, tt)
        (λ j u other at'. each_absent (FinishTold h) (FinishTold (d ∷ h)) (λ (c : Reading T). c.number) b.number
        (λ c apart t'. tells_on h d c (same_ne b.number c.number (λ i. apart (sym i))) t') u.readers (reader.alone k s r id b at j u other at')
        (old j u at')))
    moved e (step.finds_nothing is) = subst (λ (z : St T). AllTell h z.views) (sym is) old
    moved e (step.splits_writer id v at is) =
        subst (λ (z : St T). AllTell h z.views) (sym is) (seat_splits h s.views id (no_writer v) (its_writer v) old (old id v at) tt)
    moved e (step.splits_reader id v at is) =
        subst (λ (z : St T). AllTell h z.views) (sym is) (seat_splits h s.views id (no_reader v) (its_reader v) old
        (each_rest (FinishTold h) v.readers (old id v at)) (each_first (FinishTold h) v.readers (old id v at)))
    moved e (step.joins_seat id other v w at ne at' is) = subst (λ (z : St T). AllTell h z.views) (sym is)
        (seat_moves h (set s.views id (both v w)) other spent (seat_moves h s.views id (both v w) old
        (each_append (FinishTold h) w.readers v.readers (old other w at') (old id v at))) tt)

  all_moved : (s s' : St T) (e : History T) → AreSteps k s s' e → LanesRule k s → (h : History T) → AllTell h s.views
      → AllTell (e ++ h) s'.views
  all_moved s s' e (step.still is none_yet) r h old =
      subst (λ (z : History T). AllTell (z ++ h) s'.views) (sym none_yet) (subst (λ (z : St T). AllTell h z.views) is old)
  all_moved s s' e (step.then t d f steps move is) r h old =
      subst (λ (z : History T). AllTell z s'.views) (sym (append_assoc f d h) ∙ ap (λ (z : History T). z ++ h) (sym is))
      (moved t s' (ruled k s t d steps r) (d ++ h) (all_moved s t d steps r h old) f move)

  -- nothing was told, and no end was seen
  opening_tells : AllTell (registrations k.writers) (opened {T = T} k).views
  opening_tells j v e = ⊎_elim (λ (x : get_elem? [] j ≡ some v). absurd (maybe.some-ne-none v (sym x)))
      (λ (x : all_seats k ≡ v). subst (λ (u : View T). Each (FinishTold (registrations k.writers)) u.readers) x
      (each_row (FinishTold (registrations k.writers)) (fresh_reader k) 0 k.readers
      (λ i _. record { told = λ all. absurd (unseen all); once = λ all. absurd (unseen all); never = λ _. none_told T i k.writers })))
      (at_snoc [] (all_seats k) v j e)
    where
      unseen : SawAllEnds k.writers [] → ⊥
      unseen all = nobody _ (all 0 k.within.0).1

  -- wherever steps lead
  pub reached_tells : (s : St T) (r : IsReached k s) → (j : ℕ) (v : View T) → get_elem? s.views j ≡ some v
      → Each (FinishTold (r.entries ++ registrations k.writers)) v.readers
  reached_tells s r = all_moved (opened k) s r.entries r.steps (opening_rule k) (registrations k.writers) opening_tells
