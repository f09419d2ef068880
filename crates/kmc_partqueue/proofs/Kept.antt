-- Each step keeps the rule of the lanes.
use Rattle.std.proofs.Common.{◌≡◌, ℕ, ◌+◌, ◌*◌, ◌++◌, true, get_or, set, replicate, refl, sym, ◌∙◌, subst}
use mathlib.Core.Option.{none, some}
use mathlib.Core.Option as maybe
use lib.ListN.{get_elem?, length-replicate}
use Rattle.std.specs.Prelude.{Some}
use Rattle.atomic_table.proofs.Lists.{set_else}
use Rattle.kmc_partcore.specs.declared.shape.QueueShape.{QueueShape}
use Rattle.kmc_partcore.specs.History.{History}
use Rattle.kmc_partqueue.specs.declared.views.Reading.{Reading}
use Rattle.kmc_partqueue.specs.Rule.{head_at, LanesRule}
use Rattle.kmc_partqueue.specs.Plays.{seen_slot_of, taking}
use Rattle.kmc_partqueue.specs.Dealing.{one_of_readers, both}
use Rattle.kmc_partqueue.specs.Steps as step
use Rattle.kmc_partqueue.specs.Steps.{IsStep, AreSteps}
use Rattle.kmc_partqueue.specs.Reached.{opened, IsReached}
use Rattle.kmc_partqueue.proofs.Frame.{St}
use Rattle.kmc_partqueue.proofs.Dealing.{zeros, starts, splits_writer, splits_reader, joins}
use Rattle.kmc_partqueue.proofs.WriterSteps as writer
use Rattle.kmc_partqueue.proofs.ReaderSteps as reader

module _ {T : Type 0} (k : QueueShape) (s s' : St T) (r : LanesRule k s) where
  one_part : (x y : T) → maybe.some (maybe.some (Some x)) ≡ maybe.some (maybe.some (Some y)) → x ≡ y
  one_part x y e = cc

  -- the part at the head is the one at home
  pub claimed : (id : ℕ) (b : Reading T) (x : T) → get_elem? s.views id ≡ some (one_of_readers b) → b.ready ≡ true
      → get_or s.words (head_at k b.lane) 0 ≡ b.head → get_elem? s.homes (seen_slot_of b) ≡ some (some (Some x))
      → (get_elem? (r.lanes b.lane).sent b.head ≡ some x) × LanesRule k record {
        words = set s.words (head_at k b.lane) (b.head + 1);
        homes = set s.homes (seen_slot_of b) none;
        views = set s.views id (one_of_readers (taking b x));
      }
  claimed id b x at ready at_head has =
      let t = reader.takes_kept k s r id b at ready at_head in let is : t.0 ≡ x = one_part t.0 x (sym t.2 ∙ has) in
      subst (λ (z : T). (get_elem? (r.lanes b.lane).sent b.head ≡ some z)
      × LanesRule k record {
        words = set s.words (head_at k b.lane) (b.head + 1);
        homes = set s.homes (seen_slot_of b) none;
        views = set s.views id (one_of_readers (taking b z));
      }) is (t.1, t.3)

  pub kept : (e : History T) → IsStep k s s' e → LanesRule k s'
  kept e (step.claims_free_slot id a at empty found is) = subst (LanesRule k) (sym is) (writer.holds_kept k s r id a at empty found)
  kept e (step.publishes_part id a x at held going small is) =
      subst (LanesRule k) (sym is) (writer.sends_kept k s r id a x at held going small)
  kept e (step.closes_lane id a at going is) = subst (LanesRule k) (sym is) (writer.ends_kept k s r id a at)
  kept e (step.reads_head id b w at near empty is) = subst (LanesRule k) (sym is) (reader.looks_kept k s r id b at w near empty)
  kept e (step.sees_published_part id b at found is) = subst (LanesRule k) (sym is) (reader.sees_kept k s r id b at found)
  kept e (step.claims_part id b x at ready empty at_head has is) = subst (LanesRule k) (sym is) (claimed id b x at ready at_head has).1
  kept e (step.releases_slot id b at held is) = subst (LanesRule k) (sym is) (reader.frees_kept k s r id b at held)
  kept e (step.reads_end id b at found more is) = subst (LanesRule k) (sym is) (reader.ends_kept k s r id b at found)
  kept e (step.reads_last_end id b totals at found before are is) = subst (LanesRule k) (sym is) (reader.ends_kept k s r id b at found)
  kept e (step.finds_nothing is) = subst (LanesRule k) (sym is) r
  kept e (step.splits_writer id v at is) = subst (LanesRule k) (sym is) (splits_writer k id v s r at)
  kept e (step.splits_reader id v at is) = subst (LanesRule k) (sym is) (splits_reader k id v s r at)
  kept e (step.joins_seat id other v w at ne at' is) =
      subst (LanesRule k) (sym is) (joins k id v other w s r at ne (set_else s.views id other (both v w) ne ∙ at'))

module _ {T : Type 0} (k : QueueShape) where
  pub ruled : (s s' : St T) (e : History T) → AreSteps k s s' e → LanesRule k s → LanesRule k s'
  ruled s s' e (step.still is none_yet) r = subst (LanesRule k) is r
  ruled s s' e (step.then t d f steps move is) r = kept k t s' (ruled s t d steps r) f move

  pub opening_rule : LanesRule k (opened {T = T} k)
  opening_rule =
      let n : ℕ = 2 * k.writers + k.writers * k.per_writer in
      starts k (replicate n 0) k.within.2 k.within.0 (length-replicate n 0) (zeros n)

  -- the rule holds wherever steps lead
  pub rule_of : (s : St T) → IsReached k s → LanesRule k s
  rule_of s r = ruled (opened k) s r.entries r.steps opening_rule

  -- a step more
  pub reached : (s s' : St T) → IsReached k s → (e : History T) → IsStep k s s' e → IsReached k s'
  reached s s' r e move = record { entries = e ++ r.entries; steps = step.then s r.entries e r.steps move refl }
