use Rattle.std.proofs.Common.{ℕ, ◌-◌, List, ◌++◌, IfOk, OnErr, OnOk, subst, Some}
use Rattle.kmc_reads.specs.declared.format.Format.{Format}
use Rattle.kmc_reads.specs.Standing.{IsHandedOut, Stands}
use Rattle.kmc_stage_one.proofs.rounds.take_round.Goals as goal

pub returns-clause-stands : goal.returns-clause-stands
returns-clause-stands c = subst (λ (n : ℕ). (format : Format) (text : List ℕ) (taken : List (List ℕ))
    → Stands (Some (n - 1)) format text taken c.args.feeder.now
    → IfOk c.take_open.result (λ reads. Stands (Some (n - 1)) format text (taken ++ reads) c.take_open.new.self)) c.k.ensures.is c.take_open.ensures.stands

pub returns-clause-memory : goal.returns-clause-memory
returns-clause-memory c = subst (λ (n : ℕ). (format : Format) (text : List ℕ) (taken : List (List ℕ))
    → Stands (Some (n - 1)) format text taken c.args.feeder.now
    → OnErr c.take_open.result (Stands (Some (n - 1)) format text taken c.take_open.new.self)) c.k.ensures.is c.take_open.ensures.memory

pub returns-clause-handed : goal.returns-clause-handed
returns-clause-handed c = subst (λ (n : ℕ). OnOk c.take_open.result (IsHandedOut (n - 1) c.take_open.new.self.scan)) c.k.ensures.is c.take_open.ensures.handed
