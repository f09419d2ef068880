use Rattle.std.proofs.Common.{◌≡◌, ◌⊎◌, List, subst}
use Rattle.kmc_options.specs.Words.{Word}
use Rattle.kmc_join.specs.Program.{AskForNothing, IsDone, IsLeft}
use Rattle.kmc_join.specs.declared.request.JoinRequestError.{JoinRequestError}
use Rattle.kmc_join.proofs.arguments.run_words.Goals as goal

pub returns-in-Ok-clause-done : goal.returns-in-Ok-clause-done
returns-in-Ok-clause-done g c = λ is.
    let done = c.run_named.ensures.done is in
    (subst (λ (ws : List Word). IsDone ws (g.W.Write.contents c.args.writer.now.inner) (g.W.Write.contents c.run_named.new.writer.inner)) c.in-Ok.ensures done.0, done.1)

pub returns-in-Ok-clause-misused : goal.returns-in-Ok-clause-misused
returns-in-Ok-clause-misused g c = λ is.
    let misused = c.run_named.ensures.misused is in
    (subst (λ (ws : List Word). (e : JoinRequestError) × AskForNothing ws e) c.in-Ok.ensures misused.0, misused.1)

pub returns-in-Ok-clause-failed : goal.returns-in-Ok-clause-failed
returns-in-Ok-clause-failed g c = λ is.
    subst (λ (ws : List Word). (c.run_named.new.writer ≡ c.args.writer.now) ⊎ IsLeft ws g.W.Write.contents c.args.writer.now c.run_named.new.writer)
    c.in-Ok.ensures (c.run_named.ensures.failed is)
