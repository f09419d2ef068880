-- Each turn adds one more rule.
use Rattle.std.proofs.Common.{◌∙◌, ap, arith, map, sym, take, take_all}
use Rattle.std.specs.List.{fold}
use Rattle.clap.specs.Simple.{app_of, with_rule}
use Rattle.clap.specs.Walk.{Rule}
use Rattle.kmc_options.specs.CommandLine.{rule_of}
use Rattle.kmc_options.proofs.Building.{added}
use Rattle.kmc_options.proofs.command.with_each.Goals as goal

pub loop-named-preserved : goal.loop-named-preserved
loop-named-preserved g c =
    let rule : g.row.N.Denot → Rule = λ n. rule_of g.N.Named.action (g.N.Named.known_as n) in
    let one = added with_rule rule (app_of c.args.plain) c.args.all.now c.loop-named.named-index c.named-item.result (omega arith) in
    c.in-Ok.ensures.shape c.argument.ensures.local ∙ ap (with_rule (app_of c.loop-named.command)) c.argument.ensures.rule
    ∙ ap (λ a. with_rule a (rule c.named-item.result)) c.loop-named.invariant
    ∙ ap (λ n. with_rule (fold with_rule (app_of c.args.plain) (map rule (take c.loop-named.named-index c.args.all.now))) (rule n)) c.named-item.is ∙ sym one

pub returns : goal.returns
returns g c =
    let rule : g.row.N.Denot → Rule = λ n. rule_of g.N.Named.action (g.N.Named.known_as n) in
    c.loop-named.invariant ∙ ap (λ l. fold with_rule (app_of c.args.plain) (map rule l))
    (take_all c.loop-named.named-index c.args.all.now (omega (arith, c.loop-named-test.false)))
