-- The command so far has the rules of those that were added, in their order.
use Rattle.std.proofs.Common.{◌≡◌, map, take}
use Rattle.std.specs.List.{fold}
use Rattle.clap.specs.Simple.{app_of, with_rule}
use Rattle.kmc_options.specs.CommandLine.{rule_of}
use Rattle.kmc_options.proofs.command.with_each.Given as goal

abbrev pub invariant-loop-named : goal.invariant-loop-named
invariant-loop-named g l =
    app_of l.command ≡ fold with_rule (app_of l.initial.command) (map (λ n. rule_of g.N.Named.action (g.N.Named.known_as n)) (take l.named-index l.all))
