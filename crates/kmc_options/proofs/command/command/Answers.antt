-- The rules of the options and those of the flags, one after the other, are those of the program's command.
use Rattle.std.proofs.Common.{◌≡◌, ◌∙◌, List, ap, map, refl}
use Rattle.std.specs.List.{fold}
use Rattle.std.proofs.lemmas.Result.{IfOk-weaker}
use Rattle.clap.specs.Simple.{App, with_rule}
use Rattle.kmc_options.specs.CommandLine.{command, flag_rule, option_rule, plain}
use Rattle.kmc_options.specs.Names.{flags_of, settings_of}
use Rattle.kmc_options.specs.declared.named.Flag.{Flag}
use Rattle.kmc_options.specs.declared.program.Program.{Program}
use Rattle.kmc_options.specs.declared.program.Program.TheVariants.{Kmc, KmcMerge, KmcCut, KmcList, KmcDb}
use Rattle.kmc_options.specs.declared.setting.Setting.{Setting}
use Rattle.kmc_options.proofs.command.command.Goals as goal

with_options : App → List Setting → App
with_options a all = fold with_rule a (map option_rule all)

with_flags : App → List Flag → App
with_flags a all = fold with_rule a (map flag_rule all)

built : (p : Program) → with_flags (with_options plain (settings_of p)) (flags_of p) ≡ command p
unfolding with_options with_flags
built Kmc = refl
built KmcMerge = refl
built KmcCut = refl
built KmcList = refl
built KmcDb = refl

pub returns : goal.returns
unfolding with_options with_flags
returns c =
    let options = c.in-Ok.ensures ∙ ap (λ a. with_options a c.options.result.now) c.plain.ensures ∙ ap (with_options plain) c.options.ensures in
    IfOk-weaker c.with_each-2.result _ _
    (λ r is. is ∙ ap (λ a. with_flags a c.flags.result.now) options ∙ ap (with_flags (with_options plain (settings_of c.args.program))) c.flags.ensures
    ∙ built c.args.program)
    c.with_each-2.ensures
