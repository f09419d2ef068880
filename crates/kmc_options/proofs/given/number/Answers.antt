-- Each setting is among those that are judged.
use Rattle.std.proofs.Common.{◌≡◌, ◌∙◌, ◌<◌, ℕ, ap, arith, false, refl, sym, true}
use Rattle.std.specs.List.{slice_index_or}
use Rattle.std.specs.Prelude.{is_some, not}
use Rattle.clap.specs.Matches.{found_of}
use Rattle.clap.specs.Walk.{rows_of}
use Rattle.kmc_options.proofs.Searching.{passes}
use Rattle.kmc_options.specs.CommandLine.{value_of}
use Rattle.kmc_options.specs.Names.{settings}
use Rattle.kmc_options.proofs.given.number.Goals as goal
use Rattle.kmc_options.specs.declared.setting.Setting.{Setting}
use Rattle.kmc_options.specs.declared.setting.Setting.TheVariants.{K, P, N, Ci, Cx, Cs, Sp, Sr}

place : (s : Setting) → (i : ℕ) × (i < 8) × (slice_index_or settings i K ≡ s)
place K = (0, omega arith, refl)
place P = (1, omega arith, refl)
place N = (2, omega arith, refl)
place Ci = (3, omega arith, refl)
place Cx = (4, omega arith, refl)
place Cs = (5, omega arith, refl)
place Sp = (6, omega arith, refl)
place Sr = (7, omega arith, refl)

pub unreachable-requires : goal.unreachable-requires
unreachable-requires c =
    let rows = rows_of (found_of c.args.matches.now) in
    let at = place c.args.setting in
    let in_range : not (is_some (value_of rows (slice_index_or settings at.0 K))) ≡ false
    = passes (λ s. not (is_some (value_of rows s))) settings at.0 K c.requires at.1 in
    let absent = ap (λ o. not (is_some o)) (sym c.value.ensures.value ∙ c.in-None.is) in
    let clash : true ≡ false = sym absent ∙ ap (λ s. not (is_some (value_of rows s))) (sym at.2) ∙ in_range in
    absurd (cc)
