-- The search meets the option that the loop is at, and goes on where that is in range.
use Rattle.std.proofs.Common.{◌≡◌, ◌∙◌, ap, arith, drop, false, refl, sym, true}
use Rattle.std.specs.Prelude.{find, is_some, not}
use Rattle.clap.specs.Matches.{found_of}
use Rattle.clap.specs.Walk.{rows_of}
use Rattle.kmc_options.proofs.Searching.{meets}
use Rattle.kmc_options.specs.CommandLine.{value_of}
use Rattle.kmc_options.specs.Names.{settings}
use Rattle.kmc_options.proofs.given.first_out_of_range.Goals as goal

pub loop-setting-init : goal.loop-setting-init
loop-setting-init c = refl

pub loop-setting-preserved : goal.loop-setting-preserved
loop-setting-preserved c =
    let rows = rows_of (found_of c.args.matches.now) in
    let test = ap (λ o. not (is_some o)) (sym c.value.ensures.value) ∙ ap not c.is_none.ensures ∙ ap (λ b. not (not b)) c.if-is_none.false in
    c.loop-setting.invariant ∙ meets (λ s. not (is_some (value_of rows s))) settings c.loop-setting.setting-index _ false c.loop-setting-test.true test

pub returns-then-is_none : goal.returns-then-is_none
returns-then-is_none c =
    let rows = rows_of (found_of c.args.matches.now) in
    let test = ap (λ o. not (is_some o)) (sym c.value.ensures.value) ∙ ap not c.is_none.ensures ∙ ap (λ b. not (not b)) c.if-is_none.true in
    sym (c.loop-setting.invariant ∙ meets (λ s. not (is_some (value_of rows s))) settings c.loop-setting.setting-index _ true c.loop-setting-test.true test)

pub returns : goal.returns
returns c =
    let rows = rows_of (found_of c.args.matches.now) in
    let end : c.loop-setting.setting-index ≡ 8 = omega (arith, c.loop-setting-test.false, c.loop-setting.auto.setting-index-end) in
    sym (c.loop-setting.invariant ∙ ap (λ k. find (λ s. not (is_some (value_of rows s))) (drop k settings)) end)
