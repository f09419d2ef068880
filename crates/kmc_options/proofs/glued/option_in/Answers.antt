-- The search meets the option that the loop is at, and goes on where that has no value in the word.
use Rattle.std.proofs.Common.{◌≡◌, ◌∙◌, Option, Some, None, ap, arith, drop, false, refl, sym, true}
use Rattle.std.specs.Prelude.{find, is_some}
use Rattle.std.specs.Option.{option_map}
use Rattle.kmc_options.proofs.Searching.{meets}
use Rattle.kmc_options.specs.Glued.{value_in}
use Rattle.kmc_options.specs.Names.{settings}
use Rattle.kmc_options.proofs.glued.option_in.Goals as goal
use Rattle.kmc_options.specs.Words.{Word}

some_of : {B : Type 0} (f : B → Word) (o : Option B) → is_some (option_map f o) ≡ is_some o
some_of f None = refl
some_of f (Some x) = refl

pub loop-setting-init : goal.loop-setting-init
loop-setting-init c = refl

pub loop-setting-preserved : goal.loop-setting-preserved
loop-setting-preserved c =
    let test = ap is_some (sym c.value_in.ensures) ∙ some_of _ c.value_in.result ∙ sym c.is_some.ensures ∙ c.if-is_some.false in
    c.loop-setting.invariant ∙ meets (λ s. is_some (value_in s c.args.word.now)) settings c.loop-setting.setting-index _ false c.loop-setting-test.true test

pub returns-then-is_some : goal.returns-then-is_some
returns-then-is_some c =
    let test = ap is_some (sym c.value_in.ensures) ∙ some_of _ c.value_in.result ∙ sym c.is_some.ensures ∙ c.if-is_some.true in
    sym (c.loop-setting.invariant ∙ meets (λ s. is_some (value_in s c.args.word.now)) settings c.loop-setting.setting-index _ true c.loop-setting-test.true test)

pub returns : goal.returns
returns c =
    let end : c.loop-setting.setting-index ≡ 8 = omega (arith, c.loop-setting-test.false, c.loop-setting.auto.setting-index-end) in
    sym (c.loop-setting.invariant ∙ ap (λ k. find (λ s. is_some (value_in s c.args.word.now)) (drop k settings)) end)
