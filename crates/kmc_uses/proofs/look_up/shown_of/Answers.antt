use Rattle.std.proofs.Common.{◌≡◌, false, true, get_or, sym, ap, ◌∙◌, arith}
use mathlib.Core.Logic.{dite}
use native.Mathlib.Decide.{ℕ_discrete}
use Rattle.std.specs.Cmp.Lexicographic.{nat_list_eq_equiv}
use Rattle.std.proofs.lemmas.List.{get_or_default}
use Rattle.kmc_count.specs.Occurrences.{same_word}
use Rattle.kmc_uses.proofs.look_up.shown_of.Goals as goal

pub loop-listed-preserved : goal.loop-listed-preserved
loop-listed-preserved c = λ i d less same.
    let pairs = c.args.pairs.now in
    dite (ℕ_discrete i c.loop-listed.listed-index)
    (λ here.
    let read = get_or_default pairs c.loop-listed.listed-index c.loop-listed-item.result d c.loop-listed-test.true in
    let found = ap (λ p. p.0) (c.loop-listed-item.is ∙ read ∙ ap (λ j. get_or pairs j d) (sym here)) ∙ same in
    let differs : false ≡ true = sym c.if-eq.false ∙ c.eq.ensures ∙ ap (λ w. same_word w c.args.word.now) found
    ∙ nat_list_eq_equiv.refl c.args.word.now in
    cc)
    (λ there. c.loop-listed.invariant i d (omega (arith, less, there)) same)
