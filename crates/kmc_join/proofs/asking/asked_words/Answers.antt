use Rattle.std.proofs.Common.{◌≡◌, ◌+◌, length, sym, ap, ◌∙◌, arith}
use Rattle.kmc_sum.specs.Lemmas.Causes.{handed_on}
use Rattle.kmc_sum.specs.Source.{unread}
use Rattle.kmc_join.specs.Asking.{length_of}
use Rattle.kmc_join.proofs.AskedWords.{all_taken, other_taken, words_fault}
use Rattle.kmc_join.proofs.asking.asked_words.Goals as goal

pub returns-in_err-word-clause-cause : goal.returns-in_err-word-clause-cause
returns-in_err-word-clause-cause g c =
    let i = c.loop-step.invariant in
    let number : c.loop-step.step + 1 ≡ length c.loop-step.words.items + 1 = omega (arith, i.many) in
    handed_on c.from_residual.result _ _ c.from_residual.ensures.1
    (words_fault _ _ _ c.loop-step.words.items (unread c.loop-step.room) (c.loop-step.step + 1) _ _ _ _ i.gave number i.kept c.in_err-word.ensures.cause)

pub returns-in_default-clause-gave : goal.returns-in_default-clause-gave
returns-in_default-clause-gave g c =
    let o = rw c.in_default.is at c.in_ok-word.ensures.ok in
    all_taken _ _ _ c.loop-step.words.items _ _ c.loop-step.invariant.gave o.1 o.2.0 o.2.1

pub returns-then-k-length-clause-cause : goal.returns-then-k-length-clause-cause
returns-then-k-length-clause-cause g c =
    let i = c.loop-step.invariant in
    let words = c.loop-step.words.items in
    let o = rw c.in-Some.is at c.in_ok-word.ensures.ok in
    let long : c.length_of-length.result ≡ length_of words = c.length_of-length.ensures.is ∙ ap length_of c.deref.ensures.value in
    let number : c.loop-step.step + 1 ≡ length words + 1 = omega (arith, i.many) in (
      other_taken _ _ _ words _ _ i.gave o.1 c.in-Some.word _ (c.loop-step.step + 1) o.2.0 o.2.1 number (λ none. c.if-length-ne0.true (long ∙ none))
          (λ same. c.if-k-length.true (c.k.ensures.is ∙ same ∙ sym long)),
      c.in_ok-word.ensures.kept ∙ i.kept,
    )
