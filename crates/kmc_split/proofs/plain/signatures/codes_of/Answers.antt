use Rattle.std.proofs.Common.{◌≡◌, ℕ, ◌<◌, length, slice_index, take, arith, sym, ◌∙◌, below_more, length-set}
use Rattle.std.proofs.lemmas.List.{same_lists, length-take-le, get_or-take}
use Rattle.std.proofs.lemmas.List.Elements.{All-from_get_or}
use Rattle.std.proofs.lemmas.Grind.{get_or_default_zero}
use Rattle.kmc_split.specs.Lemmas.Written.{set_more}
use Rattle.kmc_split.proofs.plain.signatures.codes_of.Goals as goal

pub loop-i-preserved : goal.loop-i-preserved
loop-i-preserved c =
    let w = c.args.w.now in
    let codes = c.loop-i.codes in
    let here : c.loop-i.i < length codes = omega (arith, c.loop-i.invariant.2) in
    let small : slice_index w c.loop-i.i < 4 = omega (arith, c.code_at.ensures.is, c.code_at.ensures.small) in (
      set_more (λ (j x : ℕ). x ≡ slice_index w j) codes c.loop-i.i c.code_at.result here c.code_at.ensures.is c.loop-i.invariant.0,
      below_more (λ (j : ℕ). slice_index w j < 4) c.loop-i.i c.loop-i.invariant.1 small,
      length-set codes c.loop-i.i c.code_at.result ∙ c.loop-i.invariant.2,
    )

pub returns-clause-are : goal.returns-clause-are
returns-clause-are c =
    let w = c.args.w.now in
    let codes = c.loop-i.codes in
    let n = length w in
    let front : length (take n codes) ≡ n = length-take-le n codes (omega arith) in
    same_lists (take n codes) w front
    (λ j d inside.
    let here : j < n = omega arith in
    get_or_default_zero (take n codes) j d inside ∙ get_or-take n codes j 0 here ∙ c.loop-i.invariant.0 j (omega arith) ∙ sym (get_or_default_zero w j d here))

pub returns-clause-small : goal.returns-clause-small
returns-clause-small c = All-from_get_or (λ (x : ℕ). x < 4) c.args.w.now 0 (λ j inside. c.loop-i.invariant.1 j (omega arith))
