use Rattle.std.proofs.Common.{◌≡◌, ℕ, ◌+◌, ◌*◌, ◌^◌, ◌<◌, ◌++◌, List, [], ◌∷◌, length, take, slice_index, ap, sym, subst, ◌∙◌, arith}
use Rattle.std.proofs.lemmas.List.{take_all, take_more}
use Rattle.kmc_base.specs.Packed.{unpack}
use Rattle.kmc_base.specs.Lemmas.Packing.{fits_more, unpack_more}
use Rattle.kmc_split.specs.Lemmas.Lowest.{fits_most}
use Rattle.kmc_split.proofs.plain.signatures.packed.Goals as goal

-- there is room for one more code
room : (i p d : ℕ) → i < 11 → p < 4 ^ i → d < 4 → p * 4 + d < 2 ^ 32
room i p d less h small = omega (arith, fits_most (i + 1) (omega arith), fits_more i p d h small)

pub overflow_mul-number : goal.overflow_mul-number
overflow_mul-number c = omega (arith, room c.loop-i.i c.loop-i.number 0 (omega arith) c.loop-i.invariant.0 (omega arith))

pub overflow_add-number : goal.overflow_add-number
overflow_add-number c =
    let small : c.from.result < 4 = omega (arith, c.from.ensures, c.code_at.ensures.small) in
    omega (arith, room c.loop-i.i c.loop-i.number c.from.result (omega arith) c.loop-i.invariant.0 small)

pub loop-i-preserved : goal.loop-i-preserved
loop-i-preserved c =
    let w = c.args.w.now in
    let i = c.loop-i.i in
    let small : c.from.result < 4 = omega (arith, c.from.ensures, c.code_at.ensures.small) in
    let is : c.from.result ≡ slice_index w i = c.from.ensures ∙ c.code_at.ensures.is in
    let inside : i < length w = omega arith in (
      fits_more i c.loop-i.number c.from.result c.loop-i.invariant.0 small,
      unpack_more i c.loop-i.number c.from.result small ∙ ap (λ (t : List ℕ). t ++ c.from.result ∷ []) c.loop-i.invariant.1
          ∙ ap (λ (d : ℕ). take i w ++ d ∷ []) is ∙ sym (take_more w i 0 inside),
    )

pub returns-clause-fits : goal.returns-clause-fits
returns-clause-fits c =
    let all : c.loop-i.i ≡ length c.args.w.now = omega arith in
    subst (λ (i : ℕ). c.loop-i.number < 4 ^ i) all c.loop-i.invariant.0

pub returns-clause-is : goal.returns-clause-is
returns-clause-is c =
    let w = c.args.w.now in
    let all : c.loop-i.i ≡ length w = omega arith in
    ap (λ (i : ℕ). unpack i c.loop-i.number) (sym all) ∙ c.loop-i.invariant.1 ∙ take_all c.loop-i.i w (omega arith)
