use Rattle.std.proofs.Common.{◌≡◌, ℕ, ◌-◌, ◌^◌, ◌<◌, length, drop, subst, sym, ◌∙◌, arith}
use Rattle.std.proofs.lemmas.List.{length-take-le}
use Rattle.kmc_split.proofs.Fronts.{front_number}
use Rattle.kmc_split.proofs.offering.offer_in.Goals as goal

pub returns : goal.returns
returns g c =
    let f = g.V.Mmer.number in
    let m = c.args.m in
    let codes = c.args.codes.now in
    let room = c.args.room.now in
    let n = length codes - (m - 1) in
    let out = c.candidates.new.out in
    let rest = drop n room in
    let few : length out ≡ n = c.candidates.auto.out ∙ length-take-le n room (omega (arith, c.requires.long)) in
    record {
      each = λ i inside. front_number f out rest i (omega arith) ∙ c.candidates.ensures.each i (omega arith);
      fit = λ i inside. subst (λ (x : ℕ). x < 4 ^ m) (sym (front_number f out rest i (omega arith))) (c.candidates.ensures.fit i (omega arith));
    }
