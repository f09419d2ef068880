use Rattle.std.proofs.Common.{◌≡◌, ◌*◌, ◌-◌, ◌∙◌, ap, sym, arith, bit_and, ◌/◌, ◌^◌, length, List, ℕ}
use Rattle.kmc_base.specs.Words.{window}
use Rattle.kmc_base.specs.Packed.{unpack}
use Rattle.kmc_base.specs.Lemmas.Packing.{length_unpack}
use Rattle.kmc_base.proofs.Subwords.{masked_fits, sub_is}
use Rattle.kmc_base.proofs.kmer.Kmer.sub.Goals as goal

pub invariant_of-result : goal.invariant_of-result
invariant_of-result c = record {
  some = c.requires.some;
  most = omega (arith, c.requires.inside, c.k.ensures.is, c.k.ensures.most);
  fits = masked_fits c.args.m _ c.ones.result c.ones.ensures;
}

pub returns : goal.returns
returns c =
    let n = c.self.inside.k in
    let p = c.self.inside.packed in
    let long : length c.args.self.now ≡ n = ap length (sym c.self.view_is) ∙ length_unpack n p in
    let count = c.k.ensures.is ∙ long in
    ap (λ k. unpack c.args.m (bit_and (p / 2 ^ (2 * (k - c.args.i - c.args.m))) c.ones.result)) count
    ∙ sub_is n c.args.i c.args.m p c.ones.result (omega (arith, c.requires.inside, long)) c.ones.ensures
    ∙ ap (λ (w : List ℕ). window c.args.m w c.args.i) c.self.view_is
