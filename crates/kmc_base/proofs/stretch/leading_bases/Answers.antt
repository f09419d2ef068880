use Rattle.std.proofs.Common.{refl, arith, below_more, rules}
use Rattle.kmc_base.specs.Lemmas.Stretching.{bases_more}
use Rattle.kmc_base.proofs.stretch.leading_bases.Goals as goal

pub whole-preserved : goal.whole-preserved
whole-preserved c = record {
  within = omega arith;
  bases = bases_more c.whole.count 32 c.args.bytes.now _ refl c.whole-test.true (c.if-are_bases.ensures refl) c.whole.invariant.bases;
}

pub loop-i-preserved : goal.loop-i-preserved
loop-i-preserved c = below_more _ _ c.loop-i.invariant (c.if-not-is_base.ensures.yes refl)

pub returns-then-not-is_base-clause-end : goal.returns-then-not-is_base-clause-end
returns-then-not-is_base-clause-end c = search rules
