use Rattle.std.proofs.Common.{ℕ, List, ◌^◌, ◌<◌, subst, arith, take_all}
use Rattle.std.specs.Prelude.{All}
use Rattle.kmc_lists.specs.Listed.{Listed}
use Rattle.kmc_lists.specs.Ordered.{joined, packs}
use Rattle.kmc_packer.proofs.Great.{great_in_list}
use Rattle.kmc_packer.proofs.counts.have_great.Goals as goal

pub returns-then-has_great-clause-great : goal.returns-then-has_great-clause-great
returns-then-has_great-clause-great g c = λ _.
    great_in_list c.args.layout.now.counter c.args.lists.now c.loop-list.list-index c.list-item.result (omega (arith, c.loop-list-test.true)) c.list-item.is
    (c.has_great.ensures.great c.if-has_great.true)

pub returns-clause-held : goal.returns-clause-held
returns-clause-held g c = λ _.
    subst (λ (ls : List Listed). All (λ (q : ℕ × ℕ). q.1 < 256 ^ c.args.layout.now.counter) (joined (packs ls)))
    (take_all c.loop-list.list-index c.args.lists.now (omega (arith, c.loop-list-test.false))) c.loop-list.invariant.held
