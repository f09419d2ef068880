use Rattle.std.proofs.Common.{◌≡◌, ◌+◌, ◌/◌, length, append-nil, sym, arith}
use Rattle.kmc_base.proofs.Written.{pushed_more, pushed_all}
use Rattle.kmc_base.proofs.spell.push_packed.Goals as goal

pub loop-j-preserved : goal.loop-j-preserved
loop-j-preserved c = (
  pushed_more c.args.codes.now c.args.out.now.items c.loop-j.out.items c.push_reserved.new.self.items c.loop-j.j c.whole_byte_at.result
      (omega (arith, c.loop-j-test.true)) c.whole_byte_at.ensures c.loop-j.invariant.0 c.push_reserved.ensures.items,
  omega (arith, c.loop-j.invariant.1, c.push_reserved.ensures.len, c.push_reserved.ensures.capacity, c.loop-j-test.true),
)

pub returns-then-whole-codes : goal.returns-then-whole-codes
returns-then-whole-codes c =
    let codes = c.args.codes.now in
    let at : c.loop-j.j ≡ length codes / 4 = omega arith in
    pushed_all (c.loop-j.j + 1) codes c.args.out.now.items c.push_reserved-then-whole-codes.new.self.items
    (omega (arith, at, c.if-whole-codes.true))
    (pushed_more codes c.args.out.now.items c.loop-j.out.items c.push_reserved-then-whole-codes.new.self.items c.loop-j.j c.byte_at.result
    (omega (arith, at, c.if-whole-codes.true)) (rw at c.byte_at.ensures) c.loop-j.invariant.0 c.push_reserved-then-whole-codes.ensures.items)

pub returns-else-whole-codes : goal.returns-else-whole-codes
returns-else-whole-codes c =
    pushed_all c.loop-j.j c.args.codes.now c.args.out.now.items c.loop-j.out.items (omega (arith, c.if-whole-codes.false)) c.loop-j.invariant.0

pub loop-j-init : goal.loop-j-init
loop-j-init c = (sym (append-nil c.args.out.now.items), omega (arith, c.requires.room))
