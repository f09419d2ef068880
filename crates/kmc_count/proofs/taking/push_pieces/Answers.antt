use Rattle.std.proofs.Common.{◌+◌, ◌*◌, ◌-◌, ◌≤◌, arith}
use Rattle.std.proofs.lemmas.List.{take_rest}
use Rattle.kmc_count.proofs.Pieces.{pieces_begin, piece_more, piece_last}
use Rattle.kmc_count.proofs.taking.push_pieces.Goals as goal

pub loop-at-init : goal.loop-at-init
loop-at-init c = pieces_begin c.args.rule.strands c.args.rule.k c.args.symbols c.args.bytes.now c.args.numbers.now.items c.requires.long

pub loop-at-preserved : goal.loop-at-preserved
loop-at-preserved c =
    let k = c.args.rule.k in
    let some : 1 ≤ k = c.args.rule.within.0 in
    let on = c.requires.on (omega (arith, c.loop-at-test.true)) in
    piece_more c.args.rule.strands k c.args.symbols c.args.bytes.now c.args.numbers.now.items _ _ _ c.loop-at.at c.args.on (4 * c.args.on + k - 1)
    (take_rest c.args.bytes.now c.loop-at.at) some (omega (arith, some)) (omega (arith, on.1, c.loop-at-test.true)) c.requires.inside
    c.in_ok-push_piece.ensures c.loop-at.invariant

pub returns : goal.returns
returns c =
    piece_last c.args.rule.strands c.args.rule.k c.args.symbols c.args.bytes.now c.args.numbers.now.items _ _ _ c.loop-at.at
    (take_rest c.args.bytes.now c.loop-at.at) c.in_ok-push_piece-2.ensures c.loop-at.invariant
