use Rattle.std.proofs.Common.{take, arith}
use Rattle.kmc_device.specs.Lemmas.Devices.{on_err}
use Rattle.kmc_dump.proofs.DumpText.{line_gathered, gathered_front, not_flushed}
use Rattle.kmc_dump.proofs.plain.dump.write_dump.Goals as goal

pub returns-in_err-filled-clause-front : goal.returns-in_err-filled-clause-front
returns-in_err-filled-clause-front g c =
    on_err c.from_residual.result _ (gathered_front _ _ _ c.args.pairs.now c.loop-word.word-index
    (take c.loop-word.filled c.loop-word.room) c.loop-word.invariant.out c.in_err-filled.ensures.front)

pub put_line-filled-requires : goal.put_line-filled-requires
put_line-filled-requires g c = omega (arith, c.in_ok-filled.ensures.ok.0, c.line_room.ensures.is, c.k.ensures.is)

pub loop-word-preserved : goal.loop-word-preserved
loop-word-preserved g c = record {
  within = omega (arith, c.put_line-filled.ensures.end, c.in_ok-filled.ensures.ok.0, c.line_room.ensures.is, c.k.ensures.is);
  kept = cc (c.in_ok-filled.ensures.ok.1, c.loop-word.invariant.kept);
  out = line_gathered _ _ _ c.args.pairs.now c.loop-word.word-index c.loop-word-item.result _ _ _ c.loop-word-test.true c.loop-word-item.is c.loop-word.invariant.out
      c.in_ok-filled.ensures.ok.2 c.put_line-filled.ensures.line;
}

pub returns-in_err-write_text-clause-front : goal.returns-in_err-write_text-clause-front
returns-in_err-write_text-clause-front g c =
    on_err c.from_residual-in_err-write_text.result _ (gathered_front _ _ _ c.args.pairs.now c.loop-word.word-index
    (take c.loop-word.filled c.loop-word.room) c.loop-word.invariant.out c.in_err-write_text.ensures.front)

pub returns-in-Err-clause-front : goal.returns-in-Err-clause-front
returns-in-Err-clause-front g c =
    not_flushed _ _ _ _ c.args.pairs.now c.loop-word.word-index
    (take c.loop-word.filled c.loop-word.room) c.loop-word.invariant.out c.in_ok-write_text.ensures.ok c.in-Err.ensures.bytes
