use Rattle.std.proofs.Common.{◌∙◌, arith}
use Rattle.kmc_record.proofs.Chunks.{packed_runs, codes_taken}
use Rattle.kmc_record.proofs.parts.push_stretch.Goals as goal

pub push_runs-requires-clause-runs : goal.push_runs-requires-clause-runs
push_runs-requires-clause-runs c =
    packed_runs c.args.shape c.k-k.result c.m.result c.args.codes.now _ c.cut.new.runs.items _ c.k-k.ensures.is c.m.ensures.is c.requires.codes
    (c.as_slice.ensures.value ∙ c.in_ok-pack_codes.ensures) c.as_slice-2.ensures.value c.in_ok-cut.ensures.each

pub returns-clause-taken : goal.returns-clause-taken
returns-clause-taken c = λ start.
    codes_taken c.args.shape c.k-k.result c.m.result start c.args.codes.now _ c.cut.new.runs.items _ _ _ c.k-k.ensures.is c.m.ensures.is c.requires.codes
    (c.as_slice.ensures.value ∙ c.in_ok-pack_codes.ensures) c.as_slice-2.ensures.value
    (omega (arith, c.if-codes-k.false)) c.in_ok-cut.ensures.cut c.in_ok-cut.ensures.each c.in_ok-push_runs.ensures
