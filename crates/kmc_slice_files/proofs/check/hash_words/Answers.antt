use Rattle.std.proofs.Common.{◌+◌, ◌-◌, ◌*◌, drop, ap, ◌∙◌}
use Rattle.kmc_slice_files.specs.Check.{taken, hashed_words}
use Rattle.kmc_slice_files.proofs.Hashing.{word_taken}
use Rattle.kmc_slice_files.proofs.check.hash_words.Goals as goal

pub loop-i-preserved : goal.loop-i-preserved
loop-i-preserved c =
    let i = c.loop-i.i in
    let bytes = c.args.bytes.now in
    ap (λ x. hashed_words x (c.args.words - (i + 1)) (drop ((i + 1) * 8) bytes))
    (c.take_word-state.ensures ∙ ap (taken c.loop-i.state) c.word_at.ensures)
    ∙ word_taken c.loop-i.state c.args.words bytes i c.loop-i-test.true ∙ c.loop-i.invariant
