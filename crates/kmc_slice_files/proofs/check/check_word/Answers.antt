use Rattle.std.proofs.Common.{◌*◌, ◌/◌, length, ap, ◌∙◌}
use Rattle.std.specs.Int.Bits.{bit_xor}
use Rattle.kmc_device.specs.Lemmas.Devices.{rest_is}
use Rattle.kmc_slice_files.specs.Check.{times, folded, rest_taken, hashed_words, hashed}
use Rattle.kmc_slice_files.proofs.check.check_word.Goals as goal

pub returns : goal.returns
unfolding hashed
returns c =
    let bytes = c.args.bytes.now in
    let words = length bytes / 8 in
    let state = c.hash_rest-state.ensures ∙ ap (rest_taken c.hash_words.result) (rest_is bytes (words * 8)) ∙ c.hash_words.ensures
    ∙ ap (λ s. hashed_words (bit_xor c.args.seed s) words bytes) c.multiply.ensures in
    c.fold-2.ensures ∙ ap folded (c.multiply-2.ensures ∙ ap times (c.fold.ensures ∙ ap folded state))
