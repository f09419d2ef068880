use Rattle.std.proofs.Common.{ℕ, List, ◌++◌, length, drop, get_or, sym, ap, ◌∙◌, rules}
use Rattle.kmc_slice_files.specs.Check.{mixed}
use Rattle.kmc_slice_files.proofs.Hashing.{zeros, all_zero, padded, same_word, rest_is_one}
use Rattle.kmc_slice_files.proofs.check.hash_rest.Goals as goal

pub returns : goal.returns
returns c =
    let rest = c.args.rest.now in
    let behind = drop (length rest) (zeros 8) in
    c.mix.ensures
    ∙ ap (mixed c.args.state) (c.from_le_bytes.ensures ∙ same_word (c.copy_from_slice.new.self ++ behind) rest
    (λ i. ap (λ (l : List ℕ). get_or (l ++ behind) i 0) c.copy_from_slice.ensures.after ∙ padded rest behind (all_zero 8 (length rest)) i))
    ∙ sym (rest_is_one c.args.state rest (search (rules, c.if-is_empty.ensures, c.if-is_empty.false)))
