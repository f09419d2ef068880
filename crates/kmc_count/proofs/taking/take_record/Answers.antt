use Rattle.std.proofs.Common.{ℕ, List, [], ◌∷◌, ◌++◌, map, take, subst, arith, length-take}
use Rattle.kmc_base.specs.Lemmas.Weights.{pow_two_some}
use Rattle.kmc_base.specs.Record.{codes_in}
use Rattle.kmc_record.specs.RecordKeys.{IsTaken}
use Rattle.kmc_record.specs.Lemmas.Taken.{pieces_taken, words_taken}
use Rattle.kmc_count.proofs.Pieces.{first_of_bytes, front_is_record}
use Rattle.kmc_count.proofs.taking.take_record.Goals as goal

pub returns-in_ok-push_pieces-clause-taken : goal.returns-in_ok-push_pieces-clause-taken
returns-in_ok-push_pieces-clause-taken g c = λ ss taken.
    let num = g.W.PackedKmer.number in
    let rule = c.args.form.rule in
    pieces_taken rule.strands rule.k c.args.form.bits c.args.numbers.now.items _ (map num c.args.items.now.items) ss
    (take c.args.symbols (codes_in c.args.bytes.now)) c.in_ok-push_pieces.ensures taken

pub returns-in_ok-push_record-clause-taken : goal.returns-in_ok-push_record-clause-taken
returns-in_ok-push_record-clause-taken g c = λ ss taken.
    let num = g.W.PackedKmer.number in
    let rule = c.args.form.rule in
    let bs = c.args.bytes.now in
    let n = c.args.symbols in
    let m = c.code_bytes.result in
    subst (λ (s : List ℕ). IsTaken rule.strands rule.k c.args.form.bits c.args.numbers.now.items (map num c.push_record.new.words.items) (ss ++ s ∷ []))
    (first_of_bytes n m bs (omega (arith, c.code_bytes.ensures)))
    (words_taken rule.strands rule.k c.args.form.bits c.args.numbers.now.items (map num c.args.items.now.items) _ ss
    (take n (codes_in (take m bs))) (front_is_record rule.k n (take m bs) c.requires.long
    (omega (arith, length-take m bs, c.requires.inside, c.code_bytes.ensures)))
    c.in_ok-push_record.ensures (pow_two_some c.args.form.bits) taken)
