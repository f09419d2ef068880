use Rattle.std.proofs.Common.{◌≡◌, ℕ, ◌<◌, ◌↔◌, IsTrue, List, take, sym, subst}
use Rattle.std.specs.List.{All}
use Rattle.std.proofs.lemmas.List.Elements.{All-from_recursion}
use Rattle.kmc_base.specs.Words.{windows}
use Rattle.kmc_base.specs.Lemmas.Rolling.{codes_front}
use Rattle.kmc_split.specs.Signature.{bin_of}
use Rattle.kmc_base.specs.Record.{codes_in}
use Rattle.kmc_record.specs.Shapes.{Sizes}
use Rattle.kmc_base.specs.Lemmas.Codes.{are_codes}
use Rattle.kmc_record.proofs.belong.belongs.Goals as goal

pub words_in_bin-requires-clause-codes : goal.words_in_bin-requires-clause-codes
words_in_bin-requires-clause-codes c =
    let n = c.args.symbols in
    let bs = c.args.bytes.now in
    subst (λ (t : List ℕ). All (λ x. x < 4) (take n t)) (sym c.unpack.ensures)
    (All-from_recursion (λ (x : ℕ). x < 4) (take n (codes_in bs)) (codes_front n (codes_in bs) (are_codes bs)))

pub returns : goal.returns
returns c =
    let codes = take c.args.symbols (codes_in c.args.bytes.now) in
    let r = c.words_in_bin.result in
    let bin = c.args.bin in
    subst (λ (s : Sizes). IsTrue r ↔ All (λ w. bin_of s.m s.n w ≡ bin) (windows s.k codes))
    (λ i. record { k = c.k.ensures.is i; m = c.m.ensures.is i; n = c.n.ensures.is i })
    (subst (λ (t : List ℕ). IsTrue r ↔ All (λ w. bin_of c.m.result c.n.result w ≡ bin) (windows c.k.result (take c.args.symbols t)))
    c.unpack.ensures c.words_in_bin.ensures)
