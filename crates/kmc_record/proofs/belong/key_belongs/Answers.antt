use Rattle.std.proofs.Common.{◌≡◌, ◌*◌, ◌%◌, ◌≤◌, ◌↔◌, IsTrue, List, ℕ, take, ap, subst, ◌∙◌, arith}
use Rattle.std.proofs.lemmas.List.{take-take}
use Rattle.kmc_base.specs.Words.{windows}
use Rattle.kmc_base.specs.Record.{codes_in}
use Rattle.kmc_base.specs.Lemmas.Codes.{take_codes}
use Rattle.kmc_record.specs.Bodies.{Belong}
use Rattle.kmc_record.specs.RecordKeys.{codes_of}
use Rattle.kmc_record.proofs.belong.key_belongs.Goals as goal

pub returns : goal.returns
returns c =
    let shape = c.args.shape in
    let n = c.args.key % 64 in
    let m = c.code_bytes.result in
    let bytes = c.key_bytes-bytes.result in
    let inside : n ≤ 4 * m = omega (arith, c.code_bytes.ensures) in
    let same : take n (codes_in (take m bytes)) ≡ codes_of c.args.key =
    ap (take n) (take_codes m bytes) ∙ take-take n (4 * m) (codes_in bytes) inside ∙ c.key_bytes-bytes.ensures in
    subst (λ (w : List ℕ). IsTrue c.belongs.result ↔ Belong c.args.bin shape (windows shape.k w)) same c.belongs.ensures
