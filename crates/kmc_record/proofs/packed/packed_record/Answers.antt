use Rattle.std.proofs.Common.{◌-◌, ◌*◌, ◌^◌, List, ℕ, ap, ◌∙◌}
use Rattle.kmc_base.specs.Packed.{pack}
use Rattle.kmc_base.specs.Strands.{key}
use Rattle.kmc_record.proofs.PackedBytes.{first_of_sixteen}
use Rattle.kmc_record.proofs.packed.packed_record.Goals as goal

pub returns : goal.returns
returns c =
    let n = c.args.symbols in
    c.packed_first.ensures
    ∙ ap (λ (s : List ℕ). pack (key c.args.strands s) * 4 ^ (64 - n))
    (first_of_sixteen n c.args.bytes.now c.sixteen.result c.requires.most c.requires.inside c.sixteen.ensures)
