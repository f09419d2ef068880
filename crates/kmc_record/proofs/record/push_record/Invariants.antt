use Rattle.std.proofs.Common.{◌+◌, ◌*◌, min, take, map, vec_len, vec_capacity}
use Rattle.kmc_base.specs.Lemmas.Rolling.{IsRolling}
use Rattle.kmc_record.proofs.Filling.{Holds}
use Rattle.kmc_base.specs.Record.{codes_in}
use Rattle.kmc_record.proofs.record.push_record.Given as goal

-- the window behind the first bytes
abbrev pub invariant-front : goal.invariant-front
invariant-front g l = IsRolling l.rule.k (take l.symbols (codes_in l.bytes)) (4 * l.j) (g.W.PackedKmer.number l.forward) (g.W.PackedKmer.number l.back)

abbrev pub invariant-head : goal.invariant-head
invariant-head g l = IsRolling l.rule.k (take l.symbols (codes_in l.bytes)) l.i (g.W.PackedKmer.number l.forward) (g.W.PackedKmer.number l.back)

abbrev pub invariant-near : goal.invariant-near
invariant-near g l = Holds l.rule.strands l.rule.k l.symbols l.weight.bits l.weight.times l.i (g.W.PackedKmer.number l.forward) (g.W.PackedKmer.number l.back)
    (codes_in l.bytes) (map g.W.PackedKmer.number l.fn.words.items) (map g.W.PackedKmer.number l.words.items) (vec_len l.words) (vec_capacity l.words)

abbrev pub invariant-bytes : goal.invariant-bytes
invariant-bytes g l = Holds l.rule.strands l.rule.k l.symbols l.weight.bits l.weight.times (min (4 * l.j) l.symbols) (g.W.PackedKmer.number l.forward)
    (g.W.PackedKmer.number l.back) (codes_in l.bytes) (map g.W.PackedKmer.number l.fn.words.items) (map g.W.PackedKmer.number l.words.items) (vec_len l.words)
    (vec_capacity l.words)

abbrev pub invariant-codes : goal.invariant-codes
invariant-codes g l = Holds l.rule.strands l.rule.k l.symbols l.weight.bits l.weight.times (4 * l.j + l.r) (g.W.PackedKmer.number l.forward)
    (g.W.PackedKmer.number l.back) (codes_in l.bytes) (map g.W.PackedKmer.number l.fn.words.items) (map g.W.PackedKmer.number l.words.items) (vec_len l.words)
    (vec_capacity l.words)

abbrev pub invariant-rest : goal.invariant-rest
invariant-rest g l = Holds l.rule.strands l.rule.k l.symbols l.weight.bits l.weight.times l.i (g.W.PackedKmer.number l.forward) (g.W.PackedKmer.number l.back)
    (codes_in l.bytes) (map g.W.PackedKmer.number l.fn.words.items) (map g.W.PackedKmer.number l.words.items) (vec_len l.words) (vec_capacity l.words)
