use Rattle.std.proofs.Common.{◌≡◌, ◌+◌, ◌-◌, ◌++◌, map}
use Rattle.kmc_base.specs.Lemmas.Rolling.{IsRolling, keys_upto}
use Rattle.kmc_base.proofs.plain.keys.push_keys.Given as goal

abbrev pub invariant-loop-i : goal.invariant-loop-i
invariant-loop-i g l = record {
  rolling : IsRolling l.k l.codes l.i (g.W.PackedKmer.number l.forward) (g.W.PackedKmer.number l.back);
  pushed : map g.W.PackedKmer.number l.words.items ≡ map g.W.PackedKmer.number l.initial.words.items ++ keys_upto l.strands l.k l.codes (l.i + 1 - l.k);
}
