use Rattle.std.proofs.Common.{◌≡◌, ℕ, ◌≤◌, ◌-◌, ◌++◌, List, length, map, take}
use Rattle.kmc_base.specs.Packed.{pack}
use Rattle.kmc_base.specs.Record.{IsBodyOf}
use Rattle.kmc_record.specs.RecordWords.{record_keys}
use Rattle.kmc_record.proofs.plain.body.push_body.Given as goal

-- whole records up to the offset, and their keys
abbrev pub invariant-loop-offset : goal.invariant-loop-offset
invariant-loop-offset g l = record {
  inside : l.offset ≤ length l.body;
  records : (ss : List (List ℕ)) × IsBodyOf l.k ss (take l.offset l.body)
      × (map g.W.PackedKmer.number l.words.items ≡ map g.W.PackedKmer.number l.initial.words.items ++ map pack (record_keys l.strands l.k ss));
}

abbrev pub decreases-loop-offset : goal.decreases-loop-offset
decreases-loop-offset g l = length l.body - l.offset
