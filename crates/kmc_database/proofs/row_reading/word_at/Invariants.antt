use Rattle.std.proofs.Common.{◌≡◌, ◌+◌, ◌*◌, ◌/◌, ◌^◌, ◌<◌, take}
use Rattle.std.specs.Int.{bytes_high_first}
use Rattle.kmc_database.proofs.row_reading.word_at.Given as goal

-- the word of the bytes so far
abbrev pub invariant-loop-i : goal.invariant-loop-i
invariant-loop-i l = record {
  fits : l.packed < 4 ^ (l.layout.prefix + 4 * l.i);
  part : l.packed / 256 ^ l.i ≡ l.part;
  rest : bytes_high_first l.i l.packed ≡ take l.i l.bytes;
}
