-- The text of a dump.
use Rattle.std.proofs.Common.{◌≡◌, ℕ, List, length, refl}
use Rattle.std.specs.Prelude.{Option}
use Rattle.kmc_base.specs.declared.strands.Strands.{Strands}
use Rattle.kmc_reads.specs.declared.format.Format.{Format}
use Rattle.kmc_count.specs.declared.limits.Limits.{Limits}
use Rattle.kmc_lists.specs.Line.{text_of}
use Rattle.kmc_tool.specs.Run.{IsDumpOf, IsDumpOfInput}

-- pairs that are the dump of an input give its text, with as many lines
pub is_dump_of : {format : Format} {strands : Strands} {k : ℕ} {limits : Limits} {old new : Option (List ℕ)} {pairs : List (List ℕ × ℕ)} {lines : ℕ}
    → (input : IsDumpOfInput format strands k limits old new pairs) → lines ≡ length pairs → IsDumpOf format input.bytes strands k limits (text_of pairs) lines
is_dump_of {pairs = pairs} input count = record {
  reads = input.reads;
  are_reads = input.are_reads;
  pairs = pairs;
  is_dump = input.is_dump;
  is_text = refl;
  is_count = count;
}
