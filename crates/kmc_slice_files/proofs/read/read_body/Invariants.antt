use Rattle.std.proofs.Common.{ℕ, List, length, ◌+◌, ◌++◌, ◌≡◌}
use Rattle.std.specs.Io.KnownBytes.{Consumes}
use Rattle.kmc_slice_files.proofs.read.read_body.Given as goal

abbrev pub invariant-loop-left : goal.invariant-loop-left
invariant-loop-left g l = record {
  same : l.reader.failures ≡ l.initial.reader.failures;
  came : (body : List ℕ) × (length body + l.left ≡ l.long) × (l.out.items ≡ l.initial.out.items ++ body)
      × Consumes (g.R.Read.remaining l.initial.reader.inner) (g.R.Read.remaining l.reader.inner) body;
}

abbrev pub decreases-loop-left : goal.decreases-loop-left
decreases-loop-left g l = l.left
