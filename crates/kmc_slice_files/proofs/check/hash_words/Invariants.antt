use Rattle.std.proofs.Common.{◌≡◌, ◌-◌, ◌*◌, drop}
use Rattle.kmc_slice_files.specs.Check.{hashed_words}
use Rattle.kmc_slice_files.proofs.check.hash_words.Given as goal

abbrev pub invariant-loop-i : goal.invariant-loop-i
invariant-loop-i l = hashed_words l.state (l.words - l.i) (drop (l.i * 8) l.bytes) ≡ hashed_words l.start l.words l.bytes
