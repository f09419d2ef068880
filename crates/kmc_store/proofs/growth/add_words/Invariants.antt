use Rattle.std.proofs.Common.{◌≡◌, ℕ, ◌+◌, ◌<◌, ◌≤◌, length}
use Rattle.std.specs.Prelude.{slice_index}
use Rattle.kmc_record.specs.Parts.{capped}
use Rattle.kmc_store.proofs.growth.add_words.Given as goal

abbrev pub invariant-loop-i : goal.invariant-loop-i
invariant-loop-i l = record {
  wide : length l.own.items ≡ length l.initial.own.items;
  done : (k : ℕ) → k < l.i → slice_index l.own.items k ≡ capped (slice_index l.initial.own.items k + slice_index l.more k);
  left : (k : ℕ) → l.i ≤ k → slice_index l.own.items k ≡ slice_index l.initial.own.items k;
}
