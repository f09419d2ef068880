use Rattle.std.proofs.Common.{◌≡◌, ℕ, ◌<◌, ◌≤◌, cond, get_or, length}
use Rattle.kmc_count.specs.Occurrences.{same_word}
use Rattle.kmc_join.specs.KeyCounts.{AreBelow, key_at}
use Rattle.kmc_join.proofs.key_counts.note_count.Given as goal

-- the keys so far have the count where they are the word, and the others what they had
abbrev pub invariant-loop-j : goal.invariant-loop-j
invariant-loop-j l = record {
  within : l.below ≤ length l.keys;
  below : AreBelow l.keys l.below l.word;
  noted : (i : ℕ) → i < l.j → get_or l.counts i 0 ≡ cond (same_word l.word (key_at l.keys i)) l.count (get_or l.initial.counts i 0);
  others : (i : ℕ) → l.j ≤ i → get_or l.counts i 0 ≡ get_or l.initial.counts i 0;
}
