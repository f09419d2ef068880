use Rattle.std.proofs.Common.{◌≡◌, ℕ, ◌<◌, get_or, length, map, take}
use Rattle.kmc_base.specs.Words.{letter}
use Rattle.kmc_sum.specs.Line.{IsLetter}
use Rattle.kmc_join.proofs.word_lines.letters.Given as goal

-- the letters so far have their codes
abbrev pub invariant-loop-i : goal.invariant-loop-i
invariant-loop-i l = record {
  long : length l.codes ≡ 64;
  word : take l.i l.bytes ≡ map letter (take l.i l.codes);
  codes : (j : ℕ) → j < l.i → get_or l.codes j 0 < 4;
  each : (j : ℕ) → j < l.i → IsLetter (get_or l.bytes j 0);
}
