use Rattle.std.proofs.Common.{◌≡◌, map, string_bytes}
use Rattle.std.specs.List.{filter}
use Rattle.kmc_join.specs.Words.{is_choice, is_other}
use Rattle.kmc_join.proofs.words.choice_words.Given as goal

-- the words so far are sorted
abbrev pub invariant-loop-word : goal.invariant-loop-word
invariant-loop-word l = record {
  choices : map string_bytes l.choices.items ≡ filter is_choice (map string_bytes l.yielded);
  others : map string_bytes l.others.items ≡ filter is_other (map string_bytes l.yielded);
}
