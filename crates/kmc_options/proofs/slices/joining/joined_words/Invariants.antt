-- The words so far are joined but for one that may await its value.
use Rattle.std.proofs.Common.{◌≡◌, ◌++◌, map, string_bytes}
use Rattle.std.specs.Vec.Iter.{into_iter_items}
use Rattle.kmc_options.specs.SliceWords.{joined}
use Rattle.kmc_options.proofs.Joined.{open_words, Awaits}
use Rattle.kmc_options.proofs.slices.joining.joined_words.Given as goal

abbrev pub invariant-loop-word : goal.invariant-loop-word
invariant-loop-word l = record {
  same : joined (map string_bytes l.fn.words.items) ≡ map string_bytes l.out.items
      ++ joined (open_words string_bytes l.open ++ map string_bytes (into_iter_items l.word-iterator));
  awaits : Awaits string_bytes l.open;
}
