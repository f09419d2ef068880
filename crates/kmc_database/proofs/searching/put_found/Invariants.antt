use Rattle.std.proofs.Common.{◌≡◌, ℕ, List, take}
use Rattle.kmc_device.specs.Device.{WritesOut}
use Rattle.kmc_lists.specs.Line.{text_of}
use Rattle.kmc_database.specs.Searched.{AreFound}
use Rattle.kmc_database.proofs.searching.put_found.Given as goal

-- the lines so far went out or are gathered, and the files are as they were
abbrev pub invariant-loop-word : goal.invariant-loop-word
invariant-loop-word g l = record {
  prefix : g.P.Places.bytes l.prefix ≡ g.P.Places.bytes l.initial.prefix;
  suffix : g.S.Places.bytes l.suffix ≡ g.S.Places.bytes l.initial.suffix;
  prefix_kept : g.P.Places.failures l.prefix ≡ g.P.Places.failures l.initial.prefix;
  suffix_kept : g.S.Places.failures l.suffix ≡ g.S.Places.failures l.initial.suffix;
  kept : l.writer.failures ≡ l.initial.writer.failures;
  answers : List (List ℕ × ℕ);
  found : AreFound l.database (g.P.Places.bytes l.initial.prefix) (g.S.Places.bytes l.initial.suffix) (take l.word-index l.words) answers;
  text : WritesOut (g.W.Write.contents l.initial.writer.inner) (g.W.Write.contents l.writer.inner) (text_of answers) l.buffer;
}
