use Rattle.std.proofs.Common.{◌≡◌, ◌++◌, take}
use Rattle.std.specs.Prelude.{sum}
use Rattle.kmc_device.specs.Device.{WritesOut}
use Rattle.kmc_database.specs.Files.{prefix_marker}
use Rattle.kmc_packer.specs.Table.{entries_by}
use Rattle.kmc_packer.proofs.table.write_prefix.Given as goal

-- the entries so far are put
abbrev pub invariant-loop-size : goal.invariant-loop-size
invariant-loop-size g l = record {
  before : l.before ≡ sum (take l.size-index l.sizes);
  kept : l.writer.failures ≡ l.initial.writer.failures;
  out : WritesOut (g.W.Write.contents l.initial.writer.inner) (g.W.Write.contents l.writer.inner)
      (prefix_marker ++ entries_by l.sizes l.size-index) l.table;
}
