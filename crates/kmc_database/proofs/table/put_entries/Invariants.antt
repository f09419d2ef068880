use Rattle.std.proofs.Common.{◌≡◌, ◌-◌, ◌++◌}
use Rattle.kmc_device.specs.Device.{WritesOut}
use Rattle.kmc_database.specs.Rows.{repeated}
use Rattle.kmc_database.proofs.table.put_entries.Given as goal

-- the entries so far are put
abbrev pub invariant-loop-i : goal.invariant-loop-i
invariant-loop-i g l = record {
  kept : l.writer.failures ≡ l.initial.writer.failures;
  out : WritesOut (g.W.Write.contents l.initial.writer.inner) (g.W.Write.contents l.writer.inner)
      (l.initial.buffer ++ repeated (l._i - l.from) l.rows) l.buffer;
}
