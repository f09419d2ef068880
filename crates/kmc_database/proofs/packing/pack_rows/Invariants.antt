use Rattle.std.proofs.Common.{◌≡◌, ◌≤◌, ◌<◌, ◌^◌, ◌+◌, ◌-◌, ◌/◌, ◌⊎◌, ℕ, List, Option, true}
use Rattle.kmc_sum.specs.Source.{IsRoom}
use Rattle.kmc_database.specs.Beginning.{IsAsked}
use Rattle.kmc_database.specs.declared.form.PackOptions.{PackOptions}
use Rattle.kmc_database.proofs.SoFar.{IsSoFar}
use Rattle.kmc_database.proofs.packing.pack_rows.Given as goal

-- the lines so far are packed, and the next word has no lower first part
abbrev pub invariant-loop-step : goal.invariant-loop-step
invariant-loop-step g l = record {
  room : IsRoom l.room;
  read : l.reader.failures ≡ l.initial.reader.failures;
  prefix_kept : l.prefix.failures ≡ l.initial.prefix.failures;
  suffix_kept : l.suffix.failures ≡ l.initial.suffix.failures;
  fits : l.head.packed < 4 ^ l.form.layout.k;
  many : l.rows ≡ l._step;
  most : l.entries ≤ 4 ^ l.form.layout.prefix;
  next : l.head.live ≡ true → l.entries ≤ l.head.packed / 4 ^ (l.form.layout.k - l.form.layout.prefix) + 1;
  told : l.initial.head.live ≡ true → (l.head.live ≡ true) ⊎ (1 ≤ l.rows);
  so : (o : PackOptions) (start : Option (List ℕ)) → IsAsked o start (g.R.Read.remaining l.initial.reader.inner) l.initial.room l.initial.head l.form
      → IsSoFar l.form.layout start (g.R.Read.remaining l.reader.inner) l.room l.head l.entries l.rows
      (g.W.Write.contents l.initial.prefix.inner) (g.W.Write.contents l.prefix.inner) (g.W.Write.contents l.initial.suffix.inner)
      (g.W.Write.contents l.suffix.inner) l.table l.body;
}
