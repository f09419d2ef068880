-- How words and counts lie in a database.
use Rattle.std.specs.Prelude.{◌≡◌, ℕ, ◌-◌, ◌%◌, ◌≤◌, Option, unwrap_or}
use Rattle.kmc_sum.specs.Listed.{IsLength}
use Rattle.kmc_database.specs.Numbers.{usual_prefix}
use Rattle.kmc_database.specs.declared.layout.Layout.{Layout}

-- a first part of 1 to 15 symbols, behind which whole bytes of four symbols are left, and counts of 1 to 4 bytes
pub record IsLayout (l : Layout) : Type 0 where
  pub long : IsLength l.k
  pub some : 1 ≤ l.prefix
  pub most : l.prefix ≤ 15
  pub inside : l.prefix ≤ l.k
  pub whole : (l.k - l.prefix) % 4 ≡ 0
  pub counter : (1 ≤ l.counter) × (l.counter ≤ 4)

-- the layout of words of k symbols, with a first part as long as is asked for, and else of the usual length
abbrev pub layout_of : ℕ → Option ℕ → ℕ → Layout
layout_of k prefix counter = record { k = k; prefix = unwrap_or prefix (usual_prefix k); counter = counter }
