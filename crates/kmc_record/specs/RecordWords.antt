-- The words of records.
use Rattle.std.specs.Prelude.{ℕ, List}
use Rattle.std.specs.List.{flat_map}
use Rattle.kmc_base.specs.declared.strands.Strands.{Strands}
use Rattle.kmc_base.specs.Strands.{keys}

-- the keys of the words of super-k-mers, in order
abbrev pub record_keys : Strands → ℕ → List (List ℕ) → List (List ℕ)
record_keys strands k ss = flat_map (keys strands k) ss
