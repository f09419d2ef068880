-- The number of a word of two dumps, by its counts there.
use Rattle.std.specs.Prelude.{ℕ, ◌+◌, ◌-◌, min, max}
use Rattle.std.proofs.Common.{zero, suc}
use Rattle.kmc_join.specs.declared.operation.Choice.{Choice}
use Rattle.kmc_join.specs.declared.operation.Choice.TheVariants.{Min, Max, Sum, Diff, Left, Right}
use Rattle.kmc_join.specs.declared.operation.Operation.{Operation}
use Rattle.kmc_join.specs.declared.operation.Operation.TheVariants.{Intersect, Union, Subtract, CountersSubtract}

-- where both dumps list the word: of 5 and 3 the least is 3, the greatest 5, the sum 8, the difference 2; of 3 and 5 the difference is 0
abbrev pub chosen : Choice → ℕ → ℕ → ℕ
chosen Min a b = min a b
chosen Max a b = max a b
chosen Sum a b = a + b
chosen Diff a b = a - b
chosen Left a b = a
chosen Right a b = b

-- where either may not list it, which its count 0 says; the number 0 says that the word is left out
abbrev pub combined : Operation → ℕ → ℕ → ℕ
combined (Intersect c) zero b = 0
combined (Intersect c) (suc a) zero = 0
combined (Intersect c) (suc a) (suc b) = chosen c (suc a) (suc b)
combined (Union c) zero b = b
combined (Union c) (suc a) zero = suc a
combined (Union c) (suc a) (suc b) = chosen c (suc a) (suc b)
combined Subtract a zero = a
combined Subtract a (suc b) = 0
combined (CountersSubtract c) zero b = 0
combined (CountersSubtract c) (suc a) zero = suc a
combined (CountersSubtract c) (suc a) (suc b) = chosen c (suc a) (suc b)
