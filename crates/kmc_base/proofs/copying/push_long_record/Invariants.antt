use Rattle.std.proofs.Common.{◌≡◌, ◌+◌, ◌-◌, ◌*◌, ◌≤◌, ◌++◌, ◌∷◌, take, vec_len, vec_capacity}
use Rattle.kmc_base.specs.Words.{window}
use Rattle.kmc_base.specs.Record.{packed_codes, codes_in}
use Rattle.kmc_base.proofs.copying.push_long_record.Given as goal

-- the bytes appended so far are the first of the record, and there is room for the others
abbrev pub invariant-loop-j : goal.invariant-loop-j
invariant-loop-j l =
    (l.out.items ≡ l.fn.out.items ++ (l.symbols - l.k) ∷ packed_codes (take (4 * l.j) (window l.symbols (codes_in l.packed) l.start)))
    × (vec_len l.out + (l.last + 1 - l.j) ≤ vec_capacity l.out)
