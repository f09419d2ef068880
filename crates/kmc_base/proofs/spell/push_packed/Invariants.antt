use Rattle.std.proofs.Common.{◌≡◌, ◌+◌, ◌-◌, ◌≤◌, ◌++◌, length, take, vec_len, vec_capacity}
use Rattle.kmc_base.specs.Record.{packed_codes, size_of}
use Rattle.kmc_base.proofs.spell.push_packed.Given as goal

-- the bytes appended so far are the first of the codes, and there is room for the others
abbrev pub invariant-loop-j : goal.invariant-loop-j
invariant-loop-j l = (l.out.items ≡ l.fn.out.items ++ take l.j (packed_codes l.codes))
    × (vec_len l.out + (size_of (length l.codes) - l.j) ≤ vec_capacity l.out)
