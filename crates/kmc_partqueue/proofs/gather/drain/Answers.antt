use Rattle.std.proofs.Common.{◌≡◌, ℕ, ◌+◌, ◌<◌, ◌≤◌, List, Bool, false, IsTrue, get_or, set, subst, arith}
use Rattle.std.specs.Slots.{slots_len}
use Rattle.std.proofs.lemmas.Grind.{common_steps}
use Rattle.kmc_partqueue.proofs.gather.drain.Goals as goal

-- one more is emptied
emptied : (full full' : List Bool) (n n' i : ℕ) → full' ≡ set full i false → n' ≡ n
    → ((k : ℕ) → i ≤ k → k < n → IsTrue (get_or full k false)) × ((k : ℕ) → k < i → get_or full k false ≡ false)
    → ((k : ℕ) → i + 1 ≤ k → k < n' → IsTrue (get_or full' k false)) × ((k : ℕ) → k < i + 1 → get_or full' k false ≡ false)
emptied full full' n n' i is same inv = grind (arith, common_steps)

pub loop-i-init : goal.loop-i-init
loop-i-init g c = (c.requires, λ k h. absurd (omega arith))

pub take-requires : goal.take-requires
take-requires g c =
    let i : ℕ = c.loop-i.i in
    let lt : i < slots_len c.loop-i.closed.slots = subst (λ (z : ℕ). i < z) c.slot_count.ensures c.loop-i-test.true in
    (lt, c.loop-i.invariant.0 i (omega arith) lt)

pub overflow_add-i : goal.overflow_add-i
overflow_add-i g c = omega arith

pub loop-i-smaller : goal.loop-i-smaller
loop-i-smaller g c = let same = c.take.ensures.others.2 in omega arith

pub loop-i-preserved : goal.loop-i-preserved
loop-i-preserved g c =
    let is = c.take.ensures.others in emptied _ _ _ _ c.loop-i.i is.1 is.2 c.loop-i.invariant

pub free-requires : goal.free-requires
free-requires g c = λ k lt. c.loop-i.invariant.1 k (omega arith)
