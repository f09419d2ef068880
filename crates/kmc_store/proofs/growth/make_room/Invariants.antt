use Rattle.std.proofs.Common.{◌≡◌, ℕ, ◌<◌, ◌≤◌, length, map, Vec, Global}
use Rattle.std.specs.Prelude.{slice_index_or}
use Rattle.kmc_store.specs.Growing.{HasRoomForBodies}
use Rattle.kmc_store.proofs.growth.make_room.Given as goal

abbrev pub invariant-loop-i : goal.invariant-loop-i
invariant-loop-i l = record {
  wide : length l.own.items ≡ length l.more;
  kept : map (λ v. v.items) l.own.items ≡ map (λ v. v.items) l.initial.own.items;
  room : (k : ℕ) (v w : Vec ℕ Global) → k < l.i → HasRoomForBodies (slice_index_or l.own.items k v) (length (slice_index_or l.more k w).items);
  left : (k : ℕ) (d : Vec ℕ Global) → l.i ≤ k → slice_index_or l.own.items k d ≡ slice_index_or l.initial.own.items k d;
}
