use Rattle.std.proofs.Common.{◌≡◌, ℕ, ◌<◌, ◌≤◌, ◌++◌, length, map, Vec, Global}
use Rattle.std.specs.Prelude.{slice_index_or}
use Rattle.kmc_store.specs.Bins.{body_at}
use Rattle.kmc_store.proofs.growth.append_bodies.Given as goal

abbrev pub invariant-loop-i : goal.invariant-loop-i
invariant-loop-i l = record {
  wide : length l.own.items ≡ length l.initial.own.items;
  wide_more : length l.more.items ≡ length l.initial.more.items;
  done : (k : ℕ) → k < l.i → body_at (map (λ v. v.items) l.own.items) k ≡ body_at (map (λ v. v.items) l.initial.own.items) k ++ body_at
      (map (λ v. v.items) l.initial.more.items) k;
  left : (k : ℕ) (v : Vec ℕ Global) → l.i ≤ k → slice_index_or l.own.items k v ≡ slice_index_or l.initial.own.items k v;
  left_more : (k : ℕ) (v : Vec ℕ Global) → l.i ≤ k → slice_index_or l.more.items k v ≡ slice_index_or l.initial.more.items k v;
}
