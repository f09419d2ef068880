use Rattle.std.proofs.Common.{◌≡◌, ℕ, ◌<◌, cond, length, ap, arith}
use Rattle.std.specs.Prelude.{◌==◌}
use Rattle.kmc_spectrum.proofs.SeenPairs.{pair_more}
use Rattle.kmc_spectrum.proofs.tallying.tally_list.Goals as goal

pub loop-i-preserved : goal.loop-i-preserved
loop-i-preserved g c =
    let pairs = c.args.list.now.packed in
    let i = c.loop-i.i in
    let p : ℕ × ℕ = (g.W.PackedKmer.number c.get-count.result.0, g.C.CountWidth.count c.get-count.result.1) in
    let more = c.in_ok-see_count.ensures in
    let inside : i < length pairs = omega (arith, c.len-i-end.ensures) in
    record {
      sound = more.sound;
      counts = λ n.
          let one : ℕ → ℕ = λ m. cond (m == n) 1 0 in
          let told : one c.to_u64.result ≡ one p.1 = ap one c.to_u64.ensures.is in
          omega (arith, more.counts n, told, c.loop-i.invariant.counts n, pair_more pairs i n p inside (c.get-count.ensures p));
    }
