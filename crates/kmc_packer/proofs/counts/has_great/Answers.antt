use Rattle.std.proofs.Common.{◌*◌, ◌^◌, ◌<◌, ◌≤◌, ℕ, IsTrue, false, sym, subst, arith, refl, take_all}
use Rattle.std.proofs.Math.Pow.{pow_mono}
use Rattle.std.proofs.lemmas.Bool.Decides.{nat_tests}
use Rattle.std.proofs.lemmas.List.Elements.{All-more}
use Rattle.std.specs.Prelude.{All}
use Rattle.kmc_database.specs.Lemmas.Bytes.{bits_of_bytes}
use Rattle.kmc_packer.proofs.counts.has_great.Goals as goal
use Rattle.kmc_packer.proofs.counts.has_great.Goals.{else-not-narrow-via-then-not-narrow+else-not-holds_count, else-not-narrow-via-else-not-narrow}

-- a count that is not held
not_held : (m n : ℕ) → (n < m → IsTrue false) → m ≤ n
not_held m n h =
    let no : n < m → ⊥ = λ less. let t = h less in cc t in
    omega (arith, no)

-- a count of so few bits
narrow_held : (bits counter n : ℕ) → bits ≤ 8 * counter → n < 2 ^ bits → n < 256 ^ counter
narrow_held bits counter n few fits =
    let up : 2 ^ bits ≤ 2 ^ (8 * counter) = pow_mono few in
    omega (arith, up, fits, bits_of_bytes counter)

pub returns-then-not-holds_count-clause-great : goal.returns-then-not-holds_count-clause-great
returns-then-not-holds_count-clause-great g c = λ _.
    let p : ℕ × ℕ = (g.W.PackedKmer.number c.get-count.result.0, g.C.CountWidth.count c.get-count.result.1) in
    let great = not_held (256 ^ c.args.layout.now.counter) c.to_u64-count.result c.if-not-holds_count.ensures.1 in
    record {
      pair = p;
      stands = (c.loop-i.i, omega (arith, c.loop-i-test.true, c.len-i-end.ensures), sym (c.get-count.ensures p));
      great = omega (arith, great, c.to_u64-count.ensures.is);
    }

pub loop-i-preserved : goal.loop-i-preserved
loop-i-preserved g c =
    let n = c.args.layout.now.counter in
    let p : ℕ × ℕ = (g.W.PackedKmer.number c.get-count.result.0, g.C.CountWidth.count c.get-count.result.1) in
    let held : c.to_u64-count.result < 256 ^ n = elim c.else-not-narrow.branch [
      | else-not-narrow-via-then-not-narrow+else-not-holds_count w ↦ w.if-not-holds_count.ensures.0 refl
      | else-not-narrow-via-else-not-narrow w ↦ narrow_held c.bits.result n c.to_u64-count.result (grind (arith, nat_tests, w.if-not-narrow.false))
          (subst (λ b. c.to_u64-count.result < 2 ^ b) (sym c.bits.ensures.is) c.to_u64-count.ensures.fits)
    ] in
    record {
      held = All-more (λ (q : ℕ × ℕ). q.1 < 256 ^ n) c.args.list.now.packed c.loop-i.i p (omega (arith, c.loop-i-test.true, c.len-i-end.ensures))
          c.loop-i.invariant.held (subst (λ (q : ℕ × ℕ). q.1 < 256 ^ n) (c.get-count.ensures p) (omega (arith, held, c.to_u64-count.ensures.is)));
    }

pub returns-clause-held : goal.returns-clause-held
returns-clause-held g c = λ _.
    subst (All (λ (q : ℕ × ℕ). q.1 < 256 ^ c.args.layout.now.counter))
    (take_all c.loop-i.i c.args.list.now.packed (omega (arith, c.loop-i-test.false, c.len-i-end.ensures))) c.loop-i.invariant.held
