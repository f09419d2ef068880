use Rattle.std.proofs.Common.{ℕ, inr, refl, sym, ap, subst, ◌∙◌}
use Rattle.kmc_database.specs.UnpackAnswer.{starts_of, unpack_failures}
use Rattle.kmc_database.specs.UnpackCauses.{IsRefusedWith}
use Rattle.kmc_database.proofs.unpacking.unpack.Goals as goal

pub returns-in-Ok-unpack_with : goal.returns-in-Ok-unpack_with
returns-in-Ok-unpack_with g c =
    let kept = c.in_ok-told.ensures.kept in
    let step = c.in-Ok-unpack_with.ensures in
    record {
      ok = record { h = c.in_ok-told.told.header; many = refl; first = c.in_ok-told.ensures.ok; out = step.ok };
      sound = ap (λ (n : ℕ). unpack_failures n c.unpack_with.new.prefix c.unpack_with.new.suffix c.unpack_with.new.writer) kept
          ∙ step.sound c.args.first.now.failures;
      cause = tt;
      begun = tt;
    }

pub returns : goal.returns
returns g c =
    let h = c.in_ok-told.told.header in
    let kept = c.in_ok-told.ensures.kept in
    let step = c.in-Err-unpack_with.ensures in
    let first = c.args.first.now.failures in
    let s = starts_of g.R.Read.remaining g.W.Write.contents c.args.prefix.now c.args.suffix.now c.args.writer.now in
    record {
      ok = tt;
      sound = tt;
      cause = inr (inr (
        h,
        c.in_ok-told.ensures.ok,
        subst
            (λ (n : ℕ). IsRefusedWith h s (g.R.Read.remaining c.unpack_with.new.prefix.inner) (g.R.Read.remaining c.unpack_with.new.suffix.inner)
            (unpack_failures first c.args.prefix.now c.args.suffix.now c.args.writer.now)
            (unpack_failures n c.unpack_with.new.prefix c.unpack_with.new.suffix c.unpack_with.new.writer) c.in-Err-unpack_with.error)
            (sym kept) (step.cause first),
      ));
      begun = step.left;
    }
