use Rattle.std.proofs.Common.{◌≡◌, ◌-◌, ◌≤◌, length, subst, ◌∙◌, arith}
use Rattle.kmc_sum.specs.Lemmas.Causes.{handed_on}
use Rattle.kmc_database.specs.Part.{StandsAt}
use Rattle.kmc_database.proofs.Opened.{end_is, end_refused, ended_so, marked_so, prefix_reads, stands_so}
use Rattle.kmc_database.proofs.opening.database_in.Goals as goal

pub returns-in_err-database-clause-cause : goal.returns-in_err-database-clause-cause
returns-in_err-database-clause-cause g c =
    let last = c.read_at.new.buffer in
    let size = c.in-Ok.size in
    let whole : length last ≡ 72 = search in
    let e = c.in_err-database.field-0.0 in
    handed_on c.from_residual.result e _ c.from_residual.ensures.1 (λ suffix failed.
    end_refused (g.P.Places.bytes c.args.prefix.now) suffix _ _ last size e (prefix_reads _ _ failed (c.in-Ok-true.ensures.kept ∙ c.in-Ok.ensures.kept))
    (λ p known.
    let told : size ≡ length p = c.in-Ok.ensures.size p known in
    let long : 72 ≤ length p = omega (arith, told, c.if-size.false) in
    let read = stands_so p (size - 72) last _ c.in-Ok-true.field-0-test (c.in-Ok-true.ensures.read p (c.in-Ok.ensures.bytes ∙ known)) in
    (long, told, end_is p last long whole (subst (λ n. StandsAt p (n - 72) last) told read)))
    c.in_err-database.ensures.cause)

pub returns-in-Ok-true-is_marked-clause-ok : goal.returns-in-Ok-true-is_marked-clause-ok
returns-in-Ok-true-is_marked-clause-ok g c = λ p known.
    let last = c.read_at.new.buffer in
    let size = c.in-Ok.size in
    let whole : length last ≡ 72 = search in
    let told : size ≡ length p = c.in-Ok.ensures.size p known in
    let long : 72 ≤ length p = omega (arith, told, c.if-size.false) in
    let read = stands_so p (size - 72) last _ c.in-Ok-true.field-0-test (c.in-Ok-true.ensures.read p (c.in-Ok.ensures.bytes ∙ known)) in
    record {
      end = ended_so p last size _ told (end_is p last long whole (subst (λ n. StandsAt p (n - 72) last) told read)) c.in_ok-database.ensures.ok;
      begins = marked_so p 0 1346587979 _ c.in-Ok-true-is_marked.field-0-test
          (c.in-Ok-true-is_marked.ensures.ok p (c.in-Ok-true.ensures.bytes ∙ c.in-Ok.ensures.bytes ∙ known));
    }
