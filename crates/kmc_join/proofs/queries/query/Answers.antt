use Rattle.std.proofs.Common.{◌≡◌, ℕ, List, sym, ap, subst, ◌∙◌, arith}
use Rattle.std.specs.Prelude.{Contains}
use Rattle.std.specs.Io.KnownBytes.{Appends}
use Rattle.std.proofs.lemmas.List.{length-map}
use Rattle.kmc_base.specs.Strands.{key}
use Rattle.kmc_device.specs.Device.{AppendsFront}
use Rattle.kmc_sum.specs.Sources.{Agrees}
use Rattle.kmc_sum.specs.Sum.{listed_count}
use Rattle.kmc_join.specs.Asking.{length_of}
use Rattle.kmc_join.specs.LookedUp.{IsLookedUp}
use Rattle.kmc_join.specs.Query.{answers_of, with_count}
use Rattle.kmc_join.proofs.QueryAnswers.{are_answers, out_of}
use Rattle.kmc_join.proofs.queries.query.Goals as goal

pub put_answers-requires-clause-there : goal.put_answers-requires-clause-there
put_answers-requires-clause-there g c = λ w there.
    subst (λ (ks : List (List ℕ)). Contains ks (key c.args.strands w)) (sym c.deref-5.ensures.value)
    (c.in-Ok.ensures.all w (subst (λ (ws : List (List ℕ)). Contains ws w) (c.deref-4.ensures.value ∙ sym c.deref.ensures.value) there))

pub returns-in-Ok-put_answers : goal.returns-in-Ok-put_answers
returns-in-Ok-put_answers g c =
    let strands = c.args.strands in
    let asked = c.in_ok-asked.asked.items in
    let keys = c.in-Ok.keys.items in
    let counts = c.in_ok-counts.counts.items in
    let ok = c.in_ok-counts.ensures.ok in
    let k = ok.0 in
    let length_is : c.length_of.result ≡ length_of asked = c.length_of.ensures.is ∙ ap length_of c.deref-2.ensures.value in
    let agrees = subst (λ n. Agrees n k) length_is ok.2 in
    let up = subst (λ (ks : List (List ℕ)). IsLookedUp k (g.D.Read.remaining c.args.dump.now.inner) (g.D.Read.remaining c.looked_up.new.dump.inner) ks counts)
    c.deref-3.ensures.value ok.3 in
    record {
      ok = record {
        answers = answers_of strands up.pairs asked;
        are = are_answers strands _ _ _ _ k keys counts asked ok.1 agrees up c.in_ok-asked.ensures.gave c.in_ok-asked.ensures.each;
        text = out_of (Appends (g.W.Write.contents c.args.writer.now.inner) (g.W.Write.contents c.put_answers.new.writer.inner)) strands asked
            c.deref-4.result.now keys c.deref-5.result.now counts c.deref-6.result.now c.deref-4.ensures.value c.deref-5.ensures.value
            c.deref-6.ensures.value c.in-Ok-put_answers.ensures.ok (listed_count up.pairs) up.noted;
        count = omega (arith, length-map asked (with_count strands up.pairs), c.in_ok-asked.asked.ok.0);
      };
      sound = ((c.in_ok-counts.ensures.kept, c.in_ok-asked.ensures.kept), c.in-Ok-put_answers.ensures.kept);
      cause = tt;
    }

pub returns : goal.returns
returns g c =
    let strands = c.args.strands in
    let asked = c.in_ok-asked.asked.items in
    let keys = c.in-Ok.keys.items in
    let counts = c.in_ok-counts.counts.items in
    let ok = c.in_ok-counts.ensures.ok in
    let k = ok.0 in
    let length_is : c.length_of.result ≡ length_of asked = c.length_of.ensures.is ∙ ap length_of c.deref-2.ensures.value in
    let agrees = subst (λ n. Agrees n k) length_is ok.2 in
    let up = subst (λ (ks : List (List ℕ)). IsLookedUp k (g.D.Read.remaining c.args.dump.now.inner) (g.D.Read.remaining c.looked_up.new.dump.inner) ks counts)
    c.deref-3.ensures.value ok.3 in
    record {
      ok = tt;
      sound = tt;
      cause = (
        c.in-Err.ensures.failed,
        (c.in_ok-counts.ensures.kept, c.in_ok-asked.ensures.kept),
        record {
          answers = answers_of strands up.pairs asked;
          are = are_answers strands _ _ _ _ k keys counts asked ok.1 agrees up c.in_ok-asked.ensures.gave c.in_ok-asked.ensures.each;
          text = out_of (AppendsFront (g.W.Write.contents c.args.writer.now.inner) (g.W.Write.contents c.put_answers.new.writer.inner)) strands asked
              c.deref-4.result.now keys c.deref-5.result.now counts c.deref-6.result.now c.deref-4.ensures.value c.deref-5.ensures.value
              c.deref-6.ensures.value c.in-Err.ensures.front (listed_count up.pairs) up.noted;
        },
      );
    }
