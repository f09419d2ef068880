use Rattle.std.proofs.Common.{◌≡◌, arith, refl, ◌∙◌}
use Rattle.kmc_spectrum.proofs.Written.{is_spectrum}
use Rattle.kmc_spectrum.proofs.running.spectrum.Goals as goal

pub returns-in-Ok-put_text : goal.returns-in-Ok-put_text
returns-in-Ok-put_text g c =
    let params = c.args.params.now in
    let sound = c.in_ok-lists.ensures.sound in
    let told = c.in-Ok.ensures params.k in
    let put = c.in-Ok-put_text.ensures in
    record {
      ok = (c.deref.result.now, is_spectrum params told.0 c.in_ok-lists.ensures.dump told.1 (c.deref.ensures ∙ told.2), put.ok);
      sound = (sound.0, put.kept, sound.2);
      read_failed = λ is. absurd (cc);
      write_failed = λ is. absurd (cc);
      input = λ e is. absurd (cc);
      faulty = tt;
      long = λ is. absurd (cc);
      silent = tt;
      reader_kept = tt;
      reads_most = omega (arith, sound.2);
    }

pub returns : goal.returns
returns g c =
    let params = c.args.params.now in
    let sound = c.in_ok-lists.ensures.sound in
    let told = c.in-Ok.ensures params.k in
    let failed = c.in-Err.ensures in
    record {
      ok = tt;
      sound = tt;
      read_failed = λ is. absurd (cc);
      write_failed = λ is. (
        failed.failed,
        c.deref.result.now,
        is_spectrum params told.0 c.in_ok-lists.ensures.dump told.1 (c.deref.ensures ∙ told.2),
        failed.front,
      );
      input = λ e is. absurd (cc);
      faulty = λ is. absurd (cc);
      long = λ is. absurd (cc);
      silent = λ other. absurd {A = c.put_text.new.writer ≡ c.args.writer.now} (other refl);
      reader_kept = λ other. sound.0;
      reads_most = omega (arith, sound.2);
    }
