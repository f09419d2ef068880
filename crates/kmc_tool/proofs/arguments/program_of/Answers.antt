use Rattle.std.proofs.Common.{sym, ap, ◌∙◌}
use Rattle.std.specs.Prelude.{Err}
use Rattle.kmc_tool.proofs.Statuses.{one_or_other, only_misuse}
use Rattle.kmc_tool.proofs.arguments.program_of.Goals as goal

pub returns-in-Ok-clause-done : goal.returns-in-Ok-clause-done
returns-in-Ok-clause-done g c = λ zero.
    let told = c.in-Ok.ensures.ok in
    let sound = c.in-Ok.ensures.sound in
    record {
      bytes = told.0;
      text = told.1;
      lines = _;
      given = told.2;
      answered = told.3;
      out = told.4;
      reader_sound = sound.0;
      writer_sound = sound.1;
    }

pub returns-in-Err-clause-failed : goal.returns-in-Err-clause-failed
returns-in-Err-clause-failed g c = λ one.
    one_or_other c.in-Err.fault c.in-Err.ensures.silent (λ is.
    let told = c.in-Err.ensures.write_failed (ap Err is) in
    record {
      bytes = told.1;
      text = told.2;
      lines = told.3;
      given = told.4;
      answered = told.5;
      out = told.6;
      failed = told.0;
    })

pub returns-in-Err-clause-misused : goal.returns-in-Err-clause-misused
returns-in-Err-clause-misused g c = λ two.
    let misuse = only_misuse c.in-Err.fault (sym c.ended.ensures.status ∙ two) in
    let told = c.in-Err.ensures.options misuse.0 (ap Err misuse.2) in (
      (misuse.0, misuse.1, told.0),
      told.1,
      c.in-Err.ensures.silent (λ no. let wrong = sym misuse.2 ∙ no in absurd (cc)),
    )
