use Rattle.std.proofs.Common.{ap, map, refl, subst}
use Rattle.std.specs.Prelude.{string_bytes}
use Rattle.kmc_tool.proofs.Refusals.{no_options, no_refusal, no_run, of_options, of_run}
use Rattle.kmc_options.specs.declared.fault.Fault.TheVariants.{Run}
use Rattle.kmc_options.specs.declared.program.Program.TheVariants.{Kmc}
use Rattle.kmc_options.specs.Glued.{long_forms}
use Rattle.kmc_options.specs.Options.{Explains}
use Rattle.kmc_tool.proofs.arguments.count.Goals as goal

pub returns-in-Err : goal.returns-in-Err
returns-in-Err g c = record {
  ok = tt;
  sound = tt;
  options = λ e is. (subst (Explains Kmc (long_forms (map string_bytes c.args.argv.items))) (of_options is) c.in-Err.ensures.answer, refl);
  run = λ e is. absurd (no_run is);
  input = λ e is. absurd (no_run is);
  read_failed = λ is. absurd (no_run is);
  write_failed = λ is. absurd (no_run is);
  long = λ is. absurd (no_run is);
  silent = λ other. refl;
  kept = λ other. refl;
}

pub returns-in-Ok-run : goal.returns-in-Ok-run
returns-in-Ok-run g c =
    let asked = c.in-Ok.ensures.answer in let told = c.in-Ok-run.ensures.ok in let sound = c.in-Ok-run.ensures.sound in
    record {
      ok = (
        told.0,
        told.1,
        told.2,
        record { asked = record { taken = asked.0; params = c.in-Ok.params; given = asked.1 }; dump = told.3 },
        told.4,
      );
      sound = (sound.0, sound.1);
      options = λ e is. absurd (no_refusal is);
      run = λ e is. absurd (no_refusal is);
      input = λ e is. absurd (no_refusal is);
      read_failed = λ is. absurd (no_refusal is);
      write_failed = λ is. absurd (no_refusal is);
      long = λ is. absurd (no_refusal is);
      silent = tt;
      kept = tt;
    }

pub returns-in-Err-run : goal.returns-in-Err-run
returns-in-Err-run g c =
    let answer = c.in-Ok.ensures.answer in let told = c.in-Err-run.ensures in
    record {
      ok = tt;
      sound = tt;
      options = λ e is. absurd (no_options is);
      run = λ e is. record { taken = answer.0; params = c.in-Ok.params; given = answer.1 };
      input = λ e is. (record { taken = answer.0; params = c.in-Ok.params; given = answer.1 }, told.input e (of_run is));
      read_failed = λ is. (told.read_failed (of_run is)).0;
      write_failed = λ is.
          let out = told.write_failed (of_run is) in (
            out.0,
            out.1,
            out.2,
            out.3,
            out.4,
            record { asked = record { taken = answer.0; params = c.in-Ok.params; given = answer.1 }; dump = out.5 },
            out.6,
          );
      long = λ is.
          let many = told.long (of_run is) in
          (record { taken = answer.0; params = c.in-Ok.params; given = answer.1 }, many.0, many.1, many.2, many.3, many.4);
      silent = λ other. told.silent (λ is. other (ap Run is));
      kept = λ other. told.reader_kept (λ is. other (ap Run is));
    }
