use Rattle.std.proofs.Common.{◌≢◌, ◌+◌, Err, length, refl, sym, ap, subst, ◌∙◌, arith}
use Rattle.std.proofs.lemmas.List.{length-map}
use Rattle.kmc_reads.specs.declared.error.ReadsError.TheVariants as reads
use Rattle.kmc_reads.specs.Reads.{reads_of}
use Rattle.kmc_lists.specs.Line.{text_of}
use Rattle.kmc_lists.specs.Listed.{spell, spelled}
use Rattle.kmc_lists.specs.Lists.{lists_of}
use Rattle.kmc_lists.specs.Ordered.{whole}
use Rattle.kmc_options.specs.Errors.{run_error}
use Rattle.kmc_stage_one.specs.Fed.{AreCountsOf}
use Rattle.kmc_stage_one.specs.Rounds.{IsInputError}
use Rattle.kmc_reads.specs.declared.input_error.InputError.TheVariants as input
use Rattle.kmc_options.specs.declared.run_error.RunError.TheVariants as run
use Rattle.kmc_stage_one.specs.Lemmas.Causes.{kept_by, most_by}
use Rattle.kmc_base.specs.Lemmas.PassedOn.{cause_of, no_answer, not_ok, of_err, passed_on}
use Rattle.kmc_tool.proofs.Refusals.{no_refusal, of_told, same_input, no_write, no_read, no_input, no_length, is_write, is_memory}
use Rattle.kmc_tool.proofs.Written.{is_dump_of}
use Rattle.kmc_tool.proofs.running.run_with_gate.Goals as goal

pub returns-in_err-lists : goal.returns-in_err-lists
returns-in_err-lists g c =
    let told = c.in_err-lists.ensures in
    let e = c.in_err-lists.field-0.0 in
    let r = c.from_residual.result in
    let same = c.from_residual.ensures.1 in
    let format = c.args.params.now.format in
    let old = c.args.reader.now in let new = c.count_input_with.new.reader in
    let given = g.R.Read.remaining old.inner in
    let left = g.R.Read.remaining new.inner in
    let counts_at = AreCountsOf (old.reads + 4294967296) old.reads new.reads old.failures new.failures in
    record {
      ok = no_answer _ _ r same;
      sound = not_ok _ _ r same;
      read_failed = λ is. let h = subst counts_at (same_input e input.Read (cause_of r (run_error e) run.Read same is)) told.counts in (h.0, h.2);
      write_failed = λ is. absurd (no_write e (cause_of r (run_error e) run.Write same is));
      input = λ fault is.
          subst (IsInputError format 4294967296 given left) (same_input e (input.Faulty fault) (cause_of r (run_error e) (run.Input fault) same is)) told.cause;
      faulty = passed_on (λ x. x ≢ run.Input reads.Memory) r (run_error e) same (λ is.
          let refused = subst (IsInputError format 4294967296 given left) (same_input e (input.Faulty reads.Memory) is) told.cause in
          of_err (λ x. x ≢ reads.Memory) (reads_of format refused.bytes) reads.Memory refused.refused (c.memory_is_no_fault.ensures format refused.bytes) refl);
      long = λ is.
          let at = same_input e input.TooLong (cause_of r (run_error e) run.TooLong same is) in
          let why = subst (IsInputError format 4294967296 given left) at told.cause in
          let counts = subst counts_at at told.counts in
          (counts.2, why.0, why.1, why.2, why.3);
      silent = passed_on _ r (run_error e) same (λ _. refl);
      reader_kept = passed_on _ r (run_error e) same (λ other. kept_by _ _ _ _ _ e told.counts (λ is. other (ap run_error is)));
      reads_most = most_by _ _ _ _ _ e told.counts;
    }

pub returns : goal.returns
returns g c =
    let k = c.args.params.now.k in
    let pairs = spelled k (whole (lists_of c.in_ok-lists.lists)) in
    let input = c.in_ok-lists.ensures.dump in
    let sound = c.in_ok-lists.ensures.sound in
    let refused = c.in-Err.ensures in
    let e = c.in-Err.error in
    let same = sym c.told.ensures in
    record {
      ok = tt;
      sound = tt;
      read_failed = λ is. absurd (no_read e (same ∙ of_told is));
      write_failed = λ is.
          let at = is_write e (same ∙ of_told is) in (
            refused.failed (ap Err at),
            input.bytes,
            text_of pairs,
            length pairs,
            input.given,
            is_dump_of input refl,
            refused.front (ap Err at),
          );
      input = λ fault is. absurd (no_input e fault (same ∙ of_told is));
      faulty = λ is. no_input e reads.Memory (same ∙ is);
      long = λ is. absurd (no_length e (same ∙ of_told is));
      silent = λ other. refused.silent (ap Err (is_memory e (λ is. other (c.told.ensures ∙ is))));
      reader_kept = λ _. sound.0;
      reads_most = omega (arith, sound.2);
    }

pub returns-in-Ok : goal.returns-in-Ok
returns-in-Ok g c =
    let k = c.args.params.now.k in
    let listed = whole (lists_of c.in_ok-lists.lists) in
    let pairs = spelled k listed in
    let input = c.in_ok-lists.ensures.dump in
    let sound = c.in_ok-lists.ensures.sound in
    let written = c.in-Ok.ensures in
    record {
      ok = (
        input.bytes,
        text_of pairs,
        input.given,
        is_dump_of input (written.lines ∙ sym (length-map listed (spell k))),
        written.ok,
      );
      sound = (sound.0, written.kept, sound.2);
      read_failed = λ is. absurd (no_refusal is);
      write_failed = λ is. absurd (no_refusal is);
      input = λ e is. absurd (no_refusal is);
      faulty = tt;
      long = λ is. absurd (no_refusal is);
      silent = tt;
      reader_kept = tt;
      reads_most = omega (arith, sound.2);
    }
