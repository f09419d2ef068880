use Rattle.std.proofs.Common.{◌≡◌, IfErr, OnOk, length, map, refl, subst, arith}
use Rattle.std.specs.Prelude.{Result, Ok, Err}
use Rattle.kmc_device.specs.Device.{Watched}
use Rattle.kmc_reads.specs.declared.format.Format.{Format}
use Rattle.kmc_record.specs.Shapes.{Sizes}
use Rattle.kmc_options.specs.Shape.{shape_of}
use Rattle.kmc_stage_one.specs.declared.settings.TheConstants.{PIECE_SYMBOLS}
use Rattle.kmc_base.specs.Lemmas.PassedOn.{not_ok, passed_on}
use Rattle.kmc_slices.specs.Cut.{IsCutError, IsLeft, WroteSlices}
use Rattle.kmc_slices.specs.declared.error.CutError.TheVariants.{Memory}
use Rattle.kmc_slices.proofs.Rounds.{none_unended}
use Rattle.kmc_slices.proofs.slicing.cut_slices_with.Goals as goal

one_more : {A E : Type 0} (P Q R S : Type 0) (r : Result A E) → OnOk r (P × Q × R) → OnOk r S → OnOk r (P × Q × R × S)
one_more P Q R S (Ok x) h last = (h.0, h.1, h.2, last)
one_more P Q R S (Err e) h last = tt

pub returns-in_err-counts : goal.returns-in_err-counts
returns-in_err-counts g c =
    let to = c.from_residual in
    let held = λ (w : Watched g.row.W.Denot). g.W.Write.contents w.inner in
    record {
      ok = not_ok _ _ to.result to.ensures.1;
      sound = not_ok _ _ to.result to.ensures.1;
      cause = passed_on _ to.result Memory to.ensures.1 tt;
      read_counts = passed_on _ to.result Memory to.ensures.1 (refl, omega arith, omega arith);
      write_counts = passed_on _ to.result Memory to.ensures.1 refl;
      left = passed_on _ to.result Memory to.ensures.1
          (none_unended (shape_of c.args.params.now) PIECE_SYMBOLS (length c.args.writers.now) (map held c.args.writers.now));
    }

pub returns : goal.returns
returns g c =
    let held = λ (w : Watched g.row.W.Denot). g.W.Write.contents w.inner in
    let p = c.args.params.now in let s = c.round_settings.result in let cut = c.cut_files in
    let S = length c.args.writers.now in let olds = map held c.args.writers.now in let news = map held cut.new.writers in
    let old = g.R.Read.remaining c.args.reader.now.inner in let new = g.R.Read.remaining cut.new.reader.inner in
    let told : (s.format, s.shape) ≡ (p.format, shape_of p) = λ i. (c.round_settings.ensures.0 i, c.round_settings.ensures.1 i) in
    record {
      ok = subst (λ (t : Format × Sizes). OnOk cut.result (WroteSlices t.0 t.1 PIECE_SYMBOLS S old new olds news)) told cut.ensures.ok;
      sound = one_more _ _ _ _ cut.result cut.ensures.sound cut.ensures.kept;
      cause = subst (λ (t : Format × Sizes). IfErr cut.result (IsCutError t.0 c.args.max_reads old new)) told cut.ensures.cause;
      read_counts = cut.ensures.read_counts;
      write_counts = cut.ensures.write_counts;
      left = subst (λ (t : Format × Sizes). IfErr cut.result (IsLeft t.0 t.1 PIECE_SYMBOLS S old new olds news)) told cut.ensures.left;
    }
