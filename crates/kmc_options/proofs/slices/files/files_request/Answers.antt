use Rattle.std.proofs.Common.{◌≡◌, map, length, sym, ap, subst, ◌∙◌, true, arith}
use Rattle.std.specs.Prelude.{string_bytes}
use Rattle.std.proofs.lemmas.List.{length-map}
use Rattle.kmc_options.specs.CommandLine.{found}
use Rattle.kmc_options.specs.Glued.{long_forms}
use Rattle.kmc_options.specs.Options.{AreGiven, is_taken}
use Rattle.kmc_options.specs.SliceWords.{joined, AreSorted}
use Rattle.kmc_options.proofs.slices.files.files_request.Goals as goal

pub returns-in-Ok-clause-asked : goal.returns-in-Ok-clause-asked
returns-in-Ok-clause-asked c =
    let words = map string_bytes c.args.words.items in
    let found_words = c.in_ok-names.field-0 in
    let sorted : AreSorted (joined words) found_words = c.in_ok-names.ensures in
    let names = ap length (sym sorted.names) ∙ length-map found_words.names.items string_bytes in
    let slices = ap length (sym sorted.slices) ∙ length-map found_words.slices.items string_bytes in
    record {
      asks = record {
        some = omega (arith, names, c.len-count.ensures, c.if-count-eq0.false);
        few = omega (arith, names, c.len-count.ensures, c.if-count-most.false);
        slices = omega (arith, slices, c.len.ensures, c.if-len-gt0.false);
        force = sym sorted.force ∙ c.if-force.false;
        taken = subst (λ ws. is_taken c.args.program (long_forms ws) ≡ true) sorted.others c.in-Ok.ensures.answer.0;
      };
      names = sorted.names;
      given = subst (λ ws. AreGiven (found c.args.program (long_forms ws)) c.in-Ok.params) sorted.others c.in-Ok.ensures.answer.1;
    }
