use Rattle.std.proofs.Common.{◌≡◌, [], ◌∷◌, length, map, true, sym, ap, subst, ◌∙◌}
use Rattle.std.specs.Prelude.{string_bytes}
use Rattle.kmc_options.specs.CommandLine.{found}
use Rattle.kmc_options.specs.Glued.{long_forms}
use Rattle.kmc_options.specs.Options.{AreGiven, is_taken}
use Rattle.kmc_options.specs.SliceWords.{joined, AreSorted}
use Rattle.kmc_options.specs.Requests.{IsNumberOfSlices, options_of}
use Rattle.kmc_options.specs.declared.program.Program.TheVariants.{KmcCut}
use Rattle.kmc_options.proofs.Asked.{given_in_range, slices_asked}
use Rattle.kmc_options.proofs.slices.cutting.cut_request.Goals as goal

pub returns-in-None-clause-slices : goal.returns-in-None-clause-slices
returns-in-None-clause-slices c = λ _.
    let words = map string_bytes c.args.words.items in
    let sorted : AreSorted (joined words) c.in_ok-names.field-0 = c.in_ok-names.ensures in
    let one : map string_bytes c.in_ok-names.field-0.slices.items ≡ string_bytes c.in-Some-only.word ∷ [] = c.in-Some-only.ensures in
    let given = subst (λ ws. AreGiven (found KmcCut (long_forms ws)) c.in-Ok.params) sorted.others c.in-Ok.ensures.answer.1 in
    record {
      asks = record {
        names = ap length (sym sorted.names ∙ c.in-Some.ensures);
        slices = ap length (sym sorted.slices ∙ one);
        taken = subst (λ ws. is_taken KmcCut (long_forms ws) ≡ true) sorted.others c.in-Ok.ensures.answer.0;
      };
      in_range = given_in_range (found KmcCut (options_of words)) c.in-Ok.params given;
      none = λ r is.
          let asked = slices_asked words r (string_bytes c.in-Some-only.word) c.in-Ok.params (sym sorted.slices ∙ one) given is in
          c.in-None.ensures r.slices (subst (λ w. IsNumberOfSlices w c.in-Ok.params.bins r.slices) (sym c.deref.ensures) asked);
    }
