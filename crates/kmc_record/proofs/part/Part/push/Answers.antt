use Rattle.std.proofs.Common.{◌≡◌, length, ap, ◌∙◌, arith}
use Rattle.kmc_base.specs.Words.{window}
use Rattle.kmc_base.specs.Lemmas.Windows.{length_window}
use Rattle.kmc_base.specs.Record.{codes_in}
use Rattle.kmc_base.specs.Lemmas.Codes.{length_codes}
use Rattle.kmc_record.specs.Parts.{Parcel}
use Rattle.kmc_record.specs.Lemmas.Grown.{part_grown}
use Rattle.kmc_record.proofs.part.Part.push.Goals as goal

pub push_record_from-requires-clause-most : goal.push_record_from-requires-clause-most
push_record_from-requires-clause-most c =
    let codes = codes_in c.args.packed.now in
    let long : length (window c.args.symbols codes c.args.start) ≡ c.args.symbols =
    length_window c.args.symbols c.args.start codes (omega (arith, length_codes c.args.packed.now)) in
    omega (arith, long, c.requires.spelled.most, c.k.ensures.is ∙ ap (λ (p : Parcel). p.shape.k) c.self.view_is)

pub invariant_of-self-2 : goal.invariant_of-self-2
invariant_of-self-2 c =
    part_grown _ c.args.self.now c.self.view_is (window c.args.symbols (codes_in c.args.packed.now) c.args.start) c.push_record_from.new.out.items
    c.k.result c.args.words c.saturating_add-self-inside.result
    c.self.invariant c.requires.spelled c.requires.belong c.requires.words c.k.ensures.is c.in_ok-push_record_from.ensures.ok
    (omega (arith, c.saturating_add-self-inside.ensures))
