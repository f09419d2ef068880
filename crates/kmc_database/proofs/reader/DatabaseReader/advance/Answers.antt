use Rattle.std.proofs.Common.{sym, ◌∙◌, arith}
use Rattle.kmc_base.specs.Lemmas.Powers.{pow_some}
use Rattle.kmc_database.specs.DumpReader.{text_left}
use Rattle.kmc_database.specs.LeftOf.{left_of}
use Rattle.kmc_database.proofs.DumpRests.{line_then, text_stays}
use Rattle.kmc_database.proofs.DumpSteps.{text_of_last_part}
use Rattle.kmc_database.proofs.Words.{all_entries}
use Rattle.kmc_database.proofs.reader.DatabaseReader.advance.Goals as goal

pub take_entry-requires-clause-table : goal.take_entry-requires-clause-table
take_entry-requires-clause-table g c =
    let r = c.args.self.now in
    omega (arith, c.if-self-parts.true, all_entries r.header.layout r.layout)

pub see_ends-requires-clause-table : goal.see_ends-requires-clause-table
see_ends-requires-clause-table g c =
    let r = c.args.self.now in
    omega (arith, c.if-self-parts.false, c.if-self-parts-2.false, all_entries r.header.layout r.layout)

pub invariant_of-self : goal.invariant_of-self
invariant_of-self g c =
    let r = c.args.self.now in
    let last = c.if-self-parts-2.true in
    let all = all_entries r.header.layout r.layout in
    record {
      layout = r.layout;
      within = record {
        order = omega (arith, r.within.order, r.within.rows);
        rows = omega arith;
        table = omega (arith, last, all);
        part = λ _. omega (arith, last, all, pow_some r.header.layout.prefix);
        few = r.within.few;
      };
    }

pub returns-then-self-parts-2-clause-same : goal.returns-then-self-parts-2-clause-same
returns-then-self-parts-2-clause-same g c =
    let r = c.args.self.now in
    let remaining = g.R.Read.remaining in
    text_stays (text_left r) _ (left_of remaining r.prefix) (left_of remaining r.suffix) _ _ (λ p s ep es.
    record {
      p = p;
      s = s;
      prefix = ep;
      suffix = es;
      is = line_then r.line _ _ r.ended c.requires.empty c.requires.more
          ∙ sym (line_then r.line _ _ r.ended c.requires.empty c.requires.more
          ∙ text_of_last_part r.header r.at p s c.if-not-self.false (omega (arith, c.if-self.false))
          (omega (arith, c.if-self-parts-2.true, all_entries r.header.layout r.layout)));
    })
