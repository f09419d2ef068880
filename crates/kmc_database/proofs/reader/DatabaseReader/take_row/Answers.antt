use Rattle.std.proofs.Common.{sym, ap, ◌∙◌, arith}
use Rattle.kmc_database.specs.DumpReader.{text_left}
use Rattle.kmc_database.specs.LeftOf.{left_of}
use Rattle.kmc_database.proofs.DumpRests.{line_then, text_stays}
use Rattle.kmc_database.proofs.DumpSteps.{text_of_bad_row, text_of_cut, text_of_row}
use Rattle.kmc_database.proofs.Entries.{match_none, match_some}
use Rattle.kmc_database.proofs.reader.DatabaseReader.take_row.Goals as goal

pub overflow_add-self : goal.overflow_add-self
overflow_add-self g c = let r = c.args.self.now in omega (arith, c.requires.inside, r.within.rows, r.within.few)

pub row_fault-requires : goal.row_fault-requires
row_fault-requires g c = let r = c.args.self.now in omega (arith, c.requires.inside, r.within.rows, r.within.few)

pub overflow_add-self-in-None-row_fault : goal.overflow_add-self-in-None-row_fault
overflow_add-self-in-None-row_fault g c = let r = c.args.self.now in omega (arith, c.requires.inside, r.within.rows, r.within.few)

pub returns-in-None-clause-same : goal.returns-in-None-clause-same
returns-in-None-clause-same g c =
    let r = c.args.self.now in
    let remaining = g.R.Read.remaining in
    text_stays (text_left r) _ (left_of remaining r.prefix) (left_of remaining r.suffix) _ _ (λ p s ep es.
    let now = c.in_ok-row.ensures.same s es in
    record {
      p = p;
      s = s;
      prefix = ap (left_of remaining) c.fail.ensures.prefix ∙ ep;
      suffix = ap (left_of remaining) c.fail.ensures.suffix ∙ now;
      is = c.fail.ensures.text p s
          ∙ sym (line_then r.line _ _ r.ended c.requires.empty c.requires.more
          ∙ text_of_cut r.header r.at p s c.requires.begun c.requires.inside (match_none _ _ _ c.in-None.is (c.in_ok-row.ensures.told s now)));
    })

pub returns-in-Some-row_fault-clause-same : goal.returns-in-Some-row_fault-clause-same
returns-in-Some-row_fault-clause-same g c =
    let r = c.args.self.now in
    let remaining = g.R.Read.remaining in
    text_stays (text_left r) _ (left_of remaining r.prefix) (left_of remaining r.suffix) _ _ (λ p s ep es.
    let now = c.in_ok-row.ensures.same s es in
    let told = match_some _ c.in-Some.row _ _ c.in-Some.is (c.in_ok-row.ensures.told s now) in
    record {
      p = p;
      s = s;
      prefix = ap (left_of remaining) c.fail-in-Some-row_fault.ensures.prefix ∙ ep;
      suffix = ap (left_of remaining) c.fail-in-Some-row_fault.ensures.suffix ∙ now;
      is = c.fail-in-Some-row_fault.ensures.text p s
          ∙ sym (line_then r.line _ _ r.ended c.requires.empty c.requires.more
          ∙ text_of_bad_row r.header r.at p s c.requires.begun c.requires.inside c.in-Some.row told.0 told.1 c.in-Some-row_fault.fault
          (sym c.row_fault.ensures ∙ c.in-Some-row_fault.is));
    })

pub returns-in-None-row_fault-clause-same : goal.returns-in-None-row_fault-clause-same
returns-in-None-row_fault-clause-same g c =
    let r = c.args.self.now in
    let remaining = g.R.Read.remaining in
    text_stays (text_left r) _ (left_of remaining r.prefix) (left_of remaining r.suffix) _ _ (λ p s ep es.
    let now = c.in_ok-row.ensures.same s es in
    let told = match_some _ c.in-Some.row _ _ c.in-Some.is (c.in_ok-row.ensures.told s now) in
    record {
      p = p;
      s = _;
      prefix = ep;
      suffix = c.take.ensures s now;
      is = line_then c.hold_line.new.self _ _ r.ended c.hold_line.ensures c.requires.more
          ∙ sym (line_then r.line _ _ r.ended c.requires.empty c.requires.more
          ∙ text_of_row r.header r.at p s c.requires.begun c.requires.inside c.in-Some.row told.0 told.1 r.within
          (sym c.row_fault.ensures ∙ c.in-None-row_fault.is));
    })
