use Rattle.std.proofs.Common.{sym, ap, ◌∙◌, arith}
use Rattle.kmc_database.specs.DumpReader.{text_left}
use Rattle.kmc_database.specs.LeftOf.{left_of}
use Rattle.kmc_database.proofs.DumpRests.{line_then, text_stays}
use Rattle.kmc_database.proofs.DumpSteps.{text_of_bad_entry, text_of_entry, text_of_short_table}
use Rattle.kmc_database.proofs.Entries.{match_none, match_some}
use Rattle.kmc_database.proofs.Words.{few_parts}
use Rattle.kmc_database.proofs.reader.DatabaseReader.take_entry.Goals as goal

pub overflow_add-self : goal.overflow_add-self
overflow_add-self g c =
    let r = c.args.self.now in
    omega (arith, c.requires.table, few_parts r.header.layout r.layout)

pub returns-in-None-clause-same : goal.returns-in-None-clause-same
returns-in-None-clause-same g c =
    let r = c.args.self.now in
    let remaining = g.R.Read.remaining in
    text_stays (text_left r) _ (left_of remaining r.prefix) (left_of remaining r.suffix) _ _ (λ p s ep es.
    let now = c.in_ok-entry.ensures.same p ep in
    record {
      p = p;
      s = s;
      prefix = ap (left_of remaining) c.fail.ensures.prefix ∙ now;
      suffix = ap (left_of remaining) c.fail.ensures.suffix ∙ es;
      is = c.fail.ensures.text p s
          ∙ sym (line_then r.line _ _ r.ended c.requires.empty c.requires.more
          ∙ text_of_short_table r.header r.at p s c.requires.begun c.requires.all c.requires.table
          (match_none _ _ _ c.in-None.is (c.in_ok-entry.ensures.told p now)));
    })

pub returns-in-Some-entry_fault-clause-same : goal.returns-in-Some-entry_fault-clause-same
returns-in-Some-entry_fault-clause-same g c =
    let r = c.args.self.now in
    let remaining = g.R.Read.remaining in
    text_stays (text_left r) _ (left_of remaining r.prefix) (left_of remaining r.suffix) _ _ (λ p s ep es.
    let now = c.in_ok-entry.ensures.same p ep in
    let told = match_some _ c.in-Some.entry _ _ c.in-Some.is (c.in_ok-entry.ensures.told p now) in
    record {
      p = p;
      s = s;
      prefix = ap (left_of remaining) c.fail-in-Some-entry_fault.ensures.prefix ∙ now;
      suffix = ap (left_of remaining) c.fail-in-Some-entry_fault.ensures.suffix ∙ es;
      is = c.fail-in-Some-entry_fault.ensures.text p s
          ∙ sym (line_then r.line _ _ r.ended c.requires.empty c.requires.more
          ∙ text_of_bad_entry r.header r.at p s c.requires.begun c.requires.all c.requires.table c.in-Some.entry told.0 told.1
          c.in-Some-entry_fault.fault (sym c.entry_fault.ensures ∙ c.in-Some-entry_fault.is));
    })

pub returns-in-None-entry_fault-clause-same : goal.returns-in-None-entry_fault-clause-same
returns-in-None-entry_fault-clause-same g c =
    let r = c.args.self.now in
    let remaining = g.R.Read.remaining in
    text_stays (text_left r) _ (left_of remaining r.prefix) (left_of remaining r.suffix) _ _ (λ p s ep es.
    let now = c.in_ok-entry.ensures.same p ep in
    let told = match_some _ c.in-Some.entry _ _ c.in-Some.is (c.in_ok-entry.ensures.told p now) in
    record {
      p = _;
      s = s;
      prefix = c.take.ensures p now;
      suffix = es;
      is = line_then r.line _ _ r.ended c.requires.empty c.requires.more
          ∙ sym (line_then r.line _ _ r.ended c.requires.empty c.requires.more
          ∙ text_of_entry r.header r.at p s c.requires.begun c.requires.all c.requires.table c.in-Some.entry told.0 told.1
          (sym c.entry_fault.ensures ∙ c.in-None-entry_fault.is));
    })
