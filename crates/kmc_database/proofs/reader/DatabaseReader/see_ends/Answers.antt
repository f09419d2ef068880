use Rattle.std.proofs.Common.{[], ◌++◌, sym, ap, ◌∙◌}
use Rattle.kmc_database.specs.DumpReader.{text_left}
use Rattle.kmc_database.specs.LeftOf.{left_of}
use Rattle.kmc_database.proofs.DumpRests.{line_then, text_stays}
use Rattle.kmc_database.proofs.DumpSteps.{text_of_bad_end, text_of_bad_header, text_of_end}
use Rattle.kmc_database.proofs.reader.DatabaseReader.see_ends.Goals as goal

pub returns-then-not-branch-clause-same : goal.returns-then-not-branch-clause-same
returns-then-not-branch-clause-same g c =
    let r = c.args.self.now in
    let remaining = g.R.Read.remaining in
    text_stays (text_left r) _ (left_of remaining r.prefix) (left_of remaining r.suffix) _ _ (λ p s ep es.
    let now = c.in_ok-ends_with.ensures.same s es in
    record {
      p = p;
      s = s;
      prefix = ap (left_of remaining) c.fail.ensures.prefix ∙ ep;
      suffix = ap (left_of remaining) c.fail.ensures.suffix ∙ now;
      is = c.fail.ensures.text p s
          ∙ sym (line_then r.line _ _ r.ended c.requires.empty c.requires.more
          ∙ text_of_bad_end r.header r.at p s c.requires.begun c.requires.all c.requires.table
          (sym (c.in_ok-ends_with.ensures.told s now) ∙ c.if-not-branch.true));
    })

pub returns-then-not-branch-2-clause-same : goal.returns-then-not-branch-2-clause-same
returns-then-not-branch-2-clause-same g c =
    let r = c.args.self.now in
    let remaining = g.R.Read.remaining in
    text_stays (text_left r) _ (left_of remaining r.prefix) (left_of remaining r.suffix) _ _ (λ p s ep es.
    let now = c.in_ok-ends_with.ensures.same s es in
    let now_p = c.in_ok-ends_in.ensures.same p ep in
    record {
      p = p;
      s = s;
      prefix = ap (left_of remaining) c.fail-then-not-branch-2.ensures.prefix ∙ now_p;
      suffix = ap (left_of remaining) c.fail-then-not-branch-2.ensures.suffix ∙ now;
      is = c.fail-then-not-branch-2.ensures.text p s
          ∙ sym (line_then r.line _ _ r.ended c.requires.empty c.requires.more
          ∙ text_of_bad_header r.header r.at p s c.requires.begun c.requires.all c.requires.table
          (sym (c.in_ok-ends_with.ensures.told s now) ∙ c.if-not-branch.false)
          (sym (c.in_ok-ends_in.ensures.told p now_p) ∙ c.if-not-branch-2.true));
    })

pub returns-clause-same : goal.returns-clause-same
returns-clause-same g c =
    let r = c.args.self.now in
    let remaining = g.R.Read.remaining in
    text_stays (text_left r) _ (left_of remaining r.prefix) (left_of remaining r.suffix) _ _ (λ p s ep es.
    let now = c.in_ok-ends_with.ensures.same s es in
    let now_p = c.in_ok-ends_in.ensures.same p ep in
    record {
      p = p;
      s = s;
      prefix = now_p;
      suffix = now;
      is = ap (λ t. t ++ []) c.requires.empty
          ∙ sym (line_then r.line _ _ r.ended c.requires.empty c.requires.more
          ∙ text_of_end r.header r.at p s c.requires.begun c.requires.all c.requires.table
          (sym (c.in_ok-ends_with.ensures.told s now) ∙ c.if-not-branch.false)
          (sym (c.in_ok-ends_in.ensures.told p now_p) ∙ c.if-not-branch-2.false));
    })
