use Rattle.std.proofs.Common.{sym, ap, ◌∙◌}
use Rattle.kmc_database.specs.DumpReader.{text_left}
use Rattle.kmc_database.specs.LeftOf.{left_of}
use Rattle.kmc_database.proofs.DumpRests.{line_then, text_stays}
use Rattle.kmc_database.proofs.DumpSteps.{text_of_bad_prefix, text_of_bad_suffix, text_of_begun}
use Rattle.kmc_database.proofs.reader.DatabaseReader.take_markers.Goals as goal

pub returns-then-not-branch-clause-same : goal.returns-then-not-branch-clause-same
returns-then-not-branch-clause-same g c =
    let r = c.args.self.now in
    let remaining = g.R.Read.remaining in
    text_stays (text_left r) _ (left_of remaining r.prefix) (left_of remaining r.suffix) _ _ (λ p s ep es.
    let now = c.in_ok-begins_with.ensures.same p ep in
    record {
      p = p;
      s = s;
      prefix = ap (left_of remaining) c.fail.ensures.prefix ∙ now;
      suffix = ap (left_of remaining) c.fail.ensures.suffix ∙ es;
      is = c.fail.ensures.text p s
          ∙ sym (line_then r.line _ _ r.ended c.requires.empty c.requires.more
          ∙ text_of_bad_prefix r.header r.at p s c.requires.fresh (sym (c.in_ok-begins_with.ensures.told p now) ∙ c.if-not-branch.true));
    })

pub returns-then-not-branch-2-clause-same : goal.returns-then-not-branch-2-clause-same
returns-then-not-branch-2-clause-same g c =
    let r = c.args.self.now in
    let remaining = g.R.Read.remaining in
    text_stays (text_left r) _ (left_of remaining r.prefix) (left_of remaining r.suffix) _ _ (λ p s ep es.
    let now = c.in_ok-begins_with.ensures.same p ep in
    let now_s = c.in_ok-begins_with-2.ensures.same s es in
    record {
      p = p;
      s = s;
      prefix = ap (left_of remaining) c.fail-then-not-branch-2.ensures.prefix ∙ now;
      suffix = ap (left_of remaining) c.fail-then-not-branch-2.ensures.suffix ∙ now_s;
      is = c.fail-then-not-branch-2.ensures.text p s
          ∙ sym (line_then r.line _ _ r.ended c.requires.empty c.requires.more
          ∙ text_of_bad_suffix r.header r.at p s c.requires.fresh (sym (c.in_ok-begins_with.ensures.told p now) ∙ c.if-not-branch.false)
          (sym (c.in_ok-begins_with-2.ensures.told s now_s) ∙ c.if-not-branch-2.true));
    })

pub returns-clause-same : goal.returns-clause-same
returns-clause-same g c =
    let r = c.args.self.now in
    let remaining = g.R.Read.remaining in
    text_stays (text_left r) _ (left_of remaining r.prefix) (left_of remaining r.suffix) _ _ (λ p s ep es.
    let now = c.in_ok-begins_with.ensures.same p ep in
    let now_s = c.in_ok-begins_with-2.ensures.same s es in
    record {
      p = _;
      s = _;
      prefix = c.take.ensures p now;
      suffix = c.take-2.ensures s now_s;
      is = line_then r.line _ _ r.ended c.requires.empty c.requires.more
          ∙ sym (line_then r.line _ _ r.ended c.requires.empty c.requires.more
          ∙ text_of_begun r.header r.at p s c.requires.fresh (sym (c.in_ok-begins_with.ensures.told p now) ∙ c.if-not-branch.false)
          (sym (c.in_ok-begins_with-2.ensures.told s now_s) ∙ c.if-not-branch-2.false));
    })
