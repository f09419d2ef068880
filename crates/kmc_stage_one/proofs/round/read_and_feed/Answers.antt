use Rattle.std.proofs.Common.{rules, arith, ◌≡◌, ◌<◌, ◌+◌, length, take, sym, subst, Some}
use Rattle.kmc_reads.specs.Errors.{input_error}
use Rattle.kmc_stage_one.specs.Fed.{IsFedBy}
use Rattle.kmc_stage_one.specs.Lemmas.Causes.{same_err}
use Rattle.kmc_stage_one.specs.Lemmas.Fed.{fed_refused, reads_many, refused_for_good}
use Rattle.kmc_stage_one.proofs.round.read_and_feed.Goals as goal

pub returns-clause-fed : goal.returns-clause-fed
returns-clause-fed g c = λ overlap format text taken s.
    let more : 0 < c.in-Ok.n → c.read.new.self.reads ≡ c.args.reader.now.reads + 1 = λ some. (c.in-Ok.ensures.counted some).0 c.requires.reads in
    record {
      bytes = take c.in-Ok.n c.read.new.buf;
      given = c.in-Ok.ensures.bytes.0;
      many = reads_many c.in-Ok.n
          (length (take c.in-Ok.n c.read.new.buf)) c.args.reader.now.reads c.read.new.self.reads c.in-Ok.ensures.bound.1 more c.in-Ok.ensures.at_end;
      stands = c.in_ok-feed.ensures.stands (Some overlap) format text taken s;
    }

pub returns-in_err-feed-clause-fed : goal.returns-in_err-feed-clause-fed
returns-in_err-feed-clause-fed g c = λ overlap format text taken s.
    let e = c.in_err-feed.field-0.0 in let to = c.from_residual.result in
    subst (IsFedBy overlap format _ _ _ _ text taken c.feed.new.self) (sym (same_err to (input_error e) c.from_residual.ensures.1))
    (fed_refused overlap format _ _ c.args.reader.now.reads c.read.new.self.reads text taken c.feed.new.self e (λ other.
    refused_for_good format _ _ text (take c.in-Ok.n c.read.new.buf) e c.fault_stays.ensures c.in-Ok.ensures.bytes.0
    (c.in_err-feed.ensures.refused (Some overlap) format text taken s other).0))

pub returns-in-Err-clause-counts : goal.returns-in-Err-clause-counts
returns-in-Err-clause-counts g c = search rules

pub returns-clause-block : goal.returns-clause-block
returns-clause-block g c = λ overlap format text taken s.
    (take c.in-Ok.n c.read.new.buf, omega (arith, c.in-Ok.ensures.bound), c.in-Ok.ensures.bytes.0, c.in_ok-feed.ensures.stands (Some overlap) format text taken s)
