use Rattle.std.proofs.Common.{inl, inr, ◌+◌, ◌++◌, Ok, true, false, refl, sym, subst, ◌∙◌, arith}
use Rattle.kmc_stage_one.specs.Fed.{AreCounts, IsFedBy}
use Rattle.kmc_stage_one.specs.Lemmas.Causes.{same_err}
use Rattle.kmc_stage_one.specs.Lemmas.Fed.{fed_none, fed_on, fed_by}
use Rattle.kmc_stage_one.specs.declared.round.TheConstants.{BLOCK}
use Rattle.kmc_stage_one.proofs.Filled.{filled, not_full}
use Rattle.kmc_stage_one.proofs.round.fill_round.Goals as goal

pub loop-init : goal.loop-init
loop-init g c = record {
  most = c.requires.reads;
  room = inl refl;
  way = record {
    kept = refl;
    many = omega arith;
    fed = λ overlap format text taken s. fed_none overlap format _ c.args.reader.now.reads text taken c.args.feeder.now s;
  };
}

pub loop-preserved : goal.loop-preserved
loop-preserved g c =
    let way = c.loop.invariant.way in
    let most = c.loop.invariant.most in
    let reads = c.loop.reader.reads in let after = c.read_and_feed.new.reader.reads in
    let h = subst (λ b. AreCounts (reads + 1) reads after c.loop.reader.failures c.read_and_feed.new.reader.failures
    (Ok b)) c.if-not-more.false c.in_ok-more.ensures.counts in
    record {
      most = omega (arith, h.2, c.if-reads-most.false, c.reads.ensures);
      room = inr (record {
        waiting = λ overlap format text taken s. (
          omega (arith, c.waiting.ensures.rows s.rows s.spot s.front s.stands, c.if-waiting-reads.false),
          omega (arith, c.waiting_symbols.ensures.rows s.rows s.spot s.front s.stands, c.if-waiting_symbols-symbols.false),
        );
        open_read = λ at. omega (arith, c.open_symbols.ensures at, c.if-open_symbols-symbols.false);
      });
      way = record {
        kept = h.0 ∙ way.kept;
        many = omega (arith, h.1, way.many);
        fed = λ overlap format text taken s. let f = way.fed overlap format text taken s in
            fed_on overlap format _ _ _ c.args.reader.now.reads c.loop.reader.reads c.read_and_feed.new.reader.reads text taken c.loop.feeder c.read_and_feed.new.feeder f
            (c.in_ok-more.ensures.fed overlap format _ taken f.stands);
      };
    }

pub returns-in_err-more-clause-fed : goal.returns-in_err-more-clause-fed
returns-in_err-more-clause-fed g c = λ overlap format text taken s.
    let f = c.loop.invariant.way.fed overlap format text taken s in
    fed_by overlap format _ _ _ c.args.reader.now.reads c.loop.reader.reads c.read_and_feed.new.reader.reads text taken c.loop.feeder c.read_and_feed.new.feeder c.from_residual.result f
    (subst (IsFedBy overlap format _ _ _ _ (text ++ f.bytes) taken c.read_and_feed.new.feeder)
    (sym (same_err c.from_residual.result c.in_err-more.field-0.0 c.from_residual.ensures.1)) (c.in_err-more.ensures.fed overlap format _ taken f.stands))

pub returns-then-not-more-clause-fed : goal.returns-then-not-more-clause-fed
returns-then-not-more-clause-fed g c = λ overlap format text taken s.
    let f = c.loop.invariant.way.fed overlap format text taken s in
    fed_by overlap format _ _ _ c.args.reader.now.reads c.loop.reader.reads c.read_and_feed.new.reader.reads text taken c.loop.feeder c.read_and_feed.new.feeder (Ok false) f
    (c.in_ok-more.ensures.fed overlap format _ taken f.stands)

pub returns-then-waiting-reads-clause-fed : goal.returns-then-waiting-reads-clause-fed
returns-then-waiting-reads-clause-fed g c = λ overlap format text taken s.
    let f = c.loop.invariant.way.fed overlap format text taken s in
    fed_by overlap format _ _ _ c.args.reader.now.reads c.loop.reader.reads c.read_and_feed.new.reader.reads text taken c.loop.feeder c.read_and_feed.new.feeder (Ok true) f
    (c.in_ok-more.ensures.fed overlap format _ taken f.stands)

pub returns-then-not-more-clause-filled : goal.returns-then-not-more-clause-filled
returns-then-not-more-clause-filled g c = λ overlap format text taken s.
    let f = c.loop.invariant.way.fed overlap format text taken s in
    filled c.args.reads c.args.symbols BLOCK overlap format _ _ _ _ text taken c.args.feeder.now c.loop.feeder f c.loop.invariant.room
    _ c.read_and_feed.new.feeder (c.in_ok-more.ensures.block overlap format _ taken f.stands)

pub returns-then-waiting-reads-clause-filled : goal.returns-then-waiting-reads-clause-filled
returns-then-waiting-reads-clause-filled g c = λ overlap format text taken s.
    let f = c.loop.invariant.way.fed overlap format text taken s in
    filled c.args.reads c.args.symbols BLOCK overlap format _ _ _ _ text taken c.args.feeder.now c.loop.feeder f c.loop.invariant.room
    _ c.read_and_feed.new.feeder (c.in_ok-more.ensures.block overlap format _ taken f.stands)

pub returns-clause-filled : goal.returns-clause-filled
returns-clause-filled g c = λ overlap format text taken s.
    not_full c.args.reads c.args.symbols BLOCK overlap format _ _ _ _ text taken c.args.feeder.now c.loop.feeder
    (c.loop.invariant.way.fed overlap format text taken s) c.loop.invariant.room
