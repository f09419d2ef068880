use Rattle.std.proofs.Common.{◌≡◌, ◌+◌, ◌-◌, ℕ, [], ◌++◌, Ok, OnErr, length, map, refl, sym, ap, subst, ◌∙◌, arith, Some}
use Rattle.kmc_device.specs.Device.{Watched}
use Rattle.kmc_device.specs.Lemmas.Devices.{on_err, on_ok, on_ok_then}
use Rattle.kmc_record.specs.Shapes.{Sizes}
use Rattle.kmc_store.specs.Bins.{BinList}
use Rattle.kmc_stage_one.specs.Fed.{AreCountsOf}
use Rattle.kmc_stage_one.specs.Rounds.{HoldsPieces}
use Rattle.kmc_stage_one.specs.Lemmas.Fed.{counts_on, risen, unfaulted}
use Rattle.kmc_stage_one.specs.Lemmas.Stored.{fed_cause}
use Rattle.kmc_slices.specs.Rounds.{AreLastRounds, AreRounds, AreUnended}
use Rattle.kmc_slices.proofs.Rounds.{rounds_unended}
use Rattle.kmc_slices.proofs.Told.{last_cause, last_counts, refused_since, taken_since, told_cause, told_counts, told_writes, writes_on}
use Rattle.kmc_slices.proofs.cutting.cut_rounds.Goals as goal

pub returns-in_err-bins-clause-left : goal.returns-in_err-bins-clause-left
returns-in_err-bins-clause-left g c = λ olds before.
    on_err c.from_residual.result _ (rounds_unended c.args.dealing.now.settings.shape c.args.dealing.now.limit
    (length c.args.writers.now) olds [] _ c.args.counts.now before)

pub returns-in-Err-clause-cause : goal.returns-in-Err-clause-cause
returns-in-Err-clause-cause g c =
    let p = c.args.dealing.now.settings in let max = c.args.max_reads in let e = c.in-Err.e in
    let old = c.args.reader.now in let new = c.fill_round.new.reader in
    let counts = subst (λ n. AreCountsOf (n + max) old.reads new.reads old.failures new.failures e) c.reads.ensures c.in-Err.ensures.counts in
    told_cause p.format max _ _ e c.told.result c.told.ensures
    (fed_cause (p.shape.k - 1) p.format max _ _ old.reads new.reads old.failures new.failures [] c.fill_round.new.feeder e
    (c.in-Err.ensures.fed (p.shape.k - 1) p.format [] [] (c.new-feeder.ensures (Some (p.shape.k - 1)))) counts)

pub returns-in-Err-clause-left : goal.returns-in-Err-clause-left
returns-in-Err-clause-left g c = λ olds before.
    rounds_unended c.args.dealing.now.settings.shape c.args.dealing.now.limit (length c.args.writers.now) olds [] _ c.args.counts.now before

pub loop-init : goal.loop-init
loop-init g c =
    let p = c.args.dealing.now.settings in let old = c.args.reader.now in let new = c.fill_round.new.reader in
    let r = risen (c.reads.result + c.args.max_reads) old.reads new.reads old.failures new.failures c.in-Ok.more c.in-Ok.ensures.counts in
    record {
      kept = r.kept;
      many = omega (arith, r.least);
      some = λ e. (let k = r.some e in omega (arith, k));
      below = r.below;
      under = r.under;
      ended = λ e. c.in-Ok.ensures.at_end (ap Ok e);
      shaped = ap (λ (b : BinList). b.shape) c.in_ok-bins.ensures;
      wide = refl;
      counted = refl;
      same = refl;
      way = record {
        taken = [];
        fed = c.in-Ok.ensures.fed (p.shape.k - 1) p.format [] [] (c.new-feeder.ensures (Some (p.shape.k - 1)));
        written = λ olds before. before;
      };
    }

pub returns-then-not-more-clause-ok : goal.returns-then-not-more-clause-ok
returns-then-not-more-clause-ok g c = λ olds before.
    let inv = c.loop.invariant in let st = inv.way in let dealing = c.args.dealing.now in let p = dealing.settings in let shape = p.shape in
    let held = λ (w : Watched g.row.W.Denot). g.W.Write.contents w.inner in
    let mids = map held c.loop.writers in let news = map held c.cut_last_round.new.writers in
    on_ok_then c.cut_last_round.result _ _ (λ last. record {
      bytes = st.fed.bytes;
      given = (st.fed.given, inv.ended c.if-not-more.true);
      rounds = subst (λ n. AreLastRounds p.format shape dealing.limit n st.fed.bytes olds news c.cut_last_round.new.counts) inv.wide last;
    })
    (c.cut_last_round.ensures.ok p.format st.fed.bytes st.taken olds st.fed.stands
    (subst (λ n. AreRounds shape dealing.limit n st.taken olds mids c.loop.counts) (sym inv.wide) (st.written olds before)))

pub returns-then-not-more-clause-sound : goal.returns-then-not-more-clause-sound
returns-then-not-more-clause-sound g c =
    let inv = c.loop.invariant in let under = inv.under c.if-not-more.true in
    on_ok c.cut_last_round.result _ (inv.kept, omega (arith, inv.many), omega (arith, under, c.reads.ensures))

pub returns-then-not-more-clause-cause : goal.returns-then-not-more-clause-cause
returns-then-not-more-clause-cause g c =
    let inv = c.loop.invariant in let st = inv.way in let p = c.args.dealing.now.settings in
    last_cause (p.shape.k - 1) p.format c.args.max_reads _ _ c.args.reader.now.reads c.loop.reader.reads st.taken c.loop.feeder c.cut_last_round.result
    st.fed (inv.ended c.if-not-more.true) (c.cut_last_round.ensures.cause p.format st.fed.bytes st.taken st.fed.stands)

pub returns-then-not-more-clause-read_counts : goal.returns-then-not-more-clause-read_counts
returns-then-not-more-clause-read_counts g c =
    let inv = c.loop.invariant in let st = inv.way in let p = c.args.dealing.now.settings in
    let old = c.args.reader.now in let new = c.loop.reader in
    last_counts p.format st.fed.bytes (old.reads + c.args.max_reads) old.reads new.reads old.failures new.failures c.cut_last_round.result
    inv.kept (omega (arith, inv.many)) (omega (arith, inv.below, c.reads.ensures))
    (c.cut_last_round.ensures.cause p.format st.fed.bytes st.taken st.fed.stands)

pub returns-then-not-more-clause-write_counts : goal.returns-then-not-more-clause-write_counts
returns-then-not-more-clause-write_counts g c =
    let failures = λ (w : Watched g.row.W.Denot). w.failures in
    writes_on (map failures c.args.writers.now) (map failures c.loop.writers) (map failures c.cut_last_round.new.writers) c.cut_last_round.result
    c.loop.invariant.same c.cut_last_round.ensures.write_counts

pub returns-then-not-more-clause-left : goal.returns-then-not-more-clause-left
returns-then-not-more-clause-left g c = λ olds before.
    let inv = c.loop.invariant in let st = inv.way in let dealing = c.args.dealing.now in let shape = dealing.settings.shape in
    let held = λ (w : Watched g.row.W.Denot). g.W.Write.contents w.inner in
    let mids = map held c.loop.writers in let news = map held c.cut_last_round.new.writers in
    subst (λ n. OnErr c.cut_last_round.result (AreUnended shape n olds news)) inv.wide
    (c.cut_last_round.ensures.left st.taken olds
    (subst (λ n. AreRounds shape dealing.limit n st.taken olds mids c.loop.counts) (sym inv.wide) (st.written olds before)))

pub returns-in-Err-next_bins-clause-cause : goal.returns-in-Err-next_bins-clause-cause
returns-in-Err-next_bins-clause-cause g c =
    let inv = c.loop.invariant in let st = inv.way in let p = c.args.dealing.now.settings in let max = c.args.max_reads in
    let e = c.in-Err-next_bins.e in let told = c.told-in-Err-next_bins in
    let old = c.args.reader.now in let mid = c.loop.reader in let new = c.next_bins.new.reader in
    let counts =
    subst (λ n. AreCountsOf (n + max) mid.reads new.reads mid.failures new.failures e) c.reads.ensures c.in-Err-next_bins.ensures.refused in
    let round = c.in-Err-next_bins.ensures.cause p.format st.fed.bytes st.taken st.fed.stands in
    told_cause p.format max _ _ e told.result told.ensures
    (fed_cause (p.shape.k - 1) p.format max _ _ old.reads new.reads old.failures new.failures (st.taken ++ round.round) c.next_bins.new.feeder e
    (refused_since (p.shape.k - 1) p.format _ _ _ old.reads mid.reads new.reads [] st.taken
    (st.taken ++ round.round) c.loop.feeder c.next_bins.new.feeder e st.fed round.fed)
    (counts_on e (old.reads + max) old.reads mid.reads new.reads old.failures mid.failures new.failures (omega (arith, inv.many)) inv.kept counts))

pub returns-in-Err-next_bins-clause-read_counts : goal.returns-in-Err-next_bins-clause-read_counts
returns-in-Err-next_bins-clause-read_counts g c =
    let inv = c.loop.invariant in let max = c.args.max_reads in let e = c.in-Err-next_bins.e in let told = c.told-in-Err-next_bins in
    let old = c.args.reader.now in let mid = c.loop.reader in let new = c.next_bins.new.reader in
    let counts =
    subst (λ n. AreCountsOf (n + max) mid.reads new.reads mid.failures new.failures e) c.reads.ensures c.in-Err-next_bins.ensures.refused in
    told_counts (old.reads + max) old.reads new.reads old.failures new.failures e told.result told.ensures
    (counts_on e (old.reads + max) old.reads mid.reads new.reads old.failures mid.failures new.failures (omega (arith, inv.many)) inv.kept counts)

pub returns-in-Err-next_bins-clause-write_counts : goal.returns-in-Err-next_bins-clause-write_counts
returns-in-Err-next_bins-clause-write_counts g c =
    let told = c.told-in-Err-next_bins in told_writes _ _ c.in-Err-next_bins.e told.result told.ensures c.loop.invariant.same

pub returns-in-Err-next_bins-clause-left : goal.returns-in-Err-next_bins-clause-left
returns-in-Err-next_bins-clause-left g c = λ olds before.
    let st = c.loop.invariant.way in
    rounds_unended c.args.dealing.now.settings.shape c.args.dealing.now.limit (length c.args.writers.now) olds st.taken _ c.loop.counts
    (st.written olds before)

pub returns-in-Err-write_bins-clause-read_counts : goal.returns-in-Err-write_bins-clause-read_counts
returns-in-Err-write_bins-clause-read_counts g c =
    let inv = c.loop.invariant in let mid = c.loop.reader in let new = c.next_bins.new.reader in
    let r =
    risen (c.reads.result + c.args.max_reads) mid.reads new.reads mid.failures new.failures c.in-Ok-next_bins.next.1
    c.in-Ok-next_bins.ensures.counts in
    (r.kept ∙ inv.kept, omega (arith, inv.many, r.least), omega (arith, r.below, c.reads.ensures))

pub returns-in-Err-write_bins-clause-left : goal.returns-in-Err-write_bins-clause-left
returns-in-Err-write_bins-clause-left g c = λ olds before.
    let inv = c.loop.invariant in let st = inv.way in let dealing = c.args.dealing.now in let shape = dealing.settings.shape in let S =
    length c.args.writers.now in
    let held = λ (w : Watched g.row.W.Denot). g.W.Write.contents w.inner in
    let mids = map held c.loop.writers in let news = map held c.write_bins.new.writers in
    let shaped : c.in-Ok-next_bins.next.0.shape ≡ shape = c.in-Ok-next_bins.ensures.shape in
    subst (λ (t : Sizes × ℕ). AreUnended t.0 t.1 olds news) (λ i. (shaped i, inv.wide i))
    (c.in-Err-write_bins.ensures.left dealing.limit st.taken olds
    (subst (λ (t : Sizes × ℕ). AreRounds t.0 dealing.limit t.1 st.taken olds mids c.loop.counts) (sym (λ i. (shaped i, inv.wide i)))
    (st.written olds before)))

pub loop-preserved : goal.loop-preserved
loop-preserved g c =
    let inv = c.loop.invariant in let st = inv.way in let dealing = c.args.dealing.now in let p = dealing.settings in let shape = p.shape in
    let held = λ (w : Watched g.row.W.Denot). g.W.Write.contents w.inner in
    let mids = map held c.loop.writers in let news = map held c.write_bins.new.writers in
    let old = c.args.reader.now in let mid = c.loop.reader in let new = c.next_bins.new.reader in
    let next = c.in-Ok-next_bins.next in
    let r = risen (c.reads.result + c.args.max_reads) mid.reads new.reads mid.failures new.failures next.1 c.in-Ok-next_bins.ensures.counts in
    let begun = inv.some c.if-not-more.false in
    let round = c.in-Ok-next_bins.ensures.round p.format st.fed.bytes st.taken st.fed.stands in
    let shaped : next.0.shape ≡ shape = c.in-Ok-next_bins.ensures.shape in
    record {
      kept = r.kept ∙ inv.kept;
      many = omega (arith, begun, r.least);
      some = λ e. (let k = r.some e in omega (arith, k, begun));
      below = r.below;
      under = r.under;
      ended = c.in-Ok-next_bins.ensures.at_end;
      shaped = shaped;
      wide = c.write_bins.auto.writers ∙ inv.wide;
      counted = c.write_bins.auto.counts ∙ inv.counted;
      same = c.in-Ok-write_bins.ensures.kept ∙ inv.same;
      way = record {
        taken = st.taken ++ round.round;
        fed = taken_since (p.shape.k - 1) p.format _ _ _ old.reads mid.reads new.reads [] st.taken
            (st.taken ++ round.round) c.loop.feeder c.next_bins.new.feeder st.fed round.fed;
        written = λ olds before.
            subst (λ (t : Sizes × ℕ). AreRounds t.0 dealing.limit t.1 (st.taken ++ round.round) olds news c.write_bins.new.counts)
            (λ i. (shaped i, inv.wide i))
            (c.in-Ok-write_bins.ensures.ok dealing.limit st.taken round.round olds
            (subst (λ (t : Sizes × ℕ). AreRounds t.0 dealing.limit t.1 st.taken olds mids c.loop.counts) (sym (λ i. (shaped i, inv.wide i)))
            (st.written olds before))
            (subst (λ (t : Sizes). HoldsPieces t dealing.limit round.round next.0.bodies) (sym shaped) round.holds));
      };
    }

pub returns-clause-cause : goal.returns-clause-cause
returns-clause-cause g c =
    let inv = c.loop.invariant in let st = inv.way in let p = c.args.dealing.now.settings in (
      st.fed.bytes,
      st.fed.given,
      omega (arith, st.fed.many, inv.many, c.requires.most, c.loop-test.false, c.loop.auto.counter-end),
      unfaulted (p.shape.k - 1) p.format st.fed.bytes st.taken c.loop.feeder st.fed.stands,
    )

pub returns-clause-left : goal.returns-clause-left
returns-clause-left g c = λ olds before.
    let st = c.loop.invariant.way in
    rounds_unended c.args.dealing.now.settings.shape c.args.dealing.now.limit (length c.args.writers.now) olds st.taken _ c.loop.counts
    (st.written olds before)
