use Rattle.std.proofs.Common.{subst, ◌∙◌}
use Rattle.std.proofs.lemmas.List.{length-map}
use Rattle.std.specs.Io.KnownBytes.{Appends}
use Rattle.kmc_device.specs.Device.{AppendsFront, Watched}
use Rattle.kmc_sum.specs.Lemmas.Beginnings.{sources_built}
use Rattle.kmc_join.proofs.Steps.{abreast_start}
use Rattle.kmc_join.proofs.Tabulations.{table_given_up, table_is}
use Rattle.kmc_join.proofs.tables.table_in.Goals as goal

pub returns-in_err-tally : goal.returns-in_err-tally
returns-in_err-tally g c =
    let left = λ (r : Watched g.row.R.Denot). g.R.Read.remaining r.inner in
    let are = sources_built left c.args.readers.now _ _ _ _ c.build.new.heads _ c.build.ensures.leaves (c.open.auto.heads ∙ c.requires.heads)
    c.in_ok-k.ensures.sources in
    let abreast = abreast_start _ (length-map c.args.readers.now left ∙ c.requires.two) _ _ _ _ are in
    table_given_up g.R.Read.remaining g.W.Write.contents c.args.cap _ c.args.readers.now c.tabulated.new.readers c.args.writer.now
    c.from_residual-in_err-tally.result _ _ c.from_residual-in_err-tally.ensures.1 c.in_ok-k.ensures.kept (c.in_err-tally.ensures.cause _ abreast)

pub returns-in-Ok-put_text : goal.returns-in-Ok-put_text
returns-in-Ok-put_text g c =
    let left = λ (r : Watched g.row.R.Denot). g.R.Read.remaining r.inner in
    let are = sources_built left c.args.readers.now _ _ _ _ c.build.new.heads _ c.build.ensures.leaves (c.open.auto.heads ∙ c.requires.heads)
    c.in_ok-k.ensures.sources in
    let abreast = abreast_start _ (length-map c.args.readers.now left ∙ c.requires.two) _ _ _ _ are in
    let whole = c.in_ok-tally.ensures.whole _ abreast in
    record {
      ok = (
        c.in_ok-tally.tally.entries,
        record {
          left = whole.left;
          right = whole.right;
          gave = whole.gave;
          words = whole.words;
          beside = whole.beside;
          table = table_is c.args.cap c.in_ok-tally.tally whole.words c.in-Ok.ensures.ordered c.in_ok-tally.ensures.sound whole.counts;
        },
        subst (Appends (g.W.Write.contents c.args.writer.now.inner) (g.W.Write.contents c.put_text.new.writer.inner))
            (c.deref.ensures ∙ c.in-Ok.ensures.text) c.in-Ok-put_text.ensures.ok,
      );
      sound = (c.in_ok-tally.ensures.kept ∙ c.in_ok-k.ensures.kept, c.in-Ok-put_text.ensures.kept);
      cause = tt;
    }

pub returns : goal.returns
returns g c =
    let left = λ (r : Watched g.row.R.Denot). g.R.Read.remaining r.inner in
    let are = sources_built left c.args.readers.now _ _ _ _ c.build.new.heads _ c.build.ensures.leaves (c.open.auto.heads ∙ c.requires.heads)
    c.in_ok-k.ensures.sources in
    let abreast = abreast_start _ (length-map c.args.readers.now left ∙ c.requires.two) _ _ _ _ are in
    let whole = c.in_ok-tally.ensures.whole _ abreast in
    record {
      ok = tt;
      sound = tt;
      cause = (
        c.in-Err.ensures.failed,
        (
          c.in_ok-tally.tally.entries,
          record {
            left = whole.left;
            right = whole.right;
            gave = whole.gave;
            words = whole.words;
            beside = whole.beside;
            table = table_is c.args.cap c.in_ok-tally.tally whole.words c.in-Ok.ensures.ordered c.in_ok-tally.ensures.sound whole.counts;
          },
          subst (AppendsFront (g.W.Write.contents c.args.writer.now.inner) (g.W.Write.contents c.put_text.new.writer.inner))
              (c.deref.ensures ∙ c.in-Ok.ensures.text) c.in-Err.ensures.front,
        ),
      );
    }
