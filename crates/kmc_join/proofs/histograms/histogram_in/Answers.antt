use Rattle.std.proofs.Common.{subst, ◌∙◌}
use Rattle.std.specs.Io.KnownBytes.{Appends}
use Rattle.kmc_device.specs.Device.{AppendsFront}
use Rattle.kmc_join.proofs.Tallies.{histogram_is}
use Rattle.kmc_join.proofs.histograms.histogram_in.Goals as goal

pub returns-in-Ok-put_text : goal.returns-in-Ok-put_text
returns-in-Ok-put_text g c =
    let whole = c.in_ok-tally.ensures.whole _ c.in_ok-k.ensures.sources in
    record {
      ok = record {
        pairs = whole.pairs;
        gave = whole.gave;
        rows = c.in_ok-tally.tally.entries;
        histogram = histogram_is c.in_ok-tally.tally whole.pairs c.in-Ok.ensures.ordered c.in_ok-tally.ensures.sound whole.counts;
        text = subst (Appends (g.W.Write.contents c.args.writer.now.inner) (g.W.Write.contents c.put_text.new.writer.inner))
            (c.deref.ensures ∙ c.in-Ok.ensures.text) c.in-Ok-put_text.ensures.ok;
      };
      sound = (c.in_ok-tally.ensures.kept ∙ c.in_ok-k.ensures.kept, c.in-Ok-put_text.ensures.kept);
      cause = tt;
    }

pub returns : goal.returns
returns g c =
    let whole = c.in_ok-tally.ensures.whole _ c.in_ok-k.ensures.sources in
    record {
      ok = tt;
      sound = tt;
      cause = (
        c.in-Err.ensures.failed,
        record {
          pairs = whole.pairs;
          gave = whole.gave;
          rows = c.in_ok-tally.tally.entries;
          histogram = histogram_is c.in_ok-tally.tally whole.pairs c.in-Ok.ensures.ordered c.in_ok-tally.ensures.sound whole.counts;
          text = subst (AppendsFront (g.W.Write.contents c.args.writer.now.inner) (g.W.Write.contents c.put_text.new.writer.inner))
              (c.deref.ensures ∙ c.in-Ok.ensures.text) c.in-Err.ensures.front;
        },
      );
    }
