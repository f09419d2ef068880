use Rattle.std.proofs.Common.{◌∙◌}
use Rattle.kmc_lists.specs.Listed.{spelled}
use Rattle.kmc_lists.specs.Lists.{lists_of}
use Rattle.kmc_lists.specs.Ordered.{whole}
use Rattle.kmc_spectrum.proofs.SeenPairs.{of_whole}
use Rattle.kmc_spectrum.proofs.Written.{if_ok}
use Rattle.kmc_spectrum.proofs.running.spectrum_text.Goals as goal

pub returns : goal.returns
returns c =
    let lists = lists_of c.args.lists.now in
    let tally = c.in_ok-tally.tally in
    let told = c.in_ok-tally.ensures in
    if_ok c.rows.result
    (λ text is ordered k. (
      tally.entries,
      c.tally_is_histogram.ensures tally (spelled k (whole lists)) ordered told.sound (λ n. told.counts n ∙ of_whole lists k n),
      is,
    ))
    c.rows.ensures.text c.rows.ensures.ordered
