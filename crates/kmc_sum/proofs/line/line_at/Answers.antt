use Rattle.std.proofs.Common.{◌+◌, ◌-◌, length, drop, arith, length-drop}
use Rattle.std.proofs.lemmas.List.{length-take-le}
use Rattle.kmc_sum.proofs.Fronts.{some_letters, more_than_letters, tab, number_behind, line_is}
use Rattle.kmc_sum.proofs.line.line_at.Goals as goal
use Rattle.kmc_sum.proofs.line.line_at.Goals.{then-k-eq0-via-then-k-eq0, then-k-eq0-via-else-k-eq0+then-k-bytes, then-k-eq0-via-else-k-eq0+else-k-bytes+then-bytes-k-ne9}

pub returns-then-k-eq0 : goal.returns-then-k-eq0
returns-then-k-eq0 c = λ n p more size pair e.
    let xs = c.args.bytes.now in let d = c.letters-k.ensures in let k = c.letters-k.result.0 in
    elim c.then-k-eq0.branch [
      | then-k-eq0-via-then-k-eq0 w ↦ some_letters xs k d.each d.ends n p more size pair e w.if-k-eq0.true
      | then-k-eq0-via-else-k-eq0+then-k-bytes w ↦ more_than_letters xs k d.each d.ends n p more size pair e w.if-k-bytes.true
      | then-k-eq0-via-else-k-eq0+else-k-bytes+then-bytes-k-ne9 w ↦ w.if-bytes-k-ne9.true (tab xs k d.each d.ends n p more size pair e)
    ]

pub returns-in-None : goal.returns-in-None
returns-in-None c = λ n p more size pair e.
    let d = c.letters-k.ensures in
    c.in-None.ensures p.1 more pair.some pair.most (number_behind c.args.bytes.now c.letters-k.result.0 d.each d.ends n p more size pair e)

pub returns-in-Some : goal.returns-in-Some
returns-in-Some c =
    let xs = c.args.bytes.now in let d = c.letters-k.ensures in let k = c.letters-k.result.0 in
    record {
      long = (omega (arith, c.if-k-eq0.false), d.most);
      fits = d.fits;
      some = c.in-Some.ensures.0;
      most = c.in-Some.ensures.1;
      within = omega (
        arith,
        d.within,
        c.if-k-bytes.false,
        c.in-Some.ensures.2,
        length-take-le (length xs - (k + 1)) (drop (k + 1) xs)
            (omega (arith, length-drop (k + 1) xs)),
      );
      is = line_is xs k c.letters-k.result.1 c.in-Some.count c.in-Some.end (omega (arith, d.within, c.if-k-bytes.false)) d.word
          (omega (arith, c.if-bytes-k-ne9.false)) c.in-Some.ensures.3;
    }
