use Rattle.std.proofs.Common.{◌≡◌, ◌+◌, ◌<◌, length, take, drop, get_or, arith}
use Rattle.kmc_join.proofs.WordLines.{all_letters, codes_are, line_begins, line_feed, not_all, word_found}
use Rattle.kmc_join.proofs.word_lines.word_at.Goals as goal
use Rattle.kmc_join.proofs.word_lines.word_at.Goals.{then-k-bytes-via-then-k-bytes, then-k-bytes-via-else-k-bytes+then-bytes-k-ne10}

pub returns-then-k-bytes : goal.returns-then-k-bytes
returns-then-k-bytes c = λ w more kmer e.
    let xs = c.args.bytes.now in
    let d = c.letters-k.ensures in
    let k = c.letters-k.result.0 in
    elim c.then-k-bytes.branch [
      | then-k-bytes-via-then-k-bytes b ↦ not_all xs w more k e kmer d.each d.ends b.if-k-bytes.true
      | then-k-bytes-via-else-k-bytes+then-bytes-k-ne10 b ↦ b.if-bytes-k-ne10.true (line_feed xs w more k e kmer d.each d.ends)
    ]

pub returns : goal.returns
returns c =
    let xs = c.args.bytes.now in
    let d = c.letters-k.ensures in
    let k = c.letters-k.result.0 in
    let codes = c.letters-k.result.1 in
    let inside : k < length xs = omega (arith, d.within, c.if-k-bytes.false) in
    let feed : get_or xs k 0 ≡ 10 = omega (arith, c.if-bytes-k-ne10.false) in
    word_found xs (take k codes) (drop (k + 1) xs) c.new.result c.new.ensures
    (line_begins xs codes k inside d.word feed)
    (λ w more kmer e.
    let long = all_letters xs w more k e kmer d.each d.ends in
    codes_are codes k (omega (arith, long, kmer.some)) (omega (arith, d.most)) (omega (arith, d.most, d.room)) d.codes)
