use Rattle.kmc_database.proofs.Exits.{not_begun, since_begun}
use Rattle.kmc_database.proofs.packing.pack.Goals as goal

pub returns-in_err-head : goal.returns-in_err-head
returns-in_err-head g c =
    not_begun g.R.Read.remaining g.W.Write.contents c.args.options.now (g.R.Read.remaining c.args.reader.now.inner) c.args.reader.now c.begin.new.reader
    c.args.prefix.now c.args.suffix.now c.from_residual.result _ c.from_residual.ensures.1
    (c.in_err-head.ensures.cause c.args.prefix.now.failures c.args.suffix.now.failures)

pub returns : goal.returns
returns g c =
    let o = c.args.options.now in
    let start = g.R.Read.remaining c.args.reader.now.inner in
    let h = c.in_ok-head.ensures.ok in
    since_begun g.R.Read.remaining g.W.Write.contents o start c.args.reader.now c.begin.new.reader c.pack_rows.new.reader c.args.prefix.now
    c.pack_rows.new.prefix c.args.suffix.now c.pack_rows.new.suffix c.pack_rows.result h.kept (c.pack_rows.ensures o start h.asked)
