use Rattle.std.proofs.Common.{◌∙◌, arith, rules}
use Rattle.std.proofs.lemmas.List.{length-set}
use Rattle.kmc_store.specs.Lemmas.Places.{left_more, appended_more}
use Rattle.kmc_store.proofs.growth.append_bodies.Goals as goal

pub loop-i-preserved : goal.loop-i-preserved
loop-i-preserved c =
    let own = c.loop-i.own.items in
    let more = c.loop-i.more.items in
    let own₀ = c.args.own.now.items in
    let more₀ = c.args.more.now.items in
    let i = c.loop-i.i in
    let was = c.loop-i.invariant in
    record {
      wide = length-set own i c.append_body.new.own ∙ was.wide;
      wide_more = length-set more i c.append_body.new.more ∙ was.wide_more;
      done = appended_more own more own₀ more₀ i c.index_mut.result.now c.index_mut-in-loop-i.result.now c.append_body.new.own (omega arith)
          (omega arith) (omega arith)
          c.index_mut.ensures.value c.index_mut-in-loop-i.ensures.value c.append_body.ensures was.left was.left_more was.done;
      left = left_more own own₀ i c.append_body.new.own was.left;
      left_more = left_more more more₀ i c.append_body.new.more was.left_more;
    }

pub loop-i-init : goal.loop-i-init
loop-i-init c = search rules
