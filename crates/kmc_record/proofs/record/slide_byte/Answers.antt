use Rattle.std.proofs.Common.{◌/◌, ◌∙◌}
use Rattle.kmc_base.specs.Lemmas.Powers.{part_some, parts_of_top}
use Rattle.kmc_base.specs.Lemmas.Rolling.{ahead_bytes, behind_bytes}
use Rattle.kmc_record.proofs.record.slide_byte.Goals as goal

pub returns : goal.returns
returns g c =
    let num = g.W.PackedKmer.number in
    let t = num c.args.top in
    let h = c.requires.top in
    record {
      ahead = c.ahead_byte.ensures ∙ ahead_bytes t (t / 64) (num c.args.forward) c.args.byte (part_some t h.0 h.1 h.3)
          (parts_of_top t h.0 h.1 h.3) c.ranges.byte.fits;
      behind = c.behind_byte.ensures ∙ behind_bytes t (t / 64) (num c.args.back) c.args.byte (parts_of_top t h.0 h.1 h.3);
    }
