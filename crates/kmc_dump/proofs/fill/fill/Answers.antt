use Rattle.kmc_dump.proofs.Bounds.{bounds_rise, range_few, range_read}
use Rattle.kmc_dump.proofs.fill.fill.Goals as goal

pub put_text-buffer-requires-clause-ranges : goal.put_text-buffer-requires-clause-ranges
put_text-buffer-requires-clause-ranges g c = c.requires.ranges

pub put_text-buffer-requires-clause-range : goal.put_text-buffer-requires-clause-range
put_text-buffer-requires-clause-range g c =
    bounds_rise c.args.ranges.now c.args.lists.now c.args.range c.requires.inside _ _ c.index-from.ensures c.index-to.ensures c.requires.ranges

pub put_text-buffer-requires-clause-few : goal.put_text-buffer-requires-clause-few
put_text-buffer-requires-clause-few g c =
    range_few c.args.ranges.now c.args.lists.now c.args.range c.requires.inside _ _ c.index-from.ensures c.index-to.ensures c.requires.ranges

pub put_text-buffer-requires-clause-room : goal.put_text-buffer-requires-clause-room
put_text-buffer-requires-clause-room g c = c.requires.room

pub returns-clause-full : goal.returns-clause-full
returns-clause-full g c =
    record {
      inside = c.requires.inside;
      within = c.put_text-buffer.ensures.within;
      text = range_read c.args.ranges.now c.args.lists.now c.args.range c.requires.inside _ _ c.index-from.ensures c.index-to.ensures _ _
          c.put_text-buffer.ensures.text;
    }

pub returns-clause-room : goal.returns-clause-room
returns-clause-room g c = let room = c.put_text-buffer.ensures.room in record { pairs = room.pairs; text = room.text }
