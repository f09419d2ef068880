use Rattle.std.proofs.Common.{sym, ap, ◌∙◌, ◌∷◌, Some}
use Rattle.atomic_table.specs.Table.{rest}
use Rattle.kmc_partqueue.proofs.lanes.Lanes.move_out.Goals as goal

pub exchange-requires : goal.exchange-requires
exchange-requires g c =
    let h = c.requires.holds in (c.requires.queue, (Some h.0, h.1 ∙ (λ j. (c.args.slot, Some h.0) ∷ sym (ap rest h.1) j)))
