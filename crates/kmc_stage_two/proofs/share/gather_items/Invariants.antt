use Rattle.std.proofs.Common.{◌≡◌, ◌^◌, map, take}
use Rattle.std.specs.List.{filter}
use Rattle.kmc_count.specs.Merge.{joined}
use Rattle.kmc_stage_two.specs.Shares.{has_word_from}
use Rattle.kmc_stage_two.proofs.share.gather_items.Given as goal

-- the items of the lists so far
abbrev pub invariant-loop-list : goal.invariant-loop-list
invariant-loop-list g l =
    map g.W.PackedKmer.number l.room.items ≡ filter (has_word_from (2 ^ l.form.bits) l.share.first l.share.last)
    (joined (map (λ v. map g.W.PackedKmer.number v.items) (take l.list-index l.lists)))
