use Rattle.kmc_stage_two.proofs.merging.+turns.Given as goal

-- each half has fewer parts
abbrev pub decreases-list_in_turn : goal.decreases-list_in_turn
decreases-list_in_turn g l = l.share.parts
