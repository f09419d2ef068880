use Rattle.std.proofs.Common.{◌++◌, IfOk, Vec, Global, List, ℕ, map, sym, ap, subst, ◌∙◌}
use Rattle.std.proofs.lemmas.List.{map-append}
use Rattle.kmc_count.specs.Asked.{IsOfBin}
use Rattle.kmc_stage_two.specs.Shares.{AreListsOfItems}
use Rattle.kmc_stage_two.proofs.ShareDumps.{lists_joined}
use Rattle.kmc_stage_two.proofs.SharedBodies.{of_bin_joined}
use Rattle.kmc_stage_two.proofs.shared.both_pieces.Goals as goal

pub returns : goal.returns
returns g c = λ s k bits asked low high here there.
    let f : Vec g.row.W.Denot Global → List ℕ = λ v. map g.W.PackedKmer.number v.items in
    let first = subst (λ r. IfOk r (λ lists. AreListsOfItems s k bits low (map f lists.items) × IsOfBin asked low)) c.in_ok-lists.was here in
    let second = subst (λ r. IfOk r (λ lists. AreListsOfItems s k bits high (map f lists.items) × IsOfBin asked high)) c.in_ok-more.was there in
    let all = ap (map f) c.in_ok-append.ensures.items ∙ map-append f c.in_ok-lists.lists.items c.in_ok-more.more.items in (
      subst (AreListsOfItems s k bits (low ++ high)) (sym all) (lists_joined s k bits low high _ _ first.0 second.0),
      of_bin_joined asked low high first.1 second.1,
    )
