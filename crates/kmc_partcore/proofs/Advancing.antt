-- The live part after an entry.
use Rattle.std.proofs.Common.{◌≡◌, ◌++◌, length, drop, sym, ap, ◌∙◌, length-append}
use Rattle.std.proofs.lemmas.List.{drop-append-le, drop-drop}
use Rattle.kmc_partcore.specs.History.{accepted, left, item_accepted, item_left, is_registered, has_completed, registers, completes}
use Rattle.kmc_partcore.specs.Laws.{LiveAdvances}
use Rattle.kmc_partcore.proofs.Beginnings.{begins}
use Rattle.std.specs.Prelude.{◌||◌}

pub live_advances : (T : Type 0) → LiveAdvances T
live_advances T q h legal e w = let b = begins q h legal w in let l = left w h in let a = accepted w h in let more = item_left w e in let added =
    item_accepted w e in
    let rest : drop (length (l ++ more)) (a ++ added) ≡ drop (length more) (drop (length l) a ++ added)
    = ap (λ n. drop n (a ++ added)) (length-append l more) ∙ sym (drop-drop (length more) (length l) (a ++ added)) ∙ ap (drop (length more))
    (drop-append-le (length l) a added b.within) in
    λ i. record {
      registered = registers w e || is_registered w h;
      completed = completes w e || has_completed w h;
      accepted_count = length-append a added i;
      left_count = length-append l more i;
      outstanding_items = rest i;
    }
