use Rattle.std.proofs.Common.{◌≡◌, [], ◌∷◌, ◌++◌, map, ap, ◌∙◌, arith}
use Rattle.std.specs.List.{zip}
use Rattle.std.proofs.lemmas.List.{map-append}
use Rattle.std.proofs.lemmas.Grind.{common_steps}
use Rattle.kmc_lists.proofs.Beside.{zip_joined}
use Rattle.kmc_lists.proofs.kmer_list.KmerList.push.Goals as goal

pub returns-in-Ok-clause-ok : goal.returns-in-Ok-clause-ok
returns-in-Ok-clause-ok g c =
    let num = g.W.PackedKmer.number in
    let cnt = g.C.CountWidth.count in
    let ws = c.self.inside.words.items in
    let us = c.self.inside.counts.items in
    let w = num c.args.word in
    let u = cnt c.args.count in
    let a : map num c.push.new.self.items ≡ map num ws ++ w ∷ [] = ap (map num) c.in_ok-push.ensures.items ∙ map-append num ws (c.args.word ∷ []) in
    let b : map cnt c.push-2.new.self.items ≡ map cnt us ++ u ∷ [] = ap (map cnt) c.in-Ok.ensures.items ∙ map-append cnt us (c.args.count ∷ []) in
    let e : zip (map num c.push.new.self.items) (map cnt c.push-2.new.self.items) ≡ zip (map num ws) (map cnt us) ++ (w, u) ∷ [] =
    (λ i. zip (a i) (b i)) ∙ zip_joined (map num ws) (w ∷ []) (map cnt us) (u ∷ []) c.self.invariant.long in
    (λ i. record { k = c.self.inside.k; packed = e i }) ∙ (λ i. record { k = (c.self.view_is i).k; packed = (c.self.view_is i).packed ++ (w, u) ∷ [] })

pub invariant_of-self-in-Ok : goal.invariant_of-self-in-Ok
invariant_of-self-in-Ok g c = grind (arith, common_steps)

pub invariant_of-self-in-Err : goal.invariant_of-self-in-Err
invariant_of-self-in-Err g c = grind (arith, common_steps)

pub returns-in-Err-clause-err : goal.returns-in-Err-clause-err
returns-in-Err-clause-err g c = grind (arith, common_steps)
