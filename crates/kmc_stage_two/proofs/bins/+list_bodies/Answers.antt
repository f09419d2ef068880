use Rattle.std.proofs.Common.{◌≡◌, ◌+◌, ◌++◌, ◌≤◌, ℕ, Option, List, length, map, take, drop, sym, ap, subst, ◌∙◌, Vec, Global, arith}
use Rattle.std.proofs.lemmas.List.{length-map, map-append, take-append-drop}
use Rattle.std.proofs.lemmas.Grind.{common_steps}
use Rattle.kmc_count.specs.Asked.{asked_behind, AreOfBins, IsOfBin}
use Rattle.kmc_count.specs.Lemmas.PassedOn.{passed_on}
use Rattle.kmc_count.specs.Bodies.{IsFirstDamaged}
use Rattle.kmc_count.specs.declared.judging.AskedBin.{AskedBin}
use Rattle.kmc_stage_two.specs.Lemmas.ManyBodies.{texts, counted_want, first_damaged, first_wants, second_damaged, second_wants}
use Rattle.kmc_lists.specs.Listed.{pairs_of}
use Rattle.kmc_stage_two.specs.Bodies.{AreLeft, AreListsOfBodies, BodiesWantMemory}
use Rattle.kmc_stage_two.specs.Lemmas.Judged.{back_of_bins, both_left, both_of_bins, front_left, front_of_bins}
use Rattle.kmc_stage_two.specs.Lemmas.ListedBodies.{both_listed}
use Rattle.kmc_stage_two.proofs.bins.+list_bodies.Goals as goal

-- the bodies of both sides are all bodies
both : (bodies low high : List (Vec ℕ Global)) (at : ℕ) → low ≡ take at bodies → high ≡ drop at bodies → texts low ++ texts high ≡ texts bodies
both bodies low high at front back =
    sym (map-append (λ (b : Vec ℕ Global). b.items) low high) ∙ ap texts ((λ i. front i ++ back i) ∙ take-append-drop at bodies)

-- what is left of both sides is what is left of all bodies
whole_left : (asked : Option AskedBin) (bodies low high low' high' : List (Vec ℕ Global)) (at : ℕ) → low ≡ take at bodies → high ≡ drop at bodies
    → AreLeft asked (texts low ++ texts high) (texts low' ++ texts high') → AreLeft asked (texts bodies) (texts (low' ++ high'))
whole_left asked bodies low high low' high' at front back left =
    subst (AreLeft asked (texts bodies)) (sym (map-append (λ (b : Vec ℕ Global). b.items) low' high'))
    (subst (λ (t : List (List ℕ)). AreLeft asked t (texts low' ++ texts high')) (both bodies low high at front back) left)

-- the bodies of the second side, by their places among all
moved : (asked next : Option AskedBin) (low : List (Vec ℕ Global)) (at : ℕ) → length low ≡ at
    → ((i : ℕ) (body : List ℕ) → IsOfBin (asked_behind i next) body → IsOfBin (asked_behind (at + i) asked) body)
    → (i : ℕ) (body : List ℕ) → IsOfBin (asked_behind i next) body → IsOfBin (asked_behind (length (texts low) + i) asked) body
moved asked next low at long behind i body h =
    subst (λ n. IsOfBin (asked_behind (n + i) asked) body) (sym (length-map low (λ (b : Vec ℕ Global). b.items) ∙ long)) (behind i body h)

moved_back : (asked next : Option AskedBin) (low : List (Vec ℕ Global)) (at : ℕ) → length low ≡ at
    → ((i : ℕ) (body : List ℕ) → IsOfBin (asked_behind (at + i) asked) body → IsOfBin (asked_behind i next) body)
    → (i : ℕ) (body : List ℕ) → IsOfBin (asked_behind (length (texts low) + i) asked) body → IsOfBin (asked_behind i next) body
moved_back asked next low at long before i body h =
    before i body (subst (λ n. IsOfBin (asked_behind (n + i) asked) body) (length-map low (λ (b : Vec ℕ Global). b.items) ∙ long) h)

pub returns-in_err-lists-2-clause-damaged : goal.returns-in_err-lists-2-clause-damaged
returns-in_err-lists-2-clause-damaged g t c = λ fault offset h.
    let a = c.args in let r = a.counting.now in let split = c.split_at_mut-low in let low = split.result.0.now in let high = split.result.1.now in
    subst (IsFirstDamaged r.rule.k fault offset) (both a.bodies.now low high _ split.ensures.front split.ensures.back)
    (first_damaged r.rule.strands r.rule.k r.limits (texts low) (texts high) fault offset
    (c.list_bodies.ensures.damaged fault offset
    (passed_on c.list_bodies.result c.from_residual-in_err-lists-2.result _ _ c.in_err-lists-2.was c.from_residual-in_err-lists-2.ensures.1 h)))

pub returns-in_err-lists-2-clause-memory : goal.returns-in_err-lists-2-clause-memory
returns-in_err-lists-2-clause-memory g t c = λ h.
    let a = c.args in let r = a.counting.now in let split = c.split_at_mut-low in let low = split.result.0.now in let high = split.result.1.now in
    subst (BodiesWantMemory r.rule.k) (both a.bodies.now low high _ split.ensures.front split.ensures.back)
    (first_wants r.rule.strands r.rule.k r.limits (texts low) (texts high)
    (c.list_bodies.ensures.memory
    (passed_on c.list_bodies.result c.from_residual-in_err-lists-2.result _ _ c.in_err-lists-2.was c.from_residual-in_err-lists-2.ensures.1 h)))

pub returns-in_err-lists-2-clause-wrong : goal.returns-in_err-lists-2-clause-wrong
returns-in_err-lists-2-clause-wrong g t c = λ h same of.
    let a = c.args in let r = a.counting.now in let split = c.split_at_mut-low in let low = split.result.0.now in let high = split.result.1.now in
    c.list_bodies.ensures.wrong
    (passed_on c.list_bodies.result c.from_residual-in_err-lists-2.result _ _ c.in_err-lists-2.was c.from_residual-in_err-lists-2.ensures.1 h) same
    (front_of_bins r.asked r.asked (texts low) (texts high)
    (subst (AreOfBins r.asked) (sym (both a.bodies.now low high _ split.ensures.front split.ensures.back)) of))

pub returns-in_err-lists-2-clause-left : goal.returns-in_err-lists-2-clause-left
returns-in_err-lists-2-clause-left g t c =
    let a = c.args in let split = c.split_at_mut-low in let low = split.result.0.now in let high = split.result.1.now in
    whole_left a.counting.now.asked a.bodies.now low high c.list_bodies.new.bodies high _ split.ensures.front split.ensures.back
    (front_left a.counting.now.asked (texts low) (texts high) (texts c.list_bodies.new.bodies) c.list_bodies.ensures.left)

pub returns-in_err-more-clause-damaged : goal.returns-in_err-more-clause-damaged
returns-in_err-more-clause-damaged g t c = λ fault offset h.
    let a = c.args in let r = a.counting.now in let split = c.split_at_mut-low in let low = split.result.0.now in let high = split.result.1.now in
    subst (IsFirstDamaged r.rule.k fault offset) (both a.bodies.now low high _ split.ensures.front split.ensures.back)
    (second_damaged r.rule.strands r.rule.k r.limits (texts low) (texts high) (map pairs_of c.in_ok-lists-2.lists.items) fault offset
    c.in_ok-lists-2.ensures.ok.dumps
    (c.list_bodies-2.ensures.damaged fault offset
    (passed_on c.list_bodies-2.result c.from_residual-in_err-more.result _ _ c.in_err-more.was c.from_residual-in_err-more.ensures.1 h)))

pub returns-in_err-more-clause-memory : goal.returns-in_err-more-clause-memory
returns-in_err-more-clause-memory g t c = λ h.
    let a = c.args in let r = a.counting.now in let split = c.split_at_mut-low in let low = split.result.0.now in let high = split.result.1.now in
    subst (BodiesWantMemory r.rule.k) (both a.bodies.now low high _ split.ensures.front split.ensures.back)
    (second_wants r.rule.strands r.rule.k r.limits (texts low) (texts high) (map pairs_of c.in_ok-lists-2.lists.items) c.in_ok-lists-2.ensures.ok.dumps
    (c.list_bodies-2.ensures.memory
    (passed_on c.list_bodies-2.result c.from_residual-in_err-more.result _ _ c.in_err-more.was c.from_residual-in_err-more.ensures.1 h)))

pub returns-in_err-more-clause-wrong : goal.returns-in_err-more-clause-wrong
returns-in_err-more-clause-wrong g t c = λ h same of.
    let a = c.args in let r = a.counting.now in let split = c.split_at_mut-low in let low = split.result.0.now in let high = split.result.1.now in
    let next = c.bin_behind.result in
    c.list_bodies-2.ensures.wrong
    (passed_on c.list_bodies-2.result c.from_residual-in_err-more.result _ _ c.in_err-more.was c.from_residual-in_err-more.ensures.1 h)
    (c.bin_behind.ensures.words r.rule.k same)
    (back_of_bins r.asked next (texts low) (texts high) (moved_back r.asked next low _ split.ensures.front_len c.bin_behind.ensures.before)
    (subst (AreOfBins r.asked) (sym (both a.bodies.now low high _ split.ensures.front split.ensures.back)) of))

pub returns-in_err-more-clause-left : goal.returns-in_err-more-clause-left
returns-in_err-more-clause-left g t c =
    let a = c.args in let split = c.split_at_mut-low in let low = split.result.0.now in let high = split.result.1.now in
    whole_left a.counting.now.asked a.bodies.now low high c.list_bodies.new.bodies c.list_bodies-2.new.bodies _ split.ensures.front split.ensures.back
    (both_left a.counting.now.asked c.bin_behind.result (texts low) (texts high)
    (moved a.counting.now.asked c.bin_behind.result low _ split.ensures.front_len c.bin_behind.ensures.behind) (texts c.list_bodies.new.bodies)
    (texts c.list_bodies-2.new.bodies) c.list_bodies.ensures.left c.list_bodies-2.ensures.left)

pub returns-in_err-append-clause-memory : goal.returns-in_err-append-clause-memory
returns-in_err-append-clause-memory g t c = λ _.
    let a = c.args in let r = a.counting.now in let split = c.split_at_mut-low in let low = split.result.0.now in let high = split.result.1.now in
    let some : 1 ≤ length (texts low) = grind (arith, common_steps, length-map low (λ (b : Vec ℕ Global). b.items)) in
    subst (BodiesWantMemory r.rule.k) (both a.bodies.now low high _ split.ensures.front split.ensures.back)
    (first_wants r.rule.strands r.rule.k r.limits (texts low) (texts high)
    (counted_want r.rule.strands r.rule.k r.limits (texts low) (map pairs_of c.in_ok-lists-2.lists.items) c.in_ok-lists-2.ensures.ok.dumps some))

pub returns-in_err-append-clause-left : goal.returns-in_err-append-clause-left
returns-in_err-append-clause-left g t c =
    let a = c.args in let split = c.split_at_mut-low in let low = split.result.0.now in let high = split.result.1.now in
    whole_left a.counting.now.asked a.bodies.now low high c.list_bodies.new.bodies c.list_bodies-2.new.bodies _ split.ensures.front split.ensures.back
    (both_left a.counting.now.asked c.bin_behind.result (texts low) (texts high)
    (moved a.counting.now.asked c.bin_behind.result low _ split.ensures.front_len c.bin_behind.ensures.behind) (texts c.list_bodies.new.bodies)
    (texts c.list_bodies-2.new.bodies) c.list_bodies.ensures.left c.list_bodies-2.ensures.left)

pub returns-clause-ok : goal.returns-clause-ok
returns-clause-ok g t c =
    let a = c.args in let r = a.counting.now in let split = c.split_at_mut-low in let low = split.result.0.now in let high = split.result.1.now in
    let front = c.in_ok-lists-2.lists.items in let back = c.in_ok-more.more.items in
    subst (AreListsOfBodies r.rule.strands r.rule.k r.limits (texts a.bodies.now)) (sym c.in_ok-append.ensures.items)
    (subst (λ (t : List (List ℕ)). AreListsOfBodies r.rule.strands r.rule.k r.limits t (front ++ back))
    (both a.bodies.now low high _ split.ensures.front split.ensures.back)
    (both_listed r.rule.strands r.rule.k r.limits (texts low) (texts high) front back c.in_ok-lists-2.ensures.ok c.in_ok-more.ensures.ok))

pub returns-clause-judged : goal.returns-clause-judged
returns-clause-judged g t c =
    let a = c.args in let split = c.split_at_mut-low in let low = split.result.0.now in let high = split.result.1.now in
    subst (AreOfBins a.counting.now.asked) (both a.bodies.now low high _ split.ensures.front split.ensures.back)
    (both_of_bins a.counting.now.asked c.bin_behind.result (texts low) (texts high)
    (moved a.counting.now.asked c.bin_behind.result low _ split.ensures.front_len c.bin_behind.ensures.behind) c.in_ok-lists-2.ensures.judged
    c.in_ok-more.ensures.judged)

pub returns-clause-left : goal.returns-clause-left
returns-clause-left g t c =
    let a = c.args in let split = c.split_at_mut-low in let low = split.result.0.now in let high = split.result.1.now in
    whole_left a.counting.now.asked a.bodies.now low high c.list_bodies.new.bodies c.list_bodies-2.new.bodies _ split.ensures.front split.ensures.back
    (both_left a.counting.now.asked c.bin_behind.result (texts low) (texts high)
    (moved a.counting.now.asked c.bin_behind.result low _ split.ensures.front_len c.bin_behind.ensures.behind) (texts c.list_bodies.new.bodies)
    (texts c.list_bodies-2.new.bodies) c.list_bodies.ensures.left c.list_bodies-2.ensures.left)
