use Rattle.std.proofs.Common.{◌≡◌, ◌<◌, ◌∙◌, ℕ, List, Some, length, Vec, Global, ap, subst, arith}
use Rattle.std.proofs.lemmas.List.{length-map}
use Rattle.kmc_record.specs.Bodies.{AreRecordsOfBin}
use Rattle.kmc_store.specs.Bins.{body_at}
use Rattle.kmc_stage_two.specs.Bodies.{AreLeft}
use Rattle.kmc_stage_two.specs.Lemmas.ManyBodies.{texts}
use Rattle.kmc_slices.specs.Outside.{IsBinFault}
use Rattle.kmc_slices.proofs.Left.{bins_before, fault_before, written_back}
use Rattle.kmc_slices.proofs.judging.judged_lists.Goals as goal

pub returns-in-Ok-judge_bodies-clause-judged : goal.returns-in-Ok-judge_bodies-clause-judged
returns-in-Ok-judge_bodies-clause-judged g c = λ _.
    let a = c.args in
    let new = texts c.lists_of_bodies.new.bodies in
    let wide : length (texts a.bodies.items) ≡ a.shape.n = length-map a.bodies.items (λ (b : Vec ℕ Global). b.items) ∙ c.requires.bodies in
    let left = subst (λ (t : List (Vec ℕ Global)). AreLeft (Some (record { shape = a.shape; bin = 0 })) (texts t) new) c.deref_mut.ensures.value
    c.lists_of_bodies.ensures.left in
    let long : length c.lists_of_bodies.new.bodies ≡ length a.bodies.items =
    omega (
      arith,
      left.wide,
      length-map c.lists_of_bodies.new.bodies (λ (b : Vec ℕ Global). b.items),
      length-map a.bodies.items (λ (b : Vec ℕ Global). b.items),
    ) in
    let all = subst (λ (t : List (Vec ℕ Global)). (i : ℕ) → i < a.shape.n → AreRecordsOfBin i a.shape (body_at (texts t) i))
    (c.deref.ensures.value ∙ written_back _ c.lists_of_bodies.new.bodies a.bodies.items long
    (omega (arith, c.deref_mut.ensures.len, ap length c.deref_mut.ensures.value)))
    c.in-Ok-judge_bodies.ensures.ok in
    bins_before a.shape (texts a.bodies.items) new wide left all

pub returns-clause-first : goal.returns-clause-first
returns-clause-first g c = λ fault is.
    let a = c.args in
    let new = texts c.lists_of_bodies.new.bodies in
    let wide : length (texts a.bodies.items) ≡ a.shape.n = length-map a.bodies.items (λ (b : Vec ℕ Global). b.items) ∙ c.requires.bodies in
    let left = subst (λ (t : List (Vec ℕ Global)). AreLeft (Some (record { shape = a.shape; bin = 0 })) (texts t) new) c.deref_mut.ensures.value
    c.lists_of_bodies.ensures.left in
    let same : c.in-Err.fault ≡ fault = cc is in
    let long : length c.lists_of_bodies.new.bodies ≡ length a.bodies.items =
    omega (
      arith,
      left.wide,
      length-map c.lists_of_bodies.new.bodies (λ (b : Vec ℕ Global). b.items),
      length-map a.bodies.items (λ (b : Vec ℕ Global). b.items),
    ) in
    let found = subst (λ (t : List (Vec ℕ Global)). IsBinFault a.shape (texts t) c.in-Err.fault)
    (c.deref.ensures.value ∙ written_back _ c.lists_of_bodies.new.bodies a.bodies.items long
    (omega (arith, c.deref_mut.ensures.len, ap length c.deref_mut.ensures.value)))
    c.in-Err.ensures.fault in
    fault_before a.shape (texts a.bodies.items) new wide left fault (subst (IsBinFault a.shape new) same found)
