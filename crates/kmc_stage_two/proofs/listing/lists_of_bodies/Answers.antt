use Rattle.std.proofs.Common.{◌≡◌, ℕ, List, length, ◌∙◌, refl, sym, subst, Vec, Global}
use Rattle.std.proofs.lemmas.List.{length-map}
use Rattle.std.proofs.lemmas.Result.{IfOk-weaker}
use Rattle.kmc_lists.specs.Listed.{spelled}
use Rattle.kmc_lists.specs.Lists.{lists_of}
use Rattle.kmc_lists.specs.Ordered.{CanBeMerged, whole}
use Rattle.kmc_store.specs.Bins.{AreBins}
use Rattle.kmc_count.specs.Bodies.{IsFirstDamaged}
use Rattle.kmc_stage_two.specs.Bodies.{BodiesWantMemory}
use Rattle.kmc_stage_two.specs.Lemmas.ManyBodies.{texts}
use Rattle.kmc_stage_two.specs.Lemmas.Outside.{asked_of_bins, bins_of_asked, both_ok}
use Rattle.kmc_stage_two.specs.Stages.{IsDumpOfBins}
use Rattle.kmc_stage_two.proofs.BinsDump.{listed}
use Rattle.kmc_stage_two.proofs.listing.lists_of_bodies.Goals as goal

pub returns-clause-bins : goal.returns-clause-bins
returns-clause-bins g c =
    let a = c.args in
    let bodies = texts a.bodies.now in
    let wide : length bodies ≡ a.shape.n = length-map a.bodies.now (λ (b : Vec ℕ Global). b.items) ∙ c.requires.bodies in
    IfOk-weaker c.list_asked.result _ (λ _. (words : List ℕ) × AreBins a.shape bodies words) (λ _ of. bins_of_asked a.shape bodies wide of) c.list_asked.ensures.judged

pub returns-clause-damaged : goal.returns-clause-damaged
returns-clause-damaged g c = λ fault offset is.
    subst (λ (k : ℕ). IsFirstDamaged k fault offset (texts c.args.bodies.now)) c.k.ensures.is (c.list_asked.ensures.damaged fault offset is)

pub returns-clause-memory : goal.returns-clause-memory
returns-clause-memory g c = λ is. subst (λ (k : ℕ). BodiesWantMemory k (texts c.args.bodies.now)) c.k.ensures.is (c.list_asked.ensures.memory is)

pub returns-clause-wrong : goal.returns-clause-wrong
returns-clause-wrong g c = λ is words are.
    let a = c.args in
    c.list_asked.ensures.wrong is (sym c.k.ensures.is) (asked_of_bins a.shape (texts a.bodies.now) words are)

pub returns-clause-merge : goal.returns-clause-merge
returns-clause-merge g c =
    let a = c.args in
    let bodies = texts a.bodies.now in
    let wide : length bodies ≡ a.shape.n = length-map a.bodies.now (λ (b : Vec ℕ Global). b.items) ∙ c.requires.bodies in
    both_ok c.list_asked.result _ _ (λ lists. CanBeMerged a.shape.k (lists_of lists))
    (λ lists of are.
    let bins = bins_of_asked a.shape bodies wide of in
    (listed c.bins_share_no_key.ensures c.dumps_of_bodies_are_of_keys.ensures a.strands a.limits.now a.shape c.k.ensures.shape c.packed_dumps_are_one.ensures
    c.k.result bodies bodies bins.0 (lists_of lists) c.k.ensures.is bins.1 refl are).0)
    c.list_asked.ensures.judged c.list_asked.ensures.ok

pub returns-clause-all : goal.returns-clause-all
returns-clause-all g c =
    let a = c.args in
    let bodies = texts a.bodies.now in
    let wide : length bodies ≡ a.shape.n = length-map a.bodies.now (λ (b : Vec ℕ Global). b.items) ∙ c.requires.bodies in
    both_ok c.list_asked.result _ _ (λ lists. IsDumpOfBins a.strands a.shape.k a.limits.now bodies (spelled a.shape.k (whole (lists_of lists))))
    (λ lists of are.
    let bins = bins_of_asked a.shape bodies wide of in
    (listed c.bins_share_no_key.ensures c.dumps_of_bodies_are_of_keys.ensures a.strands a.limits.now a.shape c.k.ensures.shape c.packed_dumps_are_one.ensures
    c.k.result bodies bodies bins.0 (lists_of lists) c.k.ensures.is bins.1 refl are).1)
    c.list_asked.ensures.judged c.list_asked.ensures.ok
