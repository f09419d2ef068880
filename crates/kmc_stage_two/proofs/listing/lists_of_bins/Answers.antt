use Rattle.std.proofs.Common.{◌≡◌, ℕ, List, sym, ap, subst, ◌∙◌, Err}
use Rattle.kmc_record.specs.Shapes.{Sizes, IsShape}
use Rattle.kmc_stage_two.specs.Bodies.{AreListsOfBodies}
use Rattle.kmc_lists.specs.Lists.{lists_of}
use Rattle.kmc_stage_two.proofs.BinsDump.{no_damage, listed}
use Rattle.kmc_stage_two.proofs.listing.lists_of_bins.Goals as goal

pub unreachable-requires : goal.unreachable-requires
unreachable-requires g c =
    let bins = c.args.bins in let fault = c.in-Err-Damaged.field-0-0 in let offset = c.in-Err-Damaged.field-0-1 in
    no_damage c.whole_body_has_no_fault.ensures bins.shape c.k-k.result _ bins.bodies bins.words fault offset
    (sym (c.k-k.ensures.is ∙ ap (λ s. s.k) c.shape.ensures.is)) c.into_bodies-bodies.ensures.kept c.into_bodies-bodies.ensures.are
    (c.in-Err-Damaged.ensures.damaged fault offset (ap Err c.in-Err-Damaged.field-0-is))

pub returns-in-Ok-clause-each : goal.returns-in-Ok-clause-each
returns-in-Ok-clause-each g c =
    let bins = c.args.bins in
    let same : c.k-k.result ≡ bins.shape.k = c.k-k.ensures.is ∙ ap (λ s. s.k) c.shape.ensures.is in
    subst (λ k. AreListsOfBodies c.args.strands k c.args.limits.now bins.bodies (lists_of c.in-Ok.lists)) same
    (subst (λ (t : List (List ℕ)). AreListsOfBodies c.args.strands c.k-k.result c.args.limits.now t (lists_of c.in-Ok.lists))
    c.into_bodies-bodies.ensures.are c.in-Ok.ensures.ok)

pub returns-in-Ok-clause-merge : goal.returns-in-Ok-clause-merge
returns-in-Ok-clause-merge g c =
    (listed c.bins_share_no_key.ensures c.dumps_of_bodies_are_of_keys.ensures c.args.strands c.args.limits.now c.args.bins.shape
    (subst (λ (s : Sizes). IsShape s.k s.m s.n) c.shape.ensures.is c.k-k.ensures.shape) c.packed_dumps_are_one.ensures _ _ _ _ _
    (c.k-k.ensures.is ∙ ap (λ s. s.k) c.shape.ensures.is) c.into_bodies-bodies.ensures.kept c.into_bodies-bodies.ensures.are c.in-Ok.ensures.ok).0

pub returns-in-Ok-clause-all : goal.returns-in-Ok-clause-all
returns-in-Ok-clause-all g c =
    (listed c.bins_share_no_key.ensures c.dumps_of_bodies_are_of_keys.ensures c.args.strands c.args.limits.now c.args.bins.shape
    (subst (λ (s : Sizes). IsShape s.k s.m s.n) c.shape.ensures.is c.k-k.ensures.shape) c.packed_dumps_are_one.ensures _ _ _ _ _
    (c.k-k.ensures.is ∙ ap (λ s. s.k) c.shape.ensures.is) c.into_bodies-bodies.ensures.kept c.into_bodies-bodies.ensures.are c.in-Ok.ensures.ok).1
