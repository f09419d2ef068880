use Rattle.std.proofs.Common.{◌≡◌, ◌∙◌, ℕ, List, map, Vec, Global, Err, ap, subst}
use Rattle.kmc_record.specs.Shapes.{Sizes}
use Rattle.kmc_slices.specs.Outside.{IsBinFault}
use Rattle.kmc_slices.specs.declared.bin_fault.JudgeError.TheVariants.{Foreign}
use Rattle.kmc_slices.proofs.listing.list_records.Goals as goal

pub returns-in-Err-Foreign-clause-foreign : goal.returns-in-Err-Foreign-clause-foreign
returns-in-Err-Foreign-clause-foreign g c = λ fault is.
    let same : c.in-Err-Foreign.fault ≡ fault = cc (is, c.in-Err-Foreign.fault-is) in
    let first = c.in-Err-Foreign.ensures.first fault (ap Err (c.in-Err-Foreign.field-0-is ∙ ap Foreign same)) in
    let bodies = map (λ (v : Vec ℕ Global). v.items) c.into_parts-bodies.result.1.items in
    subst (λ (others : List (List ℕ)). IsBinFault c.args.records.shape others fault) c.into_parts-bodies.ensures.bodies
    (subst (λ (shape : Sizes). IsBinFault shape bodies fault) (ap (λ s. s.shape) c.into_parts-bodies.ensures.slicing) first)
