use Rattle.std.proofs.Common.{◌≡◌, ◌+◌, ◌++◌, List, ℕ, map, set, sym, ap, subst, ◌∙◌, arith}
use Rattle.std.proofs.lemmas.List.{get_or_read}
use Rattle.std.proofs.lemmas.Grind.{common_steps}
use Rattle.std.specs.Prelude.{slice_index}
use Rattle.kmc_record.specs.Parts.{capped}
use Rattle.kmc_store.specs.Bins.{AreBins, Absorbed}
use Rattle.kmc_store.specs.Lemmas.Places.{bytes_of, set_keeps}
use Rattle.kmc_store.specs.Lemmas.Filling.{bin_within, bins_absorbed, absorbed_is}
use Rattle.kmc_store.proofs.bins.Bins.absorb.Goals.{After-saturating_add}
use Rattle.kmc_store.proofs.bins.Bins.absorb.Goals as goal

pub invariant_of-self : goal.invariant_of-self
invariant_of-self c =
    subst (λ bodies. AreBins c.self.inside.shape bodies c.self.inside.words.items)
    (sym (set_keeps c.self.inside.bodies.items c.bin-bin.result c.index_mut-body.result.now c.extend_from_slice.new.self c.index_mut-body.ensures.value c.in-Err.ensures.items))
    c.self.invariant

pub returns-in-Err-clause-err : goal.returns-in-Err-clause-err
returns-in-Err-clause-err c =
    let same = set_keeps c.self.inside.bodies.items c.bin-bin.result c.index_mut-body.result.now c.extend_from_slice.new.self c.index_mut-body.ensures.value c.in-Err.ensures.items in
    ap (λ (bs : List (List ℕ)). record { shape = c.self.inside.shape; bodies = bs; words = c.self.inside.words.items }) same ∙ c.self.view_is

-- the bin with the part
taken_in : (c : After-saturating_add) → let b = c.bin-bin.result in let bodies = map bytes_of
    (set c.self.inside.bodies.items b c.extend_from_slice.new.self) in let words = set c.self.inside.words.items b c.saturating_add.result in
    AreBins c.self.inside.shape bodies words × Absorbed c.args.self.now c.args.part (record { shape = c.self.inside.shape; bodies = bodies; words = words })
taken_in c =
    let p = c.args.part in
    let vs = c.self.inside.bodies.items in
    let words = c.self.inside.words.items in
    let b = c.bin-bin.result in
    let within = bin_within c.args.self.now c.self.inside.shape vs words p b c.self.view_is c.requires c.self.invariant c.bin-bin.ensures.kept c.bin-bin.ensures.is in
    let grown = c.in-Ok.ensures.items ∙ ap (λ t. c.index_mut-body.result.now.items ++ t) c.body.ensures.are in
    let sum : c.saturating_add.result ≡ capped (slice_index words b + p.words) = omega
    (arith, c.saturating_add.ensures, c.words.ensures.is, get_or_read words b c.index.result.now within.1 c.index.ensures 0) in (
      bins_absorbed c.args.self.now c.self.inside.shape vs words p b c.index_mut-body.result.now c.extend_from_slice.new.self c.saturating_add.result
          c.self.view_is c.requires c.self.invariant c.bin-bin.ensures.kept c.bin-bin.ensures.is within.0 c.index_mut-body.ensures.value grown sum,
      absorbed_is c.args.self.now c.self.inside.shape vs words p b c.index_mut-body.result.now c.extend_from_slice.new.self c.saturating_add.result
          c.self.view_is c.bin-bin.ensures.is within.0 c.index_mut-body.ensures.value grown sum,
    )

pub invariant_of-self-2 : goal.invariant_of-self-2
invariant_of-self-2 c = (taken_in (goal.at.invariant_of-self-2 c).After-saturating_add).0

pub returns-clause-ok : goal.returns-clause-ok
returns-clause-ok c = (taken_in (goal.at.returns-clause-ok c).After-saturating_add).1

pub index_mut-body-requires : goal.index_mut-body-requires
index_mut-body-requires c = grind (arith, common_steps)
