use Rattle.std.proofs.Common.{◌≡◌, ◌<◌, ◌⊎◌, inl, inr, ℕ, List, map, Vec, Global, subst, sym, arith}
use Rattle.std.proofs.lemmas.Grind.{common_steps}
use Rattle.kmc_record.specs.Bodies.{AreRecordsOfBin}
use Rattle.kmc_record.specs.Parts.{IsPart}
use Rattle.kmc_record.specs.Lemmas.PartRecords.{records_of_part}
use Rattle.kmc_store.specs.Bins.{body_at}
use Rattle.kmc_slices.proofs.judging.judge_bodies.Goals as goal

pub loop-bin-preserved : goal.loop-bin-preserved
loop-bin-preserved c = λ i less.
    let shape = c.args.shape in
    let bodies = map (λ (b : Vec ℕ Global). b.items) c.args.bodies.now in
    let bin = c.loop-bin.bin in
    let here : c.deref.result.now ≡ body_at bodies bin = grind (arith, common_steps) in
    elim (let two : (i < bin) ⊎ (i ≡ bin) = grind (arith, less) in two) [
      | inl before ↦ c.loop-bin.invariant i before
      | inr same ↦
          subst (λ j. AreRecordsOfBin j shape (body_at bodies j)) (sym same)
          (records_of_part bin shape (body_at bodies bin) c.in-Ok.words
          (subst (λ (b : List ℕ). IsPart bin shape b c.in-Ok.words) here c.in-Ok.ensures.ok))
    ]
