-- What a splitter has sent, chunk after chunk.
use Rattle.std.proofs.Common.{◌≡◌, ◌≢◌, ℕ, suc, ◌+◌, ◌%◌, ◌<◌, ◌≤◌, List, [], ◌++◌, length, refl, sym, ◌∙◌, subst, append-nil, arith}
use Rattle.kmc_record.specs.Shapes.{Sizes}
use Rattle.kmc_record.specs.Parts.{Parcel, ArePartsOf}
use Rattle.kmc_partcore.specs.declared.shape.TheConstants.{MAX_ITEMS}
use Rattle.kmc_store.specs.Deals.{chunk_at, AreSent, AreDealt}
use Rattle.kmc_stage_one.specs.Splitters.{chunks_of}
use Rattle.kmc_stage_one.specs.Causes.{AreTooMany, IsWorkersCause}
use Rattle.kmc_partqueue.specs.declared.refusal.GivenUp.{GivenUp}
use Rattle.kmc_partqueue.specs.declared.refusal.GivenUp.TheVariants.{Memory, NumbersSpent, Stopped}

module _ (shape : Sizes) (batch : ℕ) (reads : List (List ℕ)) (sp w : ℕ) where
  next_dealt : (c : ℕ) (sent own new : List Parcel) → AreDealt shape batch reads sp w c sent → AreSent shape (chunk_at batch reads c) sp w c own
      → new ≡ sent ++ own → AreDealt shape batch reads sp w (c + 1) new
  next_dealt c sent own new was is e = subst (λ (n : ℕ). AreDealt shape batch reads sp w n new) (let z : suc c ≡ c + 1 = omega arith in z)
      (sent, (own, e, was, is))

  -- the chunk is the writer's, and its parts were put
  pub next_own : (c : ℕ) (sent own new : List Parcel) → c % sp ≡ w → AreDealt shape batch reads sp w c sent → ArePartsOf c
      (chunk_at batch reads c) shape own → new ≡ sent ++ own → AreDealt shape batch reads sp w (c + 1) new
  next_own c sent own new here was is = next_dealt c sent own new was record { own = λ _. is; other = λ n. absurd (n here) }

  -- the chunk is another's
  pub next_other : (c : ℕ) (sent new : List Parcel) → c % sp ≢ w → AreDealt shape batch reads sp w c sent → new ≡ sent
      → AreDealt shape batch reads sp w (c + 1) new
  next_other c sent new there was e = next_dealt c sent [] new was record { own = λ here. absurd (there here); other = λ _. refl } (e ∙ sym (append-nil sent))

  -- the numbers were spent within a chunk
  pub too_many : (chunks c : ℕ) (sent own : List Parcel) → c < chunks → c % sp ≡ w → AreDealt shape batch reads sp w c sent → ArePartsOf c
      (chunk_at batch reads c) shape own → MAX_ITEMS < length (sent ++ own) → AreTooMany shape batch reads sp chunks w
  too_many chunks c sent own near here was is many = record {
    first = c + 1;
    within = (let z : c + 1 ≤ chunks = omega arith in z);
    parts = sent
        ++ own;
    dealt = next_own c sent own (sent ++ own) here was is refl;
    many = many;
  }

  -- a refusal has a cause where spent numbers have theirs
  pub cause_of : (cause : GivenUp) → (cause ≡ NumbersSpent → (u : ℕ) × (u < sp) × AreTooMany shape batch reads sp (chunks_of batch (length reads)) u)
      → IsWorkersCause shape batch reads sp cause
  cause_of NumbersSpent spent = spent refl
  cause_of Memory spent = tt
  cause_of Stopped spent = tt
