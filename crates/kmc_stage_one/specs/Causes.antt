-- When workers end without their result.
use Rattle.std.specs.Prelude.{ℕ, ◌<◌, ◌≤◌, List, length}
use Rattle.kmc_record.specs.Shapes.{Sizes}
use Rattle.kmc_record.specs.Parts.{Parcel}
use Rattle.kmc_partcore.specs.declared.shape.TheConstants.{MAX_ITEMS}
use Rattle.kmc_store.specs.Deals.{AreDealt}
use Rattle.kmc_stage_one.specs.Splitters.{chunks_of}
use Rattle.kmc_partqueue.specs.declared.refusal.GivenUp.{GivenUp}
use Rattle.kmc_partqueue.specs.declared.refusal.GivenUp.TheVariants.{Memory, NumbersSpent, Stopped}
use Rattle.kmc_partqueue.specs.declared.refusal.Refusal.{Refusal}
use Rattle.kmc_partqueue.specs.declared.refusal.Refusal.TheVariants as refusal

-- the chunks dealt to a writer give more parts than have numbers: those below some number do
pub record AreTooMany (shape : Sizes) (batch : ℕ) (reads : List (List ℕ)) (sp chunks w : ℕ) : Type 0 where
  pub first : ℕ
  pub within : first ≤ chunks
  pub parts : List Parcel
  pub dealt : AreDealt shape batch reads sp w first parts
  pub many : MAX_ITEMS < length parts

-- spent numbers are answered only where the chunks dealt to some writer give more parts than have numbers
abbrev pub IsWorkersCause : Sizes → ℕ → List (List ℕ) → ℕ → GivenUp → Type 0
IsWorkersCause shape batch reads sp NumbersSpent = (w : ℕ) × (w < sp) × AreTooMany shape batch reads sp (chunks_of batch (length reads)) w
IsWorkersCause shape batch reads sp Memory = Unit {0}
IsWorkersCause shape batch reads sp Stopped = Unit {0}

-- what is told of all workers: spent numbers only with that cause
abbrev pub IsCause : Sizes → ℕ → List (List ℕ) → ℕ → Refusal → Type 0
IsCause shape batch reads sp refusal.NumbersSpent = (w : ℕ) × (w < sp) × AreTooMany shape batch reads sp (chunks_of batch (length reads)) w
IsCause shape batch reads sp refusal.Memory = Unit {0}
