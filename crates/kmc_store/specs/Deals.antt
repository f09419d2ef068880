-- How reads are cut into chunks, and chunks are dealt to writers.
use Rattle.std.specs.Prelude.{◌≡◌, ◌≢◌, ℕ, zero, suc, ◌+◌, ◌*◌, ◌%◌, List, [], ◌++◌, slice_range}
use Rattle.std.specs.List.{sum_by, range_with_len}
use Rattle.kmc_record.specs.Shapes.{Sizes}
use Rattle.kmc_record.specs.Parts.{Parcel, ArePartsOf}

-- the reads of chunk c: so many from c times as many on, or the rest
abbrev pub chunk_at : ℕ → List (List ℕ) → ℕ → List (List ℕ)
chunk_at batch reads c = slice_range reads (c * batch) (c * batch + batch)

-- what writer w of sp sends for chunk c: its parts, where the chunk is dealt to w, else none
pub record AreSent (shape : Sizes) (reads : List (List ℕ)) (sp w c : ℕ) (parts : List Parcel) : Type 0 where
  pub own : c % sp ≡ w → ArePartsOf c reads shape parts
  pub other : c % sp ≢ w → parts ≡ []

-- the parts of the chunks below a number that are dealt to writer w of sp, chunks rising
abbrev pub AreDealt : Sizes → ℕ → List (List ℕ) → ℕ → ℕ → ℕ → List Parcel → Type 0
AreDealt shape batch reads sp w zero parts = parts ≡ []
AreDealt shape batch reads sp w (suc c) parts = (before : List Parcel) × ((own : List Parcel) × (parts ≡ before ++ own)
    × AreDealt shape batch reads sp w c before × AreSent shape (chunk_at batch reads c) sp w c own)

-- what was got is what the writers below sp sent, in any order: any sum over the one is that over the other
abbrev pub AreGathered : ℕ → (ℕ → List Parcel) → List Parcel → Type 0
AreGathered sp sent got = (F : Parcel → ℕ) → sum_by F got ≡ sum_by (λ w. sum_by F (sent w)) (range_with_len 0 sp)
