-- Files of a slice, one after the other.
use Rattle.std.proofs.Common.{◌≡◌, ℕ, ◌++◌, List, [], ◌∷◌, length, replicate, Option, sym, ap, ◌∙◌, append-nil, arith}
use Rattle.std.specs.List.{flat_map}
use Rattle.std.specs.Io.KnownBytes.{Consumes}
use Rattle.std.proofs.lemmas.Grind.{flat_map-append}
use Rattle.std.proofs.lemmas.List.{get_or-replicate}
use Rattle.kmc_record.specs.Shapes.{Sizes}
use Rattle.kmc_store.specs.Bins.{body_at}
use Rattle.kmc_count.specs.Lemmas.Zips.{zip_append}
use Rattle.kmc_stage_one.specs.Lemmas.Fed.{consumes_on}
use Rattle.kmc_slice_files.specs.Frames.{body_of}
use Rattle.kmc_slice_files.specs.Files.{header_bytes}
use Rattle.kmc_slice_files.specs.Whole.{GaveFile, GaveFrames}
use Rattle.kmc_slices.specs.Gathered.{AreGathered, GaveSlice, Records}

-- one file more
pub gathered_more : (readings : List (Option (List ℕ) × Option (List ℕ))) (r : Records) (old new : Option (List ℕ)) (after : List (List ℕ))
    → length r.bodies ≡ r.shape.n → AreGathered readings r → GaveFile r.shape r.slices r.slice old new r.bodies after
    → AreGathered (readings ++ (old, new) ∷ []) record { shape = r.shape; slices = r.slices; slice = r.slice; bodies = after }
gathered_more readings r old new after wide have gave = record {
  files = have.files ++ gave.fs ∷ [];
  gave = zip_append (GaveSlice r.shape r.slices r.slice) readings ((old, new) ∷ []) have.files (gave.fs ∷ []) have.gave
      (record { frames = gave.frames; gave = gave.gave }, tt);
  each = λ b inside.
      gave.bodies.each b (omega (arith, inside, wide))
      ∙ ap (λ front. front ++ body_of b gave.fs) (have.each b inside)
      ∙ ap (λ back. flat_map (body_of b) have.files ++ back) (sym (append-nil (body_of b gave.fs)))
      ∙ sym (flat_map-append (body_of b) have.files (gave.fs ∷ []));
}

-- the first file
pub gathered_first : (shape : Sizes) (S s : ℕ) (old mid new : Option (List ℕ)) (before after : List (List ℕ)) → Consumes old mid (header_bytes shape S s)
    → before ≡ replicate shape.n [] → length before ≡ shape.n → GaveFrames shape.n S s mid new before after
    → AreGathered ((old, new) ∷ []) record { shape = shape; slices = S; slice = s; bodies = after }
gathered_first shape S s old mid new before after header empty wide gave = record {
  files = gave.fs ∷ [];
  gave = (record { frames = gave.frames; gave = (consumes_on old mid new _ _ header gave.gave.0, gave.gave.1) }, tt);
  each = λ b inside.
      gave.bodies.each b (omega (arith, inside, wide))
      ∙ ap (λ bodies. body_at bodies b ++ body_of b gave.fs) empty
      ∙ ap (λ front. front ++ body_of b gave.fs) (get_or-replicate shape.n b [] [] inside)
      ∙ sym (append-nil (body_of b gave.fs));
}
