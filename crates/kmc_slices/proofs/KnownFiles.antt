-- Files whose bytes are known, as they were read.
use Rattle.std.proofs.Common.{◌≡◌, ℕ, List, [], ◌∷◌, ◌++◌, Option, Some, None, ap, subst, ◌∙◌, append-nil}
use Rattle.std.specs.List.{AllZip}
use Rattle.kmc_device.specs.Device.{GaveAll}
use Rattle.kmc_record.specs.Shapes.{Sizes}
use Rattle.kmc_slice_files.specs.Frames.{Frame}
use Rattle.kmc_slice_files.specs.Files.{file_bytes}
use Rattle.kmc_slices.specs.Files.{IsFileOf}
use Rattle.kmc_slices.specs.Gathered.{GaveSlice}
use Rattle.kmc_slices.specs.Laws.{GatheredFilesAreRead}

-- what a reader gave to its end is all that it had
given : (file bytes : List ℕ) (new : Option (List ℕ)) → GaveAll (Some file) new bytes → file ≡ bytes
given file bytes None gave = absurd gave.0
given file bytes (Some rest) gave = gave.0 ∙ ap (λ t. bytes ++ t) gave.1 ∙ append-nil bytes

module _ (shape : Sizes) (S s : ℕ) where
  each_file : (files : List (List ℕ)) (readings : List (Option (List ℕ) × Option (List ℕ))) (fss : List (List Frame))
      → AllZip (λ file reading. reading.0 ≡ Some file) files readings → AllZip (GaveSlice shape S s) readings fss
      → AllZip (IsFileOf shape S s) files fss
  each_file [] [] [] known gave = tt
  each_file [] [] (fs ∷ fss) known gave = absurd gave
  each_file [] (r ∷ rs) fss known gave = absurd known
  each_file (f ∷ files) [] fss known gave = absurd known
  each_file (f ∷ files) (r ∷ rs) [] known gave = absurd gave
  each_file (f ∷ files) (r ∷ rs) (fs ∷ fss) known gave = (
    record {
      frames = gave.0.frames;
      is = given f (file_bytes shape S s fs) r.1 (subst (λ old. GaveAll old r.1 (file_bytes shape S s fs)) known.0 gave.0.gave);
    },
    each_file files rs fss known.1 gave.1,
  )

pub known_files : GatheredFilesAreRead
known_files readings files r are gathered known = record {
  slicing = are.slicing;
  fss = gathered.files;
  each = each_file r.shape r.slices r.slice files readings gathered.files known gathered.gave;
  wide = are.wide;
  joined = gathered.each;
}
