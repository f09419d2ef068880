-- The header of a file, told by its bytes.
use Rattle.std.proofs.Common.{◌≡◌, ℕ, ◌<◌, List, [], ◌∷◌, ◌++◌, length, take, get_or, refl, sym, ap, ◌∙◌, arith}
use Rattle.std.specs.Int.{w16, w32, w64, to_le_bytes, from_le_bytes}
use Rattle.std.proofs.lemmas.List.{take_at}
use Rattle.std.proofs.lemmas.Nat.{le_bytes_2, le_bytes_4, le_bytes_8}
use Rattle.kmc_slice_files.specs.Check.{hashed}
use Rattle.kmc_slice_files.specs.Files.{LETTERS, VERSION, IsSlicing, front_bytes, slicing_bytes, header_bytes}
use Rattle.kmc_slice_files.specs.Headers.{front_of, IsTold, IsSlicingOf}
use Rattle.kmc_slice_files.specs.declared.header.Slicing.{Slicing}
use Rattle.kmc_slice_files.specs.declared.header.Told.{Told}
use Rattle.kmc_slice_files.proofs.Reading.{by_places, below}

pub numbers_are : (t : Told) (bytes : List ℕ) → length bytes ≡ 28 → ((i : ℕ) → get_or bytes i 0 < 256)
    → t.letters ≡ from_le_bytes w64 (get_or bytes 0 0 ∷ get_or bytes 1 0 ∷ get_or bytes 2 0 ∷ get_or bytes 3 0 ∷ get_or bytes 4 0 ∷ get_or bytes 5 0
    ∷ get_or bytes 6 0 ∷ get_or bytes 7 0 ∷ [])
    → t.version ≡ from_le_bytes w32 (get_or bytes 8 0 ∷ get_or bytes 9 0 ∷ get_or bytes 10 0 ∷ get_or bytes 11 0 ∷ [])
    → t.k ≡ get_or bytes 12 0 → t.m ≡ get_or bytes 13 0 → t.bins ≡ from_le_bytes w16 (get_or bytes 14 0 ∷ get_or bytes 15 0 ∷ [])
    → t.slices ≡ from_le_bytes w16 (get_or bytes 16 0 ∷ get_or bytes 17 0 ∷ []) → t.slice ≡ from_le_bytes w16
    (get_or bytes 18 0 ∷ get_or bytes 19 0 ∷ [])
    → t.check ≡ from_le_bytes w64 (get_or bytes 20 0 ∷ get_or bytes 21 0 ∷ get_or bytes 22 0 ∷ get_or bytes 23 0 ∷ get_or bytes 24 0 ∷ get_or bytes
    25 0 ∷ get_or bytes 26 0 ∷ get_or bytes 27 0 ∷ [])
    → bytes ≡ front_of t ++ to_le_bytes w64 t.check
unfolding front_bytes
numbers_are t bytes long small letters version k m bins slices slice check =
    by_places bytes 28 long
    ∙ sym (λ p. (le_bytes_8 (get_or bytes 0 0 ∷ get_or bytes 1 0 ∷ get_or bytes 2 0 ∷ get_or bytes 3 0 ∷ get_or bytes 4 0 ∷ get_or bytes 5 0 ∷ get_or
    bytes 6 0 ∷ get_or bytes 7 0 ∷ []) t.letters refl
    (below (get_or bytes 0 0 ∷ get_or bytes 1 0 ∷ get_or bytes 2 0 ∷ get_or bytes 3 0 ∷ get_or bytes 4 0 ∷ get_or bytes 5 0 ∷ get_or bytes 6 0 ∷
    get_or bytes 7 0 ∷ []) (small 0, (small 1, (small 2, (small 3, (small 4, (small 5, (small 6, (small 7, tt))))))))) letters p
    ++ le_bytes_4 (get_or bytes 8 0 ∷ get_or bytes 9 0 ∷ get_or bytes 10 0 ∷ get_or bytes 11 0 ∷ []) t.version refl
    (below (get_or bytes 8 0 ∷ get_or bytes 9 0 ∷ get_or bytes 10 0 ∷ get_or bytes 11 0 ∷ []) (small 8, (small 9, (small 10, (small 11, tt)))))
    version p
    ++ ((k p ∷ m p ∷ []) ++ le_bytes_2 (get_or bytes 14 0 ∷ get_or bytes 15 0 ∷ []) t.bins refl
    (below (get_or bytes 14 0 ∷ get_or bytes 15 0 ∷ []) (small 14, (small 15, tt))) bins p)
    ++ (le_bytes_2 (get_or bytes 16 0 ∷ get_or bytes 17 0 ∷ []) t.slices refl (below (get_or bytes 16 0 ∷ get_or bytes 17 0 ∷ [])
    (small 16, (small 17, tt))) slices p
    ++ le_bytes_2 (get_or bytes 18 0 ∷ get_or bytes 19 0 ∷ []) t.slice refl (below (get_or bytes 18 0 ∷ get_or bytes 19 0 ∷ [])
    (small 18, (small 19, tt))) slice p))
    ++ le_bytes_8 (get_or bytes 20 0 ∷ get_or bytes 21 0 ∷ get_or bytes 22 0 ∷ get_or bytes 23 0 ∷ get_or bytes 24 0 ∷ get_or bytes 25 0 ∷ get_or
    bytes 26 0 ∷ get_or bytes 27 0 ∷ []) t.check refl
    (below (get_or bytes 20 0 ∷ get_or bytes 21 0 ∷ get_or bytes 22 0 ∷ get_or bytes 23 0 ∷ get_or bytes 24 0 ∷ get_or bytes 25 0 ∷ get_or bytes
    26 0 ∷ get_or bytes 27 0 ∷ []) (small 20, (small 21, (small 22, (small 23, (small 24, (small 25, (small 26, (small 27, tt))))))))) check p)

length-front : (letters version k m n S s : ℕ) → length (front_bytes letters version k m n S s) ≡ 20
unfolding front_bytes
length-front letters version k m n S s = refl

-- what the check word is of
pub front_taken : (t : Told) (bytes : List ℕ) → IsTold t bytes → take 20 bytes ≡ front_of t
front_taken t bytes told =
    ap (take 20) told.is ∙ take_at (front_of t) (to_le_bytes w64 t.check) 20 (length-front t.letters t.version t.k t.m t.bins t.slices t.slice)

pub header_made : (t : Told) (h : Slicing) (bytes : List ℕ) → IsTold t bytes → t.letters ≡ LETTERS → t.version ≡ VERSION
    → t.check ≡ hashed 0 (front_of t)
    → IsSlicingOf t h → IsSlicing h.shape h.slices h.slice × (bytes ≡ header_bytes h.shape h.slices h.slice)
header_made t h bytes told letters version check of =
    let front : front_of t ≡ slicing_bytes h.shape h.slices h.slice =
    λ i. front_bytes (letters i) (version i) (sym of.shape i).k (sym of.shape i).m (sym of.shape i).n (sym of.slices i) (sym of.slice i) in (
      record {
        sizes = of.made;
        some = omega (arith, of.slices, of.within);
        most = omega (arith, of.slices, told.slices);
        within = omega (arith, of.slices, of.slice, of.within);
      },
      told.is ∙ (λ i. front i ++ to_le_bytes w64 ((check ∙ ap (hashed 0) front) i)),
    )
