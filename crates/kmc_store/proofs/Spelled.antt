-- The super-k-mers of reads can be spelled.
use Rattle.std.proofs.Common.{◌≡◌, ℕ, ◌+◌, ◌-◌, ◌%◌, ◌<◌, ◌≤◌, nat_eq, nat_le, Bool, true, false, cond, List, [], ◌∷◌, length, map, drop, refl, arith, length-drop}
use Rattle.std.proofs.lemmas.List.{length-take-le}
use Rattle.std.proofs.lemmas.List.Elements.{recursion_from_All, All-from_recursion, All-take, All-drop}
use Rattle.std.proofs.lemmas.Bool.Decides.{nat_tests}
use Rattle.std.specs.Prelude.{Option, Some, None, ◌==◌, if◌then◌else◌, ◌||◌}
use Rattle.std.specs.List.{AllByRecursion, flat_map, filter}
use Rattle.kmc_base.specs.Words.{code_of}
use Rattle.kmc_base.specs.Stretches.{Stretch, with_place, stretches_from, segments_of}
use Rattle.kmc_split.specs.declared.runs.Run.{Run}
use Rattle.kmc_split.specs.Cut.{run_codes, IsRunOf}
use Rattle.kmc_split.specs.Laws.{CutExists, CutHasRuns}
use Rattle.kmc_base.specs.Record.{IsSpelled}
use Rattle.kmc_record.specs.Parts.{bin_runs, all_segments}
use Rattle.kmc_store.specs.Lemmas.Filling.{all_joined}
use Rattle.kmc_store.proofs.Cuts.{runs_of, read_records}
use Rattle.kmc_split.specs.Signature.{bin_of_signature}

-- ---- each member of lists that are made of others

pub all_flat : {A B : Type 0} (P : B → Type 0) (f : A → List B) (xs : List A) → AllByRecursion (λ (x : A). AllByRecursion P (f x)) xs
    → AllByRecursion P (flat_map f xs)
all_flat P f [] h = tt
all_flat P f (x ∷ xs) h = all_joined P (f x) (flat_map f xs) h.0 (all_flat P f xs h.1)

pub all_each : {A : Type 0} (P : A → Type 0) (xs : List A) → ((x : A) → P x) → AllByRecursion P xs
all_each P [] h = tt
all_each P (x ∷ xs) h = (h x, all_each P xs h)

pub all_filter : {A : Type 0} (P : A → Type 0) (p : A → Bool) (xs : List A) → AllByRecursion P xs → AllByRecursion P (filter p xs)
all_filter P p [] h = tt
all_filter P p (x ∷ xs) h = go (all_filter P p xs h.1) (p x)
  where
    go : AllByRecursion P (filter p xs) → (t : Bool) → AllByRecursion P (cond t (x ∷ filter p xs) (filter p xs))
    go rest true = (h.0, rest)
    go rest false = rest

-- ---- segments have codes

abbrev AreSmall : List ℕ → Type 0
AreSmall codes = AllByRecursion (λ c. c < 4) codes

one_of : (t : Bool) (n : ℕ) (o : Option ℕ) (c : ℕ) → n < 4 → (o ≡ Some c → c < 4) → (if t then Some n else o) ≡ Some c → c < 4
one_of true n o c small other h = let e : n ≡ c = cc in omega arith
one_of false n o c small other h = other h

code_small : (b c : ℕ) → code_of b ≡ Some c → c < 4
code_small b c = one_of ((b == 65) || (b == 97)) 0 _ c (omega arith)
    (one_of ((b == 67) || (b == 99)) 1 _ c (omega arith)
    (one_of ((b == 71) || (b == 103)) 2 _ c (omega arith)
    (one_of ((b == 84) || (b == 116)) 3 None c (omega arith) (λ h. absurd cc))))

place_small : (i : ℕ) (o : Option ℕ) (ss : List Stretch) → ((c : ℕ) → o ≡ Some c → c < 4) → AllByRecursion (λ s. AreSmall s.codes) ss
    → AllByRecursion (λ s. AreSmall s.codes) (with_place i o ss)
place_small i None ss small h = h
place_small i (Some c) [] small h = ((small c refl, tt), tt)
place_small i (Some c) (s ∷ ss) small h = go (s.start == i + 1)
  where
    go : (t : Bool) → AllByRecursion (λ (s : Stretch). AreSmall s.codes)
        (if t then record { start = i; codes = c ∷ s.codes } ∷ ss else record { start = i; codes = c ∷ [] } ∷ s ∷ ss)
    go true = ((small c refl, h.0), h.1)
    go false = ((small c refl, tt), (h.0, h.1))

stretches_small : (i : ℕ) (bs : List ℕ) → AllByRecursion (λ s. AreSmall s.codes) (stretches_from i bs)
stretches_small i [] = tt
stretches_small i (b ∷ bs) = place_small i (code_of b) (stretches_from (i + 1) bs) (code_small b) (stretches_small (i + 1) bs)

abbrev HasWords : ℕ → Stretch → Type 0
HasWords k s = (k ≤ length s.codes) × AreSmall s.codes

long_ones : (k : ℕ) (ss : List Stretch) → AllByRecursion (λ s. AreSmall s.codes) ss → AllByRecursion (HasWords k) (filter (λ s. nat_le k (length s.codes)) ss)
long_ones k [] h = tt
long_ones k (s ∷ ss) h = go (long_ones k ss h.1) (nat_le k (length s.codes)) refl
  where
    go : AllByRecursion (HasWords k) (filter (λ s. nat_le k (length s.codes)) ss) → (t : Bool) → nat_le k (length s.codes) ≡ t
        → AllByRecursion (HasWords k) (cond t (s ∷ filter (λ s. nat_le k (length s.codes)) ss) (filter (λ s. nat_le k (length s.codes)) ss))
    go rest true e = let l : k ≤ length s.codes = grind (arith, nat_tests) in ((l, h.0), rest)
    go rest false e = rest

segments_have_words : (k : ℕ) (reads : List (List ℕ)) → AllByRecursion (HasWords k) (all_segments k reads)
segments_have_words k reads = all_flat (HasWords k) (segments_of k) reads
    (all_each (λ (r : List ℕ). AllByRecursion (HasWords k) (segments_of k r)) reads (λ r. long_ones k (stretches_from 0 r) (stretches_small 0 r)))

-- ---- and their runs can be spelled

run_spelled : (k m : ℕ) (codes : List ℕ) (r : Run) → 1 ≤ k → IsRunOf k m codes r → AreSmall codes → IsSpelled k (run_codes k codes r)
run_spelled k m codes r some h small =
    let P : ℕ → Type 0 = λ c. c < 4 in
    let count = r.words + (k - 1) in
    let long : length (run_codes k codes r) ≡ count = length-take-le count (drop r.start codes) (omega (arith, length-drop r.start codes, h.inside)) in
    record {
      least = omega (arith, long, h.some);
      most = omega (arith, long, h.most);
      codes = recursion_from_All P (run_codes k codes r) (All-take P count (drop r.start codes) (All-drop P r.start codes (All-from_recursion P codes small)));
    }

runs_spelled : (k m n i : ℕ) (codes : List ℕ) (runs : List Run) → 1 ≤ k → AreSmall codes → AllByRecursion (IsRunOf k m codes) runs → AllByRecursion
    (IsSpelled k) (bin_runs k n i codes runs)
runs_spelled k m n i codes [] some small h = tt
runs_spelled k m n i codes (r ∷ rs) some small h = go (runs_spelled k m n i codes rs some small h.1) (nat_eq (bin_of_signature n r.signature) i)
  where
    go : AllByRecursion (IsSpelled k) (bin_runs k n i codes rs) → (t : Bool)
        → AllByRecursion (IsSpelled k) (map (run_codes k codes) (cond t (r ∷ filter (λ r. nat_eq (bin_of_signature n r.signature) i) rs)
        (filter (λ r. nat_eq (bin_of_signature n r.signature) i) rs)))
    go rest true = (run_spelled k m codes r some h.0 small, rest)
    go rest false = rest

module _ (exists : CutExists) (has_runs : CutHasRuns) (k m n : ℕ) (some : 1 ≤ k) where
  segments_spelled : (i : ℕ) (ss : List Stretch) → AllByRecursion (HasWords k) ss → AllByRecursion (IsSpelled k) (flat_map (runs_of exists k m n i) ss)
  segments_spelled i [] h = tt
  segments_spelled i (s ∷ ss) h =
      let cut = exists k m s.codes in
      let runs = recursion_from_All (IsRunOf k m s.codes) cut.0 (has_runs k m s.codes cut.0 some h.0.0 cut.1) in
      all_joined (IsSpelled k) (runs_of exists k m n i s) (flat_map (runs_of exists k m n i) ss) (runs_spelled k m n i s.codes cut.0 some h.0.1 runs)
      (segments_spelled i ss h.1)

  pub records_spelled : (i : ℕ) (reads : List (List ℕ)) → AllByRecursion (IsSpelled k) (read_records exists k m n i reads)
  records_spelled i reads = segments_spelled i (all_segments k reads) (segments_have_words k reads)
