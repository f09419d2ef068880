-- Bins to which all parts of all chunks are added hold the reads.
use Rattle.std.proofs.Common.{◌≡◌, ℕ, ◌+◌, ◌*◌, ◌<◌, ◌≤◌, nat_eq, nat_lt, Bool, true, false, cond, List, [], ◌∷◌, ◌++◌, length, map, refl, sym, ap, ap₂, subst, ◌∙◌, arith}
use Rattle.std.proofs.lemmas.List.Sums.{sum_by-cons, sum_by-append}
use Rattle.std.proofs.lemmas.Bool.Decides.{nat_tests}
use lib.Pointwise.{pointwise_decides}
use Rattle.std.proofs.lemmas.List.Concat.{flat_map-append}
use Rattle.std.specs.Prelude.{bytes_eq}
use Rattle.std.specs.List.{sum_by, flat_map, range_with_len, AllByRecursion}
use Rattle.kmc_split.specs.Laws.{CutExists, CutIsUnique, CutHasRuns}
use Rattle.kmc_base.specs.Record.{spelling, IsSpelled, IsBodyOf}
use Rattle.kmc_record.specs.Shapes.{Sizes}
use Rattle.kmc_record.specs.Parts.{Parcel}
use Rattle.kmc_store.specs.Bins.{body_at}
use Rattle.kmc_store.specs.Bodies.{parts_in, AreAdded}
use Rattle.kmc_store.specs.Deals.{chunk_at, AreDealt, AreGathered}
use Rattle.kmc_store.specs.Holds.{HoldsReads}
use Rattle.kmc_record.specs.Lemmas.Sums.{sum_same, sum_none, sum_filter, sum_map, sum_flat_map}
use Rattle.kmc_store.proofs.Ranges.{eq_of, is_eq, only, range_one, below_same, below_none}
use Rattle.kmc_store.proofs.Cuts.{cut_of, are_cuts, read_records, read_records_are, read_sum, reads_sum}
use Rattle.kmc_store.proofs.Spelled.{all_flat, all_each, all_filter, records_spelled}
use Rattle.kmc_store.proofs.Dealt.{chunks_sum, chunk_segments, chunk_part, chunk_parts, gathered_sum}
use Rattle.kmc_store.specs.Lemmas.Filling.{body_joined}
use Rattle.kmc_store.proofs.Held.{sums_held, held_by_sums}

-- no term, no sum
none_each : {A : Type 0} (P : A → Type 0) (f : A → ℕ) → ((x : A) → f x ≡ 0 → P x) → (xs : List A) → sum_by f xs ≡ 0 → AllByRecursion P xs
none_each P f is [] h = tt
none_each P f is (x ∷ xs) h =
    let here : f x ≡ 0 = omega (arith, sum_by-cons f x xs) in
    let rest : sum_by f xs ≡ 0 = omega (arith, sum_by-cons f x xs) in
    (is x here, none_each P f is xs rest)

flat_through : {A : Type 0} (f : A → List ℕ) (g : A → List (List ℕ)) (h : List ℕ → List ℕ) (xs : List A) → AllByRecursion
    (λ (x : A). f x ≡ flat_map h (g x)) xs → flat_map f xs ≡ flat_map h (flat_map g xs)
flat_through f g h [] all = refl
flat_through f g h (x ∷ xs) all =
    let here = all.0 in
    let rest = flat_through f g h xs all.1 in
    (λ i. here i ++ rest i) ∙ sym (flat_map-append h (g x) (flat_map g xs))

same_bytes : (xs ys : List ℕ) → (bytes_eq xs ys ≡ true → xs ≡ ys) × (xs ≡ ys → bytes_eq xs ys ≡ true)
same_bytes = pointwise_decides (λ (x y : ℕ). (eq_of x y, is_eq x y))

-- no bytes, no records
no_records : (k : ℕ) (ss : List (List ℕ)) → nat_lt 0 (length (flat_map (spelling k) ss)) ≡ false → ss ≡ []
no_records k [] h = refl
no_records k (s ∷ ss) h = absurd (let z : 0 ≡ length (flat_map (spelling k) (s ∷ ss)) = grind (arith, nat_tests) in omega arith)

module _ (exists : CutExists) (unique : CutIsUnique) (has_runs : CutHasRuns) (shape : Sizes) (batch : ℕ) (held reads : List (List ℕ)) where
  -- the records of a part, by its chunk and its bin
  abbrev records_of : Parcel → List (List ℕ)
  records_of p = read_records exists shape.k shape.m shape.n p.bin (chunk_at batch reads p.chunk)

  abbrev spelled_of : Parcel → List ℕ
  spelled_of p = flat_map (spelling shape.k) (records_of p)

  abbrev the_part : ℕ → ℕ → Parcel
  the_part = chunk_part exists unique shape batch reads

  abbrev has_bytes : Parcel → Bool
  has_bytes p = nat_lt 0 (length p.body)

  part_body : (c bin : ℕ) → (the_part c bin).body ≡ spelled_of (the_part c bin)
  part_body c bin =
      let segments = chunk_segments exists unique shape batch reads c in
      ap (flat_map (spelling shape.k)) (read_records_are exists shape.k shape.m shape.n unique bin (chunk_at batch reads c)
      (map (cut_of exists shape.k shape.m shape.n) segments) (are_cuts exists shape.k shape.m shape.n segments))

  -- a sum over the parts of a chunk, bin by bin
  parts_sum : (F : Parcel → ℕ) (c : ℕ) → sum_by F (chunk_parts exists unique shape batch reads c) ≡ sum_by
      (λ bin. cond (has_bytes (the_part c bin)) (F (the_part c bin)) 0) (range_with_len 0 shape.n)
  parts_sum F c = sum_filter F has_bytes (map (the_part c) (range_with_len 0 shape.n)) ∙ sum_map (λ p. cond (has_bytes p) (F p) 0) (the_part c)
      (range_with_len 0 shape.n)

  -- 1 where a part is not the records of its chunk and its bin
  abbrev is_other : Parcel → ℕ
  is_other p = cond (bytes_eq p.body (spelled_of p)) 0 1

  not_other : (p : Parcel) → is_other p ≡ 0 → p.body ≡ spelled_of p
  not_other p h = go (bytes_eq p.body (spelled_of p)) refl
    where
      go : (t : Bool) → bytes_eq p.body (spelled_of p) ≡ t → p.body ≡ spelled_of p
      go true e = (same_bytes p.body (spelled_of p)).0 e
      go false e = absurd (let z : is_other p ≡ 1 = ap (λ t. cond t 0 1) e in omega arith)

  none_other : (c : ℕ) → sum_by is_other (chunk_parts exists unique shape batch reads c) ≡ 0
  none_other c = parts_sum is_other c ∙ sum_same (λ bin. cond (has_bytes (the_part c bin)) (is_other (the_part c bin)) 0) (λ bin. 0) each
      (range_with_len 0 shape.n) ∙ sum_none (range_with_len 0 shape.n)
    where
      none : (t : Bool) (a : ℕ) → a ≡ 0 → cond t a 0 ≡ 0
      none true a h = h
      none false a h = refl

      each : (bin : ℕ) → cond (has_bytes (the_part c bin)) (is_other (the_part c bin)) 0 ≡ 0
      each bin = none (has_bytes (the_part c bin)) (is_other (the_part c bin))
          (ap (λ t. cond t 0 1) ((same_bytes (the_part c bin).body (spelled_of (the_part c bin))).1 (part_body c bin)))

  -- the sum over the records of a part, where it is of bin i
  abbrev weight : (List ℕ → ℕ) → ℕ → Parcel → ℕ
  weight G i p = cond (nat_eq p.bin i) (sum_by G (records_of p)) 0

  abbrev bin_sum : (List ℕ → ℕ) → ℕ → ℕ → ℕ
  bin_sum G c bin = sum_by G (read_records exists shape.k shape.m shape.n bin (chunk_at batch reads c))

  chunk_weight : (G : List ℕ → ℕ) (i c : ℕ) → i < shape.n → sum_by (weight G i) (chunk_parts exists unique shape batch reads c) ≡ sum_by
      (read_sum exists shape.k shape.m shape.n G i) (chunk_at batch reads c)
  chunk_weight G i c l = parts_sum (weight G i) c ∙ sum_same (λ bin. cond (has_bytes (the_part c bin)) (weight G i (the_part c bin)) 0)
      (only i (bin_sum G c)) each (range_with_len 0 shape.n)
      ∙ range_one i (bin_sum G c) shape.n l ∙ reads_sum exists shape.k shape.m shape.n G i (chunk_at batch reads c)
    where
      none : (t : Bool) (a : ℕ) → a ≡ 0 → 0 ≡ cond t a 0
      none true a h = sym h
      none false a h = refl

      empty : (bin : ℕ) → has_bytes (the_part c bin) ≡ false → bin_sum G c bin ≡ 0
      empty bin e = ap (sum_by G) (no_records shape.k (read_records exists shape.k shape.m shape.n bin (chunk_at batch reads c))
          (sym (ap (λ b. nat_lt 0 (length b)) (part_body c bin)) ∙ e))

      case : (bin : ℕ) (t : Bool) → has_bytes (the_part c bin) ≡ t → cond t (only i (bin_sum G c) bin) 0 ≡ only i (bin_sum G c) bin
      case bin true e = refl
      case bin false e = none (nat_eq bin i) (bin_sum G c bin) (empty bin e)

      each : (bin : ℕ) → cond (has_bytes (the_part c bin)) (weight G i (the_part c bin)) 0 ≡ only i (bin_sum G c) bin
      each bin = case bin (has_bytes (the_part c bin)) refl

  -- a bin's records of what was got
  abbrev own : List Parcel → ℕ → List (List ℕ)
  own got i = flat_map records_of (parts_in i got)

  pub gathered_held : (sp chunks : ℕ) (sent : ℕ → List Parcel) (got : List Parcel) (before bodies : List (List ℕ)) → 1 ≤ shape.k → 0 < sp
      → length reads ≤ chunks * batch
      → ((w : ℕ) → w < sp → AreDealt shape batch reads sp w chunks (sent w)) → AreGathered sp sent got → HoldsReads shape held before
      → AreAdded shape before bodies got → HoldsReads shape (held ++ reads) bodies
  gathered_held sp chunks sent got before bodies some writers all dealt gathered hold are =
      let old = sums_held exists unique shape held before hold in
      let sum = λ (F : Parcel → ℕ). gathered_sum exists unique shape batch reads F sp writers chunks sent got dealt gathered in
      let as_spelled : AllByRecursion (λ (p : Parcel). p.body ≡ spelled_of p) got =
      none_each (λ (p : Parcel). p.body ≡ spelled_of p) is_other not_other got
      (sum is_other ∙ below_none (λ c. sum_by is_other (chunk_parts exists unique shape batch reads c)) chunks none_other) in
      let own_sum = λ (i : ℕ) (G : List ℕ → ℕ) (l : i < shape.n).
      sum_flat_map G records_of (parts_in i got) ∙ sum_filter (λ p. sum_by G (records_of p)) (λ p. nat_eq p.bin i) got ∙ sum (weight G i)
      ∙ below_same (λ c. sum_by (weight G i) (chunk_parts exists unique shape batch reads c))
      (λ c. sum_by (read_sum exists shape.k shape.m shape.n G i) (chunk_at batch reads c)) chunks (λ c. chunk_weight G i c l)
      ∙ chunks_sum batch reads (read_sum exists shape.k shape.m shape.n G i) chunks all in
      held_by_sums exists unique shape (held ++ reads) bodies (record {
        wide = are.wide;
        records = λ i. old.records i ++ own got i;
        each = λ i l. subst (IsBodyOf shape.k (old.records i ++ own got i)) (sym (are.each i l))
            (body_joined shape.k (old.records i) (own got i) (body_at before i) (flat_map (λ p. p.body) (parts_in i got)) (old.each i l) (record {
              each = all_flat (IsSpelled shape.k) records_of (parts_in i got)
                  (all_each (λ (p : Parcel). AllByRecursion (IsSpelled shape.k) (records_of p)) (parts_in i got)
                  (λ p. records_spelled exists has_runs shape.k shape.m shape.n some p.bin (chunk_at batch reads p.chunk)));
              is = flat_through (λ (p : Parcel). p.body) records_of (spelling shape.k) (parts_in i got)
                  (all_filter (λ (p : Parcel). p.body ≡ spelled_of p) (λ p. nat_eq p.bin i) got as_spelled);
            }));
        same = λ i G l.
            let g = read_sum exists shape.k shape.m shape.n G i in
            sum_by-append G (old.records i) (own got i) ∙ ap₂ (λ (m n : ℕ). m + n) (old.same i G l) (own_sum i G l) ∙ sym (sum_by-append g held reads);
      })
