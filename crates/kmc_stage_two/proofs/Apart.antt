-- The keys of different bins differ.
use Rattle.std.proofs.Common.{◌≡◌, ℕ, ◌<◌, ◌≤◌, All, List, [], ◌∷◌, ◌++◌, length, map, get_or, refl, sym, ap, ap₂, subst, ◌∙◌, arith}
use Rattle.std.specs.List.{AllZip, AllByRecursion, Contains}
use Rattle.std.proofs.lemmas.List.{get_or-map, length-map, map-append}
use Rattle.std.proofs.lemmas.List.Elements.{All-from_recursion, All-append}
use Rattle.std.proofs.lemmas.Slice.Zip.{AllZip-long}
use Rattle.kmc_base.specs.declared.strands.Strands.{Strands}
use Rattle.kmc_base.specs.declared.strands.Strands.TheVariants.{Joined, Apart}
use Rattle.kmc_base.specs.Words.{windows}
use Rattle.kmc_base.specs.Strands.{key}
use Rattle.kmc_base.specs.Lemmas.Keys.{IsWord, keys_are_words}
use Rattle.kmc_split.specs.Signature.{signature_of, bin_of, bin_of_signature}
use Rattle.kmc_split.specs.Laws.{CanonicalFixesSignature}
use Rattle.kmc_record.specs.Shapes.{Sizes}
use Rattle.kmc_base.specs.Record.{IsBodyOf, IsSpelled}
use Rattle.kmc_record.specs.RecordWords.{record_keys}
use Rattle.kmc_record.specs.Parts.{all_windows}
use Rattle.kmc_base.specs.SpellingLaws.{BodyHasOneList}
use Rattle.kmc_store.specs.Bins.{AreBins, body_at}
use Rattle.kmc_count.specs.Merge.{AreApart}
use Rattle.kmc_count.specs.Lemmas.Zips.{zip_at}
use Rattle.kmc_stage_two.proofs.Counting.{keys_windows}

-- the words of records are words
words_of_records : (k : ℕ) (ss : List (List ℕ)) → AllByRecursion (IsSpelled k) ss → All (IsWord k) (all_windows k ss)
words_of_records k [] h = λ i d lt. absurd (let no : ⊥ = omega arith in no)
words_of_records k (s ∷ ss) h =
    All-append (IsWord k) (windows k s) (all_windows k ss) (All-from_recursion (IsWord k) (windows k s) (keys_are_words Apart k s h.0.codes))
    (words_of_records k ss h.1)

keys_of_words : (strands : Strands) (k : ℕ) (ss : List (List ℕ)) → record_keys strands k ss ≡ map (key strands) (all_windows k ss)
keys_of_words strands k [] = refl
keys_of_words strands k (s ∷ ss) =
    ap₂ (λ (a b : List (List ℕ)). a ++ b) (keys_windows strands k [] s) (keys_of_words strands k ss)
    ∙ sym (map-append (key strands) (windows k s) (all_windows k ss))

-- x is the key of a word whose signature has the bin
record IsKeyIn (strands : Strands) (shape : Sizes) (bin : ℕ) (x : List ℕ) : Type 0 where
  word : List ℕ
  is : key strands word ≡ x
  whole : IsWord shape.k word
  belongs : bin_of shape.m shape.n word ≡ bin

key_in : (strands : Strands) (shape : Sizes) (bin : ℕ) (ss : List (List ℕ)) → AllByRecursion (IsSpelled shape.k) ss
    → All (λ w. bin_of shape.m shape.n w ≡ bin) (all_windows shape.k ss) → (x : List ℕ) → Contains (record_keys strands shape.k ss) x
    → IsKeyIn strands shape bin x
key_in strands shape bin ss spelled belong x at = record {
  word = get_or (all_windows shape.k ss) q [];
  is = sym (get_or-map (key strands) (all_windows shape.k ss) q [] x inside) ∙ found.2;
  whole = words_of_records shape.k ss spelled q [] inside;
  belongs = belong q [] inside;
}
  where
    found : Contains (map (key strands) (all_windows shape.k ss)) x
    found = subst (λ (l : List (List ℕ)). Contains l x) (keys_of_words strands shape.k ss) at

    q : ℕ
    q = found.0

    inside : q < length (all_windows shape.k ss)
    inside = subst (λ (n : ℕ). q < n) (length-map (all_windows shape.k ss) (key strands)) found.1

-- words with one key have one signature
one_signature : CanonicalFixesSignature → (strands : Strands) (m k : ℕ) (v w : List ℕ) → m ≤ k → IsWord k v → IsWord k w → key strands v
    ≡ key strands w → signature_of m v ≡ signature_of m w
one_signature fixes Joined m k v w within hv hw same =
    fixes m v w (omega (arith, hw.0)) (All-from_recursion (λ (c : ℕ). c < 4) v hv.1) (All-from_recursion (λ (c : ℕ). c < 4) w hw.1) same
one_signature fixes Apart m k v w within hv hw same = ap (signature_of m) same

pub keys_apart : BodyHasOneList → CanonicalFixesSignature → (strands : Strands) (shape : Sizes) (bodies : List (List ℕ)) (words : List ℕ)
    (sss : List (List (List ℕ)))
    → shape.m ≤ shape.k → AreBins shape bodies words → AllZip (IsBodyOf shape.k) sss bodies
    → AreApart (map (record_keys strands shape.k) sss)
keys_apart one fixes strands shape bodies words sss within are zip i j d less lt x here there = clash
    (in_bin i inside_i x (moved i inside_i here)) (in_bin j inside_j x (moved j inside_j there))
  where
    f : List (List ℕ) → List (List ℕ)
    f = record_keys strands shape.k

    inside_j : j < length sss
    inside_j = subst (λ (n : ℕ). j < n) (length-map sss f) lt

    inside_i : i < length sss
    inside_i = omega (arith, less, inside_j)

    wide : length sss ≡ shape.n
    wide = sym (AllZip-long (IsBodyOf shape.k) sss bodies zip) ∙ are.wide

    moved : (b : ℕ) → b < length sss → Contains (get_or (map f sss) b d) x → Contains (f (get_or sss b [])) x
    moved b inside = subst (λ (l : List (List ℕ)). Contains l x) (get_or-map f sss b [] d inside)

    in_bin : (b : ℕ) → b < length sss → (x : List ℕ) → Contains (f (get_or sss b [])) x → IsKeyIn strands shape b x
    in_bin b inside x at =
        let part = are.each b (omega (arith, inside, wide)) in
        let body = zip_at (IsBodyOf shape.k) sss bodies b [] [] zip inside in
        let same : part.super_kmers ≡ get_or sss b [] = one shape.k part.super_kmers (get_or sss b []) (body_at bodies b) part.records body in
        key_in strands shape b (get_or sss b []) body.each (subst (λ (ss : List (List ℕ)). All (λ w. bin_of shape.m shape.n w ≡ b)
        (all_windows shape.k ss)) same part.belong) x at

    clash : IsKeyIn strands shape i x → IsKeyIn strands shape j x → ⊥
    clash a b =
        let same = one_signature fixes strands shape.m shape.k a.word b.word within a.whole b.whole (a.is ∙ sym b.is) in
        let equal : i ≡ j = sym a.belongs ∙ ap (bin_of_signature shape.n) same ∙ b.belongs in
        omega (arith, less, equal)
