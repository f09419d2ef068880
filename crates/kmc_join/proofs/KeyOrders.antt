-- Sorted keys below a word, at it, and above it.
use Rattle.std.proofs.Common.{◌≡◌, ◌≢◌, ℕ, ◌+◌, ◌<◌, ◌≤◌, ◌⊎◌, inl, inr, Bool, true, false, cond, List, [], length, get_or, map, set, refl, sym, ap, subst, ◌∙◌, arith, Err}
use Rattle.std.specs.Prelude.{Contains, IsSorted}
use Rattle.std.specs.Cmp.{unsigned_ties}
use Rattle.std.specs.Cmp.Lexicographic.{lists_ties}
use Rattle.std.specs.List.Sorted.{IsBinarySearchResult}
use Rattle.std.specs.Ordering.{is_eq, is_lt, nat_cmp, ordering_reverse, ordering_then}
use Rattle.std.specs.declared.cmp.Ordering.{Ordering}
use Rattle.std.specs.declared.cmp.Ordering.TheVariants.{Less, Equal, Greater}
use Rattle.std.proofs.lemmas.List.Sorted.{ranks_by, searchable_from_sorted, sorted_far}
use Rattle.std.proofs.lemmas.Bool.{cases_eq, cases_order}
use Rattle.std.proofs.lemmas.Cmp.{tied_itself}
use Rattle.std.proofs.lemmas.List.{get_or_default, get_or-map, get_or-set_other, get_or-set_same, length-map}
use Rattle.kmc_base.specs.Words.{kmer_cmp, word_cmp}
use Rattle.kmc_count.specs.Lemmas.Listing.{kmer_total, same_is}
use Rattle.kmc_count.specs.Lemmas.OneDump.{not_below_itself}
use Rattle.kmc_count.specs.Occurrences.{same_word}
use Rattle.kmc_join.specs.KeyCounts.{AreBelow, key_at}

then_equal : (o p : Ordering) → ordering_then o p ≡ Equal → p ≡ Equal
then_equal Less p e = absurd (cc e)
then_equal Equal p e = e
then_equal Greater p e = absurd (cc e)

-- words that are alike in the order are one
pub equal_is : (a b : List ℕ) → kmer_cmp a b ≡ Equal → a ≡ b
equal_is a b e =
    same_is a b (lists_ties nat_cmp unsigned_ties a b ∙ ap is_eq (then_equal (nat_cmp (length a) (length b)) (word_cmp a b) e))

-- of two keys the one behind is not below the one before
pub no_lower : (keys : List (List ℕ)) → IsSorted kmer_cmp keys → (i j : ℕ) → i ≤ j → j < length keys
    → is_lt (kmer_cmp (key_at keys j) (key_at keys i)) ≡ false
no_lower keys up i j le inside = sorted_far (λ (x y : List ℕ). is_lt (kmer_cmp x y)) (ranks_by kmer_total (λ (x : List ℕ). x)) keys up i j [] le inside

-- what is not above a word that is below another one
pub below_too : (a b w : List ℕ) → is_lt (kmer_cmp b a) ≡ false → kmer_cmp b w ≡ Less → kmer_cmp a w ≡ Less
below_too a b w up less = go (kmer_cmp b a) refl
  where
    go : (o : Ordering) → kmer_cmp b a ≡ o → kmer_cmp a w ≡ Less
    go Less e = absurd (cc (ap is_lt e, up))
    go Equal e = sym (kmer_total.congr b a w e) ∙ less
    go Greater e = kmer_total.trans a b w (kmer_total.antisymm a b ∙ ap ordering_reverse e) less

-- what is not below a word that is above another one is not that one
pub apart_too : (a b w : List ℕ) → is_lt (kmer_cmp b a) ≡ false → kmer_cmp a w ≡ Greater → same_word w b ≡ false
apart_too a b w up more = go (same_word w b) refl
  where
    less : kmer_cmp w a ≡ Less
    less = kmer_total.antisymm w a ∙ ap ordering_reverse more

    go : (t : Bool) → same_word w b ≡ t → t ≡ false
    go false e = refl
    go true e = absurd (cc (ap is_lt (ap (λ (v : List ℕ). kmer_cmp v a) (sym (same_is w b e)) ∙ less), up))

-- a word is not one that is below it
pub apart_below : (a w : List ℕ) → kmer_cmp a w ≡ Less → same_word w a ≡ false
apart_below a w less = go (same_word w a) refl
  where
    go : (t : Bool) → same_word w a ≡ t → t ≡ false
    go false e = refl
    go true e = absurd (not_below_itself w (subst (λ v. kmer_cmp v w ≡ Less) (sym (same_is w a e)) less))

module _ (keys : List (List ℕ)) (up : IsSorted kmer_cmp keys) (w : List ℕ) (j : ℕ) (inside : j < length keys) where
  -- with a key those before it are below a word
  pub all_below : kmer_cmp (key_at keys j) w ≡ Less → AreBelow keys (j + 1) w
  all_below less i before = below_too (key_at keys i) (key_at keys j) w (no_lower keys up i j (omega arith) inside) less

  -- with a key those behind it are not a word that is below it
  pub all_apart : kmer_cmp (key_at keys j) w ≡ Greater → (i : ℕ) → j ≤ i → i < length keys → same_word w (key_at keys i) ≡ false
  all_apart more i behind within = apart_too (key_at keys j) (key_at keys i) w (no_lower keys up j i behind within) more

-- ---- counts that are noted at the keys before a place

module _ (keys : List (List ℕ)) (w : List ℕ) (count : ℕ) (before : List ℕ) where
  abbrev pub IsNotedAt : List ℕ → ℕ → Type 0
  IsNotedAt counts i = get_or counts i 0 ≡ cond (same_word w (key_at keys i)) count (get_or before i 0)

  pub noted_first : (from : ℕ) → AreBelow keys from w → (i : ℕ) → i < from → IsNotedAt before i
  noted_first from below i inside = sym (ap (λ b. cond b count (get_or before i 0)) (apart_below (key_at keys i) w (below i inside)))

  module _ (counts : List ℕ) (j : ℕ) (noted : (i : ℕ) → i < j → IsNotedAt counts i) (others : (i : ℕ) → j ≤ i → get_or counts i 0 ≡ get_or before i 0) where
    -- the next key is not the word
    pub noted_apart : same_word w (key_at keys j) ≡ false → (i : ℕ) → i < j + 1 → IsNotedAt counts i
    noted_apart apart i inside = go (cases_eq i j)
      where
        go : (i ≡ j) ⊎ (i ≡ j → ⊥) → IsNotedAt counts i
        go (inl same) =
            subst (IsNotedAt counts) (sym same) (others j (omega arith) ∙ sym (ap (λ b. cond b count (get_or before j 0)) apart))
        go (inr differ) = noted i (omega arith)

    -- it is the word
    pub noted_same : j < length counts → same_word w (key_at keys j) ≡ true → (i : ℕ) → i < j + 1 → IsNotedAt (set counts j count) i
    noted_same within same i inside = go (cases_eq i j)
      where
        go : (i ≡ j) ⊎ (i ≡ j → ⊥) → IsNotedAt (set counts j count) i
        go (inl is) =
            subst (IsNotedAt (set counts j count)) (sym is)
            (get_or-set_same counts j count 0 within ∙ sym (ap (λ b. cond b count (get_or before j 0)) same))
        go (inr differ) = get_or-set_other counts j i count 0 differ ∙ noted i (omega arith)

    pub others_same : (i : ℕ) → j + 1 ≤ i → get_or (set counts j count) i 0 ≡ get_or before i 0
    others_same i behind =
        let differ : i ≢ j = λ e. omega (arith, e, behind) in
        get_or-set_other counts j i count 0 differ ∙ others i (omega arith)

    -- no key behind is the word
    pub noted_all : ((i : ℕ) → j ≤ i → i < length keys → same_word w (key_at keys i) ≡ false) → (i : ℕ) → i < length keys → IsNotedAt counts i
    noted_all apart i inside = go (cases_order i j)
      where
        behind : j ≤ i → IsNotedAt counts i
        behind after = others i after ∙ sym (ap (λ b. cond b count (get_or before i 0)) (apart i after inside))

        go : (i ≡ j) ⊎ ((i < j) ⊎ (j < i)) → IsNotedAt counts i
        go (inl same) = behind (omega arith)
        go (inr (inl less)) = noted i less
        go (inr (inr above)) = behind (omega arith)

-- ---- a key that stands there is found

no_place : (j place : ℕ) → (j < place → ⊥) → (place ≤ j → ⊥) → ⊥
no_place j place before behind = go (cases_order j place)
  where
    go : (j ≡ place) ⊎ ((j < place) ⊎ (place < j)) → ⊥
    go (inl same) = behind (omega arith)
    go (inr (inl less)) = before less
    go (inr (inr above)) = behind (omega arith)

pub is_found : (keys : List (List ℕ)) (key : List ℕ) (place : ℕ) → IsSorted kmer_cmp keys → Contains keys key
    → IsBinarySearchResult (λ y. kmer_cmp y key) keys (Err place) → ⊥
is_found keys key place up there result =
    let parted = result (searchable_from_sorted kmer_total (λ (x : List ℕ). x) keys key up) in
    let equal : kmer_cmp (get_or keys there.0 key) key ≡ Equal = ap (λ (v : List ℕ). kmer_cmp v key) there.2 ∙ tied_itself kmer_total key in
    no_place there.0 place (λ less. cc (sym equal ∙ parted.0 there.0 key (omega arith) less)) (λ after. cc (sym equal ∙ parted.1 there.0 key after there.1))

-- a key that was read
pub key_is : (keys : List (List ℕ)) (j : ℕ) (x : List ℕ) → j < length keys → x ≡ get_or keys j x → key_at keys j ≡ x
key_is keys j x inside is = get_or_default keys j [] x inside ∙ sym is

-- the key of a word stands among the keys of all
pub key_stands : (f : List ℕ → List ℕ) (words : List (List ℕ)) (w : List ℕ) → Contains words w → Contains (map f words) (f w)
key_stands f words w there = (
  there.0,
  omega (arith, length-map words f, there.1),
  get_or-map f words there.0 w (f w) there.1 ∙ ap f there.2,
)
