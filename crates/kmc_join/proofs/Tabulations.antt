-- A tally of the counts of words in two dumps, one word after the other, and the table that it is.
use Rattle.std.proofs.Common.{◌≡◌, ℕ, zero, suc, ◌+◌, ◌<◌, ◌≤◌, inl, inr, Bool, true, false, cond, min, List, [], ◌∷◌, ◌++◌, length, map, Option, Result, Ok, Err, BTreeMap, refl, sym, ap, subst, ◌∙◌, arith, add-zero}
use Rattle.std.specs.Prelude.{◌==◌, ◌&&◌}
use Rattle.std.specs.BTreeMap.{IsEmpty, IsOrdered}
use Rattle.std.specs.Cmp.{IsTotalOrder}
use Rattle.std.specs.List.{AllByRecursion, Contains}
use Rattle.std.specs.List.Sorted.{IsStrictlySortedBy}
use Rattle.std.specs.Ordering.{eq_by_cmp, is_eq, nat_cmp, ordering_then}
use Rattle.std.specs.Result.{IsErrAnd}
use Rattle.std.specs.declared.cmp.Ordering.{Ordering}
use Rattle.std.specs.declared.cmp.Ordering.TheVariants.{Less, Equal, Greater}
use Rattle.std.proofs.lemmas.Cmp.{nat_cmp_total, then_total, on_total}
use Rattle.std.proofs.lemmas.List.{map-append}
use Rattle.std.proofs.lemmas.List.Elements.{Contains-append_left, Contains-push}
use Rattle.std.proofs.lemmas.List.Sums.{sum_by-append, sum_by-cons}
use Rattle.std.proofs.lemmas.Map.Lookups.{exact_pairs, exact_unsigned}
use Rattle.kmc_base.specs.Lemmas.Members.{Has}
use Rattle.kmc_base.specs.Packed.{unpack}
use Rattle.kmc_base.specs.Words.{kmer_cmp}
use Rattle.kmc_count.specs.Lemmas.Listing.{same_is}
use Rattle.kmc_count.specs.Lemmas.OneDump.{not_below_itself}
use Rattle.kmc_count.specs.Occurrences.{same_word}
use Rattle.kmc_device.specs.Device.{Watched}
use Rattle.kmc_sum.specs.Listed.{IsLength}
use Rattle.kmc_sum.specs.Sources.{failures_of, lefts_of, list_at, no_lists}
use Rattle.kmc_sum.specs.Sum.{listed_count}
use Rattle.kmc_sum.specs.Lemmas.Beginnings.{list_none}
use Rattle.kmc_sum.specs.Lemmas.Taken.{GaveLists}
use Rattle.kmc_sum.specs.Lemmas.Tallies.{rising_none}
use Rattle.kmc_sum.specs.declared.error.SumError.{SumError}
use Rattle.kmc_sum.specs.declared.error.SumError.TheVariants.{Source, Write, Memory, TooLong}
use Rattle.kmc_sum.specs.declared.heads.Head.{Head}
use Rattle.kmc_sum.specs.declared.source.Room.{Room}
use Rattle.kmc_join.specs.Rows.{CountsOneMore, HasNoZero, number_of}
use Rattle.kmc_join.specs.Table.{AreBeside, IsTable, counts_cmp, number_of_both}
use Rattle.kmc_join.specs.Tabulation.{IsTableAnswer, IsTableCause, IsTableTally, IsTabulated}
use Rattle.kmc_join.specs.Taking.{AreAbreast, IsTaken, count_in}
use Rattle.kmc_join.specs.Tally.{IsTallyCause}
use Rattle.kmc_join.specs.declared.taking.CountedWord.{CountedWord}
use Rattle.kmc_join.proofs.Numbering.{nat_eq_by_cmp, none_seen, numbered_is, rising_end}
use Rattle.kmc_join.proofs.Steps.{counts_kept, counts_taken, gave_text}

-- ---- the table of a map

counts_total : IsTotalOrder counts_cmp
counts_total = then_total (on_total (λ (c : ℕ × ℕ). c.0) nat_cmp_total) (on_total (λ (c : ℕ × ℕ). c.1) nat_cmp_total)

then_eq : (o p : Ordering) → is_eq (ordering_then o p) ≡ is_eq o && is_eq p
then_eq Less p = refl
then_eq Equal p = refl
then_eq Greater p = refl

counts_eq : (c d : ℕ × ℕ) → eq_by_cmp counts_cmp c d ≡ (c.0 == d.0) && (c.1 == d.1)
counts_eq c d = then_eq (nat_cmp c.0 d.0) (nat_cmp c.1 d.1) ∙ (λ i. nat_eq_by_cmp c.0 d.0 i && nat_eq_by_cmp c.1 d.1 i)

pub table_is : (cap : ℕ) (tally : BTreeMap (ℕ × ℕ) ℕ) (words : List (List ℕ × ℕ × ℕ)) → IsOrdered counts_cmp tally → HasNoZero counts_cmp tally
    → ((c : ℕ × ℕ) → number_of counts_cmp tally c ≡ number_of_both cap words c) → IsTable cap words tally.entries
table_is cap tally words ordered sound counts =
    numbered_is counts_cmp (exact_pairs nat_cmp nat_cmp exact_unsigned exact_unsigned) counts_total tally (number_of_both cap words) ordered sound counts

-- ---- one word more

module _ (k : ℕ) (starts nows : List (Option (List ℕ))) (rooms : List Room) (heads : List Head) (lists : List (List (List ℕ × ℕ))) (w : CountedWord)
    (taken : IsTaken k starts nows rooms heads lists w) where
  abbrev word : List ℕ
  word = unpack k w.packed

  abbrev row : List ℕ × ℕ × ℕ
  row = (word, count_in w 0, count_in w 1)

  abbrev Right : List (List (List ℕ × ℕ)) → List ℕ × ℕ × ℕ → Type 0
  Right ls v = (v.1 ≡ listed_count (list_at ls 0) v.0) × (v.2 ≡ listed_count (list_at ls 1) v.0) × (1 ≤ v.1 + v.2)

  -- each word so far is below this one
  below_word : (y : List ℕ) (vs : List (List ℕ × ℕ × ℕ)) → AllByRecursion (Right lists) vs → Has y (map (λ v. v.0) vs) → kmer_cmp y word ≡ Less
  below_word y [] h m = absurd m
  below_word y (v ∷ vs) h (inl e) = subst (λ z. kmer_cmp z word ≡ Less) e (here v.1 v.2 h.0.0 h.0.1 h.0.2)
    where
      here : (a b : ℕ) → a ≡ listed_count (list_at lists 0) v.0 → b ≡ listed_count (list_at lists 1) v.0 → 1 ≤ a + b → kmer_cmp v.0 word ≡ Less
      here zero b ea eb some = taken.above 1 v.0 (omega arith) (omega (arith, eb, some))
      here (suc a) b ea eb some = taken.above 0 v.0 (omega arith) (omega (arith, ea))
  below_word y (v ∷ vs) h (inr m) = below_word y vs h.1 m

  other_word : (y : List ℕ) → kmer_cmp y word ≡ Less → same_word word y ≡ false
  other_word y less = go (same_word word y) refl
    where
      go : (b : Bool) → same_word word y ≡ b → b ≡ false
      go false e = refl
      go true e = absurd (not_below_itself word (subst (λ z. kmer_cmp z word ≡ Less) (sym (same_is word y e)) less))

  right_still : (vs : List (List ℕ × ℕ × ℕ)) → ((y : List ℕ) → Has y (map (λ v. v.0) vs) → kmer_cmp y word ≡ Less) → AllByRecursion (Right lists) vs
      → AllByRecursion (Right taken.after) (vs ++ row ∷ [])
  right_still [] below h = (
    (
      sym (counts_taken k starts nows rooms heads lists w taken 0 (omega arith)),
      sym (counts_taken k starts nows rooms heads lists w taken 1 (omega arith)),
      taken.some,
    ),
    tt,
  )
  right_still (v ∷ vs) below h =
      let other = other_word v.0 (below v.0 (inl refl)) in (
        (
          h.0.0 ∙ sym (counts_kept k starts nows rooms heads lists w taken 0 v.0 (omega arith) other),
          h.0.1 ∙ sym (counts_kept k starts nows rooms heads lists w taken 1 v.0 (omega arith) other),
          h.0.2,
        ),
        right_still vs (λ y m. below y (inr m)) h.1,
      )

  pub beside_more : (words : List (List ℕ × ℕ × ℕ)) → AreBeside (list_at lists 0) (list_at lists 1) words
      → AreBeside (list_at taken.after 0) (list_at taken.after 1) (words ++ row ∷ [])
  beside_more words beside = record {
    rising = subst (IsStrictlySortedBy kmer_cmp) (sym (map-append (λ (v : List ℕ × ℕ × ℕ). v.0) words (row ∷ [])))
        (rising_end kmer_cmp word (map (λ v. v.0) words) beside.rising (λ y m. below_word y words beside.each m));
    each = right_still words (λ y m. below_word y words beside.each m) beside.each;
    all = λ y some. subst (λ (t : List (List ℕ)). Contains t y) (sym (map-append (λ (v : List ℕ × ℕ × ℕ). v.0) words (row ∷ []))) (within y some);
  }
    where
      within : (y : List ℕ) → 1 ≤ listed_count (list_at taken.after 0) y + listed_count (list_at taken.after 1) y
          → Contains (map (λ v. v.0) words ++ word ∷ []) y
      within y some = go (same_word word y) refl
        where
          go : (b : Bool) → same_word word y ≡ b → Contains (map (λ v. v.0) words ++ word ∷ []) y
          go true e = subst (λ z. Contains (map (λ v. v.0) words ++ word ∷ []) z) (same_is word y e) (Contains-push (map (λ v. v.0) words) word)
          go false e = Contains-append_left (map (λ v. v.0) words) (word ∷ []) y (beside.all y (omega (
            arith,
            some,
            counts_kept k starts nows rooms heads lists w taken 0 y (omega arith) e,
            counts_kept k starts nows rooms heads lists w taken 1 y (omega arith) e,
          )))

  pub number_more : (cap : ℕ) (words : List (List ℕ × ℕ × ℕ)) (c : ℕ × ℕ) → number_of_both cap (words ++ row ∷ []) c
      ≡ number_of_both cap words c + cond (eq_by_cmp counts_cmp (min (count_in w 0) cap, min (count_in w 1) cap) c) 1 0
  number_more cap words c =
      let one = λ (v : List ℕ × ℕ × ℕ). cond ((min v.1 cap == c.0) && (min v.2 cap == c.1)) 1 0 in
      sum_by-append one words (row ∷ [])
      ∙ ap (λ m. number_of_both cap words c + m) (sum_by-cons one row [] ∙ add-zero (one row))
      ∙ ap (λ b. number_of_both cap words c + cond b 1 0) (sym (counts_eq (min (count_in w 0) cap, min (count_in w 1) cap) c))

pub tabulated_start : (k cap : ℕ) (starts nows : List (Option (List ℕ))) (rooms : List Room) (heads : List Head) (tally : BTreeMap (ℕ × ℕ) ℕ)
    → length starts ≡ 2 → IsEmpty tally → AreAbreast k starts nows rooms heads (no_lists starts) → IsTabulated k cap starts nows rooms heads 0 tally
tabulated_start k cap starts nows rooms heads tally two empty abreast = record {
  lists = no_lists starts;
  abreast = abreast;
  many = omega arith;
  words = [];
  beside = record {
    rising = rising_none;
    each = tt;
    all = λ x some. absurd (omega (arith, some, none 0 x (omega arith), none 1 x (omega arith)));
  };
  counts = λ c. none_seen counts_cmp tally empty c;
}
  where
    none : (i : ℕ) (x : List ℕ) → i < 2 → listed_count (list_at (no_lists starts) i) x ≡ 0
    none i x few = ap (λ (ps : List (List ℕ × ℕ)). listed_count ps x) (list_none starts i (omega (arith, few, two)))

pub tabulated_next : (k cap : ℕ) (starts nows nows' : List (Option (List ℕ))) (rooms rooms' : List Room) (heads heads' : List Head) (steps : ℕ)
    (old new : BTreeMap (ℕ × ℕ) ℕ) (w : CountedWord) (so : IsTabulated k cap starts nows rooms heads steps old)
    → IsTaken k starts nows' rooms' heads' so.lists w → CountsOneMore counts_cmp old new (min (count_in w 0) cap, min (count_in w 1) cap)
    → IsTabulated k cap starts nows' rooms' heads' (steps + 1) new
tabulated_next k cap starts nows nows' rooms rooms' heads heads' steps old new w so taken more = record {
  lists = taken.after;
  abreast = taken.abreast;
  many = omega (arith, so.many, taken.more);
  words = so.words ++ (unpack k w.packed, count_in w 0, count_in w 1) ∷ [];
  beside = beside_more k starts nows' rooms' heads' so.lists w taken so.words so.beside;
  counts = λ c. more.counts c
      ∙ ap (λ m. m + cond (eq_by_cmp counts_cmp (min (count_in w 0) cap, min (count_in w 1) cap) c) 1 0) (so.counts c)
      ∙ sym (number_more k starts nows' rooms' heads' so.lists w taken cap so.words c);
}

pub whole_table : (k cap : ℕ) (starts nows : List (Option (List ℕ))) (rooms : List Room) (heads : List Head) (steps : ℕ) (tally : BTreeMap (ℕ × ℕ) ℕ)
    → IsLength k → length starts ≡ 2 → (so : IsTabulated k cap starts nows rooms heads steps tally) → GaveLists k starts nows so.lists
    → IsTableTally cap starts nows tally
whole_table k cap starts nows rooms heads steps tally long two so gave =
    let one : 0 < length starts = omega (arith, two) in
    let other : 1 < length starts = omega (arith, two) in
    record {
      left = list_at so.lists 0;
      right = list_at so.lists 1;
      gave = record {
        first = _;
        second = _;
        first_gave = gave_text k starts nows so.lists gave 0 one;
        second_gave = gave_text k starts nows so.lists gave 1 other;
        k = k;
        long = long;
        first_lists = record { listed = (gave.each 0 one).0.listed; lines = refl };
        second_lists = record { listed = (gave.each 1 other).0.listed; lines = refl };
      };
      words = so.words;
      beside = so.beside;
      counts = so.counts;
    }

-- ---- given up before anything is written

cause_of : {W : Type 0} (contents : W → Option (List ℕ)) (cap : ℕ) (starts nows : List (Option (List ℕ))) (olds news : List ℕ) (writer : Watched W)
    (e : SumError) → IsTallyCause starts nows olds news e → IsTableCause contents cap starts nows olds news writer writer e
cause_of contents cap starts nows olds news writer (Source e) h = (h, refl)
cause_of contents cap starts nows olds news writer Write h = absurd h
cause_of contents cap starts nows olds news writer Memory h = refl
cause_of contents cap starts nows olds news writer TooLong h = (h, refl)

pub table_given_up : {R W A : Type 0} (remaining : R → Option (List ℕ)) (contents : W → Option (List ℕ)) (cap : ℕ) (starts : List (Option (List ℕ)))
    (readers read : List (Watched R)) (writer : Watched W) (answer : Result A SumError) (e : SumError) (olds : List ℕ) → IsErrAnd answer (λ x. x ≡ e)
    → olds ≡ failures_of readers → IsTallyCause starts (lefts_of remaining read) olds (failures_of read) e
    → IsTableAnswer remaining contents cap starts readers read writer writer answer
table_given_up remaining contents cap starts readers read writer (Ok x) e olds made same h = absurd made
table_given_up remaining contents cap starts readers read writer (Err d) e olds made same h = record {
  ok = tt;
  sound = tt;
  cause = subst (IsTableCause contents cap starts (lefts_of remaining read) (failures_of readers) (failures_of read) writer writer) (sym made)
      (cause_of contents cap starts (lefts_of remaining read) (failures_of readers) (failures_of read) writer e
      (subst (λ (l : List ℕ). IsTallyCause starts (lefts_of remaining read) l (failures_of read) e) same h));
}
