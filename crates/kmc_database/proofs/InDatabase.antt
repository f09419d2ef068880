-- The rows of a first part, in the files of a database.
use Rattle.std.proofs.Common.{◌≡◌, ℕ, zero, suc, ◌+◌, ◌-◌, ◌*◌, ◌^◌, ◌<◌, ◌≤◌, ◌⊎◌, inl, inr, Bool, true, false, cond, nat_lt, List, [], ◌∷◌, ◌++◌, length, drop, refl, sym, ap, subst, ◌∙◌, arith, append_assoc, length-append, zero-add, add-zero}
use Rattle.std.proofs.lemmas.Bool.{ltb-true, ltb-false}
use Rattle.std.proofs.lemmas.Grind.{flat_map-append}
use Rattle.std.proofs.lemmas.List.{drop_at}
use Rattle.std.proofs.lemmas.List.Sums.{count_by-le-length, sum_by-cons, sum_by-append}
use Rattle.std.specs.List.{AllByRecursion, flat_map, range_with_len}
use Rattle.std.specs.List.Sorted.{IsStrictlySortedBy}
use Rattle.std.specs.declared.cmp.Ordering.TheVariants.{Less}
use Rattle.kmc_base.specs.Words.{kmer_cmp}
use Rattle.kmc_base.specs.Lemmas.Keys.{IsWord}
use Rattle.kmc_base.specs.Lemmas.Members.{Has}
use Rattle.kmc_count.specs.Dump.{words_of}
use Rattle.kmc_count.specs.Occurrences.{same_word}
use Rattle.kmc_sum.specs.Listed.{AreListed, IsPair}
use Rattle.kmc_sum.specs.Sum.{listed_count}
use Rattle.kmc_sum.specs.Lemmas.Listed.{none_listed}
use Rattle.kmc_database.specs.Files.{CountsFit, header_of, IsDatabase, limits_of, prefix_marker, prefix_start, strands_of, suffix_file, suffix_marker}
use Rattle.kmc_database.specs.Header.{IsHeaderOf}
use Rattle.kmc_database.specs.Layout.{IsLayout}
use Rattle.kmc_database.specs.LookedUp.{IsCountThere, IsHeaderIn}
use Rattle.kmc_database.specs.Numbers.{low_first}
use Rattle.kmc_database.specs.Part.{EndsPart, entry_place, IsEntry, IsPart, row_place}
use Rattle.kmc_database.specs.Rows.{AreBelow, first_part, number_below, row_of, rows_of, table_of}
use Rattle.kmc_database.specs.declared.form.Form.{Form}
use Rattle.kmc_database.specs.declared.layout.Layout.{Layout}
use Rattle.kmc_database.specs.declared.reading.Header.{Header}
use Rattle.kmc_database.specs.Lemmas.Bytes.{length_low}
use Rattle.kmc_database.proofs.Parts.{length_rows}
use Rattle.kmc_database.specs.Lemmas.Ranges.{spread_join}
use Rattle.kmc_database.proofs.ReadBack.{all_above, AreWordsFrom, length_header, none_below, one, one_header, part_small}
use Rattle.kmc_database.proofs.Tables.{number_all}

abbrev Pairs : Type 0
Pairs = List (List ℕ × ℕ)

-- ---- two lists, one behind the other

front_all : {X : Type 0} (P : X → Type 0) (a b : List X) → AllByRecursion P (a ++ b) → AllByRecursion P a
front_all P [] b h = tt
front_all P (x ∷ a) b h = (h.0, front_all P a b h.1)

back_all : {X : Type 0} (P : X → Type 0) (a b : List X) → AllByRecursion P (a ++ b) → AllByRecursion P b
back_all P [] b h = h
back_all P (x ∷ a) b h = back_all P a b h.1

both_all : {X : Type 0} (P Q R : X → Type 0) (xs : List X) → ((x : X) → P x → Q x → R x) → AllByRecursion P xs → AllByRecursion Q xs → AllByRecursion R xs
both_all P Q R [] f h g = tt
both_all P Q R (x ∷ xs) f h g = (f x h.0 g.0, both_all P Q R xs f h.1 g.1)

front_words : (P : List ℕ → Type 0) (a b : Pairs) → AllByRecursion P (words_of (a ++ b)) → AllByRecursion P (words_of a)
front_words P [] b h = tt
front_words P (p ∷ a) b h = (h.0, front_words P a b h.1)

front_rising : (a b : Pairs) → IsStrictlySortedBy kmer_cmp (words_of (a ++ b)) → IsStrictlySortedBy kmer_cmp (words_of a)
unfolding IsStrictlySortedBy
front_rising [] b h = tt
front_rising (p ∷ a) b h = (front_words (λ w. kmer_cmp p.0 w ≡ Less) a b h.0, front_rising a b h.1)

back_rising : (a b : Pairs) → IsStrictlySortedBy kmer_cmp (words_of (a ++ b)) → IsStrictlySortedBy kmer_cmp (words_of b)
unfolding IsStrictlySortedBy
back_rising [] b h = h
back_rising (p ∷ a) b h = back_rising a b h.1

module _ (l : Layout) (is : IsLayout l) where
  -- ---- the table

  abbrev entry : Pairs → ℕ → List ℕ
  entry pairs i = low_first 8 (number_below l pairs i)

  length_entries : (pairs : Pairs) (a n : ℕ) → length (flat_map (entry pairs) (range_with_len a n)) ≡ 8 * n
  length_entries pairs a zero = refl
  length_entries pairs a (suc n) =
      length-append (entry pairs a) (flat_map (entry pairs) (range_with_len (a + 1) n))
      ∙ (λ i. length_low 8 (number_below l pairs a) i + length_entries pairs (a + 1) n i) ∙ eight n
    where
      eight : (n : ℕ) → 8 + 8 * n ≡ 8 * suc n
      eight n = omega arith

  -- an entry stands in its place
  entry_there : (pairs : Pairs) (i m : ℕ) (behind bytes : List ℕ) → i + suc m ≡ 4 ^ l.prefix → bytes ≡ prefix_start l pairs ++ behind
      → (rest : List ℕ) × (entry pairs i ++ rest ≡ drop (entry_place i) bytes)
  entry_there pairs i m behind bytes inside e =
      let f = entry pairs in
      let front : List ℕ = flat_map f (range_with_len 0 i) in
      let more : List ℕ = flat_map f (range_with_len (0 + i + 1) m) in
      let table : table_of l pairs ≡ front ++ (f (0 + i) ++ more) =
      ap (λ n. flat_map f (range_with_len 0 n)) (sym inside) ∙ spread_join f 0 i (suc m) in
      let whole : bytes ≡ (prefix_marker ++ front) ++ ((f (0 + i) ++ more) ++ behind) =
      e ∙ ap (λ (t : List ℕ). (prefix_marker ++ t) ++ behind) table
      ∙ ap (λ (t : List ℕ). t ++ behind) (sym (append_assoc prefix_marker front (f (0 + i) ++ more)))
      ∙ append_assoc (prefix_marker ++ front) (f (0 + i) ++ more) behind in
      let long : length (prefix_marker ++ front) ≡ entry_place i = omega (arith, length-append prefix_marker front, length_entries pairs 0 i) in
      let none : 0 + i ≡ i = zero-add i in (
        more ++ behind,
        ap (λ (t : List ℕ). t ++ (more ++ behind)) (ap f (sym none)) ∙ sym (append_assoc (f (0 + i)) more behind)
            ∙ sym (drop_at (prefix_marker ++ front) ((f (0 + i) ++ more) ++ behind) (entry_place i) long) ∙ ap (drop (entry_place i)) (sym whole),
      )

  pub entry_is : (pairs : Pairs) (i : ℕ) (behind bytes : List ℕ) → length pairs < 2 ^ 64 → i < 4 ^ l.prefix → bytes ≡ prefix_start l pairs ++ behind
      → IsEntry bytes i (number_below l pairs i)
  entry_is pairs i behind bytes few inside e =
      let rest : i + suc (4 ^ l.prefix - i - 1) ≡ 4 ^ l.prefix = omega (arith, inside) in
      record {
        small = omega (arith, few, count_by-le-length (λ (p : List ℕ × ℕ). nat_lt (first_part l p.0) i) pairs);
        stands = entry_there pairs i (4 ^ l.prefix - i - 1) behind bytes rest e;
      }

  -- ---- the pairs before a first part, and those from it on

  pub record IsSplit (pairs : Pairs) (n : ℕ) : Type 0 where
    pub front : Pairs
    pub back : Pairs
    pub joined : front ++ back ≡ pairs
    pub long : length front ≡ number_below l pairs n
    pub below : AreBelow l n front
    pub from : AreWordsFrom l is n back

  split_more : (p : List ℕ × ℕ) (pairs : Pairs) (n : ℕ) → AreListed l.k (p ∷ pairs) → IsSplit pairs n → IsSplit (p ∷ pairs) n
  unfolding IsStrictlySortedBy
  split_more p pairs n listed rest = go (nat_lt (first_part l p.0) n) refl
    where
      go : (t : Bool) → nat_lt (first_part l p.0) n ≡ t → IsSplit (p ∷ pairs) n
      go true e =
          let less : first_part l p.0 < n = ltb-true (first_part l p.0) n e in
          let own : one l is n p ≡ 1 = ap (λ b. cond b 1 0) e in
          record {
            front = p ∷ rest.front;
            back = rest.back;
            joined = ap (λ (t : Pairs). p ∷ t) rest.joined;
            long = omega (arith, rest.long, own, sum_by-cons (one l is n) p pairs);
            below = (less, rest.below);
            from = rest.from;
          }
      go false e =
          let least : n ≤ first_part l p.0 = ltb-false (first_part l p.0) n e in
          let all : AreWordsFrom l is n (p ∷ pairs) =
          (least, all_above l is p pairs n least listed.each.0.word listed.each.1 listed.rising.0) in
          record {
            front = [];
            back = p ∷ pairs;
            joined = refl;
            long = sym (none_below l is n (p ∷ pairs) all);
            below = tt;
            from = all;
          }

  pub split_at : (pairs : Pairs) (n : ℕ) → AllByRecursion (IsPair l.k) pairs → IsStrictlySortedBy kmer_cmp (words_of pairs) → IsSplit pairs n
  unfolding IsStrictlySortedBy
  split_at [] n each up = record { front = []; back = []; joined = refl; long = refl; below = tt; from = tt }
  split_at (p ∷ pairs) n each up = split_more p pairs n (record { each = each; rising = up }) (split_at pairs n each.1 up.1)

  -- words of other first parts
  none_there : (pairs : Pairs) (w : List ℕ) → AllByRecursion (λ p. first_part l p.0 ≡ first_part l w → ⊥) pairs → listed_count pairs w ≡ 0
  none_there pairs w other = none_listed w pairs (has_none pairs other)
    where
      has_none : (ps : Pairs) → AllByRecursion (λ p. first_part l p.0 ≡ first_part l w → ⊥) ps → Has w (words_of ps) → ⊥
      has_none [] h m = absurd m
      has_none (p ∷ ps) h (inl e) = h.0 (ap (first_part l) e)
      has_none (p ∷ ps) h (inr m) = has_none ps h.1 m

  none_before : (pairs : Pairs) (w : List ℕ) (n : ℕ) → n ≤ first_part l w → AreBelow l n pairs → listed_count pairs w ≡ 0
  none_before pairs w n up below = none_there pairs w (go pairs below)
    where
      go : (ps : Pairs) → AreBelow l n ps → AllByRecursion (λ p. first_part l p.0 ≡ first_part l w → ⊥) ps
      go [] h = tt
      go (p ∷ ps) h = ((λ e. absurd (omega (arith, e, h.0, up))), go ps h.1)

  none_behind : (pairs : Pairs) (w : List ℕ) (n : ℕ) → first_part l w < n → AreWordsFrom l is n pairs → listed_count pairs w ≡ 0
  none_behind pairs w n up from = none_there pairs w (go pairs from)
    where
      go : (ps : Pairs) → AreWordsFrom l is n ps → AllByRecursion (λ p. first_part l p.0 ≡ first_part l w → ⊥) ps
      go [] h = tt
      go (p ∷ ps) h = ((λ e. absurd (omega (arith, e, h.0, up))), go ps h.1)

  below_all : (pairs : Pairs) → AllByRecursion (IsPair l.k) pairs → AreBelow l (4 ^ l.prefix) pairs
  below_all [] each = tt
  below_all (p ∷ pairs) each = (part_small l is p.0 each.0.word, below_all pairs each.1)

  below_up : (n m : ℕ) (pairs : Pairs) → n ≤ m → AreBelow l n pairs → AreBelow l m pairs
  below_up n m [] up h = tt
  below_up n m (p ∷ pairs) up h = (omega (arith, h.0, up), below_up n m pairs up h.1)

  parts_equal : (n : ℕ) (pairs : Pairs) → AreWordsFrom l is n pairs → AreBelow l (n + 1) pairs → AllByRecursion (λ p. first_part l p.0 ≡ n) pairs
  parts_equal n [] from below = tt
  parts_equal n (p ∷ pairs) from below = (omega (arith, from.0, below.0), parts_equal n pairs from.1 below.1)

  module _ (pairs : Pairs) (listed : AreListed l.k pairs) (fit : CountsFit l pairs) (w : List ℕ) where
    abbrev lower : IsSplit pairs (first_part l w)
    lower = split_at pairs (first_part l w) listed.each listed.rising

    each_back : AllByRecursion (IsPair l.k) lower.back
    each_back = back_all (IsPair l.k) lower.front lower.back (subst (AllByRecursion (IsPair l.k)) (sym lower.joined) listed.each)

    rising_back : IsStrictlySortedBy kmer_cmp (words_of lower.back)
    rising_back =
        back_rising lower.front lower.back (subst (λ (t : Pairs). IsStrictlySortedBy kmer_cmp (words_of t)) (sym lower.joined) listed.rising)

    fit_back : CountsFit l lower.back
    fit_back = back_all (λ p. p.1 < 256 ^ l.counter) lower.front lower.back (subst (CountsFit l) (sym lower.joined) fit)

    abbrev upper : IsSplit lower.back (first_part l w + 1)
    upper = split_at lower.back (first_part l w + 1) each_back rising_back

    number_upper : number_below l pairs (first_part l w + 1) ≡ length lower.front + length upper.front
    number_upper =
        ap (λ (t : Pairs). number_below l t (first_part l w + 1)) (sym lower.joined)
        ∙ sum_by-append (one l is (first_part l w + 1)) lower.front lower.back
        ∙ (λ i. number_all l lower.front (first_part l w) (first_part l w + 1) lower.below (omega arith) i + sym upper.long i)

    count_upper : listed_count pairs w ≡ listed_count upper.front w
    count_upper =
        let f = λ (p : List ℕ × ℕ). cond (same_word p.0 w) p.1 0 in
        let before : listed_count lower.front w ≡ 0 = none_before lower.front w (first_part l w) (omega arith) lower.below in
        let behind : listed_count upper.back w ≡ 0 = none_behind upper.back w (first_part l w + 1) (omega arith) upper.from in
        ap (λ (t : Pairs). listed_count t w) (sym lower.joined)
        ∙ sum_by-append f lower.front lower.back
        ∙ (λ i. before i + listed_count lower.back w)
        ∙ zero-add (listed_count lower.back w)
        ∙ ap (λ (t : Pairs). listed_count t w) (sym upper.joined)
        ∙ sum_by-append f upper.front upper.back
        ∙ (λ i. listed_count upper.front w + behind i)
        ∙ add-zero (listed_count upper.front w)

    rows_upper : (rest : List ℕ) × (rows_of l upper.front ++ rest ≡ drop (row_place l (length lower.front)) (suffix_file l pairs))
    rows_upper =
        let a = rows_of l lower.front in
        let b = rows_of l upper.front in
        let c = rows_of l upper.back in
        let cut : rows_of l pairs ≡ a ++ (b ++ c) =
        ap (rows_of l) (sym lower.joined) ∙ flat_map-append (row_of l) lower.front lower.back
        ∙ ap (λ (t : List ℕ). a ++ t) (ap (rows_of l) (sym upper.joined) ∙ flat_map-append (row_of l) upper.front upper.back) in
        let whole : suffix_file l pairs ≡ (suffix_marker ++ a) ++ ((b ++ c) ++ suffix_marker) =
        ap (λ (t : List ℕ). (suffix_marker ++ t) ++ suffix_marker) cut
        ∙ ap (λ (t : List ℕ). t ++ suffix_marker) (sym (append_assoc suffix_marker a (b ++ c)))
        ∙ append_assoc (suffix_marker ++ a) (b ++ c) suffix_marker in
        let each = front_all (IsPair l.k) lower.front lower.back (subst (AllByRecursion (IsPair l.k)) (sym lower.joined) listed.each) in
        let long : length (suffix_marker ++ a) ≡ row_place l (length lower.front) =
        length-append suffix_marker a ∙ ap (λ n. 4 + n) (length_rows l is lower.front each) in (
          c ++ suffix_marker,
          sym (append_assoc b c suffix_marker)
              ∙ sym (drop_at (suffix_marker ++ a) ((b ++ c) ++ suffix_marker) (row_place l (length lower.front)) long)
              ∙ ap (drop (row_place l (length lower.front))) (sym whole),
        )

    part_is_there : (bytes : List ℕ) → bytes ≡ suffix_file l pairs
        → IsPart l (first_part l w) bytes (number_below l pairs (first_part l w)) (number_below l pairs (first_part l w + 1)) upper.front
    part_is_there bytes e =
        let each = front_all (IsPair l.k) upper.front upper.back (subst (AllByRecursion (IsPair l.k)) (sym upper.joined) each_back) in
        let from = front_all (λ p. first_part l w ≤ first_part l p.0) upper.front upper.back
        (subst (AreWordsFrom l is (first_part l w)) (sym upper.joined) lower.from) in
        record {
          listed = record {
            each = each;
            rising = front_rising upper.front upper.back
                (subst (λ (t : Pairs). IsStrictlySortedBy kmer_cmp (words_of t)) (sym upper.joined) rising_back);
          };
          fit = front_all (λ p. p.1 < 256 ^ l.counter) upper.front upper.back (subst (CountsFit l) (sym upper.joined) fit_back);
          first = parts_equal (first_part l w) upper.front from upper.below;
          count = omega (arith, number_upper, lower.long);
          rows = (
            rows_upper.0,
            rows_upper.1 ∙ (λ i. drop (row_place l (lower.long i)) (sym e i)),
          );
        }

less_or_equal : {P Q : Type 0} (n m : ℕ) → (n < m → P) → (n ≡ m → Q) → n ≤ m → (P × (n < m)) ⊎ ((n ≡ m) × Q)
less_or_equal {P = P} {Q = Q} n m p q up = go (nat_lt n m) refl
  where
    go : (t : Bool) → nat_lt n m ≡ t → (P × (n < m)) ⊎ ((n ≡ m) × Q)
    go true e = let less = ltb-true n m e in inl (p less, less)
    go false e =
        let most : m ≤ n = ltb-false n m e in
        let same : n ≡ m = omega (arith, up, most) in
        inr (same, q same)

-- the count in the rows of its first part is that of the list
pub listed_there : (f : Form) (pairs : Pairs) (prefix suffix : List ℕ) → IsDatabase f pairs prefix suffix → (h : Header) → h.layout ≡ f.layout
    → h.rows ≡ length pairs → (w : List ℕ) → IsWord f.layout.k w → (count : ℕ) → IsCountThere h prefix suffix w count → count ≡ listed_count pairs w
listed_there f pairs prefix suffix d h layout rows w word count there =
    let l = f.layout in
    let is = d.layout in
    let part = first_part l w in
    let small : part < 4 ^ l.prefix = part_small l is w word in
    let g : Header = record { layout = l; rows = length pairs } in
    let same : h ≡ g = (λ i. record { layout = layout i; rows = rows i }) in
    let there' : IsCountThere g prefix suffix w count = subst (λ (m : Header). IsCountThere m prefix suffix w count) same there in
    let behind : List ℕ = header_of l (length pairs) (limits_of f) (strands_of f) in
    let from = entry_is l is pairs part behind prefix d.few small d.prefix in
    let to : EndsPart g part prefix (number_below l pairs (part + 1)) = less_or_equal (part + 1) (4 ^ l.prefix)
    (λ inside. entry_is l is pairs (part + 1) behind prefix d.few inside d.prefix)
    (λ e. number_all l pairs (4 ^ l.prefix) (part + 1) (below_all l is pairs d.listed.each) (omega (arith, e))) (omega (arith, small)) in
    there' (number_below l pairs part) (number_below l pairs (part + 1)) (upper l is pairs d.listed d.fit w).front from to
    (part_is_there l is pairs d.listed d.fit w suffix d.suffix)
    ∙ sym (count_upper l is pairs d.listed d.fit w)

-- the header at the end of the prefix file tells its layout and how many rows there are
pub header_end : (f : Form) (pairs : Pairs) (prefix suffix : List ℕ) → IsDatabase f pairs prefix suffix
    → drop (length prefix - 72) prefix ≡ header_of f.layout (length pairs) (limits_of f) (strands_of f)
header_end f pairs prefix suffix d =
    let l = f.layout in
    let start : List ℕ = prefix_start l pairs in
    let header : List ℕ = header_of l (length pairs) (limits_of f) (strands_of f) in
    let long : length header ≡ 72 = length_header l (length pairs) (limits_of f) (strands_of f) refl refl in
    let before : length start ≡ length prefix - 72 = omega (arith, long, length-append start header, ap length d.prefix) in
    ap (drop (length prefix - 72)) d.prefix ∙ drop_at start header (length prefix - 72) before

pub header_there : (f : Form) (pairs : Pairs) (prefix suffix : List ℕ) → IsDatabase f pairs prefix suffix → (h : Header) → IsHeaderIn prefix h
    → h ≡ record { layout = f.layout; rows = length pairs }
header_there f pairs prefix suffix d h is =
    let l = f.layout in
    let header : List ℕ = header_of l (length pairs) (limits_of f) (strands_of f) in
    let there = header_end f pairs prefix suffix d in
    one_header header h (record { layout = l; rows = length pairs }) (subst (λ (t : List ℕ). IsHeaderOf t h) there is) (record {
      layout = d.layout;
      few = d.few;
      limits = limits_of f;
      limits_long = refl;
      strands = strands_of f;
      strands_long = refl;
      is = refl;
    })

-- what was looked up is what the database lists
pub listed_in : (f : Form) (pairs : Pairs) (prefix suffix : List ℕ) → IsDatabase f pairs prefix suffix → (h : Header) → IsHeaderIn prefix h
    → (w : List ℕ) → IsWord h.layout.k w → (count : ℕ) → IsCountThere h prefix suffix w count → count ≡ listed_count pairs w
listed_in f pairs prefix suffix d h is w word count there =
    let same = header_there f pairs prefix suffix d h is in
    listed_there f pairs prefix suffix d h (ap (λ (m : Header). m.layout) same) (ap (λ (m : Header). m.rows) same) w
    (subst (λ (m : Header). IsWord m.layout.k w) same word) count there
