-- A word is taken from the sources that have it.
use Rattle.std.proofs.Common.{◌≡◌, ℕ, zero, suc, ◌+◌, ◌*◌, ◌<◌, ◌≤◌, ◌^◌, ◌⊎◌, inl, inr, Bool, true, false, cond, List, [], ◌∷◌, ◌++◌, length, get_or, set, Option, refl, sym, ap, subst, ◌∙◌, arith, add-zero, length-append}
use Rattle.std.specs.List.{sum_by}
use Rattle.std.specs.declared.cmp.Ordering.TheVariants.{Less}
use Rattle.std.proofs.lemmas.Bool.{cases_eq}
use Rattle.std.proofs.lemmas.List.{get_or-set_other, get_or-set_same, length-set}
use Rattle.std.proofs.lemmas.List.Sums.{sum_by-cons, sum_by-append, sum_by-set}
use Rattle.kmc_base.specs.Words.{kmer_cmp}
use Rattle.kmc_base.specs.Packed.{unpack}
use Rattle.kmc_count.specs.Lemmas.Listing.{kmer_total, same_is, same_itself}
use Rattle.kmc_count.specs.Lemmas.OneDump.{not_below_itself}
use Rattle.kmc_count.specs.Occurrences.{same_word}
use Rattle.kmc_lists.specs.Line.{text_of}
use Rattle.kmc_sum.specs.Faults.{GaveFront}
use Rattle.kmc_sum.specs.Heads.{rank, head_at, pending, IsTree}
use Rattle.kmc_sum.specs.Sources.{AreReady, AreSources, GaveFronts, IsSource, left_at, list_at, with_first}
use Rattle.kmc_sum.specs.Sum.{listed_count}
use Rattle.kmc_sum.specs.Lemmas.Advances.{first_inside, first_leaf, first_fits, source_first}
use Rattle.kmc_sum.specs.Lemmas.Gave.{gave_fewer, less_packed}
use Rattle.kmc_sum.specs.Lemmas.Taken.{room_of}
use Rattle.kmc_sum.specs.declared.heads.Head.{Head}
use Rattle.kmc_sum.specs.declared.source.Room.{Room}
use Rattle.kmc_join.specs.Taking.{AreAbreast, IsAbove, IsTaken}
use Rattle.kmc_join.proofs.Numbers.{head_apart, head_some}

-- ---- the pair of the first head is added to its list

module _ (k : ℕ) (heads : List Head) (lists : List (List (List ℕ × ℕ))) (live : (head_at heads 1).live ≡ true)
    (inside : (head_at heads 1).source < length lists) where
  abbrev s : ℕ
  s = (head_at heads 1).source

  abbrev pair : List ℕ × ℕ
  pair = (unpack k (head_at heads 1).packed, (head_at heads 1).count)

  is_own : list_at (with_first k heads lists) s ≡ list_at lists s ++ pair ∷ []
  is_own = get_or-set_same lists s _ [] inside ∙ ap (λ b. list_at lists s ++ cond b (pair ∷ []) []) live

  pub list_other : (i : ℕ) → (i ≡ s → ⊥) → list_at (with_first k heads lists) i ≡ list_at lists i
  list_other i differ = get_or-set_other lists s i _ [] differ

  pub count_own : (y : List ℕ) → listed_count (list_at (with_first k heads lists) s) y
      ≡ listed_count (list_at lists s) y + cond (same_word pair.0 y) pair.1 0
  count_own y =
      let one = λ (q : List ℕ × ℕ). cond (same_word q.0 y) q.1 0 in
      ap (λ (ps : List (List ℕ × ℕ)). listed_count ps y) is_own ∙ sum_by-append one (list_at lists s) (pair ∷ [])
      ∙ ap (λ m. listed_count (list_at lists s) y + m) (sum_by-cons one pair [] ∙ add-zero (one pair))

  -- one line more
  pub one_longer : sum_by length lists + 1 ≡ sum_by length (with_first k heads lists)
  one_longer =
      let more = list_at lists s ++ pending k (head_at heads 1) in
      let is : more ≡ list_at lists s ++ pair ∷ [] = ap (λ b. list_at lists s ++ cond b (pair ∷ []) []) live in
      let one : length more ≡ length (list_at lists s) + 1 = ap length is ∙ length-append (list_at lists s) (pair ∷ []) in
      omega (arith, one, sum_by-set length lists s more [] inside)

-- what was given with a line more
pub fronts_fewer : (k : ℕ) (starts nows : List (Option (List ℕ))) (heads : List Head) (lists : List (List (List ℕ × ℕ)))
    → (head_at heads 1).source < length lists → GaveFronts k starts nows (with_first k heads lists) → GaveFronts k starts nows lists
fronts_fewer k starts nows heads lists inside gave = record {
  lists_long = sym (length-set lists s more) ∙ gave.lists_long;
  each = λ i within. at i within (cases_eq i s);
}
  where
    s : ℕ
    s = (head_at heads 1).source

    more : List (List ℕ × ℕ)
    more = list_at lists s ++ pending k (head_at heads 1)

    at : (i : ℕ) → i < length starts → (i ≡ s) ⊎ (i ≡ s → ⊥) → (rest : List ℕ) × GaveFront k (left_at starts i) (left_at nows i) (list_at lists i) rest
    at i within (inl e) =
        let here = gave.each i within in
        let own : list_at (with_first k heads lists) i ≡ list_at lists i ++ pending k (head_at heads 1) =
        ap (λ j. list_at (with_first k heads lists) j) e ∙ get_or-set_same lists s more [] inside
        ∙ ap (λ j. list_at lists j ++ pending k (head_at heads 1)) (sym e) in (
          text_of (pending k (head_at heads 1)) ++ here.0,
          gave_fewer k (left_at starts i) (left_at nows i) (list_at lists i) (pending k (head_at heads 1)) here.0
              (subst (λ (t : List (List ℕ × ℕ)). GaveFront k (left_at starts i) (left_at nows i) t here.0) own here.1),
        )
    at i within (inr differ) =
        let here = gave.each i within in (
          here.0,
          subst (λ (t : List (List ℕ × ℕ)). GaveFront k (left_at starts i) (left_at nows i) t here.0) (get_or-set_other lists s i more [] differ) here.1,
        )

-- ---- a word is added with counts

-- the lists have the word x with these counts besides what they had
record AddsWord (lists after : List (List (List ℕ × ℕ))) (x counts : List ℕ) : Type 0 where
  each : (i : ℕ) (y : List ℕ) → i < 2
      → listed_count (list_at after i) y ≡ listed_count (list_at lists i) y + cond (same_word x y) (get_or counts i 0) 0

abbrev no_counts : List ℕ
no_counts = 0 ∷ 0 ∷ []

zero_at : (i : ℕ) → i < 2 → get_or no_counts i 0 ≡ 0
zero_at zero two = refl
zero_at (suc zero) two = refl
zero_at (suc (suc i)) two = absurd (omega (arith, two))

cond_none : (b : Bool) (m : ℕ) → m ≡ 0 → cond b m 0 ≡ 0
cond_none true m e = e
cond_none false m e = refl

adds_none : (lists : List (List (List ℕ × ℕ))) (x : List ℕ) → AddsWord lists lists x no_counts
adds_none lists x = record {
  each = λ i y two. omega (arith, cond_none (same_word x y) (get_or no_counts i 0) (zero_at i two));
}

adds_more : (k : ℕ) (heads : List Head) (lists mid : List (List (List ℕ × ℕ))) (x counts : List ℕ) → (head_at heads 1).live ≡ true
    → (head_at heads 1).source < length mid → unpack k (head_at heads 1).packed ≡ x → get_or counts (head_at heads 1).source 0 ≡ 0
    → (head_at heads 1).source < length counts → AddsWord lists mid x counts
    → AddsWord lists (with_first k heads mid) x (set counts (head_at heads 1).source (head_at heads 1).count)
adds_more k heads lists mid x counts live inside same none within adds = record { each = λ i y two. at i y two (cases_eq i (head_at heads 1).source) }
  where
    s : ℕ
    s = (head_at heads 1).source

    m : ℕ
    m = (head_at heads 1).count

    at : (i : ℕ) (y : List ℕ) → i < 2 → (i ≡ s) ⊎ (i ≡ s → ⊥) → listed_count (list_at (with_first k heads mid) i) y
        ≡ listed_count (list_at lists i) y + cond (same_word x y) (get_or (set counts s m) i 0) 0
    at i y two (inl e) =
        let own : listed_count (list_at (with_first k heads mid) i) y ≡ listed_count (list_at mid i) y + cond (same_word x y) m 0 =
        ap (λ j. listed_count (list_at (with_first k heads mid) j) y) e ∙ count_own k heads mid live inside y
        ∙ (λ j. listed_count (list_at mid (sym e j)) y + cond (same_word (same j) y) m 0) in
        let before = adds.each i y two in
        let nothing : cond (same_word x y) (get_or counts i 0) 0 ≡ 0 = cond_none (same_word x y) (get_or counts i 0) (ap (λ j. get_or counts j 0) e ∙ none) in
        let now : get_or (set counts s m) i 0 ≡ m = ap (λ j. get_or (set counts s m) j 0) e ∙ get_or-set_same counts s m 0 within in
        let shown : cond (same_word x y) (get_or (set counts s m) i 0) 0 ≡ cond (same_word x y) m 0 = ap (λ c. cond (same_word x y) c 0) now in
        omega (arith, own, before, nothing, shown)
    at i y two (inr differ) =
        ap (λ (ps : List (List ℕ × ℕ)). listed_count ps y) (list_other k heads mid live inside i differ) ∙ adds.each i y two
        ∙ ap (λ c. listed_count (list_at lists i) y + cond (same_word x y) c 0) (sym (get_or-set_other counts s i m 0 differ))

-- what is above the word is above the lists with it
above_after : (lists after : List (List (List ℕ × ℕ))) (x z counts : List ℕ) → IsAbove x lists → AddsWord lists after x counts → kmer_cmp x z ≡ Less
    → IsAbove z after
above_after lists after x z counts above adds up i y two some = go (same_word x y) refl
  where
    go : (b : Bool) → same_word x y ≡ b → kmer_cmp y z ≡ Less
    go true e = subst (λ w. kmer_cmp w z ≡ Less) (same_is x y e) up
    go false e =
        let same : listed_count (list_at after i) y ≡ listed_count (list_at lists i) y = adds.each i y two
        ∙ ap (λ b. listed_count (list_at lists i) y + cond b (get_or counts i 0) 0) e ∙ add-zero (listed_count (list_at lists i) y) in
        kmer_total.trans y x z (above i y two (omega (arith, some, same))) up

-- a word that is above the lists is none of theirs
pub none_above : (lists : List (List (List ℕ × ℕ))) (x : List ℕ) → IsAbove x lists → (i : ℕ) → i < 2 → listed_count (list_at lists i) x ≡ 0
none_above lists x above i two = go (listed_count (list_at lists i) x) refl
  where
    go : (m : ℕ) → listed_count (list_at lists i) x ≡ m → listed_count (list_at lists i) x ≡ 0
    go zero e = e
    go (suc m) e = absurd (not_below_itself x (above i x two (omega (arith, e))))

-- the count of an added word
count_added : (lists after : List (List (List ℕ × ℕ))) (x counts : List ℕ) → IsAbove x lists → AddsWord lists after x counts → (i : ℕ) → i < 2
    → listed_count (list_at after i) x ≡ get_or counts i 0
count_added lists after x counts above adds i two =
    adds.each i x two ∙ (λ j. none_above lists x above i two j + cond (same_itself x j) (get_or counts i 0) 0) ∙ omega arith

-- ---- the head behind

module _ (k n : ℕ) (rooms : List Room) (heads : List Head) (ready : AreReady k n rooms heads) (tree : IsTree heads) (two : n ≡ 2)
    (live : (head_at heads 1).live ≡ true) where
  abbrev top : Head
  top = head_at heads 1

  some : 1 ≤ n
  some = omega (arith, two)

  pub first_two : top.source < 2
  first_two = omega (arith, first_inside k n rooms heads ready tree some, two)

  -- the word of the first head is above one that no head is below
  first_above : (p : ℕ) → p < 4 ^ k → ((j : ℕ) → n ≤ j → j < 2 * n → p ≤ rank (head_at heads j)) → (top.packed ≡ p → ⊥)
      → kmer_cmp (unpack k p) (unpack k top.packed) ≡ Less
  first_above p fits behind differ =
      let inside = first_inside k n rooms heads ready tree some in
      let here : rank (head_at heads (n + top.source)) ≡ top.packed = ap rank (first_leaf k n rooms heads ready tree some)
      ∙ ap (λ b. cond b top.packed (2 ^ 128)) live in
      let least = behind (n + top.source) (omega arith) (omega (arith, inside)) in
      let up : p < top.packed = less p top.packed (omega (arith, least, here)) differ in
      less_packed k p top.packed fits (first_fits k n rooms heads ready tree some) up
    where
      less : (a b : ℕ) → a ≤ b → (b ≡ a → ⊥) → a < b
      less a b low differ = elim (cases_eq b a) [ inl e ↦ absurd (differ e) | inr ne ↦ omega arith ]

  module _ (starts nows : List (Option (List ℕ))) (lists : List (List (List ℕ × ℕ))) (long : n ≡ length nows)
      (are : AreSources k starts nows rooms heads lists) where
    source : IsSource k (left_at starts top.source) (left_at nows top.source) (get_or rooms top.source (room_of rooms (omega (arith, ready.rooms_long, some))))
        top (list_at lists top.source)
    source = source_first k n rooms heads ready tree some starts nows lists _ _ _ long are refl refl

    pub top_apart : listed_count (list_at lists top.source) (unpack k top.packed) ≡ 0
    top_apart = head_apart k _ _ _ top _ live source

    pub top_some : 1 ≤ top.count
    top_some = head_some k _ _ _ top _ live source

    pub top_listed : top.source < length lists
    top_listed = omega (arith, first_inside k n rooms heads ready tree some, long, are.nows_long, are.lists_long)

-- one of two counts is not 0
some_of : (counts : List ℕ) (s : ℕ) → s < 2 → 1 ≤ get_or counts s 0 → 1 ≤ get_or counts 0 0 + get_or counts 1 0
some_of counts zero two h = omega (arith, h)
some_of counts (suc zero) two h = omega (arith, h)
some_of counts (suc (suc s)) two h = absurd (omega (arith, two))

-- ---- the word of the first head is taken

module _ (k n : ℕ) (two : n ≡ 2) (starts nows : List (Option (List ℕ))) (rooms : List Room) (heads : List Head) (lists : List (List (List ℕ × ℕ)))
    (ready : AreReady k n rooms heads) (tree : IsTree heads) (live : (head_at heads 1).live ≡ true) (long : n ≡ length nows)
    (abreast : AreAbreast k starts nows rooms heads lists) where
  abbrev first : Head
  first = head_at heads 1

  abbrev x : List ℕ
  x = unpack k first.packed

  abbrev mid : List (List (List ℕ × ℕ))
  mid = with_first k heads lists

  abbrev pub counts_one : List ℕ
  counts_one = set no_counts first.source first.count

  s_two : first.source < 2
  s_two = first_two k n rooms heads ready tree two live

  s_listed : first.source < length lists
  s_listed = top_listed k n rooms heads ready tree two live starts nows lists long abreast.sources

  c_some : 1 ≤ first.count
  c_some = top_some k n rooms heads ready tree two live starts nows lists long abreast.sources

  fits : first.packed < 4 ^ k
  fits = first_fits k n rooms heads ready tree (omega (arith, two))

  adds_one : AddsWord lists mid x counts_one
  adds_one = adds_more k heads lists lists x no_counts live s_listed refl (zero_at first.source s_two) s_two (adds_none lists x)

  own_one : get_or counts_one first.source 0 ≡ first.count
  own_one = get_or-set_same no_counts first.source first.count 0 s_two

  -- no other source has it
  pub taken_one : (nows' : List (Option (List ℕ))) (rooms' : List Room) (heads' : List Head) → AreReady k n rooms' heads' → IsTree heads'
      → AreSources k starts nows' rooms' heads' mid → ((j : ℕ) → n ≤ j → j < 2 * n → first.packed ≤ rank (head_at heads' j))
      → ((head_at heads' 1).live ≡ true → (head_at heads' 1).packed ≡ first.packed → ⊥)
      → IsTaken k starts nows' rooms' heads' lists (record { packed = first.packed; counts = counts_one })
  taken_one nows' rooms' heads' ready' tree' are behind differ = record {
    after = mid;
    abreast = record {
      sources = are;
      above = λ alive. above_after lists mid x _ counts_one (abreast.above live) adds_one
          (first_above k n rooms' heads' ready' tree' two alive first.packed fits behind (differ alive));
    };
    above = abreast.above live;
    counts = λ i y few. adds_one.each i y few;
    some = some_of counts_one first.source s_two (omega (arith, own_one, c_some));
    more = omega (arith, one_longer k heads lists live s_listed);
  }

  -- the other source has it too
  module _ (nows' : List (Option (List ℕ))) (rooms' : List Room) (heads' : List Head) (ready' : AreReady k n rooms' heads') (tree' : IsTree heads')
      (are' : AreSources k starts nows' rooms' heads' mid) (live' : (head_at heads' 1).live ≡ true) (long' : n ≡ length nows')
      (same : (head_at heads' 1).packed ≡ first.packed) where
    abbrev other : Head
    other = head_at heads' 1

    abbrev whole : List (List (List ℕ × ℕ))
    whole = with_first k heads' mid

    abbrev counts_two : List ℕ
    counts_two = set counts_one other.source other.count

    o_two : other.source < 2
    o_two = first_two k n rooms' heads' ready' tree' two live'

    o_listed : other.source < length mid
    o_listed = top_listed k n rooms' heads' ready' tree' two live' starts nows' mid long' are'

    o_some : 1 ≤ other.count
    o_some = top_some k n rooms' heads' ready' tree' two live' starts nows' mid long' are'

    word : unpack k other.packed ≡ x
    word = ap (unpack k) same

    o_none : get_or counts_one other.source 0 ≡ 0
    o_none =
        sym (count_added lists mid x counts_one (abreast.above live) adds_one other.source o_two)
        ∙ ap (λ w. listed_count (list_at mid other.source) w) (sym word)
        ∙ top_apart k n rooms' heads' ready' tree' two live' starts nows' mid long' are'

    o_within : other.source < length counts_one
    o_within = omega (arith, o_two, length-set no_counts first.source first.count)

    adds_two : AddsWord lists whole x counts_two
    adds_two = adds_more k heads' lists mid x counts_one live' o_listed word o_none o_within adds_one

    own_two : get_or counts_two other.source 0 ≡ other.count
    own_two = get_or-set_same counts_one other.source other.count 0 o_within

    -- both counts are there
    both : (i : ℕ) → i < 2 → 1 ≤ get_or counts_two i 0
    both i few = at (cases_eq i other.source)
      where
        at : (i ≡ other.source) ⊎ (i ≡ other.source → ⊥) → 1 ≤ get_or counts_two i 0
        at (inl e) = omega (arith, own_two, o_some, ap (λ j. get_or counts_two j 0) e)
        at (inr differ) =
            let apart : first.source ≡ other.source → ⊥ = λ e. omega (arith, own_one, c_some, o_none, ap (λ j. get_or counts_one j 0) e) in
            let is : i ≡ first.source = third i first.source other.source few s_two o_two differ apart in
            omega (
              arith,
              get_or-set_other counts_one other.source i other.count 0 differ,
              ap (λ j. get_or counts_one j 0) is,
              own_one,
              c_some,
            )
          where
            third : (a b c : ℕ) → a < 2 → b < 2 → c < 2 → (a ≡ c → ⊥) → (b ≡ c → ⊥) → a ≡ b
            third a b c ha hb hc ac bc = elim (cases_eq a b) [
              | inl e ↦ e
              | inr ab ↦ absurd (pigeons a b c ha hb hc ab ac bc)
            ]
              where
                pigeons : (a b c : ℕ) → a < 2 → b < 2 → c < 2 → (a ≡ b → ⊥) → (a ≡ c → ⊥) → (b ≡ c → ⊥) → ⊥
                pigeons a b c ha hb hc ab ac bc = omega arith

    pub taken_two : (nows'' : List (Option (List ℕ))) (rooms'' : List Room) (heads'' : List Head) → AreReady k n rooms'' heads'' → IsTree heads''
        → n ≡ length nows'' → AreSources k starts nows'' rooms'' heads'' whole
        → ((j : ℕ) → n ≤ j → j < 2 * n → other.packed ≤ rank (head_at heads'' j))
        → IsTaken k starts nows'' rooms'' heads'' lists (record { packed = first.packed; counts = counts_two })
    taken_two nows'' rooms'' heads'' ready'' tree'' long'' are'' behind = record {
      after = whole;
      abreast = record {
        sources = are'';
        above = λ alive. above_after lists whole x _ counts_two (abreast.above live) adds_two
            (first_above k n rooms'' heads'' ready'' tree'' two alive first.packed fits (λ j low high. omega (arith, behind j low high, same))
            (λ e. none_more alive e));
      };
      above = abreast.above live;
      counts = λ i y few. adds_two.each i y few;
      some = some_of counts_two other.source o_two (both other.source o_two);
      more = omega (arith, one_longer k heads lists live s_listed, one_longer k heads' mid live' o_listed);
    }
      where
        none_more : (head_at heads'' 1).live ≡ true → (head_at heads'' 1).packed ≡ first.packed → ⊥
        none_more alive e =
            let s = (head_at heads'' 1).source in
            let few : s < 2 = first_two k n rooms'' heads'' ready'' tree'' two alive in
            let none : listed_count (list_at whole s) x ≡ 0 = ap (λ p. listed_count (list_at whole s) (unpack k p)) (sym e)
            ∙ top_apart k n rooms'' heads'' ready'' tree'' two alive starts nows'' whole long'' are'' in
            omega (arith, none, count_added lists whole x counts_two (abreast.above live) adds_two s few, both s few)
