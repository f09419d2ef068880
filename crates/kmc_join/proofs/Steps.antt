-- The join goes on by one word, ends, or is given up.
use Rattle.std.proofs.Common.{◌≡◌, ℕ, zero, suc, ◌+◌, ◌-◌, ◌<◌, ◌≤◌, ◌^◌, ◌⊎◌, inl, inr, Bool, true, false, cond, min, List, [], ◌++◌, length, Option, refl, sym, ap, subst, ◌∙◌, arith, append-nil, zero-add, add-zero, length-append}
use Rattle.std.proofs.KnownBytes.{Appends-nil}
use Rattle.std.specs.Io.KnownBytes.{Appends, Consumes}
use Rattle.std.specs.List.{sum_by}
use Rattle.kmc_base.specs.Packed.{unpack}
use Rattle.kmc_count.specs.declared.limits.Limits.{Limits}
use Rattle.kmc_count.specs.Dump.{IsDump}
use Rattle.kmc_count.specs.Lemmas.Listing.{same_is, same_itself}
use Rattle.kmc_count.specs.Occurrences.{same_word}
use Rattle.kmc_device.specs.Device.{AppendsFront, GaveAll, WritesOut}
use Rattle.kmc_lists.specs.Line.{text_of}
use Rattle.kmc_sum.specs.Listed.{IsLength}
use Rattle.kmc_sum.specs.Refusals.{HaveTooMany}
use Rattle.kmc_sum.specs.Sources.{AreSources, GaveFronts, left_at, list_at, no_lists}
use Rattle.kmc_sum.specs.Sum.{listed_count}
use Rattle.kmc_sum.specs.Tally.{kept_pair, without, Tallied}
use Rattle.kmc_sum.specs.Lemmas.Beginnings.{list_none}
use Rattle.kmc_sum.specs.Lemmas.Taken.{GaveLists, front_both, front_gathered, text_both}
use Rattle.kmc_sum.specs.Lemmas.Tallies.{rising_none, tally_end}
use Rattle.kmc_sum.specs.declared.heads.Head.{Head}
use Rattle.kmc_sum.specs.declared.source.Room.{Room}
use Rattle.kmc_join.specs.Rule.{number_by}
use Rattle.kmc_join.specs.State.{IsBegun, IsJoinWritten, IsSoFar, joined_of}
use Rattle.kmc_join.specs.Taking.{AreAbreast, IsTaken, count_in}
use Rattle.kmc_join.specs.declared.rule.JoinRule.{JoinRule}
use Rattle.kmc_join.specs.declared.taking.CountedWord.{CountedWord}
use Rattle.kmc_join.proofs.Numbers.{none_numbered, number_few}
use Rattle.kmc_join.proofs.TakenWords.{none_above}

-- a reader gave the lines of its list to its end
pub gave_text : (k : ℕ) (starts nows : List (Option (List ℕ))) (lists : List (List (List ℕ × ℕ))) → GaveLists k starts nows lists
    → (i : ℕ) → i < length starts → GaveAll (left_at starts i) (left_at nows i) (text_of (list_at lists i))
gave_text k starts nows lists gave i inside =
    let here = gave.each i inside in
    (subst (Consumes (left_at starts i) (left_at nows i)) (append-nil (text_of (list_at lists i))) here.0.bytes, here.1)

-- as many lines as are counted
pub too_many : (k : ℕ) (starts nows : List (Option (List ℕ))) (lists : List (List (List ℕ × ℕ))) (steps : ℕ) → 2 ^ 64 - 2 ≤ steps
    → steps ≤ sum_by length lists → GaveFronts k starts nows lists → HaveTooMany k starts nows
too_many k starts nows lists steps most many gave = record { lists = lists; gave = gave; many = omega (arith, most, many) }

-- ---- a word is taken

module _ (k : ℕ) (starts nows : List (Option (List ℕ))) (rooms : List Room) (heads : List Head) (lists : List (List (List ℕ × ℕ))) (w : CountedWord)
    (taken : IsTaken k starts nows rooms heads lists w) where
  abbrev word : List ℕ
  word = unpack k w.packed

  -- the counts of the word that was taken
  pub counts_taken : (i : ℕ) → i < 2 → listed_count (list_at taken.after i) word ≡ count_in w i
  counts_taken i two =
      taken.counts i word two
      ∙ (λ j. none_above lists word taken.above i two j + cond (same_itself word j) (count_in w i) 0) ∙ zero-add (count_in w i)

  -- those of another word
  pub counts_kept : (i : ℕ) (y : List ℕ) → i < 2 → same_word word y ≡ false → listed_count (list_at taken.after i) y ≡ listed_count (list_at lists i) y
  counts_kept i y two other =
      taken.counts i y two ∙ ap (λ b. listed_count (list_at lists i) y + cond b (count_in w i) 0) other
      ∙ add-zero (listed_count (list_at lists i) y)

  module _ (rule : JoinRule) (l : Limits) (small : l.cx ≤ 2 ^ 63) (pairs : List (List ℕ × ℕ)) (dump : IsDump (joined_of rule lists) l pairs) where
    abbrev number : List ℕ → ℕ
    number = joined_of rule taken.after

    abbrev n : ℕ
    n = min (number_by rule (count_in w 0) (count_in w 1)) (2 ^ 64 - 1)

    some_listed : (y : List ℕ) → 1 ≤ joined_of rule lists y → (1 ≤ listed_count (list_at lists 0) y) ⊎ (1 ≤ listed_count (list_at lists 1) y)
    some_listed y some = go (listed_count (list_at lists 0) y) refl
      where
        go : (m : ℕ) → listed_count (list_at lists 0) y ≡ m → (1 ≤ listed_count (list_at lists 0) y) ⊎ (1 ≤ listed_count (list_at lists 1) y)
        go zero e = inr (omega (
          arith,
          some,
          e,
          number_few rule (listed_count (list_at lists 0) y) (listed_count (list_at lists 1) y),
        ))
        go (suc m) e = inl (omega (arith, e))

    but_word : (y : List ℕ) → joined_of rule lists y ≡ without word number y
    but_word y = go (same_word word y) refl
      where
        go : (b : Bool) → same_word word y ≡ b → joined_of rule lists y ≡ without word number y
        go true e =
            let none = none_numbered rule _ _ (none_above lists word taken.above 0 (omega arith)) (none_above lists word taken.above 1 (omega arith)) in
            ap (joined_of rule lists) (sym (same_is word y e)) ∙ none ∙ sym (ap (λ b. cond b 0 (number y)) e)
        go false e =
            (λ i. number_by rule (sym (counts_kept 0 y (omega arith) e) i) (sym (counts_kept 1 y (omega arith) e) i))
            ∙ sym (ap (λ b. cond b 0 (number y)) e)

    tallied : Tallied l number word n pairs
    tallied = record {
      dump = subst (λ c. IsDump c l pairs) (λ i y. but_word y i) dump;
      number = ap (λ m. min m (2 ^ 64 - 1)) (λ i. number_by rule (sym (counts_taken 0 (omega arith)) i) (sym (counts_taken 1 (omega arith)) i));
      last = λ y some. elim (some_listed y (omega (arith, some, but_word y))) [
        | inl h ↦ taken.above 0 y (omega arith) h
        | inr h ↦ taken.above 1 y (omega arith) h
      ];
    }

    pub dump_more : (m : ℕ) → m ≡ n → IsDump number l (pairs ++ kept_pair l word m)
    dump_more m is = subst (λ j. IsDump number l (pairs ++ kept_pair l word j)) (sym is) (tally_end l small number word n pairs tallied)

module _ (k : ℕ) (rule : JoinRule) (l : Limits) (small : l.cx ≤ 2 ^ 63) (starts nows : List (Option (List ℕ))) (rooms : List Room)
    (heads : List Head) (steps lines : ℕ) (old new : Option (List ℕ)) (gathered : List ℕ)
    (so : IsSoFar k rule l starts nows rooms heads steps lines old new gathered) where
  module _ (nows' : List (Option (List ℕ))) (rooms' : List Room) (heads' : List Head) (w : CountedWord)
      (taken : IsTaken k starts nows' rooms' heads' so.lists w) (m : ℕ)
      (is : m ≡ min (number_by rule (count_in w 0) (count_in w 1)) (2 ^ 64 - 1)) where
    abbrev put : List (List ℕ × ℕ)
    put = kept_pair l (unpack k w.packed) m

    -- its line is put
    pub so_more : (lines' : ℕ) (new' : Option (List ℕ)) (gathered' : List ℕ) → WritesOut old new' (text_of so.pairs ++ text_of put) gathered'
        → lines' ≡ lines + length put → IsSoFar k rule l starts nows' rooms' heads' (steps + 1) lines' old new' gathered'
    so_more lines' new' gathered' out total = record {
      lists = taken.after;
      abreast = taken.abreast;
      many = omega (arith, so.many, taken.more);
      pairs = so.pairs ++ put;
      dump = dump_more k starts nows' rooms' heads' so.lists w taken rule l small so.pairs so.dump m is;
      out = subst (λ (t : List ℕ). WritesOut old new' t gathered') (sym (text_both so.pairs put)) out;
      count = omega (arith, total, so.count, length-append so.pairs put);
    }

    -- it is not
    pub begun_more : (new' : Option (List ℕ)) → GaveFronts k starts nows' taken.after → AppendsFront old new' (text_of so.pairs)
        → IsBegun k rule l starts nows' old new'
    begun_more new' gave text = record {
      lists = taken.after;
      gave = gave;
      pairs = so.pairs ++ put;
      dump = dump_more k starts nows' rooms' heads' so.lists w taken rule l small so.pairs so.dump m is;
      text = front_both old new' so.pairs put text;
    }

  -- given up at what the readers gave
  pub begun_front : (nows' : List (Option (List ℕ))) (new' : Option (List ℕ)) → GaveFronts k starts nows' so.lists
      → AppendsFront old new' (text_of so.pairs) → IsBegun k rule l starts nows' old new'
  begun_front nows' new' gave text = record { lists = so.lists; gave = gave; pairs = so.pairs; dump = so.dump; text = text }

  pub begun_before : (nows' : List (Option (List ℕ))) → GaveFronts k starts nows' so.lists → IsBegun k rule l starts nows' old new
  begun_before nows' gave = begun_front nows' new gave (front_gathered old new (text_of so.pairs) gathered so.out)

  -- both sources have ended
  pub written : length starts ≡ 2 → IsLength k → GaveLists k starts nows so.lists → (new' : Option (List ℕ)) → Appends old new' (text_of so.pairs)
      → IsJoinWritten rule l starts nows lines old new'
  written two long gave new' text =
      let one : 0 < length starts = omega (arith, two) in
      let other : 1 < length starts = omega (arith, two) in
      record {
        first = text_of (list_at so.lists 0);
        second = text_of (list_at so.lists 1);
        first_gave = gave_text k starts nows so.lists gave 0 one;
        second_gave = gave_text k starts nows so.lists gave 1 other;
        pairs = so.pairs;
        join = record {
          k = k;
          long = long;
          left = list_at so.lists 0;
          right = list_at so.lists 1;
          first_lists = record { listed = (gave.each 0 one).0.listed; lines = refl };
          second_lists = record { listed = (gave.each 1 other).0.listed; lines = refl };
          dump = so.dump;
        };
        text = text;
        count = so.count;
      }

-- ---- nothing is taken

module _ (starts : List (Option (List ℕ))) (two : length starts ≡ 2) where
  no_count : (i : ℕ) (y : List ℕ) → i < 2 → listed_count (list_at (no_lists starts) i) y ≡ 0
  no_count i y few = ap (λ (ps : List (List ℕ × ℕ)). listed_count ps y) (list_none starts i (omega (arith, few, two)))

  -- any word is above no words
  pub abreast_start : (k : ℕ) (nows : List (Option (List ℕ))) (rooms : List Room) (heads : List Head)
      → AreSources k starts nows rooms heads (no_lists starts) → AreAbreast k starts nows rooms heads (no_lists starts)
  abreast_start k nows rooms heads are = record { sources = are; above = λ live i y few some. absurd (omega (arith, some, no_count i y few)) }

  module _ (rule : JoinRule) where
    no_number : (y : List ℕ) → joined_of rule (no_lists starts) y ≡ 0
    no_number y = none_numbered rule _ _ (no_count 0 y (omega arith)) (no_count 1 y (omega arith))

    empty : (l : Limits) → IsDump (joined_of rule (no_lists starts)) l []
    empty l = record { rising = rising_none; each = tt; all = λ y h. absurd (omega (arith, h.0, no_number y)) }

    pub so_start : (k : ℕ) (l : Limits) (nows : List (Option (List ℕ))) (rooms : List Room) (heads : List Head) (old : Option (List ℕ))
        (held : List ℕ) → held ≡ [] → AreAbreast k starts nows rooms heads (no_lists starts)
        → IsSoFar k rule l starts nows rooms heads 0 0 old old held
    so_start k l nows rooms heads old held none abreast = record {
      lists = no_lists starts;
      abreast = abreast;
      many = omega arith;
      pairs = [];
      dump = empty l;
      out = ([], none, Appends-nil old);
      count = refl;
    }

    pub begun_none : (k : ℕ) (l : Limits) (nows : List (Option (List ℕ))) (old : Option (List ℕ)) → GaveFronts k starts nows (no_lists starts)
        → IsBegun k rule l starts nows old old
    begun_none k l nows old gave = record {
      lists = no_lists starts;
      gave = gave;
      pairs = [];
      dump = empty l;
      text = ([], ([], refl), Appends-nil old);
    }
