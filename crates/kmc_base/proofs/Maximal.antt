-- The segments are maximal stretches of bases.
use Rattle.std.proofs.Common.{◌≡◌, ℕ, zero, suc, ◌+◌, ◌<◌, ◌≤◌, ◌==◌, inl, inr, Bool, true, false, cond, nat_le, All, List, [], ◌∷◌, length, get_or, Option, None, Some, refl, sym, ap, subst, ◌∙◌, arith, add-one, add-zero}
use Rattle.std.proofs.lemmas.Bool.{eq-eqb, ne_eqb}
use Rattle.std.proofs.lemmas.Bool.Decides.{nat_tests}
use Rattle.std.proofs.lemmas.List.Elements.{All-from_recursion}
use Rattle.std.specs.List.{filter, AllByRecursion}
use Rattle.kmc_base.specs.Words.{code_of, codes_of, window}
use Rattle.kmc_base.specs.Stretches.{Stretch, with_place, stretches_from, segments_of, led_by, leading}
use Rattle.kmc_base.specs.Places.{IsSegment}
use Rattle.kmc_base.specs.Lemmas.Stretching.{Apart}
use Rattle.kmc_base.specs.Lemmas.Counted.{IsLed, led}

-- ---- stretches rise

abbrev AllFrom : ℕ → List Stretch → Type 0
AllFrom n ss = AllByRecursion (λ s. n ≤ s.start) ss

abbrev Rise : List Stretch → Type 0
Rise [] = Unit {0}
Rise (s ∷ ss) = AllFrom (s.start + 1) ss × Rise ss

from_less : (n m : ℕ) (ss : List Stretch) → m ≤ n → AllFrom n ss → AllFrom m ss
from_less n m [] le h = tt
from_less n m (s ∷ ss) le h = (omega (arith, h.0), from_less n m ss le h.1)

placed_from : (a : ℕ) (o : Option ℕ) (ss : List Stretch) → AllFrom (a + 1) ss → Rise ss → AllFrom a (with_place a o ss) × Rise (with_place a o ss)
placed_from a None ss h r = (from_less (a + 1) a ss (omega arith) h, r)
placed_from a (Some c) [] h r = ((omega arith, tt), (tt, tt))
placed_from a (Some c) (s ∷ ss) h r = go (s.start == a + 1)
  where
    go : (t : Bool) → AllFrom a (cond t (record { start = a; codes = c ∷ s.codes } ∷ ss) (record { start = a; codes = c ∷ [] } ∷ s ∷ ss))
        × Rise (cond t (record { start = a; codes = c ∷ s.codes } ∷ ss) (record { start = a; codes = c ∷ [] } ∷ s ∷ ss))
    go true = ((omega arith, from_less (a + 1) a ss (omega arith) h.1), (h.1, r.1))
    go false = ((omega arith, from_less (a + 1) a (s ∷ ss) (omega arith) h), (h, r))

rise_from : (a : ℕ) (bs : List ℕ) → AllFrom a (stretches_from a bs) × Rise (stretches_from a bs)
rise_from a [] = (tt, tt)
rise_from a (b ∷ bs) = let h = rise_from (a + 1) bs in placed_from a (code_of b) (stretches_from (a + 1) bs) h.0 h.1

-- ---- a stretch within a text that begins at place a

record Within (a : ℕ) (bs : List ℕ) (s : Stretch) : Type 0 where
  place : ℕ
  start : s.start ≡ a + place
  inside : place + length s.codes ≤ length bs
  bases : codes_of (window (length s.codes) bs place) ≡ Some s.codes
  before : (i : ℕ) → i + 1 ≡ place → code_of (get_or bs i 0) ≡ None
  behind : place + length s.codes < length bs → code_of (get_or bs (place + length s.codes) 0) ≡ None

abbrev AllWithin : ℕ → List ℕ → List Stretch → Type 0
AllWithin a bs ss = AllByRecursion (Within a bs) ss

-- the text has one byte more in front, which is no base where the stretch begins right behind it
moved : (a b : ℕ) (bs : List ℕ) (s : Stretch) → (s.start ≡ a + 1 → code_of b ≡ None) → Within (a + 1) bs s → Within a (b ∷ bs) s
moved a b bs s first h = record {
  place = h.place + 1;
  start = omega (arith, h.start);
  inside = omega (arith, h.inside);
  bases = rw add-one h.bases;
  before = λ i e. go i h.place e h.before (λ z. first (omega (arith, h.start, z)));
  behind = λ less.
      let next : h.place + 1 + length s.codes ≡ suc (h.place + length s.codes) = omega arith in
      rw next (h.behind (omega (arith, less)));
}
  where
    go : (i p : ℕ) → i + 1 ≡ p + 1 → ((j : ℕ) → j + 1 ≡ p → code_of (get_or bs j 0) ≡ None) → (p ≡ 0 → code_of b ≡ None) → code_of (get_or (b ∷ bs) i 0) ≡ None
    go zero p e before none = none (omega arith)
    go (suc i) p e before none = before i (omega arith)

all_moved : (a b : ℕ) (bs : List ℕ) (ss : List Stretch) → code_of b ≡ None → AllWithin (a + 1) bs ss → AllWithin a (b ∷ bs) ss
all_moved a b bs [] none h = tt
all_moved a b bs (s ∷ ss) none h = (moved a b bs s (λ e. none) h.0, all_moved a b bs ss none h.1)

later_moved : (a b : ℕ) (bs : List ℕ) (ss : List Stretch) → AllFrom (a + 2) ss → AllWithin (a + 1) bs ss → AllWithin a (b ∷ bs) ss
later_moved a b bs [] later h = tt
later_moved a b bs (s ∷ ss) later h = (moved a b bs s (λ e. absurd (omega (arith, later.0, e))) h.0, later_moved a b bs ss later.1 h.1)

-- one base by itself
alone : (a b c : ℕ) (bs : List ℕ) → code_of b ≡ Some c → leading bs ≡ [] → Within a (b ∷ bs) (record { start = a; codes = c ∷ [] })
alone a b c bs is none = record {
  place = 0;
  start = sym (add-zero a);
  inside = omega arith;
  bases = rw is refl;
  before = λ i e. absurd (omega (arith, e));
  behind = λ less. first_is_none bs none (omega (arith, less));
}
  where
    first_is_none : (bs : List ℕ) → leading bs ≡ [] → 0 < length bs → code_of (get_or bs 0 0) ≡ None
    first_is_none [] e some = absurd (omega arith)
    first_is_none (d ∷ bs) e some = pick (code_of d) (leading bs) e
      where
        pick : (o : Option ℕ) (r : List ℕ) → led_by o r ≡ [] → o ≡ None
        pick None r e = refl
        pick (Some x) r e = absurd (omega (arith, ap length e))

-- one base more in front of a stretch
joined : (a b c : ℕ) (bs : List ℕ) (s : Stretch) → code_of b ≡ Some c → s.start ≡ a + 1 → Within (a + 1) bs s → Within a (b ∷ bs)
    (record { start = a; codes = c ∷ s.codes })
joined a b c bs s is at h = go h.place (omega (arith, h.start, at)) h.inside h.bases h.behind
  where
    go : (p : ℕ) → p ≡ 0 → p + length s.codes ≤ length bs → codes_of (window (length s.codes) bs p) ≡ Some s.codes
        → (p + length s.codes < length bs → code_of (get_or bs (p + length s.codes) 0) ≡ None) → Within a (b ∷ bs) (record { start = a; codes = c ∷ s.codes })
    go (suc p) e inside bases behind = absurd (omega arith)
    go zero e inside bases behind = record {
      place = 0;
      start = sym (add-zero a);
      inside = omega (arith, inside);
      bases = rw (is, bases) refl;
      before = λ i f. absurd (omega (arith, f));
      behind = λ less.
          let one : 0 + suc (length s.codes) ≡ suc (0 + length s.codes) = omega arith in
          rw one (behind (omega (arith, less)));
    }

all_within : (a : ℕ) (bs : List ℕ) → AllWithin a bs (stretches_from a bs)
all_within a [] = tt
all_within a (b ∷ bs) = go (code_of b) refl (stretches_from (a + 1) bs) (led (a + 1) bs) (rise_from (a + 1) bs) (all_within (a + 1) bs)
  where
    beside : (c : ℕ) → code_of b ≡ Some c → (ss : List Stretch) → leading bs ≡ [] → Apart (a + 1) ss → AllFrom (a + 1) ss → Rise ss → AllWithin
        (a + 1) bs ss → AllWithin a (b ∷ bs) (with_place a (Some c) ss)
    beside c is [] none apart from rise h = (alone a b c bs is none, tt)
    beside c is (s ∷ ss) none apart from rise h =
        let other : (s.start == a + 1) ≡ false = ne_eqb s.start (a + 1) (λ e. omega arith) in
        let later : AllFrom (a + 2) (s ∷ ss) = (omega (arith, apart), from_less (s.start + 1) (a + 2) ss (omega (arith, apart)) rise.0) in
        rw other (alone a b c bs is none, later_moved a b bs (s ∷ ss) later h)

    behind_it : (c : ℕ) → code_of b ≡ Some c → (s : Stretch) (ss : List Stretch) → s.start ≡ a + 1 → Rise (s ∷ ss) → AllWithin (a + 1) bs (s ∷ ss)
        → AllWithin a (b ∷ bs) (with_place a (Some c) (s ∷ ss))
    behind_it c is s ss at rise h =
        let same : (s.start == a + 1) ≡ true = eq-eqb s.start (a + 1) at in
        rw same (joined a b c bs s is at h.0, later_moved a b bs ss (from_less (s.start + 1) (a + 2) ss (omega (arith, at)) rise.0) h.1)

    go : (o : Option ℕ) → code_of b ≡ o → (ss : List Stretch) → IsLed (a + 1) (leading bs) ss → AllFrom (a + 1) ss × Rise ss → AllWithin
        (a + 1) bs ss → AllWithin a (b ∷ bs) (with_place a o ss)
    go None e ss l r h = all_moved a b bs ss e h
    go (Some c) e ss (inl l) r h = beside c e ss l.0 l.1 r.0 r.1 h
    go (Some c) e ss (inr l) r h =
        let first : Stretch = record { start = a + 1; codes = leading bs } in
        subst (λ (t : List Stretch). AllWithin a (b ∷ bs) (with_place a (Some c) t)) (sym l.1)
        (behind_it c e first l.0 refl (subst Rise l.1 r.1) (subst (AllWithin (a + 1) bs) l.1 h))

-- ---- at the beginning of a read

is_segment : (k : ℕ) (read : List ℕ) (s : Stretch) → k ≤ length s.codes → Within 0 read s → IsSegment k read s
is_segment k read s long h =
    let at : h.place ≡ s.start = omega (arith, h.start) in
    record {
      long = long;
      inside = omega (arith, at, h.inside);
      bases = ap (λ p. codes_of (window (length s.codes) read p)) (sym at) ∙ h.bases;
      before = λ i e. h.before i (e ∙ sym at);
      behind = λ less. ap (λ p. code_of (get_or read (p + length s.codes) 0)) (sym at) ∙ h.behind (omega (arith, at, less));
    }

long_are_segments : (k : ℕ) (read : List ℕ) (ss : List Stretch) → AllWithin 0 read ss → AllByRecursion (IsSegment k read)
    (filter (λ s. nat_le k (length s.codes)) ss)
long_are_segments k read [] h = tt
long_are_segments k read (s ∷ ss) h = go (nat_le k (length s.codes)) refl (long_are_segments k read ss h.1)
  where
    go : (t : Bool) → nat_le k (length s.codes) ≡ t → AllByRecursion (IsSegment k read) (filter (λ s. nat_le k (length s.codes)) ss)
        → AllByRecursion (IsSegment k read) (filter (λ s. nat_le k (length s.codes)) (s ∷ ss))
    go true e more =
        let long : k ≤ length s.codes = grind (arith, nat_tests) in
        rw e (is_segment k read s long h.0, more)
    go false e more = rw e more

pub segments_are_maximal : (k : ℕ) (read : List ℕ) → All (IsSegment k read) (segments_of k read)
segments_are_maximal k read = All-from_recursion (IsSegment k read) (segments_of k read) (long_are_segments k read (stretches_from 0 read) (all_within 0 read))
