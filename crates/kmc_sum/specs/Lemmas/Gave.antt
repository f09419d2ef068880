-- What a source gave so far.
use Rattle.std.proofs.Common.{◌≡◌, ◌≢◌, ℕ, ◌<◌, ◌≤◌, ◌^◌, cond, true, List, [], ◌∷◌, ◌++◌, drop, length, Option, refl, sym, ap, subst, ◌∙◌, arith, append_assoc, append-nil}
use Rattle.std.proofs.KnownBytes.{Consumes-trans}
use Rattle.std.proofs.lemmas.Grind.{flat_map-append}
use Rattle.std.proofs.lemmas.List.{take-append-drop, map-append, length-append}
use Rattle.std.specs.Io.KnownBytes.{Consumes}
use Rattle.std.specs.List.{AllByRecursion}
use Rattle.std.specs.List.Sorted.{IsStrictlySortedBy}
use Rattle.std.specs.Ordering.{nat_cmp}
use Rattle.std.specs.declared.cmp.Ordering.TheVariants.{Less}
use Rattle.std.proofs.lemmas.Bool.Decides.{nat_tests}
use Rattle.kmc_base.specs.Words.{kmer_cmp}
use Rattle.kmc_base.specs.Packed.{unpack}
use Rattle.kmc_base.specs.Lemmas.Packs.{codes_unpack}
use Rattle.kmc_base.specs.Lemmas.Packing.{length_unpack}
use Rattle.kmc_count.specs.Dump.{words_of}
use Rattle.kmc_lists.specs.Line.{line_of, text_of}
use Rattle.kmc_count.specs.Lemmas.Listing.{kmer_total}
use Rattle.kmc_count.specs.Lemmas.PackedRuns.{cmp_packed}
use Rattle.kmc_sum.specs.Listed.{IsPair, AreListed}
use Rattle.kmc_sum.specs.Line.{IsLineOf}
use Rattle.kmc_sum.specs.Pairs.{EndsIn}
use Rattle.kmc_sum.specs.Faults.{BeginsNoLine, GaveFront, line_after, IsMalformed, IsOfOtherLength, IsNotRising}
use Rattle.kmc_sum.specs.Refusals.{BeginsWith}
use Rattle.kmc_sum.specs.Source.{unread, GoesOn, IsEnough}
use Rattle.kmc_sum.specs.Heads.{pending}
use Rattle.kmc_sum.specs.Sources.{IsSource}
use Rattle.kmc_sum.specs.declared.heads.Head.{Head}
use Rattle.kmc_sum.specs.declared.source.Room.{Room}
use Rattle.kmc_sum.specs.declared.line.Line.{Line}

pub text_push : (pairs : List (List ℕ × ℕ)) (p : List ℕ × ℕ) → text_of (pairs ++ p ∷ []) ≡ text_of pairs ++ line_of p
text_push pairs p = flat_map-append line_of pairs (p ∷ []) ∙ ap (λ (t : List ℕ). text_of pairs ++ t) (append-nil (line_of p))

-- a source goes on
pub front_goes : (k : ℕ) (a b c : Option (List ℕ)) (pairs : List (List ℕ × ℕ)) (rest more : List ℕ) → GaveFront k a b pairs rest
    → GoesOn b c rest more → GaveFront k a c pairs more
front_goes k a b c pairs rest more p q = record {
  listed = p.listed;
  bytes = subst (Consumes a c) (append_assoc (text_of pairs) rest q.bytes ∙ ap (λ (l : List ℕ). text_of pairs ++ l) (sym q.are))
      (Consumes-trans a b c (text_of pairs ++ rest) q.bytes p.bytes q.gave);
}

-- a line that is there
pub line_pair : (l : Line) (rest : List ℕ) → IsLineOf l rest → IsPair l.k (unpack l.k l.packed, l.count)
line_pair l rest is = record { word = (length_unpack l.k l.packed, codes_unpack l.k l.packed); some = is.some; most = is.most }

pub line_splits : (l : Line) (rest : List ℕ) → IsLineOf l rest → rest ≡ line_of (unpack l.k l.packed, l.count) ++ drop l.end rest
line_splits l rest is = sym (take-append-drop l.end rest) ∙ ap (λ (t : List ℕ). t ++ drop l.end rest) is.is

-- pairs and one more that is above the last
rising_push : (ws : List (List ℕ)) (w v : List ℕ) → IsStrictlySortedBy kmer_cmp (ws ++ w ∷ []) → kmer_cmp w v ≡ Less → IsStrictlySortedBy kmer_cmp
    ((ws ++ w ∷ []) ++ v ∷ [])
unfolding IsStrictlySortedBy
rising_push [] w v up less = ((less, tt), (tt, tt))
rising_push (x ∷ ws) w v up less = (below_push x ws w v up.0 less, rising_push ws w v up.1 less)
  where
    below_push : (x : List ℕ) (ws : List (List ℕ)) (w v : List ℕ) → AllByRecursion (λ y. kmer_cmp x y ≡ Less) (ws ++ w ∷ []) → kmer_cmp w v ≡ Less
        → AllByRecursion (λ y. kmer_cmp x y ≡ Less) ((ws ++ w ∷ []) ++ v ∷ [])
    below_push x [] w v h less = (h.0, (kmer_total.trans x w v h.0 less, tt))
    below_push x (y ∷ ws) w v h less = (h.0, below_push x ws w v h.1 less)

each_push : (P : List ℕ × ℕ → Type 0) (pairs : List (List ℕ × ℕ)) (p : List ℕ × ℕ) → AllByRecursion P pairs → P p → AllByRecursion P (pairs ++ p ∷ [])
each_push P [] p h here = (here, tt)
each_push P (q ∷ qs) p h here = (h.0, each_push P qs p h.1 here)

pub less_packed : (k p q : ℕ) → p < 4 ^ k → q < 4 ^ k → p < q → kmer_cmp (unpack k p) (unpack k q) ≡ Less
less_packed k p q hp hq less = let e : nat_cmp p q ≡ Less = grind (arith, nat_tests) in cmp_packed k p q hp hq ∙ e

pub listed_push : (k last packed count : ℕ) (pairs : List (List ℕ × ℕ)) → AreListed k pairs → EndsIn k last pairs → last < packed → packed < 4 ^ k
    → IsPair k (unpack k packed, count)
    → AreListed k (pairs ++ (unpack k packed, count) ∷ [])
listed_push k last packed count pairs listed ends above fits pair = record {
  each = each_push (IsPair k) pairs (unpack k packed, count) listed.each pair;
  rising =
      let v = unpack k packed in
      let words : words_of pairs ≡ words_of ends.front ++ unpack k last ∷ [] = ap words_of ends.are ∙ map-append (λ (p : List ℕ × ℕ). p.0) ends.front
      ((unpack k last, ends.count) ∷ []) in
      let up = rising_push (words_of ends.front) (unpack k last) v (subst (IsStrictlySortedBy kmer_cmp) words listed.rising)
      (less_packed k last packed ends.fits fits above) in
      subst (IsStrictlySortedBy kmer_cmp) (ap (λ (t : List (List ℕ)). t ++ v ∷ []) (sym words) ∙ sym
      (map-append (λ (p : List ℕ × ℕ). p.0) pairs ((v, count) ∷ []))) up;
}

rising_one : (w : List ℕ) → IsStrictlySortedBy kmer_cmp (w ∷ [])
unfolding IsStrictlySortedBy
rising_one w = (tt, tt)

-- the first pair of a source
pub listed_first : (k packed count : ℕ) → IsPair k (unpack k packed, count) → AreListed k ((unpack k packed, count) ∷ [])
listed_first k packed count pair = record { each = (pair, tt); rising = rising_one (unpack k packed) }

-- a line is taken from what a source gave
pub front_taken : (k : ℕ) (a b : Option (List ℕ)) (pairs : List (List ℕ × ℕ)) (p : List ℕ × ℕ) (rest more : List ℕ) → Consumes a b
    (text_of pairs ++ rest) → rest ≡ line_of p ++ more
    → AreListed k (pairs ++ p ∷ []) → GaveFront k a b (pairs ++ p ∷ []) more
front_taken k a b pairs p rest more gave is listed = record {
  listed = listed;
  bytes = subst (Consumes a b) (ap (λ (t : List ℕ). text_of pairs ++ t) is ∙ sym (append_assoc (text_of pairs) (line_of p) more) ∙ ap
      (λ (t : List ℕ). t ++ more) (sym (text_push pairs p))) gave;
}

-- the line behind what a source gave has a word of another length
pub of_other_length : (k : ℕ) (a c : Option (List ℕ)) (pairs : List (List ℕ × ℕ)) (rest : List ℕ) (l : Line) → GaveFront k a c pairs rest
    → IsLineOf l rest → l.k ≢ k → IsOfOtherLength k a c (line_after pairs)
of_other_length k a c pairs rest l gave is differ = record {
  pairs = pairs;
  rest = rest;
  gave = gave;
  number = refl;
  pair = (unpack l.k l.packed, l.count);
  n = l.k;
  long = is.long;
  other = differ;
  is = line_pair l rest is;
  begins = (drop l.end rest, line_splits l rest is);
}

-- what stands behind what a source gave is no line
pub malformed_next : (k : ℕ) (a b c : Option (List ℕ)) (pairs : List (List ℕ × ℕ)) (before rest : List ℕ) → GaveFront k a b pairs before
    → GoesOn b c before rest → rest ≢ [] → IsEnough rest c → BeginsNoLine rest → IsMalformed k a c (line_after pairs)
malformed_next k a b c pairs before rest gave goes some enough none = record {
  pairs = pairs;
  rest = rest;
  gave = front_goes k a b c pairs before rest gave goes;
  number = refl;
  some = some;
  enough = enough;
  none = none;
}

-- ---- the line behind the last one

module _ (k last : ℕ) (a b c : Option (List ℕ)) (pairs : List (List ℕ × ℕ)) (before rest : List ℕ) (l : Line) (ends : EndsIn k last pairs)
    (gave : GaveFront k a b pairs before) (goes : GoesOn b c before rest) (is : IsLineOf l rest) where
  pub other_length : l.k ≢ k → IsOfOtherLength k a c (line_after pairs)
  other_length differ = of_other_length k a c pairs rest l (front_goes k a b c pairs before rest gave goes) is differ

  pair_at : l.k ≡ k → IsPair k (unpack k l.packed, l.count)
  pair_at same = subst (λ n. IsPair n (unpack n l.packed, l.count)) same (line_pair l rest is)

  splits_at : l.k ≡ k → rest ≡ line_of (unpack k l.packed, l.count) ++ drop l.end rest
  splits_at same = line_splits l rest is ∙ ap (λ n. line_of (unpack n l.packed, l.count) ++ drop l.end rest) same

  fits_at : l.k ≡ k → l.packed < 4 ^ k
  fits_at same = subst (λ n. l.packed < 4 ^ n) same is.fits

  pub not_rising : l.k ≡ k → l.packed ≤ last → IsNotRising k a c (line_after pairs)
  not_rising same few = record {
    pairs = ends.front;
    last = (unpack k last, ends.count);
    rest = rest;
    gave = subst (λ (t : List (List ℕ × ℕ)). GaveFront k a c t rest) ends.are (front_goes k a b c pairs before rest gave goes);
    number = ap line_after ends.are;
    pair = (unpack k l.packed, l.count);
    is = pair_at same;
    not_above = λ e. let f : nat_cmp last l.packed ≡ Less = sym (cmp_packed k last l.packed ends.fits (fits_at same)) ∙ e in grind (arith, nat_tests);
    begins = (drop l.end rest, splits_at same);
  }

  pub goes_up : l.k ≡ k → last < l.packed → GaveFront k a c (pairs ++ (unpack k l.packed, l.count) ∷ []) (drop l.end rest)
  goes_up same above =
      front_taken k a c pairs (unpack k l.packed, l.count) rest (drop l.end rest) (front_goes k a b c pairs before rest gave goes).bytes (splits_at same)
      (listed_push k last l.packed l.count pairs gave.listed ends above (fits_at same) (pair_at same))

-- ---- a source and its head

pub source_ends : (k packed : ℕ) (start now : Option (List ℕ)) (room : Room) (head : Head) (taken : List (List ℕ × ℕ)) → head.live ≡ true
    → head.packed ≡ packed → IsSource k start now room head taken
    → EndsIn k packed (taken ++ pending k head)
source_ends k packed start now room head taken live is source = record {
  front = taken;
  count = head.count;
  are = ap (λ b. taken ++ cond b ((unpack k head.packed, head.count) ∷ []) []) live ∙ ap (λ p. taken ++ (unpack k p, head.count) ∷ []) is;
  fits = subst (λ p. p < 4 ^ k) is (source.fits live);
}

pub ends_some : (k last : ℕ) (pairs : List (List ℕ × ℕ)) → EndsIn k last pairs → 1 ≤ length pairs
ends_some k last pairs ends = omega (arith, ap length ends.are, length-append ends.front ((unpack k last, ends.count) ∷ []))

all_front : (P : List ℕ × ℕ → Type 0) (ps qs : List (List ℕ × ℕ)) → AllByRecursion P (ps ++ qs) → AllByRecursion P ps
all_front P [] qs h = tt
all_front P (p ∷ ps) qs h = (h.0, all_front P ps qs h.1)

below_front : (x : List ℕ) (ps qs : List (List ℕ)) → AllByRecursion (λ y. kmer_cmp x y ≡ Less) (ps ++ qs) → AllByRecursion (λ y. kmer_cmp x y ≡ Less) ps
below_front x [] qs h = tt
below_front x (p ∷ ps) qs h = (h.0, below_front x ps qs h.1)

rising_front : (ps qs : List (List ℕ)) → IsStrictlySortedBy kmer_cmp (ps ++ qs) → IsStrictlySortedBy kmer_cmp ps
unfolding IsStrictlySortedBy
rising_front [] qs h = tt
rising_front (p ∷ ps) qs h = (below_front p ps qs h.0, rising_front ps qs h.1)

listed_front : (k : ℕ) (ps qs : List (List ℕ × ℕ)) → AreListed k (ps ++ qs) → AreListed k ps
listed_front k ps qs h = record {
  each = all_front (IsPair k) ps qs h.each;
  rising = rising_front (words_of ps) (words_of qs) (subst (IsStrictlySortedBy kmer_cmp) (map-append (λ (p : List ℕ × ℕ). p.0) ps qs) h.rising);
}

-- fewer of the lines
pub gave_fewer : (k : ℕ) (a b : Option (List ℕ)) (ps qs : List (List ℕ × ℕ)) (rest : List ℕ) → GaveFront k a b (ps ++ qs) rest → GaveFront k a b ps
    (text_of qs ++ rest)
gave_fewer k a b ps qs rest h = record {
  listed = listed_front k ps qs h.listed;
  bytes = subst (Consumes a b) (ap (λ (t : List ℕ). t ++ rest) (flat_map-append line_of ps qs) ∙ append_assoc (text_of ps) (text_of qs) rest) h.bytes;
}

-- lines that were given have a first one
pub begins_other : (k : ℕ) (a b : Option (List ℕ)) (line : ℕ) → 2 ≤ line → IsOfOtherLength k a b line → BeginsWith k a b
begins_other k a b line two o = begins o.pairs o.number o.gave
  where
    begins : (pairs : List (List ℕ × ℕ)) → line ≡ line_after pairs → GaveFront k a b pairs o.rest → BeginsWith k a b
    begins [] number gave = absurd (omega (arith, number, two))
    begins (p ∷ ps) number gave = record { pair = p; rest = text_of ps ++ o.rest; gave = gave_fewer k a b (p ∷ []) ps o.rest gave }

pub lost_front : (k : ℕ) (a b c : Option (List ℕ)) (room : Room) (head : Head) (taken : List (List ℕ × ℕ)) (rest : List ℕ) → GoesOn b c
    (unread room) rest → IsSource k a b room head taken
    → (more : List ℕ) × GaveFront k a c taken more
lost_front k a b c room head taken rest goes source = (
  text_of (pending k head) ++ rest,
  gave_fewer k a c taken (pending k head) rest
      (front_goes k a b c (taken ++ pending k head) (unread room) rest source.gave goes),
)
