-- A tally of the counts of a dump, one line after the other, and the histogram that it is.
use Rattle.std.proofs.Common.{◌≡◌, ℕ, ◌+◌, ◌<◌, ◌≤◌, Bool, true, false, cond, List, [], ◌∷◌, ◌++◌, length, Option, BTreeMap, refl, sym, ap, ◌∙◌, arith, add-zero}
use Rattle.std.specs.Prelude.{◌==◌}
use Rattle.std.specs.BTreeMap.{IsOrdered}
use Rattle.std.specs.Ordering.{nat_cmp}
use Rattle.std.proofs.lemmas.Cmp.{nat_cmp_total}
use Rattle.std.proofs.lemmas.List.{get_or-set_same}
use Rattle.std.proofs.lemmas.List.Sums.{sum_by-append, sum_by-cons}
use Rattle.std.proofs.lemmas.Map.Lookups.{exact_unsigned}
use Rattle.kmc_base.specs.Packed.{unpack}
use Rattle.kmc_sum.specs.Heads.{head_at}
use Rattle.kmc_sum.specs.Listed.{IsLength}
use Rattle.kmc_sum.specs.Sources.{AreSources, left_at, list_at, no_lists, with_first}
use Rattle.kmc_sum.specs.Lemmas.Beginnings.{list_none}
use Rattle.kmc_sum.specs.Lemmas.Taken.{GaveLists}
use Rattle.kmc_sum.specs.declared.heads.Head.{Head}
use Rattle.kmc_sum.specs.declared.source.Room.{Room}
use Rattle.kmc_join.specs.Histogram.{IsHistogram, number_with}
use Rattle.kmc_join.specs.Rows.{HasNoZero, number_of}
use Rattle.kmc_join.specs.Tally.{IsTallied, IsWholeTally, SeesOneMore, seen}
use Rattle.kmc_join.proofs.Numbering.{numbered_is}
use Rattle.kmc_join.proofs.Steps.{gave_text}

pub histogram_is : (tally : BTreeMap ℕ ℕ) (pairs : List (List ℕ × ℕ)) → IsOrdered nat_cmp tally → HasNoZero nat_cmp tally
    → ((n : ℕ) → number_of nat_cmp tally n ≡ number_with pairs n) → IsHistogram pairs tally.entries
histogram_is tally pairs ordered sound counts = numbered_is nat_cmp exact_unsigned nat_cmp_total tally (number_with pairs) ordered sound counts

-- ---- small counts by their places

-- each count was seen at most once more
pub seen_more : (small small' : List ℕ) (great great' : BTreeMap ℕ ℕ) (key steps : ℕ) → SeesOneMore small small' great great' key
    → ((n : ℕ) → seen small great n ≤ steps) → (n : ℕ) → seen small' great' n ≤ steps + 1
seen_more small small' great great' key steps more few n = omega (arith, few n, more.counts n, one (key == n))
  where
    one : (b : Bool) → cond b 1 0 ≤ 1
    one true = omega arith
    one false = omega arith

-- ---- one line more

pub tally_start : (k : ℕ) (starts nows : List (Option (List ℕ))) (rooms : List Room) (heads : List Head) (number : ℕ → ℕ) → length starts ≡ 1
    → ((n : ℕ) → number n ≡ 0) → AreSources k starts nows rooms heads (no_lists starts) → IsTallied k starts nows rooms heads number
tally_start k starts nows rooms heads number one none are = record {
  lists = no_lists starts;
  sources = are;
  counts = λ n. none n
      ∙ sym (ap (λ (ps : List (List ℕ × ℕ)). number_with ps n) (list_none starts 0 (omega (arith, one))));
}

pub tally_next : (k : ℕ) (starts nows nows' : List (Option (List ℕ))) (rooms rooms' : List Room) (heads heads' : List Head) (old new : ℕ → ℕ)
    (so : IsTallied k starts nows rooms heads old) → (head_at heads 1).live ≡ true → (head_at heads 1).source ≡ 0 → 0 < length so.lists
    → ((n : ℕ) → new n ≡ old n + cond ((head_at heads 1).count == n) 1 0) → AreSources k starts nows' rooms' heads' (with_first k heads so.lists)
    → IsTallied k starts nows' rooms' heads' new
tally_next k starts nows nows' rooms rooms' heads heads' old new so live first inside more are = record {
  lists = with_first k heads so.lists;
  sources = are;
  counts = λ n. more n ∙ (λ j. so.counts n j + cond (top.count == n) 1 0) ∙ sym (pushed n);
}
  where
    top : Head
    top = head_at heads 1

    pushed : (n : ℕ) → number_with (list_at (with_first k heads so.lists) 0) n ≡ number_with (list_at so.lists 0) n + cond (top.count == n) 1 0
    pushed n =
        let p : List ℕ × ℕ = (unpack k top.packed, top.count) in
        let one = λ (q : List ℕ × ℕ). cond (q.1 == n) 1 0 in
        let here : list_at (with_first k heads so.lists) 0 ≡ list_at so.lists 0 ++ p ∷ [] =
        ap (λ j. list_at (with_first k heads so.lists) j) (sym first)
        ∙ get_or-set_same so.lists top.source _ [] (omega (arith, first, inside))
        ∙ (λ j. list_at so.lists (first j) ++ cond (live j) (p ∷ []) []) in
        ap (λ (ps : List (List ℕ × ℕ)). number_with ps n) here ∙ sum_by-append one (list_at so.lists 0) (p ∷ [])
        ∙ ap (λ m. number_with (list_at so.lists 0) n + m) (sum_by-cons one p [] ∙ add-zero (one p))

pub whole_tally : (k : ℕ) (starts nows : List (Option (List ℕ))) (rooms : List Room) (heads : List Head) (number : ℕ → ℕ) (tally : BTreeMap ℕ ℕ)
    → IsLength k → length starts ≡ 1 → ((n : ℕ) → number_of nat_cmp tally n ≡ number n) → (so : IsTallied k starts nows rooms heads number) → GaveLists k starts nows so.lists
    → IsWholeTally (left_at starts 0) (left_at nows 0) tally
whole_tally k starts nows rooms heads number tally long one same so gave =
    let inside : 0 < length starts = omega (arith, one) in
    record {
      pairs = list_at so.lists 0;
      gave = record {
        text = _;
        gave = gave_text k starts nows so.lists gave 0 inside;
        k = k;
        long = long;
        lists = record { listed = (gave.each 0 inside).0.listed; lines = refl };
      };
      counts = λ n. same n ∙ so.counts n;
    }
