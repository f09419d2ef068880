-- The texts of sources, and the dump of their sum.
use Rattle.std.proofs.Common.{◌≡◌, ℕ, suc, ◌<◌, List, [], ◌∷◌, length, get_or, map, Option, refl, sym, subst, ◌∙◌, arith, append-nil}
use Rattle.std.proofs.KnownBytes.{Appends-nil}
use Rattle.std.proofs.lemmas.List.{length-map, get_or-map}
use Rattle.std.specs.List.{AllZip}
use Rattle.std.specs.Io.KnownBytes.{Consumes}
use Rattle.kmc_count.specs.declared.limits.Limits.{Limits}
use Rattle.kmc_lists.specs.Line.{text_of}
use Rattle.kmc_sum.specs.Listed.{IsLength, AreListed, Lists}
use Rattle.kmc_sum.specs.Sources.{GaveFronts, left_at, list_at, no_lists}
use Rattle.kmc_sum.specs.State.{IsBegun, IsSumWritten}
use Rattle.kmc_sum.proofs.Openings.{none_sum}
use Rattle.kmc_sum.proofs.Steps.{IsWritten}
use Rattle.kmc_sum.specs.Lemmas.Tallies.{empty_dump}

texts_list : (k : ℕ) (lists : List (List (List ℕ × ℕ))) → ((i : ℕ) → i < length lists → AreListed k (list_at lists i)) → AllZip (Lists k)
    (map text_of lists) lists
texts_list k [] each = tt
texts_list k (list ∷ lists) each = (
  record { listed = each 0 (omega arith); lines = refl },
  texts_list k lists
      (λ i inside. each (suc i) (omega (arith, inside))),
)

module _ (k : ℕ) (long : IsLength k) (l : Limits) (starts nows : List (Option (List ℕ))) (lines : ℕ) (old new : Option (List ℕ)) where
  pub sum_written : IsWritten k l starts nows lines old new → IsSumWritten l starts nows lines old new
  sum_written w = record {
    texts = map text_of w.lists;
    texts_long = length-map w.lists text_of ∙ w.gave.lists_long;
    gave = λ i inside.
        let here = w.gave.each i inside in
        let text : get_or (map text_of w.lists) i [] ≡ text_of (list_at w.lists i) = get_or-map text_of w.lists i [] []
        (omega (arith, inside, w.gave.lists_long)) in
        (subst (Consumes (left_at starts i) (left_at nows i)) (append-nil (text_of (list_at w.lists i)) ∙ sym text) here.0.bytes, here.1);
    pairs = w.pairs;
    merge = record {
      k = k;
      long = long;
      lists = w.lists;
      listed = texts_list k w.lists (λ i inside. (w.gave.each i (omega (arith, inside, w.gave.lists_long))).0.listed);
      dump = w.dump;
    };
    text = w.text;
    count = w.count;
  }

-- nothing was written
pub begun_none : (k : ℕ) (l : Limits) (starts nows : List (Option (List ℕ))) (old : Option (List ℕ)) → GaveFronts k starts nows (no_lists starts)
    → IsBegun k l starts nows old old
begun_none k l starts nows old gave = record {
  lists = no_lists starts;
  gave = gave;
  pairs = [];
  dump = empty_dump l (no_lists starts) (none_sum starts);
  text = ([], ([], refl), Appends-nil old);
}
