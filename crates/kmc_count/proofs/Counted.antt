-- From records that were taken in to the dump of their words.
use Rattle.std.proofs.Common.{◌≡◌, ℕ, ◌+◌, ◌*◌, ◌/◌, ◌^◌, ◌<◌, All, List, [], ◌∷◌, refl, sym, ap, ◌∙◌, arith}
use Rattle.std.proofs.lemmas.List.Sorted.{sum_by-IsPermutation, All-permutation}
use Rattle.std.proofs.lemmas.List.Sums.{sum_by-cons}
use Rattle.std.specs.List.{sum_by}
use Rattle.std.specs.List.Sorted.{IsPermutation}
use Rattle.kmc_base.specs.declared.strands.Strands.{Strands}
use Rattle.kmc_base.specs.Packed.{unpack}
use Rattle.kmc_base.specs.Weights.{item, items, item_weight, worth}
use Rattle.kmc_base.specs.Record.{IsBodyOf}
use Rattle.kmc_record.specs.RecordKeys.{IsRecordKey, IsTaken}
use Rattle.kmc_count.specs.Bodies.{AreItemsOfBody}
use Rattle.kmc_count.specs.Tables.{ComeToAsMuch}

-- ---- what items are worth

worth_is : (k f : ℕ) (g : List ℕ → ℕ) (ns : List ℕ) → worth g (items k f ns) ≡ sum_by (λ n. item_weight f n * g (unpack k (n / 2 ^ f))) ns
worth_is k f g [] = refl
worth_is k f g (n ∷ ns) =
    sum_by-cons (λ (p : List ℕ × ℕ). p.1 * g p.0) (item k f n) (items k f ns)
    ∙ ap (λ m. item_weight f n * g (unpack k (n / 2 ^ f)) + m) (worth_is k f g ns)
    ∙ sym (sum_by-cons (λ n. item_weight f n * g (unpack k (n / 2 ^ f))) n ns)

-- items that are moved are worth as much
pub worth_moved : (k f : ℕ) (g : List ℕ → ℕ) (all moved : List ℕ) → IsPermutation all moved → worth g (items k f moved) ≡ worth g (items k f all)
worth_moved k f g all moved moves =
    worth_is k f g moved ∙ sum_by-IsPermutation (λ n. item_weight f n * g (unpack k (n / 2 ^ f))) all moved moves ∙ sym (worth_is k f g all)

pub sorted_long : (k : ℕ) (ks sorted : List ℕ) → IsPermutation ks sorted → All (IsRecordKey k) ks → All (IsRecordKey k) sorted
sorted_long k ks sorted moved h = All-permutation (IsRecordKey k) ks sorted moved h

-- ---- all of it

module _ (strands : Strands) (k f : ℕ) where
  -- all records were taken in as items
  pub items_of_all : (body now : List ℕ) (ss : List (List ℕ)) → IsBodyOf k ss body → IsTaken strands k f [] now ss → AreItemsOfBody strands k f body now
  items_of_all body now ss records taken = record {
    super_kmers = ss;
    records = records;
    each = λ g. omega (arith, taken.each g);
    fit = taken.fit;
  }

  -- items that are moved
  pub items_moved : (body all moved : List ℕ) → IsPermutation all moved → AreItemsOfBody strands k f body all → AreItemsOfBody strands k f body moved
  items_moved body all moved moves are = record {
    super_kmers = are.super_kmers;
    records = are.records;
    each = λ g. omega (arith, worth_moved k f g all moved moves, are.each g);
    fit = All-permutation (λ n. n / 2 ^ f < 4 ^ k) all moved moves are.fit;
  }

-- items that come to as much as those taken in
pub much_taken : (strands : Strands) (k f : ℕ) (now new : List ℕ) (ss : List (List ℕ)) → IsTaken strands k f [] now ss → ComeToAsMuch k f now new
    → IsTaken strands k f [] new ss
much_taken strands k f now new ss taken much = record {
  each = λ g. omega (arith, much.each g, taken.each g);
  fit = much.fit taken.fit;
  long = taken.long;
}
