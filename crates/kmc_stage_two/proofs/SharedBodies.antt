-- A body that is counted in two pieces.
use Rattle.std.proofs.Common.{◌≡◌, ℕ, ◌+◌, ◌/◌, ◌^◌, ◌<◌, Option, Some, None, List, ◌++◌, sym, ap, subst, ◌∙◌}
use Rattle.std.proofs.lemmas.Grind.{flat_map-append}
use Rattle.std.proofs.lemmas.List.Elements.{All-append, All-from_recursion, recursion_from_All}
use Rattle.std.proofs.lemmas.List.Sums.{sum_by-append}
use Rattle.std.specs.List.{sum_by}
use Rattle.kmc_base.specs.declared.strands.Strands.{Strands}
use Rattle.kmc_base.specs.Strands.{keys}
use Rattle.kmc_base.specs.Words.{windows}
use Rattle.kmc_record.specs.Lemmas.Gaining.{worth_append}
use Rattle.kmc_base.specs.Record.{spelling, IsSpelled}
use Rattle.kmc_record.specs.RecordWords.{record_keys}
use Rattle.kmc_split.specs.Signature.{bin_of}
use Rattle.kmc_record.specs.Bodies.{Belong}
use Rattle.kmc_record.specs.Parts.{all_windows}
use Rattle.kmc_count.specs.Asked.{IsOfBin}
use Rattle.kmc_count.specs.Bodies.{AreItemsOfBody}
use Rattle.kmc_count.specs.declared.judging.AskedBin.{AskedBin}

module _ (strands : Strands) (k f : ℕ) where
  -- the items of the front and those of the back are those of the whole body
  pub items_joined : (front back ns ms : List ℕ) → AreItemsOfBody strands k f front ns → AreItemsOfBody strands k f back ms
      → AreItemsOfBody strands k f (front ++ back) (ns ++ ms)
  items_joined front back ns ms low high =
      let ss = low.super_kmers in
      let ts = high.super_kmers in record {
        super_kmers = ss ++ ts;
        records = record {
          each = recursion_from_All (IsSpelled k) (ss ++ ts)
              (All-append (IsSpelled k) ss ts (All-from_recursion (IsSpelled k) ss low.records.each) (All-from_recursion (IsSpelled k) ts high.records.each));
          is = (λ i. low.records.is i ++ high.records.is i) ∙ sym (flat_map-append (spelling k) ss ts);
        };
        each = λ g.
            let words = ap (sum_by g) (flat_map-append (keys strands k) ss ts) ∙ sum_by-append g (record_keys strands k ss) (record_keys strands k ts) in
            worth_append k f g ns ms ∙ (λ i. low.each g i + high.each g i) ∙ sym words;
        fit = All-append (λ n. n / 2 ^ f < 4 ^ k) ns ms low.fit high.fit;
      }

-- pieces that are of a bin, each whole records
pub of_bin_joined : (asked : Option AskedBin) (front back : List ℕ) → IsOfBin asked front → IsOfBin asked back → IsOfBin asked (front ++ back)
of_bin_joined None front back low high = tt
of_bin_joined (Some a) front back (inside, low) (_, high) =
    let k = a.shape.k in
    let ss = low.super_kmers in
    let ts = high.super_kmers in (
      inside,
      record {
        super_kmers = ss ++ ts;
        records = record {
          each = recursion_from_All (IsSpelled k) (ss ++ ts)
              (All-append (IsSpelled k) ss ts (All-from_recursion (IsSpelled k) ss low.records.each) (All-from_recursion (IsSpelled k) ts high.records.each));
          is = (λ i. low.records.is i ++ high.records.is i) ∙ sym (flat_map-append (spelling k) ss ts);
        };
        belong = subst (Belong a.bin a.shape) (sym (flat_map-append (windows k) ss ts))
            (All-append (λ w. bin_of a.shape.m a.shape.n w ≡ a.bin) (all_windows k ss) (all_windows k ts) low.belong high.belong);
      },
    )
