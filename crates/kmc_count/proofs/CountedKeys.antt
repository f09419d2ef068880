-- The packed keys of a body, sorted.
use Rattle.std.proofs.Common.{ℕ, ◌<◌, ◌^◌, All, List, [], ◌∷◌, map, refl, subst}
use Rattle.std.specs.List.{AllByRecursion}
use Rattle.kmc_base.specs.declared.strands.Strands.{Strands}
use Rattle.kmc_base.specs.Packed.{unpack}
use Rattle.kmc_base.specs.Lemmas.Keys.{AreWords, words_append, keys_are_words}
use Rattle.kmc_base.specs.Strands.{keys}
use Rattle.kmc_base.specs.Record.{IsSpelled}
use Rattle.kmc_record.specs.RecordWords.{record_keys}
use Rattle.kmc_count.specs.declared.limits.Limits.{Limits}
use Rattle.kmc_count.specs.Occurrences.{occurrences}
use Rattle.kmc_count.specs.Dump.{IsDump}
use Rattle.kmc_count.specs.Bodies.{IsDumpOfBody}
use Rattle.kmc_count.specs.SortedKeys.{AreSortedKeys}
use Rattle.kmc_count.specs.Lemmas.KeysOfReads.{sorted_fit, sorted_occurrences}

record_keys_are_words : (strands : Strands) (k : ℕ) (ss : List (List ℕ)) → AllByRecursion (IsSpelled k) ss → AreWords k (record_keys strands k ss)
record_keys_are_words strands k [] h = tt
record_keys_are_words strands k (s ∷ ss) h =
    words_append k (keys strands k s) (record_keys strands k ss) (keys_are_words strands k s h.0.codes) (record_keys_are_words strands k ss h.1)

module _ (strands : Strands) (k : ℕ) (body ns : List ℕ) (are : AreSortedKeys strands k body ns) where
  keys_are : AreWords k (record_keys strands k are.super_kmers)
  keys_are = record_keys_are_words strands k are.super_kmers are.records.each

  pub body_fits : All (λ n. n < 4 ^ k) ns
  body_fits = sorted_fit k (record_keys strands k are.super_kmers) keys_are _ ns refl are.moved

  pub body_dump : (l : Limits) (pairs : List (List ℕ × ℕ)) → IsDump (occurrences (map (unpack k) ns)) l pairs → IsDumpOfBody strands k l body pairs
  body_dump l pairs dump = record {
    super_kmers = are.super_kmers;
    records = are.records;
    dump = subst (λ n. IsDump n l pairs) (λ i x. sorted_occurrences k (record_keys strands k are.super_kmers) keys_are _ ns refl are.moved x i) dump;
  }
