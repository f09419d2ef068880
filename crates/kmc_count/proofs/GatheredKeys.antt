-- The packed keys of reads, read by read.
use Rattle.std.proofs.Common.{◌≡◌, ℕ, List, [], ◌∷◌, ◌++◌, map, sym, ap, ◌∙◌, append-nil}
use Rattle.std.specs.List.{flat_map}
use Rattle.std.proofs.lemmas.List.{map-append}
use Rattle.std.proofs.lemmas.Grind.{flat_map-append}
use Rattle.kmc_base.specs.declared.strands.Strands.{Strands}
use Rattle.kmc_base.specs.Lemmas.Keys.{AreWords, words_append, counted_keys_are_words}
use Rattle.kmc_base.specs.Packed.{pack}
use Rattle.kmc_base.specs.Places.{counted_words}
use Rattle.kmc_base.specs.Strands.{placed_key}
use Rattle.kmc_count.specs.Lemmas.KeysOfReads.{keys_of_reads}

pub keys_of_reads_are_words : (strands : Strands) (k : ℕ) (reads : List (List ℕ)) → AreWords k (keys_of_reads strands k reads)
keys_of_reads_are_words strands k [] = tt
keys_of_reads_are_words strands k (read ∷ reads) =
    words_append k (map (placed_key strands) (counted_words k read)) (keys_of_reads strands k reads) (counted_keys_are_words strands k read)
    (keys_of_reads_are_words strands k reads)

-- the packed keys of one read more
pub read_added : (strands : Strands) (k : ℕ) (read : List ℕ) (old reads : List (List ℕ)) (before after : List ℕ) → before ≡ map pack
    (keys_of_reads strands k old) → reads ≡ old ++ read ∷ []
    → after ≡ before ++ map pack (map (placed_key strands) (counted_words k read)) → after ≡ map pack (keys_of_reads strands k reads)
read_added strands k read old reads before after was more is =
    let here = map (placed_key strands) (counted_words k read) in
    let f : List ℕ → List (List ℕ) = λ r. map (placed_key strands) (counted_words k r) in
    is ∙ ap (λ (t : List ℕ). t ++ map pack here) was ∙ sym (map-append pack (keys_of_reads strands k old) here)
    ∙ ap (λ (t : List (List ℕ)). map pack (keys_of_reads strands k old ++ t)) (sym (append-nil here))
    ∙ ap (map pack) (sym (flat_map-append f old (read ∷ [])) ∙ ap (flat_map f) (sym more))
