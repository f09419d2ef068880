-- The dump of the items of a body is that of the body.
use Rattle.std.proofs.Common.{◌≡◌, ℕ, ◌+◌, ◌*◌, true, false, Bool, cond, List, [], ◌∷◌, refl, sym, subst, ◌∙◌, arith}
use Rattle.std.proofs.lemmas.List.Sums.{sum_by-cons}
use Rattle.kmc_base.specs.declared.strands.Strands.{Strands}
use Rattle.kmc_base.specs.Weights.{items, worth}
use Rattle.kmc_record.specs.RecordWords.{record_keys}
use Rattle.kmc_count.specs.declared.limits.Limits.{Limits}
use Rattle.kmc_count.specs.Occurrences.{same_word, occurrences, weight_of}
use Rattle.kmc_count.specs.Dump.{IsDump}
use Rattle.kmc_count.specs.Bodies.{AreItemsOfBody, IsDumpOfBody}
use Rattle.kmc_count.specs.Lemmas.Runs.{weight_of_cons}

-- with 1 for x: the weight of x
pub weight_is : (x : List ℕ) (ps : List (List ℕ × ℕ)) → weight_of ps x ≡ worth (λ w. cond (same_word w x) 1 0) ps
weight_is x [] = refl
weight_is x (p ∷ ps) =
    weight_of_cons x p ps ∙ (λ i. one (same_word p.0 x) p.1 i + weight_is x ps i)
    ∙ sym (sum_by-cons (λ (p : List ℕ × ℕ). p.1 * cond (same_word p.0 x) 1 0) p ps)
  where
    one : (b : Bool) (n : ℕ) → cond b n 0 ≡ n * cond b 1 0
    one true n = omega arith
    one false n = omega arith

pub body_dump : (strands : Strands) (k f : ℕ) (body ns : List ℕ) (l : Limits) (pairs : List (List ℕ × ℕ)) → AreItemsOfBody strands k f body ns → IsDump
    (weight_of (items k f ns)) l pairs → IsDumpOfBody strands k l body pairs
body_dump strands k f body ns l pairs are dump = record {
  super_kmers = are.super_kmers;
  records = are.records;
  dump = subst (λ c. IsDump c l pairs) (λ i x. counts x i) dump;
}
  where
    counts : (x : List ℕ) → weight_of (items k f ns) x ≡ occurrences (record_keys strands k are.super_kmers) x
    counts x = weight_is x (items k f ns) ∙ are.each (λ w. cond (same_word w x) 1 0)
