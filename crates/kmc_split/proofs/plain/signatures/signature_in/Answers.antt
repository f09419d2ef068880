use Rattle.std.proofs.Common.{◌≡◌, ℕ, suc, ◌+◌, ◌-◌, ◌^◌, ◌<◌, ◌≤◌, List, length, map, slice_index, ap, ◌∙◌, arith}
use Rattle.std.proofs.lemmas.List.{length-map}
use Rattle.std.proofs.lemmas.List.Elements.{recursion_from_All}
use Rattle.kmc_base.specs.Words.{window}
use Rattle.kmc_base.specs.Lemmas.Packs.{AreCodes}
use Rattle.kmc_split.specs.Signature.{signature_of}
use Rattle.kmc_split.specs.Candidates.{candidate, unmarked}
use Rattle.kmc_split.specs.Minima.{low}
use Rattle.kmc_split.specs.Lemmas.Lowest.{low_is}
use Rattle.kmc_split.specs.Lemmas.Least.{signature_low, signature_fits}
use Rattle.kmc_split.proofs.plain.signatures.signature_in.Goals as goal

-- the candidates of a word's m-mers
lowest_is : (m : ℕ) (codes values : List ℕ) (v : ℕ) → 1 ≤ m → m ≤ length codes → AreCodes codes → length values + m ≡ length codes + 1
    → ((i : ℕ) → i < length values → slice_index values i ≡ candidate m (window m codes i)) → ((i : ℕ) → i < length values → slice_index values i < 4 ^ m)
    → v ≡ low (slice_index values) (length values) 0 → unmarked m v ≡ signature_of m codes
lowest_is m codes values v some within are long is fit e =
    let n = length codes - m in
    let count : length values ≡ suc n = omega arith in
    ap (unmarked m) (e ∙ ap (λ c. low (slice_index values) c 0) count)
    ∙ signature_low m n codes (slice_index values) some (omega arith) are (λ j h. is j (omega arith)) (λ j h. fit j (omega arith))

pub of_least-requires-clause-fits : goal.of_least-requires-clause-fits
of_least-requires-clause-fits c =
    let values = map (λ (n : ℕ). n) c.candidates.new.out in
    let found = low_is (slice_index values) (length c.candidates.new.out) 0 (omega arith) in
    omega (arith, found.3, c.lowest.ensures, c.candidates.ensures.fit found.0 (omega (arith, found.2)))

pub returns-clause-is : goal.returns-clause-is
returns-clause-is c =
    let out = c.candidates.new.out in
    let values = map (λ (n : ℕ). n) out in
    let count = length-map out (λ (n : ℕ). n) in
    c.of_least.ensures
    ∙ lowest_is c.args.m c.args.codes.now values c.lowest.result c.requires.some c.requires.within
    (recursion_from_All (λ (x : ℕ). x < 4) c.args.codes.now c.requires.codes) (omega arith)
    (λ i inside. c.candidates.ensures.each i (omega arith)) (λ i inside. c.candidates.ensures.fit i (omega arith))
    (c.lowest.ensures ∙ ap (λ n. low (slice_index values) n 0) (omega arith))

pub returns-clause-most : goal.returns-clause-most
returns-clause-most c = omega (arith, returns-clause-is c, signature_fits c.args.m c.args.codes.now)
