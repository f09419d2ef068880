use Rattle.std.proofs.Common.{◌≡◌, ℕ, ◌+◌, ◌-◌, ◌%◌, ◌^◌, ◌<◌, List, [], length, map, take, slice_index, sym, ap, subst, ◌∙◌, arith, eq-eqb, mod-eq_of_lt}
use Rattle.std.proofs.lemmas.Bool.Decides.{nat_tests}
use Rattle.std.proofs.lemmas.List.{get_or-take, length-take-le}
use Rattle.std.proofs.lemmas.List.Elements.{recursion_from_All}
use Rattle.kmc_base.specs.Lemmas.Windows.{length_windows}
use Rattle.kmc_split.specs.Signature.{bin_of, bin_of_signature}
use Rattle.kmc_split.specs.Lemmas.Least.{no_symbols}
use Rattle.kmc_split.proofs.Bins.{bins_are}
use Rattle.kmc_split.proofs.Fronts.{own_numbers}
use Rattle.kmc_split.proofs.belonging.words_in_bin.Goals as goal

-- without symbols all words are of the first bin
first_bin : (m n : ℕ) (w : List ℕ) → 0 % n ≡ 0 → m ≡ 0 → bin_of m n w ≡ 0
first_bin m n w zero none = ap (λ (j : ℕ). bin_of j n w) none ∙ ap (bin_of_signature n) (no_symbols w) ∙ zero

pub returns-then-m-eq0 : goal.returns-then-m-eq0
returns-then-m-eq0 c =
    let zero : 0 % c.args.n ≡ 0 = mod-eq_of_lt c.requires.bins in
    let count = length_windows c.args.k c.args.codes.now in (
      (λ h i d less. let bin : c.args.bin ≡ 0 = grind (arith, nat_tests, h) in first_bin c.args.m c.args.n _ zero c.if-m-eq0.true ∙ sym bin),
      (λ all. eq-eqb c.args.bin 0 (sym (all 0 [] (omega (arith, count, c.requires.inside))) ∙ first_bin c.args.m c.args.n _ zero c.if-m-eq0.true)),
    )

pub returns : goal.returns
returns c =
    let codes = c.args.codes.now in
    let m = c.args.m in
    let out = c.offer_by_quads.new.room in
    let n = length codes + 1 - m in
    let front = take n out in
    let count : length front ≡ n = length-take-le n out (omega (arith, c.offer_by_quads.auto.room, c.requires.long, c.requires.limit)) in
    let own = own_numbers front in
    let e = c.least_in_bin.ensures in
    let b = bins_are m c.args.k c.args.n c.args.bin codes (map (λ (x : ℕ). x) front) (omega arith)
    (recursion_from_All (λ (x : ℕ). x < 4) codes c.requires.codes) c.requires.within c.requires.inside (omega (arith, ap length own))
    (λ i inside. ap (λ (l : List ℕ). slice_index l i) own ∙ get_or-take n out i 0 (omega (arith, ap length own))
    ∙ c.offer_by_quads.ensures.each i (omega (arith, ap length own)))
    (λ i inside. subst (λ (x : ℕ). x < 4 ^ m) (sym (ap (λ (l : List ℕ). slice_index l i) own ∙ get_or-take n out i 0 (omega (arith, ap length own))))
    (c.offer_by_quads.ensures.fit i (omega (arith, ap length own)))) in
    ((λ h. b.0 (λ i inside. e.0 h i (omega (arith, ap length own)))), (λ all. e.1 (λ i inside. b.1 all i (omega (arith, ap length own)))))
