-- The table of lists, by how many pairs have each first part.
use Rattle.std.proofs.Common.{◌≡◌, ℕ, ◌+◌, ◌-◌, ◌*◌, ◌/◌, ◌%◌, ◌^◌, ◌<◌, ◌≤◌, cond, nat_lt, List, [], ◌∷◌, ◌++◌, length, get_or, take, refl, sym, ap, subst, ◌∙◌, arith, mod-eq_of_lt}
use Rattle.std.specs.Prelude.{sum}
use Rattle.std.specs.List.{AllByRecursion}
use Rattle.std.proofs.lemmas.Bool.Decides.{nat_tests}
use Rattle.std.proofs.lemmas.List.{length-map}
use Rattle.std.proofs.lemmas.List.Elements.{recursion_from_All}
use Rattle.std.proofs.lemmas.List.Sorted.{All-permutation}
use Rattle.std.proofs.lemmas.List.Sums.{sum_by-cons}
use Rattle.kmc_base.specs.Lemmas.Powers.{pow_quad, pow_up}
use Rattle.kmc_base.specs.Packed.{unpack}
use Rattle.kmc_lists.specs.Listed.{Listed, spell, spelled}
use Rattle.kmc_lists.specs.Ordered.{CanBeMerged, in_order, is_within, joined, packs, whole, within}
use Rattle.kmc_lists.specs.Lemmas.Order.{in_order_moves}
use Rattle.kmc_dump.specs.Lemmas.Parted.{more}
use Rattle.kmc_dump.specs.Ranges.{FitSlots, HaveSizes}
use Rattle.kmc_database.specs.Files.{header_of, limits_of, prefix_file, prefix_marker, strands_of}
use Rattle.kmc_database.specs.Layout.{IsLayout}
use Rattle.kmc_database.specs.Lemmas.Ranges.{spread_moved}
use Rattle.kmc_database.specs.Lemmas.Words.{part_fits, part_is}
use Rattle.kmc_database.specs.Numbers.{low_first}
use Rattle.kmc_database.specs.Rows.{entries, first_part, number_below}
use Rattle.kmc_database.specs.declared.form.Form.{Form}
use Rattle.kmc_database.specs.declared.layout.Layout.{Layout}
use Rattle.kmc_packer.specs.Table.{entries_by, prefix_by}
use Rattle.kmc_packer.proofs.Sums.{sum_is, within_whole}

-- a first part has at most 30 bits
few_parts : (l : Layout) → IsLayout l → 4 ^ l.prefix ≤ 4 ^ 15
few_parts l is =
    let parts : 15 - l.prefix + l.prefix ≡ 15 = omega (arith, is.most) in
    subst (λ m. 4 ^ l.prefix ≤ 4 ^ m) parts (pow_up l.prefix (15 - l.prefix))

-- so many slots
pub all_parts : (l : Layout) → IsLayout l → 1 * 2 ^ (2 * l.prefix) % 2 ^ 64 ≡ 4 ^ l.prefix
all_parts l is =
    let all : 1 * 2 ^ (2 * l.prefix) ≡ 4 ^ l.prefix = omega (arith, pow_quad l.prefix) in
    ap (λ n. n % 2 ^ 64) all ∙ mod-eq_of_lt (omega (arith, few_parts l is))

-- what a slot leaves out of a word
abbrev pub weight : Layout → ℕ
weight l = 2 ^ (2 * (l.k - l.prefix))

module _ (l : Layout) (is : IsLayout l) where
  slot_is : (n : ℕ) → n / weight l ≡ n / 4 ^ (l.k - l.prefix)
  slot_is n = ap (λ d. n / d) (sym (pow_quad (l.k - l.prefix)))

  -- each word has a slot
  pub fit_parts : (lists : List Listed) → CanBeMerged l.k lists → FitSlots (weight l) (4 ^ l.prefix) lists
  fit_parts lists merge = record {
    inside = λ k d inside.
        let n = (get_or (joined (packs lists)) k d).0 in
        subst (λ q. q < 4 ^ l.prefix) (sym (slot_is n)) (part_fits l is n (merge.fit k d inside));
  }

  below_are : (i : ℕ) (ps : List (ℕ × ℕ)) → AllByRecursion (λ p. p.0 < 4 ^ l.k) ps → number_below l (spelled l.k ps) i ≡ length (within (weight l) 0 i ps)
  below_are i [] fit = refl
  below_are i (p ∷ ps) fit =
      let slot : first_part l (unpack l.k p.0) ≡ p.0 / weight l = part_is l is p.0 fit.0 ∙ sym (slot_is p.0) in
      let same : cond (nat_lt (first_part l (unpack l.k p.0)) i) 1 0 + 0 ≡ cond (nat_lt (p.0 / weight l) i) 1 0 + 0 =
      ap (λ n. cond (nat_lt n i) 1 0 + 0) slot in
      let there : cond (nat_lt (p.0 / weight l) i) 1 0 + 0 ≡ cond (is_within (weight l) 0 i p) 1 0 + 0 = grind (arith, nat_tests) in
      sum_by-cons (λ (q : List ℕ × ℕ). cond (nat_lt (first_part l q.0) i) 1 0) (spell l.k p) (spelled l.k ps)
      ∙ omega (arith, same, there, below_are i ps fit.1, more (weight l) 0 i p ps)

  module _ (lists : List Listed) (merge : CanBeMerged l.k lists) where
    fits : AllByRecursion (λ p. p.0 < 4 ^ l.k) (whole lists)
    fits =
        let ps = joined (packs lists) in
        recursion_from_All (λ p. p.0 < 4 ^ l.k) (whole lists)
        (All-permutation (λ p. p.0 < 4 ^ l.k) ps (in_order ps) (in_order_moves ps) merge.fit)

    -- an entry of the table
    entry_is : (sizes : List ℕ) → HaveSizes (weight l) (4 ^ l.prefix) sizes lists → (i : ℕ) → i < 4 ^ l.prefix
        → sum (take i sizes) ≡ number_below l (spelled l.k (whole lists)) i
    entry_is sizes have i inside =
        sum_is (weight l) sizes lists have.each i (omega (arith, inside, have.long))
        ∙ sym (within_whole (weight l) 0 i lists)
        ∙ sym (below_are i (whole lists) fits)

    table_is : (sizes : List ℕ) → HaveSizes (weight l) (4 ^ l.prefix) sizes lists → entries_by sizes (length sizes)
        ≡ entries l (spelled l.k (whole lists)) (4 ^ l.prefix)
    table_is sizes have =
        ap (entries_by sizes) have.long
        ∙ spread_moved (λ i. low_first 8 (sum (take i sizes))) (λ i. low_first 8 (number_below l (spelled l.k (whole lists)) i)) (4 ^ l.prefix) 0 0
        (λ j less. ap (low_first 8) (entry_is sizes have (0 + j) (omega (arith, less))))

-- the prefix file of lists
pub prefix_is : (f : Form) (lists : List Listed) (sizes : List ℕ) (rows : ℕ) → IsLayout f.layout → CanBeMerged f.layout.k lists
    → HaveSizes (weight f.layout) (4 ^ f.layout.prefix) sizes lists → rows ≡ length (whole lists)
    → prefix_by f sizes rows ≡ prefix_file f (spelled f.layout.k (whole lists))
prefix_is f lists sizes rows is merge have many =
    let l = f.layout in
    let count : rows ≡ length (spelled l.k (whole lists)) = many ∙ sym (length-map (whole lists) (spell l.k)) in
    (λ i. (prefix_marker ++ table_is l is lists merge sizes have i) ++ header_of l (count i) (limits_of f) (strands_of f))
