-- How many parts a writer puts that has few chunks.
use Rattle.std.proofs.Common.{◌≡◌, ◌≢◌, ℕ, zero, suc, ◌+◌, ◌-◌, ◌*◌, ◌/◌, ◌%◌, ◌<◌, ◌≤◌, nat_le, nat_lt, nat_eq, Bool, true, false, List, ◌++◌, length, map, refl, subst, ap, ◌∙◌, arith, length-append}
use Rattle.std.specs.List.{count_by, range_with_len}
use Rattle.std.proofs.Math.Nat.{le-div_iff_mul-le, lt_of_mul-lt-mul_right, mul-le-mul_right}
use Rattle.std.proofs.lemmas.Nat.{div-add-mod'}
use Rattle.std.proofs.lemmas.Bool.Decides.{nat_tests}
use Rattle.std.proofs.lemmas.List.FromFn.{length-map-range_with_len}
use Rattle.std.proofs.lemmas.List.Sums.{length-filter, count_by-le-length}
use Rattle.kmc_record.specs.Shapes.{Sizes}
use Rattle.kmc_record.specs.Parts.{Parcel, ArePartsOf, grown, bin_super_kmers, all_segments, empty_part}
use Rattle.kmc_partcore.specs.declared.shape.TheConstants.{MAX_ITEMS}
use Rattle.kmc_store.specs.Deals.{chunk_at, AreSent, AreDealt}
use Rattle.kmc_stage_one.specs.Splitters.{chunks_of}
use Rattle.kmc_stage_one.specs.Causes.{AreTooMany}
use Rattle.kmc_stage_one.specs.Laws.{FewChunksSpendNoNumbers}

-- a chunk has at most a part for each bin
a_part_each : (number : ℕ) (reads : List (List ℕ)) (shape : Sizes) (parts : List Parcel) → ArePartsOf number reads shape parts → length parts ≤ shape.n
a_part_each number reads shape parts are =
    let test = λ (p : Parcel). nat_lt 0 (length p.body) in
    let all = map (λ bin. grown shape.k (bin_super_kmers shape.k shape.n bin (all_segments shape.k reads) are.cuts) (empty_part number shape bin))
    (range_with_len 0 shape.n) in
    let passed : length parts ≡ count_by test all = ap length are.are ∙ length-filter test all in
    let bins : length all ≡ shape.n = length-map-range_with_len (λ bin. grown shape.k
    (bin_super_kmers shape.k shape.n bin (all_segments shape.k reads) are.cuts) (empty_part number shape bin)) 0 shape.n in
    omega (arith, passed, bins, count_by-le-length test all)

module _ (shape : Sizes) (batch : ℕ) (reads : List (List ℕ)) (sp w : ℕ) where
  -- so many parts come of the chunks below c: at most a part for each bin of each own chunk, whose numbers are sp apart from w on
  abbrev AreFew : ℕ → List Parcel → Type 0
  AreFew c parts = (m : ℕ) → c ≤ w + m * sp → length parts ≤ m * shape.n

  -- an own chunk below the m-th is one more than those below it
  with_own : (c : ℕ) (before own parts : List Parcel) → c % sp ≡ w → parts ≡ before ++ own → AreFew c before → length own ≤ shape.n
      → AreFew (suc c) parts
  with_own c before own parts same is few most = go where
    place : c / sp * sp + w ≡ c
    place = subst (λ r. c / sp * sp + r ≡ c) same (div-add-mod' c sp)

    long : length parts ≡ length before + length own
    long = ap length is ∙ length-append before own

    go : (m : ℕ) → suc c ≤ w + m * sp → length parts ≤ m * shape.n
    go zero le = absurd (omega (arith, place, le))
    go (suc m) le =
        let below : c / sp * sp < suc m * sp = omega (arith, place, le) in
        let last : c / sp < suc m = lt_of_mul-lt-mul_right sp below in
        let at_most : c / sp ≤ m = omega (arith, last) in
        let first : c / sp * sp ≤ m * sp = mul-le-mul_right sp at_most in
        let earlier : length before ≤ m * shape.n = few m (omega (arith, place, first)) in
        let one_more : suc m * shape.n ≡ m * shape.n + shape.n = grind arith in
        omega (arith, long, earlier, most, one_more)

  own_or_other : (c : ℕ) (before own parts : List Parcel) → parts ≡ before ++ own → AreFew c before → AreSent shape
      (chunk_at batch reads c) sp w c own → (b : Bool) → nat_eq (c % sp) w ≡ b → AreFew (suc c) parts
  own_or_other c before own parts is few sent true e =
      let same : c % sp ≡ w = grind (arith, nat_tests) in
      with_own c before own parts same is few (a_part_each c (chunk_at batch reads c) shape own (sent.own same))
  own_or_other c before own parts is few sent false e =
      let other : c % sp ≢ w = grind (arith, nat_tests) in
      let long : length parts ≡ length before + length own = ap length is ∙ length-append before own in
      let none : length own ≡ 0 = ap length (sent.other other) in
      (λ m le. (let earlier = few m (omega (arith, le)) in omega (arith, long, none, earlier)))

  few : (c : ℕ) (parts : List Parcel) → AreDealt shape batch reads sp w c parts → AreFew c parts
  few zero parts is = let none : length parts ≡ 0 = ap length is in (λ m _. omega (arith, none))
  few (suc c) parts is = own_or_other c is.0 is.1.0 parts is.1.1 (few c is.0 is.1.2) is.1.3 (nat_eq (c % sp) w) refl

  not_too_many : (each chunks : ℕ) → each * shape.n ≤ MAX_ITEMS → chunks ≤ each * sp → AreTooMany shape batch reads sp chunks w → ⊥
  not_too_many each chunks bins le many =
      let h = few many.first many.parts many.dealt each (omega (arith, many.within, le)) in omega (arith, many.many, h, bins)

-- so many times as many reads as a chunk has are cut into no more chunks
so_many_chunks : (batch n most : ℕ) → 0 < batch → n ≤ most * batch → chunks_of batch n ≤ most
so_many_chunks batch n most some all = go (nat_le (most + 1) (chunks_of batch n)) refl where
  go : (b : Bool) → nat_le (most + 1) (chunks_of batch n) ≡ b → chunks_of batch n ≤ most
  go true e =
      let more : most + 1 ≤ (n + batch - 1) / batch = grind (arith, nat_tests) in
      let product : (most + 1) * batch ≤ n + batch - 1 = (le-div_iff_mul-le some).0 more in
      let parts : (most + 1) * batch ≡ most * batch + batch = grind arith in
      absurd (omega (arith, product, parts, all, some))
  go false e = grind (arith, nat_tests)

pub no_numbers_spent : FewChunksSpendNoNumbers
no_numbers_spent each shape batch reads sp bins some all cause =
    not_too_many shape batch reads sp cause.0 each (chunks_of batch (length reads)) bins (so_many_chunks batch (length reads) (each * sp) some all) cause.2
