-- Records whose words go into items, those that begin alike together.
use Rattle.std.proofs.Common.{◌≡◌, ℕ, zero, suc, ◌+◌, ◌*◌, ◌%◌, ◌<◌, ◌≤◌, ◌^◌, ◌⊎◌, inl, inr, Bool, true, false, nat_eq, nat_le, List, length, take, drop, set, get_or, replicate, refl, sym, ap, subst, ◌∙◌, arith, add-mul}
use Rattle.std.proofs.lemmas.Bool.Decides.{nat_tests}
use Rattle.std.proofs.lemmas.List.{drop_all, drop_more, get_or-set_same, get_or-set_other, length-replicate, length-set, take-take}
use Rattle.std.proofs.lemmas.List.Sums.{sum_by-append}
use Rattle.std.specs.List.{sum_by}
use Rattle.kmc_base.specs.declared.strands.Strands.{Strands}
use Rattle.kmc_base.specs.Packed.{unpack}
use Rattle.kmc_base.specs.Strands.{keys}
use Rattle.kmc_base.specs.Weights.{AreItems}
use Rattle.kmc_record.specs.RecordKeys.{codes_of, key_words}
use Rattle.kmc_count.specs.Bundles.{worth_of_both, BothGain}
use Rattle.kmc_count.specs.Waiting.{front_worth, placed_worth, AreSettled, BothGainBetween, IsWaiting}
use Rattle.kmc_count.proofs.Fronts.{front_of_record, no_front}
use Rattle.kmc_count.proofs.Waits.{first_place, no_places, same_places, set_place}

-- ---- one place after the other

-- the words between two places are told for those that wait at the one, which wait at the other then
pub settle_more : (strands : Strands) (k f u key : ℕ) (s s' t t' n n' : List ℕ) (old cs new : List ℕ) (from below count : ℕ) → below < from → from < 64
    → count ≡ get_or cs from 0
    → (1 ≤ below → k ≤ below)
    → new ≡ set (set cs from 0) below (get_or (set cs from 0) below 0 + count)
    → ((i : ℕ) → below < i → i < from → get_or cs i 0 ≡ 0)
    → BothGainBetween strands k f u key t t' n n' below from count
    → AreSettled strands k f u key from s s' old t t' cs → AreSettled strands k f u key below s s' old n n' new
settle_more strands k f u key s s' t t' n n' old cs new from below count down inside is word moved none gains h = record {
  each = λ g. omega (arith, gains.each g, h.each g, worth (front_worth strands k g key));
  places = record {
    wide = ap length moved ∙ length-set (set cs from 0) below _ ∙ wide ∙ h.places.wide;
    none = nothing;
    short = nothing_short;
    few = subst (λ m. m < 2 ^ 64) (sym all) h.places.few;
  };
  count = all ∙ h.count;
  fit = λ are. gains.fit (h.fit are);
  bundles_fit = λ are. gains.bundles_fit (h.bundles_fit are);
}
  where
    wide : length (set cs from 0) ≡ length cs
    wide = length-set cs from 0

    v : ℕ
    v = get_or (set cs from 0) below 0

    -- what counts come to by another place
    worth : (w : ℕ → ℕ) → placed_worth w 0 new + count * w from ≡ placed_worth w 0 cs + count * w below
    worth w =
        let one = set_place w cs from 0 (omega (arith, h.places.wide, inside)) in
        let two = set_place w (set cs from 0) below (v + count) (omega (arith, wide, h.places.wide, down, inside)) in
        let split : (v + count) * w below ≡ v * w below + count * w below = add-mul v count (w below) in
        let here : placed_worth w 0 new ≡ placed_worth w 0 (set (set cs from 0) below (v + count)) = ap (placed_worth w 0) moved in
        let zero_worth : 0 * w from ≡ 0 = omega arith in
        let same : count * w from ≡ get_or cs from 0 * w from = ap (λ c. c * w from) is in
        omega (arith, one, two, split, here, zero_worth, same)

    all : placed_worth (λ _. 1) 0 new ≡ placed_worth (λ _. 1) 0 cs
    all = omega (arith, worth (λ _. 1))

    -- a place that is neither of the two keeps what it has
    at_from : (i : ℕ) → get_or cs i 0 ≡ 0 → get_or (set cs from 0) i 0 ≡ 0
    at_from i none = go (nat_eq i from) refl
      where
        go : (b : Bool) → nat_eq i from ≡ b → get_or (set cs from 0) i 0 ≡ 0
        go true e =
            let here : i ≡ from = grind (arith, nat_tests) in
            ap (λ j. get_or (set cs from 0) j 0) here ∙ get_or-set_same cs from 0 0 (omega (arith, h.places.wide, inside))
        go false e =
            let other : i ≡ from → ⊥ = grind (arith, nat_tests) in
            get_or-set_other cs from i 0 0 other ∙ none

    nothing_short : (i : ℕ) → 1 ≤ i → i < k → get_or new i 0 ≡ 0
    nothing_short i some less =
        let apart : i ≡ below → ⊥ = λ e. absurd (omega (arith, e, less, word (omega (arith, e, some)))) in
        ap (λ t. get_or t i 0) moved ∙ get_or-set_other (set cs from 0) below i (v + count) 0 apart ∙ at_from i (h.places.short i some less)

    nothing : (i : ℕ) → below < i → get_or new i 0 ≡ 0
    nothing i up = ap (λ t. get_or t i 0) moved ∙ get_or-set_other (set cs from 0) below i (v + count) 0 (omega (arith, up)) ∙ go (nat_le from i) (nat_le i from) refl refl
      where
        go : (a b : Bool) → nat_le from i ≡ a → nat_le i from ≡ b → get_or (set cs from 0) i 0 ≡ 0
        go true true e f =
            let here : i ≡ from = grind (arith, nat_tests) in
            ap (λ j. get_or (set cs from 0) j 0) here ∙ get_or-set_same cs from 0 0 (omega (arith, h.places.wide, inside))
        go true false e f =
            let more : from < i = grind (arith, nat_tests) in
            get_or-set_other cs from i 0 0 (omega (arith, more)) ∙ h.places.none i more
        go false b e f =
            let less : i < from = grind (arith, nat_tests) in
            get_or-set_other cs from i 0 0 (omega (arith, less)) ∙ none i up less

pub settle_begins : (strands : Strands) (k f u key last : ℕ) (s s' cs : List ℕ) → IsWaiting k last cs → AreSettled strands k f u key last s s' cs s s' cs
settle_begins strands k f u key last s s' cs is = record { each = λ g. refl; places = is; count = refl; fit = λ h. h; bundles_fit = λ h. h }

zeros_at : (n i : ℕ) → get_or {A = ℕ} (replicate n 0) i 0 ≡ 0
zeros_at zero i = refl
zeros_at (suc n) zero = refl
zeros_at (suc n) (suc i) = zeros_at n i

-- ---- one record after the other

module _ (strands : Strands) (k f u : ℕ) (s s' : List ℕ) (all : List ℕ) where
  abbrev keys_worth : (List ℕ → ℕ) → List ℕ → ℕ
  keys_worth g ns = sum_by g (key_words strands k ns)

  -- the words of so many records are in the lists, or wait with the last record
  pub record AreRowsSoFar (key i : ℕ) (n n' counts : List ℕ) : Type 0 where
    pub each : (g : List ℕ → ℕ) → worth_of_both k f u g n n' + placed_worth (front_worth strands k g key) 0 counts + keys_worth g (drop i all)
        ≡ worth_of_both k f u g s s' + keys_worth g all
    pub places : IsWaiting k (key % 64) counts
    pub count : placed_worth (λ _. 1) 0 counts ≡ i
    pub fit : AreItems k f s → AreItems k f n
    pub bundles_fit : AreItems k f s' → AreItems k f n'

  pub rows_begin : (counts : List ℕ) → counts ≡ replicate 64 0 → AreRowsSoFar 0 0 s s' counts
  rows_begin counts zeros = record {
    each = λ g.
        let none : placed_worth (front_worth strands k g 0) 0 counts ≡ 0 = ap (placed_worth (front_worth strands k g 0) 0) zeros
        ∙ no_places (front_worth strands k g 0) 0 64 in
        omega (arith, none);
    places = record {
      wide = ap length zeros ∙ length-replicate {A = ℕ} 64 0;
      none = λ i _. ap (λ t. get_or t i 0) zeros ∙ zeros_at 64 i;
      short = λ i _ _. ap (λ t. get_or t i 0) zeros ∙ zeros_at 64 i;
      few = subst (λ m. m < 2 ^ 64) (sym nothing) (omega arith);
    };
    count = nothing;
    fit = λ h. h;
    bundles_fit = λ h. h;
  }
    where
      nothing : placed_worth (λ _. 1) 0 counts ≡ 0
      nothing = ap (placed_worth (λ _. 1) 0) zeros ∙ no_places (λ _. 1) 0 64

  record_first : (g : List ℕ → ℕ) (i : ℕ) → i < length all → keys_worth g (drop i all)
      ≡ sum_by g (keys strands k (codes_of (get_or all i 0))) + keys_worth g (drop (i + 1) all)
  record_first g i inside = ap (keys_worth g) (drop_more all i 0 inside)
      ∙ sum_by-append g (keys strands k (codes_of (get_or all i 0))) (key_words strands k (drop (i + 1) all))

  -- the last record is settled to what it shares with the next one, which waits at its end
  pub row_more : (key next i shared : ℕ) (n n' m m' cs ds es : List ℕ) → i < length all → next ≡ get_or all i 0
      → take shared (unpack 64 key) ≡ take shared (unpack 64 next) → shared ≤ next % 64 → k ≤ next % 64
      → AreSettled strands k f u key shared n n' cs m m' ds
      → es ≡ set ds (next % 64) (get_or ds (next % 64) 0 + 1) → length all < 2 ^ 64
      → AreRowsSoFar key i n n' cs → AreRowsSoFar next (i + 1) m m' es
  row_more key next i shared n n' m m' cs ds es inside at alike short long settled more few h = record {
    each = λ g.
        let new = worth (front_worth strands k g next) in
        let same : placed_worth (front_worth strands k g key) 0 ds ≡ placed_worth (front_worth strands k g next) 0 ds =
        same_places (front_worth strands k g key) (front_worth strands k g next) ds (fronts g) in
        let whole : front_worth strands k g next (next % 64) ≡ sum_by g (keys strands k (codes_of (get_or all i 0))) =
        ap (λ t. sum_by g (keys strands k t)) (front_of_record next) ∙ ap (λ t. sum_by g (keys strands k (codes_of t))) at in
        omega (arith, h.each g, settled.each g, new, same, whole, record_first g i inside);
    places = record {
      wide = ap length more ∙ length-set ds (next % 64) _ ∙ settled.places.wide;
      none = λ j up. ap (λ t. get_or t j 0) more ∙ get_or-set_other ds (next % 64) j _ 0 (omega (arith, up))
          ∙ settled.places.none j (omega (arith, up, short));
      short = λ j some less. ap (λ t. get_or t j 0) more ∙ get_or-set_other ds (next % 64) j _ 0 (λ e. absurd (omega (arith, e, less, long)))
          ∙ settled.places.short j some less;
      few = omega (arith, counted, few, inside);
    };
    count = counted;
    fit = λ are. settled.fit (h.fit are);
    bundles_fit = λ are. settled.bundles_fit (h.bundles_fit are);
  }
    where
      worth : (w : ℕ → ℕ) → placed_worth w 0 es ≡ placed_worth w 0 ds + w (next % 64)
      worth w =
          let j = next % 64 in
          let c = get_or ds j 0 in
          let one = set_place w ds j (c + 1) (omega (arith, settled.places.wide)) in
          let split : (c + 1) * w j ≡ c * w j + 1 * w j = add-mul c 1 (w j) in
          let here : placed_worth w 0 es ≡ placed_worth w 0 (set ds j (c + 1)) = ap (placed_worth w 0) more in
          omega (arith, one, split, here)

      counted : placed_worth (λ _. 1) 0 es ≡ i + 1
      counted = worth (λ _. 1) ∙ omega (arith, settled.count, h.count)

      fronts : (g : List ℕ → ℕ) (j : ℕ) → j < length ds → (get_or ds j 0 ≡ 0) ⊎ (front_worth strands k g key j ≡ front_worth strands k g next j)
      fronts g j _ = go (nat_le j shared) refl
        where
          go : (b : Bool) → nat_le j shared ≡ b → (get_or ds j 0 ≡ 0) ⊎ (front_worth strands k g key j ≡ front_worth strands k g next j)
          go true e =
              let low : j ≤ shared = grind (arith, nat_tests) in
              let front : take j (unpack 64 key) ≡ take j (unpack 64 next) =
              sym (take-take j shared (unpack 64 key) low) ∙ ap (take j) alike ∙ take-take j shared (unpack 64 next) low in
              inr (ap (λ t. sum_by g (keys strands k t)) front)
          go false e =
              let high : shared < j = grind (arith, nat_tests) in
              inl (settled.places.none j high)

  pub rows_end : (key i : ℕ) (n n' m m' cs ds : List ℕ) → 1 ≤ k → length all ≤ i → AreSettled strands k f u key 0 n n' cs m m' ds → AreRowsSoFar key i n n' cs
      → BothGain k f u s s' m m' (key_words strands k all) 1
  rows_end key i n n' m m' cs ds some end settled h = record {
    each = λ g.
        let left : keys_worth g (drop i all) ≡ 0 = ap (keys_worth g) (drop_all i all end) in
        let none = first_place (front_worth strands k g key) ds (no_front strands k g key 0 some) (λ j up. settled.places.none j up) in
        omega (arith, h.each g, settled.each g, left, none);
    fit = λ are. settled.fit (h.fit are);
    bundles_fit = λ are. settled.bundles_fit (h.bundles_fit are);
  }
