-- What the counters of a table come to.
use Rattle.std.proofs.Common.{◌≡◌, ℕ, zero, suc, ◌+◌, ◌*◌, ◌/◌, ◌^◌, ◌<◌, ◌≤◌, List, [], ◌∷◌, ◌++◌, length, take, drop, set, get_or, replicate, refl, sym, ap, subst, ◌∙◌, arith, zero-add, add-zero, drop_of_length-le}
use Rattle.std.proofs.lemmas.List.{length-replicate, length-set, take_more}
use Rattle.std.proofs.lemmas.List.Elements.{All-append, All-from_recursion, All-replicate, All-set}
use Rattle.std.proofs.lemmas.List.Sums.{sum_by-cons}
use Rattle.std.proofs.Math.Nat.{add-mul}
use Rattle.std.proofs.Math.Pow.{pow_mono}
use Rattle.std.proofs.lemmas.Nat.{mod_below}
use Rattle.kmc_base.specs.Lemmas.Weights.{pow_two_some}
use Rattle.std.specs.List.{AllByRecursion}
use Rattle.kmc_base.specs.Packed.{unpack}
use Rattle.kmc_base.specs.Weights.{item, items, item_weight, weighted, worth, AreItems}
use Rattle.kmc_record.specs.Lemmas.Gaining.{word_of_item, weight_of_item, worth_append}
use Rattle.kmc_count.specs.Tables.{table_worth, ComeToAsMuch, IsTable, TakesIn}

-- a weight is at most what the bits beside a word hold
pub weight_low : (f n : ℕ) → item_weight f n ≤ 2 ^ f
weight_low f n = omega (arith, mod_below n (2 ^ f) (pow_two_some f))

pub small_counter : (f : ℕ) → f ≤ 20 → 2 ^ f ≤ 2 ^ 20
small_counter f most = pow_mono most

module _ (g : List ℕ → ℕ) (k : ℕ) where
  -- what one of the word n is worth
  abbrev one : ℕ → ℕ
  one n = g (unpack k n)

  -- ---- a counter is set

  set_from : (n : ℕ) (cs : List ℕ) (j v : ℕ) → j < length cs → table_worth g k n (set cs j v) + get_or cs j 0 * one (n + j)
      ≡ table_worth g k n cs + v * one (n + j)
  set_from n [] j v inside = absurd (omega (arith, inside))
  set_from n (c ∷ cs) zero v inside =
      let same : n + 0 ≡ n = add-zero n in
      let here : c * one (n + 0) ≡ c * one n = ap (λ m. c * one m) same in
      let there : v * one (n + 0) ≡ v * one n = ap (λ m. v * one m) same in
      omega (arith, here, there)
  set_from n (c ∷ cs) (suc j) v inside =
      let e : 1 + n + j ≡ n + suc j = omega arith in
      let rest = set_from (1 + n) cs j v (omega (arith, inside)) in
      let here : get_or cs j 0 * one (1 + n + j) ≡ get_or cs j 0 * one (n + suc j) = ap (λ m. get_or cs j 0 * one m) e in
      let there : v * one (1 + n + j) ≡ v * one (n + suc j) = ap (λ m. v * one m) e in
      omega (arith, rest, here, there)

  pub set_worth : (cs : List ℕ) (j v : ℕ) → j < length cs → table_worth g k 0 (set cs j v) + get_or cs j 0 * one j
      ≡ table_worth g k 0 cs + v * one j
  set_worth cs j v inside = subst (λ m. table_worth g k 0 (set cs j v) + get_or cs j 0 * one m ≡ table_worth g k 0 cs + v * one m) (zero-add j)
      (set_from 0 cs j v inside)

  -- ---- one counter after the other

  first_from : (n : ℕ) (cs : List ℕ) (j : ℕ) → j < length cs → table_worth g k (n + j) (drop j cs)
      ≡ get_or cs j 0 * one (n + j) + table_worth g k (1 + (n + j)) (drop (suc j) cs)
  first_from n [] j inside = absurd (omega (arith, inside))
  first_from n (c ∷ cs) zero inside = refl
  first_from n (c ∷ cs) (suc j) inside =
      let e : 1 + n + j ≡ n + suc j = omega arith in
      subst (λ m. table_worth g k m (drop j cs) ≡ get_or cs j 0 * one m + table_worth g k (1 + m) (drop (suc j) cs)) e
      (first_from (1 + n) cs j (omega (arith, inside)))

  pub first_worth : (cs : List ℕ) (j : ℕ) → j < length cs → table_worth g k j (drop j cs)
      ≡ get_or cs j 0 * one j + table_worth g k (j + 1) (drop (j + 1) cs)
  first_worth cs j inside =
      let once : 1 + j ≡ j + 1 = omega arith in
      let more : suc j ≡ j + 1 = omega arith in
      subst (λ m. table_worth g k m (drop j cs) ≡ get_or cs j 0 * one m + table_worth g k (1 + m) (drop (suc j) cs)) (zero-add j)
      (first_from 0 cs j inside)
      ∙ (λ i. get_or cs j 0 * one j + table_worth g k (once i) (drop (more i) cs))

  pub zeros_worth : (n m : ℕ) → table_worth g k n (replicate m 0) ≡ 0
  zeros_worth n zero = refl
  zeros_worth n (suc m) =
      let none : 0 * one n ≡ 0 = omega arith in
      omega (arith, none, zeros_worth (1 + n) m)

  -- ---- items

  pub worth_item : (f n : ℕ) → worth g (items k f (n ∷ [])) ≡ item_weight f n * one (n / 2 ^ f)
  worth_item f n = sum_by-cons (λ (p : List ℕ × ℕ). p.1 * g p.0) (item k f n) [] ∙ add-zero _

  pub counter_item : (f m p : ℕ) → 1 ≤ m → m ≤ 2 ^ f → worth g (items k f (weighted f m p ∷ [])) ≡ m * one p
  counter_item f m p some most =
      worth_item f (weighted f m p) ∙ (λ i. weight_of_item k f m p some most i * one (word_of_item k f m p some most i))

module _ (k f : ℕ) where
  pub fit_push : (over : List ℕ) (m p : ℕ) → 1 ≤ m → m ≤ 2 ^ f → p < 4 ^ k → AreItems k f over → AreItems k f (over ++ weighted f m p ∷ [])
  fit_push over m p some most fits are =
      let one : AllByRecursion (λ n. n / 2 ^ f < 4 ^ k) (weighted f m p ∷ []) = (subst (λ w. w < 4 ^ k) (sym (word_of_item k f m p some most)) fits, tt) in
      All-append (λ n. n / 2 ^ f < 4 ^ k) over (weighted f m p ∷ []) are (All-from_recursion (λ n. n / 2 ^ f < 4 ^ k) (weighted f m p ∷ []) one)

  -- a counter is set to what is at most full
  set_table : (cs : List ℕ) (p v : ℕ) → v ≤ 2 ^ f → IsTable k f cs → IsTable k f (set cs p v)
  set_table cs p v most is = record {
    wide = length-set cs p v ∙ is.wide;
    low = All-set (λ c. c ≤ 2 ^ f) cs p v most is.low;
  }

  module _ (cs over : List ℕ) (n p t : ℕ) (word : p ≡ n / 2 ^ f) (times : t ≡ item_weight f n) (is : IsTable k f cs) (fits : p < 4 ^ k) where
    more : (g : List ℕ → ℕ) → worth g (items k f (n ∷ [])) ≡ t * g (unpack k p)
    more g = worth_item g k f n ∙ (λ i. sym times i * g (unpack k (sym word i)))

    inside : p < length cs
    inside = omega (arith, is.wide, fits)

    pub counter_grows : get_or cs p 0 + t ≤ 2 ^ f → TakesIn k f cs over (set cs p (get_or cs p 0 + t)) over (n ∷ [])
    counter_grows most = record {
      each = λ g.
          let split : (get_or cs p 0 + t) * g (unpack k p) ≡ get_or cs p 0 * g (unpack k p) + t * g (unpack k p) = add-mul (get_or cs p 0) t (g (unpack k p)) in
          omega (arith, set_worth g k cs p (get_or cs p 0 + t) inside, split, more g);
      fit = λ are. are;
      table = set_table cs p (get_or cs p 0 + t) most is;
    }

    pub counter_begins_anew : (m : ℕ) → m ≡ get_or cs p 0 → 1 ≤ m → t ≤ 2 ^ f
        → TakesIn k f cs over (set cs p t) (over ++ weighted f m p ∷ []) (n ∷ [])
    counter_begins_anew m count some most =
        let low : m ≤ 2 ^ f = subst (λ c. c ≤ 2 ^ f) (sym count) (is.low p 0 inside) in record {
          each = λ g.
              let left : worth g (items k f (over ++ weighted f m p ∷ [])) ≡ worth g (items k f over) + m * g (unpack k p) =
              worth_append k f g over (weighted f m p ∷ []) ∙ ap (λ x. worth g (items k f over) + x) (counter_item g k f m p some low) in
              let same : m * g (unpack k p) ≡ get_or cs p 0 * g (unpack k p) = ap (λ c. c * g (unpack k p)) count in
              omega (arith, set_worth g k cs p t inside, left, same, more g);
          fit = fit_push over m p some low fits;
          table = set_table cs p t most is;
        }

  -- ---- all items

  pub none_taken : (cs over : List ℕ) → IsTable k f cs → TakesIn k f cs over cs over []
  none_taken cs over is = record {
    each = λ g. sym (add-zero _);
    fit = λ are. are;
    table = is;
  }

  pub one_more_taken : (cs over cs' over' cs'' over'' ns : List ℕ) (i : ℕ) → i < length ns → TakesIn k f cs over cs' over' (take i ns)
      → TakesIn k f cs' over' cs'' over'' (get_or ns i 0 ∷ []) → TakesIn k f cs over cs'' over'' (take (i + 1) ns)
  one_more_taken cs over cs' over' cs'' over'' ns i inside before here = record {
    each = λ g.
        let both : worth g (items k f (take (i + 1) ns)) ≡ worth g (items k f (take i ns)) + worth g (items k f (get_or ns i 0 ∷ [])) =
        ap (λ (t : List ℕ). worth g (items k f t)) (take_more ns i 0 inside) ∙ worth_append k f g (take i ns) (get_or ns i 0 ∷ []) in
        omega (arith, before.each g, here.each g, both);
    fit = λ are. here.fit (before.fit are);
    table = here.table;
  }

  -- ---- counters that become items

  -- as far as the counter j they became items behind those at the start
  pub record HasPushed (cs start now : List ℕ) (j : ℕ) : Type 0 where
    pub each : (g : List ℕ → ℕ) → worth g (items k f now) + table_worth g k j (drop j cs) ≡ worth g (items k f start) + table_worth g k 0 cs
    pub fit : AreItems k f start → AreItems k f now

  pub counter_pushed : (cs start now : List ℕ) (j c : ℕ) → j < length cs → j < 4 ^ k → c ≡ get_or cs j 0 → 1 ≤ c → c ≤ 2 ^ f → HasPushed cs start now j
      → HasPushed cs start (now ++ weighted f c j ∷ []) (j + 1)
  counter_pushed cs start now j c inside fits count some most h = record {
    each = λ g.
        let more : worth g (items k f (now ++ weighted f c j ∷ [])) ≡ worth g (items k f now) + c * g (unpack k j) =
        worth_append k f g now (weighted f c j ∷ []) ∙ ap (λ x. worth g (items k f now) + x) (counter_item g k f c j some most) in
        let same : c * g (unpack k j) ≡ get_or cs j 0 * g (unpack k j) = ap (λ m. m * g (unpack k j)) count in
        omega (arith, h.each g, first_worth g k cs j inside, more, same);
    fit = λ are. fit_push now c j some most fits (h.fit are);
  }

  pub counter_passed : (cs start now : List ℕ) (j : ℕ) → j < length cs → get_or cs j 0 ≡ 0 → HasPushed cs start now j → HasPushed cs start now (j + 1)
  counter_passed cs start now j inside none h = record {
    each = λ g.
        let same : get_or cs j 0 * g (unpack k j) ≡ 0 * g (unpack k j) = ap (λ m. m * g (unpack k j)) none in
        omega (arith, h.each g, first_worth g k cs j inside, same);
    fit = h.fit;
  }

  pub all_pushed : (cs start now : List ℕ) (j : ℕ) → length cs ≤ j → HasPushed cs start now j → (g : List ℕ → ℕ) → worth g (items k f now)
      ≡ worth g (items k f start) + table_worth g k 0 cs
  all_pushed cs start now j end h g =
      let none : table_worth g k j (drop j cs) ≡ 0 = ap (λ (t : List ℕ). table_worth g k j t) (drop_of_length-le cs end) in
      omega (arith, h.each g, none)

  pub fresh_table : IsTable k f (replicate (4 ^ k) 0)
  fresh_table = record {
    wide = length-replicate (4 ^ k) 0;
    low = All-replicate (λ c. c ≤ 2 ^ f) (4 ^ k) 0 (omega arith);
  }

  pub added_up : (cs over all new : List ℕ) → TakesIn k f (replicate (4 ^ k) 0) [] cs over all
      → ((g : List ℕ → ℕ) → worth g (items k f new) ≡ worth g (items k f over) + table_worth g k 0 cs)
      → (AreItems k f over → AreItems k f new) → ComeToAsMuch k f all new
  added_up cs over all new taken each fit = record {
    each = λ g. omega (arith, taken.each g, each g, zeros_worth g k 0 (4 ^ k));
    fit = λ _. fit (taken.fit (All-from_recursion (λ n. n / 2 ^ f < 4 ^ k) [] tt));
  }
