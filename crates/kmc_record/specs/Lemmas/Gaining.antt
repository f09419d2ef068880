-- What items gain.
use Rattle.std.proofs.Common.{◌≡◌, ℕ, ◌+◌, ◌-◌, ◌*◌, ◌/◌, ◌%◌, ◌^◌, ◌<◌, ◌≤◌, List, [], ◌∷◌, ◌++◌, length, map, drop, get_or, sym, ap, subst, ◌∙◌, arith}
use Rattle.std.proofs.lemmas.List.{map-append, drop_more}
use Rattle.std.proofs.lemmas.List.Elements.{All-append, All-from_recursion}
use Rattle.std.proofs.lemmas.List.Sums.{sum_by-cons, sum_by-append}
use Rattle.std.proofs.lemmas.Nat.{div-mul-add, mod-mul-add}
use Rattle.std.specs.List.{sum_by, AllByRecursion}
use Rattle.kmc_base.specs.declared.strands.Strands.{Strands}
use Rattle.kmc_base.specs.Packed.{pack, unpack}
use Rattle.kmc_base.specs.Strands.{keys}
use Rattle.kmc_base.specs.Weights.{item, items, item_weight, weighted, worth, AreItems}
use Rattle.kmc_record.specs.RecordKeys.{codes_of, key_words, Gains}
use Rattle.kmc_base.specs.Lemmas.Keys.{AreWords, keys_are_words}
use Rattle.kmc_record.specs.Lemmas.KeyBytes.{are_codes}
use Rattle.kmc_base.specs.Lemmas.Packs.{pack_fits, unpack_pack}

module _ (k f : ℕ) where
  -- ---- items of words that are each counted m times

  pub word_of_item : (m n : ℕ) → 1 ≤ m → m ≤ 2 ^ f → weighted f m n / 2 ^ f ≡ n
  word_of_item m n once most = div-mul-add n (2 ^ f) (m - 1) (omega arith)

  pub weight_of_item : (m n : ℕ) → 1 ≤ m → m ≤ 2 ^ f → item_weight f (weighted f m n) ≡ m
  weight_of_item m n once most =
      let low : weighted f m n % 2 ^ f ≡ m - 1 = mod-mul-add n (2 ^ f) (m - 1) (omega arith) in
      omega (arith, low)

  worth_weighted : (g : List ℕ → ℕ) (m : ℕ) (ws : List (List ℕ)) → 1 ≤ m → m ≤ 2 ^ f → AreWords k ws → worth g
      (items k f (map (weighted f m) (map pack ws))) ≡ m * sum_by g ws
  worth_weighted g m [] once most are = omega arith
  worth_weighted g m (w ∷ ws) once most are =
      let n = weighted f m (pack w) in
      let one : List ℕ × ℕ → ℕ = λ p. p.1 * g p.0 in
      let word : unpack k (n / 2 ^ f) ≡ w = ap (unpack k) (word_of_item m (pack w) once most) ∙ ap (λ j. unpack j (pack w)) (sym are.0.0)
      ∙ unpack_pack w are.0.1 in
      let here : one (item k f n) ≡ m * g w = λ i. weight_of_item m (pack w) once most i * g (word i) in
      let rest = worth_weighted g m ws once most are.1 in
      let split : worth g (items k f (map (weighted f m) (map pack (w ∷ ws)))) ≡ one (item k f n) + worth g (items k f (map (weighted f m) (map pack ws))) =
      sum_by-cons one (item k f n) (items k f (map (weighted f m) (map pack ws))) in
      let all : sum_by g (w ∷ ws) ≡ g w + sum_by g ws = sum_by-cons g w ws in
      split ∙ (λ i. here i + rest i) ∙ omega (arith, ap (λ t. m * t) all)

  fit_weighted : (m : ℕ) (ws : List (List ℕ)) → 1 ≤ m → m ≤ 2 ^ f → AreWords k ws → AllByRecursion (λ n. n / 2 ^ f < 4 ^ k) (map (weighted f m) (map pack ws))
  fit_weighted m [] once most are = tt
  fit_weighted m (w ∷ ws) once most are =
      let fits : pack w < 4 ^ k = rw are.0.0 at (pack_fits w are.0.1) in
      (subst (λ n. n < 4 ^ k) (sym (word_of_item m (pack w) once most)) fits, fit_weighted m ws once most are.1)

  pub worth_append : (g : List ℕ → ℕ) (a b : List ℕ) → worth g (items k f (a ++ b)) ≡ worth g (items k f a) + worth g (items k f b)
  worth_append g a b = ap (worth g) (map-append (item k f) a b) ∙ sum_by-append (λ (p : List ℕ × ℕ). p.1 * g p.0) (items k f a) (items k f b)

  pub gains_words : (old new : List ℕ) (ws : List (List ℕ)) (m : ℕ) → 1 ≤ m → m ≤ 2 ^ f → AreWords k ws → new ≡ old ++ map (weighted f m)
      (map pack ws) → Gains k f old new ws m
  gains_words old new ws m once most are is = record {
    each = λ g. ap (λ (t : List ℕ). worth g (items k f t)) is ∙ worth_append g old (map (weighted f m) (map pack ws)) ∙ ap
        (λ n. worth g (items k f old) + n) (worth_weighted g m ws once most are);
    fit = λ h. subst (AreItems k f) (sym is) (All-append (λ n. n / 2 ^ f < 4 ^ k) old (map (weighted f m) (map pack ws)) h
        (All-from_recursion (λ n. n / 2 ^ f < 4 ^ k) _ (fit_weighted m ws once most are)));
  }

  -- ---- steps

  pub gains_more : (a b c : List ℕ) (ws : List (List ℕ)) (m n s : ℕ) → s ≡ m + n → Gains k f a b ws m → Gains k f b c ws n → Gains k f a c ws s
  gains_more a b c ws m n s e h h' = record {
    each = λ g. let x = h.each g in let y = h'.each g in rw e (omega (arith, x, y));
    fit = λ fits. h'.fit (h.fit fits);
  }

  module _ (strands : Strands) where
    pub row_words : (key : ℕ) → AreWords k (keys strands k (codes_of key))
    row_words key = keys_are_words strands k (codes_of key) (are_codes key)

    -- what the words of one record, and those of a list of them, are worth
    abbrev pub one_worth : (List ℕ → ℕ) → ℕ → ℕ
    one_worth g key = sum_by g (keys strands k (codes_of key))

    abbrev pub keys_worth : (List ℕ → ℕ) → List ℕ → ℕ
    keys_worth g ns = sum_by g (key_words strands k ns)

    keys_worth_cons : (g : List ℕ → ℕ) (key : ℕ) (ns : List ℕ) → keys_worth g (key ∷ ns) ≡ one_worth g key + keys_worth g ns
    keys_worth_cons g key ns = sum_by-append g (keys strands k (codes_of key)) (key_words strands k ns)

    -- the words of an open row of `count` records `key`, and of the rest, are still to come: with what the items are worth by
    -- now they come to what they were worth in the beginning, and all keys
    pub record IsOpenRow (start now : List ℕ) (key count : ℕ) (rest all : List ℕ) : Type 0 where
      pub each : (g : List ℕ → ℕ) → worth g (items k f now) + (count * one_worth g key + keys_worth g rest) ≡ worth g (items k f start) + keys_worth g all
      pub fit : AreItems k f start → AreItems k f now

    drop_worth : (g : List ℕ → ℕ) (rest : List ℕ) (i : ℕ) → i < length rest → keys_worth g (drop i rest) ≡ one_worth g
        (get_or rest i 0) + keys_worth g (drop (i + 1) rest)
    drop_worth g rest i inside = ap (keys_worth g) (drop_more rest i 0 inside) ∙ keys_worth_cons g (get_or rest i 0) (drop (i + 1) rest)

    pub row_goes_on : (start now : List ℕ) (key count i : ℕ) (rest all : List ℕ) → i < length rest → get_or rest i 0 ≡ key
        → IsOpenRow start now key count (drop i rest) all → IsOpenRow start now key (count + 1) (drop (i + 1) rest) all
    row_goes_on start now key count i rest all inside same h = record {
      each = λ g.
          let e = drop_worth g rest i inside in
          let s : one_worth g (get_or rest i 0) ≡ one_worth g key = ap (one_worth g) same in
          let b = h.each g in
          omega (arith, e, s, b);
      fit = h.fit;
    }

    pub row_ends : (start now more : List ℕ) (key count i : ℕ) (rest all : List ℕ) → i < length rest → Gains k f now more (keys strands k (codes_of key)) count
        → IsOpenRow start now key count (drop i rest) all → IsOpenRow start more (get_or rest i 0) 1 (drop (i + 1) rest) all
    row_ends start now more key count i rest all inside gains h = record {
      each = λ g.
          let e = drop_worth g rest i inside in
          let s = gains.each g in
          let b = h.each g in
          omega (arith, e, s, b);
      fit = λ fits. gains.fit (h.fit fits);
    }

    pub last_row : (start now more : List ℕ) (key count : ℕ) (rest all : List ℕ) → rest ≡ [] → Gains k f now more (keys strands k (codes_of key)) count
        → IsOpenRow start now key count rest all → Gains k f start more (key_words strands k all) 1
    last_row start now more key count rest all end gains h = record {
      each = λ g.
          let e : keys_worth g rest ≡ 0 = ap (keys_worth g) end in
          let s = gains.each g in
          let b = h.each g in
          omega (arith, e, s, b);
      fit = λ fits. gains.fit (h.fit fits);
    }

    pub no_rows : (old : List ℕ) (all : List ℕ) → length all ≡ 0 → Gains k f old old (key_words strands k all) 1
    no_rows old [] none = record { each = λ g. omega arith; fit = λ h. h }
    no_rows old (n ∷ ns) none = absurd (omega arith)
