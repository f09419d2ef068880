-- Records that are taken in.
use Rattle.std.proofs.Common.{◌≡◌, ℕ, ◌+◌, ◌/◌, ◌^◌, ◌<◌, ◌≤◌, List, [], ◌∷◌, ◌++◌, length, map, refl, sym, ap, ◌∙◌, arith}
use Rattle.std.proofs.lemmas.List.Elements.{All-append, All-cons, All-nil}
use Rattle.std.proofs.lemmas.List.Sorted.{sum_by-IsPermutation}
use Rattle.std.proofs.lemmas.List.Sums.{sum_by-cons, sum_by-append}
use Rattle.std.specs.List.{sum_by}
use Rattle.std.specs.List.Sorted.{IsPermutation}
use Rattle.kmc_base.specs.declared.strands.Strands.{Strands}
use Rattle.kmc_base.specs.Packed.{pack}
use Rattle.kmc_base.specs.Strands.{key, keys}
use Rattle.kmc_base.specs.Weights.{weighted}
use Rattle.kmc_base.specs.Lemmas.Keys.{keys_are_words}
use Rattle.kmc_base.specs.Lemmas.Packs.{AreCodes}
use Rattle.kmc_record.specs.RecordWords.{record_keys}
use Rattle.kmc_record.specs.RecordKeys.{codes_of, symbols_of, key_words, IsRecordKey, GainsWords, IsTaken}
use Rattle.kmc_record.specs.Lemmas.Gaining.{gains_words}
use Rattle.kmc_record.specs.Lemmas.Turned.{canonical_words}

-- the codes of a record of at least one word
pub record IsRecord (k : ℕ) (s : List ℕ) : Type 0 where
  pub least : k ≤ length s
  pub codes : AreCodes s

module _ (strands : Strands) (k : ℕ) where
  pub key_worth_is : (g : List ℕ → ℕ) (ns : List ℕ) → sum_by g (key_words strands k ns) ≡ sum_by (λ n. sum_by g (keys strands k (codes_of n))) ns
  key_worth_is g [] = refl
  key_worth_is g (n ∷ ns) =
      sum_by-append g (keys strands k (codes_of n)) (key_words strands k ns)
      ∙ ap (λ m. sum_by g (keys strands k (codes_of n)) + m) (key_worth_is g ns)
      ∙ sym (sum_by-cons (λ n. sum_by g (keys strands k (codes_of n))) n ns)

  pub moved_keys : (g : List ℕ → ℕ) (ns ms : List ℕ) → IsPermutation ns ms → sum_by g (key_words strands k ms) ≡ sum_by g (key_words strands k ns)
  moved_keys g ns ms moves = key_worth_is g ms ∙ sum_by-IsPermutation (λ n. sum_by g (keys strands k (codes_of n))) ns ms moves ∙ sym (key_worth_is g ns)

  -- ---- one record more

  pub records_push : (g : List ℕ → ℕ) (ss : List (List ℕ)) (s : List ℕ) → sum_by g (record_keys strands k (ss ++ s ∷ [])) ≡ sum_by g
      (record_keys strands k ss) + sum_by g (keys strands k s)
  records_push g [] s = sum_by-append g (keys strands k s) [] ∙ omega arith
  records_push g (r ∷ ss) s =
      sum_by-append g (keys strands k r) (record_keys strands k (ss ++ s ∷ []))
      ∙ omega (arith, records_push g ss s, sum_by-append g (keys strands k r) (record_keys strands k ss))

  keys_push : (g : List ℕ → ℕ) (ns : List ℕ) (n : ℕ) → sum_by g (key_words strands k (ns ++ n ∷ [])) ≡ sum_by g (key_words strands k ns) + sum_by g
      (keys strands k (codes_of n))
  keys_push g [] n = sum_by-append g (keys strands k (codes_of n)) [] ∙ omega arith
  keys_push g (m ∷ ns) n =
      sum_by-append g (keys strands k (codes_of m)) (key_words strands k (ns ++ n ∷ []))
      ∙ omega (arith, keys_push g ns n, sum_by-append g (keys strands k (codes_of m)) (key_words strands k ns))

  -- its number is put behind the others
  pub gains_key : (ns : List ℕ) (s : List ℕ) (n : ℕ) → IsRecord k s → symbols_of n ≡ length s → codes_of n ≡ key strands s
      → GainsWords strands k ns (ns ++ n ∷ []) s
  gains_key ns s n is long codes = record {
    each = λ g.
        let same = sum_by-IsPermutation g (keys strands k s) (keys strands k (key strands s)) (canonical_words strands k s is.codes) in
        let here : sum_by g (keys strands k (codes_of n)) ≡ sum_by g (keys strands k (key strands s)) = ap (λ t. sum_by g (keys strands k t)) codes in
        omega (arith, same, here, keys_push g ns n);
    long = λ h. All-append (IsRecordKey k) ns (n ∷ []) h (All-cons (IsRecordKey k) n [] (omega (arith, long, is.least)) (All-nil (IsRecordKey k)));
  }

  module _ (f : ℕ) where
    pub none_taken : IsTaken strands k f [] [] []
    none_taken = record { each = λ g. refl; fit = All-nil (λ n. n / 2 ^ f < 4 ^ k); long = All-nil (IsRecordKey k) }

    -- the numbers of its pieces are kept
    pub pieces_taken : (old new now : List ℕ) (ss : List (List ℕ)) (s : List ℕ) → GainsWords strands k old new s
        → IsTaken strands k f old now ss → IsTaken strands k f new now (ss ++ s ∷ [])
    pieces_taken old new now ss s gains h = record {
      each = λ g. omega (arith, gains.each g, records_push g ss s, h.each g);
      fit = h.fit;
      long = gains.long h.long;
    }

    -- its words are put into items
    pub words_taken : (ks now more : List ℕ) (ss : List (List ℕ)) (s : List ℕ) → IsRecord k s → more ≡ now ++ map (weighted f 1)
        (map pack (keys strands k s)) → 1 ≤ 2 ^ f
        → IsTaken strands k f ks now ss → IsTaken strands k f ks more (ss ++ s ∷ [])
    words_taken ks now more ss s is pushed room h =
        let once : 1 ≤ 1 = omega arith in
        let gains = gains_words k f now more (keys strands k s) 1 once room (keys_are_words strands k s is.codes) pushed in
        record {
          each = λ g. omega (arith, gains.each g, records_push g ss s, h.each g);
          fit = gains.fit h.fit;
          long = h.long;
        }
