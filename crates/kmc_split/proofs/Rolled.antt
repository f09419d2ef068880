-- The canonical form of a window from the two numbers that rolled over it.
use Rattle.std.proofs.Common.{◌≡◌, ℕ, ◌+◌, ◌-◌, ◌^◌, ◌<◌, ◌≤◌, List, length, min, sym, ap, subst, ◌∙◌, arith}
use Rattle.kmc_base.specs.declared.strands.Strands.TheVariants.{Joined}
use Rattle.kmc_base.specs.Words.{canonical, window}
use Rattle.kmc_base.specs.Packed.{pack, unpack}
use Rattle.kmc_base.specs.Lemmas.Packs.{AreCodes, unpack_pack, pack_fits}
use Rattle.kmc_base.specs.Lemmas.Rolling.{IsRolling, roll_key}
use Rattle.kmc_base.specs.Lemmas.Keys.{IsWord, key_is_word, window_is_word}

-- a number below 4 ^ m that unpacks to the canonical form
pub record Holds (m : ℕ) (w : List ℕ) (x : ℕ) : Type 0 where
  pub fits : x < 4 ^ m
  pub is : unpack m x ≡ canonical w

-- the number of the canonical form is one
pub number_holds : (m : ℕ) (codes : List ℕ) (j x : ℕ) → AreCodes codes → j + m ≤ length codes → x ≡ pack (canonical (window m codes j))
    → Holds m (window m codes j) x
number_holds m codes j x h inside number =
    let word : IsWord m (canonical (window m codes j)) = key_is_word Joined m (window m codes j) (window_is_word m codes j h inside) in
    record {
      fits = subst (λ n. n < 4 ^ m) (sym number) (subst (λ n. pack (canonical (window m codes j)) < 4 ^ n) word.0
          (pack_fits (canonical (window m codes j)) word.1));
      is = ap (unpack m) number ∙ ap (λ n. unpack n (pack (canonical (window m codes j)))) (sym word.0) ∙ unpack_pack (canonical (window m codes j)) word.1;
    }

pub lesser_holds : (m : ℕ) (codes : List ℕ) (j i f b x : ℕ) → AreCodes codes → i ≡ j + m → i ≤ length codes → IsRolling m codes i f b → x ≡ min f b
    → Holds m (window m codes j) x
lesser_holds m codes j i f b x h place inside rolling e =
    let back : i - m ≡ j = omega arith in
    number_holds m codes j x h (omega arith)
    (e ∙ roll_key Joined m codes i f b h (omega arith) rolling ∙ ap (λ n. pack (canonical (window m codes n))) back)
