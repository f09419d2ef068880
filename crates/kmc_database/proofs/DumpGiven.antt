-- The text of two files, as a reader gives it.
use Rattle.std.proofs.Common.{◌≡◌, ℕ, ◌+◌, ◌-◌, ◌≤◌, cond, Bool, true, List, [], ◌++◌, length, take, Option, Some, None, refl, sym, ap, subst, ◌∙◌, append_assoc}
use Rattle.std.proofs.KnownBytes.{Consumes-trans}
use Rattle.std.specs.Io.KnownBytes.{Consumes, IsAtEnd, Keeps}
use Rattle.kmc_device.specs.Lemmas.Lines.{put_then_take}
use Rattle.kmc_database.specs.DumpReader.{of_both}
use Rattle.kmc_database.specs.LeftOf.{StaysKnown}
use borrow.Rule.Slice.PartMut.{put_mid}

-- what was given stays given where nothing more is
pub given_stays : (a b c : Option (List ℕ)) (bytes : List ℕ) → Consumes a b bytes → StaysKnown b c → Consumes a c bytes
given_stays None b c bytes gave stays = tt
given_stays (Some xs) None c bytes gave stays = absurd gave
given_stays (Some xs) (Some ys) c bytes gave stays = subst (λ (t : Option (List ℕ)). Consumes (Some xs) t bytes) (sym (stays ys refl)) gave

-- nothing was given
pub given_none : (a b : Option (List ℕ)) (n : ℕ) (buf : List ℕ) → n ≡ 0 → Consumes a b (take n buf) → Keeps a b
given_none None b n buf none gave = tt
given_none (Some xs) None n buf none gave = absurd gave
given_none (Some xs) (Some ys) n buf none gave = sym (gave ∙ ap (λ m. take m buf ++ ys) none)

module _ (line : List ℕ) (behind : List ℕ → List ℕ → List ℕ) where
  -- a part of the line in hand is given
  pub line_given : (more bytes : List ℕ) (a b : Option (List ℕ)) → line ≡ bytes ++ more
      → Consumes (of_both (λ p s. line ++ behind p s) a b) (of_both (λ p s. more ++ behind p s) a b) bytes
  line_given more bytes (Some p) (Some s) is = ap (λ (t : List ℕ). t ++ behind p s) is ∙ append_assoc bytes more (behind p s)
  line_given more bytes (Some p) None is = tt
  line_given more bytes None b is = tt

-- no line is in hand, and the text has ended
pub all_given : (line : List ℕ) (text : List ℕ → List ℕ → List ℕ) (ended : Bool) (a b : Option (List ℕ)) → line ≡ [] → ended ≡ true
    → IsAtEnd (of_both (λ p s. line ++ cond ended [] (text p s)) a b)
all_given line text ended (Some p) (Some s) empty end = (λ i. empty i ++ cond (end i) [] (text p s))
all_given line text ended (Some p) None empty end = tt
all_given line text ended None b empty end = tt

-- more is put into a buffer behind what was given
pub given_more : (a b c : Option (List ℕ)) (buf out : List ℕ) (at n : ℕ) → at ≤ length buf → length out ≡ length buf - at → n ≤ length buf - at
    → Consumes a b (take at buf) → Consumes b c (take n out) → Consumes a c (take (at + n) (put_mid at (length buf - at) buf out))
given_more a b c buf out at n inside long few before now =
    subst (Consumes a c) (sym (put_then_take buf out at n (length buf - at) inside long few))
    (Consumes-trans a b c (take at buf) (take n out) before now)
