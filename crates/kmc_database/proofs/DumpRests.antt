-- What is left of the text of two files.
use Rattle.std.proofs.Common.{◌≡◌, ℕ, cond, Bool, false, List, [], ◌++◌, Option, Some, None, refl, ap, ◌∙◌}
use Rattle.kmc_database.specs.DumpReader.{of_both}
use Rattle.kmc_database.specs.LeftOf.{StaysKnown}
use Rattle.kmc_database.proofs.LeftBytes.{some_same}

-- what is made of two files that are known
pub record AreKnown (f : List ℕ → List ℕ → List ℕ) (a b : Option (List ℕ)) (text : List ℕ) : Type 0 where
  pub p : List ℕ
  pub s : List ℕ
  pub prefix : a ≡ Some p
  pub suffix : b ≡ Some s
  pub is : f p s ≡ text

pub both_known : (f : List ℕ → List ℕ → List ℕ) (a b : Option (List ℕ)) (text : List ℕ) → of_both f a b ≡ Some text → AreKnown f a b text
both_known f (Some p) (Some s) text e = record { p = p; s = s; prefix = refl; suffix = refl; is = some_same (f p s) text e }
both_known f (Some p) None text e = absurd (cc)
both_known f None b text e = absurd (cc)

pub known_both : (f : List ℕ → List ℕ → List ℕ) (a b : Option (List ℕ)) (text : List ℕ) → AreKnown f a b text → of_both f a b ≡ Some text
known_both f a b text k = (λ i. of_both f (k.prefix i) (k.suffix i)) ∙ ap Some k.is

-- the text stays, whatever was read of the files
pub text_stays : (f f' : List ℕ → List ℕ → List ℕ) (a b a' b' : Option (List ℕ))
    → ((p s : List ℕ) → a ≡ Some p → b ≡ Some s → AreKnown f' a' b' (f p s)) → StaysKnown (of_both f a b) (of_both f' a' b')
text_stays f f' a b a' b' step text e =
    let old = both_known f a b text e in
    let new = step old.p old.s old.prefix old.suffix in
    known_both f' a' b' (f old.p old.s) new ∙ ap Some old.is

-- the line in hand, and the text behind it
pub line_then : (line line' text : List ℕ) (ended : Bool) → line ≡ line' → ended ≡ false → line ++ cond ended [] text ≡ line' ++ text
line_then line line' text ended is more = (λ i. is i ++ cond (more i) [] text)
