-- Options in long form and their values, one word after the other.
use Rattle.std.proofs.Common.{◌≡◌, true, false, List, [], ◌∷◌, Option, Some, None, refl}
use Rattle.kmc_options.specs.Words.{Word}
use Rattle.kmc_options.specs.Spelling.{awaits_value}
use Rattle.kmc_options.specs.SliceWords.{joined}

-- the word that awaits its value
abbrev pub open_words : {X : Type 0} → (X → Word) → Option X → List Word
open_words f None = []
open_words f (Some x) = f x ∷ []

abbrev pub Awaits : {X : Type 0} → (X → Word) → Option X → Type 0
Awaits f None = Unit {0}
Awaits f (Some x) = awaits_value (f x) ≡ true

-- a word that awaits no value stands alone
pub joined_alone : (word : Word) (words : List Word) → awaits_value word ≡ false → joined (word ∷ words) ≡ word ∷ joined words
joined_alone word [] is = refl
joined_alone word (next ∷ words) is = rw is refl
