-- A word that is changed has the long form that its flag or its option gives it, and every other word stays.
use Rattle.std.proofs.Common.{◌≡◌, ◌∙◌, Bool, true, false, cond, List, [], ◌∷◌, Option, Some, None, ap, append-nil, drop, length, refl, sym}
use Rattle.std.specs.Prelude.{find, is_some, option_and_then}
use Rattle.std.specs.Option.{option_map_or}
use Rattle.std.proofs.lemmas.Option.{same_Some}
use Rattle.kmc_options.specs.Glued.{glued_name, is_flag, option_in, unless_empty, value_in, with_value}
use Rattle.kmc_options.specs.Names.{settings}
use Rattle.kmc_options.proofs.glued.changed.Goals as goal
use Rattle.kmc_options.specs.Words.{Word}
use Rattle.kmc_options.specs.declared.setting.Setting.{Setting}

-- the long form of a word, by whether it is a flag and by its option
abbrev by_parts : Bool → Option Setting → Word → Word
by_parts b o word = cond b (45 ∷ word) (option_map_or (λ s. with_value s (drop (length (glued_name s)) word)) o word)

by_option : (b : Bool) (o p : Option Setting) (word : Word) → b ≡ false → o ≡ p → by_parts b o word ≡ by_parts false p word
by_option b o p word unflagged is = ap (λ x. by_parts x o word) unflagged ∙ ap (λ y. by_parts false y word) is

glued_by : (b : Bool) (rest value : Word) → Some value ≡ option_and_then unless_empty (cond b (Some rest) None) → value ≡ rest
glued_by false rest value e = absurd (cc)
glued_by true [] value e = absurd (cc)
glued_by true (x ∷ xs) value e = same_Some value (x ∷ xs) e

first_found : {X : Type 0} (p : X → Bool) (x y : X) (b : Bool) (later : Option X) → p y ≡ b → cond b (Some y) later ≡ Some x → (later ≡ Some x → p x ≡ true)
    → p x ≡ true
first_found p x y true later holds e h = ap p (sym (same_Some y x e)) ∙ holds
first_found p x y false later holds e h = h e

found : {X : Type 0} (p : X → Bool) (xs : List X) (x : X) → find p xs ≡ Some x → p x ≡ true
found p [] x e = absurd (cc)
found p (y ∷ ys) x e = first_found p x y (p y) (find p ys) refl e (found p ys x)

pub returns-then-is_flag : goal.returns-then-is_flag
returns-then-is_flag c =
    let word = c.args.word.now in
    let flagged : is_flag word ≡ true = sym c.is_flag.ensures ∙ c.if-is_flag.true in
    c.in_ok-concat.ensures.ok ∙ ap (λ (t : Word). 45 ∷ t) (append-nil word) ∙ sym (ap (λ b. by_parts b (option_in word) word) flagged)

pub returns-in_default : goal.returns-in_default
returns-in_default c =
    let word = c.args.word.now in
    sym (by_option (is_flag word) (option_in word) None word (sym c.is_flag.ensures ∙ c.if-is_flag.false) (sym c.option_in.ensures ∙ c.in_default.is))

pub returns-in_ok-with_value-in-Some-value_in : goal.returns-in_ok-with_value-in-Some-value_in
returns-in_ok-with_value-in-Some-value_in c =
    let word = c.args.word.now in let setting = c.in-Some.setting in
    let value = glued_by _ (drop (length (glued_name setting)) word) _ c.in-Some-value_in.ensures in
    c.in_ok-with_value-in-Some-value_in.ensures ∙ ap (with_value setting) value
    ∙ sym (by_option (is_flag word) (option_in word) (Some setting) word (sym c.is_flag.ensures ∙ c.if-is_flag.false) (sym c.option_in.ensures ∙ c.in-Some.is))

pub returns-in-None : goal.returns-in-None
returns-in-None c =
    let word = c.args.word.now in let setting = c.in-Some.setting in
    let some = found (λ s. is_some (value_in s word)) settings setting (sym c.option_in.ensures ∙ c.in-Some.is) in
    let none : is_some (value_in setting word) ≡ false = ap is_some (sym c.in-None.ensures) in
    absurd (cc (some, none))
