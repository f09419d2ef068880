-- The answers of a query, written one line after the other.
use Rattle.std.proofs.Common.{◌≡◌, ℕ, ◌+◌, ◌<◌, inl, inr, List, [], ◌∷◌, ◌++◌, length, take, drop, get_or, map, Option, sym, ap, subst, ◌∙◌, arith}
use Rattle.std.proofs.lemmas.List.{map-append, take_more, take-append-drop}
use Rattle.kmc_device.specs.Device.{AppendsFront}
use Rattle.kmc_lists.specs.Line.{line_of, text_of}
use Rattle.kmc_sum.specs.Lemmas.Gave.{text_push}
use Rattle.kmc_sum.specs.Lemmas.Taken.{front_both}
use Rattle.kmc_sum.specs.Sources.{Agrees}
use Rattle.kmc_join.specs.Asking.{AreAsked, length_of}

module _ (f : List ℕ → List ℕ × ℕ) (words : List (List ℕ)) (i : ℕ) where
  -- a line more
  pub answers_more : (w : List ℕ) → i < length words → w ≡ get_or words i []
      → text_of (map f (take i words)) ++ line_of (f w) ≡ text_of (map f (take (i + 1) words))
  answers_more w inside is =
      ap (λ (v : List ℕ). text_of (map f (take i words)) ++ line_of (f v)) is
      ∙ sym (text_push (map f (take i words)) (f (get_or words i [])))
      ∙ ap text_of (sym (map-append f (take i words) (get_or words i [] ∷ [])))
      ∙ ap (λ (ws : List (List ℕ)). text_of (map f ws)) (sym (take_more words i [] inside))

  -- a front of the first lines is one of all
  pub front_answers : (a b : Option (List ℕ)) → AppendsFront a b (text_of (map f (take i words))) → AppendsFront a b (text_of (map f words))
  front_answers a b front =
      let all : map f (take i words) ++ map f (drop i words) ≡ map f words = sym (map-append f (take i words) (drop i words))
      ∙ ap (map f) (take-append-drop i words) in
      subst (λ (ps : List (List ℕ × ℕ)). AppendsFront a b (text_of ps)) all (front_both a b (map f (take i words)) (map f (drop i words)) front)

-- words of a length are as long as a length that agrees with theirs
pub asked_agree : (words : List (List ℕ)) (k : ℕ) → AreAsked (length_of words) words → Agrees (length_of words) k → AreAsked k words
asked_agree [] k each agrees = tt
asked_agree (w ∷ words) k each (inl none) = absurd (omega (arith, none, each.0.0.some))
asked_agree (w ∷ words) k each (inr same) = subst (λ n. AreAsked n (w ∷ words)) same each
