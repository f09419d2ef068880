-- A text is stripped of a prefix exactly where it begins with it.
use Rattle.std.proofs.Common.{◌≡◌, ◌∙◌, ℕ, Bool, true, false, List, Option, Some, None, MatchOption, cond, ◌++◌, drop, length, ap, refl, option_map}
use Rattle.std.specs.Prelude.{nat_eq}
use Rattle.std.specs.List.{starts_with}
use Rattle.std.specs.Borrow.{Bor}
use Rattle.std.specs.Str.Pattern.{FindsTextPrefix, StripsPrefix}
use Rattle.std.proofs.lemmas.Slice.Eq.{starts_is}
use Rattle.std.proofs.lemmas.Bool.Decides.{Decides-eqb}
use Rattle.kmc_options.specs.Words.{rest_after}
use Rattle.kmc_options.proofs.prefix.rest_after.Goals as goal

begins : (p s : List ℕ) → (starts_with nat_eq s p ≡ true → s ≡ p ++ drop (length p) s)
    × ((rest : List ℕ) → s ≡ p ++ rest → starts_with nat_eq s p ≡ true)
begins p s = starts_is Decides-eqb s p (starts_with nat_eq s p) refl

lacks : (p s : List ℕ) → ((rest : List ℕ) → drop 0 s ≡ p ++ rest → ⊥) → None ≡ rest_after p s
lacks p s never = go (starts_with nat_eq s p) (begins p s).0
  where
    go : (b : Bool) → (b ≡ true → s ≡ p ++ drop (length p) s) → None ≡ cond b (Some (drop (length p) s)) None
    go true h = absurd (never (drop (length p) s) (h refl))
    go false h = refl

has : (p s x : List ℕ) (n : ℕ) → n ≡ length p → s ≡ p ++ drop n s → x ≡ drop n s → Some x ≡ rest_after p s
has p s x n len is at =
    let yes : starts_with nat_eq s p ≡ true = (begins p s).1 (drop n s) is in
    rw yes (ap Some (at ∙ ap (λ k. drop k s) len))

strip_is : (p s : List ℕ) (r : Option (Bor (List ℕ))) → MatchOption r (FindsTextPrefix p s None) (λ x. StripsPrefix (FindsTextPrefix p) s x.now)
    → option_map (λ rest. rest.now) r ≡ rest_after p s
strip_is p s None h = lacks p s h
strip_is p s (Some x) h = has p s x.now h.0 h.1.0 h.1.1 h.2

pub returns : goal.returns
returns c = strip_is c.args.prefix.now c.args.word.now c.strip_prefix.result c.strip_prefix.ensures.cases
