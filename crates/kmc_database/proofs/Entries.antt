-- What the table tells of a first part is one range of rows.
use Rattle.std.proofs.Common.{◌≡◌, ℕ, ◌+◌, ◌^◌, inl, inr, List, Option, Some, refl, sym, ap, subst, ◌∙◌, arith}
use Rattle.std.specs.Prelude.{MatchOption, None, unwrap_or}
use Rattle.kmc_sum.specs.Sum.{listed_count}
use Rattle.kmc_database.specs.LookedUp.{IsCountThere}
use Rattle.kmc_database.specs.Numbers.{low_first}
use Rattle.kmc_database.specs.Part.{EndsPart, IsEntry, IsPart}
use Rattle.kmc_database.specs.Rows.{first_part}
use Rattle.kmc_database.specs.declared.reading.Header.{Header}
use Rattle.kmc_database.specs.Lemmas.Bytes.{length_low, low_same}
use Rattle.kmc_database.proofs.ReadBack.{cut_same}

entry_one : (bytes : List ℕ) (i a b : ℕ) → IsEntry bytes i a → IsEntry bytes i b → a ≡ b
entry_one bytes i a b ha hb =
    let power : 256 ^ 8 ≡ 2 ^ 64 = refl in
    low_same 8 a b (omega (arith, power, ha.small)) (omega (arith, power, hb.small))
    (cut_same (low_first 8 a) ha.stands.0 (low_first 8 b) hb.stands.0 (length_low 8 a ∙ sym (length_low 8 b)) (ha.stands.1 ∙ sym hb.stands.1)).0

ends_one : (h : Header) (part : ℕ) (bytes : List ℕ) (a b : ℕ) → EndsPart h part bytes a → EndsPart h part bytes b → a ≡ b
ends_one h part bytes a b (inl x) (inl y) = entry_one bytes (part + 1) a b x.0 y.0
ends_one h part bytes a b (inl x) (inr y) = absurd (omega (arith, x.1, y.0))
ends_one h part bytes a b (inr x) (inl y) = absurd (omega (arith, x.0, y.1))
ends_one h part bytes a b (inr x) (inr y) = x.1 ∙ sym y.1

-- a count that was found between the rows that the table tells
pub found_there : (h : Header) (p s w : List ℕ) (part low high count : ℕ) → part ≡ first_part h.layout w → IsEntry p part low → EndsPart h part p high
    → ((pairs : List (List ℕ × ℕ)) → IsPart h.layout part s low high pairs → Some count ≡ Some (listed_count pairs w)) → IsCountThere h p s w count
found_there h p s w part low high count e begins ends found = λ from to pairs hf ht hp.
    let low_is : from ≡ low = entry_one p part from low (subst (λ m. IsEntry p m from) (sym e) hf) begins in
    let high_is : to ≡ high = ends_one h part p to high (subst (λ m. EndsPart h m p to) (sym e) ht) ends in
    let own : IsPart h.layout part s from to pairs = subst (λ m. IsPart h.layout m s from to pairs) (sym e) hp in
    let to_high : IsPart h.layout part s from high pairs = subst (λ m. IsPart h.layout part s from m pairs) high_is own in
    let here : IsPart h.layout part s low high pairs = subst (λ m. IsPart h.layout part s m high pairs) low_is to_high in
    ap (λ (o : Option ℕ). unwrap_or o 0) (found pairs here)

-- ---- an answer that is there, or is not

pub match_some : {X : Type 0} (r : Option X) (x : X) (P : Type 0) (Q : X → Type 0) → r ≡ Some x → MatchOption r P Q → Q x
match_some r x P Q e h = subst (λ o. MatchOption o P Q) e h

pub match_none : {X : Type 0} (r : Option X) (P : Type 0) (Q : X → Type 0) → r ≡ None → MatchOption r P Q → P
match_none r P Q e h = subst (λ o. MatchOption o P Q) e h
