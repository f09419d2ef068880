-- The counts of keys, noted one line of a dump after the other.
use Rattle.std.proofs.Common.{◌≡◌, ℕ, ◌+◌, ◌-◌, ◌<◌, ◌≤◌, ◌^◌, ◌⊎◌, inl, inr, Bool, true, false, cond, List, [], ◌∷◌, ◌++◌, length, get_or, Option, refl, sym, ap, not, subst, ◌∙◌, arith, add-zero, zero-add, append-nil, length-append}
use Rattle.std.specs.Io.KnownBytes.{Consumes}
use Rattle.std.specs.declared.cmp.Ordering.TheVariants.{Less}
use Rattle.std.proofs.lemmas.Bool.{cases_eq}
use Rattle.std.proofs.lemmas.List.Sums.{sum_by-append, sum_by-cons}
use Rattle.kmc_base.specs.Packed.{unpack}
use Rattle.kmc_base.specs.Words.{kmer_cmp}
use Rattle.kmc_count.specs.Lemmas.Listing.{kmer_total, same_is}
use Rattle.kmc_count.specs.Occurrences.{same_word}
use Rattle.kmc_lists.specs.Line.{text_of}
use Rattle.kmc_device.specs.Device.{RisesByOne}
use Rattle.kmc_sum.specs.Faults.{GaveFront, IsFaultAt}
use Rattle.kmc_sum.specs.Heads.{pending}
use Rattle.kmc_sum.specs.Listed.{IsLength}
use Rattle.kmc_sum.specs.Source.{unread}
use Rattle.kmc_sum.specs.Sources.{IsSource}
use Rattle.kmc_sum.specs.Sum.{listed_count}
use Rattle.kmc_sum.specs.Lemmas.Gave.{gave_fewer, less_packed}
use Rattle.kmc_sum.specs.declared.error.LineFault.{LineFault}
use Rattle.kmc_sum.specs.declared.error.SourceFault.{SourceFault}
use Rattle.kmc_sum.specs.declared.error.SourceFault.TheVariants.{Line, Read}
use Rattle.kmc_sum.specs.declared.heads.Head.{Head}
use Rattle.kmc_sum.specs.declared.source.Room.{Room}
use Rattle.kmc_join.specs.KeyCounts.{AreBelow, AreCounts, key_at}
use Rattle.kmc_join.specs.LookedUp.{HasTooMany, IsDumpFault, IsLookedUp}
use Rattle.kmc_join.proofs.Numbers.{head_apart}

-- so far pairs were taken from the dump, and each key has its count in them
pub record IsNoted (k : ℕ) (start now : Option (List ℕ)) (room : Room) (head : Head) (keys : List (List ℕ)) (counts : List ℕ) (steps : ℕ) : Type 0 where
  pub taken : List (List ℕ × ℕ)
  pub source : IsSource k start now room head taken
  pub noted : AreCounts (listed_count taken) keys counts
  pub many : steps ≤ length taken

-- no line is taken
pub noted_none : (k : ℕ) (start now : Option (List ℕ)) (room : Room) (head : Head) (keys : List (List ℕ)) (counts : List ℕ) → length counts ≡ length keys
    → ((j : ℕ) → j < length keys → get_or counts j 0 ≡ 0) → IsSource k start now room head [] → IsNoted k start now room head keys counts 0
noted_none k start now room head keys counts long none source = record {
  taken = [];
  source = source;
  noted = record { long = long; each = none };
  many = omega arith;
}

module _ (k : ℕ) (start now : Option (List ℕ)) (room : Room) (head : Head) (keys : List (List ℕ)) (counts : List ℕ) (steps : ℕ)
    (so : IsNoted k start now room head keys counts steps) where
  module _ (live : head.live ≡ true) where
    abbrev word : List ℕ
    word = unpack k head.packed

    abbrev pair : List ℕ × ℕ
    pair = (word, head.count)

    taken_is : so.taken ++ pending k head ≡ so.taken ++ pair ∷ []
    taken_is = ap (λ b. so.taken ++ cond b (pair ∷ []) []) live

    count_is : (y : List ℕ) → listed_count (so.taken ++ pending k head) y ≡ listed_count so.taken y + cond (same_word word y) head.count 0
    count_is y =
        let one = λ (q : List ℕ × ℕ). cond (same_word q.0 y) q.1 0 in
        ap (λ (ps : List (List ℕ × ℕ)). listed_count ps y) taken_is ∙ sum_by-append one so.taken (pair ∷ [])
        ∙ ap (λ m. listed_count so.taken y + m) (sum_by-cons one pair [] ∙ add-zero (one pair))

    counted : (y : List ℕ) (b : Bool) → same_word word y ≡ b → cond b head.count (listed_count so.taken y)
        ≡ listed_count (so.taken ++ pending k head) y
    counted y true e =
        let apart : listed_count so.taken y ≡ 0 = ap (listed_count so.taken) (sym (same_is word y e))
        ∙ head_apart k start now room head so.taken live so.source in
        sym (count_is y ∙ (λ j. apart j + cond (e j) head.count 0) ∙ zero-add head.count)
    counted y false e = sym (count_is y ∙ ap (λ b. listed_count so.taken y + cond b head.count 0) e ∙ add-zero (listed_count so.taken y))

    -- a line more
    pub noted_more : (now' : Option (List ℕ)) (room' : Room) (head' : Head) (counts' : List ℕ) → length counts' ≡ length keys
        → ((j : ℕ) → j < length keys → get_or counts' j 0 ≡ cond (same_word word (key_at keys j)) head.count (get_or counts j 0))
        → IsSource k start now' room' head' (so.taken ++ pending k head) → IsNoted k start now' room' head' keys counts' (steps + 1)
    noted_more now' room' head' counts' long noted source = record {
      taken = so.taken ++ pending k head;
      source = source;
      noted = record {
        long = long;
        each = λ j inside.
            noted j inside
            ∙ ap (cond (same_word word (key_at keys j)) head.count) (so.noted.each j inside)
            ∙ counted (key_at keys j) (same_word word (key_at keys j)) refl;
      };
      many = omega (arith, so.many, ap length taken_is, length-append so.taken (pair ∷ []));
    }

  -- the lines that were taken are a front
  taken_front : GaveFront k start now so.taken (text_of (pending k head) ++ unread room)
  taken_front = gave_fewer k start now so.taken (pending k head) (unread room) so.source.gave

  pub too_many : 2 ^ 64 - 2 ≤ steps → HasTooMany k start now
  too_many most = record { pairs = so.taken; rest = _; gave = taken_front; many = omega (arith, so.many, most) }

  -- the dump has ended
  pub looked_up : head.live ≡ false → IsLookedUp k start now keys counts
  looked_up ended =
      let none : pending k head ≡ [] = ap (λ b. cond b ((unpack k head.packed, head.count) ∷ []) []) ended in
      let all : so.taken ++ pending k head ≡ so.taken = ap (λ (ps : List (List ℕ × ℕ)). so.taken ++ ps) none ∙ append-nil so.taken in
      let gave = subst (λ (ps : List (List ℕ × ℕ)). GaveFront k start now ps (unread room)) all so.source.gave in
      let end = so.source.ended ended in
      record {
        text = text_of so.taken;
        gave = (
          subst (Consumes start now) (ap (λ (r : List ℕ). text_of so.taken ++ r) end.0 ∙ append-nil (text_of so.taken)) gave.bytes,
          end.1,
        );
        pairs = so.taken;
        lists = record { listed = gave.listed; lines = refl };
        noted = so.noted;
      }

-- keys below a word are below one that is not below it
pub below_next : (k : ℕ) (keys : List (List ℕ)) (many : ℕ) (p q : ℕ) → p < 4 ^ k → q < 4 ^ k → p ≤ q → AreBelow keys many (unpack k p)
    → AreBelow keys many (unpack k q)
below_next k keys many p q small fits up below j inside = go (cases_eq p q)
  where
    go : (p ≡ q) ⊎ (p ≡ q → ⊥) → kmer_cmp (key_at keys j) (unpack k q) ≡ Less
    go (inl same) = ap (λ n. kmer_cmp (key_at keys j) (unpack k n)) (sym same) ∙ below j inside
    go (inr differ) = kmer_total.trans (key_at keys j) (unpack k p) (unpack k q) (below j inside) (less_packed k p q small fits (omega arith))

is_live : (b : Bool) → not b ≡ false → b ≡ true
is_live true e = refl
is_live false e = sym e

-- a head that has not ended
pub head_live : (head : Head) → not head.live ≡ false → head.live ≡ true
head_live head e = is_live head.live e

-- a fault of a line behind the first
pub walk_fault : (k : ℕ) → IsLength k → (start now : Option (List ℕ)) (failed before fails : ℕ) (fault : SourceFault) → before ≡ failed
    → (fault ≡ Read → RisesByOne before fails)
    → ((line : ℕ) (f : LineFault) → fault ≡ Line line f → IsFaultAt k start now line f × (2 ≤ line)) → IsDumpFault start now failed fails fault
walk_fault k long start now failed before fails Read same read line = subst (λ n. RisesByOne n fails) same (read refl)
walk_fault k long start now failed before fails (Line number f) same read line =
    let h = line number f refl in (k, long, h.0, λ _. h.1)
