-- The bytes of a room.
use Rattle.std.proofs.Common.{◌≡◌, ◌≢◌, ℕ, ◌+◌, ◌-◌, ◌≤◌, Vec, List, [], ◌++◌, length, take, drop, Option, refl, sym, ap, ◌∙◌, arith, append_assoc, length-drop}
use Rattle.std.proofs.KnownBytes.{Consumes-trans, Consumes-kept}
use Rattle.std.proofs.lemmas.List.{length-take-le, drop-take, drop-drop, with_items_is}
use Rattle.std.specs.Vec.{with_items}
use Rattle.std.specs.Global.{Global}
use Rattle.std.specs.Io.KnownBytes.{Keeps}
use Rattle.kmc_device.specs.Room.{CameBehind}
use Rattle.kmc_sum.specs.Source.{GoesOn}

pub goes_trans : (a b c : Option (List ℕ)) (xs ys zs : List ℕ) → GoesOn a b xs ys → GoesOn b c ys zs → GoesOn a c xs zs
goes_trans a b c xs ys zs p q = record {
  bytes = p.bytes ++ q.bytes;
  gave = Consumes-trans a b c p.bytes q.bytes p.gave q.gave;
  are = q.are ∙ ap (λ (l : List ℕ). l ++ q.bytes) p.are ∙ append_assoc xs p.bytes q.bytes;
}

-- what came stands behind what was there
pub goes_behind : (a b : Option (List ℕ)) (to end : ℕ) (before after : List ℕ) → CameBehind a b to end before after
    → GoesOn a b (take to before) (take end after)
goes_behind a b to end before after came = record { bytes = came.bytes; gave = came.gave; are = came.stand }

-- a room whose bytes stand at its front
pub at_front : (from to : ℕ) (bytes : List ℕ) → from ≡ 0 → take (to - from) (drop from bytes) ≡ take to bytes
at_front from to bytes e =
    let all : to - from ≡ to = omega arith in
    ap (λ f. take (to - from) (drop f bytes)) e ∙ ap (λ t. take t bytes) all

-- the next bytes are taken
pub taken : (from to n : ℕ) (bytes : List ℕ) → from + n ≤ to → take (to - (from + n)) (drop (from + n) bytes) ≡ drop n (take (to - from) (drop from bytes))
taken from to n bytes few =
    let rest : to - from ≡ n + (to - (from + n)) = omega arith in
    sym (ap (λ m. drop n (take m (drop from bytes))) rest ∙ drop-take n (to - (from + n)) (drop from bytes) ∙ ap (take (to - (from + n)))
    (drop-drop n from bytes))

-- bytes that are not there are not unread
pub some_unread : (from to : ℕ) (bytes : List ℕ) → from ≤ to → to ≤ length bytes → from ≢ to → take (to - from) (drop from bytes) ≢ []
some_unread from to bytes order inside differ none =
    let long = length-take-le (to - from) (drop from bytes) (omega (arith, length-drop from bytes)) in
    differ (omega (arith, sym long ∙ ap length none))

-- a vector whose bytes were rewritten as a slice
module _ (v : Vec ℕ Global) (old ws : List ℕ) (is : old ≡ v.items) (same : length ws ≡ length old) where
  rewritten : (with_items v ws).items ≡ ws
  rewritten = let long : length ws ≡ v.len = omega (arith, same, ap length is, v.ok.0) in with_items_is v ws long

  -- the bytes were moved to the front
  pub shifted : (from to : ℕ) → take (to - from) ws ≡ take (to - from) (drop from old) → take (to - from - 0) (drop 0 (with_items v ws).items) ≡ take
      (to - from) (drop from v.items)
  shifted from to moved =
      at_front 0 (to - from) (with_items v ws).items refl ∙ ap (take (to - from)) rewritten ∙ moved ∙ ap (λ (l : List ℕ). take (to - from) (drop from l)) is

  -- bytes were read behind those at the front
  pub read_on : (a b : Option (List ℕ)) (from to end : ℕ) → from ≡ 0 → GoesOn a b (take to old) (take end ws)
      → GoesOn a b (take (to - from) (drop from v.items)) (take (end - from) (drop from (with_items v ws).items))
  read_on a b from to end e p = record {
    bytes = p.bytes;
    gave = p.gave;
    are = at_front from end (with_items v ws).items e ∙ ap (take end) rewritten ∙ p.are ∙ ap (λ (l : List ℕ). take to l ++ p.bytes) is
        ∙ ap (λ (l : List ℕ). l ++ p.bytes) (sym (at_front from to v.items e));
  }

  pub rewritten_length : length (with_items v ws).items ≡ length v.items
  rewritten_length = ap length rewritten ∙ same ∙ ap length is

pub goes_like : (a b : Option (List ℕ)) (xs ys zs : List ℕ) → xs ≡ ys → GoesOn a b xs zs → GoesOn a b ys zs
goes_like a b xs ys zs e p = record { bytes = p.bytes; gave = p.gave; are = p.are ∙ ap (λ (l : List ℕ). l ++ p.bytes) e }

pub goes_to : (a b : Option (List ℕ)) (xs bytes : List ℕ) (m n : ℕ) → m ≡ n → GoesOn a b xs (take m bytes) → GoesOn a b xs (take n bytes)
goes_to a b xs bytes m n e p = record { bytes = p.bytes; gave = p.gave; are = sym (ap (λ i. take i bytes) e) ∙ p.are }

pub goes_kept : (a b c : Option (List ℕ)) (xs ys : List ℕ) → GoesOn a b xs ys → Keeps b c → GoesOn a c xs ys
goes_kept a b c xs ys p kept = record { bytes = p.bytes; gave = Consumes-kept a b c p.bytes p.gave kept; are = p.are }
