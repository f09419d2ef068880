-- Bytes that came behind others, read after read.
use Rattle.std.proofs.Common.{◌≡◌, ℕ, ◌+◌, ◌-◌, ◌≤◌, List, [], ◌++◌, length, take, Option, sym, ap, ◌∙◌, arith, append_assoc, length-append}
use Rattle.std.proofs.KnownBytes.{Consumes-nil, Consumes-trans}
use Rattle.std.proofs.lemmas.List.{length-take-le, append-nil}
use Rattle.std.specs.Io.KnownBytes.{Consumes}
use Rattle.kmc_device.specs.Lemmas.Lines.{put_then_take}
use Rattle.kmc_device.specs.Room.{CameBehind}
use borrow.Rule.Slice.PartMut.{put_mid}

pub none_came : (a : Option (List ℕ)) (to : ℕ) (room : List ℕ) → CameBehind a a to to room room
none_came a to room = record { bytes = []; gave = Consumes-nil a; many = omega arith; stand = sym (append-nil (take to room)) }

-- one read gave n bytes
pub came_once : (a b : Option (List ℕ)) (to n : ℕ) (room out : List ℕ) → to ≤ length room → length out ≡ length room - to → n ≤ length out
    → Consumes a b (take n out) → CameBehind a b to (to + n) room (put_mid to (length room - to) room out)
came_once a b to n room out inside long most gave = record {
  bytes = take n out;
  gave = gave;
  many = omega (arith, length-take-le n out most);
  stand = put_then_take room out to n (length room - to) inside long (omega (arith, most, long));
}

-- some more came
pub came_then : (a b c : Option (List ℕ)) (to end next : ℕ) (before room after : List ℕ) → CameBehind a b to end before room
    → CameBehind b c end next room after → CameBehind a c to next before after
came_then a b c to end next before room after came now = record {
  bytes = came.bytes ++ now.bytes;
  gave = Consumes-trans a b c came.bytes now.bytes came.gave now.gave;
  many = omega (arith, came.many, now.many, length-append came.bytes now.bytes);
  stand = now.stand ∙ ap (λ (l : List ℕ). l ++ now.bytes) came.stand ∙ append_assoc (take to before) came.bytes now.bytes;
}
