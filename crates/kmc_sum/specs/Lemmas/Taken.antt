-- What was taken from the sources: in the middle of their lines, and at their ends.
use Rattle.std.proofs.Common.{◌≡◌, ℕ, ◌+◌, ◌-◌, ◌<◌, ◌≤◌, ◌^◌, Bool, true, false, cond, List, [], ◌∷◌, ◌++◌, length, get_or, Option, refl, sym, ap, subst, ◌∙◌, arith, append-nil}
use Rattle.std.proofs.lemmas.Grind.{flat_map-append}
use Rattle.std.specs.Io.KnownBytes.{IsAtEnd}
use Rattle.kmc_base.specs.Packed.{unpack}
use Rattle.kmc_base.specs.Lemmas.Powers.{pow_up}
use Rattle.kmc_device.specs.Device.{AppendsFront, WritesOut}
use Rattle.kmc_device.specs.Lemmas.Devices.{front_of}
use Rattle.kmc_lists.specs.Line.{line_of, text_of}
use Rattle.kmc_sum.specs.Faults.{GaveFront}
use Rattle.kmc_sum.specs.Heads.{rank, head_at, pending, IsTree}
use Rattle.kmc_sum.specs.Source.{unread}
use Rattle.kmc_sum.specs.Sources.{AreReady, AreSources, GaveFronts, left_at, list_at}
use Rattle.kmc_sum.specs.declared.heads.Head.{Head}
use Rattle.kmc_sum.specs.declared.source.Room.{Room}
use Rattle.kmc_sum.specs.Lemmas.Advances.{first_least}
use Rattle.kmc_sum.specs.Lemmas.Gave.{gave_fewer}

-- each reader gave the lines of these pairs, and nothing is left
pub record GaveLists (k : ℕ) (starts nows : List (Option (List ℕ))) (lists : List (List (List ℕ × ℕ))) : Type 0 where
  pub lists_long : length lists ≡ length starts
  pub each : (i : ℕ) → i < length starts → GaveFront k (left_at starts i) (left_at nows i) (list_at lists i) [] × IsAtEnd (left_at nows i)

pub text_both : (ps qs : List (List ℕ × ℕ)) → text_of (ps ++ qs) ≡ text_of ps ++ text_of qs
text_both ps qs = flat_map-append line_of ps qs

pub front_gathered : (a b : Option (List ℕ)) (text gathered : List ℕ) → WritesOut a b text gathered → AppendsFront a b text
front_gathered a b text gathered h = (h.0, (gathered, h.1), h.2)

pub front_both : (a b : Option (List ℕ)) (ps qs : List (List ℕ × ℕ)) → AppendsFront a b (text_of ps) → AppendsFront a b (text_of (ps ++ qs))
front_both a b ps qs h = subst (AppendsFront a b) (sym (text_both ps qs)) (front_of a b (text_of ps) (text_of qs) h)

-- what was given so far is the front
pub fronts_of : (k : ℕ) (starts nows : List (Option (List ℕ))) (rooms : List Room) (heads : List Head) (lists : List (List (List ℕ × ℕ)))
    → length rooms ≡ length starts → AreSources k starts nows rooms heads lists
    → GaveFronts k starts nows lists
fronts_of k starts nows [] heads lists long are = record { lists_long = are.lists_long; each = λ i inside. absurd (omega (arith, inside, long)) }
fronts_of k starts nows (room ∷ rooms) heads lists long are = record {
  lists_long = are.lists_long;
  each = λ i inside.
      let source = are.each i room inside in (
        text_of (pending k (head_at heads (length starts + i))) ++ unread (get_or (room ∷ rooms) i room),
        gave_fewer k (left_at starts i)
            (left_at nows i) (list_at lists i) (pending k (head_at heads (length starts + i))) _ source.gave,
      );
}

powers : (k : ℕ) → k ≤ 64 → 4 ^ k ≤ 2 ^ 128
powers k few =
    let whole : 64 - k + k ≡ 64 = omega arith in
    subst (λ m. 4 ^ k ≤ 4 ^ m) whole (pow_up k (64 - k))

gave_end : (k : ℕ) (start now : Option (List ℕ)) (taken : List (List ℕ × ℕ)) (head : Head) (rest : List ℕ) → head.live ≡ false → rest ≡ []
    → GaveFront k start now (taken ++ pending k head) rest → GaveFront k start now taken []
gave_end k start now taken head rest end none h =
    let same : taken ++ pending k head ≡ taken = ap (λ b. taken ++ cond b ((unpack k head.packed, head.count) ∷ []) []) end ∙ append-nil taken in
    subst (λ (t : List (List ℕ × ℕ)). GaveFront k start now t []) same (subst (λ (r : List ℕ). GaveFront k start now (taken ++ pending k head) r) none h)

pub room_of : (rooms : List Room) → 1 ≤ length rooms → Room
room_of [] some = absurd (omega (arith, some))
room_of (room ∷ rooms) some = room

-- no source has a line more
module _ (k : ℕ) (starts nows : List (Option (List ℕ))) (rooms : List Room) (heads : List Head) (lists : List (List (List ℕ × ℕ)))
    (are : AreSources k starts nows rooms heads lists) (ready : AreReady k (length starts) rooms heads) (tree : IsTree heads)
    (some : 1 ≤ length starts) (few : k ≤ 64) (end : (head_at heads 1).live ≡ false) where
  ended : (i : ℕ) → i < length starts → (head_at heads (length starts + i)).live ≡ false
  ended i inside = go (head_at heads (length starts + i)).live refl
    where
      go : (b : Bool) → (head_at heads (length starts + i)).live ≡ b → b ≡ false
      go false e = refl
      go true e =
          let h = head_at heads (length starts + i) in
          let top : rank (head_at heads 1) ≡ 2 ^ 128 = ap (λ b. cond b (head_at heads 1).packed (2 ^ 128)) end in
          let own : rank h ≡ h.packed = ap (λ b. cond b h.packed (2 ^ 128)) e in
          let up : 4 ^ k ≤ 2 ^ 128 = powers k few in
          absurd (omega (
            arith,
            top,
            own,
            up,
            ready.fits i inside,
            first_least k (length starts) rooms heads ready tree some (length starts + i)
                (omega arith) (omega (arith, inside)),
          ))

  pub gave_all : (room : Room) → GaveLists k starts nows lists
  gave_all room = record {
    lists_long = are.lists_long;
    each = λ i inside.
        let source = are.each i room inside in
        let none = source.ended (ended i inside) in (
          gave_end k (left_at starts i) (left_at nows i) (list_at lists i) (head_at heads (length starts + i)) (unread (get_or rooms i room))
              (ended i inside) none.0 source.gave,
          none.1,
        );
  }
