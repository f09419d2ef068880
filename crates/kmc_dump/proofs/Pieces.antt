-- What is out while ranges go out one by one.
use Rattle.std.proofs.Common.{◌≡◌, ℕ, ◌+◌, ◌-◌, ◌<◌, ◌≤◌, List, ◌++◌, length, get_or, Option, subst, arith}
use Rattle.kmc_device.specs.Device.{AppendsFront, WritesOut}
use Rattle.kmc_device.specs.Lemmas.Devices.{front_after, front_of}
use Rattle.kmc_lists.specs.Listed.{Listed}
use Rattle.kmc_dump.specs.Ranges.{range_text}
use Rattle.kmc_dump.proofs.Texts.{texts_join, climb}

module _ (line : List ℕ × ℕ → List ℕ) (k w : ℕ) (pos : 0 < w) (lists : List Listed) (bounds : List ℕ)
    (up : (i : ℕ) → i + 1 < length bounds → get_or bounds i 0 ≤ get_or bounds (i + 1) 0) where
  -- the text from the first range on, to before this one
  abbrev pub upto : ℕ → List ℕ
  upto n = range_text line k w (get_or bounds 0 0) (get_or bounds n 0) lists

  pub rest_joins : (m last : ℕ) → m ≤ last → last < length bounds → upto m ++ range_text line k w (get_or bounds m 0) (get_or bounds last 0) lists ≡ upto last
  rest_joins m last less inside =
      let zero_more : 0 + m ≡ m = omega arith in
      let sum : m + (last - m) ≡ last = omega arith in
      let low : get_or bounds 0 0 ≤ get_or bounds m 0 = rw zero_more at (climb k w pos lists bounds up 0 m (omega arith)) in
      let high : get_or bounds m 0 ≤ get_or bounds last 0 = rw sum at (climb k w pos lists bounds up m (last - m) (omega arith)) in
      texts_join line k w (get_or bounds 0 0) (get_or bounds m 0) (get_or bounds last 0) lists pos low high

  -- of what was held a front is out
  pub turn_front : (first last : ℕ) (a b c : Option (List ℕ)) (held : List ℕ) → first ≤ last → last < length bounds → WritesOut a b (upto first) held
      → AppendsFront b c held → AppendsFront a c (upto last)
  turn_front first last a b c held less inside before now =
      let rest = range_text line k w (get_or bounds first 0) (get_or bounds last 0) lists in
      let front : AppendsFront a c (upto first) = subst (AppendsFront a c) before.1 (front_after a b c before.0 held before.2 now) in
      subst (AppendsFront a c) (rest_joins first last less inside) (front_of a c (upto first) rest front)
