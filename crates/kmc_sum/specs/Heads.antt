-- The heads of many sources, least word first.
use Rattle.std.specs.Prelude.{◌≡◌, ℕ, ◌+◌, ◌*◌, ◌<◌, ◌≤◌, ◌^◌, ◌⊎◌, cond, false, List, [], ◌∷◌, length, slice_index_or}
use Rattle.kmc_base.specs.Packed.{unpack}
use Rattle.kmc_sum.specs.declared.heads.Head.{Head}

-- where a head stands among others: its packed word, and behind all words where its source has ended
abbrev pub rank : Head → ℕ
rank h = cond h.live h.packed (2 ^ 128)

abbrev pub no_head : Head
no_head = record { live = false; packed = 0; count = 0; source = 0 }

abbrev pub head_at : List Head → ℕ → Head
head_at heads j = slice_index_or heads j no_head

-- the pair of a head, where its source has not ended
abbrev pub pending : ℕ → Head → List (List ℕ × ℕ)
pending k h = cond h.live ((unpack k h.packed, h.count) ∷ []) []

-- the head at this place is one of the two below it, and no other of them is before it
pub record IsWinner (heads : List Head) (j : ℕ) : Type 0 where
  pub one : (head_at heads j ≡ head_at heads (2 * j)) ⊎ (head_at heads j ≡ head_at heads (2 * j + 1))
  pub left : rank (head_at heads j) ≤ rank (head_at heads (2 * j))
  pub right : rank (head_at heads j) ≤ rank (head_at heads (2 * j + 1))

-- each place that has two below it has their winner
abbrev pub IsTree : List Head → Type 0
IsTree heads = (j : ℕ) → 1 ≤ j → 2 * j + 1 < length heads → IsWinner heads j
