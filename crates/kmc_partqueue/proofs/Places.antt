-- Where the words and the slots lie, and that they lie apart.
use Rattle.std.proofs.Common.{◌≡◌, ℕ, ◌+◌, ◌*◌, ◌<◌, ◌≢◌, List, get_or, set, ap, arith, get_or-set_other}
use mathlib.Core.Logic.{dite}
use native.Mathlib.Decide.{ℕ_discrete}
use lib.ListN.{get_elem?}
use Rattle.atomic_table.proofs.Lists.{set_else}
use Rattle.kmc_partcore.specs.declared.shape.QueueShape.{QueueShape}
use Rattle.kmc_partqueue.specs.Rule.{head_at, end_at, slot_at, mark_at}
use Rattle.kmc_partqueue.proofs.Turns.{other_lane, lane_within}

module _ (k : QueueShape) (w₀ i₀ : ℕ) (near : w₀ < k.writers) (in_room : i₀ < k.per_writer) where
  pub other_slot : (w i : ℕ) → i < k.per_writer → ¬ ((w ≡ w₀) × (i ≡ i₀)) → slot_at k w i ≢ slot_at k w₀ i₀
  other_slot w i l n e =
      dite (ℕ_discrete w w₀) (λ same. n (
        same,
        (let x : ℕ = w * k.per_writer in let y : ℕ = w₀ * k.per_writer in let xy : x ≡ y = ap
            (λ (z : ℕ). z * k.per_writer) same in let e' : x + i ≡ y + i₀ = e in omega arith),
      )) (λ other. other_lane k.per_writer w w₀ i i₀ l in_room other e)

  pub slot_within : slot_at k w₀ i₀ < k.writers * k.per_writer
  slot_within = lane_within k.per_writer w₀ k.writers i₀ near in_room

  pub mark_within : mark_at k w₀ i₀ < 2 * k.writers + k.writers * k.per_writer
  mark_within = let a : ℕ = slot_at k w₀ i₀ in let b : ℕ = k.writers * k.per_writer in let l : a < b = slot_within in omega arith

module _ {H : Type 0} (k : QueueShape) (ws ws' : List ℕ) (homes homes' : List H) where
  -- the words and homes of lane w are the same
  abbrev pub LaneSame : ℕ → Type 0
  LaneSame w =
      (get_or ws' (head_at k w) 0 ≡ get_or ws (head_at k w) 0) × (get_or ws' (end_at k w) 0 ≡ get_or ws (end_at k w) 0)
      × ((i : ℕ) → i < k.per_writer → get_or ws' (mark_at k w i) 0 ≡ get_or ws (mark_at k w i) 0)
      × ((i : ℕ) → i < k.per_writer → get_elem? homes' (slot_at k w i) ≡ get_elem? homes (slot_at k w i))

module _ (k : QueueShape) (ws : List ℕ) (w₀ : ℕ) (near : w₀ < k.writers) (x : ℕ) where
  module _ (i₀ : ℕ) (in_room : i₀ < k.per_writer) where
    pub mark_head : (w : ℕ) → w < k.writers → get_or (set ws (mark_at k w₀ i₀) x) (head_at k w) 0 ≡ get_or ws (head_at k w) 0
    mark_head w l =
        get_or-set_other ws (mark_at k w₀ i₀) (head_at k w) x 0 (λ e. let a : ℕ = slot_at k w₀ i₀ in let e' : k.writers + w
        ≡ 2 * k.writers + a = e in omega arith)

    pub mark_end : (w : ℕ) → w < k.writers → get_or (set ws (mark_at k w₀ i₀) x) (end_at k w) 0 ≡ get_or ws (end_at k w) 0
    mark_end w l =
        get_or-set_other ws (mark_at k w₀ i₀) (end_at k w) x 0 (λ e. let a : ℕ = slot_at k w₀ i₀ in let e' : w ≡ 2 * k.writers + a = e in omega arith)

    pub mark_mark : (w i : ℕ) → i < k.per_writer → ¬ ((w ≡ w₀) × (i ≡ i₀))
        → get_or (set ws (mark_at k w₀ i₀) x) (mark_at k w i) 0 ≡ get_or ws (mark_at k w i) 0
    mark_mark w i l n =
        get_or-set_other ws (mark_at k w₀ i₀) (mark_at k w i) x 0 (λ e. other_slot k w₀ i₀ near in_room w i l n
        (let a : ℕ = slot_at k w₀ i₀ in let b : ℕ = slot_at k w i in let e' : 2 * k.writers + b ≡ 2 * k.writers + a = e in let g : b
        ≡ a = omega arith in g))

  pub head_head : (w : ℕ) → w ≢ w₀ → get_or (set ws (head_at k w₀) x) (head_at k w) 0 ≡ get_or ws (head_at k w) 0
  head_head w n =
      get_or-set_other ws (head_at k w₀) (head_at k w) x 0 (λ e. n (let e' : k.writers + w ≡ k.writers + w₀ = e in let g : w ≡ w₀ = omega arith in g))

  pub head_end : (w : ℕ) → w < k.writers → get_or (set ws (head_at k w₀) x) (end_at k w) 0 ≡ get_or ws (end_at k w) 0
  head_end w l = get_or-set_other ws (head_at k w₀) (end_at k w) x 0 (λ e. let e' : w ≡ k.writers + w₀ = e in omega arith)

  pub head_mark : (w i : ℕ) → get_or (set ws (head_at k w₀) x) (mark_at k w i) 0 ≡ get_or ws (mark_at k w i) 0
  head_mark w i =
      get_or-set_other ws (head_at k w₀) (mark_at k w i) x 0 (λ e. let b : ℕ = slot_at k w i in let e' : 2 * k.writers + b ≡ k.writers + w₀ = e in omega arith)

  pub end_head : (w : ℕ) → get_or (set ws (end_at k w₀) x) (head_at k w) 0 ≡ get_or ws (head_at k w) 0
  end_head w = get_or-set_other ws (end_at k w₀) (head_at k w) x 0 (λ e. let e' : k.writers + w ≡ w₀ = e in omega arith)

  pub end_end : (w : ℕ) → w ≢ w₀ → get_or (set ws (end_at k w₀) x) (end_at k w) 0 ≡ get_or ws (end_at k w) 0
  end_end w n = get_or-set_other ws (end_at k w₀) (end_at k w) x 0 n

  pub end_mark : (w i : ℕ) → get_or (set ws (end_at k w₀) x) (mark_at k w i) 0 ≡ get_or ws (mark_at k w i) 0
  end_mark w i =
      get_or-set_other ws (end_at k w₀) (mark_at k w i) x 0 (λ e. let b : ℕ = slot_at k w i in let e' : 2 * k.writers + b ≡ w₀ = e in omega arith)

module _ {H : Type 0} (k : QueueShape) (homes : List H) (w₀ i₀ : ℕ) (near : w₀ < k.writers) (in_room : i₀ < k.per_writer) (h : H) where
  pub home_else : (w i : ℕ) → i < k.per_writer → ¬ ((w ≡ w₀) × (i ≡ i₀))
      → get_elem? (set homes (slot_at k w₀ i₀) h) (slot_at k w i) ≡ get_elem? homes (slot_at k w i)
  home_else w i l n = set_else homes (slot_at k w₀ i₀) (slot_at k w i) h (other_slot k w₀ i₀ near in_room w i l n)
