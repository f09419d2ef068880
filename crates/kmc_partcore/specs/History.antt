-- A history of the queue: its calls with their answers, the newest first, and what they say of each writer.
use Rattle.std.specs.Prelude.{ℕ, Bool, false, cond, eqb, ◌||◌, List, [], ◌∷◌, ◌++◌, length, drop, Ok}
use Rattle.kmc_partcore.specs.declared.event.Event.{Event}
use Rattle.kmc_partcore.specs.declared.event.Event.TheVariants as event
use Rattle.kmc_partcore.specs.declared.event.Reply.{Reply}
use Rattle.kmc_partcore.specs.declared.event.Reply.TheVariants as reply
use Rattle.kmc_partcore.specs.declared.event.Taken.TheVariants.{Got}

-- a call and its answer
abbrev pub Entry : Type 0 → Type 0
Entry T = Event T × Reply T

abbrev pub History : Type 0 → Type 0
History T = List (Entry T)

-- an item that left: the reader that got it, its number among its writer's items, and the item
abbrev pub Leaving : Type 0 → Type 0
Leaving T = ℕ × ℕ × T

module _ {T : Type 0} where
  -- the item of a put of writer w that was answered Ok
  abbrev pub item_accepted : ℕ → Entry T → List T
  item_accepted w (event.Put v x, reply.Put (Ok n)) = cond (eqb v w) (x ∷ []) []
  item_accepted w _ = []

  -- the item of writer w that a take gave
  abbrev pub item_left : ℕ → Entry T → List (Leaving T)
  item_left w (event.Take r, reply.Take (Ok (Got g))) = cond (eqb g.writer w) ((r, g.number, g.item) ∷ []) []
  item_left w _ = []

  -- a register of writer w that was answered Ok
  abbrev pub registers : ℕ → Entry T → Bool
  registers w (event.Register v, reply.Register (Ok u)) = eqb v w
  registers w _ = false

  -- a complete of writer w that was answered Ok
  abbrev pub completes : ℕ → Entry T → Bool
  completes w (event.Complete v, reply.Complete (Ok u)) = eqb v w
  completes w _ = false

  -- the items of writer w that were accepted, in order
  abbrev pub accepted : ℕ → History T → List T
  accepted w [] = []
  accepted w (e ∷ h) = accepted w h ++ item_accepted w e

  -- the items of writer w that have left, in order
  abbrev pub left : ℕ → History T → List (Leaving T)
  left w [] = []
  left w (e ∷ h) = left w h ++ item_left w e

  abbrev pub is_registered : ℕ → History T → Bool
  is_registered w [] = false
  is_registered w (e ∷ h) = registers w e || is_registered w h

  abbrev pub has_completed : ℕ → History T → Bool
  has_completed w [] = false
  has_completed w (e ∷ h) = completes w e || has_completed w h

  -- the items of writer w that were accepted and have not left, in order
  abbrev pub outstanding : ℕ → History T → List T
  outstanding w h = drop (length (left w h)) (accepted w h)
