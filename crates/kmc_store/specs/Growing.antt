-- Room for bodies that grow by others.
use Rattle.std.specs.Prelude.{ℕ, ◌+◌, ◌<◌, ◌≤◌, List, length, vec_len, vec_capacity, slice_index_or}
use Rattle.std.specs.declared.vec.Vec.{Vec}
use Rattle.std.specs.declared.alloc.Global.{Global}

-- the bytes have room for so many more, where there are any
abbrev pub HasRoomForBodies : Vec ℕ Global → ℕ → Type 0
HasRoomForBodies own more = 0 < vec_len own → vec_len own + more ≤ vec_capacity own

-- each has room for the same one of the others
abbrev pub HaveRoom : List (Vec ℕ Global) → List (Vec ℕ Global) → Type 0
HaveRoom own more = (i : ℕ) (v w : Vec ℕ Global) → i < length own → HasRoomForBodies (slice_index_or own i v) (length (slice_index_or more i w).items)
