-- What is left of a file whose next bytes are held.
use Rattle.std.specs.Prelude.{◌≡◌, ℕ, ◌-◌, List, take, drop, Option, Some}
use Rattle.std.specs.Io.KnownBytes.{prepend_known}
use Rattle.kmc_database.specs.declared.next_bytes.NextBytes.{NextBytes}

-- the bytes that are held
abbrev pub held_of : {R : Type 0} → NextBytes R → List ℕ
held_of f = take (f.to - f.from) (drop f.from f.room)

-- those, and what its reader has left, where that is known
abbrev pub left_of : {R : Type 0} → (R → Option (List ℕ)) → NextBytes R → Option (List ℕ)
left_of remaining f = prepend_known (held_of f) (remaining f.reader)

-- known bytes stay as they are
abbrev pub StaysKnown : Option (List ℕ) → Option (List ℕ) → Type 0
StaysKnown old new = (bytes : List ℕ) → old ≡ Some bytes → new ≡ Some bytes
