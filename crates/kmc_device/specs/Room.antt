-- Bytes that are read behind others.
use Rattle.std.specs.Prelude.{◌≡◌, ℕ, ◌+◌, List, ◌++◌, length, take, Option}
use Rattle.std.specs.Io.KnownBytes.{Consumes}

-- what the reader gave stands behind the first so many bytes
pub record CameBehind (old new : Option (List ℕ)) (to end : ℕ) (before after : List ℕ) : Type 0 where
  pub bytes : List ℕ
  pub gave : Consumes old new bytes
  pub many : to + length bytes ≡ end
  pub stand : take end after ≡ take to before ++ bytes
