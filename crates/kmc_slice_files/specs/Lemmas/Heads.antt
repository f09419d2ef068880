-- The bytes of a head.
use Rattle.std.proofs.Common.{◌≡◌, ℕ, length, refl}
use Rattle.kmc_slice_files.specs.Frames.{spare_head}

pub length_spare : (bin spare long check : ℕ) → length (spare_head bin spare long check) ≡ 16
unfolding spare_head
length_spare bin spare long check = refl
