-- Which numbers the settings of a run may have, and which one a word gives.
use Rattle.std.specs.Prelude.{◌&&◌, ℕ, ◌≤◌, ◌^◌, Option, Some, None, if◌then◌else◌, nat_le, option_and_then}
use Rattle.kmc_options.specs.Words.{Word, number_of}
use Rattle.kmc_options.specs.declared.setting.Bounds.{Bounds}
use Rattle.kmc_options.specs.declared.setting.Setting.{Setting}
use Rattle.kmc_options.specs.declared.setting.Setting.TheVariants.{K, P, N, Ci, Cx, Cs, Sp, Sr}

-- the least and the greatest number that a setting may have, and the one that stands where none is given
abbrev pub bounds_of : Setting → Bounds
bounds_of K = record { least = 1; most = 64; default = 25 }
bounds_of P = record { least = 5; most = 11; default = 9 }
bounds_of N = record { least = 1; most = 2000; default = 512 }
bounds_of Ci = record { least = 0; most = 2 ^ 63; default = 2 }
bounds_of Cx = record { least = 0; most = 2 ^ 63; default = 1000000000 }
bounds_of Cs = record { least = 1; most = 2 ^ 63; default = 255 }
bounds_of Sp = record { least = 1; most = 16; default = 2 }
bounds_of Sr = record { least = 1; most = 16; default = 2 }

-- the setting may have this number
abbrev pub IsFor : Setting → ℕ → Type 0
IsFor s n = ((bounds_of s).least ≤ n) × (n ≤ (bounds_of s).most)

-- the number, where it is in range
abbrev pub within : Bounds → ℕ → Option ℕ
within b n = if nat_le b.least n && nat_le n b.most then Some n else None

-- the number that a text gives, where it is one and in range, and the default where there is no text
abbrev pub chosen : Bounds → Option Word → Option ℕ
chosen b None = Some b.default
chosen b (Some text) = option_and_then (within b) (number_of text)
