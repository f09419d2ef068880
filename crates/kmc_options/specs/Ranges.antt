-- Which settings a run may have.
use Rattle.std.specs.Prelude.{ℕ, ◌+◌, ◌-◌, ◌*◌, ◌≤◌, min}
use Rattle.kmc_split.specs.declared.signatures.TheConstants.{MAX_M}
use Rattle.kmc_options.specs.Settings.{IsFor}
use Rattle.kmc_options.specs.declared.setting.Setting.TheVariants.{K, P, N, Sp, Sr}

-- the numbers that the options give, but for the limits of counts, whose type keeps their own
abbrev pub AreSettings : ℕ → ℕ → ℕ → ℕ → ℕ → Type 0
AreSettings k p n sp sr = IsFor K k × IsFor P p × IsFor N n × IsFor Sp sp × IsFor Sr sr

-- the readers of the queue, the parts that a writer may have in it, and the reads of a round for each writer
abbrev pub AreQueueSettings : ℕ → ℕ → ℕ → Type 0
AreQueueSettings readers per_writer batch = (1 ≤ readers) × (readers ≤ 8) × (1 ≤ per_writer)
    × (per_writer ≤ 64) × (1 ≤ batch) × (batch ≤ 65536)

-- the symbols of the signatures of words of k symbols
abbrev pub IsSignatureLength : ℕ → ℕ → Type 0
IsSignatureLength k m = (m ≤ MAX_M) × (m ≤ k)

-- the symbols that fit words of k symbols best: none up to 10, 5 from 11 to 14, and one more for each symbol above, up to 8
abbrev pub fitting_length : ℕ → ℕ
fitting_length k = min (min 5 (5 * (k - 10)) + (k - 14)) 8
