-- The settings of a run where no option is given, and what stays of them where some are changed.
use Rattle.std.specs.Prelude.{◌≡◌, min}
use Rattle.kmc_base.specs.declared.strands.Strands.TheVariants.{Joined}
use Rattle.kmc_partcore.specs.declared.shape.QueueShape.{QueueShape}
use Rattle.kmc_reads.specs.declared.format.Format.TheVariants.{Fastq}
use Rattle.kmc_options.specs.Settings.{bounds_of}
use Rattle.kmc_options.specs.declared.run_params.Params.{Params}
use Rattle.kmc_options.specs.declared.setting.Setting.TheVariants.{K, P, N, Ci, Cx, Cs, Sp, Sr}

abbrev pub KeepsNumbers : Params → Params → Type 0
KeepsNumbers a b = (b.k ≡ a.k) × (b.asked_signature_length ≡ a.asked_signature_length) × (b.bins ≡ a.bins)
    × (b.splitters ≡ a.splitters) × (b.counters ≡ a.counters)

abbrev pub KeepsQueue : Params → Params → Type 0
KeepsQueue a b =
    (b.readers ≡ a.readers) × (b.per_writer ≡ a.per_writer) × (b.batch ≡ a.batch)

-- b has the format, the numbers and the limits of a, and so all that options give but the strands
abbrev pub KeepsOptions : Params → Params → Type 0
KeepsOptions a b = (b.format ≡ a.format) × (b.limits ≡ a.limits) × KeepsNumbers a b

abbrev pub KeepsSignatures : Params → Params → Type 0
KeepsSignatures a b = b.signature_length ≡ a.signature_length

-- signatures of p symbols, or of a whole word where that has fewer
abbrev pub HasAskedSignatures : Params → Type 0
HasAskedSignatures a = a.signature_length ≡ min a.asked_signature_length a.k

-- one storer, up to 8 parts of a writer in the queue, 1024 reads of a round for each writer
abbrev pub HasUsualQueue : Params → Type 0
HasUsualQueue a = (a.readers ≡ 1) × (a.per_writer ≡ 8) × (a.batch ≡ 1024)

abbrev pub HasDefaultNumbers : Params → Type 0
HasDefaultNumbers a = (a.k ≡ (bounds_of K).default) × (a.asked_signature_length ≡ (bounds_of P).default)
    × (a.bins ≡ (bounds_of N).default) × (a.splitters ≡ (bounds_of Sp).default)
    × (a.counters ≡ (bounds_of Sr).default)

abbrev pub HasDefaultLimits : Params → Type 0
HasDefaultLimits a = (a.limits.ci ≡ (bounds_of Ci).default)
    × (a.limits.cx ≡ (bounds_of Cx).default) × (a.limits.cs ≡ (bounds_of Cs).default)

-- FASTQ, both strands joined, each number at its default, signatures of as many symbols as p says, and the usual queue
abbrev pub IsDefault : Params → Type 0
IsDefault a = (a.format ≡ Fastq) × (a.strands ≡ Joined) × HasDefaultNumbers a
    × HasDefaultLimits a × HasAskedSignatures a × HasUsualQueue a

-- a writer for each splitter, a reader for each storer
abbrev pub IsQueueOf : Params → QueueShape → Type 0
IsQueueOf p q = (q.writers ≡ p.splitters) × (q.per_writer ≡ p.per_writer) × (q.readers ≡ p.readers)
