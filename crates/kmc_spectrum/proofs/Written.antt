-- The text of a spectrum.
use Rattle.std.proofs.Common.{◌≡◌, ℕ, List}
use Rattle.std.specs.Prelude.{Option, Result, Ok, Err, IfOk, OnOk}
use Rattle.kmc_join.specs.Histogram.{IsHistogram, rows_text}
use Rattle.kmc_options.specs.declared.run_params.Params.{Params}
use Rattle.kmc_tool.specs.Run.{IsDumpOfInput}
use Rattle.kmc_spectrum.specs.Spectrum.{IsSpectrumOfInput}

-- what holds of an answer by what is known of it and beside it
pub if_ok : {A E : Type 0} {P : A → Type 0} {Q : Type 0} {S : A → Type 0} (r : Result A E) → ((a : A) → P a → Q → S a) → IfOk r P → OnOk r Q → IfOk r S
if_ok (Ok a) go p q = go a p q
if_ok (Err e) go p q = tt

-- the histogram of pairs that are the dump of an input is its spectrum
pub is_spectrum : (params : Params) {old new : Option (List ℕ)} {pairs : List (List ℕ × ℕ)} {text : List ℕ} (rows : List (ℕ × ℕ))
    → IsDumpOfInput params.format params.strands params.k params.limits old new pairs → IsHistogram pairs rows → text ≡ rows_text rows
    → IsSpectrumOfInput params old new text
is_spectrum params {pairs = pairs} rows input histogram is = record {
  bytes = input.bytes;
  given = input.given;
  spectrum = record {
    reads = input.reads;
    are_reads = input.are_reads;
    pairs = pairs;
    is_dump = input.is_dump;
    rows = rows;
    is_histogram = histogram;
    is_text = is;
  };
}
