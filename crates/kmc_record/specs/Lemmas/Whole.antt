-- Where a walk over whole records stops.
use Rattle.std.proofs.Common.{◌≡◌, ℕ, ◌+◌, ◌<◌, ◌≤◌, List, length, get_or, take, drop, All}
use Rattle.kmc_base.specs.Record.{IsBodyOf, codes_in, size_of}
use Rattle.kmc_base.specs.Lemmas.Whole.{begins_there, first_codes, rest_at, spelled_there}
use Rattle.kmc_record.specs.Refusals.{StopsAtRecord}

-- a record of n symbols was found at a place of a body
module _ (k n offset : ℕ) (body : List ℕ) (each : (i : ℕ) → get_or body i 0 < 256) (count : n ≡ get_or (rest_at offset body) 0 0 + k)
    (inside : 1 + size_of n ≤ length (rest_at offset body))
    (clean : All (λ c. c ≡ 0) (drop n (codes_in (take (size_of n) (drop 1 (rest_at offset body)))))) where
  -- memory was wanted for it
  pub stops_there : (ss : List (List ℕ)) → offset < length body → IsBodyOf k ss (take offset body) → StopsAtRecord k body
  stops_there ss less whole = record {
    offset = offset;
    inside = less;
    before = ss;
    whole = whole;
    here = record {
      codes = first_codes n (rest_at offset body);
      rest = drop (1 + size_of n) (rest_at offset body);
      spelled = spelled_there k n offset body each count inside clean;
      is = begins_there k n offset body each count inside clean;
    };
  }
