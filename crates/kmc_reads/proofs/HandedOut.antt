-- A scan that has handed out what it could.
use Rattle.std.proofs.Common.{◌≡◌, ◌≢◌, ℕ, ◌+◌, ◌≤◌, true, List, [], ◌∷◌, ◌++◌, length, refl, sym, ap, ◌∙◌, length-append, arith}
use Rattle.std.specs.List.{concat}
use Rattle.std.specs.Io.BufRead.{strip_last}
use Rattle.kmc_reads.specs.declared.scan.Scan.{Scan}
use Rattle.kmc_reads.specs.declared.line_kind.LineKind.{LineKind}
use Rattle.kmc_reads.specs.declared.line_kind.LineKind.TheVariants.{Header, Sequence, Plus, Quality, FirstHeader, Body, Name, Rest}
use Rattle.kmc_reads.specs.Rows.{ends_from}
use Rattle.kmc_reads.specs.Stages.{Spot}
use Rattle.kmc_reads.specs.Standing.{At, IsHandedOut, kept, open_symbols}

no_rows : (rows : List (List ℕ)) → ends_from 0 rows ≡ [] → rows ≡ []
no_rows [] h = refl
no_rows (r ∷ rs) h = absurd (cc)

at_most : (st : LineKind) (read content : List ℕ) → length (open_symbols st read content) ≤ length (read ++ kept st content)
at_most Header read content = omega (arith)
at_most Sequence read content = omega (arith)
at_most Plus read content = omega (arith)
at_most Quality read content = omega (arith)
at_most FirstHeader read content = omega (arith)
at_most Body read content = omega (arith)
at_most Name read content = omega (arith)
at_most Rest read content = omega (arith)

none_open : (st : LineKind) (read content : List ℕ) → st ≢ Body → st ≢ Rest → open_symbols st read content ≡ []
none_open Header read content b r = refl
none_open Sequence read content b r = refl
none_open Plus read content b r = refl
none_open Quality read content b r = refl
none_open FirstHeader read content b r = refl
none_open Body read content b r = absurd (b refl)
none_open Name read content b r = refl
none_open Rest read content b r = absurd (r refl)

-- a scan that holds no ends
module _ (overlap : ℕ) (v : Scan) (ends : v.ends.items ≡ []) where
  none_waits : (rows : List (List ℕ)) (spot : Spot) (front : List ℕ) → At rows spot front v → rows ≡ []
  none_waits rows spot front at = no_rows rows (sym at.keeps.ends ∙ ends)

  -- and no more than so many bytes
  pub few_open : length v.bytes.items ≤ overlap → IsHandedOut overlap v
  few_open few rows spot front at = (
    none_waits rows spot front at,
    λ none.
        let content = strip_last 13 front in
        let all : length v.bytes.items ≡ length (concat rows) + length (spot.read ++ kept spot.stage content)
        = ap length at.keeps.bytes ∙ length-append (concat rows) (spot.read ++ kept spot.stage content) in
        omega (arith, few, all, at_most spot.stage spot.read content),
  )

  -- and is in no symbols of a FASTA read
  pub elsewhere : v.place.stage ≢ Body → v.place.stage ≢ Rest → IsHandedOut overlap v
  elsewhere no_body no_rest rows spot front at = (
    none_waits rows spot front at,
    λ none.
        omega (arith, ap length (none_open spot.stage spot.read (strip_last 13 front) (λ h. no_body (at.keeps.stage ∙ h)) (λ h. no_rest (at.keeps.stage ∙ h)))),
  )

  -- and holds a carriage return back
  pub held_back : v.place.held ≡ true → IsHandedOut overlap v
  held_back held rows spot front at = (none_waits rows spot front at, λ none. absurd (cc (sym held ∙ at.held ∙ none)))
