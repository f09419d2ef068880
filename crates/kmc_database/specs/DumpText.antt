-- The two files of a database, read as the text of its dump.
use Rattle.std.specs.Prelude.{ℕ, ◌+◌, ◌-◌, ◌/◌, ◌^◌, ◌<◌, ◌≤◌, nat_eq, nat_lt, nat_le, Bool, true, false, ◌&&◌, ◌||◌, if◌then◌else◌, List, [], ◌∷◌, ◌++◌, length, take, drop, Option, Some, None, bytes_eq}
use Rattle.std.proofs.Common.{zero, suc}
use Rattle.kmc_lists.specs.Line.{line_of}
use Rattle.kmc_database.specs.Files.{prefix_marker, suffix_marker}
use Rattle.kmc_database.specs.Numbers.{low_first}
use Rattle.kmc_database.specs.Numerals.{has_at, low_number, with_digits}
use Rattle.kmc_database.specs.Rows.{row_long, row_of}
use Rattle.kmc_database.specs.TakenRow.{pair_of_row}
use Rattle.kmc_database.specs.declared.layout.Layout.{Layout}
use Rattle.kmc_database.specs.declared.progress.Progress.{Progress}
use Rattle.kmc_database.specs.declared.reading.Header.{Header}
use Rattle.kmc_database.specs.declared.row_reading.Row.{Row}
use Rattle.kmc_database.specs.declared.unpack_error.UnpackError.{UnpackError}
use Rattle.kmc_database.specs.declared.unpack_error.UnpackError.TheVariants.{PrefixMarker, SuffixMarker, Entry, Cut, NotRising, ZeroCount, SuffixEnd, Changed}

-- ---- how far the files are read

-- nothing is read
abbrev pub start : Progress
start = record { begun = false; entries = 0; row = 0; to = 0; last = 0 }

-- the rows of the entries so far are no fewer than those that are read, and rows are left only of a first part that the table has told
pub record IsWithin (h : Header) (at : Progress) : Type 0 where
  pub order : at.row ≤ at.to
  pub rows : at.to ≤ h.rows
  pub table : at.entries ≤ 4 ^ h.layout.prefix + 1
  pub part : at.row < at.to → 2 ≤ at.entries
  pub few : h.rows < 2 ^ 64

-- the steps to come: the markers, each row, each entry and the end of the last first part, and the ends of the files
abbrev pub steps_left : Header → Progress → ℕ
steps_left h at = (h.rows - at.row) + (4 ^ h.layout.prefix + 1 - at.entries) + (if at.begun then 1 else 2)

-- a step finds the files at their ends, or at fault, or bytes of the text and files of which less is left
pub data Step : Type 0 where
  Ends : Step
  Fails : UnpackError → Step
  Goes : List ℕ → Progress → List ℕ → List ℕ → Step

-- a step that is taken where nothing is at fault
abbrev pub unless : Option UnpackError → Step → Step
unless None step = step
unless (Some e) step = Fails e

-- ---- the steps

-- both markers are taken
abbrev pub marker_step : Progress → List ℕ → List ℕ → Step
marker_step at p s =
    if has_at p 0 prefix_marker then
    if has_at s 0 suffix_marker then Goes [] (record at { begun = true }) (drop 4 p) (drop 4 s) else Fails SuffixMarker
    else Fails PrefixMarker

-- the row at the front of bytes, of a word with this first part
abbrev pub row_in : Layout → ℕ → List ℕ → Row
row_in l part s =
    let size = (l.k - l.prefix) / 4 in
    record { packed = with_digits part (take size s); count = low_number (take l.counter (drop size s)) }

-- the word of a row is to be above the last one, and its count is not to be 0
abbrev pub row_fault : Progress → Row → Option UnpackError
row_fault at row =
    if nat_lt 0 at.row && nat_le row.packed at.last then Some (NotRising (at.row + 1))
    else if nat_eq row.count 0 then Some (ZeroCount (at.row + 1))
    else None

-- so many rows are read, of which this one is the last
abbrev pub behind_row : Progress → Row → Progress
behind_row at row = record at { row = at.row + 1; last = row.packed }

-- a row is taken
abbrev pub row_step : Header → Progress → List ℕ → List ℕ → Step
row_step h at p s =
    let row = row_in h.layout (at.entries - 2) s in
    if has_at s 0 (row_of h.layout (pair_of_row h.layout row)) then
    unless (row_fault at row) (Goes (line_of (pair_of_row h.layout row)) (behind_row at row) p (drop (row_long h.layout) s))
    else Fails (Cut (at.row + 1))

-- an entry is to be no less than the one before and no more than there are rows, and the first one is to be 0
abbrev pub entry_fault : Header → Progress → ℕ → Option UnpackError
entry_fault h at entry =
    if nat_lt entry at.row || nat_lt (if nat_eq at.entries 0 then 0 else h.rows) entry then Some (Entry at.entries) else None

-- the rows up to this one are of the first parts so far
abbrev pub behind_entry : Progress → ℕ → Progress
behind_entry at entry = record at { entries = at.entries + 1; to = entry }

-- an entry of the table is taken
abbrev pub entry_step : Header → Progress → List ℕ → List ℕ → Step
entry_step h at p s =
    let entry = low_number (take 8 p) in
    if has_at p 0 (low_first 8 entry) then unless (entry_fault h at entry) (Goes [] (behind_entry at entry) (drop 8 p) s)
    else Fails Changed

-- this layout stands in the end of a prefix file
abbrev pub has_layout : Layout → List ℕ → Bool
has_layout l p = has_at p 0 (low_first 4 l.k) && has_at p 8 (low_first 4 l.counter) && has_at p 12 (low_first 4 l.prefix)

-- and this form: mode 0, version 0, how long the header is, the marker
abbrev pub has_form : List ℕ → Bool
has_form p = has_at p 4 (low_first 4 0) && has_at p 60 (low_first 4 0) && has_at p 64 (low_first 4 64) && has_at p 68 prefix_marker

-- whether bytes are this header; the limits and the strands may be any
abbrev pub is_header : Header → List ℕ → Bool
is_header h p = nat_eq (length p) 72 && has_layout h.layout p && has_at p 24 (low_first 8 h.rows) && has_form p

-- behind all rows the suffix file has its marker, and behind its table the prefix file has this header, and nothing more
abbrev pub end_step : Header → List ℕ → List ℕ → Step
end_step h p s =
    if bytes_eq s suffix_marker then
    if is_header h p then Ends else Fails Changed
    else Fails SuffixEnd

-- the next step: the markers, then the rows up to the last entry, then the next entry, and behind the table the last rows
unfoldable pub step : Header → Progress → List ℕ → List ℕ → Step
step h at p s =
    if at.begun then
    if nat_lt at.row at.to then row_step h at p s
    else if nat_lt at.entries (4 ^ h.layout.prefix) then entry_step h at p s
    else if nat_le at.entries (4 ^ h.layout.prefix) then Goes [] (behind_entry at h.rows) p s
    else end_step h p s
    else marker_step at p s

-- ---- the text

-- the text that a step finds, and then what stands behind it: byte 0 where the files are at fault, which stands in no dump
abbrev pub text_behind : (Progress → List ℕ → List ℕ → List ℕ) → Step → List ℕ
text_behind next Ends = []
text_behind next (Fails e) = 0 ∷ []
text_behind next (Goes line at p s) = line ++ next at p s

-- the text of so many steps
unfoldable pub text_in : Header → ℕ → Progress → List ℕ → List ℕ → List ℕ
text_in h zero at p s = 0 ∷ []
text_in h (suc n) at p s = text_behind (text_in h n) (step h at p s)

-- the text of what is left of both files
abbrev pub text_from : Header → Progress → List ℕ → List ℕ → List ℕ
text_from h at p s = text_in h (steps_left h at) at p s

-- the text of the prefix file and the suffix file of a database with this header: the lines of its rows and nothing else, or where the
-- files are no database of it, the lines before the first fault and then byte 0
abbrev pub text_of_files : Header → List ℕ → List ℕ → List ℕ
text_of_files h prefix suffix = text_from h start prefix suffix
