-- A database as the text of its dump.
use Rattle.std.specs.Prelude.{◌≡◌, ◌≢◌, ℕ, ◌-◌, ◌^◌, ◌<◌, ◌≤◌, ◌⊎◌, min, nat_eq, if◌then◌else◌, List, [], ◌++◌, length, slice_index, Option}
use Rattle.std.specs.Io.KnownBytes.{Appends, Consumes, IsAtEnd}
use Rattle.kmc_base.specs.declared.strands.Strands.{Strands}
use Rattle.kmc_base.specs.declared.strands.Strands.TheVariants.{Apart, Joined}
use Rattle.kmc_device.specs.Device.{GaveAll}
use Rattle.kmc_sum.specs.Listed.{Lists}
use Rattle.kmc_database.specs.Files.{CountsFit, prefix_long, prefix_start, suffix_file}
use Rattle.kmc_database.specs.Given.{Starts}
use Rattle.kmc_database.specs.Header.{IsFormFault, IsHeaderOf}
use Rattle.kmc_database.specs.declared.reading.FormFault.{FormFault}
use Rattle.kmc_database.specs.declared.reading.Header.{Header}

-- ---- the prefix file, read once to its end

-- a file gave these bytes, and they are all of it, or more than are counted
pub record IsReadThrough (start now : Option (List ℕ)) (bytes : List ℕ) : Type 0 where
  pub gave : Consumes start now bytes
  pub whole : IsAtEnd now ⊎ (2 ^ 64 - 1 ≤ length bytes)

-- such a file was read, of so many bytes as far as they are counted, of which these are the last: 72 or all
pub record IsTold (start now : Option (List ℕ)) (last : List ℕ) (size : ℕ) : Type 0 where
  pub front : List ℕ
  pub read : IsReadThrough start now (front ++ last)
  pub many : size ≡ min (length (front ++ last)) (2 ^ 64 - 1)
  pub held : (72 ≤ length last) ⊎ (front ≡ [])

-- a file ends with this header, and is as long as the header asks for
pub record EndsInHeader (start now : Option (List ℕ)) (h : Header) : Type 0 where
  pub front : List ℕ
  pub last : List ℕ
  pub gave : GaveAll start now (front ++ last)
  pub header : IsHeaderOf last h
  pub long : length (front ++ last) ≡ prefix_long h.layout

-- the strands by byte 32 of a header
abbrev pub strands_by : ℕ → Strands
strands_by byte = if nat_eq byte 0 then Joined else Apart

-- the last 72 bytes of a file tell these strands
pub record TellsStrands (start now : Option (List ℕ)) (strands : Strands) : Type 0 where
  pub front : List ℕ
  pub last : List ℕ
  pub gave : GaveAll start now (front ++ last)
  pub long : length last ≡ 72
  pub is : strands ≡ strands_by (slice_index last 32)

-- a file ends with 72 bytes that are no header, for this reason
pub record EndsInNoHeader (start now : Option (List ℕ)) (fault : FormFault) : Type 0 where
  pub front : List ℕ
  pub last : List ℕ
  pub read : IsReadThrough start now (front ++ last)
  pub long : length last ≡ 72
  pub is : IsFormFault last fault

-- a file ends with a header that asks for another length, or is too short for a header
pub record IsOfOtherLength (start now : Option (List ℕ)) : Type 0 where
  pub front : List ℕ
  pub last : List ℕ
  pub read : IsReadThrough start now (front ++ last)
  pub other : (length (front ++ last) < 72) ⊎ ((h : Header) × IsHeaderOf last h × (length (front ++ last) ≢ prefix_long h.layout))

-- ---- both files

-- the files gave to their ends a table, this header and rows of pairs that are listed, and the text of their dump was written
pub record IsReadOut (h : Header) (s : Starts) (prefix_now suffix_now written_now : Option (List ℕ)) : Type 0 where
  pub pairs : List (List ℕ × ℕ)
  pub count : h.rows ≡ length pairs
  pub fit : CountsFit h.layout pairs
  pub header : List ℕ
  pub told : IsHeaderOf header h
  pub prefix : GaveAll s.prefix prefix_now (prefix_start h.layout pairs ++ header)
  pub suffix : GaveAll s.suffix suffix_now (suffix_file h.layout pairs)
  pub text : List ℕ
  pub lists : Lists h.layout.k text pairs
  pub written : Appends s.written written_now text

-- so it is, of a header that the prefix file had when it was first read, and of so many rows
pub record IsUnpacked (first_old first_new : Option (List ℕ)) (s : Starts) (prefix_now suffix_now written_now : Option (List ℕ)) (rows : ℕ)
    : Type 0 where
  pub h : Header
  pub many : rows ≡ h.rows
  pub first : EndsInHeader first_old first_new h
  pub out : IsReadOut h s prefix_now suffix_now written_now
