-- A database, unpacked so far.
use Rattle.std.specs.Prelude.{◌≡◌, ℕ, ◌+◌, ◌^◌, ◌<◌, ◌≤◌, List, [], ◌∷◌, ◌++◌, length, Option, Result, IfOk, IfErr, OnErr}
use Rattle.kmc_device.specs.Device.{Watched, WritesOut}
use Rattle.kmc_lists.specs.Line.{text_of}
use Rattle.kmc_sum.specs.Pairs.{EndsIn}
use Rattle.kmc_sum.specs.Source.{unread}
use Rattle.kmc_sum.specs.declared.source.Room.{Room}
use Rattle.kmc_database.specs.Given.{EndsAt, HaveGiven, IsUnpackBegun, Starts}
use Rattle.kmc_database.specs.TakenRow.{pair_of_row}
use Rattle.kmc_database.specs.UnpackCauses.{IsRefusedWith}
use Rattle.kmc_database.specs.declared.reading.Header.{Header}
use Rattle.kmc_database.specs.declared.row_reading.Row.{Row}
use Rattle.kmc_database.specs.declared.unpack_error.UnpackError.{UnpackError}
use Rattle.kmc_database.specs.declared.layout.Layout.{Layout}

-- the files gave so many rows, of which this packed word is the last, and their lines went out or are held
pub record IsUnpackedSoFar (l : Layout) (s : Starts) (n m : ℕ) (prefix_now : Option (List ℕ)) (table_rest : List ℕ) (suffix_now : Option (List ℕ))
    (rest : List ℕ) (written_now : Option (List ℕ)) (held : List ℕ) (row last : ℕ) : Type 0 where
  pub pairs : List (List ℕ × ℕ)
  pub given : HaveGiven l s n m pairs prefix_now table_rest suffix_now rest
  pub count : row ≡ length pairs
  pub behind : 1 ≤ row → EndsIn l.k last pairs
  pub text : WritesOut s.written written_now (text_of pairs) held

-- all entries of the table and so many rows were read
abbrev pub AreAllUnpacked : Layout → Starts → Option (List ℕ) → List ℕ → Option (List ℕ) → List ℕ → Option (List ℕ) → List ℕ → ℕ → Type 0
AreAllUnpacked l s prefix_now table_rest suffix_now rest written_now held rows =
    (last : ℕ) × IsUnpackedSoFar l s (4 ^ l.prefix) (4 ^ l.prefix) prefix_now table_rest suffix_now rest written_now held rows last

-- the files gave the rows of these pairs, and one more is to come of this first part
pub record IsBeforeRow (h : Header) (s : Starts) (part : ℕ) (prefix_now : Option (List ℕ)) (table_rest : List ℕ) (suffix_now : Option (List ℕ))
    (rest : List ℕ) (row last : ℕ) (pairs : List (List ℕ × ℕ)) : Type 0 where
  pub given : HaveGiven h.layout s (part + 1) (part + 1) pairs prefix_now table_rest suffix_now rest
  pub count : row ≡ length pairs
  pub behind : 1 ≤ row → EndsIn h.layout.k last pairs
  pub to : ℕ
  pub ends : EndsAt h.layout h.rows part to table_rest
  pub inside : row < to

-- the row of a pair that is listed behind these was read
pub record IsRowRead (h : Header) (s : Starts) (part : ℕ) (prefix_now : Option (List ℕ)) (table_rest : List ℕ) (suffix_now : Option (List ℕ))
    (rest : List ℕ) (pairs : List (List ℕ × ℕ)) (row : Row) : Type 0 where
  pub given : HaveGiven h.layout s (part + 1) (part + 1) (pairs ++ pair_of_row h.layout row ∷ []) prefix_now table_rest suffix_now rest

-- no row was read, for this cause
pub record IsRowRefused {R : Type 0} (remaining : R → Option (List ℕ)) (h : Header) (s : Starts) (part : ℕ) (prefix_now : Option (List ℕ))
    (table_rest : List ℕ) (reader read : Watched R) (pairs : List (List ℕ × ℕ)) (e : UnpackError) : Type 0 where
  pub rest : List ℕ
  pub given : HaveGiven h.layout s (part + 1) (part + 1) pairs prefix_now table_rest (remaining read.inner) rest
  pub cause : (first prefix writer : ℕ) → IsRefusedWith h s prefix_now (remaining read.inner)
      (record { first = first; prefix = prefix; suffix = reader.failures; writer = writer })
      (record { first = first; prefix = prefix; suffix = read.failures; writer = writer }) e

-- the rows of one first part, read and written as far as this one, by the answer, which is the last word
pub record IsPartAnswer {R W : Type 0} (remaining : R → Option (List ℕ)) (contents : W → Option (List ℕ)) (h : Header) (s : Starts) (part to : ℕ)
    (prefix_now : Option (List ℕ)) (table_rest : List ℕ) (reader read : Watched R) (room : Room) (writer written : Watched W) (held : List ℕ)
    (answer : Result ℕ UnpackError) : Type 0 where
  pub ok : IfOk answer (λ last. IsUnpackedSoFar h.layout s (part + 1) (part + 1) prefix_now table_rest (remaining read.inner) (unread room)
      (contents written.inner) held to last)
  pub cause : (first prefix : ℕ) → IfErr answer (IsRefusedWith h s prefix_now (remaining read.inner)
      (record { first = first; prefix = prefix; suffix = reader.failures; writer = writer.failures })
      (record { first = first; prefix = prefix; suffix = read.failures; writer = written.failures }))
  pub begun : OnErr answer (IsUnpackBegun s prefix_now (remaining read.inner) (contents written.inner))
