-- Where a feeder stands.
use Rattle.std.specs.Prelude.{◌≡◌, ℕ, ◌-◌, ◌<◌, ◌≤◌, true, false, List, [], ◌∷◌, ◌++◌, length, get_or, Option, Some, None, Ok}
use Rattle.std.specs.List.{concat}
use Rattle.std.specs.Io.BufRead.{strip_last, ends_with_byte}
use Rattle.std.specs.Io.Iter.{u64_saturate}
use Rattle.kmc_reads.specs.declared.error.ReadsError.{ReadsError}
use Rattle.kmc_reads.specs.declared.format.Format.{Format}
use Rattle.kmc_reads.specs.declared.scan.Scan.{Scan}
use Rattle.kmc_reads.specs.declared.line_kind.LineKind.{LineKind}
use Rattle.kmc_reads.specs.declared.line_kind.LineKind.TheVariants.{Header, Sequence, Plus, Quality, FirstHeader, Body, Name, Rest}
use Rattle.kmc_reads.specs.Lines.{line_feed, carriage_return}
use Rattle.kmc_reads.specs.Answer.{with_reads}
use Rattle.kmc_reads.specs.Cuts.{IsCutAnswer}
use Rattle.kmc_reads.specs.Fasta.{is_header}
use Rattle.kmc_reads.specs.OpenLines.{whole_from, open_from, lines_from, last_line}
use Rattle.kmc_reads.specs.Rows.{ends_from}
use Rattle.kmc_reads.specs.Stages.{Spot, first_spot, begun_by, fault_from, ended_from, reads_from, answer_at_end}

-- the bytes of a line are kept where they are symbols of a read
abbrev pub kept : LineKind → List ℕ → List ℕ
kept Header line = []
kept Sequence line = line
kept Plus line = []
kept Quality line = []
kept FirstHeader line = []
kept Body line = line
kept Name line = []
kept Rest line = line

-- rows that lie one behind the other, before these bytes
pub record Lies (rows : List (List ℕ)) (behind : List ℕ) (v : Scan) : Type 0 where
  pub bytes : v.bytes.items ≡ concat rows ++ behind
  pub ends : v.ends.items ≡ ends_from 0 rows

-- the scan has these rows ready, and this content of the open line at this spot
pub record Keeps (rows : List (List ℕ)) (spot : Spot) (content : List ℕ) (v : Scan) : Type 0 where
  pub stage : v.place.stage ≡ spot.stage
  pub number : v.place.number ≡ spot.number
  pub bytes : v.bytes.items ≡ concat rows ++ (spot.read ++ kept spot.stage content)
  pub ends : v.ends.items ≡ ends_from 0 rows
  pub start : v.place.start ≡ length (concat rows)
  pub many : v.place.length ≡ u64_saturate (length content)
  pub first : 0 < length content → v.place.first ≡ get_or content 0 0

-- the same of the bytes of the open line: a carriage return at their end is held back, and a header's first byte has ended the read
pub record At (rows : List (List ℕ)) (spot : Spot) (front : List ℕ) (v : Scan) : Type 0 where
  pub keeps : Keeps rows spot (strip_last carriage_return front) v
  pub held : v.place.held ≡ ends_with_byte carriage_return front
  pub settled : begun_by spot.stage spot.read front ≡ []

-- the symbols of the open read that can be handed out before it ends: those of a FASTA read
abbrev pub open_symbols : LineKind → List ℕ → List ℕ → List ℕ
open_symbols Header read content = []
open_symbols Sequence read content = []
open_symbols Plus read content = []
open_symbols Quality read content = []
open_symbols FirstHeader read content = []
open_symbols Body read content = read ++ content
open_symbols Name read content = []
open_symbols Rest read content = read ++ content

-- the scan stands somewhere in a text
pub record IsSomewhere (v : Scan) : Type 0 where
  pub rows : List (List ℕ)
  pub spot : Spot
  pub front : List ℕ
  pub stands : At rows spot front v

-- from this spot and open line the bytes p give these reads and lead to that spot and open line, whatever follows
pub record Leads (s : Spot) (front p : List ℕ) (more : List (List ℕ)) (t : Spot) (left : List ℕ) : Type 0 where
  pub fault : (rest : List ℕ) → fault_from s (whole_from front (p ++ rest)) ≡ fault_from t (whole_from left rest)
  pub ended : (rest : List ℕ) → ended_from s (whole_from front (p ++ rest)) (open_from front (p ++ rest))
      ≡ more ++ ended_from t (whole_from left rest) (open_from left rest)
  pub reads : (rest : List ℕ) → reads_from s (lines_from front (p ++ rest)) ≡ with_reads more (reads_from t (lines_from left rest))

-- the same where reads may be cut in pieces that overlap by so many symbols
pub record LeadsCut (overlap : ℕ) (s : Spot) (front p : List ℕ) (more : List (List ℕ)) (t : Spot) (left : List ℕ) : Type 0 where
  pub fault : (rest : List ℕ) → fault_from s (whole_from front (p ++ rest)) ≡ fault_from t (whole_from left rest)
  pub reads : (rest : List ℕ) → IsCutAnswer overlap (reads_from s (lines_from front (p ++ rest))) (with_reads more (reads_from t (lines_from left rest)))

-- the same by how reads are handed out: whole, or some of them in pieces that overlap by so many symbols
abbrev pub LeadsBy : Option ℕ → Spot → List ℕ → List ℕ → List (List ℕ) → Spot → List ℕ → Type 0
LeadsBy None s front p more t left = Leads s front p more t left
LeadsBy (Some overlap) s front p more t left = LeadsCut overlap s front p more t left

-- the bytes p end a line that has this fault, whatever follows
abbrev pub HasFault : Spot → List ℕ → List ℕ → ReadsError → Type 0
HasFault s front p e = (rest : List ℕ) → fault_from s (whole_from front (p ++ rest)) ≡ Some e

-- no byte is a line feed
abbrev pub HasNoFeed : List ℕ → Type 0
HasNoFeed p = (k : ℕ) → k < length p → get_or p k 0 ≡ line_feed → ⊥

-- the bytes before the first line feed, and those after it
pub record IsCutOfText (text line after : List ℕ) : Type 0 where
  pub text_is : text ≡ line ++ line_feed ∷ after
  pub unbroken : HasNoFeed line
  pub shorter : length after < length text

-- these bytes are the first of the header that ends the open read
pub record IsName (spot : Spot) (front bytes : List ℕ) : Type 0 where
  pub body : spot.stage ≡ Body
  pub none : front ≡ []
  pub header : is_header bytes ≡ true

-- the scan went over the bytes p
pub record Goes (rows : List (List ℕ)) (spot : Spot) (front p : List ℕ) (v : Scan) : Type 0 where
  pub more : List (List ℕ)
  pub next : Spot
  pub left : List ℕ
  pub leads : Leads spot front p more next left
  pub stands : At (rows ++ more) next left v

-- the open line was the last of the text
pub record EndsLine (rows : List (List ℕ)) (spot : Spot) (front : List ℕ) (v : Scan) : Type 0 where
  pub more : List (List ℕ)
  pub next : Spot
  pub reads : reads_from spot (last_line front) ≡ with_reads more (answer_at_end next.number next.stage next.read)
  pub stands : At (rows ++ more) next [] v

-- no line is left: these last reads, and the scan has them
pub record EndsRead (rows : List (List ℕ)) (spot : Spot) (v : Scan) : Type 0 where
  pub more : List (List ℕ)
  pub answer : answer_at_end spot.number spot.stage spot.read ≡ Ok more
  pub behind : List ℕ
  pub lies : Lies (rows ++ more) behind v

-- the text ended at this spot and open line: these last reads, and the scan has them
pub record EndsText (rows : List (List ℕ)) (spot : Spot) (front : List ℕ) (v : Scan) : Type 0 where
  pub more : List (List ℕ)
  pub reads : reads_from spot (last_line front) ≡ Ok more
  pub behind : List ℕ
  pub lies : Lies (rows ++ more) behind v

-- the scan handed out its rows and symbols of the open read, and stands as if that read began with the last of these
pub record Hands (overlap : ℕ) (rows : List (List ℕ)) (spot : Spot) (front : List ℕ) (reads : List (List ℕ)) (v : Scan) : Type 0 where
  pub more : List (List ℕ)
  pub next : Spot
  pub left : List ℕ
  pub given : reads ≡ rows ++ more
  pub leads : LeadsCut overlap spot front [] more next left
  pub stands : At [] next left v

-- no read waits, and of the open one no more than so many symbols can be handed out, unless a carriage return came last
abbrev pub IsHandedOut : ℕ → Scan → Type 0
IsHandedOut overlap v = (rows : List (List ℕ)) (spot : Spot) (front : List ℕ) → At rows spot front v
    → (rows ≡ []) × (ends_with_byte carriage_return front ≡ false → length (open_symbols spot.stage spot.read (strip_last carriage_return front)) ≤ overlap)

-- the scan kept its place and the bytes behind its rows
pub record Moves (old new : Scan) : Type 0 where
  pub ends : new.ends.items ≡ []
  pub stage : new.place.stage ≡ old.place.stage
  pub held : new.place.held ≡ old.place.held
  pub long : length new.bytes.items ≡ length old.bytes.items - old.place.start

-- the buffers and the place are the same
pub record IsAgain (old new : Scan) : Type 0 where
  pub bytes : new.bytes.items ≡ old.bytes.items
  pub ends : new.ends.items ≡ old.ends.items
  pub place : new.place ≡ old.place

-- wherever the old scan stood, the new one stands
abbrev pub StandsStill : Scan → Scan → Type 0
StandsStill old new = (rows : List (List ℕ)) (spot : Spot) (front : List ℕ) → At rows spot front old → At rows spot front new

-- what contracts see of a feeder
pub record FeederState : Type 0 where
  pub scan : Scan
  pub refusal : Option ReadsError

-- the feeder stands at this text, of whose reads, handed out so, these were taken
pub record Stands (cut : Option ℕ) (format : Format) (text : List ℕ) (taken : List (List ℕ)) (v : FeederState) : Type 0 where
  pub rows : List (List ℕ)
  pub spot : Spot
  pub front : List ℕ
  pub leads : LeadsBy cut (first_spot format) [] text (taken ++ rows) spot front
  pub stands : At rows spot front v.scan
  pub sound : v.refusal ≡ None

-- the feeder answers this refusal from now on
abbrev pub Refuses : ReadsError → FeederState → Type 0
Refuses e v = v.refusal ≡ Some e
