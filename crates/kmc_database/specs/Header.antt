-- The end of a prefix file, as it is read.
use Rattle.std.specs.Prelude.{◌≡◌, ◌≢◌, ℕ, ◌<◌, ◌^◌, List, length, take, drop}
use Rattle.kmc_database.specs.Files.{header_of, prefix_marker}
use Rattle.kmc_database.specs.Layout.{IsLayout}
use Rattle.kmc_database.specs.Numbers.{low_first}
use Rattle.kmc_database.specs.declared.layout.Layout.{Layout}
use Rattle.kmc_database.specs.declared.reading.Header.{Header}
use Rattle.kmc_database.specs.declared.reading.FormFault.{FormFault}
use Rattle.kmc_database.specs.declared.reading.FormFault.TheVariants.{Marker, Newer, Version, Size, Mode, NoLayout}

-- so many bytes from a place on
abbrev pub field : List ℕ → ℕ → ℕ → List ℕ
field bytes at size = take size (drop at bytes)

-- these bytes are a header of this layout and so many rows; the limits and the strands may be any
pub record IsHeaderOf (bytes : List ℕ) (h : Header) : Type 0 where
  pub layout : IsLayout h.layout
  pub few : h.rows < 2 ^ 64
  pub limits : List ℕ
  pub limits_long : length limits ≡ 8
  pub strands : List ℕ
  pub strands_long : length strands ≡ 28
  pub is : bytes ≡ header_of h.layout h.rows limits strands

-- the words and counts of a header have no layout
pub record HaveNoLayout (bytes : List ℕ) : Type 0 where
  pub layout : Layout
  pub k : field bytes 0 4 ≡ low_first 4 layout.k
  pub counter : field bytes 8 4 ≡ low_first 4 layout.counter
  pub prefix : field bytes 12 4 ≡ low_first 4 layout.prefix
  pub none : IsLayout layout → ⊥

-- they have this one
pub record IsLayoutIn (bytes : List ℕ) (layout : Layout) : Type 0 where
  pub k : field bytes 0 4 ≡ low_first 4 layout.k
  pub counter : field bytes 8 4 ≡ low_first 4 layout.counter
  pub prefix : field bytes 12 4 ≡ low_first 4 layout.prefix
  pub is : IsLayout layout

-- why bytes are no header: the version of the newer form is 512
abbrev pub IsFormFault : List ℕ → FormFault → Type 0
IsFormFault bytes Marker = field bytes 68 4 ≢ prefix_marker
IsFormFault bytes Newer = field bytes 60 4 ≡ low_first 4 512
IsFormFault bytes Version = (field bytes 60 4 ≢ low_first 4 0) × (field bytes 60 4 ≢ low_first 4 512)
IsFormFault bytes Size = field bytes 64 4 ≢ low_first 4 64
IsFormFault bytes Mode = field bytes 4 4 ≢ low_first 4 0
IsFormFault bytes NoLayout = HaveNoLayout bytes
