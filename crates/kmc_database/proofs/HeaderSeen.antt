-- A header is seen where it stands.
use Rattle.std.proofs.Common.{◌≡◌, ℕ, Bool, true, nat_eq, List, [], ◌++◌, length, take, drop, refl, ap, ◌∙◌, arith, append_assoc, append-nil, length-append}
use Rattle.std.proofs.lemmas.Bool.{eq-eqb}
use Rattle.std.proofs.lemmas.List.{drop_at, take_at}
use Rattle.std.specs.Prelude.{◌&&◌}
use Rattle.kmc_database.specs.DumpText.{has_form, has_layout, is_header}
use Rattle.kmc_database.specs.Files.{prefix_marker}
use Rattle.kmc_database.specs.Header.{IsHeaderOf}
use Rattle.kmc_database.specs.Numbers.{low_first}
use Rattle.kmc_database.specs.Numerals.{has_at}
use Rattle.kmc_database.specs.declared.reading.Header.{Header}
use Rattle.kmc_database.proofs.Numerals.{at_Decides}
use Rattle.kmc_database.proofs.ReadBack.{length_header}

-- a part stands where others stand before and behind it
pub stands_in : (x part y bytes : List ℕ) (place : ℕ) → bytes ≡ x ++ (part ++ y) → length x ≡ place → has_at bytes place part ≡ true
stands_in x part y bytes place is long =
    (at_Decides bytes place part).1
    (ap (λ (t : List ℕ). take (length part) (drop place t)) is
    ∙ ap (take (length part)) (drop_at x (part ++ y) place long)
    ∙ take_at part y (length part) refl)

both : (a b : Bool) → a ≡ true → b ≡ true → (a && b) ≡ true
both a b e f = (λ i. e i && f i)

-- bytes in the ten parts of a header
module _ (k mode counter prefix limits rows strands version size marker bytes : List ℕ) (hk : length k ≡ 4) (hm : length mode ≡ 4)
    (hc : length counter ≡ 4) (hp : length prefix ≡ 4) (hl : length limits ≡ 8) (hr : length rows ≡ 8) (hs : length strands ≡ 28)
    (hv : length version ≡ 4) (hz : length size ≡ 4)
    (is : bytes ≡ k ++ mode ++ counter ++ prefix ++ limits ++ rows ++ strands ++ version ++ size ++ marker) where
  k_seen : has_at bytes 0 k ≡ true
  k_seen =
      stands_in [] k (mode ++ counter ++ prefix ++ limits ++ rows ++ strands ++ version ++ size ++ marker) bytes 0
      (is ∙ simp append_assoc) refl

  mode_seen : has_at bytes 4 mode ≡ true
  mode_seen =
      stands_in k mode (counter ++ prefix ++ limits ++ rows ++ strands ++ version ++ size ++ marker) bytes 4
      (is ∙ simp append_assoc) hk

  counter_seen : has_at bytes 8 counter ≡ true
  counter_seen =
      stands_in (k ++ mode) counter (prefix ++ limits ++ rows ++ strands ++ version ++ size ++ marker) bytes 8
      (is ∙ simp append_assoc) (simp length-append (omega (arith, hk, hm)))

  prefix_seen : has_at bytes 12 prefix ≡ true
  prefix_seen =
      stands_in (k ++ mode ++ counter) prefix (limits ++ rows ++ strands ++ version ++ size ++ marker) bytes 12
      (is ∙ simp append_assoc) (simp length-append (omega (arith, hk, hm, hc)))

  rows_seen : has_at bytes 24 rows ≡ true
  rows_seen =
      stands_in (k ++ mode ++ counter ++ prefix ++ limits) rows (strands ++ version ++ size ++ marker) bytes 24
      (is ∙ simp append_assoc) (simp length-append (omega (arith, hk, hm, hc, hp, hl)))

  version_seen : has_at bytes 60 version ≡ true
  version_seen =
      stands_in (k ++ mode ++ counter ++ prefix ++ limits ++ rows ++ strands) version (size ++ marker) bytes 60
      (is ∙ simp append_assoc) (simp length-append (omega (arith, hk, hm, hc, hp, hl, hr, hs)))

  size_seen : has_at bytes 64 size ≡ true
  size_seen =
      stands_in (k ++ mode ++ counter ++ prefix ++ limits ++ rows ++ strands ++ version) size marker bytes 64
      (is ∙ simp append_assoc) (simp length-append (omega (arith, hk, hm, hc, hp, hl, hr, hs, hv)))

  marker_seen : has_at bytes 68 marker ≡ true
  marker_seen =
      stands_in (k ++ mode ++ counter ++ prefix ++ limits ++ rows ++ strands ++ version ++ size) marker [] bytes 68
      (is ∙ simp (append_assoc, append-nil)) (simp length-append (omega (arith, hk, hm, hc, hp, hl, hr, hs, hv, hz)))

  pub record AreSeen : Type 0 where
    pub at_0 : has_at bytes 0 k ≡ true
    pub at_4 : has_at bytes 4 mode ≡ true
    pub at_8 : has_at bytes 8 counter ≡ true
    pub at_12 : has_at bytes 12 prefix ≡ true
    pub at_24 : has_at bytes 24 rows ≡ true
    pub at_60 : has_at bytes 60 version ≡ true
    pub at_64 : has_at bytes 64 size ≡ true
    pub at_68 : has_at bytes 68 marker ≡ true

  all_seen : AreSeen
  all_seen = record {
    at_0 = k_seen;
    at_4 = mode_seen;
    at_8 = counter_seen;
    at_12 = prefix_seen;
    at_24 = rows_seen;
    at_60 = version_seen;
    at_64 = size_seen;
    at_68 = marker_seen;
  }

-- a header with any limits and strands
pub header_seen : (h : Header) (p : List ℕ) → IsHeaderOf p h → is_header h p ≡ true
header_seen h p told =
    let l = h.layout in
    let k = low_first 4 l.k in
    let none = low_first 4 0 in
    let counter = low_first 4 l.counter in
    let prefix = low_first 4 l.prefix in
    let rows = low_first 8 h.rows in
    let size = low_first 4 64 in
    let seen =
    all_seen k none counter prefix told.limits rows told.strands none size prefix_marker p refl refl refl refl told.limits_long refl told.strands_long
    refl refl told.is in
    let long : length p ≡ 72 = ap length told.is ∙ length_header l h.rows told.limits told.strands told.limits_long told.strands_long in
    let layout = both (has_at p 0 k && has_at p 8 counter) (has_at p 12 prefix) (both (has_at p 0 k) (has_at p 8 counter) seen.at_0 seen.at_8) seen.at_12 in
    let form =
    both (has_at p 4 none && has_at p 60 none && has_at p 64 size) (has_at p 68 prefix_marker)
    (both (has_at p 4 none && has_at p 60 none) (has_at p 64 size) (both (has_at p 4 none) (has_at p 60 none) seen.at_4 seen.at_60) seen.at_64)
    seen.at_68 in
    both (nat_eq (length p) 72 && has_layout l p && has_at p 24 rows) (has_form p)
    (both (nat_eq (length p) 72 && has_layout l p) (has_at p 24 rows) (both (nat_eq (length p) 72) (has_layout l p) (eq-eqb (length p) 72 long) layout)
    seen.at_24) form
