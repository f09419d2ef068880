-- What is out of the two files while they are written.
use Rattle.std.proofs.Common.{◌≡◌, ℕ, ◌+◌, ◌-◌, ◌≤◌, List, [], ◌++◌, length, take, Option, sym, ap, subst, ◌∙◌, arith, append-nil, append_assoc}
use Rattle.std.proofs.KnownBytes.{Appends-nil, Appends-trans}
use Rattle.std.specs.Int.{to_le_bytes, w64}
use Rattle.std.specs.Io.KnownBytes.{Appends}
use Rattle.std.specs.List.{flat_map, range_with_len}
use Rattle.std.specs.Prelude.{sum}
use Rattle.kmc_device.specs.Device.{AppendsFront, WritesOut}
use Rattle.kmc_device.specs.Lemmas.Devices.{front_after, front_of}
use Rattle.kmc_sum.specs.Lemmas.Written.{out_more}
use Rattle.kmc_database.specs.Files.{header_of, limits_of, prefix_marker, strands_of}
use Rattle.kmc_database.specs.Lemmas.Bytes.{low_is}
use Rattle.kmc_database.specs.Lemmas.Ranges.{spread_join}
use Rattle.kmc_database.specs.Numbers.{low_first}
use Rattle.kmc_database.specs.declared.form.Form.{Form}
use Rattle.kmc_packer.specs.Table.{entries_by, prefix_by}

-- ---- bytes that are gathered

-- a front of what was held and of more went out
front_more : (a b c : Option (List ℕ)) (text held more : List ℕ) → WritesOut a b text held → AppendsFront b c (held ++ more)
    → AppendsFront a c (text ++ more)
front_more a b c text held more before now =
    let is : before.0 ++ (held ++ more) ≡ text ++ more = sym (append_assoc before.0 held more) ∙ ap (λ (t : List ℕ). t ++ more) before.1 in
    subst (AppendsFront a c) is (front_after a b c before.0 (held ++ more) before.2 now)

-- all that was held and more went out
all_out : (a b c : Option (List ℕ)) (text held more : List ℕ) → WritesOut a b text held → Appends b c (held ++ more) → Appends a c (text ++ more)
all_out a b c text held more before now =
    let is : before.0 ++ (held ++ more) ≡ text ++ more = sym (append_assoc before.0 held more) ∙ ap (λ (t : List ℕ). t ++ more) before.1 in
    subst (Appends a c) is (Appends-trans a b c before.0 (held ++ more) before.2 now)

-- ---- the prefix file

pub table_start : (a : Option (List ℕ)) (sizes held : List ℕ) → held ≡ prefix_marker → WritesOut a a (prefix_marker ++ entries_by sizes 0) held
table_start a sizes held is = ([], is, Appends-nil a)

-- an entry more
entry_more : (sizes : List ℕ) (i before : ℕ) (entry : List ℕ) → before ≡ sum (take i sizes) → entry ≡ to_le_bytes w64 before
    → (prefix_marker ++ entries_by sizes i) ++ entry ≡ prefix_marker ++ entries_by sizes (i + 1)
entry_more sizes i before entry is bytes =
    let f = λ (j : ℕ). low_first 8 (sum (take j sizes)) in
    let place : i ≡ 0 + i = omega arith in
    let one : entry ≡ f (0 + i) ++ [] = bytes ∙ low_is 8 before ∙ ap (low_first 8) is ∙ ap f place ∙ sym (append-nil (f (0 + i))) in
    append_assoc prefix_marker (entries_by sizes i) entry
    ∙ ap (λ (t : List ℕ). prefix_marker ++ t) (ap (λ (t : List ℕ). entries_by sizes i ++ t) one ∙ sym (spread_join f 0 i 1))

pub table_more : (a b c : Option (List ℕ)) (sizes : List ℕ) (i before : ℕ) (entry held left : List ℕ) → before ≡ sum (take i sizes)
    → entry ≡ to_le_bytes w64 before → WritesOut a b (prefix_marker ++ entries_by sizes i) held → WritesOut b c (held ++ entry) left
    → WritesOut a c (prefix_marker ++ entries_by sizes (i + 1)) left
table_more a b c sizes i before entry held left is bytes so now =
    subst (λ (t : List ℕ). WritesOut a c t left) (entry_more sizes i before entry is bytes)
    (out_more a b c (prefix_marker ++ entries_by sizes i) held entry left so now)

-- the entries so far are a front of the file
file_parts : (f : Form) (sizes : List ℕ) (rows i : ℕ) → i ≤ length sizes
    → (rest : List ℕ) × (prefix_by f sizes rows ≡ (prefix_marker ++ entries_by sizes i) ++ rest)
file_parts f sizes rows i inside =
    let g = λ (j : ℕ). low_first 8 (sum (take j sizes)) in
    let header = header_of f.layout rows (limits_of f) (strands_of f) in
    let others = flat_map g (range_with_len (0 + i) (length sizes - i)) in
    let sum : length sizes ≡ i + (length sizes - i) = omega (arith, inside) in
    let table : entries_by sizes (length sizes) ≡ entries_by sizes i ++ others = ap (entries_by sizes) sum ∙ spread_join g 0 i (length sizes - i) in (
      others ++ header,
      ap (λ (t : List ℕ). (prefix_marker ++ t) ++ header) table
          ∙ ap (λ (t : List ℕ). t ++ header) (sym (append_assoc prefix_marker (entries_by sizes i) others))
          ∙ append_assoc (prefix_marker ++ entries_by sizes i) others header,
    )

pub table_front : (a b : Option (List ℕ)) (f : Form) (sizes : List ℕ) (rows i : ℕ) → i ≤ length sizes
    → AppendsFront a b (prefix_marker ++ entries_by sizes i) → AppendsFront a b (prefix_by f sizes rows)
table_front a b f sizes rows i inside front =
    let parts = file_parts f sizes rows i inside in
    subst (AppendsFront a b) (sym parts.1) (front_of a b (prefix_marker ++ entries_by sizes i) parts.0 front)

-- the end of the file, behind all entries
module _ (a b c : Option (List ℕ)) (f : Form) (sizes : List ℕ) (rows i : ℕ) (held bytes : List ℕ) (all : i ≡ length sizes)
    (is : bytes ≡ header_of f.layout rows (limits_of f) (strands_of f)) (so : WritesOut a b (prefix_marker ++ entries_by sizes i) held) where
  file_is : (prefix_marker ++ entries_by sizes i) ++ bytes ≡ prefix_by f sizes rows
  file_is = λ j. (prefix_marker ++ entries_by sizes (all j)) ++ is j

  pub file_out : Appends b c (held ++ bytes) → Appends a c (prefix_by f sizes rows)
  file_out now = subst (Appends a c) file_is (all_out a b c (prefix_marker ++ entries_by sizes i) held bytes so now)

  pub file_front : AppendsFront b c (held ++ bytes) → AppendsFront a c (prefix_by f sizes rows)
  file_front now = subst (AppendsFront a c) file_is (front_more a b c (prefix_marker ++ entries_by sizes i) held bytes so now)

-- ---- the suffix file

pub marker_front : (a b : Option (List ℕ)) (marker rows : List ℕ) → AppendsFront a b marker → AppendsFront a b ((marker ++ rows) ++ marker)
marker_front a b marker rows front = front_of a b (marker ++ rows) marker (front_of a b marker rows front)

module _ (a b c : Option (List ℕ)) (marker rows : List ℕ) where
  pub rows_front : Appends a b marker → AppendsFront b c rows → AppendsFront a c ((marker ++ rows) ++ marker)
  rows_front before front = front_of a c (marker ++ rows) marker (front_after a b c marker rows before front)

  pub end_front : (d : Option (List ℕ)) → Appends a b marker → Appends b c rows → AppendsFront c d marker → AppendsFront a d ((marker ++ rows) ++ marker)
  end_front d before behind front = front_after a c d (marker ++ rows) marker (Appends-trans a b c marker rows before behind) front
