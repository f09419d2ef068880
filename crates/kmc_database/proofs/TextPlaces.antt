-- Where a text that is read stands in the two files of a database.
use Rattle.std.proofs.Common.{◌≡◌, ℕ, ◌+◌, ◌-◌, ◌^◌, ◌<◌, ◌≤◌, true, List, [], ◌∷◌, ◌++◌, length, take, drop, Some, None, refl, sym, ap, subst, ◌∙◌, arith, append-nil, length-append, take-append-drop}
use Rattle.kmc_sum.specs.Lemmas.Tallies.{rising_none}
use Rattle.kmc_sum.specs.Pairs.{EndsIn}
use Rattle.kmc_database.specs.DumpText.{behind_entry, behind_row, row_in, start}
use Rattle.kmc_database.specs.Files.{prefix_marker, suffix_marker}
use Rattle.kmc_database.specs.Given.{HaveGiven, Starts}
use Rattle.kmc_database.specs.Header.{IsHeaderOf}
use Rattle.kmc_database.specs.Laws.{AreFilesOf}
use Rattle.kmc_database.specs.Layout.{IsLayout}
use Rattle.kmc_database.specs.Numbers.{low_first}
use Rattle.kmc_database.specs.Numerals.{has_at}
use Rattle.kmc_database.specs.Rows.{row_long, row_of}
use Rattle.kmc_database.specs.TakenRow.{pair_of_row}
use Rattle.kmc_database.specs.declared.progress.Progress.{Progress}
use Rattle.kmc_database.specs.declared.reading.Header.{Header}
use Rattle.kmc_database.specs.declared.row_reading.Row.{Row}
use Rattle.kmc_database.proofs.Given.{given_entry, given_row, given_up_to}
use Rattle.kmc_database.proofs.Numerals.{at_Decides}
use Rattle.kmc_database.proofs.RowTold.{row_sound}

module _ (h : Header) (is : IsLayout h.layout) (prefix suffix : List ℕ) where
  abbrev pub Pairs : Type 0
  Pairs = List (List ℕ × ℕ)

  abbrev pub files : Starts
  files = record { prefix = Some prefix; suffix = Some suffix; written = None }

  -- n entries are behind the rows so far: none was read, or the next one is read and tells where rows end, or all are
  pub data Stands (at : Progress) (n : ℕ) (table p : List ℕ) : Type 0 where
    first : at.entries ≡ 0 → n ≡ 0 → table ≡ p → Stands at n table p
    told : at.entries ≡ n + 1 → n < 4 ^ h.layout.prefix → table ≡ low_first 8 at.to ++ p → Stands at n table p
    all : at.entries ≡ 4 ^ h.layout.prefix + 1 → n ≡ 4 ^ h.layout.prefix → table ≡ p → at.to ≡ h.rows → Stands at n table p

  -- the files gave the rows of these pairs, and p and s are left of them
  pub record IsPlaced (at : Progress) (p s : List ℕ) (pairs : Pairs) : Type 0 where
    pub n : ℕ
    pub table : List ℕ
    pub given : HaveGiven h.layout files n n pairs (Some []) table (Some []) s
    pub count : at.row ≡ length pairs
    pub behind : 1 ≤ at.row → EndsIn h.layout.k at.last pairs
    pub order : at.row ≤ at.to
    pub rows : at.to ≤ h.rows
    pub part : at.row < at.to → 2 ≤ at.entries
    pub stands : Stands at n table p

  -- the first part of the rows in hand
  part_before : (at : Progress) (n : ℕ) (table p : List ℕ) → Stands at n table p → 2 ≤ at.entries
      → (at.entries - 2 + 1 ≡ n) × (at.entries - 2 < 4 ^ h.layout.prefix)
  part_before at n table p (first none nought same) some = absurd (omega (arith, none, some))
  part_before at n table p (told many below same) some = (omega (arith, many, some), omega (arith, many, some, below))
  part_before at n table p (all many whole same last) some = (omega (arith, many, some, whole), omega (arith, many, some))

  same_stand : (at at' : Progress) (n : ℕ) (table p : List ℕ) → at'.entries ≡ at.entries → at'.to ≡ at.to → Stands at n table p → Stands at' n table p
  same_stand at at' n table p entries to (first none nought same) = first (entries ∙ none) nought same
  same_stand at at' n table p entries to (told many below same) =
      told (entries ∙ many) below (same ∙ ap (λ e. low_first 8 e ++ p) (sym to))
  same_stand at at' n table p entries to (all many whole same last) = all (entries ∙ many) whole same (to ∙ last)

  -- a row is taken
  pub row_placed : (at : Progress) (p s : List ℕ) (pairs : Pairs) (row : Row) → IsPlaced at p s pairs → at.row < at.to
      → row_in h.layout (at.entries - 2) s ≡ row → take (row_long h.layout) s ≡ row_of h.layout (pair_of_row h.layout row)
      → (1 ≤ at.row → at.last < row.packed) → 1 ≤ row.count
      → IsPlaced (behind_row at row) p (drop (row_long h.layout) s) (pairs ++ pair_of_row h.layout row ∷ [])
  row_placed at p s pairs row placed inside parsed front above some =
      let l = h.layout in
      let part = at.entries - 2 in
      let rest : List ℕ = drop (row_long l) s in
      let low = part_before at placed.n placed.table p placed.stands (placed.part inside) in
      let sound = row_sound l is part row s front parsed low.1 in
      let bytes : s ≡ row_of l (pair_of_row l row) ++ rest = sym (take-append-drop (row_long l) s) ∙ ap (λ (t : List ℕ). t ++ rest) front in
      let here : HaveGiven l files (part + 1) (part + 1) pairs (Some []) placed.table (Some []) (row_of l (pair_of_row l row) ++ rest) =
      subst (λ (n : ℕ). HaveGiven l files n n pairs (Some []) placed.table (Some []) (row_of l (pair_of_row l row) ++ rest)) (sym low.0)
      (subst (λ (t : List ℕ). HaveGiven l files placed.n placed.n pairs (Some []) placed.table (Some []) t) bytes placed.given) in
      let next : HaveGiven l files (part + 1) (part + 1) (pairs ++ pair_of_row l row ∷ []) (Some []) placed.table (Some []) rest =
      given_row l files is part pairs row.packed row.count at.last (Some []) (Some []) placed.table rest here
      (λ more. placed.behind (omega (arith, more, placed.count))) (λ more. above (omega (arith, more, placed.count))) sound.0 sound.1 some sound.2 in
      record {
        n = placed.n;
        table = placed.table;
        given = subst (λ (n : ℕ). HaveGiven l files n n (pairs ++ pair_of_row l row ∷ []) (Some []) placed.table (Some []) rest) low.0 next;
        count = omega (arith, placed.count, length-append pairs (pair_of_row l row ∷ []));
        behind = λ _. record { front = pairs; count = row.count; are = refl; fits = sound.0 };
        order = omega (arith, inside);
        rows = placed.rows;
        part = λ more. placed.part inside;
        stands = same_stand at (behind_row at row) placed.n placed.table p refl refl placed.stands;
      }

  -- an entry is taken
  pub entry_placed : (at : Progress) (p p' s : List ℕ) (pairs : Pairs) (entry : ℕ) → IsPlaced at p s pairs → at.to ≤ at.row
      → at.entries < 4 ^ h.layout.prefix → p ≡ low_first 8 entry ++ p' → at.row ≤ entry → (at.entries ≡ 0 → entry ≡ 0)
      → (1 ≤ at.entries → entry ≤ h.rows) → IsPlaced (behind_entry at entry) p' s pairs
  entry_placed at p p' s pairs entry placed done more bytes least none most = go placed.stands
    where
      up : 1 ≤ at.entries → at.row < entry → 2 ≤ at.entries + 1
      up some _ = omega (arith, some)

      go : Stands at placed.n placed.table p → IsPlaced (behind_entry at entry) p' s pairs
      go (first nought nothing same) =
          let start : entry ≡ 0 = none nought in
          record {
            n = placed.n;
            table = placed.table;
            given = placed.given;
            count = placed.count;
            behind = placed.behind;
            order = least;
            rows = omega (arith, start);
            part = λ inside. absurd (omega (arith, inside, start));
            stands = told (omega (arith, nought, nothing)) (omega (arith, nothing, nought, more)) (same ∙ bytes);
          }
      go (told many below same) =
          let l = h.layout in
          let row : at.to ≡ at.row = omega (arith, done, placed.order) in
          let here : HaveGiven l files placed.n placed.n pairs (Some []) (low_first 8 at.row ++ p) (Some []) s =
          subst (λ (t : List ℕ). HaveGiven l files placed.n placed.n pairs (Some []) t (Some []) s)
          (same ∙ ap (λ (e : ℕ). low_first 8 e ++ p) row) placed.given in
          let next : HaveGiven l files (placed.n + 1) placed.n pairs (Some []) p (Some []) s =
          given_entry l files placed.n placed.n at.row pairs (Some []) (Some []) p s (omega arith) placed.count here in
          record {
            n = placed.n + 1;
            table = p;
            given = given_up_to l files (placed.n + 1) placed.n (placed.n + 1) pairs (Some []) (Some []) p s (omega arith) next;
            count = placed.count;
            behind = placed.behind;
            order = least;
            rows = most (omega (arith, many));
            part = up (omega (arith, many));
            stands = told (omega (arith, many)) (omega (arith, many, more)) bytes;
          }
      go (all many whole same last) = absurd (omega (arith, many, more))

  -- the last first part is at hand
  pub last_placed : (at : Progress) (p s : List ℕ) (pairs : Pairs) → IsPlaced at p s pairs → at.to ≤ at.row → 1 ≤ 4 ^ h.layout.prefix
      → at.entries ≡ 4 ^ h.layout.prefix → IsPlaced (behind_entry at h.rows) p s pairs
  last_placed at p s pairs placed done some whole = go placed.stands
    where
      go : Stands at placed.n placed.table p → IsPlaced (behind_entry at h.rows) p s pairs
      go (first nought nothing same) = absurd (omega (arith, nought, whole, some))
      go (told many below same) =
          let l = h.layout in
          let row : at.to ≡ at.row = omega (arith, done, placed.order) in
          let here : HaveGiven l files placed.n placed.n pairs (Some []) (low_first 8 at.row ++ p) (Some []) s =
          subst (λ (t : List ℕ). HaveGiven l files placed.n placed.n pairs (Some []) t (Some []) s)
          (same ∙ ap (λ (e : ℕ). low_first 8 e ++ p) row) placed.given in
          let next : HaveGiven l files (placed.n + 1) placed.n pairs (Some []) p (Some []) s =
          given_entry l files placed.n placed.n at.row pairs (Some []) (Some []) p s (omega arith) placed.count here in
          record {
            n = placed.n + 1;
            table = p;
            given = given_up_to l files (placed.n + 1) placed.n (placed.n + 1) pairs (Some []) (Some []) p s (omega arith) next;
            count = placed.count;
            behind = placed.behind;
            order = omega (arith, placed.order, placed.rows);
            rows = omega arith;
            part = λ _. omega (arith, whole, some);
            stands = all (omega (arith, whole)) (omega (arith, many, whole)) refl refl;
          }
      go (all many full same last) = absurd (omega (arith, many, whole))

  -- both files end as they are to
  pub end_placed : (at : Progress) (p s : List ℕ) (pairs : Pairs) → IsPlaced at p s pairs → at.to ≤ at.row → 4 ^ h.layout.prefix < at.entries
      → s ≡ suffix_marker → IsHeaderOf p h → AreFilesOf h pairs prefix suffix
  end_placed at p s pairs placed done over ends header = go placed.stands
    where
      go : Stands at placed.n placed.table p → AreFilesOf h pairs prefix suffix
      go (first nought nothing same) = absurd (omega (arith, nought, over))
      go (told many below same) = absurd (omega (arith, many, below, over))
      go (all many whole same last) =
          let l = h.layout in
          let given : HaveGiven l files (4 ^ l.prefix) (4 ^ l.prefix) pairs (Some []) p (Some []) suffix_marker =
          subst (λ (t : List ℕ). HaveGiven l files (4 ^ l.prefix) (4 ^ l.prefix) pairs (Some []) p (Some []) t) ends
          (subst (λ (t : List ℕ). HaveGiven l files (4 ^ l.prefix) (4 ^ l.prefix) pairs (Some []) t (Some []) s) same
          (subst (λ (n : ℕ). HaveGiven l files n n pairs (Some []) placed.table (Some []) s) whole placed.given)) in
          record {
            listed = given.listed;
            count = omega (arith, last, done, placed.order, placed.count);
            fit = given.fit;
            header = p;
            told = header;
            prefix = given.table ∙ append-nil _;
            suffix = given.rows ∙ append-nil _;
          }

  -- the markers are taken
  pub begun_placed : has_at prefix 0 prefix_marker ≡ true → has_at suffix 0 suffix_marker ≡ true
      → IsPlaced (record start { begun = true }) (drop 4 prefix) (drop 4 suffix) []
  begun_placed one two =
      let table : prefix ≡ prefix_marker ++ drop 4 prefix =
      sym (take-append-drop 4 prefix) ∙ ap (λ (t : List ℕ). t ++ drop 4 prefix) ((at_Decides prefix 0 prefix_marker).0 one) in
      let rows : suffix ≡ suffix_marker ++ drop 4 suffix =
      sym (take-append-drop 4 suffix) ∙ ap (λ (t : List ℕ). t ++ drop 4 suffix) ((at_Decides suffix 0 suffix_marker).0 two) in
      record {
        n = 0;
        table = drop 4 prefix;
        given = record {
          listed = record { each = tt; rising = rising_none };
          fit = tt;
          below = tt;
          table = table ∙ sym (append-nil _);
          rows = rows ∙ sym (append-nil _);
        };
        count = refl;
        behind = λ some. absurd (omega (arith, some));
        order = omega arith;
        rows = omega arith;
        part = λ inside. absurd (omega (arith, inside));
        stands = first refl refl refl;
      }
