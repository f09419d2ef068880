-- A database that is opened.
use Rattle.std.proofs.Common.{◌≡◌, ℕ, ◌-◌, ◌≤◌, inr, Bool, true, false, List, [], ◌∷◌, ◌++◌, length, Option, Some, refl, sym, ap, subst, ◌∙◌, append-nil, arith, length-append, length-drop}
use Rattle.kmc_base.specs.declared.strands.Strands.{Strands}
use Rattle.kmc_base.specs.declared.strands.Strands.TheVariants.{Joined, Apart}
use Rattle.kmc_database.specs.Files.{IsDatabase, strand_byte}
use Rattle.kmc_database.specs.LookedUp.{IsHeaderIn, Reads}
use Rattle.kmc_database.specs.Numbers.{low_first}
use Rattle.kmc_database.specs.Opened.{IsEnd, IsEndFault, IsMarked, IsOpenCause, IsPrefixFile, last_of, strands_told}
use Rattle.kmc_database.specs.Part.{IsReadAt, StandsAt}
use Rattle.kmc_database.specs.declared.form.Form.{Form}
use Rattle.kmc_database.specs.declared.open_error.OpenError.{OpenError}
use Rattle.kmc_database.specs.declared.open_error.OpenError.TheVariants as open_error
use Rattle.kmc_database.specs.declared.opening.OpenDatabase.{OpenDatabase}
use Rattle.kmc_database.specs.declared.reading.Header.{Header}
use Rattle.kmc_database.specs.Lemmas.Bytes.{length_low}
use Rattle.kmc_database.proofs.InDatabase.{header_end, header_there}

-- a file that is too short is not marked
pub short_unmarked : (bytes : List ℕ) (place : ℕ) (buffer : List ℕ) (marker : ℕ) → length buffer ≡ 4 → IsReadAt bytes place buffer false
    → StandsAt bytes place (low_first 4 marker) → ⊥
short_unmarked bytes place buffer marker four short stands =
    omega (arith, four, short, length_low 4 marker, length-append (low_first 4 marker) stands.0, ap length stands.1, length-drop place bytes)

pub stands_so : (bytes : List ℕ) (place : ℕ) (buffer : List ℕ) (read : Bool) → read ≡ true → IsReadAt bytes place buffer read → StandsAt bytes place buffer
stands_so bytes place buffer read told h = subst (IsReadAt bytes place buffer) told h

pub marked_so : (bytes : List ℕ) (place marker : ℕ) (there : Bool) → there ≡ true → IsMarked bytes place marker there
    → StandsAt bytes place (low_first 4 marker)
marked_so bytes place marker there told h = subst (IsMarked bytes place marker) told h

-- bytes at the end of a file that are as many as are left are all of its end
pub end_is : (bytes last : List ℕ) → 72 ≤ length bytes → length last ≡ 72 → StandsAt bytes (length bytes - 72) last → last ≡ last_of bytes
end_is bytes last long size stands =
    go stands.0 stands.1
    (omega (arith, long, size, length-append last stands.0, ap length stands.1, length-drop (length bytes - 72) bytes))
  where
    go : (rest : List ℕ) → last ++ rest ≡ last_of bytes → length rest ≡ 0 → last ≡ last_of bytes
    go [] e none = sym (append-nil last) ∙ e
    go (x ∷ rest) e none = absurd (omega (arith, none))

-- what an end that tells of no database means for the file
pub end_refused : (prefix suffix : Option (List ℕ)) (old new : Reads) (last : List ℕ) (size : ℕ) (e : OpenError) → new ≡ old
    → ((p : List ℕ) → prefix ≡ Some p → (72 ≤ length p) × (size ≡ length p) × (last ≡ last_of p)) → IsEndFault last size e
    → IsOpenCause prefix suffix old new e
end_refused prefix suffix old new last size (open_error.Form fault) same is h =
    (λ p known. let t = is p known in (t.0, subst (λ (l : List ℕ). IsEndFault l (length p) (open_error.Form fault)) t.2 h), same)
end_refused prefix suffix old new last size open_error.PrefixLength same is h = (
  λ p known. let t = is p known in
      inr (subst (λ (n : ℕ). IsEndFault (last_of p) n open_error.PrefixLength) t.1
      (subst (λ (l : List ℕ). IsEndFault l size open_error.PrefixLength) t.2 h)),
  same,
)
end_refused prefix suffix old new last size open_error.Strands same is h =
    (λ p known. let t = is p known in (t.0, subst (λ (l : List ℕ). IsEndFault l (length p) open_error.Strands) t.2 h), same)
end_refused prefix suffix old new last size open_error.PrefixMarker same is h = absurd h
end_refused prefix suffix old new last size open_error.SuffixLength same is h = absurd h
end_refused prefix suffix old new last size open_error.SuffixMarker same is h = absurd h
end_refused prefix suffix old new last size open_error.Changed same is h = absurd h
end_refused prefix suffix old new last size open_error.ReadPrefix same is h = absurd h
end_refused prefix suffix old new last size open_error.ReadSuffix same is h = absurd h

-- ---- a database that tells of itself

strands_same : (a b : Strands) → strand_byte a ≡ strand_byte b → a ≡ b
strands_same Joined Joined e = refl
strands_same Joined Apart e = absurd (omega (arith, e))
strands_same Apart Joined e = absurd (omega (arith, e))
strands_same Apart Apart e = refl

pub opened_is : (f : Form) (pairs : List (List ℕ × ℕ)) (p s : List ℕ) (o : OpenDatabase) → IsDatabase f pairs p s → IsPrefixFile p o
    → IsHeaderIn p o.header × (o.header.layout ≡ f.layout) × (o.header.rows ≡ length pairs) × (o.strands ≡ f.strands)
opened_is f pairs p s o d h =
    let same = header_there f pairs p s d o.header h.end.header in
    let told : strand_byte o.strands ≡ strand_byte f.strands = sym h.end.strands ∙ ap strands_told (header_end f pairs p s d) in
    (h.end.header, ap (λ (m : Header). m.layout) same, ap (λ (m : Header). m.rows) same, strands_same o.strands f.strands told)

abbrev reads : ℕ → ℕ → Reads
reads prefix suffix = record { prefix = prefix; suffix = suffix }

pub prefix_reads : (old new failed : ℕ) → new ≡ old → reads new failed ≡ reads old failed
prefix_reads old new failed same = ap (λ n. reads n failed) same

pub ended_so : (p last : List ℕ) (size : ℕ) (o : OpenDatabase) → size ≡ length p → last ≡ last_of p → IsEnd last size o → IsEnd (last_of p) (length p) o
ended_so p last size o told is h = subst (λ n. IsEnd (last_of p) n o) told (subst (λ (l : List ℕ). IsEnd l size o) is h)

-- a refusal of the suffix file, behind a prefix file of which no read failed
pub behind_prefix : (prefix suffix : Option (List ℕ)) (a b m n : ℕ) (e : OpenError) → b ≡ a
    → IsOpenCause prefix suffix (record { prefix = b; suffix = m }) (record { prefix = b; suffix = n }) e
    → IsOpenCause prefix suffix (record { prefix = a; suffix = m }) (record { prefix = b; suffix = n }) e
behind_prefix prefix suffix a b m n e same h =
    subst (λ (x : ℕ). IsOpenCause prefix suffix (record { prefix = x; suffix = m }) (record { prefix = b; suffix = n }) e) same h
