-- The ways out of packing.
use Rattle.std.proofs.Common.{◌≡◌, ℕ, ◌-◌, ◌^◌, ◌<◌, ◌≤◌, ◌⊎◌, inl, inr, cond, Bool, not, true, false, IsTrue, None, List, [], ◌∷◌, ◌++◌, length, Option, Result, Ok, Err, refl, sym, ap, subst, ◌∙◌, arith, append-nil}
use Rattle.std.specs.Io.KnownBytes.{Appends, Consumes}
use Rattle.kmc_base.specs.Packed.{unpack}
use Rattle.kmc_device.specs.Device.{AppendsFront, Watched, WritesOut}
use Rattle.kmc_device.specs.Lemmas.Devices.{front_all, front_of}
use Rattle.kmc_lists.specs.Line.{text_of}
use Rattle.kmc_sum.specs.Faults.{GaveFront}
use Rattle.kmc_sum.specs.Heads.{pending}
use Rattle.kmc_sum.specs.Source.{unread}
use Rattle.kmc_sum.specs.declared.heads.Head.{Head}
use Rattle.kmc_sum.specs.declared.source.Room.{Room}
use Rattle.std.specs.Prelude.{IfErr, OnOk}
use Rattle.std.specs.Result.{IsErrAnd}
use Rattle.kmc_device.specs.Device.{RisesByOne}
use Rattle.kmc_sum.specs.Faults.{IsFaultAt}
use Rattle.kmc_sum.specs.Listed.{IsLength}
use Rattle.kmc_sum.specs.declared.error.LineFault.{LineFault}
use Rattle.kmc_sum.specs.declared.error.SourceFault.{SourceFault}
use Rattle.kmc_sum.specs.declared.error.SourceFault.TheVariants.{Line, Read}
use Rattle.kmc_database.specs.Answer.{Failures, failures_of, IsCause, IsPackAnswer, IsPacked, IsSourceFault}
use Rattle.kmc_database.specs.Begun.{IsBegun, most_of_prefix, most_of_suffix}
use Rattle.kmc_database.specs.Ending.{IsNotEnded, IsPrefixLost, IsSuffixLost, with_header}
use Rattle.kmc_database.specs.Files.{header_of, IsDatabase, limits_of, prefix_file, prefix_start, strands_of, suffix_file, suffix_marker, suffix_start}
use Rattle.kmc_database.specs.Form.{asked_form, IsAskedLength}
use Rattle.kmc_database.specs.Layout.{IsLayout}
use Rattle.kmc_database.specs.Rows.{repeated}
use Rattle.kmc_database.specs.declared.error.PackError.{PackError}
use Rattle.kmc_database.specs.declared.error.PackError.TheVariants.{Source, Empty, Prefix, TooGreat, WritePrefix, WriteSuffix, Memory, TooLong}
use Rattle.kmc_database.specs.declared.form.Form.{Form}
use Rattle.kmc_database.specs.declared.form.PackOptions.{PackOptions}
use Rattle.kmc_sum.specs.Lemmas.Taken.{front_gathered}
use Rattle.kmc_database.proofs.Gathering.{all_out, front_more}
use Rattle.kmc_database.proofs.SoFar.{entries_put, IsSoFar}

-- an end is missing for one of two causes
pub not_ended : {W : Type 0} (contents : W → Option (List ℕ)) (f : Form) (rows : ℕ) (p p' : Watched W) (table : List ℕ) (s s' : Watched W)
    (body : List ℕ) (P : PackError → Type 0) (e : PackError) → IsNotEnded contents f rows p p' table s s' body e
    → (IsSuffixLost contents p p' s s' body → P WriteSuffix) → (IsPrefixLost contents f rows p p' table s s' body → P WritePrefix) → P e
not_ended contents f rows p p' table s s' body P WriteSuffix h suffix prefix = suffix h
not_ended contents f rows p p' table s s' body P WritePrefix h suffix prefix = prefix h
not_ended contents f rows p p' table s s' body P (Source x) h suffix prefix = absurd h
not_ended contents f rows p p' table s s' body P Empty h suffix prefix = absurd h
not_ended contents f rows p p' table s s' body P (Prefix k) h suffix prefix = absurd h
not_ended contents f rows p p' table s s' body P (TooGreat n) h suffix prefix = absurd h
not_ended contents f rows p p' table s s' body P Memory h suffix prefix = absurd h
not_ended contents f rows p p' table s s' body P TooLong h suffix prefix = absurd h

module _ (o : PackOptions) (f : Form) (long : IsAskedLength o.k f.layout.k) (same : f ≡ asked_form o f.layout.k) where
  pub begun : (e : PackError) (start now pa pb sa sb : Option (List ℕ)) (pairs : List (List ℕ × ℕ)) (rest : List ℕ)
      → GaveFront f.layout.k start now pairs rest → AppendsFront pa pb (most_of_prefix e f pairs) → AppendsFront sa sb (most_of_suffix e f pairs)
      → IsBegun o start now pa pb sa sb e
  begun e start now pa pb sa sb pairs rest gave prefix suffix = record {
    k = f.layout.k;
    asked = long;
    pairs = pairs;
    rest = rest;
    gave = gave;
    prefix = subst (λ (h : Form). AppendsFront pa pb (most_of_prefix e h pairs)) same prefix;
    suffix = subst (λ (h : Form). AppendsFront sa sb (most_of_suffix e h pairs)) same suffix;
  }

  -- a write failed: fronts of the parts but for the ends
  pub begun_prefix : (start now pa pb sa sb : Option (List ℕ)) (pairs : List (List ℕ × ℕ)) (rest : List ℕ)
      → GaveFront f.layout.k start now pairs rest → AppendsFront pa pb (prefix_start f.layout pairs) → AppendsFront sa sb (suffix_start f.layout pairs)
      → IsBegun o start now pa pb sa sb WritePrefix
  begun_prefix start now pa pb sa sb pairs rest gave prefix suffix =
      begun WritePrefix start now pa pb sa sb pairs rest gave
      (front_of pa pb (prefix_start f.layout pairs) (header_of f.layout (length pairs) (limits_of f) (strands_of f)) prefix)
      (front_of sa sb (suffix_start f.layout pairs) suffix_marker suffix)

  pub begun_suffix : (start now pa pb sa sb : Option (List ℕ)) (pairs : List (List ℕ × ℕ)) (rest : List ℕ)
      → GaveFront f.layout.k start now pairs rest → AppendsFront pa pb (prefix_start f.layout pairs) → AppendsFront sa sb (suffix_start f.layout pairs)
      → IsBegun o start now pa pb sa sb WriteSuffix
  begun_suffix start now pa pb sa sb pairs rest gave prefix suffix =
      begun WriteSuffix start now pa pb sa sb pairs rest gave prefix (front_of sa sb (suffix_start f.layout pairs) suffix_marker suffix)

-- the reader's lines are at an end
pub all_given : (k : ℕ) (start now : Option (List ℕ)) (head : Head) (pairs : List (List ℕ × ℕ)) (rest : List ℕ) → head.live ≡ false → rest ≡ []
    → GaveFront k start now (pairs ++ pending k head) rest → GaveFront k start now pairs []
all_given k start now head pairs rest end none h =
    let same : pairs ++ pending k head ≡ pairs =
    ap (λ b. pairs ++ cond b ((unpack k head.packed, head.count) ∷ []) []) end ∙ append-nil pairs in
    subst (λ (t : List (List ℕ × ℕ)). GaveFront k start now t []) same (subst (λ (r : List ℕ). GaveFront k start now (pairs ++ pending k head) r) none h)

module _ (o : PackOptions) (f : Form) (long : IsAskedLength o.k f.layout.k) (same : f ≡ asked_form o f.layout.k) (is : IsLayout f.layout)
    (start now : Option (List ℕ)) (room : Room) (head : Head) (n rows : ℕ) (pa pb sa sb : Option (List ℕ)) (table body : List ℕ)
    (so : IsSoFar f.layout start now room head n rows pa pb sa sb table body) (end : head.live ≡ false) (pc : Option (List ℕ)) (table' : List ℕ)
    (most : n ≤ 4 ^ f.layout.prefix) (out : WritesOut pb pc (table ++ repeated (4 ^ f.layout.prefix - n) rows) table') where
  whole_table : WritesOut pa pc (prefix_start f.layout so.pairs) table'
  whole_table = entries_put f.layout start now room head n rows pa pb sa sb table body so (4 ^ f.layout.prefix) pc table' most out

  gave : GaveFront f.layout.k start now so.pairs []
  gave = all_given f.layout.k start now head so.pairs (unread room) end (so.source.ended end).0 so.source.gave

  header_is : header_of f.layout rows (limits_of f) (strands_of f) ≡ header_of f.layout (length so.pairs) (limits_of f) (strands_of f)
  header_is = ap (λ r. header_of f.layout r (limits_of f) (strands_of f)) so.count

  pub packed : (pd sc : Option (List ℕ)) → Appends pc pd (with_header f rows table') → Appends sb sc (body ++ suffix_marker)
      → (o.k ≡ None → 1 ≤ rows) → rows < 2 ^ 64 → IsPacked o start now rows pa pd sa sc
  packed pd sc prefix suffix told few = record {
    text = text_of so.pairs;
    gave = (subst (Consumes start now) (append-nil (text_of so.pairs)) gave.bytes, (so.source.ended end).1);
    k = f.layout.k;
    asked = long;
    told = told;
    pairs = so.pairs;
    lists = record { listed = gave.listed; lines = λ _. text_of so.pairs };
    count = so.count;
    prefix_bytes = prefix_file f so.pairs;
    suffix_bytes = suffix_file f.layout so.pairs;
    database = subst (λ (h : Form). IsDatabase h so.pairs (prefix_file f so.pairs) (suffix_file f.layout so.pairs)) same (record {
      layout = is;
      listed = gave.listed;
      fit = so.fit;
      few = subst (λ m. m < 2 ^ 64) so.count few;
      prefix = λ _. prefix_file f so.pairs;
      suffix = λ _. suffix_file f.layout so.pairs;
    });
    prefix = subst (λ (t : List ℕ). Appends pa pd (prefix_start f.layout so.pairs ++ t)) header_is
        (all_out pa pc pd (prefix_start f.layout so.pairs) table' (header_of f.layout rows (limits_of f) (strands_of f)) whole_table prefix);
    suffix = all_out sa sb sc (suffix_start f.layout so.pairs) body suffix_marker so.suffix suffix;
  }

  -- only the suffix file's end is missing, or only that of the prefix file
  pub suffix_end_lost : (sc : Option (List ℕ)) → AppendsFront sb sc (body ++ suffix_marker) → IsBegun o start now pa pc sa sc WriteSuffix
  suffix_end_lost sc front =
      begun o f long same WriteSuffix start now pa pc sa sc so.pairs [] gave
      (front_gathered pa pc (prefix_start f.layout so.pairs) table' whole_table)
      (front_more sa sb sc (suffix_start f.layout so.pairs) body suffix_marker so.suffix front)

  pub prefix_end_lost : (pd sc : Option (List ℕ)) → AppendsFront pc pd (with_header f rows table') → Appends sb sc (body ++ suffix_marker)
      → IsBegun o start now pa pd sa sc WritePrefix
  prefix_end_lost pd sc front suffix =
      begun o f long same WritePrefix start now pa pd sa sc so.pairs [] gave
      (subst (λ (t : List ℕ). AppendsFront pa pd (prefix_start f.layout so.pairs ++ t)) header_is
      (front_more pa pc pd (prefix_start f.layout so.pairs) table' (header_of f.layout rows (limits_of f) (strands_of f)) whole_table front))
      (front_all sa sc (suffix_file f.layout so.pairs) (all_out sa sb sc (suffix_start f.layout so.pairs) body suffix_marker so.suffix suffix))

-- ---- answers

pub same_failures : (old new : Failures) → new.reader ≡ old.reader → new.prefix ≡ old.prefix → new.suffix ≡ old.suffix → new ≡ old
same_failures old new r p s = λ i. record { reader = r i; prefix = p i; suffix = s i }

-- an error that a `?` hands on
pub given_up : {R W : Type 0} (remaining : R → Option (List ℕ)) (contents : W → Option (List ℕ)) (o : PackOptions) (start : Option (List ℕ))
    (reader read : Watched R) (p p' s s' : Watched W) (r : Result ℕ PackError) (e : PackError) → IsErrAnd r (λ x. x ≡ e)
    → IsCause o start (remaining read.inner) (failures_of reader p s) (failures_of read p' s') e
    → IsBegun o start (remaining read.inner) (contents p.inner) (contents p'.inner) (contents s.inner) (contents s'.inner) e
    → IsPackAnswer remaining contents o start reader read p p' s s' r
given_up remaining contents o start reader read p p' s s' (Ok x) e made cause begun = absurd made
given_up remaining contents o start reader read p p' s s' (Err d) e made cause begun =
    subst (λ (x : PackError). IsPackAnswer remaining contents o start reader read p p' s s' (Err x)) (sym made)
    (record { ok = tt; sound = tt; cause = cause; begun = inr begun })

-- a fault of a line behind the first one
pub next_fault : (o : PackOptions) (k : ℕ) → IsLength k → (start now : Option (List ℕ)) (old new : Failures) (fault : SourceFault)
    → (fault ≡ Read → RisesByOne old.reader new.reader)
    → ((line : ℕ) (f : LineFault) → fault ≡ Line line f → IsFaultAt k start now line f × (2 ≤ line)) → IsSourceFault o start now old new fault
next_fault o k long start now old new Read read line = read refl
next_fault o k long start now old new (Line n f) read line = let h = line n f refl in (k, long, h.0, λ _. inr h.1)

pub is_live : (b : Bool) → not b ≡ false → b ≡ true
is_live true e = refl
is_live false e = sym e

pub is_dead : (b : Bool) → not b ≡ true → b ≡ false
is_dead true e = sym e
is_dead false e = refl

pub not_both : (b : Bool) → not b ≡ true → b ≡ true → ⊥
not_both true e f = cc e
not_both false e f = cc f

pub not_less : (m n : ℕ) → (n < m → IsTrue false) → m ≤ n
not_less m n h =
    let no : n < m → ⊥ = λ less. let t = h less in cc t in
    omega (arith, no)

-- the rows are told
pub rows_told : (live : Bool) (rows : ℕ) → live ≡ false → (live ≡ true) ⊎ (1 ≤ rows) → 1 ≤ rows
rows_told live rows end (inl e) = absurd (cc (end, e))
rows_told live rows end (inr h) = h

-- nothing was written
pub not_begun : {R W : Type 0} (remaining : R → Option (List ℕ)) (contents : W → Option (List ℕ)) (o : PackOptions) (start : Option (List ℕ))
    (reader read : Watched R) (p s : Watched W) (r : Result ℕ PackError) (e : PackError) → IsErrAnd r (λ x. x ≡ e)
    → IsCause o start (remaining read.inner) (failures_of reader p s) (failures_of read p s) e
    → IsPackAnswer remaining contents o start reader read p p s s r
not_begun remaining contents o start reader read p s (Ok x) e made cause = absurd made
not_begun remaining contents o start reader read p s (Err d) e made cause =
    subst (λ (x : PackError). IsPackAnswer remaining contents o start reader read p p s s (Err x)) (sym made)
    (record { ok = tt; sound = tt; cause = cause; begun = inl (refl, refl) })

-- no read had failed before
pub since_begun : {R W : Type 0} (remaining : R → Option (List ℕ)) (contents : W → Option (List ℕ)) (o : PackOptions) (start : Option (List ℕ))
    (reader mid read : Watched R) (p p' s s' : Watched W) (r : Result ℕ PackError) → mid.failures ≡ reader.failures
    → IsPackAnswer remaining contents o start mid read p p' s s' r → IsPackAnswer remaining contents o start reader read p p' s s' r
since_begun remaining contents o start reader mid read p p' s s' r kept h = record {
  ok = h.ok;
  sound = subst (λ (f : Failures). OnOk r (failures_of read p' s' ≡ f)) same h.sound;
  cause = subst (λ (f : Failures). IfErr r (IsCause o start (remaining read.inner) f (failures_of read p' s'))) same h.cause;
  begun = h.begun;
}
  where
    same : failures_of mid p s ≡ failures_of reader p s
    same = λ i. record { reader = kept i; prefix = p.failures; suffix = s.failures }
