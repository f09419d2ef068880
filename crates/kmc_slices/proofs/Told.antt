-- Refusals of the reading, as they are told.
use Rattle.std.proofs.Common.{◌≡◌, ◌≢◌, ℕ, ◌-◌, ◌≤◌, List, [], ◌++◌, Option, Result, Ok, Err, IfErr, inr, sym, subst, arith, append_assoc, length-append, Some}
use Rattle.std.specs.Io.KnownBytes.{IsAtEnd}
use Rattle.kmc_reads.specs.declared.error.ReadsError.{ReadsError}
use Rattle.kmc_reads.specs.declared.error.ReadsError.TheVariants as reads
use Rattle.kmc_reads.specs.declared.format.Format.{Format}
use Rattle.kmc_reads.specs.Reads.{reads_of}
use Rattle.kmc_reads.specs.Standing.{FeederState, Stands}
use Rattle.kmc_record.specs.Shapes.{Sizes}
use Rattle.kmc_reads.specs.declared.input_error.InputError.{InputError}
use Rattle.kmc_reads.specs.declared.input_error.InputError.TheVariants as input
use Rattle.kmc_reads.specs.Errors.{input_error}
use Rattle.kmc_stage_one.specs.Fed.{AreCountsOf, IsFed, IsFedBy}
use Rattle.kmc_stage_one.specs.Rounds.{IsInputError}
use Rattle.kmc_stage_one.specs.Lemmas.Fed.{consumes_on, refused_on}
use Rattle.kmc_slices.specs.declared.error.CutError.{CutError}
use Rattle.kmc_slices.specs.declared.error.CutError.TheVariants.{Memory, Read, Write, Input, TooLong}
use Rattle.kmc_slices.specs.Cut.{AreReadCounts, AreWriteCounts, IsCutError, IsLastCutError, IsToldAs}
use Rattle.kmc_slices.specs.Rounds.{AreRounds}

pub told_counts : (most before after failed fails : ℕ) (e : InputError) (c : CutError) → IsToldAs e c → AreCountsOf most before after failed fails e
    → AreReadCounts most before after failed fails c
told_counts most before after failed fails input.Memory c is h = subst (AreReadCounts most before after failed fails) (sym is) h
told_counts most before after failed fails input.Read c is h = subst (AreReadCounts most before after failed fails) (sym is) h
told_counts most before after failed fails (input.Faulty e) c is h = subst (AreReadCounts most before after failed fails) (sym is) h
told_counts most before after failed fails input.TooLong c is h = subst (AreReadCounts most before after failed fails) (sym is) h

pub told_cause : (format : Format) (most : ℕ) (old new : Option (List ℕ)) (e : InputError) (c : CutError) → IsToldAs e c
    → IsInputError format most old new e
    → IsCutError format most old new c
told_cause format most old new input.Memory c is h = subst (IsCutError format most old new) (sym is) tt
told_cause format most old new input.Read c is h = subst (IsCutError format most old new) (sym is) tt
told_cause format most old new (input.Faulty e) c is h = subst (IsCutError format most old new) (sym is) h
told_cause format most old new input.TooLong c is h = subst (IsCutError format most old new) (sym is) h

pub told_last : (format : Format) (text : List ℕ) (e : ReadsError) (i : InputError) (c : CutError) → i ≡ input_error e → IsToldAs i c
    → (e ≢ reads.Memory → reads_of format text ≡ Err e) → IsLastCutError format text c
told_last format text reads.Memory i c same is h =
    subst (IsLastCutError format text) (sym (subst (λ j. IsToldAs j c) same is)) tt
told_last format text (reads.BadHeader n) i c same is h =
    subst (IsLastCutError format text) (sym (subst (λ j. IsToldAs j c) same is)) (h (λ e. absurd (cc)))
told_last format text (reads.BadPlus n) i c same is h =
    subst (IsLastCutError format text) (sym (subst (λ j. IsToldAs j c) same is)) (h (λ e. absurd (cc)))
told_last format text (reads.QualityLength n) i c same is h =
    subst (IsLastCutError format text) (sym (subst (λ j. IsToldAs j c) same is)) (h (λ e. absurd (cc)))
told_last format text (reads.Truncated n) i c same is h =
    subst (IsLastCutError format text) (sym (subst (λ j. IsToldAs j c) same is)) (h (λ e. absurd (cc)))

pub told_writes : (olds news : List ℕ) (e : InputError) (c : CutError) → IsToldAs e c → news ≡ olds → AreWriteCounts olds news c
told_writes olds news input.Memory c is same = subst (AreWriteCounts olds news) (sym is) same
told_writes olds news input.Read c is same = subst (AreWriteCounts olds news) (sym is) same
told_writes olds news (input.Faulty e) c is same = subst (AreWriteCounts olds news) (sym is) same
told_writes olds news input.TooLong c is same = subst (AreWriteCounts olds news) (sym is) same

-- the numbers and the cause where the last round was not cut
pub last_counts : {A : Type 0} (format : Format) (text : List ℕ) (most before after failed fails : ℕ) (r : Result A CutError) → fails ≡ failed
    → before ≤ after → after ≤ most
    → IfErr r (IsLastCutError format text) → IfErr r (AreReadCounts most before after failed fails)
last_counts format text most before after failed fails (Ok x) same least below h = tt
last_counts format text most before after failed fails (Err Memory) same least below h = (same, least, below)
last_counts format text most before after failed fails (Err Read) same least below h = absurd h
last_counts format text most before after failed fails (Err (Write s)) same least below h = (same, least, below)
last_counts format text most before after failed fails (Err (Input e)) same least below h = (same, least, below)
last_counts format text most before after failed fails (Err TooLong) same least below h = absurd h

pub last_cause : {A : Type 0} (overlap : ℕ) (format : Format) (most : ℕ) (old new : Option (List ℕ)) (before after : ℕ) (taken : List (List ℕ))
    (v : FeederState)
    (r : Result A CutError) (f : IsFed overlap format old new before after [] taken v) → IsAtEnd new → IfErr r (IsLastCutError format f.bytes)
    → IfErr r (IsCutError format most old new)
last_cause overlap format most old new before after taken v (Ok x) f end h = tt
last_cause overlap format most old new before after taken v (Err Memory) f end h = tt
last_cause overlap format most old new before after taken v (Err Read) f end h = tt
last_cause overlap format most old new before after taken v (Err (Write s)) f end h = tt
last_cause overlap format most old new before after taken v (Err (Input e)) f end h =
    record { bytes = f.bytes; given = f.given; refused = h; for_good = inr end }
last_cause overlap format most old new before after taken v (Err TooLong) f end h = absurd h

-- what earlier rounds left as it was
pub writes_on : {A : Type 0} (olds mids news : List ℕ) (r : Result A CutError) → mids ≡ olds → IfErr r (AreWriteCounts mids news) → IfErr r
    (AreWriteCounts olds news)
writes_on olds mids news r same h = subst (λ (l : List ℕ). IfErr r (AreWriteCounts l news)) same h

-- the reading and the writing of the rounds so far: what was taken went out
pub record AreUnderWay (format : Format) (shape : Sizes) (limit S : ℕ) (old new : Option (List ℕ)) (before after : ℕ) (v : FeederState)
    (begins news : List (Option (List ℕ))) (counts counted : List ℕ) : Type 0 where
  pub taken : List (List ℕ)
  pub fed : IsFed (shape.k - 1) format old new before after [] taken v
  pub written : (olds : List (Option (List ℕ))) → AreRounds shape limit S [] olds begins counts → AreRounds shape limit S taken olds news counted

-- more was read, and more reads were taken meanwhile
pub taken_since : (overlap : ℕ) (format : Format) (old mid new : Option (List ℕ)) (a b c : ℕ) (text : List ℕ) (taken more : List (List ℕ))
    (v w : FeederState)
    (f : IsFed overlap format old mid a b text taken v) → IsFed overlap format mid new b c (text ++ f.bytes) more w
    → IsFed overlap format old new a c text more w
taken_since overlap format old mid new a b c text taken more v w f g = record {
  bytes = f.bytes ++ g.bytes;
  given = consumes_on old mid new f.bytes g.bytes f.given g.given;
  many = omega (arith, f.many, g.many, length-append f.bytes g.bytes);
  stands = subst (λ t. Stands (Some overlap) format t more w) (append_assoc text f.bytes g.bytes) g.stands;
}

-- and the reading was refused
pub refused_since : (overlap : ℕ) (format : Format) (old mid new : Option (List ℕ)) (a b c : ℕ) (text : List ℕ) (taken more : List (List ℕ))
    (v w : FeederState)
    (e : InputError) (f : IsFed overlap format old mid a b text taken v) → IsFedBy overlap format mid new b c (text ++ f.bytes) more w (Err e)
    → IsFedBy overlap format old new a c text more w (Err e)
refused_since overlap format old mid new a b c text taken more v w input.Memory f g = tt
refused_since overlap format old mid new a b c text taken more v w input.Read f g = tt
refused_since overlap format old mid new a b c text taken more v w (input.Faulty e) f g = refused_on overlap format old mid new a b text taken v e f g
refused_since overlap format old mid new a b c text taken more v w input.TooLong f g =
    taken_since overlap format old mid new a b c text taken more v w f g
