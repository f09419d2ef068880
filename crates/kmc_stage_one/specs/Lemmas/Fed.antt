-- Bytes that a feeder took, a read after the other.
use Rattle.std.proofs.Common.{◌≡◌, ◌≢◌, ◌⊎◌, inl, ℕ, zero, suc, ◌+◌, ◌<◌, ◌≤◌, Bool, true, false, List, [], ◌++◌, Option, Some, None, Result, Ok, Err, refl, sym, ap, subst, ◌∙◌, append_assoc, append-nil, length-append, arith}
use Rattle.std.specs.Prelude.{IsErrAnd}
use Rattle.std.specs.Io.KnownBytes.{Consumes, IsAtEnd}
use Rattle.kmc_device.specs.Device.{RisesByOne}
use Rattle.kmc_reads.specs.declared.error.ReadsError.{ReadsError}
use Rattle.kmc_reads.specs.declared.error.ReadsError.TheVariants as reads
use Rattle.kmc_reads.specs.declared.format.Format.{Format}
use Rattle.kmc_reads.specs.Laws.{FaultStays}
use Rattle.kmc_reads.specs.Reads.{reads_of}
use Rattle.kmc_reads.specs.OpenLines.{whole_from}
use Rattle.kmc_reads.specs.Stages.{fault, fault_from, first_spot}
use Rattle.kmc_reads.specs.Standing.{FeederState, Stands}
use Rattle.kmc_reads.specs.Errors.{input_error}
use Rattle.kmc_reads.specs.declared.input_error.InputError.{InputError}
use Rattle.kmc_reads.specs.declared.input_error.InputError.TheVariants.{Memory, Read, Faulty, TooLong}
use Rattle.kmc_stage_one.specs.Fed.{IsFed, IsFedBy, IsRefused, AreCounts, AreCountsOf}

pub consumes_none : (old : Option (List ℕ)) → Consumes old old []
consumes_none None = tt
consumes_none (Some xs) = refl

pub consumes_on : (old mid new : Option (List ℕ)) (xs ys : List ℕ) → Consumes old mid xs → Consumes mid new ys → Consumes old new (xs ++ ys)
consumes_on None mid new xs ys a b = tt
consumes_on (Some all) None new xs ys a b = absurd a
consumes_on (Some all) (Some rest) None xs ys a b = absurd b
consumes_on (Some all) (Some rest) (Some left) xs ys a b = a ∙ ap (λ t. xs ++ t) b ∙ sym (append_assoc xs ys left)

-- the text at which a feeder stands has no fault
pub unfaulted : (overlap : ℕ) (format : Format) (text : List ℕ) (taken : List (List ℕ)) (v : FeederState)
    → Stands (Some overlap) format text taken v → fault format text ≡ None
unfaulted overlap format text taken v s =
    ap (λ t. fault_from (first_spot format) (whole_from [] t)) (sym (append-nil text)) ∙ s.leads.fault []

-- nothing was read yet
pub fed_none : (overlap : ℕ) (format : Format) (old : Option (List ℕ)) (n : ℕ) (text : List ℕ) (taken : List (List ℕ)) (v : FeederState)
    → Stands (Some overlap) format text taken v → IsFed overlap format old old n n text taken v
fed_none overlap format old n text taken v s = record {
  bytes = [];
  given = consumes_none old;
  many = omega arith;
  stands = subst (λ t. Stands (Some overlap) format t taken v) (sym (append-nil text)) s;
}

-- more was read
pub fed_on : (overlap : ℕ) (format : Format) (old mid new : Option (List ℕ)) (a b c : ℕ) (text : List ℕ) (taken : List (List ℕ)) (v w : FeederState)
    (f : IsFed overlap format old mid a b text taken v)
    → IsFed overlap format mid new b c (text ++ f.bytes) taken w → IsFed overlap format old new a c text taken w
fed_on overlap format old mid new a b c text taken v w f g = record {
  bytes = f.bytes ++ g.bytes;
  given = consumes_on old mid new f.bytes g.bytes f.given g.given;
  many = omega (arith, f.many, g.many, length-append f.bytes g.bytes);
  stands = subst (λ t. Stands (Some overlap) format t taken w) (append_assoc text f.bytes g.bytes) g.stands;
}

-- and refused
pub refused_on : (overlap : ℕ) (format : Format) (old mid new : Option (List ℕ)) (a b : ℕ) (text : List ℕ) (taken : List (List ℕ)) (v : FeederState)
    (e : ReadsError) (f : IsFed overlap format old mid a b text taken v)
    → IsRefused format mid new (text ++ f.bytes) e → IsRefused format old new text e
refused_on overlap format old mid new a b text taken v e f r =
    let same = append_assoc text f.bytes r.bytes in
    record {
      bytes = f.bytes ++ r.bytes;
      given = consumes_on old mid new f.bytes r.bytes f.given r.given;
      refused = ap (reads_of format) (sym same) ∙ r.refused;
      for_good = subst (λ t. ((rest : List ℕ) → reads_of format (t ++ rest) ≡ Err e) ⊎ IsAtEnd new) same r.for_good;
    }

-- a fault of a line that has its line feed
pub refused_for_good : (format : Format) (old new : Option (List ℕ)) (text bytes : List ℕ) (e : ReadsError) → FaultStays → Consumes old new bytes
    → fault format (text ++ bytes) ≡ Some e → IsRefused format old new text e
refused_for_good format old new text bytes e law given faulty = record {
  bytes = bytes;
  given = given;
  refused = ap (reads_of format) (sym (append-nil (text ++ bytes))) ∙ law format (text ++ bytes) [] e faulty;
  for_good = inl (λ rest. law format (text ++ bytes) rest e faulty);
}

-- whatever was answered after that
pub fed_by : (overlap : ℕ) (format : Format) (old mid new : Option (List ℕ)) (a b c : ℕ) (text : List ℕ) (taken : List (List ℕ)) (v w : FeederState)
    (r : Result Bool InputError) (f : IsFed overlap format old mid a b text taken v)
    → IsFedBy overlap format mid new b c (text ++ f.bytes) taken w r → IsFedBy overlap format old new a c text taken w r
fed_by overlap format old mid new a b c text taken v w (Ok more) f g = fed_on overlap format old mid new a b c text taken v w f g
fed_by overlap format old mid new a b c text taken v w (Err Memory) f g = tt
fed_by overlap format old mid new a b c text taken v w (Err Read) f g = tt
fed_by overlap format old mid new a b c text taken v w (Err (Faulty e)) f g = refused_on overlap format old mid new a b text taken v e f g
fed_by overlap format old mid new a b c text taken v w (Err TooLong) f g = fed_on overlap format old mid new a b c text taken v w f g

-- a read that was counted gave a byte at least
pub reads_many : (n m before after : ℕ) → n ≡ m → (0 < n → after ≡ before + 1) → (n ≡ 0 → after ≡ before) → after ≤ before + m
reads_many zero m before after same more none = let e = none refl in omega (arith, e)
reads_many (suc n) m before after same more none = let e = more (omega arith) in omega (arith, e, same)

-- what the reads before one did
pub record IsUnderWay (old new : Option (List ℕ)) (before after failed fails reads : ℕ) (v w : FeederState) : Type 0 where
  pub kept : fails ≡ failed
  pub many : before + reads ≤ after
  pub fed : (overlap : ℕ) (format : Format) (text : List ℕ) (taken : List (List ℕ)) → Stands (Some overlap) format text taken v
      → IsFed overlap format old new before after text taken w

-- the numbers of a round, whether the text goes on or not
pub record AreRisen (most before after failed fails : ℕ) (more : Bool) : Type 0 where
  pub kept : fails ≡ failed
  pub least : before ≤ after
  pub below : after ≤ most
  pub some : more ≡ true → before < after
  pub under : more ≡ false → after < most

pub risen : (most before after failed fails : ℕ) (more : Bool) → AreCounts most before after failed fails (Ok more)
    → AreRisen most before after failed fails more
risen most before after failed fails true c = record { kept = c.0; least = omega (arith, c.1); below = c.2; some = λ _. c.1; under = λ e. cc }
risen most before after failed fails false c = record { kept = c.0; least = c.1; below = omega (arith, c.2); some = λ e. cc; under = λ _. c.2 }

-- the numbers of a refusal after earlier rounds
pub counts_on : (e : InputError) (most before mid after failed between fails : ℕ) → before ≤ mid → between ≡ failed
    → AreCountsOf most mid after between fails e → AreCountsOf most before after failed fails e
counts_on Memory most before mid after failed between fails less same c = (c.0 ∙ same, omega (arith, c.1, less), c.2)
counts_on Read most before mid after failed between fails less same c = (subst (λ n. RisesByOne n fails) same c.0, omega (arith, c.1, less), c.2)
counts_on (Faulty e) most before mid after failed between fails less same c = (c.0 ∙ same, omega (arith, c.1, less), c.2)
counts_on TooLong most before mid after failed between fails less same c = (c.0 ∙ same, omega (arith, c.1, less), c.2)

-- the numbers of a refusal that is passed on
pub counts_err : (most before after failed fails : ℕ) (r : Result Bool InputError) (e : InputError) → IsErrAnd r (λ x. x ≡ e)
    → AreCountsOf most before after failed fails e → AreCounts most before after failed fails r
counts_err most before after failed fails (Ok more) e is h = absurd is
counts_err most before after failed fails (Err x) e is h = subst (AreCountsOf most before after failed fails) (sym is) h

-- the numbers where memory is refused after one more round
pub memory_on : (most mid after between fails : ℕ) (more : Bool) (before failed bound : ℕ) → AreCounts most mid after between fails (Ok more)
    → before ≤ mid → between ≡ failed → most ≡ bound → AreCountsOf bound before after failed fails Memory
memory_on most mid after between fails more before failed bound counts less same is =
    let r = risen most mid after between fails more counts in (r.kept ∙ same, omega (arith, less, r.least), omega (arith, r.below, is))

-- the numbers of a refusal that is none of the reader
pub text_counts : (most before after failed fails : ℕ) (e : ReadsError) → fails ≡ failed → before ≤ after → after ≤ most
    → AreCountsOf most before after failed fails (input_error e)
text_counts most before after failed fails reads.Memory same least below = (same, least, below)
text_counts most before after failed fails (reads.BadHeader n) same least below = (same, least, below)
text_counts most before after failed fails (reads.BadPlus n) same least below = (same, least, below)
text_counts most before after failed fails (reads.QualityLength n) same least below = (same, least, below)
text_counts most before after failed fails (reads.Truncated n) same least below = (same, least, below)

-- a read that the feeder refuses
pub fed_refused : (overlap : ℕ) (format : Format) (old new : Option (List ℕ)) (before after : ℕ) (text : List ℕ) (taken : List (List ℕ))
    (v : FeederState) (e : ReadsError) → (e ≢ reads.Memory → IsRefused format old new text e)
    → IsFedBy overlap format old new before after text taken v (Err (input_error e))
fed_refused overlap format old new before after text taken v reads.Memory h = tt
fed_refused overlap format old new before after text taken v (reads.BadHeader n) h = h (λ is. absurd (cc))
fed_refused overlap format old new before after text taken v (reads.BadPlus n) h = h (λ is. absurd (cc))
fed_refused overlap format old new before after text taken v (reads.QualityLength n) h = h (λ is. absurd (cc))
fed_refused overlap format old new before after text taken v (reads.Truncated n) h = h (λ is. absurd (cc))

-- the reads that were ended were taken
abbrev pub taken_fed : (overlap : ℕ) (format : Format) (old new : Option (List ℕ)) (a b : ℕ) (taken more : List (List ℕ)) (v w : FeederState)
    (f : IsFed overlap format old new a b [] taken v) → Stands (Some overlap) format f.bytes (taken ++ more) w → IsFed overlap format old new a b []
    (taken ++ more) w
taken_fed overlap format old new a b taken more v w f s = record { bytes = f.bytes; given = f.given; many = f.many; stands = s }
