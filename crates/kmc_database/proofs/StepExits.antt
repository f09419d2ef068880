-- Steps of unpacking that are refused.
use Rattle.std.proofs.Common.{◌≡◌, ℕ, ◌-◌, ◌^◌, ◌<◌, ◌⊎◌, inl, inr, List, length, Option, Result, Ok, Err, refl, sym, subst, ◌∙◌, arith}
use Rattle.std.specs.Prelude.{◌≢◌}
use Rattle.std.specs.Result.{IsErrAnd}
use Rattle.kmc_device.specs.Device.{Watched}
use Rattle.kmc_sum.specs.Source.{GoesOn}
use Rattle.kmc_sum.specs.declared.source.Room.{Room}
use Rattle.kmc_database.specs.Checked.{IsEntryRefused}
use Rattle.kmc_database.specs.Given.{HaveGiven, IsUnpackBegun, Starts}
use Rattle.kmc_database.specs.UnpackAnswer.{IsStepAnswer, unpack_failures}
use Rattle.kmc_database.specs.UnpackCauses.{IsEntryAtFault, IsRefusedWith, UnpackFailures}
use Rattle.kmc_database.specs.UnpackState.{IsPartAnswer, IsUnpackedSoFar}
use Rattle.kmc_database.specs.declared.reading.Header.{Header}
use Rattle.kmc_database.specs.declared.unpack_error.UnpackError.{UnpackError}
use Rattle.kmc_database.specs.declared.unpack_error.UnpackError.TheVariants.{Form, Length, PrefixMarker, SuffixMarker, Entry, Cut, NotRising, ZeroCount, SuffixEnd, Changed, ReadPrefix, ReadSuffix, Write, Memory}
use Rattle.kmc_database.proofs.Given.{given_table}
use Rattle.kmc_database.proofs.UnpackSoFar.{begun_with, out_so_far}

-- no device failed before
pub refused_since : (h : Header) (s : Starts) (p q : Option (List ℕ)) (first a b c a' b' c' x y z : ℕ) (e : UnpackError) → a ≡ a' → b ≡ b' → c ≡ c'
    → IsRefusedWith h s p q (record { first = first; prefix = a; suffix = b; writer = c })
    (record { first = first; prefix = x; suffix = y; writer = z }) e
    → IsRefusedWith h s p q (record { first = first; prefix = a'; suffix = b'; writer = c' })
    (record { first = first; prefix = x; suffix = y; writer = z }) e
refused_since h s p q first a b c a' b' c' x y z e sa sb sc refused =
    subst (λ (o : UnpackFailures). IsRefusedWith h s p q o (record { first = first; prefix = x; suffix = y; writer = z }) e)
    (λ i. record { first = first; prefix = sa i; suffix = sb i; writer = sc i }) refused

-- a refusal that is handed on
pub step_refused : {R W A : Type 0} (remaining : R → Option (List ℕ)) (contents : W → Option (List ℕ)) (h : Header) (s : Starts)
    (prefix prefix' suffix suffix' : Watched R) (writer writer' : Watched W) (r : Result A UnpackError) (done left : Type 0) (e : UnpackError)
    → IsErrAnd r (λ x. x ≡ e)
    → ((first : ℕ) → IsRefusedWith h s (remaining prefix'.inner) (remaining suffix'.inner) (unpack_failures first prefix suffix writer)
    (unpack_failures first prefix' suffix' writer') e)
    → left → IsStepAnswer remaining contents h s prefix prefix' suffix suffix' writer writer' r done left
step_refused remaining contents h s prefix prefix' suffix suffix' writer writer' (Ok x) done left e made cause begun = absurd made
step_refused remaining contents h s prefix prefix' suffix suffix' writer writer' (Err d) done left e made cause begun = record {
  ok = tt;
  sound = λ first. tt;
  cause = λ first.
      subst (λ (x : UnpackError). IsRefusedWith h s (remaining prefix'.inner) (remaining suffix'.inner) (unpack_failures first prefix suffix writer)
      (unpack_failures first prefix' suffix' writer') x)
      (sym made) (cause first);
  left = begun;
}

-- an entry that is not within its bounds: the first, and one behind others
pub first_fault : (i n rows entry : ℕ) → i ≡ 0 → (entry < 0) ⊎ (0 < entry) → (entry < n) ⊎ (rows < entry) ⊎ ((i ≡ 0) × (entry ≢ 0))
first_fault i n rows entry is (inl less) = absurd (omega (arith, less))
first_fault i n rows entry is (inr more) = inr (inr (is, λ none. omega (arith, more, none)))

pub later_fault : (i row n rows entry : ℕ) → row ≡ n → (entry < row) ⊎ (rows < entry) → (entry < n) ⊎ (rows < entry) ⊎ ((i ≡ 0) × (entry ≢ 0))
later_fault i row n rows entry many (inl less) = inl (omega (arith, less, many))
later_fault i row n rows entry many (inr more) = inr (inl more)

-- an entry that was not taken
module _ (h : Header) (s : Starts) (i m : ℕ) (p p' : Option (List ℕ)) (tr : List ℕ) (q : Option (List ℕ)) (r : List ℕ) (w : Option (List ℕ))
    (held : List ℕ) (row last : ℕ) (so : IsUnpackedSoFar h.layout s i m p tr q r w held row last) (below : m ≡ i - 1)
    (inside : i < 4 ^ h.layout.prefix) where
  given_on : (rest : List ℕ) → GoesOn p p' tr rest → HaveGiven h.layout s i (i - 1) so.pairs p' rest q r
  given_on rest goes =
      subst (λ (n : ℕ). HaveGiven h.layout s i n so.pairs p' rest q r) below (given_table h.layout s i m so.pairs p p' q tr rest r so.given goes)

  begun_on : (rest : List ℕ) → GoesOn p p' tr rest → IsUnpackBegun s p' q w
  begun_on rest goes =
      begun_with h.layout s i (i - 1) so.pairs p' rest q r w (given_on rest goes) (out_so_far h.layout s i m p tr q r w held row last so)

  pub entry_refused : (least most failed fails first suffix writer : ℕ) (e : UnpackError)
      → ((entry : ℕ) → (entry < least) ⊎ (most < entry) → (entry < length so.pairs) ⊎ (h.rows < entry) ⊎ ((i ≡ 0) × (entry ≢ 0)))
      → IsEntryRefused i least most p p' tr failed fails e
      → IsRefusedWith h s p' q (record { first = first; prefix = failed; suffix = suffix; writer = writer })
      (record { first = first; prefix = fails; suffix = suffix; writer = writer }) e
  entry_refused least most failed fails first suffix writer (Entry j) fault x =
      let out = x.1 in (
        subst (IsEntryAtFault h s p' q) (sym x.0) (record {
          pairs = so.pairs;
          entry = out.entry;
          small = out.small;
          more = out.more;
          rest = r;
          given = given_on _ out.goes;
          fault = fault out.entry out.out;
        }),
        λ k. record { first = first; prefix = x.2 k; suffix = suffix; writer = writer },
      )
  entry_refused least most failed fails first suffix writer Changed fault x =
      let end = x.0 in (
        inl (record {
          pairs = so.pairs;
          n = i;
          table_rest = end.rest;
          rest = r;
          given = given_on end.rest end.goes;
          more = inside;
          short = end.short;
          end = end.end;
        }),
        λ k. record { first = first; prefix = x.1 k; suffix = suffix; writer = writer },
      )
  entry_refused least most failed fails first suffix writer ReadPrefix fault x = (refl, x.rises, refl, refl)
  entry_refused least most failed fails first suffix writer (Form f) fault x = absurd x
  entry_refused least most failed fails first suffix writer Length fault x = absurd x
  entry_refused least most failed fails first suffix writer PrefixMarker fault x = absurd x
  entry_refused least most failed fails first suffix writer SuffixMarker fault x = absurd x
  entry_refused least most failed fails first suffix writer (Cut n) fault x = absurd x
  entry_refused least most failed fails first suffix writer (NotRising n) fault x = absurd x
  entry_refused least most failed fails first suffix writer (ZeroCount n) fault x = absurd x
  entry_refused least most failed fails first suffix writer SuffixEnd fault x = absurd x
  entry_refused least most failed fails first suffix writer ReadSuffix fault x = absurd x
  entry_refused least most failed fails first suffix writer Write fault x = absurd x
  entry_refused least most failed fails first suffix writer Memory fault x = absurd x

  pub entry_begun : (least most failed fails : ℕ) (e : UnpackError) → IsEntryRefused i least most p p' tr failed fails e → IsUnpackBegun s p' q w
  entry_begun least most failed fails (Entry j) x = begun_on _ x.1.goes
  entry_begun least most failed fails Changed x = begun_on _ x.0.goes
  entry_begun least most failed fails ReadPrefix x = begun_on _ x.goes
  entry_begun least most failed fails (Form f) x = absurd x
  entry_begun least most failed fails Length x = absurd x
  entry_begun least most failed fails PrefixMarker x = absurd x
  entry_begun least most failed fails SuffixMarker x = absurd x
  entry_begun least most failed fails (Cut n) x = absurd x
  entry_begun least most failed fails (NotRising n) x = absurd x
  entry_begun least most failed fails (ZeroCount n) x = absurd x
  entry_begun least most failed fails SuffixEnd x = absurd x
  entry_begun least most failed fails ReadSuffix x = absurd x
  entry_begun least most failed fails Write x = absurd x
  entry_begun least most failed fails Memory x = absurd x

-- a step behind others, none of which saw a device fail
pub step_since : {R W A : Type 0} (remaining : R → Option (List ℕ)) (contents : W → Option (List ℕ)) (h : Header) (s : Starts)
    (prefix p p' suffix q q' : Watched R) (writer w w' : Watched W) (r : Result A UnpackError) (done left left' : Type 0)
    → p.failures ≡ prefix.failures → q.failures ≡ suffix.failures → w.failures ≡ writer.failures → (left → left')
    → IsStepAnswer remaining contents h s p p' q q' w w' r done left → IsStepAnswer remaining contents h s prefix p' suffix q' writer w' r done left'
step_since remaining contents h s prefix p p' suffix q q' writer w w' (Ok x) done left left' sp sq sw up step = record {
  ok = step.ok;
  sound = λ first. step.sound first ∙ (λ i. record { first = first; prefix = sp i; suffix = sq i; writer = sw i });
  cause = λ first. tt;
  left = tt;
}
step_since remaining contents h s prefix p p' suffix q q' writer w w' (Err e) done left left' sp sq sw up step = record {
  ok = tt;
  sound = λ first. tt;
  cause = λ first.
      refused_since h s (remaining p'.inner) (remaining q'.inner) first p.failures q.failures w.failures prefix.failures suffix.failures writer.failures
      p'.failures q'.failures w'.failures e sp sq sw (step.cause first);
  left = up step.left;
}

-- a refusal among the rows of a first part, handed on
pub part_refused : {R W : Type 0} (remaining : R → Option (List ℕ)) (contents : W → Option (List ℕ)) (h : Header) (s : Starts) (part to : ℕ)
    (p : Option (List ℕ)) (tr : List ℕ) (reader read : Watched R) (room : Room) (writer written : Watched W) (held : List ℕ) (r : Result ℕ UnpackError)
    (e : UnpackError) → IsErrAnd r (λ x. x ≡ e)
    → ((first prefix : ℕ) → IsRefusedWith h s p (remaining read.inner)
    (record { first = first; prefix = prefix; suffix = reader.failures; writer = writer.failures })
    (record { first = first; prefix = prefix; suffix = read.failures; writer = written.failures }) e)
    → IsUnpackBegun s p (remaining read.inner) (contents written.inner)
    → IsPartAnswer remaining contents h s part to p tr reader read room writer written held r
part_refused remaining contents h s part to p tr reader read room writer written held (Ok x) e made cause begun = absurd made
part_refused remaining contents h s part to p tr reader read room writer written held (Err d) e made cause begun = record {
  ok = tt;
  cause = λ first prefix.
      subst (λ (x : UnpackError). IsRefusedWith h s p (remaining read.inner)
      (record { first = first; prefix = prefix; suffix = reader.failures; writer = writer.failures })
      (record { first = first; prefix = prefix; suffix = read.failures; writer = written.failures }) x)
      (sym made) (cause first prefix);
  begun = begun;
}
