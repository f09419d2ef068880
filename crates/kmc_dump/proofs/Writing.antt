-- What was written, by the answers of calls.
use Rattle.std.proofs.Common.{◌≡◌, ℕ, ◌+◌, ◌-◌, ◌≤◌, ◌<◌, ◌^◌, List, [], length, get_or, append-nil, Option, Result, Ok, Err, refl, sym, subst, ◌∙◌, true≢false, arith}
use Rattle.std.specs.Prelude.{IsErr, IsErrAnd}
use Rattle.std.specs.Io.KnownBytes.{Appends}
use Rattle.std.specs.List.{flat_map}
use Rattle.std.proofs.lemmas.Nat.{pow_pos}
use Rattle.kmc_device.specs.Device.{AppendsFront, RisesByOne, Watched, WritesOut}
use Rattle.kmc_device.specs.Lemmas.Devices.{gathered_out}
use Rattle.kmc_lists.specs.Listed.{Listed, spelled}
use Rattle.kmc_lists.specs.Ordered.{whole}
use Rattle.kmc_dump.specs.Ranges.{range_text, AreRanges}
use Rattle.kmc_dump.specs.Written.{IsWritten, IsDumped}
use Rattle.kmc_dump.specs.declared.write.DumpError.{DumpError}
use Rattle.kmc_dump.specs.declared.write.DumpError.TheVariants.{Memory, Write}
use Rattle.kmc_dump.specs.declared.ranges.Ranges.{Ranges}
use Rattle.kmc_dump.proofs.Pieces.{rest_joins, turn_front}
use Rattle.kmc_dump.proofs.Texts.{all_text}

-- a call failed when a front was out
pub refused : {D A E : Type 0} (contents : D → Option (List ℕ)) (text : List ℕ) (old now new : Watched D) (r : Result A E) → IsErr r
    → now.failures ≡ old.failures → RisesByOne now.failures new.failures → AppendsFront (contents old.inner) (contents new.inner) text
    → IsWritten contents text old new r
refused contents text old now new (Ok x) is kept failed front = absurd (true≢false (sym is))
refused contents text old now new (Err e) is kept failed front = record {
  ok = tt;
  kept = tt;
  failed = subst (λ n. RisesByOne n new.failures) kept failed;
  front = front;
}

-- the text is out, and no call failed
pub all_out : {D A E : Type 0} (contents : D → Option (List ℕ)) (text : List ℕ) (old new : Watched D) (x : A) → new.failures ≡ old.failures
    → Appends (contents old.inner) (contents new.inner) text → IsWritten {A = A} {E = E} contents text old new (Ok x)
all_out contents text old new x kept out = record { ok = out; kept = kept; failed = tt; front = tt }

-- the dump is out
pub dumped : {D A E : Type 0} (contents : D → Option (List ℕ)) (text : List ℕ) (count : ℕ) (old new : Watched D) (n : ℕ) (x : A) → n ≡ count
    → IsWritten {A = A} {E = E} contents text old new (Ok x) → IsDumped contents text count old new (Ok n)
dumped contents text count old new n x is done = record {
  ok = done.ok;
  lines = is;
  kept = done.kept;
  failed = λ other. absurd (cc);
  front = λ other. absurd (cc);
  silent = λ other. absurd (cc);
}

-- a front of the dump is out
pub front_dumped : {D A E : Type 0} (contents : D → Option (List ℕ)) (text : List ℕ) (count : ℕ) (old new : Watched D) (e : E)
    → IsWritten {A = A} {E = E} contents text old new (Err e) → IsDumped contents text count old new (Err Write)
front_dumped contents text count old new e done = record {
  ok = tt;
  lines = tt;
  kept = tt;
  failed = λ is. done.failed;
  front = λ is. done.front;
  silent = λ other. absurd (cc);
}

-- a growth was refused before anything was out
pub none_dumped : {D : Type 0} (contents : D → Option (List ℕ)) (text : List ℕ) (count : ℕ) (old : Watched D) (r : Result ℕ DumpError)
    → IsErrAnd r (λ e. e ≡ Memory) → IsDumped contents text count old old r
none_dumped contents text count old (Ok n) memory = elim memory [ ]
none_dumped contents text count old (Err e) memory = record {
  ok = tt;
  lines = tt;
  kept = tt;
  failed = λ other. absurd (cc);
  front = λ other. absurd (cc);
  silent = λ is. refl;
}

module _ {D : Type 0} (contents : D → Option (List ℕ)) (line : List ℕ × ℕ → List ℕ) (r : Ranges) (lists : List Listed) (are : AreRanges r lists) where
  -- the text of the ranges from one on to before another
  abbrev pub between : ℕ → ℕ → List ℕ
  between m n = range_text line r.k (2 ^ r.shift) (get_or r.bounds.items m 0) (get_or r.bounds.items n 0) lists

  -- behind the texts of the ranges before stands that of the next
  next_range : (old now : Watched D) (i : ℕ) → i + 1 < length r.bounds.items → Appends (contents old.inner) (contents now.inner) (between 0 i)
      → WritesOut (contents old.inner) (contents now.inner) (between 0 (i + 1)) (between i (i + 1))
  next_range old now i inside before =
      (between 0 i, rest_joins line r.k (2 ^ r.shift) (pow_pos r.shift) lists r.bounds.items (λ i inside. (are.bounds i inside).0) i (i + 1) (omega arith) inside, before)

  -- of what was held a front is out
  pub turn_failed : {A B E F : Type 0} (old now new : Watched D) (first : ℕ) (held : List ℕ) (e : F) (answer : Result B E) → first < length r.bounds.items
      → now.failures ≡ old.failures → WritesOut (contents old.inner) (contents now.inner) (between 0 first) held
      → IsWritten {A = A} {E = F} contents held now new (Err e) → IsErr answer → IsWritten contents (flat_map line (spelled r.k (whole lists))) old new answer
  turn_failed old now new first held e answer inside kept before done is =
      refused contents (flat_map line (spelled r.k (whole lists))) old now new answer is kept done.failed
      (subst (AppendsFront (contents old.inner) (contents new.inner)) (all_text line r lists are)
      (turn_front line r.k (2 ^ r.shift) (pow_pos r.shift) lists r.bounds.items (λ i inside. (are.bounds i inside).0)
      first (length r.bounds.items - 1) (contents old.inner) (contents now.inner) (contents new.inner) held
      (omega (arith, inside)) (omega (arith, inside)) before done.front))

  -- what was held was the last
  pub last_turn : {A E : Type 0} (old now new : Watched D) (first : ℕ) (held : List ℕ) (answer : Result A E) → first ≡ length r.bounds.items - 1
      → now.failures ≡ old.failures → WritesOut (contents old.inner) (contents now.inner) (between 0 first) held
      → IsWritten contents held now new answer → IsWritten contents (flat_map line (spelled r.k (whole lists))) old new answer
  last_turn old now new first held (Ok x) last kept before done =
      let text : between 0 first ≡ flat_map line (spelled r.k (whole lists)) =
      subst (λ n. between 0 n ≡ flat_map line (spelled r.k (whole lists))) (sym last) (all_text line r lists are) in
      all_out contents (flat_map line (spelled r.k (whole lists))) old new x (done.kept ∙ kept)
      (subst (Appends (contents old.inner) (contents new.inner)) text
      (gathered_out (contents old.inner) (contents now.inner) (contents new.inner) (between 0 first) held before done.ok))
  last_turn old now new first held (Err e) last kept before done =
      let some : 1 ≤ length r.bounds.items = are.ends in
      turn_failed old now new first held e (Err e) (omega arith) kept before done refl

  -- the text of one range more is out
  pub range_done : {A E : Type 0} (old now new : Watched D) (i : ℕ) (x : A) → i + 1 < length r.bounds.items
      → (now.failures ≡ old.failures) × Appends (contents old.inner) (contents now.inner) (between 0 i)
      → IsWritten {A = A} {E = E} contents (between i (i + 1)) now new (Ok x)
      → (new.failures ≡ old.failures) × Appends (contents old.inner) (contents new.inner) (between 0 (i + 1))
  range_done old now new i x inside before done = (
    done.kept ∙ before.0,
    gathered_out (contents old.inner) (contents now.inner) (contents new.inner) (between 0 (i + 1)) (between i (i + 1)) (next_range old now i inside before.1) done.ok,
  )

  -- of the text of a range a front is out
  pub range_failed : {A E F : Type 0} (old now new : Watched D) (i : ℕ) (e : F) (answer : Result A E) → i + 1 < length r.bounds.items
      → (now.failures ≡ old.failures) × Appends (contents old.inner) (contents now.inner) (between 0 i)
      → IsWritten {A = A} {E = F} contents (between i (i + 1)) now new (Err e) → IsErr answer → IsWritten contents (flat_map line (spelled r.k (whole lists))) old new answer
  range_failed old now new i e answer inside before failed is =
      turn_failed old now new (i + 1) (between i (i + 1)) e answer inside before.0 (next_range old now i inside before.1) failed is

  -- the texts of all ranges are out
  pub ranges_done : {A E : Type 0} (old now new : Watched D) (n : ℕ) (answer : Result A E) → n ≡ length r.bounds.items - 1
      → (now.failures ≡ old.failures) × Appends (contents old.inner) (contents now.inner) (between 0 n)
      → IsWritten contents [] now new answer → IsWritten contents (flat_map line (spelled r.k (whole lists))) old new answer
  ranges_done old now new n answer last before done =
      last_turn old now new n [] answer last before.0 (between 0 n, append-nil (between 0 n), before.1) done
