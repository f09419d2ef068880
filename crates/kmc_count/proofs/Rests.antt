-- The bytes of a body from a place on, and the record there; results that are told apart.
use Rattle.std.proofs.Common.{◌≡◌, ℕ, ◌+◌, ◌-◌, ◌*◌, ◌<◌, ◌≤◌, Result, Ok, Err, List, length, get_or, take, drop, All, ap, ◌∙◌, arith, subst, length-drop, Fits, w64}
use Rattle.std.specs.Result.{IsErrAnd, IsErrOf}
use Rattle.std.proofs.lemmas.List.{length-take-le, take_rest}
use Rattle.std.proofs.lemmas.Result.{err_from_is_err_and}
use Rattle.kmc_record.specs.declared.fault.BodyError.{BodyError}
use Rattle.kmc_record.specs.declared.fault.BodyError.TheVariants.{Memory, Damaged}
use Rattle.kmc_record.specs.declared.fault.RecordFault.{RecordFault}
use Rattle.kmc_record.specs.Faults.{HasFault, IsFirstFault}
use Rattle.kmc_base.specs.Record.{codes_in, size_of, IsBodyOf}
use Rattle.kmc_base.specs.Lemmas.Whole.{length_first, rest_at, spelled_there}

rest_long : (offset : ℕ) (body : List ℕ) → length (rest_at offset body) ≡ length body - offset
rest_long offset body = length-take-le (length body - offset) (drop offset body) (omega (arith, length-drop offset body))

pub some_left : (offset : ℕ) (body : List ℕ) → offset < length body → 0 < length (rest_at offset body)
some_left offset body less = omega (arith, rest_long offset body, less)

-- a record has a word at least
pub enough : (n k b : ℕ) → n ≡ b + k → k ≤ n
enough n k b is = omega (arith, is)

-- its bytes have all its symbols
pub all_symbols : (n : ℕ) (codes : List ℕ) → length codes ≡ size_of n → n ≤ 4 * length codes
all_symbols n codes size = omega (arith, size)

-- it stands in the bytes behind its first one
pub inside_rest : (n : ℕ) (rest : List ℕ) → 1 + size_of n ≤ length rest → n ≤ 4 * length (take (length rest - 1) (drop 1 rest))
inside_rest n rest inside = omega (arith, inside, ap length (take_rest rest 1), length-drop 1 rest)

-- ---- how large a record is

-- a record of n symbols was found at a place of a body
pub few_symbols : (k n offset : ℕ) (body : List ℕ) → ((i : ℕ) → get_or body i 0 < 256) → n ≡ get_or (rest_at offset body) 0 0 + k
    → 1 + size_of n ≤ length (rest_at offset body) → All (λ c. c ≡ 0) (drop n (codes_in (take (size_of n) (drop 1 (rest_at offset body)))))
    → k ≤ 64
    → n < 320
few_symbols k n offset body each count inside clean most =
    let spelled = spelled_there k n offset body each count inside clean in
    omega (arith, spelled.most, length_first n (rest_at offset body) inside, most)

pub size_fits : (n bytes : ℕ) → n < 320 → bytes ≡ size_of n → Fits w64 (1 + bytes)
size_fits n bytes few size = omega (arith, few, size)

pub all_of : (n : ℕ) → n ≤ n
all_of n = omega arith

pub few_bytes : (n : ℕ) (codes : List ℕ) → n < 320 → length codes ≡ size_of n → length codes < 1000
few_bytes n codes few size = omega (arith, size, few)

pub less_left : (bytes offset all : ℕ) → offset < all → all - (offset + (1 + bytes)) < all - offset
less_left bytes offset all less = omega (arith, less)

-- the place behind the record
pub behind_it : (n bytes offset all : ℕ) → bytes ≡ size_of n → offset + (1 + size_of n) ≤ all
    → (offset < offset + 1 + bytes) × (offset + 1 + bytes ≤ all)
behind_it n bytes offset all size inside = (omega arith, omega (arith, size, inside))

-- the fault that was found at a place, and is told
pub found_fault : {T : Type 0} (k : ℕ) (body : List ℕ) (ss : List (List ℕ)) (offset at : ℕ) (made fault : RecordFault) → offset < length body
    → IsBodyOf k ss (take offset body) → HasFault k made (rest_at offset body) → IsErrOf {T = T} (Err (Damaged made offset)) (Damaged fault at)
    → IsFirstFault k fault at body
found_fault {T} k body ss offset at made fault less whole here is =
    let same : made ≡ fault = cc (is) in
    let there : offset ≡ at = cc (is) in
    subst (λ f. IsFirstFault k f at body) same (subst (λ o. IsFirstFault k made o body) there record {
      inside = less;
      before = ss;
      whole = whole;
      here = subst (HasFault k made) (take_rest body offset) here;
    })

-- ---- results that are told apart

pub no_error : {T E : Type 0} (P : Type 0) (x : T) (e : E) → Ok x ≡ Err e → P
no_error P x e is = absurd (cc)

pub no_memory : {T : Type 0} (P : Type 0) (r : Result T BodyError) (fault : RecordFault) (offset : ℕ) → r ≡ Err (Damaged fault offset)
    → r ≡ Err Memory → P
no_memory P r fault offset damaged is = absurd (cc)

-- want of memory is no damage
pub no_damage : {T : Type 0} (P : Type 0) (r : Result T BodyError) (fault : RecordFault) (offset : ℕ) → IsErrAnd r (λ e. e ≡ Memory)
    → r ≡ Err (Damaged fault offset) → P
no_damage P r fault offset made is =
    let p = err_from_is_err_and r made in
    absurd (cc (p.1, p.2, is))
