-- Faults that are passed on, and what memory holds behind them.
use Rattle.std.proofs.Common.{◌≡◌, ℕ, ◌+◌, ◌<◌, ◌^◌, List, ◌++◌, length, map, get_or, set, Option, Result, Ok, Err, IfErr, sym, ap, subst, arith, length-append}
use Rattle.std.specs.declared.vec.Vec.{Vec}
use Rattle.std.specs.declared.alloc.Global.{Global}
use Rattle.std.specs.Result.{IsErrAnd}
use Rattle.std.specs.Io.KnownBytes.{Consumes}
use Rattle.std.proofs.KnownBytes.{Consumes-trans}
use Rattle.std.proofs.lemmas.List.{map-set, get_or-map, length-map}
use Rattle.std.proofs.lemmas.List.Sums.{sum_by-set}
use Rattle.kmc_slice_files.specs.Reads.{TookHead, SaysFrame, GaveSome, IsHeadFault, IsBodyFault, IsFrameFault, held_bytes}
use Rattle.kmc_slice_files.specs.declared.read.Head.{Head}
use Rattle.kmc_slice_files.specs.declared.read.FrameFault.{FrameFault}
use Rattle.kmc_slice_files.specs.declared.read.FrameFault.TheVariants.{Read, Memory, Short, Damaged}
use Rattle.kmc_slice_files.proofs.Taking.{less_begins, short_begins}

-- what holds of an error holds of the result that a `?` makes of it
pub on_error : {T E : Type 0} (to : Result T E) (P : E → Type 0) (e : E) → IsErrAnd to (λ x. x ≡ e) → P e → IfErr to P
on_error (Ok x) P e is h = tt
on_error (Err x) P e is h = subst P (sym is) h

pub head_fault : (n S s count : ℕ) (old new : Option (List ℕ)) (e : FrameFault) → IsHeadFault old new e → IsFrameFault n S s count old new e
head_fault n S s count old new Read h = tt
head_fault n S s count old new Memory h = absurd h
head_fault n S s count old new Short h = record { bytes = h.bytes; gave = h.gave; ended = h.ended; none = less_begins n S s count h.bytes h.few }
head_fault n S s count old new Damaged h = absurd h

pub body_fault : (h : Head) (a m c : Option (List ℕ)) (n S s count b : ℕ) → TookHead h a m → n < 65536 → count < 2 ^ 64 → SaysFrame n S s b h
    → (e : FrameFault) → IsBodyFault h.long m c e → IsFrameFault n S s count a c e
body_fault h a m c n S s count b took few fits says Read is = tt
body_fault h a m c n S s count b took few fits says Memory is = record {
  h = h;
  b = b;
  mid = m;
  head = took;
  says = says;
  body = is.0;
  gave = is.2;
  less = is.1;
}
body_fault h a m c n S s count b took few fits says Short is = record {
  bytes = took.bytes ++ is.0;
  gave = Consumes-trans a m c took.bytes is.0 took.gave is.2;
  ended = is.3;
  none = short_begins h took.bytes took.is n S s count few fits b says is.0 is.1;
}
body_fault h a m c n S s count b took few fits says Damaged is = absurd is

abbrev pub items_of : Vec ℕ Global → List ℕ
items_of v = v.items

-- one body is another
pub held_set : (bodies : List (Vec ℕ Global)) (b : ℕ) (out was : Vec ℕ Global) → b < length bodies
    → held_bytes (map items_of (set bodies b out)) + length (items_of (get_or bodies b was)) ≡ held_bytes (map items_of bodies) + length
    (items_of out)
held_set bodies b out was inside =
    let at : get_or (map items_of bodies) b (items_of was) ≡ items_of (get_or bodies b was) = get_or-map items_of bodies b was (items_of was) inside
    in
    let sums = sum_by-set length (map items_of bodies) b (items_of out) (items_of was) (omega (arith, length-map bodies items_of, inside)) in
    omega (arith, sums, ap length at, ap held_bytes (map-set items_of bodies b out))

-- a front of a body was read
pub held_front : (bodies : List (Vec ℕ Global)) (b : ℕ) (out was : Vec ℕ Global) (block : ℕ) (h : Head) (a m c : Option (List ℕ)) → b < length bodies
    → TookHead h a m
    → GaveSome (get_or bodies b was).len out.len block m c → GaveSome (held_bytes (map items_of bodies))
    (held_bytes (map items_of (set bodies b out))) block a c
held_front bodies b out was block h a m c inside took some = record {
  bytes = took.bytes ++ some.bytes;
  gave = Consumes-trans a m c took.bytes some.bytes took.gave some.gave;
  held = omega (arith, held_set bodies b out was inside, some.held, length-append took.bytes some.bytes, (get_or bodies b was).ok.0, out.ok.0);
}

-- a whole body was read
pub held_body : (bodies : List (Vec ℕ Global)) (b : ℕ) (out was : Vec ℕ Global) (block : ℕ) (h : Head) (body : List ℕ) (a m c : Option (List ℕ))
    → b < length bodies → TookHead h a m
    → items_of out ≡ items_of (get_or bodies b was) ++ body → Consumes m c body → GaveSome (held_bytes (map items_of bodies))
    (held_bytes (map items_of (set bodies b out))) block a c
held_body bodies b out was block h body a m c inside took is gave = record {
  bytes = took.bytes ++ body;
  gave = Consumes-trans a m c took.bytes body took.gave gave;
  held = omega (
    arith,
    held_set bodies b out was inside,
    length-append took.bytes body,
    ap length is,
    length-append (items_of (get_or bodies b was))
        body,
  );
}
