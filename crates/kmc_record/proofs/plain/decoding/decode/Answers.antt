use Rattle.std.proofs.Common.{◌≡◌, ℕ, ◌+◌, ◌<◌, ◌≤◌, ◌++◌, List, length, take, drop, ap, sym, subst, ◌∙◌, arith}
use Rattle.std.proofs.lemmas.List.{take_rest}
use Rattle.std.proofs.lemmas.List.Elements.{All-from_recursion}
use Rattle.kmc_base.specs.declared.kmer.TheConstants.{MAX_K}
use Rattle.kmc_split.specs.SuperKmer.{IsSuperKmer}
use Rattle.kmc_base.specs.Record.{spelling, IsSpelled, codes_in, size_of}
use Rattle.std.specs.Prelude.{Result, Ok, Err, IfErr}
use Rattle.std.specs.Result.{IsErrAnd}
use Rattle.kmc_record.specs.Refusals.{BeginsRecord}
use Rattle.kmc_base.specs.Lemmas.Spelled.{bytes_each}
use Rattle.kmc_base.specs.Lemmas.Whole.{first_codes, first_spelled, first_read}
use Rattle.kmc_record.specs.DecodingRefusals.{IsRefusedRecord}
use Rattle.kmc_record.specs.declared.plain.decoding.RecordError.{RecordError}
use Rattle.kmc_record.specs.declared.plain.decoding.RecordError.TheVariants.{Memory}
use Rattle.kmc_record.proofs.plain.decoding.decode.Goals as goal

spelled_super_kmer : (k : ℕ) (w : List ℕ) → 1 ≤ k → k ≤ MAX_K → IsSpelled k w → IsSuperKmer k w
spelled_super_kmer k w some limit h = record {
  some = some;
  limit = limit;
  long = h.least;
  most = h.most;
  codes = All-from_recursion
      (λ (c : ℕ). c < 4) w h.codes;
}

-- memory was refused where a record stands
no_memory : {A : Type 0} (k : ℕ) (bytes : List ℕ) (r : Result A RecordError) → IsErrAnd r (λ e. e ≡ Memory) → BeginsRecord k bytes → IfErr r
    (λ e. IsRefusedRecord k e bytes)
no_memory k bytes (Ok x) h b = absurd h
no_memory k bytes (Err e) h b = subst (λ e. IsRefusedRecord k e bytes) (sym h) b

pub returns-in_err-codes-clause-refused : goal.returns-in_err-codes-clause-refused
returns-in_err-codes-clause-refused c =
    let bs = c.args.bytes.now in
    let n = c.in_ok-symbols.symbols in
    let are = bytes_each bs (λ i. omega (arith, c.type_inv.bytes i)) in
    no_memory c.args.k bs c.from_residual-in_err-codes.result c.from_residual-in_err-codes.ensures.1 (record {
      codes = first_codes n bs;
      rest = drop (1 + size_of n) bs;
      spelled = first_spelled c.args.k n bs are c.in_ok-symbols.ensures.count c.in_ok-symbols.ensures.inside;
      is = first_read c.args.k n bs are c.in_ok-symbols.ensures.count c.in_ok-symbols.ensures.inside c.in_ok-symbols.ensures.rest;
    })

pub unreachable-requires : goal.unreachable-requires
unreachable-requires c =
    let bs = c.args.bytes.now in
    let n = c.in_ok-symbols.symbols in
    let are = bytes_each bs (λ i. omega (arith, c.type_inv.bytes i)) in
    let is = c.in_ok-codes.ensures ∙ ap (λ (w : List ℕ). take n (codes_in w)) c.in_ok-symbols.ensures.codes in
    c.in-None.ensures
    (subst (IsSuperKmer c.args.k) (sym is)
    (spelled_super_kmer c.args.k (first_codes n bs) c.requires.some c.requires.most
    (first_spelled c.args.k n bs are c.in_ok-symbols.ensures.count c.in_ok-symbols.ensures.inside)))

pub returns-clause-spelled : goal.returns-clause-spelled
returns-clause-spelled c =
    let bs = c.args.bytes.now in
    let n = c.in_ok-symbols.symbols in
    let are = bytes_each bs (λ i. omega (arith, c.type_inv.bytes i)) in
    let is = c.in-Some.ensures.1 ∙ c.in_ok-codes.ensures ∙ ap (λ (w : List ℕ). take n (codes_in w)) c.in_ok-symbols.ensures.codes in
    subst (IsSpelled c.args.k) (sym is) (first_spelled c.args.k n bs are c.in_ok-symbols.ensures.count c.in_ok-symbols.ensures.inside)

pub returns-clause-rest : goal.returns-clause-rest
returns-clause-rest c =
    let bs = c.args.bytes.now in
    let n = c.in_ok-symbols.symbols in
    let are = bytes_each bs (λ i. omega (arith, c.type_inv.bytes i)) in
    let is = sym (c.in-Some.ensures.1 ∙ c.in_ok-codes.ensures ∙ ap (λ (w : List ℕ). take n (codes_in w)) c.in_ok-symbols.ensures.codes) in
    let next : 1 + size_of n ≡ 1 + length c.in_ok-symbols.packed.now = ap (λ (m : ℕ). 1 + m) (sym c.in_ok-symbols.ensures.size) in
    let rest = ap (λ (m : ℕ). drop m bs) next ∙ sym (take_rest bs (1 + length c.in_ok-symbols.packed.now)) in
    first_read c.args.k n bs are c.in_ok-symbols.ensures.count c.in_ok-symbols.ensures.inside c.in_ok-symbols.ensures.rest
    ∙ (λ i. spelling c.args.k (is i) ++ rest i)
