use Rattle.std.proofs.Common.{◌≡◌, ℕ, ◌+◌, ◌++◌, List, [], ◌∷◌, refl, sym, take, map, ap, ◌∙◌, append_assoc, arith, rules}
use Rattle.std.proofs.lemmas.Grind.{common_steps}
use Rattle.std.proofs.lemmas.List.{map-append}
use Rattle.kmc_base.specs.declared.strands.Strands.{Strands}
use Rattle.kmc_base.specs.Packed.{pack}
use Rattle.kmc_base.specs.Strands.{keys}
use Rattle.kmc_base.specs.Weights.{weighted}
use Rattle.kmc_base.specs.Record.{codes_in}
use Rattle.kmc_record.specs.RecordWords.{record_keys}
use Rattle.kmc_base.specs.Lemmas.Whole.{first_codes, flat_push, next_body, next_inside, rest_at}
use Rattle.kmc_record.specs.Lemmas.Whole.{stops_there}
use Rattle.kmc_record.proofs.plain.body.push_body.Goals as goal

-- the keys of one record more
next_keys : (strands : Strands) (k : ℕ) (ss : List (List ℕ)) (s : List ℕ) (old new whole : List ℕ) → old ≡ whole ++ map pack (record_keys strands k ss)
    → new ≡ old ++ map pack (keys strands k s) → new ≡ whole ++ map pack (record_keys strands k (ss ++ s ∷ []))
next_keys strands k ss s old new whole before more =
    let joined : map pack (record_keys strands k (ss ++ s ∷ [])) ≡ map pack (record_keys strands k ss) ++ map pack (keys strands k s) =
    ap (map pack) (flat_push (keys strands k) ss s) ∙ map-append pack (record_keys strands k ss) (keys strands k s) in
    more ∙ ap (λ (t : List ℕ). t ++ map pack (keys strands k s)) before ∙ append_assoc whole (map pack (record_keys strands k ss))
    (map pack (keys strands k s)) ∙ ap (λ (t : List ℕ). whole ++ t) (sym joined)

-- words that are counted once, with no bits for that
once_each : (ns : List ℕ) → map (weighted 0 1) ns ≡ ns
once_each [] = refl
once_each (n ∷ ns) =
    let same : weighted 0 1 n ≡ n = omega arith in
    (λ i. same i ∷ once_each ns i)

pub returns-in_err-push_record-clause-memory : goal.returns-in_err-push_record-clause-memory
returns-in_err-push_record-clause-memory g c = λ is.
    let found = c.in-Ok.ensures in
    stops_there c.args.k c.in-Ok.found.0 c.loop-offset.offset c.args.body.now (λ i. omega (arith, c.type_inv.body i)) found.count found.inside
    found.rest c.loop-offset.invariant.records.0 c.loop-offset-test.true c.loop-offset.invariant.records.1

pub loop-offset-preserved : goal.loop-offset-preserved
loop-offset-preserved g c =
    let body = c.args.body.now in
    let offset = c.loop-offset.offset in
    let n = c.in-Ok.found.0 in
    let found = c.in-Ok.ensures in
    let codes = first_codes n (rest_at offset body) in
    let keys_of : List ℕ → List ℕ = λ w. map pack (keys c.args.strands c.args.k w) in
    let h = c.loop-offset.invariant.records in
    record {
      inside = omega (arith, next_inside c.args.k n offset body (λ i. omega (arith, c.type_inv.body i)) found.count found.inside found.rest, found.size);
      records = (
        h.0 ++ codes ∷ [],
        next_body c.args.k n offset body (λ i. omega (arith, c.type_inv.body i)) found.count found.inside found.rest _ h.0 h.1
            (λ i. offset + (1 + found.size i)),
        next_keys c.args.strands c.args.k h.0 codes _ _ (map g.W.PackedKmer.number c.args.words.now.items) h.2
            (c.in_ok-push_record.ensures ∙ ap (λ (w : List ℕ). map g.W.PackedKmer.number c.loop-offset.words.items ++ map (weighted 0 1) (keys_of w))
            (ap (λ (w : List ℕ). take n (codes_in w)) found.codes) ∙ ap (λ (t : List ℕ). map g.W.PackedKmer.number c.loop-offset.words.items ++ t) (once_each (keys_of codes))),
      );
    }

pub push_record-requires-clause-few : goal.push_record-requires-clause-few
push_record-requires-clause-few g c = grind (arith, common_steps)

pub returns-in-Err-clause-memory : goal.returns-in-Err-clause-memory
returns-in-Err-clause-memory g c = search rules
