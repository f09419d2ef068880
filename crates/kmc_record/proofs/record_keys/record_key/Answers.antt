use Rattle.std.proofs.Common.{◌≡◌, ℕ, List, ◌+◌, ◌*◌, ◌<◌, ◌≤◌, ◌^◌, length, take, ap, sym, ◌∙◌, arith}
use Rattle.std.proofs.lemmas.List.{length-take-le}
use Rattle.kmc_base.specs.declared.strands.Strands.{Strands}
use Rattle.kmc_base.specs.Packed.{pack}
use Rattle.kmc_base.specs.Strands.{key}
use Rattle.kmc_base.specs.Lemmas.Packs.{AreCodes}
use Rattle.kmc_base.specs.Lemmas.Rolling.{codes_front}
use Rattle.kmc_base.specs.Record.{codes_in}
use Rattle.kmc_record.specs.RecordKeys.{codes_of, symbols_of}
use Rattle.kmc_base.specs.Lemmas.Codes.{are_codes, length_codes}
use Rattle.kmc_record.proofs.Laying.{laid, symbols_laid, laid_fits, key_fits, codes_key}
use Rattle.kmc_record.proofs.record_keys.record_key.Goals as goal

module _ (bs : List ℕ) (n : ℕ) (inside : n ≤ 4 * length bs) where
  long : length (take n (codes_in bs)) ≡ n
  long = length-take-le n (codes_in bs) (omega (arith, length_codes bs))

  small : AreCodes (take n (codes_in bs))
  small = codes_front n (codes_in bs) (are_codes bs)

  abbrev packed : Strands → ℕ
  packed strands = pack (key strands (take n (codes_in bs)))

  fits : (strands : Strands) → packed strands < 4 ^ n
  fits strands = rw long at (key_fits strands (take n (codes_in bs)) small)

pub overflow_add-result : goal.overflow_add-result
overflow_add-result c =
    let n = c.args.symbols in
    let bs = c.args.bytes.now in
    let inside = c.requires.inside in
    omega (arith, c.packed_record.ensures, laid_fits n (packed bs n inside c.args.strands) c.requires.most (fits bs n inside c.args.strands))

pub returns-clause-symbols : goal.returns-clause-symbols
returns-clause-symbols c =
    let n = c.args.symbols in
    ap (λ p. symbols_of (p + n)) c.packed_record.ensures
    ∙ symbols_laid n (packed c.args.bytes.now n c.requires.inside c.args.strands) c.requires.most

pub returns-clause-codes : goal.returns-clause-codes
returns-clause-codes c =
    let n = c.args.symbols in
    let bs = c.args.bytes.now in
    let s = take n (codes_in bs) in
    let count = long bs n c.requires.inside in
    ap (λ p. codes_of (p + n)) c.packed_record.ensures
    ∙ ap (λ m. codes_of (laid m (pack (key c.args.strands s)))) (sym count) ∙ codes_key c.args.strands s (small bs n c.requires.inside)
    (omega (arith, count, c.requires.most))
