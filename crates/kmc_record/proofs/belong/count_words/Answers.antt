use Rattle.std.proofs.Common.{rules, ◌≡◌, ◌<◌, ℕ, IsTrue, ◌+◌, ◌-◌, List, get_or, length, take, drop, ap, sym, subst, arith, length-drop}
use Rattle.kmc_base.specs.Words.{windows}
use Rattle.kmc_base.specs.Lemmas.Windows.{length_windows}
use Rattle.kmc_base.specs.Record.{codes_in, size_of}
use Rattle.kmc_record.specs.Bodies.{Belong}
use Rattle.kmc_record.specs.Lemmas.PartRecords.{records_of_part}
use Rattle.kmc_record.proofs.Belonging.{other_there, part_more}
use Rattle.kmc_base.specs.Lemmas.Whole.{begins_there, first_codes, length_first, next_inside, rest_at, rest_long, spelled_there}
use Rattle.kmc_record.proofs.belong.count_words.Goals as goal

pub returns-then-not-belongs-clause-first : goal.returns-then-not-belongs-clause-first
returns-then-not-belongs-clause-first c =
    let shape = c.args.shape in
    let n = c.in-Ok.found.0 in
    let found = c.in-Ok.ensures in
    let front = take c.loop-offset.offset c.args.body.now in (
      c.loop-offset-test.true,
      records_of_part c.args.bin shape front c.loop-offset.words c.loop-offset.invariant.part,
      other_there c.args.bin shape c.k-k.result n c.loop-offset.offset c.args.body.now (λ i. omega (arith, c.type_inv.body i)) found.count found.inside
          found.rest c.k-k.ensures.is (λ h.
          let t = c.belongs.ensures.1 (subst (λ (w : List ℕ). Belong c.args.bin shape (windows shape.k w))
          (sym (ap (λ (w : List ℕ). take n (codes_in w)) found.codes)) h) in
          cc),
    )

pub loop-offset-preserved : goal.loop-offset-preserved
loop-offset-preserved c =
    let shape = c.args.shape in
    let body = c.args.body.now in
    let offset = c.loop-offset.offset in
    let k = c.k-k.result in
    let n = c.in-Ok.found.0 in
    let rest = rest_at offset body in
    let found = c.in-Ok.ensures in
    let bytes : (i : ℕ) → get_or body i 0 < 256 = λ i. omega (arith, c.type_inv.body i) in
    let long = rest_long k n offset body bytes found.count found.inside found.rest in
    let behind : length (drop (1 + size_of n) rest) ≡ length rest - (1 + size_of n) = length-drop (1 + size_of n) rest in
    let yes : IsTrue c.belongs.result = search (rules, c.if-not-belongs.false) in
    let belong = subst (λ (w : List ℕ). Belong c.args.bin shape (windows shape.k w)) (ap (λ (w : List ℕ). take n (codes_in w)) found.codes)
    (c.belongs.ensures.0 yes) in
    record {
      inside = omega (arith, next_inside k n offset body bytes found.count found.inside found.rest, found.size);
      part = part_more c.args.bin shape body (drop (1 + size_of n) rest) (first_codes n rest) k offset _ c.loop-offset.words (n + 1 - k)
          c.saturating_add-words.result c.k-k.ensures.is c.loop-offset.invariant.part c.loop-offset.invariant.inside
          (spelled_there k n offset body bytes found.count found.inside found.rest)
          (begins_there k n offset body bytes found.count found.inside found.rest)
          (omega (arith, long, behind, found.inside, found.size)) belong
          (omega (arith, length_windows shape.k (first_codes n rest), length_first n rest found.inside, c.k-k.ensures.is))
          (omega (arith, c.saturating_add-words.ensures));
    }
