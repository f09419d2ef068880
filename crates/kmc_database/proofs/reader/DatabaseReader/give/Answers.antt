use Rattle.std.proofs.Common.{◌≡◌, ◌-◌, ◌≤◌, cond, [], length, take, arith, length-drop}
use Rattle.kmc_device.specs.Lemmas.Lines.{length_put_mid}
use Rattle.kmc_database.specs.DumpText.{text_from}
use Rattle.kmc_database.specs.LeftOf.{left_of}
use Rattle.kmc_database.proofs.DumpGiven.{all_given, given_more, given_none, given_stays, line_given}
use Rattle.kmc_database.proofs.reader.DatabaseReader.give.Goals as goal
use borrow.Rule.Slice.PartMut.{put_mid}

pub returns-then-self-clause-bytes : goal.returns-then-self-clause-bytes
returns-then-self-clause-bytes g c =
    let r = c.loop-given.self in
    let remaining = g.R.Read.remaining in (
      c.loop-given.invariant.gave,
      λ none some.
          all_given r.line (text_from r.header r.at) r.ended (left_of remaining r.prefix) (left_of remaining r.suffix)
          (c.is_empty.ensures.empty c.if-not-is_empty.false) c.if-self.true,
    )

pub returns-then-given-eq0-clause-bytes : goal.returns-then-given-eq0-clause-bytes
returns-then-given-eq0-clause-bytes g c =
    given_none _ _ c.loop-given.given c.loop-given.buf c.if-given-eq0.true
    (given_stays _ _ _ _ c.loop-given.invariant.gave c.in-Err.ensures.same)

pub returns-in-Err-clause-bytes : goal.returns-in-Err-clause-bytes
returns-in-Err-clause-bytes g c = (
  given_stays _ _ _ _ c.loop-given.invariant.gave c.in-Err.ensures.same,
  λ none some. absurd (c.if-given-eq0.false none),
)

pub returns-clause-bytes : goal.returns-clause-bytes
returns-clause-bytes g c = (c.loop-given.invariant.gave, λ none some. absurd (omega (arith, none, some, c.loop-given-test.false)))

pub loop-given-preserved-then-not-is_empty : goal.loop-given-preserved-then-not-is_empty
loop-given-preserved-then-not-is_empty g c =
    let r = c.loop-given.self in
    let remaining = g.R.Read.remaining in
    let buf = c.loop-given.buf in
    let at = c.loop-given.given in
    let n = c.give-given.result in
    let out = c.give-given.new.out in
    let long : length out ≡ length buf - at = omega (arith, c.give-given.auto.out, length-drop at buf) in
    let few : n ≤ length buf - at = omega (arith, c.give-given.ensures.count, length-drop at buf) in
    let same : length (put_mid at (length buf - at) buf out) ≡ length buf =
    length_put_mid buf out at (length buf - at) (omega (arith, c.loop-given.invariant.within)) long in
    record {
      within = omega (arith, same, few, c.loop-given.invariant.within);
      gave = given_more _ _ _ buf out at n c.loop-given.invariant.within long few c.loop-given.invariant.gave
          (line_given r.line (λ p s. cond r.ended [] (text_from r.header r.at p s)) c.give-given.new.self (take n out) (left_of remaining r.prefix)
          (left_of remaining r.suffix) c.give-given.ensures.bytes);
    }
