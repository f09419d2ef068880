use Rattle.std.proofs.Common.{◌≡◌, Err, inl, inr, drop, refl, sym, ap, subst, arith}
use Rattle.kmc_base.specs.Lemmas.Powers.{pow_some}
use Rattle.kmc_base.specs.Packed.{unpack}
use Rattle.kmc_sum.specs.Faults.{IsFaultAt}
use Rattle.kmc_sum.specs.declared.error.LineFault.{LineFault}
use Rattle.kmc_sum.specs.declared.error.LineFault.TheVariants.{OtherLength, Malformed}
use Rattle.kmc_sum.proofs.Openings.{gave_first, other_first, first_live, malformed_first, first_ended}
use Rattle.kmc_sum.specs.Lemmas.Beginnings.{gave_none}
use Rattle.kmc_sum.proofs.opening.first_head.Goals as goal

pub returns-then-line-k-clause-fault : goal.returns-then-line-k-clause-fault
returns-then-line-k-clause-fault g c = λ line fault is.
    let o = rw c.in-Ok-Some.field-0-is at c.in-Ok-Some.ensures.ok in
    let a : c.next_line.new.room.lines ≡ line = cc is in
    let b : 1 ≡ line = omega (arith, a, o.2.2, c.requires.fresh.lines) in
    let d : OtherLength ≡ fault = cc is in (
      c.args.k,
      (omega (arith, c.if-k-ne0.true), c.requires.most),
      subst (λ (f : LineFault). IsFaultAt c.args.k (g.R.Read.remaining c.args.reader.now.inner) (g.R.Read.remaining c.next_line.new.reader.inner)
          line f) d
          (subst (λ n. IsFaultAt c.args.k (g.R.Read.remaining c.args.reader.now.inner) (g.R.Read.remaining c.next_line.new.reader.inner) n
          OtherLength) b
          (other_first _ _ _ o.0 c.requires.fresh.none o.1 c.in-Ok-Some.line o.2.0 c.args.k c.if-line-k.true)),
      λ _. refl,
    )

pub returns-then-line-k-clause-lost : goal.returns-then-line-k-clause-lost
returns-then-line-k-clause-lost g c = λ m. let o = rw c.in-Ok-Some.field-0-is at c.in-Ok-Some.ensures.ok in
    (o.0, gave_none m _ _ _ o.0 c.requires.fresh.none o.1)

pub returns-else-k-ne0-clause-ok : goal.returns-else-k-ne0-clause-ok
returns-else-k-ne0-clause-ok g c = λ m agrees.
    let o = rw c.in-Ok-Some.field-0-is at c.in-Ok-Some.ensures.ok in
    first_live _ _ _ o.0 c.requires.fresh.none o.1 c.in-Ok-Some.line o.2.0 m c.next_line.new.room c.args.source agrees o.2.1
    (omega (arith, o.2.2, c.requires.fresh.lines))

pub returns-in-Ok-None-clause-fits : goal.returns-in-Ok-None-clause-fits
returns-in-Ok-None-clause-fits g c = λ m _. pow_some m

pub returns-in-Ok-None-clause-ok : goal.returns-in-Ok-None-clause-ok
returns-in-Ok-None-clause-ok g c = λ m _.
    let o = rw c.in-Ok-None.field-0-is at c.in-Ok-None.ensures.ok in
    first_ended _ _ _ o.0 c.requires.fresh.none o.1 m c.next_line.new.room c.args.source o.2.0 o.2.1 (omega (arith, o.2.2, c.requires.fresh.lines))
    o.2.3

pub returns-in-Err-clause-lost : goal.returns-in-Err-clause-lost
returns-in-Err-clause-lost g c = λ m. let lost = c.in-Err.ensures.lost in (lost.0, gave_none m _ _ _ lost.0 c.requires.fresh.none lost.1)

pub returns-in-Err-clause-fault : goal.returns-in-Err-clause-fault
returns-in-Err-clause-fault g c = λ line fault is.
    let h = c.in-Err.ensures.malformed line fault (ap Err is) in
    let b : 1 ≡ line = omega (arith, h.0, c.requires.fresh.lines) in (
      1,
      (omega arith, omega arith),
      subst (λ (f : LineFault). IsFaultAt 1 (g.R.Read.remaining c.args.reader.now.inner) (g.R.Read.remaining c.next_line.new.reader.inner) line f)
          (sym h.1)
          (subst (λ n. IsFaultAt 1 (g.R.Read.remaining c.args.reader.now.inner) (g.R.Read.remaining c.next_line.new.reader.inner) n Malformed) b
          (malformed_first _ _ _ h.2 c.requires.fresh.none h.3 1 h.4 h.5 h.6)),
      λ other. absurd (cc (h.1, other)),
    )

pub returns-in-Err-clause-read : goal.returns-in-Err-clause-read
returns-in-Err-clause-read g c = λ is. c.in-Err.ensures.read (ap Err is)

pub returns-else-k-ne0-clause-begins : goal.returns-else-k-ne0-clause-begins
returns-else-k-ne0-clause-begins g c =
    let o = rw c.in-Ok-Some.field-0-is at c.in-Ok-Some.ensures.ok in
    let l = c.in-Ok-Some.line in
    inr (record {
      pair = (unpack l.k l.packed, l.count);
      rest = drop l.end o.0;
      gave = gave_first _ _ _ o.0 c.requires.fresh.none o.1 l o.2.0 l.k
          refl;
    })

pub returns-in-Ok-None-clause-begins : goal.returns-in-Ok-None-clause-begins
returns-in-Ok-None-clause-begins g c = inl refl
