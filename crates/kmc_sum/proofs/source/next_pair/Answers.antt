use Rattle.std.proofs.Common.{◌≡◌, ℕ, List, [], ◌∷◌, ◌++◌, sym, subst, arith}
use Rattle.kmc_base.specs.Packed.{unpack}
use Rattle.kmc_sum.specs.Lemmas.Gave.{other_length, not_rising, goes_up, malformed_next}
use Rattle.kmc_sum.specs.declared.error.LineFault.{LineFault}
use Rattle.kmc_sum.specs.declared.error.LineFault.TheVariants.{OtherLength, NotRising}
use Rattle.kmc_sum.specs.Faults.{GaveFront, IsFaultAt, line_after}
use Rattle.kmc_sum.proofs.source.next_pair.Goals as goal

pub returns-then-line-k-clause-fault : goal.returns-then-line-k-clause-fault
returns-then-line-k-clause-fault g c = λ line f is.
    let o = rw c.in-Ok-Some.field-0-is at c.in-Ok-Some.ensures.ok in
    let number : c.next_line.new.room.lines ≡ line = cc is in
    let e : OtherLength ≡ f = cc is in (
      omega (arith, number, o.2.2),
      λ start pairs ends gave.
          subst (λ (t : LineFault). IsFaultAt c.args.k start (g.R.Read.remaining c.next_line.new.reader.inner) (line_after pairs) t) e
          (other_length c.args.k c.args.last start _ _ pairs _ o.0 c.in-Ok-Some.line ends gave o.1 o.2.0 c.if-line-k.true),
    )

pub returns-then-line-last-clause-fault : goal.returns-then-line-last-clause-fault
returns-then-line-last-clause-fault g c = λ line f is.
    let o = rw c.in-Ok-Some.field-0-is at c.in-Ok-Some.ensures.ok in
    let number : c.next_line.new.room.lines ≡ line = cc is in
    let e : NotRising ≡ f = cc is in (
      omega (arith, number, o.2.2),
      λ start pairs ends gave.
          subst (λ (t : LineFault). IsFaultAt c.args.k start (g.R.Read.remaining c.next_line.new.reader.inner) (line_after pairs) t) e
          (not_rising c.args.k c.args.last start _ _ pairs _ o.0 c.in-Ok-Some.line ends gave o.1 o.2.0 c.if-line-k.false c.if-line-last.true),
    )

pub returns-else-line-last-clause-ok : goal.returns-else-line-last-clause-ok
returns-else-line-last-clause-ok g c = λ start pairs ends gave.
    let o = rw c.in-Ok-Some.field-0-is at c.in-Ok-Some.ensures.ok in
    subst (λ (t : List ℕ). GaveFront c.args.k start (g.R.Read.remaining c.next_line.new.reader.inner)
    (pairs ++ (unpack c.args.k c.in-Ok-Some.line.packed, c.in-Ok-Some.line.count) ∷ []) t) (sym o.2.1)
    (goes_up c.args.k c.args.last start _ _ pairs _ o.0 c.in-Ok-Some.line ends gave o.1 o.2.0 c.if-line-k.false c.if-line-last.false)

pub returns-in-Err-clause-fault : goal.returns-in-Err-clause-fault
returns-in-Err-clause-fault g c = λ line f is.
    let h = c.in-Err.ensures.malformed line f is in (
      h.0,
      λ start pairs ends gave.
          subst (λ (t : LineFault). IsFaultAt c.args.k start (g.R.Read.remaining c.next_line.new.reader.inner) (line_after pairs) t) (sym h.1)
          (malformed_next c.args.k start _ _ pairs _ h.2 gave h.3 h.4 h.5 h.6),
    )
