use Rattle.std.proofs.Common.{◌++◌, [], ◌∷◌, refl, subst}
use Rattle.kmc_reads.specs.Standing.{Goes, HasFault}
use Rattle.kmc_reads.proofs.PassedOn.{passed_on}
use Rattle.kmc_reads.proofs.Walking.{here, then_goes, then_faults, faults_on, over_split, take_front, take_whole}
use Rattle.kmc_reads.proofs.scan.Scan.go.Goals as goal

pub loop-line-init : goal.loop-line-init
loop-line-init c = record {
  goes = λ rows spot front at. record { over = []; whole = refl; goes = here rows spot front c.args.self.now at };
  bytes = take_whole c.args.self.now.bytes.items;
  ends = take_whole c.args.self.now.ends.items;
}

pub loop-line-preserved : goal.loop-line-preserved
loop-line-preserved c =
    let u = c.loop-line.invariant in let cut = c.in-Some.ensures in let line = c.in-Some.line.now in let after = c.in-Some.after.now in
    let new = c.line.new.self in
    record {
      goes = λ rows spot front at.
          let w = u.goes rows spot front at in let g = w.goes in
          record {
            over = w.over ++ (line ++ 10 ∷ []);
            whole = over_split w.over line after _ _ cut w.whole;
            goes = then_goes rows spot front w.over (line ++ 10 ∷ []) c.loop-line.self new g
                (c.in_ok-line.ensures.goes (rows ++ g.more) g.next g.left g.stands cut.unbroken);
          };
      bytes = take_front c.args.self.now.bytes.items c.loop-line.self.bytes.items new.bytes.items u.bytes c.in_ok-line.ensures.bytes;
      ends = take_front c.args.self.now.ends.items c.loop-line.self.ends.items new.ends.items u.ends c.in_ok-line.ensures.ends;
    }

pub returns-in_err-line-clause-fault : goal.returns-in_err-line-clause-fault
returns-in_err-line-clause-fault c = λ rows spot front at.
    let u = c.loop-line.invariant in let w = u.goes rows spot front at in let g = w.goes in
    let line = c.in-Some.line.now in let after = c.in-Some.after.now in
    passed_on c.line.result c.from_residual.result _ _ _ c.in_err-line.was
    (c.line.ensures.fault (rows ++ g.more) g.next g.left g.stands c.in-Some.ensures.unbroken) c.from_residual.ensures.1
    λ e found other.
    subst (λ t. HasFault spot front t e) (over_split w.over line after _ _ c.in-Some.ensures w.whole)
    (faults_on spot front (w.over ++ (line ++ 10 ∷ [])) after e
    (then_faults spot g.next front g.left w.over (line ++ 10 ∷ []) g.more e g.leads (found other)))

pub returns-clause-goes : goal.returns-clause-goes
returns-clause-goes c = λ rows spot front at.
    let u = c.loop-line.invariant in let w = u.goes rows spot front at in let g = w.goes in
    let h = c.in_ok-extend.ensures.goes (rows ++ g.more) g.next g.left g.stands c.in_default.ensures in
    subst (λ t. Goes rows spot front t c.extend.new.self) w.whole (then_goes rows spot front w.over _ c.loop-line.self c.extend.new.self g h)

pub returns-in_err-line-clause-bytes : goal.returns-in_err-line-clause-bytes
returns-in_err-line-clause-bytes c = take_front _ _ _ c.loop-line.invariant.bytes c.line.ensures.bytes

pub returns-in_err-line-clause-ends : goal.returns-in_err-line-clause-ends
returns-in_err-line-clause-ends c = take_front _ _ _ c.loop-line.invariant.ends c.line.ensures.ends

pub returns-in_err-extend-clause-bytes : goal.returns-in_err-extend-clause-bytes
returns-in_err-extend-clause-bytes c = take_front _ _ _ c.loop-line.invariant.bytes c.extend.ensures.bytes

pub returns-in_err-extend-clause-ends : goal.returns-in_err-extend-clause-ends
returns-in_err-extend-clause-ends c = take_front _ _ _ c.loop-line.invariant.ends c.extend.ensures.ends

pub returns-clause-bytes : goal.returns-clause-bytes
returns-clause-bytes c = take_front _ _ _ c.loop-line.invariant.bytes c.extend.ensures.bytes

pub returns-clause-ends : goal.returns-clause-ends
returns-clause-ends c = take_front _ _ _ c.loop-line.invariant.ends c.extend.ensures.ends
