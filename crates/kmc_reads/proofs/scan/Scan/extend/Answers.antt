use Rattle.std.proofs.Common.{◌≡◌, ◌<◌, [], ◌∷◌, ◌++◌, length, refl, sym, subst, append-nil, arith}
use Rattle.std.proofs.lemmas.Bool.Decides.{nat_tests}
use Rattle.std.proofs.lemmas.Result.{on_ok_weaker}
use Rattle.kmc_reads.specs.declared.line_kind.LineKind.TheVariants.{Name}
use Rattle.kmc_reads.specs.Stages.{Spot}
use Rattle.kmc_reads.specs.Standing.{At, Goes, Leads}
use Rattle.kmc_reads.proofs.Feeding.{no_items}
use Rattle.kmc_reads.proofs.Walking.{here, open_leads, name_leads, take_whole}
use Rattle.kmc_reads.proofs.scan.Scan.extend.Goals as goal

pub returns-then-bytes-eq0-clause-goes : goal.returns-then-bytes-eq0-clause-goes
returns-then-bytes-eq0-clause-goes c = λ rows spot front at unbroken.
    let none : length c.args.bytes.now ≡ 0 = grind (arith, nat_tests) in
    subst (λ t. Goes rows spot front t c.args.self.now) (sym (no_items c.args.bytes.now none)) (here rows spot front c.args.self.now at)

pub returns-then-begins_name-clause-goes : goal.returns-then-begins_name-clause-goes
returns-then-begins_name-clause-goes c = λ rows spot front at unbroken.
    let bytes = c.args.bytes.now in
    let some : 0 < length bytes = grind (arith, nat_tests) in
    let is = c.begins_name.ensures.name rows spot front at c.if-begins_name.true in
    let next : Spot = record { number = spot.number; stage = Name; read = [] } in
    let named = c.in_ok-name.ensures.at rows spot (subst (λ t. At rows spot t c.args.self.now) is.none at) is.body in
    on_ok_weaker c.grow.result
    (λ grown. record {
      more = spot.read ∷ [];
      next = next;
      left = bytes;
      leads = subst (λ t. Leads spot t bytes (spot.read ∷ []) next bytes) (sym is.none)
          (subst (λ st. Leads (record { number = spot.number; stage = st; read = spot.read }) [] bytes (spot.read ∷ []) next bytes) (sym is.body)
          (name_leads spot.number spot.read bytes is.header unbroken));
      stands = grown;
    })
    (c.grow.ensures.at (rows ++ spot.read ∷ []) next [] named some refl)

pub returns-clause-goes : goal.returns-clause-goes
returns-clause-goes c = λ rows spot front at unbroken.
    let bytes = c.args.bytes.now in
    let some : 0 < length bytes = grind (arith, nat_tests) in
    let settled = c.begins_name.ensures.none rows spot front at c.if-begins_name.false in
    on_ok_weaker c.grow-2.result
    (λ grown. record {
      more = [];
      next = spot;
      left = front ++ bytes;
      leads = open_leads spot front bytes unbroken;
      stands = subst (λ t. At t spot (front ++ bytes) c.grow-2.new.self) (sym (append-nil rows)) grown;
    })
    (c.grow-2.ensures.at rows spot front at some settled)

pub returns-then-bytes-eq0-clause-bytes : goal.returns-then-bytes-eq0-clause-bytes
returns-then-bytes-eq0-clause-bytes c = take_whole _

pub returns-then-bytes-eq0-clause-ends : goal.returns-then-bytes-eq0-clause-ends
returns-then-bytes-eq0-clause-ends c = take_whole _
