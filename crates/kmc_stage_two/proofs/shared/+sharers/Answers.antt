use Rattle.std.proofs.Common.{◌≡◌, ◌≤◌, ◌++◌, IfOk, Vec, Global, List, [], ◌∷◌, ℕ, map, ap, sym, subst, ◌∙◌, arith}
use Rattle.std.proofs.lemmas.List.{take-append-drop}
use Rattle.std.proofs.lemmas.Result.{IfOk-from_err}
use Rattle.kmc_count.specs.Asked.{IsOfBin}
use Rattle.kmc_stage_two.specs.Shares.{AreListsOfItems}
use Rattle.kmc_stage_two.proofs.ShareDumps.{one_list}
use Rattle.kmc_stage_two.proofs.shared.+sharers.Goals as goal

-- ---- the two sides

pub back-take_shared-requires : goal.back-take_shared-requires
back-take_shared-requires g t c κs within =
    let r = c.requires in
    (omega arith, (within.0, (within.1, (assumption, r))))

pub back-returns : goal.back-returns
back-returns g t c = c.take_shared.ensures

pub fn::take_shared::back+FnOnce::call_once-back-requires : goal.fn::take_shared::back+FnOnce::call_once-back-requires
fn::take_shared::back+FnOnce::call_once-back-requires g t c κs within =
    let r = c.requires.1.1 in
    (omega arith, (within.0, (within.1, (r.1.0, (r.1.1, r.0)))))

pub front-take_shared-requires : goal.front-take_shared-requires
front-take_shared-requires g t c κs within =
    let r = c.requires in
    (omega arith, (within.0, (within.1, (assumption, r))))

pub front-returns : goal.front-returns
front-returns g t c = c.take_shared.ensures

pub fn::take_shared::front+FnOnce::call_once-front-requires : goal.fn::take_shared::front+FnOnce::call_once-front-requires
fn::take_shared::front+FnOnce::call_once-front-requires g t c κs within =
    let r = c.requires.1.1 in
    (omega arith, (within.0, (within.1, (r.1.0, (r.1.1, r.0)))))

-- ---- the whole

pub returns-in_err-items : goal.returns-in_err-items
returns-in_err-items g t c = IfOk-from_err _ _ c.from_residual.ensures.0

pub returns-in-Ok : goal.returns-in-Ok
returns-in-Ok g t c =
    let a = c.args in
    let f : Vec g.row.W.Denot Global → List ℕ = λ v. map g.W.PackedKmer.number v.items in
    let v = c.in_ok-items.items in
    let lists : c.push.new.self.items ≡ v ∷ [] = c.in-Ok.ensures.items ∙ ap (λ vs. vs ++ (v ∷ [])) c.new-lists.ensures.items in (
      subst (λ vs. AreListsOfItems a.form.rule.strands a.form.rule.k a.form.bits a.body.now (map f vs)) (sym lists)
          (one_list a.form.rule.strands a.form.rule.k a.form.bits a.body.now (f v) c.in_ok-items.ensures.sorted c.in_ok-items.ensures.ok),
      c.in_ok-items.ensures.judged,
    )

pub overflow_sub-others : goal.overflow_sub-others
overflow_sub-others g t c = omega arith

pub nonzero_div-body : goal.nonzero_div-body
nonzero_div-body g t c = omega arith

pub split_at-requires : goal.split_at-requires
split_at-requires g t c = c.record_behind-middle.ensures

pub join-first-requires-after_bounds : goal.join-first-requires-after_bounds
join-first-requires-after_bounds g t c κs within =
    let more : 2 ≤ c.args.threads = omega arith in (
      (omega arith, (λ a h. h, (λ a h. h, (assumption, (assumption, assumption))))),
      (omega arith, (λ a h. h, (λ a h. h, (assumption, (assumption, assumption))))),
    )

pub returns : goal.returns
returns g t c =
    let a = c.args in
    let s = a.form.rule.strands in
    let k = a.form.rule.k in
    let f : Vec g.row.W.Denot Global → List ℕ = λ v. map g.W.PackedKmer.number v.items in
    let low = c.split_at.result.0.now in
    let high = c.split_at.result.1.now in
    let whole : low ++ high ≡ a.body.now =
    (λ i. c.split_at.ensures.front i ++ c.split_at.ensures.back i) ∙ take-append-drop c.record_behind-middle.result a.body.now in
    subst (λ (body : List ℕ). IfOk c.both_pieces.result (λ lists. AreListsOfItems s k a.form.bits body (map f lists.items) × IsOfBin a.asked.now body)) whole
    (c.both_pieces.ensures s k a.form.bits a.asked.now low high c.join-first.ensures.first c.join-first.ensures.second)
