use Rattle.std.proofs.Common.{◌≡◌, ℕ, ◌+◌, ◌<◌, List, [], ◌∷◌, ◌++◌, length, get_or, take, drop, sym, ap, subst, ◌∙◌, take_all, Vec, Global, inr, arith}
use Rattle.std.specs.Prelude.{Ok, IsErrOf, is_ok, not, true, if◌then◌else◌}
use Rattle.std.proofs.lemmas.List.{drop_more, get_or-map, length-map, take-append-drop, take_more}
use Rattle.std.proofs.lemmas.List.Elements.{All-nil}
use Rattle.std.proofs.lemmas.Result.{IfOk-from_err}
use borrow.Author.Count.{falls}
use Rattle.kmc_base.specs.declared.strands.Strands.{Strands}
use Rattle.kmc_record.specs.Faults.{IsFirstFault}
use Rattle.kmc_record.specs.declared.fault.RecordFault.{RecordFault}
use Rattle.kmc_record.specs.declared.fault.BodyError.TheVariants.{Damaged}
use Rattle.kmc_count.specs.declared.limits.Limits.{Limits}
use Rattle.kmc_count.specs.Asked.{asked_behind, IsOfBin}
use Rattle.kmc_count.specs.Bodies.{IsDumpOfBody, IsFirstDamaged, WantsMemory}
use Rattle.kmc_count.specs.Lemmas.PassedOn.{passed_on}
use Rattle.kmc_lists.specs.Listed.{Listed, pairs_of, IsListOf}
use Rattle.kmc_stage_two.specs.Bodies.{AreListsOfBodies, BodiesWantMemory}
use Rattle.kmc_stage_two.specs.Lemmas.ManyBodies.{texts}
use Rattle.kmc_stage_two.specs.Lemmas.Judged.{asks_behind, next_of_bin}
use Rattle.kmc_stage_two.specs.Lemmas.ListedBodies.{one_listed, next_damaged, next_wants}
use Rattle.kmc_stage_two.proofs.row.list_row.Goals as goal

-- the body at i, of these bytes, behind those that are listed
module _ (strands : Strands) (k : ℕ) (l : Limits) (xs : List (Vec ℕ Global)) (i : ℕ) (b : Vec ℕ Global) (body : List ℕ) (lists : List Listed) where
  abbrev AreOf : List (Vec ℕ Global) → List Listed → Type 0
  AreOf vs more = AreListsOfBodies strands k l (texts vs) more

  next_listed : (list : Listed) (more : List Listed) → i < length xs → b ≡ get_or xs i b → body ≡ b.items → AreOf (take i xs) lists
      → more ≡ lists ++ list ∷ [] → IsListOf k list → IsDumpOfBody strands k l body (pairs_of list) → AreOf (take (i + 1) xs) more
  next_listed list more inside is bytes are pushed of dump =
      let longer : take (i + 1) xs ≡ take i xs ++ b ∷ [] = take_more xs i b inside
      ∙ ap (λ (v : Vec ℕ Global). take i xs ++ v ∷ []) (sym is) in
      subst (AreOf (take (i + 1) xs)) (sym pushed) (subst (λ (t : List (Vec ℕ Global)). AreOf t (lists ++ list ∷ [])) (sym longer)
      (one_listed strands k l (take i xs) b body lists list are bytes of dump))

  damaged_here : (fault : RecordFault) (offset : ℕ) → i < length xs → b ≡ get_or xs i b → body ≡ b.items → AreOf (take i xs) lists
      → IsFirstFault k fault offset body → IsFirstDamaged k fault offset (texts xs)
  damaged_here fault offset inside is bytes are first =
      let split : xs ≡ take i xs ++ b ∷ drop (i + 1) xs = sym (take-append-drop i xs)
      ∙ ap (λ (t : List (Vec ℕ Global)). take i xs ++ t) (drop_more xs i b inside
      ∙ ap (λ (v : Vec ℕ Global). v ∷ drop (i + 1) xs) (sym is)) in
      next_damaged strands k l xs (take i xs) (drop (i + 1) xs) b body lists fault offset split bytes are first

  wants_here : i < length xs → b ≡ get_or xs i b → body ≡ b.items → AreOf (take i xs) lists → WantsMemory k body → BodiesWantMemory k (texts xs)
  wants_here inside is bytes are wants =
      let split : xs ≡ take i xs ++ b ∷ drop (i + 1) xs = sym (take-append-drop i xs)
      ∙ ap (λ (t : List (Vec ℕ Global)). take i xs ++ t) (drop_more xs i b inside
      ∙ ap (λ (v : Vec ℕ Global). v ∷ drop (i + 1) xs) (sym is)) in
      next_wants strands k l xs (take i xs) (drop (i + 1) xs) b body lists split bytes are wants

-- a list is no damage
ok_undamaged : {T : Type 0} (v : T) (fault : RecordFault) (offset : ℕ) → IsErrOf (Ok v) (Damaged fault offset) → ⊥
ok_undamaged v fault offset is = cc

pub loop-place-init : goal.loop-place-init
loop-place-init g c = (
  subst (AreListsOfBodies c.args.counting.now.rule.strands c.args.counting.now.rule.k c.args.counting.now.limits []) (sym c.new-lists.ensures.items)
      record { each = All-nil (IsListOf c.args.counting.now.rule.k); dumps = tt },
  λ i less. absurd (omega (arith, less)),
)

pub list_body-requires-clause-most : goal.list_body-requires-clause-most
list_body-requires-clause-most g c = c.requires.most

pub list_body-requires-clause-wide : goal.list_body-requires-clause-wide
list_body-requires-clause-wide g c = c.requires.wide

pub returns-in_err-list-clause-ok : goal.returns-in_err-list-clause-ok
returns-in_err-list-clause-ok g c = IfOk-from_err _ _ c.from_residual.ensures.0

pub returns-in_err-list-clause-damaged : goal.returns-in_err-list-clause-damaged
returns-in_err-list-clause-damaged g c = λ fault offset h.
    damaged_here c.args.counting.now.rule.strands c.args.counting.now.rule.k c.args.counting.now.limits c.args.bodies.now c.loop-place.place c.index-bodies-place.result c.deref.result.now
    c.loop-place.lists.items fault offset c.loop-place-test.true c.index-bodies-place.is c.deref.ensures.value c.loop-place.invariant.0
    (c.list_body.ensures.damaged fault offset (passed_on c.list_body.result c.from_residual.result _ _ c.in_err-list.was c.from_residual.ensures.1 h))

pub loop-place-smaller : goal.loop-place-smaller
loop-place-smaller g c = falls (length c.args.bodies.now) c.loop-place.place c.loop-place-test.true

pub loop-place-preserved : goal.loop-place-preserved
loop-place-preserved g c =
    let olds = c.loop-place.lists.items in
    let news = olds ++ c.in_ok-list.list ∷ [] in
    let ok : is_ok c.push.result ≡ true = c.is_err.ensures.negation ∙ ap not c.if-is_err.false in
    let pushed : c.push.new.self.items ≡ news = c.push.ensures.items ∙ ap (λ b. if b then news else olds) ok in
    let here : c.deref.result.now ≡ get_or (texts c.args.bodies.now) c.loop-place.place [] =
    c.deref.ensures.value ∙ ap (λ (v : Vec ℕ Global). v.items) c.index-bodies-place.is
    ∙ sym (get_or-map (λ (v : Vec ℕ Global). v.items) c.args.bodies.now c.loop-place.place c.index-bodies-place.result [] c.loop-place-test.true) in (
      next_listed c.args.counting.now.rule.strands c.args.counting.now.rule.k c.args.counting.now.limits c.args.bodies.now c.loop-place.place c.index-bodies-place.result c.deref.result.now
          olds c.in_ok-list.list c.push.new.self.items c.loop-place-test.true c.index-bodies-place.is c.deref.ensures.value c.loop-place.invariant.0 pushed
          c.in_ok-list.ensures.list c.in_ok-list.ensures.ok,
      next_of_bin c.loop-place.place c.args.counting.now.asked (texts c.args.bodies.now) c.loop-place.invariant.1
          (subst (IsOfBin (asked_behind c.loop-place.place c.args.counting.now.asked)) here c.in_ok-list.ensures.judged),
    )

pub returns-then-is_err-clause-memory : goal.returns-then-is_err-clause-memory
returns-then-is_err-clause-memory g c = λ _.
    let dump = c.in_ok-list.ensures.ok in
    wants_here c.args.counting.now.rule.strands c.args.counting.now.rule.k c.args.counting.now.limits c.args.bodies.now c.loop-place.place c.index-bodies-place.result c.deref.result.now
    c.loop-place.lists.items c.loop-place-test.true c.index-bodies-place.is c.deref.ensures.value c.loop-place.invariant.0 (inr (dump.super_kmers, dump.records))

pub returns-in_err-list-clause-memory : goal.returns-in_err-list-clause-memory
returns-in_err-list-clause-memory g c = λ h.
    wants_here c.args.counting.now.rule.strands c.args.counting.now.rule.k c.args.counting.now.limits c.args.bodies.now c.loop-place.place c.index-bodies-place.result c.deref.result.now
    c.loop-place.lists.items c.loop-place-test.true c.index-bodies-place.is c.deref.ensures.value c.loop-place.invariant.0
    (c.list_body.ensures.memory (passed_on c.list_body.result c.from_residual.result _ _ c.in_err-list.was c.from_residual.ensures.1 h))

pub returns-in_err-list-clause-wrong : goal.returns-in_err-list-clause-wrong
returns-in_err-list-clause-wrong g c = λ h same of.
    let a = c.args in
    let place = c.loop-place.place in
    let here : c.deref.result.now ≡ get_or (texts a.bodies.now) place [] =
    c.deref.ensures.value ∙ ap (λ (v : Vec ℕ Global). v.items) c.index-bodies-place.is
    ∙ sym (get_or-map (λ (v : Vec ℕ Global). v.items) a.bodies.now place c.index-bodies-place.result [] c.loop-place-test.true) in
    c.list_body.ensures.wrong (passed_on c.list_body.result c.from_residual.result _ _ c.in_err-list.was c.from_residual.ensures.1 h)
    (asks_behind a.counting.now.rule.k place a.counting.now.asked same)
    (subst (IsOfBin (asked_behind place a.counting.now.asked)) (sym here)
    (of place (omega (arith, c.loop-place-test.true, length-map a.bodies.now (λ (v : Vec ℕ Global). v.items)))))

pub returns-clause-ok : goal.returns-clause-ok
returns-clause-ok g c =
    subst (λ (t : List (Vec ℕ Global)). AreListsOfBodies c.args.counting.now.rule.strands c.args.counting.now.rule.k c.args.counting.now.limits (texts t) c.loop-place.lists.items)
    (take_all c.loop-place.place c.args.bodies.now c.loop-place-test.false) c.loop-place.invariant.0

pub returns-clause-damaged : goal.returns-clause-damaged
returns-clause-damaged g c = λ fault offset h. absurd (ok_undamaged c.loop-place.lists fault offset h)

pub returns-clause-judged : goal.returns-clause-judged
returns-clause-judged g c = λ i inside.
    c.loop-place.invariant.1 i (omega (arith, inside, length-map c.args.bodies.now (λ (v : Vec ℕ Global). v.items), c.loop-place-test.false))
