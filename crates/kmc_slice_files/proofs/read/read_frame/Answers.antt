use Rattle.std.proofs.Common.{◌≡◌, ◌<◌, ◌^◌, ◌++◌, List, ℕ, [], length, map, set, sym, ap, subst, ◌∙◌, arith}
use Rattle.std.specs.declared.vec.Vec.{Vec}
use Rattle.std.specs.declared.alloc.Global.{Global}
use Rattle.std.specs.Io.KnownBytes.{Consumes}
use Rattle.std.proofs.KnownBytes.{Consumes-trans}
use Rattle.std.proofs.lemmas.List.{map-set, get_or-map}
use Rattle.kmc_device.specs.Lemmas.Devices.{on_err}
use Rattle.kmc_slice_files.specs.Frames.{check_of, frame}
use Rattle.kmc_slice_files.proofs.Taking.{neither_begins, damaged_begins, is_frame, frame_is, came_behind}
use Rattle.kmc_slice_files.proofs.Faults.{on_error, head_fault, body_fault, held_front, held_body}
use Rattle.kmc_slice_files.proofs.read.read_frame.Goals as goal

pub returns-in_err-head-clause-fault : goal.returns-in_err-head-clause-fault
returns-in_err-head-clause-fault g c =
    on_error c.from_residual.result _ c.in_err-head.field-0.0 c.from_residual.ensures.1 (head_fault _ _ _ _ _ _ c.in_err-head.field-0.0
    c.in_err-head.ensures.fault)

pub returns-in_err-read_body-in-Body-clause-fault : goal.returns-in_err-read_body-in-Body-clause-fault
returns-in_err-read_body-in-Body-clause-fault g c =
    on_error c.from_residual-in_err-read_body-in-Body.result _ c.in_err-read_body-in-Body.field-0.0 c.from_residual-in_err-read_body-in-Body.ensures.1
    (body_fault c.in_ok-head.head _ _ _ (length c.args.bodies.now) c.args.slices c.args.slice c.args.frames c.in-Body.bin c.in_ok-head.ensures.ok
    c.requires.few (omega (arith, c.ranges.frames)) c.in-Body.ensures
    c.in_err-read_body-in-Body.field-0.0 c.in_err-read_body-in-Body.ensures.fault)

pub returns-in_err-read_body-in-Body-clause-held : goal.returns-in_err-read_body-in-Body-clause-held
returns-in_err-read_body-in-Body-clause-held g c =
    on_err c.from_residual-in_err-read_body-in-Body.result _
    (held_front c.args.bodies.now c.in-Body.bin c.read_body.new.out c.index-bodies-bin-in-Body.result _ c.in_ok-head.head _ _ _
    c.in-Body.ensures.within c.in_ok-head.ensures.ok
    c.in_err-read_body-in-Body.ensures.held)

pub returns-in-Neither-clause-fault : goal.returns-in-Neither-clause-fault
returns-in-Neither-clause-fault g c =
    let took = c.in_ok-head.ensures.ok in
    record {
      bytes = took.bytes;
      gave = took.gave;
      none = neither_begins c.in_ok-head.head took.bytes took.is (length c.args.bodies.now) c.args.slices c.args.slice c.args.frames c.requires.few
          (omega (arith, c.ranges.frames)) c.in-Neither.ensures.0 c.in-Neither.ensures.1;
    }

pub returns-then-frame_check-head-clause-ok : goal.returns-then-frame_check-head-clause-ok
returns-then-frame_check-head-clause-ok g c =
    let took = c.in_ok-head.ensures.ok in
    let came = c.in_ok-read_body-in-Body.ensures.ok in
    let tail = came_behind c.args.bodies.now c.in-Body.bin c.read_body.new.out c.index-bodies-bin.result c.index-bodies-bin-in-Body.result
    c.index-bodies-bin-in-Body-2.result c.deref.result.now came.0 c.len-from.result c.in-Body.ensures.within c.len-from.ensures c.deref.ensures.value
    came.2 in
    let checked : check_of c.in_ok-head.head.bin came.0 ≡ c.in_ok-head.head.check = ap (check_of c.in_ok-head.head.bin) (sym tail)
    ∙ sym c.frame_check.ensures ∙ c.if-frame_check-head.true in
    let says = c.in-Body.ensures in
    let fits : c.args.frames < 2 ^ 64 = omega (arith, c.ranges.frames) in
    record {
      f = frame c.in-Body.bin came.0;
      is = is_frame c.in_ok-head.head took.bytes took.is (length c.args.bodies.now) c.args.slices c.args.slice c.args.frames c.requires.few fits
          c.in-Body.bin says came.0 came.1;
      size = came.1;
      gave = subst (Consumes (g.R.Read.remaining c.args.reader.now.inner) (g.R.Read.remaining c.read_body.new.reader.inner))
          (frame_is c.in_ok-head.head took.bytes took.is (length c.args.bodies.now) c.args.slices c.args.slice c.args.frames c.requires.few fits
          c.in-Body.bin says came.0 came.1 checked)
          (Consumes-trans _ _ _ took.bytes came.0 took.gave came.3);
      bodies_after =
          map-set (λ (v : Vec ℕ Global). v.items) c.args.bodies.now c.in-Body.bin c.read_body.new.out
          ∙ ap (set (map (λ (v : Vec ℕ Global). v.items) c.args.bodies.now) c.in-Body.bin)
          (came.2 ∙ ap (λ (l : List ℕ). l ++ came.0)
          (sym (get_or-map (λ (v : Vec ℕ Global). v.items) c.args.bodies.now c.in-Body.bin _ [] says.within)));
    }

pub returns-else-frame_check-head-clause-fault : goal.returns-else-frame_check-head-clause-fault
returns-else-frame_check-head-clause-fault g c =
    let came = c.in_ok-read_body-in-Body.ensures.ok in
    let tail = came_behind c.args.bodies.now c.in-Body.bin c.read_body.new.out c.index-bodies-bin.result c.index-bodies-bin-in-Body.result
    c.index-bodies-bin-in-Body-2.result c.deref.result.now came.0 c.len-from.result c.in-Body.ensures.within c.len-from.ensures c.deref.ensures.value
    came.2 in
    let took = c.in_ok-head.ensures.ok in
    record {
      bytes = took.bytes ++ came.0;
      gave = Consumes-trans _ _ _ took.bytes came.0 took.gave came.3;
      none = damaged_begins c.in_ok-head.head took.bytes took.is (length c.args.bodies.now) c.args.slices c.args.slice c.args.frames c.requires.few
          (omega (arith, c.ranges.frames)) c.in-Body.bin c.in-Body.ensures came.0 came.1 (λ e. c.if-frame_check-head.false
          (c.frame_check.ensures ∙ ap (check_of c.in_ok-head.head.bin) tail ∙ e));
    }

pub returns-else-frame_check-head-clause-held : goal.returns-else-frame_check-head-clause-held
returns-else-frame_check-head-clause-held g c =
    let came = c.in_ok-read_body-in-Body.ensures.ok in
    held_body c.args.bodies.now c.in-Body.bin c.read_body.new.out c.index-bodies-bin-in-Body.result _ c.in_ok-head.head came.0 _ _ _
    c.in-Body.ensures.within c.in_ok-head.ensures.ok came.2 came.3
