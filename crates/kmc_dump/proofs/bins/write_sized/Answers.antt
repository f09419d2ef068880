use Rattle.std.proofs.Common.{List, length, sym, ap, subst, ◌∙◌}
use Rattle.std.specs.List.{flat_map}
use Rattle.kmc_lists.specs.Listed.{Listed, spelled}
use Rattle.kmc_lists.specs.Lists.{lists_of}
use Rattle.kmc_lists.specs.Ordered.{CanBeMerged, whole}
use Rattle.kmc_lists.specs.declared.bin_lists.BinLists.TheVariants.{Narrow, Wide}
use Rattle.kmc_dump.specs.Written.{IsDumped}
use Rattle.kmc_dump.proofs.bins.write_sized.Goals as goal

pub write_lists-requires-clause-merge : goal.write_lists-requires-clause-merge
write_lists-requires-clause-merge g c κs within =
    let same = ap lists_of (c.in-Narrow-U8.is ∙ ap Narrow (rw c.in-Narrow-U8.is at c.in-Narrow-U8.field-0-is)) ∙ sym c.deref.ensures.value in
    subst (CanBeMerged c.args.size.k) same c.requires.merge

pub write_lists-requires-in-Narrow-U32-clause-merge : goal.write_lists-requires-in-Narrow-U32-clause-merge
write_lists-requires-in-Narrow-U32-clause-merge g c κs within =
    let same = ap lists_of (c.in-Narrow-U32.is ∙ ap Narrow (rw c.in-Narrow-U32.is at c.in-Narrow-U32.field-0-is)) ∙ sym c.deref-in-Narrow-U32.ensures.value in
    subst (CanBeMerged c.args.size.k) same c.requires.merge

pub write_lists-requires-in-Narrow-U64-clause-merge : goal.write_lists-requires-in-Narrow-U64-clause-merge
write_lists-requires-in-Narrow-U64-clause-merge g c κs within =
    let same = ap lists_of (c.in-Narrow-U64.is ∙ ap Narrow (rw c.in-Narrow-U64.is at c.in-Narrow-U64.field-0-is)) ∙ sym c.deref-in-Narrow-U64.ensures.value in
    subst (CanBeMerged c.args.size.k) same c.requires.merge

pub write_lists-requires-in-Wide-U8-clause-merge : goal.write_lists-requires-in-Wide-U8-clause-merge
write_lists-requires-in-Wide-U8-clause-merge g c κs within =
    let same = ap lists_of (c.in-Wide-U8.is ∙ ap Wide (rw c.in-Wide-U8.is at c.in-Wide-U8.field-0-is)) ∙ sym c.deref-in-Wide-U8.ensures.value in
    subst (CanBeMerged c.args.size.k) same c.requires.merge

pub write_lists-requires-in-Wide-U32-clause-merge : goal.write_lists-requires-in-Wide-U32-clause-merge
write_lists-requires-in-Wide-U32-clause-merge g c κs within =
    let same = ap lists_of (c.in-Wide-U32.is ∙ ap Wide (rw c.in-Wide-U32.is at c.in-Wide-U32.field-0-is)) ∙ sym c.deref-in-Wide-U32.ensures.value in
    subst (CanBeMerged c.args.size.k) same c.requires.merge

pub write_lists-requires-in-Wide-U64-clause-merge : goal.write_lists-requires-in-Wide-U64-clause-merge
write_lists-requires-in-Wide-U64-clause-merge g c κs within =
    let same = ap lists_of (c.in-Wide-U64.is ∙ ap Wide (rw c.in-Wide-U64.is at c.in-Wide-U64.field-0-is)) ∙ sym c.deref-in-Wide-U64.ensures.value in
    subst (CanBeMerged c.args.size.k) same c.requires.merge

pub returns-in-Narrow-U8 : goal.returns-in-Narrow-U8
returns-in-Narrow-U8 g c =
    let old = c.args.writer.now in
    let same = ap lists_of (c.in-Narrow-U8.is ∙ ap Narrow (rw c.in-Narrow-U8.is at c.in-Narrow-U8.field-0-is)) ∙ sym c.deref.ensures.value in
    subst (λ (ls : List Listed). IsDumped g.D.Write.contents (flat_map (g.F.PairForm.bytes c.args.form.now) (spelled c.args.size.k (whole ls)))
    (length (whole ls)) old c.write_lists.new.writer c.write_lists.result) (sym same) c.write_lists.ensures

pub returns-in-Narrow-U32 : goal.returns-in-Narrow-U32
returns-in-Narrow-U32 g c =
    let old = c.args.writer.now in
    let same = ap lists_of (c.in-Narrow-U32.is ∙ ap Narrow (rw c.in-Narrow-U32.is at c.in-Narrow-U32.field-0-is)) ∙ sym c.deref-in-Narrow-U32.ensures.value in
    subst (λ (ls : List Listed). IsDumped g.D.Write.contents (flat_map (g.F.PairForm.bytes c.args.form.now) (spelled c.args.size.k (whole ls)))
    (length (whole ls)) old c.write_lists-in-Narrow-U32.new.writer c.write_lists-in-Narrow-U32.result) (sym same) c.write_lists-in-Narrow-U32.ensures

pub returns-in-Narrow-U64 : goal.returns-in-Narrow-U64
returns-in-Narrow-U64 g c =
    let old = c.args.writer.now in
    let same = ap lists_of (c.in-Narrow-U64.is ∙ ap Narrow (rw c.in-Narrow-U64.is at c.in-Narrow-U64.field-0-is)) ∙ sym c.deref-in-Narrow-U64.ensures.value in
    subst (λ (ls : List Listed). IsDumped g.D.Write.contents (flat_map (g.F.PairForm.bytes c.args.form.now) (spelled c.args.size.k (whole ls)))
    (length (whole ls)) old c.write_lists-in-Narrow-U64.new.writer c.write_lists-in-Narrow-U64.result) (sym same) c.write_lists-in-Narrow-U64.ensures

pub returns-in-Wide-U8 : goal.returns-in-Wide-U8
returns-in-Wide-U8 g c =
    let old = c.args.writer.now in
    let same = ap lists_of (c.in-Wide-U8.is ∙ ap Wide (rw c.in-Wide-U8.is at c.in-Wide-U8.field-0-is)) ∙ sym c.deref-in-Wide-U8.ensures.value in
    subst (λ (ls : List Listed). IsDumped g.D.Write.contents (flat_map (g.F.PairForm.bytes c.args.form.now) (spelled c.args.size.k (whole ls)))
    (length (whole ls)) old c.write_lists-in-Wide-U8.new.writer c.write_lists-in-Wide-U8.result) (sym same) c.write_lists-in-Wide-U8.ensures

pub returns-in-Wide-U32 : goal.returns-in-Wide-U32
returns-in-Wide-U32 g c =
    let old = c.args.writer.now in
    let same = ap lists_of (c.in-Wide-U32.is ∙ ap Wide (rw c.in-Wide-U32.is at c.in-Wide-U32.field-0-is)) ∙ sym c.deref-in-Wide-U32.ensures.value in
    subst (λ (ls : List Listed). IsDumped g.D.Write.contents (flat_map (g.F.PairForm.bytes c.args.form.now) (spelled c.args.size.k (whole ls)))
    (length (whole ls)) old c.write_lists-in-Wide-U32.new.writer c.write_lists-in-Wide-U32.result) (sym same) c.write_lists-in-Wide-U32.ensures

pub returns-in-Wide-U64 : goal.returns-in-Wide-U64
returns-in-Wide-U64 g c =
    let old = c.args.writer.now in
    let same = ap lists_of (c.in-Wide-U64.is ∙ ap Wide (rw c.in-Wide-U64.is at c.in-Wide-U64.field-0-is)) ∙ sym c.deref-in-Wide-U64.ensures.value in
    subst (λ (ls : List Listed). IsDumped g.D.Write.contents (flat_map (g.F.PairForm.bytes c.args.form.now) (spelled c.args.size.k (whole ls)))
    (length (whole ls)) old c.write_lists-in-Wide-U64.new.writer c.write_lists-in-Wide-U64.result) (sym same) c.write_lists-in-Wide-U64.ensures
