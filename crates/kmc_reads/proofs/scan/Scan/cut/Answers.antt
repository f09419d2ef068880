use Rattle.std.proofs.Common.{rules, ◌≡◌, ◌∷◌, [], ◌++◌, Vec, Global, ℕ, List, length, take, drop, ◌-◌, sym, ap, subst, ◌∙◌, length-drop, arith}
use Rattle.std.specs.Io.BufRead.{strip_last}
use Rattle.kmc_reads.specs.Rows.{rows_from, AreEnds}
use Rattle.kmc_reads.specs.Standing.{kept}
use Rattle.kmc_reads.proofs.HandedOut.{few_open}
use Rattle.kmc_reads.proofs.Handing.{hands, rising, last_of}
use Rattle.kmc_reads.proofs.scan.Scan.cut.Goals as goal

abbrev items : Vec ℕ Global → List ℕ
items v = v.items

pub of_rows-requires : goal.of_rows-requires
of_rows-requires c =
    let w = c.requires.somewhere in let k = w.stands.keeps in
    let old = c.args.self.now in
    let counted : c.len-2.result ≡ length old.bytes.items = search rules in
    let bytes : c.replace-bytes.result.items ≡ old.bytes.items = ap items c.replace-bytes.ensures.value in
    let ends : c.replace-ends.result.items ≡ old.ends.items ++ length old.bytes.items ∷ [] = ap items c.replace-ends.ensures.value
    ∙ c.in_ok-push.ensures.items ∙ ap (λ n. old.ends.items ++ n ∷ []) counted in
    subst (λ t. AreEnds 0 t (length c.replace-bytes.result.items)) (sym ends)
    (subst (λ t. AreEnds 0 (old.ends.items ++ length old.bytes.items ∷ []) (length t)) (sym bytes)
    (rising w.rows (w.spot.read ++ kept w.spot.stage (strip_last 13 w.front)) old.ends.items old.bytes.items k.ends k.bytes))

pub returns-clause-taken : goal.returns-clause-taken
returns-clause-taken c = λ rows spot front at.
    let old = c.args.self.now in
    let counted : c.len-2.result ≡ length old.bytes.items = search rules in
    let bytes : c.replace-bytes.result.items ≡ old.bytes.items = ap items c.replace-bytes.ensures.value in
    let ends : c.replace-ends.result.items ≡ old.ends.items ++ length old.bytes.items ∷ [] = ap items c.replace-ends.ensures.value
    ∙ c.in_ok-push.ensures.items ∙ ap (λ n. old.ends.items ++ n ∷ []) counted in
    let first : c.len.result ≡ length old.bytes.items = search rules in
    let rest = c.emptied-self.ensures.rest in
    hands c.args.overlap rows spot front old _ c.of_rows.result
    (record {
      held = c.requires.held;
      room = c.requires.open;
      bytes = ap items c.replace-bytes.ensures.after ∙ c.with_room-next.ensures ∙ c.in_ok-extend_from_slice.ensures.items
          ∙ ap (λ (room : List ℕ). room ++ take (length c.deref.result.now - (c.len.result - c.args.overlap))
          (drop (c.len.result - c.args.overlap) c.deref.result.now)) c.into_rooms-kept.ensures.0
          ∙ last_of c.deref.result.now old.bytes.items c.len.result c.args.overlap c.deref.ensures.value first;
      ends = ap items c.replace-ends.ensures.after ∙ c.into_rooms-kept.ensures.1;
      between = c.emptied-self.ensures.between;
      inside = c.emptied-self.ensures.inside;
      number = rest.0;
      length_is = rest.1;
      held_is = rest.2;
      start = rest.3;
      reads_are = c.of_rows.ensures ∙ (λ i. rows_from 0 (ends i) (bytes i));
    })
    c.requires.stage at

pub returns-clause-handed : goal.returns-clause-handed
returns-clause-handed c =
    let old = c.args.self.now in
    let first : c.len.result ≡ length old.bytes.items = search rules in
    let bytes = ap items c.replace-bytes.ensures.after ∙ c.with_room-next.ensures ∙ c.in_ok-extend_from_slice.ensures.items
    ∙ ap (λ (room : List ℕ). room ++ take (length c.deref.result.now - (c.len.result - c.args.overlap))
    (drop (c.len.result - c.args.overlap) c.deref.result.now)) c.into_rooms-kept.ensures.0
    ∙ last_of c.deref.result.now old.bytes.items c.len.result c.args.overlap c.deref.ensures.value first in
    few_open c.args.overlap (record { bytes = c.replace-bytes.new.dest; ends = c.replace-ends.new.dest; place = c.emptied-self.result })
    (ap items c.replace-ends.ensures.after ∙ c.into_rooms-kept.ensures.1)
    (omega (arith, ap length bytes, length-drop (length old.bytes.items - c.args.overlap) old.bytes.items, c.requires.open))
