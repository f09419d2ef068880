use Rattle.std.proofs.Common.{◌≡◌, ◌-◌, ℕ, Vec, Global, List, [], ◌++◌, length, take, drop, refl, sym, ap, subst, ◌∙◌, append-nil, arith}
use Rattle.std.proofs.lemmas.List.{take_at, take_rest, drop_at}
use Rattle.std.specs.List.{concat}
use Rattle.std.specs.Io.BufRead.{strip_last}
use Rattle.kmc_reads.specs.Rows.{rows_from, ends_from, AreEnds}
use Rattle.kmc_reads.specs.Standing.{kept}
use Rattle.kmc_reads.proofs.Rows.{rows_same, ends_rise}
use Rattle.kmc_reads.proofs.scan.Scan.take.Goals as goal

abbrev items : Vec ℕ Global → List ℕ
items v = v.items

pub of_rows-requires : goal.of_rows-requires
of_rows-requires c =
    let rows = c.requires.rows in let k = c.requires.stands.keeps in
    let open_read = c.requires.spot.read ++ kept c.requires.spot.stage (strip_last 13 c.requires.front) in
    let bytes : c.replace-bytes.result.items ≡ concat rows =
    ap items c.replace-bytes.ensures.value ∙ c.truncate.ensures.items ∙ (λ i. take (k.start i) (k.bytes i)) ∙ take_at (concat rows) open_read
    (length (concat rows)) refl in
    let ends : c.replace-ends.result.items ≡ ends_from 0 rows = ap items c.replace-ends.ensures.value ∙ k.ends in
    subst (λ t. AreEnds 0 t (length c.replace-bytes.result.items)) (sym ends)
    (ends_rise 0 rows (length c.replace-bytes.result.items) (omega (arith, ap length bytes)))

pub returns-clause-taken : goal.returns-clause-taken
returns-clause-taken c = λ rows spot front at.
    let k = at.keeps in
    let open_read = spot.read ++ kept spot.stage (strip_last 13 front) in
    let bytes : c.replace-bytes.result.items ≡ concat rows =
    ap items c.replace-bytes.ensures.value ∙ c.truncate.ensures.items ∙ (λ i. take (k.start i) (k.bytes i)) ∙ take_at (concat rows) open_read
    (length (concat rows)) refl in
    let tail : c.replace-bytes.new.dest.items ≡ open_read =
    ap items c.replace-bytes.ensures.after ∙ c.with_room-next.ensures ∙ c.in_ok-extend_from_slice.ensures.items
    ∙ ap (λ (room : List ℕ). room ++ take (length c.deref.result.now - c.args.self.now.place.start) (drop c.args.self.now.place.start c.deref.result.now))
    c.into_rooms-open.ensures.0 ∙ take_rest c.deref.result.now c.args.self.now.place.start
    ∙ ap (drop c.args.self.now.place.start) c.deref.ensures.value ∙ (λ i. drop (k.start i) (k.bytes i)) ∙ drop_at
    (concat rows) open_read (length (concat rows)) refl in
    let ends : c.replace-ends.result.items ≡ ends_from 0 rows = ap items c.replace-ends.ensures.value ∙ k.ends in (
      c.of_rows.ensures ∙ (λ i. rows_from 0 (ends i) ((bytes ∙ sym (append-nil (concat rows))) i)) ∙ rows_same 0 rows [],
      record {
        keeps = record {
          stage = k.stage;
          number = k.number;
          bytes = tail;
          ends = ap items c.replace-ends.ensures.after ∙ c.into_rooms-open.ensures.1;
          start = refl;
          many = k.many;
          first = k.first;
        };
        held = at.held;
        settled = at.settled;
      },
    )
