use Rattle.std.proofs.Common.{◌+◌, ◌^◌, ◌<◌, ◌∙◌, inl, inr, length, refl, arith}
use Rattle.kmc_database.specs.Part.{entry_place, EndsPart, IsEntry}
use Rattle.kmc_database.proofs.Entries.{match_some}
use Rattle.kmc_database.proofs.Words.{few_parts}
use Rattle.kmc_database.proofs.looking_up.range_of_part.Goals as goal
use Rattle.kmc_database.proofs.looking_up.range_of_part.Goals.{then-to-from-via-then-to-from, then-to-from-via-else-to-from+then-to-header}

pub entry_at-requires : goal.entry_at-requires
entry_at-requires g c = omega (arith, few_parts c.args.header.now.layout c.requires.layout, c.requires.part)

pub returns-then-to-from-clause-cause : goal.returns-then-to-from-clause-cause
returns-then-to-from-clause-cause g c =
    let h = c.args.header.now in
    let part = c.args.part in
    let a = c.in-Ok-Some in
    let b = c.in-Ok-Some-end_of_part in (
      refl,
      (λ bytes known. record {
        from = a.from;
        to = b.to;
        begins = match_some a.field-0 a.from (length bytes < entry_place (part + 1)) (IsEntry bytes part) a.field-0-is (a.ensures.ok bytes known);
        ends = match_some b.field-0 b.to (length bytes < entry_place (4 ^ h.layout.prefix)) (EndsPart h part bytes) b.field-0-is
            (b.ensures.ok bytes (a.ensures.bytes ∙ known));
        fault = elim c.then-to-from.branch [
          | then-to-from-via-then-to-from w ↦ inl w.if-to-from.true
          | then-to-from-via-else-to-from+then-to-header w ↦ inr w.if-to-header.true
        ];
      }),
      b.ensures.kept ∙ a.ensures.kept,
    )

pub returns-clause-ok : goal.returns-clause-ok
returns-clause-ok g c = λ bytes known.
    let h = c.args.header.now in
    let part = c.args.part in
    let a = c.in-Ok-Some in
    let b = c.in-Ok-Some-end_of_part in (
      match_some a.field-0 a.from (length bytes < entry_place (part + 1)) (IsEntry bytes part) a.field-0-is (a.ensures.ok bytes known),
      match_some b.field-0 b.to (length bytes < entry_place (4 ^ h.layout.prefix)) (EndsPart h part bytes) b.field-0-is
          (b.ensures.ok bytes (a.ensures.bytes ∙ known)),
    )
