use Rattle.std.proofs.Common.{◌≡◌, ℕ, ◌+◌, ◌-◌, ◌≤◌, List, ◌++◌, sym, ap, subst, ◌∙◌, arith, append_assoc}
use Rattle.std.specs.Int.{to_le_bytes, w64}
use Rattle.kmc_device.specs.Device.{AppendsFront}
use Rattle.kmc_device.specs.Lemmas.Devices.{front_of, on_err}
use Rattle.kmc_sum.specs.Lemmas.Written.{out_front}
use Rattle.kmc_database.specs.Rows.{repeated}
use Rattle.kmc_database.specs.Lemmas.Bytes.{low_is}
use Rattle.kmc_database.proofs.Gathering.{out_as}
use Rattle.kmc_database.proofs.Tables.{repeated_join, repeated_more}
use Rattle.kmc_database.proofs.table.put_entries.Goals as goal

-- the entries so far are a front of all
part : (held : List ℕ) (from i to rows : ℕ) → from ≤ i → i ≤ to
    → (held ++ repeated (i - from) rows) ++ repeated (to - i) rows ≡ held ++ repeated (to - from) rows
part held from i to rows least most =
    let sum : i - from + (to - i) ≡ to - from = omega arith in
    append_assoc held (repeated (i - from) rows) (repeated (to - i) rows)
    ∙ ap (λ (t : List ℕ). held ++ t) (sym (repeated_join (i - from) (to - i) rows) ∙ ap (λ n. repeated n rows) sum)

-- one entry more
more : (held entry : List ℕ) (from i rows : ℕ) → from ≤ i → entry ≡ to_le_bytes w64 rows
    → (held ++ repeated (i - from) rows) ++ entry ≡ held ++ repeated (i + 1 - from) rows
more held entry from i rows least is =
    let next : i - from + 1 ≡ i + 1 - from = omega arith in
    append_assoc held (repeated (i - from) rows) entry
    ∙ ap (λ (t : List ℕ). held ++ t)
    (ap (λ (t : List ℕ). repeated (i - from) rows ++ t) (is ∙ low_is 8 rows) ∙ sym (repeated_more (i - from) rows) ∙ ap (λ n. repeated n rows) next)

pub returns-in_err-put-clause-front : goal.returns-in_err-put-clause-front
returns-in_err-put-clause-front g c =
    let held = c.args.buffer.now in
    let i = c.loop-i._i in
    let out = out_front _ _ _ _ _ c.loop-i.invariant.out c.in_err-put.ensures.front in
    on_err _ _ (subst (AppendsFront _ _)
    (part held c.args.from i c.args.to c.args.rows (omega (arith, c.loop-i.auto)) (omega (arith, c.loop-i-test.true)))
    (front_of _ _ (held ++ repeated (i - c.args.from) c.args.rows) (repeated (c.args.to - i) c.args.rows) out))

pub loop-i-preserved : goal.loop-i-preserved
loop-i-preserved g c = record {
  kept = c.in_ok-put.ensures.kept ∙ c.loop-i.invariant.kept;
  out = out_as _ _ _ _ _ _ _ _ (more c.args.buffer.now c.to_le_bytes-entry.result c.args.from c.loop-i._i c.args.rows (omega (arith, c.loop-i.auto))
      c.to_le_bytes-entry.ensures) c.loop-i.invariant.out c.in_ok-put.ensures.ok;
}
