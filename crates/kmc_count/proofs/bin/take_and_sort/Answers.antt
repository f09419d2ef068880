use Rattle.std.proofs.Common.{rules, IsTrue, false, ◌≡◌, ◌+◌, ◌≤◌, [], map, inl, inr, All, ap, refl, subst, sym, ◌∙◌, arith, Option}
use Rattle.std.proofs.lemmas.Bool.Decides.{nat_tests}
use Rattle.kmc_record.specs.RecordKeys.{key_words, IsRecordKey}
use Rattle.kmc_count.specs.Asked.{AreKeysOfBin, FitsWords, IsOfBin}
use Rattle.kmc_count.specs.Bundles.{BothGain}
use Rattle.kmc_count.specs.Lemmas.PassedOn.{passed_on}
use Rattle.kmc_count.specs.declared.judging.AskedBin.{AskedBin}
use Rattle.kmc_count.proofs.Bundled.{rows_unpacked}
use Rattle.kmc_count.proofs.Counted.{sorted_long}
use Rattle.kmc_count.proofs.Judged.{foreign_rows, judged_rows}
use Rattle.kmc_count.proofs.bin.take_and_sort.Goals as goal

pub keys_in_bin-requires : goal.keys_in_bin-requires
keys_in_bin-requires g c = record {
  long = subst (All (IsRecordKey c.args.form.rule.k)) (sym c.deref.ensures.value)
      (sorted_long c.args.form.rule.k _ _ c.sort_numbers.ensures.moved c.in_ok-take_body.ensures.ok.2.long);
}

pub push_rows-requires : goal.push_rows-requires
push_rows-requires g c = record {
  long = subst (All (IsRecordKey c.args.form.rule.k)) (sym c.deref-3.ensures.value)
      (sorted_long c.args.form.rule.k _ _ c.sort_numbers.ensures.moved c.in_ok-take_body.ensures.ok.2.long);
}

pub returns-clause-ok : goal.returns-clause-ok
returns-clause-ok g c =
    let num = g.W.PackedKmer.number in
    let rule = c.args.form.rule in
    let taken = c.in_ok-take_body.ensures.ok in
    let gains = subst (λ t. BothGain rule.k c.args.form.bits c.args.form.bundle (map num c.take_body.new.items.items) (map num c.clear-3.new.self.items)
    (map num c.push_rows.new.items.items) (map num c.push_rows.new.bundles.items)
    (key_words rule.strands rule.k t) 1) c.deref-3.ensures.value c.in_ok-push_rows.ensures in
    rows_unpacked rule.strands rule.k c.args.form.bits c.args.form.bundle c.args.body.now _ _ _ _ _ _ taken.0 (ap (map num) c.clear-3.ensures.items) taken.1 taken.2
    c.sort_numbers.ensures.moved gains

-- the records were judged one by one, or all of them by their numbers
pub returns-clause-judged : goal.returns-clause-judged
returns-clause-judged g c =
    let num = g.W.PackedKmer.number in
    let rule = c.args.form.rule in
    let body = c.args.body.now in
    let taken = c.in_ok-take_body.ensures.ok in
    elim c.asked_of-of_records.ensures [
      | inl h ↦ subst (λ (o : Option AskedBin). IsOfBin o body) h.0 (c.if-not-is_of_bin.ensures.0 refl)
      | inr h ↦
          let room : rule.k + 3 ≤ c.short_records-short.result = grind (arith, nat_tests, h.0) in
          let none : map num c.take_body.new.items.items ≡ [] =
          ap (λ v. map num v.items) (c.in_ok-take_body.ensures.numbers room) ∙ ap (map num) c.clear-2.ensures.items in
          judged_rows c.strands_share_signature.ensures rule.strands rule.k c.args.form.bits body _ _ _ _ taken.1 taken.2 c.sort_numbers.ensures.moved
          c.args.asked (subst FitsWords h.2 c.if-not-keys_in_bin.ensures.fits) none
          (subst (λ (o : Option AskedBin). AreKeysOfBin rule.k o c.sort_numbers.new.numbers.items) h.2
          (subst (AreKeysOfBin rule.k _) c.deref.ensures.value (c.if-not-keys_in_bin.ensures.of_bin.0 refl)))
    ]

untrue : IsTrue false → ⊥
untrue h = search (rules, h)

-- of the numbers one at least is that of a record with a word of another bin, and it is the body's
pub returns-then-not-keys_in_bin-clause-wrong : goal.returns-then-not-keys_in_bin-clause-wrong
returns-then-not-keys_in_bin-clause-wrong g c = λ _.
    let rule = c.args.form.rule in
    let taken = c.in_ok-take_body.ensures.ok in
    let judged = c.if-not-keys_in_bin.ensures in
    elim c.asked_of-of_records.ensures [
      | inl h ↦ absurd (untrue (judged.of_bin.1 (subst (λ (o : Option AskedBin). AreKeysOfBin rule.k o c.deref.result.now) (sym h.1) tt)))
      | inr h ↦
          foreign_rows c.strands_share_signature.ensures rule.strands rule.k c.args.form.bits c.args.body.now _ _ _ _ taken.1 taken.2
          c.sort_numbers.ensures.moved c.args.asked (subst FitsWords h.2 judged.fits) (λ belong.
          untrue (judged.of_bin.1 (subst (AreKeysOfBin rule.k _) (sym c.deref.ensures.value)
          (subst (λ (o : Option AskedBin). AreKeysOfBin rule.k o c.sort_numbers.new.numbers.items) (sym h.2) belong))))
    ]

pub returns-in_err-take_body-clause-damaged : goal.returns-in_err-take_body-clause-damaged
returns-in_err-take_body-clause-damaged g c = λ fault offset is.
    c.take_body.ensures.damaged fault offset
    (passed_on c.take_body.result c.from_residual.result _ _ c.in_err-take_body.was c.from_residual.ensures.1 is)
