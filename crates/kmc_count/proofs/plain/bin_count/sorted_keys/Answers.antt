use Rattle.std.proofs.Common.{◌++◌, map, subst, ap, ◌∙◌}
use Rattle.std.specs.List.Sorted.{IsPermutation}
use Rattle.kmc_base.specs.Packed.{pack}
use Rattle.kmc_record.specs.RecordWords.{record_keys}
use Rattle.kmc_count.specs.Lemmas.PassedOn.{passed_on}
use Rattle.kmc_count.proofs.plain.bin_count.sorted_keys.Goals as goal

pub returns-in_err-push_body-clause-damaged : goal.returns-in_err-push_body-clause-damaged
returns-in_err-push_body-clause-damaged g c = λ fault offset is.
    c.push_body.ensures.damaged fault offset (passed_on c.push_body.result c.from_residual.result _ _ c.in_err-push_body.was c.from_residual.ensures.1 is)

pub returns-clause-ok : goal.returns-clause-ok
returns-clause-ok g c =
    let num = g.W.PackedKmer.number in
    let made = c.in_ok-push_body.ensures.ok in
    let is = made.2 ∙ ap (λ ns. map num ns ++ map pack (record_keys c.args.rule.strands c.args.rule.k made.0)) c.requires.none in
    record {
      super_kmers = made.0;
      records = made.1;
      moved = subst (λ ns. IsPermutation ns (map num c.sort.new.words.items)) is c.sort.ensures.moved;
      sorted = c.sort.ensures.sorted;
    }
