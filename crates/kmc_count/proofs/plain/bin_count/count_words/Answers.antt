use Rattle.std.proofs.Common.{◌^◌, ◌<◌, map, All, subst, sym}
use Rattle.std.specs.List.Sorted.{IsSorted}
use Rattle.std.specs.Ordering.{nat_cmp}
use Rattle.kmc_base.specs.Packed.{unpack}
use Rattle.kmc_count.specs.Occurrences.{occurrences}
use Rattle.kmc_count.specs.Dump.{IsDump}
use Rattle.kmc_count.specs.Lemmas.PassedOn.{passed_on}
use Rattle.kmc_count.proofs.CountedKeys.{body_fits, body_dump}
use Rattle.kmc_count.proofs.plain.bin_count.count_words.Goals as goal

pub tally_words-requires-clause-fit : goal.tally_words-requires-clause-fit
tally_words-requires-clause-fit g c = subst (λ ns. All (λ n. n < 4 ^ c.args.rule.k) (map g.W.PackedKmer.number ns)) (sym c.deref.ensures.value)
    (body_fits _ _ _ _ c.in_ok-sorted_keys.ensures.ok)

pub tally_words-requires-clause-sorted : goal.tally_words-requires-clause-sorted
tally_words-requires-clause-sorted g c = subst (λ ns. IsSorted nat_cmp (map g.W.PackedKmer.number ns))
    (sym c.deref.ensures.value) c.in_ok-sorted_keys.ensures.ok.sorted

pub returns-clause-ok : goal.returns-clause-ok
returns-clause-ok g c =
    body_dump _ _ _ _ c.in_ok-sorted_keys.ensures.ok c.args.limits.now _
    (subst (λ ns. IsDump (occurrences (map (unpack c.args.rule.k)
    (map g.W.PackedKmer.number ns))) c.args.limits.now c.tally_words.new.pairs.items) c.deref.ensures.value c.in_ok-tally_words.ensures)

pub returns-in_err-sorted_keys-clause-damaged : goal.returns-in_err-sorted_keys-clause-damaged
returns-in_err-sorted_keys-clause-damaged g c = λ fault offset is.
    c.sorted_keys.ensures.damaged fault offset (passed_on c.sorted_keys.result c.from_residual.result _ _ c.in_err-sorted_keys.was c.from_residual.ensures.1 is)
