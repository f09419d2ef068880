use Rattle.std.proofs.Common.{◌≡◌, ℕ, ◌+◌, ◌<◌, ◌≤◌, ◌^◌, All, List, [], ◌∷◌, ◌++◌, length, get_or, take, map, sym, ap, subst, ◌∙◌, arith, take_all, Vec, Global}
use Rattle.std.specs.List.Sorted.{IsSorted}
use Rattle.std.specs.Ordering.{nat_cmp}
use Rattle.std.proofs.lemmas.List.{length-map, get_or-map, take_more}
use Rattle.kmc_base.specs.Packed.{pack, unpack}
use Rattle.kmc_base.specs.Places.{counted_words}
use Rattle.kmc_base.specs.Strands.{placed_key}
use Rattle.kmc_count.specs.Occurrences.{occurrences}
use Rattle.kmc_count.specs.Dump.{IsDump}
use Rattle.kmc_count.specs.Lemmas.KeysOfReads.{keys_of_reads, sorted_fit, sorted_occurrences, of_reads}
use Rattle.kmc_count.proofs.GatheredKeys.{keys_of_reads_are_words, read_added}
use Rattle.kmc_count.proofs.plain.direct.count_at.Goals as goal

abbrev texts : List (Vec ℕ Global) → List (List ℕ)
texts reads = map (λ r. r.items) reads

pub loop-read-init : goal.loop-read-init
loop-read-init g c = ap (map g.W.PackedKmer.number) c.new-words.ensures.items

next_read : (reads : List (Vec ℕ Global)) (i : ℕ) (r : Vec ℕ Global) → i < length reads → r ≡ get_or reads i r → take (i + 1) (texts reads) ≡ take i
    (texts reads) ++ r.items ∷ []
next_read reads i r inside is =
    let items : Vec ℕ Global → List ℕ = λ v. v.items in
    let long : i < length (texts reads) = omega (arith, inside, length-map reads items) in
    let here : get_or (texts reads) i r.items ≡ r.items = get_or-map items reads i r r.items inside ∙ ap items (sym is) in
    take_more (texts reads) i r.items long ∙ ap (λ (t : List ℕ). take i (texts reads) ++ t ∷ []) here

pub loop-read-preserved : goal.loop-read-preserved
loop-read-preserved g c =
    let num = g.W.PackedKmer.number in
    let reads = c.args.reads.now in
    let i = c.loop-read.read-index in
    read_added c.args.rule.strands c.args.rule.k c.read-item.result.items (take i (texts reads)) (take (i + 1) (texts reads))
    (map num c.loop-read.words.items) _ c.loop-read.invariant
    (next_read reads i c.read-item.result c.loop-read-test.true c.read-item.is)
    (c.in_ok-push_read.ensures ∙ ap (λ t. map num c.loop-read.words.items ++ map pack
    (map (placed_key c.args.rule.strands) (counted_words c.args.rule.k t))) c.deref.ensures.value)

all_reads : (reads : List (Vec ℕ Global)) (i : ℕ) → length reads ≤ i → take i (texts reads) ≡ texts reads
all_reads reads i end =
    let items : Vec ℕ Global → List ℕ = λ v. v.items in
    take_all i (texts reads) (omega (arith, end, length-map reads items))

pub tally_words-requires-clause-fit : goal.tally_words-requires-clause-fit
tally_words-requires-clause-fit g c =
    let num = g.W.PackedKmer.number in
    let k = c.args.rule.k in
    let reads = texts c.args.reads.now in
    let is = c.loop-read.invariant ∙ ap (λ t. map pack (keys_of_reads c.args.rule.strands k t))
    (all_reads c.args.reads.now c.loop-read.read-index c.loop-read-test.false) in
    let fit = sorted_fit k (keys_of_reads c.args.rule.strands k reads) (keys_of_reads_are_words c.args.rule.strands k reads)
    (map num c.loop-read.words.items) (map num c.sort.new.words.items) is c.sort.ensures.moved in
    subst (λ ns. All (λ n. n < 4 ^ k) (map num ns)) (sym c.deref-2.ensures.value) fit

pub tally_words-requires-clause-sorted : goal.tally_words-requires-clause-sorted
tally_words-requires-clause-sorted g c = subst (λ ns. IsSorted nat_cmp (map g.W.PackedKmer.number ns)) (sym c.deref-2.ensures.value) c.sort.ensures.sorted

pub returns : goal.returns
returns g c =
    let num = g.W.PackedKmer.number in
    let k = c.args.rule.k in
    let reads = texts c.args.reads.now in
    let pairs = c.tally_words.new.pairs.items in
    let is = c.loop-read.invariant ∙ ap (λ t. map pack (keys_of_reads c.args.rule.strands k t))
    (all_reads c.args.reads.now c.loop-read.read-index c.loop-read-test.false) in
    let dump = subst (λ ns. IsDump (occurrences (map (unpack k) (map num ns))) c.args.limits.now pairs) c.deref-2.ensures.value c.in_ok-tally_words.ensures in
    let same = sorted_occurrences k (keys_of_reads c.args.rule.strands k reads) (keys_of_reads_are_words c.args.rule.strands k reads)
    (map num c.loop-read.words.items) (map num c.sort.new.words.items) is c.sort.ensures.moved in
    subst (λ n. IsDump n c.args.limits.now pairs) (λ i x. (same x ∙ of_reads c.args.rule.strands k x reads) i) dump
