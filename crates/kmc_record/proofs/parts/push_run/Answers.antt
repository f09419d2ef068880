use Rattle.std.proofs.Common.{◌≡◌, ◌+◌, ◌-◌, ◌<◌, ◌∷◌, [], List, ℕ, length, ap, sym, subst, ◌∙◌, arith}
use Rattle.std.proofs.lemmas.List.{get_or_read}
use Rattle.std.proofs.lemmas.List.Elements.{All-from_recursion}
use Rattle.std.specs.List.{All}
use Rattle.kmc_base.specs.Words.{window, windows}
use Rattle.kmc_split.specs.Cut.{run_codes}
use Rattle.kmc_split.specs.Signature.{bin_of, bin_of_signature}
use Rattle.kmc_base.specs.Record.{IsSpelled, codes_in}
use Rattle.kmc_base.specs.Lemmas.Codes.{length_codes, are_codes}
use Rattle.kmc_record.specs.Shapes.{Sizes}
use Rattle.kmc_record.specs.Parts.{Parcel, grown}
use Rattle.kmc_record.proofs.Parcels.{run_words, run_spelled, run_belongs, packed_run, run_grown}
use Rattle.kmc_record.proofs.parts.push_run.Goals.{After-index_mut-part}
use Rattle.kmc_record.proofs.parts.push_run.Goals as goal

-- the part of the run's bin
of_bin : (c : After-index_mut-part) → let q = c.index_mut-part.result.now in (c.bin-bin.result < c.args.shape.n) × (q.shape ≡ c.args.shape)
    × (q.bin ≡ bin_of_signature c.args.shape.n c.args.run.signature)
of_bin c =
    let q = c.index_mut-part.result.now in
    let below : c.bin-bin.result < c.args.shape.n = omega arith in
    let at = c.bin-bin.ensures.is ∙ ap (λ n. bin_of_signature n c.args.run.signature) c.n.ensures.is in (
      below,
      ap (λ (p : Parcel). p.shape) c.index_mut-part.ensures.value ∙ c.requires.bins.shaped c.bin-bin.result q below,
      ap (λ (p : Parcel). p.bin) c.index_mut-part.ensures.value ∙ c.requires.bins.bin c.bin-bin.result q below ∙ at,
    )

-- the codes of the run
abbrev codes_of : After-index_mut-part → List ℕ
codes_of c = window (c.args.run.words + (c.k-more.result - 1)) (codes_in c.args.packed.now) c.args.run.start

are_run : (c : After-index_mut-part) → codes_of c ≡ run_codes c.args.shape.k (codes_in c.args.packed.now) c.args.run
are_run c = packed_run c.args.shape.k c.k-more.result (codes_in c.args.packed.now) c.args.run c.k-more.ensures.is

pub push-requires-clause-inside : goal.push-requires-clause-inside
push-requires-clause-inside c = omega (arith, c.requires.run.inside, c.k-more.ensures.is, length_codes c.args.packed.now)

pub push-requires-clause-words : goal.push-requires-clause-words
push-requires-clause-words c =
    let p = (goal.at.push-requires-clause-words c).After-index_mut-part in
    subst (λ (s : Sizes). c.args.run.words ≡ length (windows s.k (codes_of p))) (sym (of_bin p).1)
    (run_words c.args.shape.k c.args.shape.m (codes_in c.args.packed.now) _ c.args.run c.k-more.ensures.shape.some_k c.requires.run (are_run p))

pub push-requires-clause-spelled : goal.push-requires-clause-spelled
push-requires-clause-spelled c =
    let p = (goal.at.push-requires-clause-spelled c).After-index_mut-part in
    subst (λ (s : Sizes). IsSpelled s.k (codes_of p)) (sym (of_bin p).1)
    (run_spelled c.args.shape.k c.args.shape.m (codes_in c.args.packed.now) _ c.args.run c.k-more.ensures.shape.some_k c.requires.run
    (All-from_recursion (λ (x : ℕ). x < 4) (codes_in c.args.packed.now) (are_codes c.args.packed.now)) (are_run p))

pub push-requires-clause-belong : goal.push-requires-clause-belong
push-requires-clause-belong c =
    let p = (goal.at.push-requires-clause-belong c).After-index_mut-part in
    let bin = c.index_mut-part.result.now.bin in
    subst (λ (s : Sizes). All (λ w. bin_of s.m s.n w ≡ bin) (windows s.k (codes_of p))) (sym (of_bin p).1)
    (run_belongs c.args.shape.k c.args.shape.m c.args.shape.n bin (codes_in c.args.packed.now) _ c.args.run c.requires.run (of_bin p).2 (are_run p))

pub returns : goal.returns
returns c =
    let p = (goal.at.returns c).After-index_mut-part in
    let shape = c.args.shape in
    let b = c.bin-bin.result in
    let parts = c.args.parts.now.items in
    let within = (of_bin p).0 in
    let inside : b < length parts = omega (arith, c.requires.bins.count) in
    run_grown shape shape.k shape.n b (codes_in c.args.packed.now) c.args.run parts c.push.new.self c.requires.bins
    (c.bin-bin.ensures.is ∙ ap (λ n. bin_of_signature n c.args.run.signature) c.n.ensures.is) inside
    (λ d. let here = get_or_read parts b c.index_mut-part.result.now inside c.index_mut-part.ensures.value d in c.in_ok-push.ensures.ok
    ∙ (λ i. grown ((of_bin p).1 i).k (are_run p i ∷ []) (here i)))
