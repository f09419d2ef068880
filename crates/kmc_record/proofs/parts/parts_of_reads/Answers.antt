use Rattle.std.proofs.Common.{rules, ◌≡◌, nat_lt, [], length, map, take, ap, subst, ◌∙◌}
use Rattle.std.proofs.lemmas.List.{take_all}
use Rattle.std.proofs.lemmas.List.Elements.{filter_from_retain}
use Rattle.std.specs.List.{filter}
use Rattle.kmc_record.specs.GrowingParts.{HaveTaken}
use Rattle.kmc_record.specs.Parts.{Parcel, bin_super_kmers, all_segments}
use Rattle.kmc_record.proofs.Parcels.{grown_start, grown_for_bins}
use Rattle.kmc_record.proofs.Chunks.{read_more, empties_are, all_grown}
use Rattle.kmc_record.proofs.parts.parts_of_reads.Goals as goal

pub loop-read-init : goal.loop-read-init
loop-read-init c = (
  [],
  tt,
  grown_start c.args.shape c.args.shape.k c.in_ok-parts.parts.items
      (empties_are c.args.number c.args.shape c.in_ok-parts.parts.items c.in_ok-parts.ensures),
)

pub push_read-requires : goal.push_read-requires
push_read-requires c =
    grown_for_bins c.args.shape c.args.shape.k _ c.in_ok-parts.parts.items c.loop-read.parts.items
    (empties_are c.args.number c.args.shape c.in_ok-parts.parts.items c.in_ok-parts.ensures) c.loop-read.invariant.2

pub loop-read-preserved : goal.loop-read-preserved
loop-read-preserved c =
    read_more (λ r. r.now) c.args.shape c.args.reads.now c.loop-read.read-index _ _ _ _ c.loop-read-test.true c.loop-read.invariant c.in_ok-push_read.ensures

pub returns : goal.returns
returns c =
    let shape = c.args.shape in
    let all : take c.loop-read.read-index c.args.reads.now ≡ c.args.reads.now = take_all c.loop-read.read-index c.args.reads.now c.loop-read-test.false in
    let taken : HaveTaken shape (all_segments shape.k (map (λ r. r.now) c.args.reads.now)) c.in_ok-parts.parts.items c.loop-read.parts.items =
    subst (λ rs. HaveTaken shape (all_segments shape.k (map (λ r. r.now) rs)) c.in_ok-parts.parts.items c.loop-read.parts.items) all c.loop-read.invariant in
    let test = λ (p : Parcel). nat_lt 0 (length p.body) in
    record {
      cuts = taken.0;
      cut = taken.1;
      are = filter_from_retain _ test (λ p x b q t. search rules) _ _ _ c.retain.ensures.filtered
          ∙ ap (filter test) (all_grown c.args.number shape (λ bin. bin_super_kmers shape.k shape.n bin
          (all_segments shape.k (map (λ r. r.now) c.args.reads.now)) taken.0)
          c.in_ok-parts.parts.items c.loop-read.parts.items c.in_ok-parts.ensures taken.2);
    }
