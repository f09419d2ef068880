use Rattle.std.proofs.Common.{◌≡◌, ℕ, ◌≤◌, map, subst, ◌∙◌, arith}
use Rattle.std.specs.List.{flat_map}
use Rattle.kmc_base.specs.Pieces.{pieces}
use Rattle.kmc_reads.specs.declared.format.Format.{Format}
use Rattle.kmc_record.specs.RecordWords.{record_keys}
use Rattle.kmc_record.specs.Shapes.{Sizes}
use Rattle.kmc_stage_one.specs.Rounds.{HoldsInput}
use Rattle.kmc_count.specs.Occurrences.{occurrences, count_of}
use Rattle.kmc_count.specs.Merge.{joined}
use Rattle.kmc_lists.specs.Listed.{spelled}
use Rattle.kmc_lists.specs.Lists.{lists_of}
use Rattle.kmc_lists.specs.Ordered.{whole}
use Rattle.kmc_options.specs.Shape.{shape_of}
use Rattle.kmc_stage_one.specs.declared.settings.TheConstants.{PIECE_SYMBOLS}
use Rattle.kmc_tool.proofs.SameCounts.{same_dump}
use Rattle.kmc_tool.proofs.input.count_input_with.Goals as goal

within : {k : ℕ} → k ≤ 64 → k ≤ PIECE_SYMBOLS
within le = omega (arith, le)

pub returns : goal.returns
returns g c =
    let params = c.args.params.now in
    let of_bins = c.in_ok-stage_two.ensures.all in
    let told : (c.round_settings-settings.result.format, c.round_settings-settings.result.shape) ≡ (params.format, shape_of params) =
    λ i. (c.round_settings-settings.ensures.0 i, c.round_settings-settings.ensures.1 i) in
    let input = subst (λ (t : Format × Sizes). HoldsInput t.0 t.1 PIECE_SYMBOLS (g.R.Read.remaining c.args.reader.now.inner)
    (g.R.Read.remaining c.bins_of_input.new.reader.inner) c.in_ok-bins.bins) told c.in_ok-bins.ensures.ok in
    record {
      merge = c.in_ok-stage_two.ensures.merge;
      dump = record {
        bytes = input.bytes;
        given = input.given;
        reads = input.reads;
        are_reads = input.are_reads;
        is_dump = same_dump (occurrences (joined (map (record_keys params.strands params.k) of_bins.super_kmers)))
            (count_of params.strands params.k input.reads) params.limits
            (λ x. c.held_reads_are_counted.ensures params.strands (shape_of params) (flat_map (pieces params.k PIECE_SYMBOLS) input.cuts)
            c.in_ok-bins.bins.bodies of_bins.super_kmers params.in_range.0.0.0 params.in_range.0.2.0 input.holds of_bins.records x
            ∙ c.pieces_are_counted_as_reads.ensures params.strands params.k PIECE_SYMBOLS input.cuts x params.in_range.0.0.0
            (within params.in_range.0.0.1)
            ∙ c.cut_reads_are_counted.ensures params.strands params.k input.reads input.cuts params.in_range.0.0.0 input.cut x)
            (spelled params.k (whole (lists_of c.in_ok-stage_two.field-0))) of_bins.dump;
      };
      sound = c.in_ok-bins.ensures.sound;
      counts = tt;
      cause = tt;
    }
