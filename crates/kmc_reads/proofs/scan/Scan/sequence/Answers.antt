use Rattle.std.proofs.Common.{[], ◌++◌, sym, ap, ◌∙◌}
use Rattle.std.specs.List.{concat}
use Rattle.kmc_reads.specs.Stages.{Spot}
use Rattle.kmc_reads.specs.Standing.{kept}
use Rattle.kmc_reads.proofs.Records.{took_sequence, none_kept, more_bytes}
use Rattle.kmc_reads.proofs.scan.Scan.sequence.Goals as goal

pub returns-clause-took : goal.returns-clause-took
returns-clause-took c = λ rows spot at.
    let k = at.keeps in let content = c.args.content.now in
    let more : Spot = record { number = spot.number; stage = spot.stage; read = spot.read ++ content } in
    took_sequence rows spot c.step.new.self content (sym k.stage ∙ c.requires)
    (c.step.ensures.at rows more
    (record {
      stage = k.stage;
      number = k.number;
      bytes = c.in_ok-extend_from_slice.ensures.items ∙ ap (λ t. t ++ content) k.bytes
          ∙ more_bytes (concat rows) spot.read content (kept spot.stage []) (none_kept spot.stage);
      ends = k.ends;
      start = k.start;
      many = k.many;
      first = k.first;
    })
    at.held)
