use Rattle.std.proofs.Common.{◌≡◌, [], ◌∷◌, ◌++◌, length, sym, ◌∙◌, arith}
use Rattle.std.proofs.lemmas.Grind.{common_steps}
use Rattle.kmc_reads.specs.Stages.{Spot}
use Rattle.kmc_reads.specs.Standing.{kept}
use Rattle.kmc_reads.proofs.Records.{took_quality, none_kept, open_length}
use Rattle.kmc_reads.proofs.scan.Scan.quality.Goals as goal

pub returns-clause-took : goal.returns-clause-took
returns-clause-took c = λ rows spot at.
    let k = at.keeps in
    let open_long = open_length rows spot.read (kept spot.stage []) c.args.self.now.bytes.items c.args.self.now.place.start (none_kept spot.stage) k.bytes k.start in
    let long : length c.args.content.now ≡ length spot.read = grind (arith, common_steps) in
    let emptied : Spot = record { number = spot.number; stage = spot.stage; read = [] } in
    took_quality rows spot c.step.new.self c.args.content.now (sym k.stage ∙ c.requires) long
    (c.step.ensures.at (rows ++ spot.read ∷ []) emptied (c.in_ok-close.ensures.keeps rows spot [] k (none_kept spot.stage)) (c.in_ok-close.ensures.held ∙ at.held))

pub returns-clause-bytes : goal.returns-clause-bytes
returns-clause-bytes c = c.step.ensures.bytes ∙ c.close.ensures.bytes
