use Rattle.std.proofs.Common.{[], refl}
use Rattle.std.proofs.KnownBytes.{Appends-kept, Appends-nil}
use Rattle.kmc_device.specs.Lemmas.Devices.{front_all}
use Rattle.kmc_dump.proofs.Writing.{all_out, refused}
use Rattle.kmc_dump.proofs.output.finish.Goals as goal

pub returns-in-Ok : goal.returns-in-Ok
returns-in-Ok g c =
    let bytes = g.D.Write.contents in
    let old = bytes c.args.writer.now.inner in
    all_out bytes [] c.args.writer.now c.flush.new.self tt c.in-Ok.ensures.ok (Appends-kept old old (bytes c.flush.new.self.inner) [] (Appends-nil old) c.in-Ok.ensures.bytes)

pub returns-in-Err : goal.returns-in-Err
returns-in-Err g c =
    let bytes = g.D.Write.contents in
    let old = bytes c.args.writer.now.inner in
    let new = bytes c.flush.new.self.inner in
    refused bytes [] c.args.writer.now c.args.writer.now c.flush.new.self _ refl refl c.in-Err.ensures.failed
    (front_all old new [] (Appends-kept old old new [] (Appends-nil old) c.in-Err.ensures.bytes))
