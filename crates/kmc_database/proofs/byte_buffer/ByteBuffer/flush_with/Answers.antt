use Rattle.std.proofs.Common.{◌++◌, subst}
use Rattle.std.proofs.KnownBytes.{Appends-kept, Appends-trans}
use Rattle.std.specs.Io.KnownBytes.{Appends}
use Rattle.kmc_device.specs.Device.{AppendsFront}
use Rattle.kmc_device.specs.Lemmas.Devices.{front_after, front_all, front_of, on_err}
use Rattle.kmc_database.proofs.byte_buffer.ByteBuffer.flush_with.Goals as goal

pub returns-in_err-write_text-clause-front : goal.returns-in_err-write_text-clause-front
returns-in_err-write_text-clause-front g c =
    let front = c.in_err-write_text.ensures.front in
    on_err _ _ (front_of _ _ c.args.self c.args.bytes.now (subst (AppendsFront _ _) c.self.view_is front))

pub returns-in_err-write_text-2-clause-front : goal.returns-in_err-write_text-2-clause-front
returns-in_err-write_text-2-clause-front g c =
    let held = subst (Appends _ _) c.self.view_is c.in_ok-write_text.ensures.ok in
    on_err _ _ (front_after _ _ _ c.args.self c.args.bytes.now held c.in_err-write_text-2.ensures.front)

pub returns-in-Err-clause-front : goal.returns-in-Err-clause-front
returns-in-Err-clause-front g c =
    let held = subst (Appends _ _) c.self.view_is c.in_ok-write_text.ensures.ok in
    let both = Appends-trans _ _ _ c.args.self c.args.bytes.now held c.in_ok-write_text-2.ensures.ok in
    front_all _ _ (c.args.self ++ c.args.bytes.now) (Appends-kept _ _ _ _ both c.in-Err.ensures.bytes)
