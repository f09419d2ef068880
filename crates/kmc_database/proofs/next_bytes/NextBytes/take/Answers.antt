use Rattle.std.proofs.Common.{◌+◌, ◌-◌, ◌≡◌, length, drop, take, arith, length-drop}
use Rattle.std.proofs.lemmas.List.{length-take-le}
use Rattle.kmc_database.specs.LeftOf.{held_of}
use Rattle.kmc_database.proofs.LeftBytes.{held_less}
use Rattle.kmc_database.proofs.TakenBytes.{unread_behind}
use Rattle.kmc_database.proofs.next_bytes.NextBytes.take.Goals as goal

pub returns : goal.returns
returns g c = λ bytes known.
    let f = c.args.self.now in
    let n = c.args.size in
    let long : length (held_of f) ≡ f.to - f.from =
    length-take-le (f.to - f.from) (drop f.from f.room) (omega (arith, length-drop f.from f.room, f.order, f.within, f.long)) in
    held_less (held_of f) (take (f.to - (f.from + n)) (drop (f.from + n) f.room)) n (g.R.Read.remaining f.reader) bytes c.requires
    (unread_behind f.from f.to n f.room (omega (arith, f.order, long, c.requires)) (omega (arith, f.within, f.long))) known
