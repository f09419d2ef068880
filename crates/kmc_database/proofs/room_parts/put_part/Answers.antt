use Rattle.std.proofs.Common.{◌≡◌, ◌+◌, ◌-◌, ◌++◌, length, take, drop, sym, ap, ◌∙◌, arith, append_assoc, length-append}
use Rattle.std.proofs.lemmas.List.{drop-drop, drop_at, length-take-le}
use Rattle.kmc_database.proofs.room_parts.put_part.Goals as goal

pub returns-clause-behind : goal.returns-clause-behind
returns-clause-behind c =
    let room = c.args.room.now in
    let at = c.args.at in
    let put = c.copy_from_slice.new.self in
    let end = at + length c.args.part.now in
    let n = end - at in
    let same : length put ≡ length c.args.part.now = ap length c.copy_from_slice.ensures.after in
    let first : length (take at room) ≡ at = length-take-le at room (omega (arith, c.requires)) in
    let long : length (take at room ++ put) ≡ end = omega (arith, length-append (take at room) put, same, first) in
    let all : at + n ≡ end = omega arith in
    sym (ap (drop end) (append_assoc (take at room) put (drop n (drop at room))))
    ∙ drop_at (take at room ++ put) (drop n (drop at room)) end long
    ∙ drop-drop n at room
    ∙ ap (λ m. drop m room) all
