use Rattle.std.proofs.Common.{◌≡◌, false, length, subst}
use Rattle.kmc_database.specs.Part.{IsReadAt}
use Rattle.kmc_database.proofs.Opened.{short_unmarked}
use Rattle.kmc_database.proofs.opening.is_marked.Goals as goal

pub returns-then-not-branch-clause-ok : goal.returns-then-not-branch-clause-ok
returns-then-not-branch-clause-ok g c = λ bytes known stands.
    let buffer = c.read_at.new.buffer in
    let short : c.in_ok-read_at.field-0 ≡ false = search in
    let four : length buffer ≡ 4 = search in
    short_unmarked bytes c.args.place buffer c.args.marker four
    (subst (IsReadAt bytes c.args.place buffer) short (c.in_ok-read_at.ensures.read bytes known)) stands
