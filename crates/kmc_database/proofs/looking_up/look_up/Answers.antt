use Rattle.std.proofs.Common.{◌≡◌, ℕ, List, Some, sym, ◌∙◌}
use Rattle.kmc_database.specs.LookedUp.{IsCountThere}
use Rattle.kmc_database.proofs.Entries.{found_there}
use Rattle.kmc_database.proofs.InDatabase.{listed_in}
use Rattle.kmc_database.proofs.looking_up.look_up.Goals as goal

there : (g : _) (c : goal.In-Ok-Some g) (p s : List ℕ) → g.P.Places.bytes c.args.prefix.now ≡ Some p → g.S.Places.bytes c.args.suffix.now ≡ Some s
    → IsCountThere c.args.header.now p s c.args.word.now c.in-Ok-Some.count
there g c p s known_p known_s =
    let range = c.in_ok-from.ensures.ok p known_p in
    found_there c.args.header.now p s c.args.word.now c.part_of-part.result c.in_ok-from.from c.in_ok-from.to c.in-Ok-Some.count
    c.part_of-part.ensures.is range.0 range.1
    (λ pairs h. sym c.in-Ok-Some.field-0-is ∙ c.in-Ok-Some.ensures.ok s pairs known_s h)

pub returns-in-Ok-Some-clause-ok : goal.returns-in-Ok-Some-clause-ok
returns-in-Ok-Some-clause-ok g c = λ p s known_p known_s. there g c p s known_p known_s

pub returns-in-Ok-Some-clause-database : goal.returns-in-Ok-Some-clause-database
returns-in-Ok-Some-clause-database g c = λ f pairs p s known_p known_s d h.
    listed_in f pairs p s d c.args.header.now h c.args.word.now c.requires.word c.in-Ok-Some.count (there g c p s known_p known_s)
