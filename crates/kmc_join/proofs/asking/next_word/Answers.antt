use Rattle.std.proofs.Common.{◌≡◌, ◌-◌, ◌++◌, List, ℕ, drop, subst, take}
use Rattle.kmc_sum.specs.Source.{unread}
use Rattle.kmc_join.specs.Asking.{word_line}
use Rattle.kmc_join.proofs.WordLines.{rest_of_word}
use Rattle.kmc_join.proofs.asking.next_word.Goals as goal

pub returns-in-Some-clause-ok : goal.returns-in-Some-clause-ok
returns-in-Some-clause-ok g c =
    let r = c.fill.new.room in
    let found = subst (λ (l : List ℕ). (more : List ℕ) × (take (r.to - r.from) (drop r.from l) ≡ word_line c.in-Some.word ++ more))
    c.deref.ensures.value c.in-Some.ensures.1 in (
      unread r,
      c.in-Ok.ensures.ok,
      (
        c.in-Some.ensures.0,
        rest_of_word r.from r.to c.k.result r.bytes.items c.in-Some.word found.0 c.in-Ok.ensures.room.order c.in-Ok.ensures.room.inside c.k.ensures.is
            found.1,
      ),
    )
