use Rattle.std.proofs.Common.{◌≡◌, [], ◌∷◌, ◌++◌, refl, ap, ◌∙◌}
use Rattle.std.proofs.lemmas.List.{map-append}
use Rattle.kmc_partqueue.specs.SameSeats.{items_of}
use Rattle.kmc_partqueue.specs.Lemmas.SameSeats.{same_reader}
use Rattle.kmc_partqueue.proofs.taking.take_part.Goals as goal

pub try_take-requires : goal.try_take-requires
try_take-requires g c = let same = c.loop.invariant.0 in (same.table ∙ c.requires.0, same.per_writer ∙ c.requires.1, same.writers ∙ c.requires.2)

pub returns-then-is_stopped-clause-seat : goal.returns-then-is_stopped-clause-seat
returns-then-is_stopped-clause-seat g c = c.loop.invariant.0

pub returns-then-is_stopped-clause-stopped : goal.returns-then-is_stopped-clause-stopped
returns-then-is_stopped-clause-stopped g c = (refl, c.loop.invariant.1)

pub returns-in-Got-clause-seat : goal.returns-in-Got-clause-seat
returns-in-Got-clause-seat g c =
    let s = c.in-Got.ensures.seat in
    same_reader c.args.s.now c.loop.s c.try_take.new.s c.loop.invariant.0 (record { table = s.0; number = s.1; per_writer = s.2; writers = s.3 })

pub returns-in-Got-clause-next : goal.returns-in-Got-clause-next
returns-in-Got-clause-next g c =
    let part = c.in-Got.received in
    ap items_of (c.in-Got.ensures.answer.0 ∙ ap (λ l. l ++ part ∷ []) c.loop.invariant.1)
    ∙ map-append (λ e. e.item) c.args.s.now.got (part ∷ [])

pub loop-preserved : goal.loop-preserved
loop-preserved g c =
    let s = c.in-NotNow.ensures.seat in (
      same_reader c.args.s.now c.loop.s c.try_take.new.s c.loop.invariant.0 (record { table = s.0; number = s.1; per_writer = s.2; writers = s.3 }),
      c.in-NotNow.ensures.answer.0 ∙ c.loop.invariant.1,
    )

pub returns-in-Finished-clause-seat : goal.returns-in-Finished-clause-seat
returns-in-Finished-clause-seat g c =
    let s = c.in-Finished.ensures.seat in
    same_reader c.args.s.now c.loop.s c.try_take.new.s c.loop.invariant.0 (record { table = s.0; number = s.1; per_writer = s.2; writers = s.3 })

pub returns-in-Finished-clause-next : goal.returns-in-Finished-clause-next
returns-in-Finished-clause-next g c = (c.in-Finished.ensures.answer.0 ∙ c.loop.invariant.1, c.in-Finished.ensures.answer.1)
