use Rattle.std.proofs.Common.{ℕ, ◌*◌, ◌≤◌, List, map, Bor, sym, subst, arith}
use Rattle.std.proofs.lemmas.List.{length-map}
use Rattle.kmc_partcore.specs.declared.shape.TheConstants.{MAX_ITEMS}
use Rattle.kmc_record.specs.Shapes.{Sizes}
use Rattle.kmc_stage_one.specs.Causes.{IsCause}
use Rattle.kmc_partqueue.specs.declared.refusal.Refusal.TheVariants.{NumbersSpent}
use Rattle.kmc_stage_one.specs.declared.storing.TheConstants.{CHUNKS_OF_A_SPLITTER}
use Rattle.kmc_stage_one.proofs.storing.store_reads.Goals as goal

few_parts : (n : ℕ) → n ≤ 2000 → CHUNKS_OF_A_SPLITTER * n ≤ MAX_ITEMS
few_parts n le = omega (arith, le)

pub unreachable-requires : goal.unreachable-requires
unreachable-requires g c =
    let p = c.args.settings.now in let sp = p.queue.writers in let batch = c.few_chunks_each.result in
    let reads = map (λ (r : Bor (List ℕ)). r.now) c.args.reads.now in
    let bins = few_parts p.shape.n p.bounds.most_n in
    let same = sym (length-map c.args.reads.now (λ (r : Bor (List ℕ)). r.now)) in
    let all = subst (λ (n : ℕ). n ≤ CHUNKS_OF_A_SPLITTER * sp * batch) same c.few_chunks_each.ensures.all in
    let here = subst (λ e. IsCause p.shape batch reads sp e) c.in-Err-NumbersSpent.field-0-is c.in-Err-NumbersSpent.ensures.cause in
    c.few_chunks_spend_no_numbers.ensures CHUNKS_OF_A_SPLITTER p.shape batch reads sp bins c.few_chunks_each.ensures.some all here
