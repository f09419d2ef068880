use Rattle.std.proofs.Common.{ℕ, ◌≡◌, ◌*◌, ◌<◌, ◌≤◌, sym, subst, arith}
use Rattle.std.specs.Int.{div_ceil}
use Rattle.std.proofs.Math.Nat.{mul-le-mul_right}
use Rattle.std.proofs.lemmas.Grind.{div_ceil_times}
use Rattle.kmc_stage_one.specs.declared.storing.TheConstants.{CHUNKS_OF_A_SPLITTER}
use Rattle.kmc_stage_one.proofs.storing.few_chunks_each.Goals as goal

-- where shares cover the reads, and chunks each share, the chunks of all shares cover the reads
covered : (reads sp most share each : ℕ) → 0 < sp → 0 < most → share ≡ div_ceil reads sp → each ≡ div_ceil share most → reads ≤ most * sp * each
covered reads sp most share each splitters some is_share is_each =
    let shares : reads ≤ share * sp = subst (λ s. reads ≤ s * sp) (sym is_share) (div_ceil_times reads sp splitters).0 in
    let chunks : share ≤ each * most = subst (λ s. share ≤ s * most) (sym is_each) (div_ceil_times share most some).0 in
    let all : share * sp ≤ each * most * sp = mul-le-mul_right sp chunks in
    let turned : each * most * sp ≡ most * sp * each = grind arith in
    omega (arith, shares, all, turned)

some_chunks : 0 < CHUNKS_OF_A_SPLITTER
some_chunks = omega arith

pub returns-else-each-eq0-clause-all : goal.returns-else-each-eq0-clause-all
returns-else-each-eq0-clause-all c = covered c.args.reads c.args.splitters CHUNKS_OF_A_SPLITTER c.div_ceil-share.result c.div_ceil-each.result c.requires
    some_chunks c.div_ceil-share.ensures c.div_ceil-each.ensures
