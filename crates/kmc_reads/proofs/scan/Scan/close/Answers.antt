use Rattle.std.proofs.Common.{rules, vec_len, ◌≡◌, length, [], ◌∷◌, ◌++◌, ap, ◌∙◌, arith}
use Rattle.std.proofs.lemmas.Grind.{common_steps}
use Rattle.kmc_reads.specs.Standing.{kept}
use Rattle.kmc_reads.proofs.Feeding.{closed_bytes, closed_length, closed_ends}
use Rattle.kmc_reads.proofs.scan.Scan.close.Goals as goal

pub returns-clause-keeps : goal.returns-clause-keeps
returns-clause-keeps c = λ rows spot line k none.
    let bytes = c.args.self.now.bytes.items in
    let n = closed_length rows spot.read (kept spot.stage line) bytes none k.bytes in
    let counted : vec_len c.args.self.now.bytes ≡ length bytes = search rules in
    record {
      stage = k.stage;
      number = k.number;
      bytes = closed_bytes rows spot.read (kept spot.stage line) bytes none k.bytes;
      ends = c.in_ok-push.ensures.items ∙ ap (λ t. t ++ c.len.result ∷ []) k.ends ∙ closed_ends rows spot.read c.len.result (c.len.ensures ∙ counted ∙ n);
      start = c.len-self.ensures ∙ counted ∙ n;
      many = k.many;
      first = k.first;
    }

pub returns-in_err-push-clause-ends : goal.returns-in_err-push-clause-ends
returns-in_err-push-clause-ends c = grind (arith, common_steps)

pub returns-clause-ends : goal.returns-clause-ends
returns-clause-ends c = grind (arith, common_steps)
