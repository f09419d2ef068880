use Rattle.std.proofs.Common.{◌≡◌, ◌++◌, sym, subst, ap, ◌∙◌}
use Rattle.std.specs.Io.BufRead.{strip_last}
use Rattle.kmc_reads.specs.Standing.{Keeps}
use Rattle.kmc_reads.proofs.Feeding.{strip_more, ends_more}
use Rattle.kmc_reads.proofs.Walking.{take_front}
use Rattle.kmc_reads.proofs.scan.Scan.grow.Goals as goal

pub returns-clause-at : goal.returns-clause-at
returns-clause-at c = λ rows spot front at some settled.
    let released = c.in_ok-release.ensures.keeps rows spot front at in
    let added = c.in_ok-add.ensures.keeps rows spot front released in
    let content : front ++ c.cut_return-held.result.0.now ≡ strip_last 13 (front ++ c.args.bytes.now) = ap
    (λ t. front ++ t) c.cut_return-held.ensures.content ∙ sym (strip_more front c.args.bytes.now some) in
    let k = subst (λ t. Keeps rows spot t c.add.new.self) content added in
    record {
      keeps = record { stage = k.stage; number = k.number; bytes = k.bytes; ends = k.ends; start = k.start; many = k.many; first = k.first };
      held = c.cut_return-held.ensures.held ∙ sym (ends_more front c.args.bytes.now some);
      settled = settled;
    }

pub returns-in_err-add-clause-bytes : goal.returns-in_err-add-clause-bytes
returns-in_err-add-clause-bytes c = take_front _ _ _ c.release.ensures.bytes c.add.ensures.bytes

pub returns-clause-bytes : goal.returns-clause-bytes
returns-clause-bytes c = take_front _ _ _ c.release.ensures.bytes c.add.ensures.bytes
