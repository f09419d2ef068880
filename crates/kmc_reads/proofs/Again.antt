-- A scan whose buffers and place are the same stands where it stood.
use Rattle.std.proofs.Common.{ap, ◌∙◌}
use Rattle.kmc_reads.specs.declared.scan.Scan.{Scan}
use Rattle.kmc_reads.specs.Standing.{IsAgain, IsSomewhere, StandsStill}

module _ (old new : Scan) (same : IsAgain old new) where
  pub stands_again : StandsStill old new
  stands_again = λ rows spot front at.
      let k = at.keeps in
      record {
        keeps = record {
          stage = ap (λ p. p.stage) same.place ∙ k.stage;
          number = ap (λ p. p.number) same.place ∙ k.number;
          bytes = same.bytes ∙ k.bytes;
          ends = same.ends ∙ k.ends;
          start = ap (λ p. p.start) same.place ∙ k.start;
          many = ap (λ p. p.length) same.place ∙ k.many;
          first = λ some. ap (λ p. p.first) same.place ∙ k.first some;
        };
        held = ap (λ p. p.held) same.place ∙ at.held;
        settled = at.settled;
      }

  pub somewhere_again : IsSomewhere old → IsSomewhere new
  somewhere_again s = record { rows = s.rows; spot = s.spot; front = s.front; stands = stands_again s.rows s.spot s.front s.stands }
