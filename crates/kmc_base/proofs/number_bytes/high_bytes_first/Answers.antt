use Rattle.std.proofs.Common.{◌≡◌, ◌/◌, ◌%◌, ◌^◌, ◌++◌, length, refl, ap, ◌∙◌}
use Rattle.std.specs.Int.{bytes_high_first}
use Rattle.kmc_base.proofs.Halves.{halves_joined, of_halves}
use Rattle.kmc_base.proofs.number_bytes.high_bytes_first.Goals as goal

pub returns : goal.returns
returns c =
    let n = c.args.number in
    let a = c.copy_from_slice.new.self in
    let b = c.copy_from_slice-2.new.self in
    let high : a ≡ bytes_high_first 8 (n / 2 ^ 64) = c.copy_from_slice.ensures.after ∙ c.to_be_bytes.ensures in
    let low : b ≡ bytes_high_first 8 (n % 2 ^ 64) = c.copy_from_slice-2.ensures.after ∙ c.to_be_bytes-2.ensures in
    halves_joined a b _ (ap length high) (ap length low) refl ∙ (λ i. high i ++ low i) ∙ of_halves n
