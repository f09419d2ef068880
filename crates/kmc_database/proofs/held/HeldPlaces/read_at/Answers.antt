use Rattle.std.proofs.Common.{◌≡◌, ℕ, ◌+◌, ◌-◌, List, [], ◌++◌, Option, length, take, drop, ap, ◌∙◌, arith}
use Rattle.std.specs.Prelude.{unwrap_or}
use Rattle.std.proofs.lemmas.List.{take-append-drop}
use Rattle.kmc_database.proofs.held.HeldPlaces.read_at.Goals as goal

pub returns-clause-read : goal.returns-clause-read
returns-clause-read c = λ xs known.
    let n = length c.args.buffer.now in
    let same : c.args.self.now.bytes.items ≡ xs = ap (λ (o : Option (List ℕ)). unwrap_or o []) known in
    let whole : c.deref.result.now ≡ xs = c.deref.ensures.value ∙ same in
    let size : c.args.place + n - c.args.place ≡ n = omega arith in
    let copied : c.copy_from_slice.new.self ≡ take n (drop c.args.place xs) =
    c.copy_from_slice.ensures.after ∙ ap (λ m. take m (drop c.args.place c.deref.result.now)) size ∙ ap (λ (t : List ℕ). take n (drop c.args.place t)) whole in
    (drop n (drop c.args.place xs), ap (λ (t : List ℕ). t ++ drop n (drop c.args.place xs)) copied ∙ take-append-drop n (drop c.args.place xs))
