use Rattle.std.proofs.Common.{◌∙◌, ℕ, List, [], ◌++◌, ap, append-nil, append_assoc, sym}
use Rattle.std.specs.Prelude.{codes}
use Rattle.std.proofs.lemmas.Result.{IfOk-weaker}
use Rattle.kmc_options.specs.Names.{name_of}
use Rattle.kmc_options.proofs.glued.with_value.Goals as goal

pub returns : goal.returns
returns c =
    let name = name_of c.args.setting in let value = c.args.value.now in
    IfOk-weaker c.concat.result _ _
    (λ long is. is ∙ ap (λ (t : List ℕ). codes "--" ++ (t ++ (codes "=" ++ (value ++ [])))) c.name-name.ensures
    ∙ ap (λ (t : List ℕ). codes "--" ++ (name ++ (codes "=" ++ t))) (append-nil value)
    ∙ ap (λ (t : List ℕ). codes "--" ++ t) (sym (append_assoc name (codes "=") value)))
    c.concat.ensures.ok
