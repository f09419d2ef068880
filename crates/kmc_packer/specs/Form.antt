-- The form of the database of a count.
use Rattle.std.specs.Prelude.{ℕ, ◌-◌, ◌^◌, min, Option}
use Rattle.kmc_options.specs.declared.run_params.Params.{Params}
use Rattle.kmc_database.specs.Layout.{layout_of}
use Rattle.kmc_database.specs.Numbers.{counter_bytes}
use Rattle.kmc_database.specs.declared.form.Form.{Form}

-- words as long as the settings ask for, with this first part or the usual one; counts as wide as the cap and the greatest listed count
-- want it; and the limits and the strands of the settings
abbrev pub counted_form : Params → Option ℕ → Form
counted_form p first_part = record {
  layout = layout_of p.k first_part (counter_bytes p.limits.cs p.limits.cx);
  least = min p.limits.ci (2 ^ 32 - 1);
  greatest = p.limits.cx;
  strands = p.strands;
}
