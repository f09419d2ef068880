-- The form of a database.
use Rattle.std.specs.Prelude.{◌≡◌, ℕ, ◌-◌, ◌^◌, min, nat_le, if◌then◌else◌, Option, Some, None}
use Rattle.kmc_sum.specs.Listed.{IsLength}
use Rattle.kmc_database.specs.Layout.{IsLayout, layout_of}
use Rattle.kmc_database.specs.declared.form.Form.{Form}
use Rattle.kmc_database.specs.declared.form.PackOptions.{PackOptions}
use Rattle.kmc_database.specs.declared.layout.Layout.{Layout}

-- the form that is asked for, with this layout
abbrev pub form_of : PackOptions → Layout → Form
form_of o l = record { layout = l; least = o.least; greatest = o.greatest; strands = o.strands }

-- of words of k symbols
abbrev pub asked_form : PackOptions → ℕ → Form
asked_form o k = form_of o (layout_of k o.prefix o.counter)

-- the greatest count as the header tells it: for words of 14 symbols and more KMC tells no more than 2^32 - 1
abbrev pub greatest_told : Form → ℕ
greatest_told f = if nat_le f.layout.k 13 then f.greatest else min f.greatest (2 ^ 32 - 1)

-- words of k symbols are asked for, or words of any length
abbrev pub IsAskedLength : Option ℕ → ℕ → Type 0
IsAskedLength None k = Unit {0}
IsAskedLength (Some asked) k = k ≡ asked

-- where a length of words is asked for, it is one that a dump may have
abbrev pub IsOptions : PackOptions → Type 0
IsOptions o = (k : ℕ) → o.k ≡ Some k → IsLength k

-- the length that is asked for has no layout
abbrev pub IsMisfit : PackOptions → ℕ → Type 0
IsMisfit o k = (o.k ≡ Some k) × (IsLayout (layout_of k o.prefix o.counter) → ⊥)
