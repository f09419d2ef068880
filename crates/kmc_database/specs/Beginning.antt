-- The first line of a dump, and the form of its database.
use Rattle.std.specs.Prelude.{◌≡◌, ℕ, ◌<◌, ◌^◌, true, List, [], Option, None}
use Rattle.kmc_device.specs.Device.{Watched}
use Rattle.kmc_sum.specs.Sources.{IsSource}
use Rattle.kmc_sum.specs.declared.heads.Head.{Head}
use Rattle.kmc_sum.specs.declared.source.Room.{Room}
use Rattle.kmc_database.specs.Answer.{IsCause}
use Rattle.kmc_database.specs.Form.{asked_form, IsAskedLength}
use Rattle.kmc_database.specs.Layout.{IsLayout}
use Rattle.kmc_database.specs.declared.error.PackError.{PackError}
use Rattle.kmc_database.specs.declared.form.Form.{Form}
use Rattle.kmc_database.specs.declared.form.PackOptions.{PackOptions}

-- the form is the one asked for, and the source gave its first head and nothing before it
pub record IsAsked (o : PackOptions) (start now : Option (List ℕ)) (room : Room) (head : Head) (f : Form) : Type 0 where
  pub length : IsAskedLength o.k f.layout.k
  pub form : f ≡ asked_form o f.layout.k
  pub source : IsSource f.layout.k start now room head []
  pub told : o.k ≡ None → head.live ≡ true

-- such a head was read, without a failure
pub record IsBeginning {R : Type 0} (remaining : R → Option (List ℕ)) (o : PackOptions) (reader read : Watched R) (room : Room) (head : Head)
    (f : Form) : Type 0 where
  pub layout : IsLayout f.layout
  pub asked : IsAsked o (remaining reader.inner) (remaining read.inner) room head f
  pub fits : head.packed < 4 ^ f.layout.k
  pub kept : read.failures ≡ reader.failures

-- or there is a cause that there is none, whatever the writers' numbers of failures are
abbrev pub IsNoBeginning : {R : Type 0} → (R → Option (List ℕ)) → PackOptions → Watched R → Watched R → PackError → Type 0
IsNoBeginning remaining o reader read e =
    (prefix suffix : ℕ) → IsCause o (remaining reader.inner) (remaining read.inner)
    (record { reader = reader.failures; prefix = prefix; suffix = suffix }) (record { reader = read.failures; prefix = prefix; suffix = suffix }) e
