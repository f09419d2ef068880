-- What went out of a file that is gathered in a buffer.
use Rattle.std.proofs.Common.{◌≡◌, List, ℕ, ◌++◌, Option, sym, ap, subst, ◌∙◌, append_assoc}
use Rattle.std.proofs.KnownBytes.{Appends-trans}
use Rattle.std.specs.Io.KnownBytes.{Appends}
use Rattle.kmc_device.specs.Device.{AppendsFront, WritesOut}
use Rattle.kmc_device.specs.Lemmas.Devices.{front_after}
use Rattle.kmc_sum.specs.Lemmas.Written.{out_more}

-- more is put, and it is known by another name
pub out_as : (a b c : Option (List ℕ)) (text held more left whole : List ℕ) → text ++ more ≡ whole → WritesOut a b text held
    → WritesOut b c (held ++ more) left → WritesOut a c whole left
out_as a b c text held more left whole is before now = subst (λ (t : List ℕ). WritesOut a c t left) is (out_more a b c text held more left before now)

-- a front of what was held and of more went out
pub front_more : (a b c : Option (List ℕ)) (text held more : List ℕ) → WritesOut a b text held → AppendsFront b c (held ++ more)
    → AppendsFront a c (text ++ more)
front_more a b c text held more before now =
    let is : before.0 ++ (held ++ more) ≡ text ++ more = sym (append_assoc before.0 held more) ∙ ap (λ (t : List ℕ). t ++ more) before.1 in
    subst (AppendsFront a c) is (front_after a b c before.0 (held ++ more) before.2 now)

-- all that was held and more went out
pub all_out : (a b c : Option (List ℕ)) (text held more : List ℕ) → WritesOut a b text held → Appends b c (held ++ more) → Appends a c (text ++ more)
all_out a b c text held more before now =
    let is : before.0 ++ (held ++ more) ≡ text ++ more = sym (append_assoc before.0 held more) ∙ ap (λ (t : List ℕ). t ++ more) before.1 in
    subst (Appends a c) is (Appends-trans a b c before.0 (held ++ more) before.2 now)
