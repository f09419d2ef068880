-- The first head of a dump, and what was asked for.
use Rattle.std.proofs.Common.{◌≡◌, ℕ, zero, suc, ◌^◌, ◌<◌, ◌≤◌, ◌⊎◌, inl, inr, cond, true, false, max, unwrap_or, List, [], ◌∷◌, Option, Some, None, refl, sym, ap, subst, ◌∙◌, arith}
use Rattle.kmc_base.specs.Packed.{unpack}
use Rattle.kmc_device.specs.Device.{GaveAll, Watched}
use Rattle.kmc_sum.specs.Faults.{GaveFront}
use Rattle.kmc_sum.specs.Listed.{IsLength}
use Rattle.kmc_sum.specs.Refusals.{BeginsWith}
use Rattle.kmc_sum.specs.Source.{unread}
use Rattle.kmc_sum.specs.Sources.{Agrees, IsSource}
use Rattle.kmc_sum.specs.declared.heads.Head.{Head}
use Rattle.kmc_sum.specs.declared.source.Room.{Room}
use Rattle.kmc_database.specs.Beginning.{IsBeginning}
use Rattle.kmc_database.specs.Form.{form_of, IsAskedLength}
use Rattle.kmc_database.specs.Layout.{IsLayout, layout_of}
use Rattle.kmc_database.specs.declared.form.Form.{Form}
use Rattle.kmc_database.specs.declared.form.PackOptions.{PackOptions}
use Rattle.kmc_database.specs.declared.layout.Layout.{Layout}
use Rattle.kmc_database.proofs.Exits.{all_given}

-- ---- the length of words that was asked for

module _ (asked : Option ℕ) (sound : (k : ℕ) → asked ≡ Some k → IsLength k) where
  pub none_asked : unwrap_or asked 0 ≡ 0 → asked ≡ None
  none_asked e = go asked sound e
    where
      go : (m : Option ℕ) → ((k : ℕ) → m ≡ Some k → IsLength k) → unwrap_or m 0 ≡ 0 → m ≡ None
      go None sound e = refl
      go (Some k) sound e = absurd (omega (arith, e, (sound k refl).0))

  pub some_asked : (n : ℕ) → 1 ≤ n → unwrap_or asked 0 ≡ n → asked ≡ Some n
  some_asked n some e = go asked e
    where
      go : (m : Option ℕ) → unwrap_or m 0 ≡ n → m ≡ Some n
      go None e = absurd (omega (arith, e, some))
      go (Some k) e = ap Some e

  pub length_asked : (found k : ℕ) → (unwrap_or asked 0 ≡ 0) ⊎ (found ≡ unwrap_or asked 0) → k ≡ max found 1 → IsAskedLength asked k
  length_asked found k agree is = go asked sound agree
    where
      go : (m : Option ℕ) → ((j : ℕ) → m ≡ Some j → IsLength j) → (unwrap_or m 0 ≡ 0) ⊎ (found ≡ unwrap_or m 0) → IsAskedLength m k
      go None sound agree = tt
      go (Some j) sound (inl none) = absurd (omega (arith, none, (sound j refl).0))
      go (Some j) sound (inr same) = let some = (sound j refl).0 in omega (arith, same, is, some)

pub agrees : (found k : ℕ) → k ≡ max found 1 → Agrees found k
agrees found k is = go found is
  where
    go : (n : ℕ) → k ≡ max n 1 → (n ≡ 0) ⊎ (n ≡ k)
    go zero e = inl refl
    go (suc n) e = inr (omega (arith, e))

-- ---- refusals

-- a source that is at its end gave nothing
pub gave_nothing : (k : ℕ) (start now : Option (List ℕ)) (room : Room) (head : Head) → head.live ≡ false → IsSource k start now room head []
    → GaveAll start now []
gave_nothing k start now room head end source =
    let ended = source.ended end in ((all_given k start now head [] (unread room) end ended.0 source.gave).bytes, ended.1)

-- a source that is not has a first line
pub begins : (k : ℕ) (start now : Option (List ℕ)) (room : Room) (head : Head) → head.live ≡ true → IsSource k start now room head []
    → BeginsWith k start now
begins k start now room head live source = record {
  pair = (unpack k head.packed, head.count);
  rest = unread room;
  gave = subst (λ b. GaveFront k start now (cond b ((unpack k head.packed, head.count) ∷ []) []) (unread room)) live source.gave;
}

-- ---- a beginning

pub beginning : {R : Type 0} (remaining : R → Option (List ℕ)) (o : PackOptions) (reader read : Watched R) (room : Room) (head : Head)
    (layout : Layout) (f : Form) (k : ℕ) → layout ≡ layout_of k o.prefix o.counter → IsLayout layout → f ≡ form_of o layout → IsAskedLength o.k k
    → IsSource k (remaining reader.inner) (remaining read.inner) room head [] → head.packed < 4 ^ k → (o.k ≡ None → head.live ≡ true)
    → read.failures ≡ reader.failures → IsBeginning remaining o reader read room head f
beginning remaining o reader read room head layout f k layout_is is form_is asked source fits told kept =
    subst (λ (h : Form). IsBeginning remaining o reader read room head h) (sym (form_is ∙ ap (form_of o) layout_is)) (record {
      layout = subst IsLayout layout_is is;
      asked = record { length = asked; form = refl; source = source; told = told };
      fits = fits;
      kept = kept;
    })
