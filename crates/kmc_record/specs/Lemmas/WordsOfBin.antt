-- Words that belong to a bin, and words among them.
use Rattle.std.proofs.Common.{◌≡◌, ℕ, ◌+◌, ◌-◌, List, ◌++◌, length, get_or, refl, sym, ap, ◌∙◌, arith}
use Rattle.std.proofs.lemmas.List.{length-append, get_or_append_left, get_or-append_right}
use Rattle.kmc_split.specs.Signature.{bin_of}
use Rattle.kmc_record.specs.Bodies.{Belong}
use Rattle.kmc_record.specs.Shapes.{Sizes}

module _ (bin : ℕ) (shape : Sizes) where
  -- the first of them
  pub front_belongs : (us vs : List (List ℕ)) → Belong bin shape (us ++ vs) → Belong bin shape us
  front_belongs us vs h = λ i d less.
      ap (bin_of shape.m shape.n) (sym (get_or_append_left us vs d i less)) ∙ h i d (omega (arith, less, length-append us vs))

  -- those behind
  pub back_belongs : (us vs : List (List ℕ)) → Belong bin shape (us ++ vs) → Belong bin shape vs
  back_belongs us vs h = λ i d less.
      ap (bin_of shape.m shape.n) (sym (get_or-append_right us vs (length us) (length us + i) d refl (omega arith)
      ∙ ap (λ m. get_or vs m d) (let m : length us + i - length us ≡ i = omega arith in m)))
      ∙ h (length us + i) d (omega (arith, less, length-append us vs))
