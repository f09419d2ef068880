-- The header at the end of a file that was read through.
use Rattle.std.proofs.Common.{◌≡◌, ℕ, ◌-◌, ◌^◌, ◌<◌, inl, inr, min, List, [], ◌++◌, length, Option, sym, ap, subst, ◌∙◌, arith, append_assoc, length-append}
use Rattle.std.specs.Prelude.{◌≢◌, slice_index}
use Rattle.kmc_base.specs.declared.strands.Strands.{Strands}
use Rattle.kmc_database.specs.Files.{prefix_long}
use Rattle.kmc_database.specs.Header.{IsFormFault, IsHeaderOf}
use Rattle.kmc_database.specs.Layout.{IsLayout}
use Rattle.kmc_database.specs.Unpacked.{EndsInHeader, EndsInNoHeader, IsOfOtherLength, IsReadThrough, IsTold, TellsStrands, strands_by}
use Rattle.kmc_database.specs.declared.layout.Layout.{Layout}
use Rattle.kmc_database.specs.declared.reading.FormFault.{FormFault}
use Rattle.kmc_database.specs.declared.reading.Header.{Header}
use Rattle.kmc_database.proofs.Words.{few_parts}

-- a prefix file is not too long to be counted
pub prefix_small : (l : Layout) → IsLayout l → prefix_long l < 2 ^ 64 - 1
prefix_small l is = omega (arith, few_parts l is)

module _ (a b : Option (List ℕ)) (last : List ℕ) (size : ℕ) (told : IsTold a b last size) where
  -- too short for a header
  pub too_short : length last < 72 → IsOfOtherLength a b
  too_short few =
      let none : told.front ≡ [] = elim (told.held) [ inl many ↦ absurd (omega (arith, many, few)) | inr none ↦ none ] in
      record {
        front = told.front;
        last = last;
        read = told.read;
        other = inl (omega (arith, few, ap length none, length-append told.front last));
      }

  module _ (x tail : List ℕ) (is : last ≡ x ++ tail) where
    abbrev front : List ℕ
    front = told.front ++ x

    whole_is : told.front ++ last ≡ front ++ tail
    whole_is = ap (λ (t : List ℕ). told.front ++ t) is ∙ sym (append_assoc told.front x tail)

    read : IsReadThrough a b (front ++ tail)
    read = subst (IsReadThrough a b) whole_is told.read

    many : size ≡ min (length (front ++ tail)) (2 ^ 64 - 1)
    many = told.many ∙ ap (λ (t : List ℕ). min (length t) (2 ^ 64 - 1)) whole_is

    pub header_found : (h : Header) → IsHeaderOf tail h → size ≡ prefix_long h.layout → EndsInHeader a b h
    header_found h header sum =
        let small = prefix_small h.layout header.layout in
        let long : length (front ++ tail) ≡ prefix_long h.layout = omega (arith, many, sum, small) in
        record {
          front = front;
          last = tail;
          gave = (read.gave, elim (read.whole) [ inl end ↦ end | inr over ↦ absurd (omega (arith, over, long, small)) ]);
          header = header;
          long = long;
        }

    pub strands_found : (h : Header) → IsHeaderOf tail h → size ≡ prefix_long h.layout → length tail ≡ 72 → (s : Strands)
        → s ≡ strands_by (slice_index tail 32) → TellsStrands a b s
    unfolding header_found
    strands_found h header sum long s is =
        let found = header_found h header sum in record { front = front; last = tail; gave = found.gave; long = long; is = is }

    pub other_length : (h : Header) → IsHeaderOf tail h → size ≢ prefix_long h.layout → IsOfOtherLength a b
    other_length h header differ = record {
      front = front;
      last = tail;
      read = read;
      other = inr (h, header, λ e. differ (omega (arith, many, e, prefix_small h.layout header.layout)));
    }

    pub no_header : (fault : FormFault) → length tail ≡ 72 → IsFormFault tail fault → EndsInNoHeader a b fault
    no_header fault long is = record { front = front; last = tail; read = read; long = long; is = is }
