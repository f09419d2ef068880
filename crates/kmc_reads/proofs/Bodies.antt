-- Lines go onto the open read.
use Rattle.std.proofs.Common.{◌≡◌, ℕ, Bool, true, false, cond, List, [], ◌∷◌, ◌++◌, refl, sym, ap, append_assoc}
use Rattle.kmc_reads.specs.Fasta.{is_header, onto_read, reads_after}

pub onto_onto : (a b : List ℕ) (rs : List (List ℕ)) → onto_read a (onto_read b rs) ≡ onto_read (a ++ b) rs
onto_onto a b [] = refl
onto_onto a b (r ∷ rs) = ap (λ (t : List ℕ). t ∷ rs) (sym (append_assoc a b r))

-- there is always an open read
pub onto_none : (ls : List (List ℕ)) → onto_read [] (reads_after ls) ≡ reads_after ls
onto_none [] = refl
onto_none (l ∷ ls) = go (is_header l)
  where
    go : (b : Bool) → onto_read [] (cond b ([] ∷ reads_after ls) (onto_read l (reads_after ls))) ≡ cond b ([] ∷ reads_after ls) (onto_read l (reads_after ls))
    go true = refl
    go false = onto_onto [] l (reads_after ls)
