-- How a word lies in a number: two bits a code, the last code lowest.
use Rattle.std.specs.Prelude.{ℕ, ◌+◌, ◌*◌, ◌/◌, ◌%◌, ◌^◌, ◌<◌, ◌≤◌, List, [], ◌∷◌, ◌++◌}
use Rattle.std.proofs.Common.{zero, suc}
use Rattle.kmc_base.specs.declared.kmer.TheConstants.{MAX_K}
use Rattle.kmc_base.specs.declared.kmer.Kmer.TheInside.{Inside}

-- the n last codes of a packed word
abbrev pub unpack : ℕ → ℕ → List ℕ
unpack zero p = []
unpack (suc n) p = unpack n (p / 4) ++ p % 4 ∷ []

abbrev pub pack_after : ℕ → List ℕ → ℕ
pack_after p [] = p
pack_after p (c ∷ cs) = pack_after (p * 4 + c) cs

abbrev pub pack : List ℕ → ℕ
pack = pack_after 0

pub record IsPacked (a : Inside) : Type 0 where
  pub some : 1 ≤ a.k
  pub most : a.k ≤ MAX_K
  pub fits : a.packed < 4 ^ a.k
