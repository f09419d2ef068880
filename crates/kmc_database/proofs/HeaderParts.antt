-- A header in its parts.
use Rattle.std.proofs.Common.{◌≡◌, ℕ, List, ◌++◌, length, take, Option, Some, None, sym, ap, ◌∙◌, arith, take_all}
use Rattle.std.proofs.Math.Seq.{take-add}
use Rattle.std.specs.Prelude.{MatchOption}
use Rattle.kmc_database.specs.Files.{header_of, prefix_marker}
use Rattle.kmc_database.specs.Header.{field}
use Rattle.kmc_database.specs.Numbers.{low_first}
use Rattle.kmc_database.specs.declared.layout.Layout.{Layout}

-- bytes of a number that is read
pub is_of : (k n v : ℕ) (bytes : List ℕ) → low_first k n ≡ bytes → n ≡ v → bytes ≡ low_first k v
is_of k n v bytes is same = sym is ∙ ap (low_first k) same

-- the parts of a header
pub header_parts : (bytes : List ℕ) (l : Layout) (rows : ℕ) → length bytes ≡ 72 → field bytes 0 4 ≡ low_first 4 l.k → field bytes 4 4 ≡ low_first 4 0
    → field bytes 8 4 ≡ low_first 4 l.counter → field bytes 12 4 ≡ low_first 4 l.prefix → field bytes 24 8 ≡ low_first 8 rows
    → field bytes 60 4 ≡ low_first 4 0 → field bytes 64 4 ≡ low_first 4 64 → field bytes 68 4 ≡ prefix_marker
    → bytes ≡ header_of l rows (field bytes 16 8) (field bytes 32 28)
header_parts bytes l rows long k mode counter prefix many version size marker =
    let to_8 : take 8 bytes ≡ low_first 4 l.k ++ low_first 4 0 = take-add 4 4 bytes ∙ (λ i. k i ++ mode i) in
    let to_12 = take-add 8 4 bytes ∙ (λ i. to_8 i ++ counter i) in
    let to_16 = take-add 12 4 bytes ∙ (λ i. to_12 i ++ prefix i) in
    let to_24 = take-add 16 8 bytes ∙ ap (λ (t : List ℕ). t ++ field bytes 16 8) to_16 in
    let to_32 = take-add 24 8 bytes ∙ (λ i. to_24 i ++ many i) in
    let to_60 = take-add 32 28 bytes ∙ ap (λ (t : List ℕ). t ++ field bytes 32 28) to_32 in
    let to_64 = take-add 60 4 bytes ∙ (λ i. to_60 i ++ version i) in
    let to_68 = take-add 64 4 bytes ∙ (λ i. to_64 i ++ size i) in
    let to_72 = take-add 68 4 bytes ∙ (λ i. to_68 i ++ marker i) in
    sym (take_all 72 bytes (omega (arith, long))) ∙ to_72

-- what holds of a value, or of none
pub match_option : {X : Type 0} (r : Option X) (P Q : Type 0) (F G : X → Type 0) → (P → Q) → ((x : X) → F x → G x) → MatchOption r P F → MatchOption r Q G
match_option None P Q F G none some h = none h
match_option (Some x) P Q F G none some h = some x h
