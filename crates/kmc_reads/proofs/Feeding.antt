-- Lines of which more may come, and where a scan stands.
use Rattle.std.proofs.Common.{◌≡◌, ℕ, suc, ◌+◌, ◌-◌, ◌<◌, Bool, true, false, cond, ◌==◌, nat_lt, List, [], ◌∷◌, ◌++◌, length, take, get_or, refl, sym, ap, ◌∙◌, arith, length-append, append-nil, subst, ◌&&◌}
use Rattle.std.proofs.lemmas.Bool.{lt-ltb, eqb-true}
use Rattle.std.proofs.lemmas.List.{get_or-append-add}
use Rattle.std.specs.List.{concat}
use Rattle.std.specs.Io.BufRead.{strip_last, ends_with_byte}
use Rattle.kmc_reads.specs.declared.scan.Scan.{Scan}
use Rattle.kmc_reads.specs.declared.line_kind.LineKind.{LineKind}
use Rattle.kmc_reads.specs.declared.line_kind.LineKind.TheVariants.{Header, Sequence, Plus, Quality, FirstHeader, Body, Name, Rest}
use Rattle.kmc_reads.specs.Fasta.{is_header}
use Rattle.kmc_reads.specs.OpenLines.{last_line}
use Rattle.kmc_reads.specs.Rows.{ends_from}
use Rattle.kmc_reads.specs.Stages.{begun_by, given_by, past}
use Rattle.kmc_reads.specs.Standing.{At}
use Rattle.kmc_reads.proofs.Rows.{concat_snoc, ends_snoc}

pub no_items : (xs : List ℕ) → length xs ≡ 0 → xs ≡ []
no_items [] h = refl
no_items (x ∷ xs) h = absurd (omega arith)

-- the last item of a list that is not empty, and those before it
last_is : (x : ℕ) (xs : List ℕ) → take (length (x ∷ xs) - 1) (x ∷ xs) ++ get_or (x ∷ xs) (length (x ∷ xs) - 1) 0 ∷ [] ≡ x ∷ xs
last_is x [] = refl
last_is x (y ∷ ys) =
    let e : length (x ∷ y ∷ ys) - 1 ≡ suc (length (y ∷ ys) - 1) = grind arith in
    ap (λ n. take n (x ∷ y ∷ ys) ++ get_or (x ∷ y ∷ ys) n 0 ∷ []) e ∙ ap (λ t. x ∷ t) (last_is y ys)

take-more : (n : ℕ) (xs ys : List ℕ) → take (length xs + n) (xs ++ ys) ≡ xs ++ take n ys
take-more n [] ys = ap (λ k. take k ys) (omega arith)
take-more n (x ∷ xs) ys =
    let e : length (x ∷ xs) + n ≡ suc (length xs + n) = grind arith in
    ap (λ k. take k (x ∷ xs ++ ys)) e ∙ ap (λ t. x ∷ t) (take-more n xs ys)

-- one carriage return at the end of a line
pub return_back : (xs : List ℕ) → ends_with_byte 13 xs ≡ true → strip_last 13 xs ++ 13 ∷ [] ≡ xs
return_back [] h = cc
return_back (x ∷ xs) h =
    let l : get_or (x ∷ xs) (length (x ∷ xs) - 1) 0 ≡ 13 = grind arith in
    ap (λ b. cond b (take (length (x ∷ xs) - 1) (x ∷ xs)) (x ∷ xs) ++ 13 ∷ []) h
    ∙ ap (λ d. take (length (x ∷ xs) - 1) (x ∷ xs) ++ d ∷ []) (sym l) ∙ last_is x xs

pub no_return : (xs : List ℕ) → ends_with_byte 13 xs ≡ false → strip_last 13 xs ≡ xs
no_return xs h = ap (λ b. cond b (take (length xs - 1) xs) xs) h

module _ (a b : List ℕ) (some : 0 < length b) where
  last_place : length (a ++ b) - 1 ≡ length a + (length b - 1)
  last_place = omega (arith, length-append a b)

  pub ends_more : ends_with_byte 13 (a ++ b) ≡ ends_with_byte 13 b
  ends_more =
      let most : nat_lt 0 (length (a ++ b)) ≡ true = lt-ltb 0 (length (a ++ b)) (omega (arith, length-append a b)) in
      let own : nat_lt 0 (length b) ≡ true = lt-ltb 0 (length b) some in
      let same : get_or (a ++ b) (length (a ++ b) - 1) 0 ≡ get_or b (length b - 1) 0 = ap (λ n. get_or (a ++ b) n 0) last_place
      ∙ get_or-append-add a b (length b - 1) 0 in
      λ i. (most ∙ sym own) i && (same i == 13)

  pub strip_more : strip_last 13 (a ++ b) ≡ a ++ strip_last 13 b
  strip_more =
      let cut : take (length (a ++ b) - 1) (a ++ b) ≡ a ++ take (length b - 1) b = ap (λ n. take n (a ++ b)) last_place ∙ take-more (length b - 1) a b in
      (λ i. cond (ends_more i) (cut i) (a ++ b)) ∙ go (ends_with_byte 13 b)
    where
      go : (t : Bool) → cond t (a ++ take (length b - 1) b) (a ++ b) ≡ a ++ cond t (take (length b - 1) b) b
      go true = refl
      go false = refl

-- a read is whole
pub closed_bytes : (rows : List (List ℕ)) (read rest bytes : List ℕ) → rest ≡ [] → bytes ≡ concat rows ++ (read ++ rest) → bytes ≡ concat
    (rows ++ read ∷ []) ++ ([] ++ rest)
closed_bytes rows read rest bytes none e =
    e ∙ ap (λ (t : List ℕ). concat rows ++ (read ++ t)) none ∙ ap (λ (t : List ℕ). concat rows ++ t) (append-nil read) ∙ sym (concat_snoc rows read)
    ∙ sym (append-nil (concat (rows ++ read ∷ []))) ∙ ap (λ (t : List ℕ). concat (rows ++ read ∷ []) ++ t) (sym none)

pub closed_length : (rows : List (List ℕ)) (read rest bytes : List ℕ) → rest ≡ [] → bytes ≡ concat rows ++ (read ++ rest) → length bytes ≡ length
    (concat (rows ++ read ∷ []))
closed_length rows read rest bytes none e =
    ap length (closed_bytes rows read rest bytes none e ∙ ap (λ (t : List ℕ). concat (rows ++ read ∷ []) ++ t) none ∙ append-nil (concat (rows ++ read ∷ [])))

pub closed_ends : (rows : List (List ℕ)) (read : List ℕ) (n : ℕ) → n ≡ length (concat (rows ++ read ∷ [])) → ends_from 0 rows ++ n ∷ [] ≡ ends_from 0
    (rows ++ read ∷ [])
closed_ends rows read n e =
    let k : n ≡ 0 + length (concat rows) + length read = grind (arith, e, ap length (concat_snoc rows read), length-append (concat rows) read) in
    ap (λ t. ends_from 0 rows ++ t ∷ []) k ∙ sym (ends_snoc 0 rows read)

-- a header's first byte is never its end
pub header_stripped : (front : List ℕ) → is_header (strip_last 13 front) ≡ is_header front
header_stripped [] = refl
header_stripped (x ∷ y ∷ ys) = go (ends_with_byte 13 (x ∷ y ∷ ys))
  where
    go : (t : Bool) → is_header (cond t (take (length (x ∷ y ∷ ys) - 1) (x ∷ y ∷ ys)) (x ∷ y ∷ ys)) ≡ is_header (x ∷ y ∷ ys)
    go false = refl
    go true =
        let e : length (x ∷ y ∷ ys) - 1 ≡ suc (length (y ∷ ys) - 1) = grind arith in
        ap (λ n. is_header (take n (x ∷ y ∷ ys))) e
header_stripped (x ∷ []) = go (x == 13) refl
  where
    go : (t : Bool) → (x == 13) ≡ t → is_header (cond t [] (x ∷ [])) ≡ is_header (x ∷ [])
    go false is = refl
    go true is =
        let e : x ≡ 13 = eqb-true x 13 is in
        ap (λ n. n == 62) (sym e)

pub settled_stripped : (stage : LineKind) (read front : List ℕ) → begun_by stage read front ≡ [] → begun_by stage read (strip_last 13 front) ≡ []
settled_stripped Header read front h = refl
settled_stripped Sequence read front h = refl
settled_stripped Plus read front h = refl
settled_stripped Quality read front h = refl
settled_stripped FirstHeader read front h = refl
settled_stripped Name read front h = refl
settled_stripped Rest read front h = refl
settled_stripped Body read front h = ap (λ t. cond t (read ∷ []) []) (header_stripped front) ∙ h

-- only a quality line gives a read then
pub none_given : (stage : LineKind) (read line : List ℕ) → (stage ≡ Quality → ⊥) → begun_by stage read line ≡ [] → given_by stage read line ≡ []
none_given Quality read line other h = absurd (other refl)
none_given Header read line other h = refl
none_given Sequence read line other h = refl
none_given Plus read line other h = refl
none_given FirstHeader read line other h = refl
none_given Body read line other h = h
none_given Name read line other h = refl
none_given Rest read line other h = refl

module _ (rows : List (List ℕ)) (n : ℕ) (read line : List ℕ) (w : Scan) where
  pub given : (st : LineKind) → st ≡ Quality → At (rows ++ read ∷ []) (past (record { number = n; stage = st; read = [] }) line) [] w → At
      (rows ++ given_by st read line) (past (record { number = n; stage = st; read = read }) line) [] w
  given Quality q h = h
  given Header q h = cc
  given Sequence q h = cc
  given Plus q h = cc
  given FirstHeader q h = cc
  given Body q h = cc
  given Name q h = cc
  given Rest q h = cc

  pub not_given : (st : LineKind) → (st ≡ Quality → ⊥) → begun_by st read line ≡ [] → At rows
      (past (record { number = n; stage = st; read = read }) line) [] w → At (rows ++ given_by st read line)
      (past (record { number = n; stage = st; read = read }) line) [] w
  not_given st other none h = subst (λ t. At t (past (record { number = n; stage = st; read = read }) line) [] w)
      (sym (append-nil rows) ∙ ap (λ (t : List (List ℕ)). rows ++ t) (sym (none_given st read line other none))) h

-- a line is open
pub last_is_line : (front : List ℕ) → (front ≡ [] → ⊥) → last_line front ≡ strip_last 13 front ∷ []
last_is_line [] some = absurd (some refl)
last_is_line (b ∷ bs) some = refl
