-- What a reader of the dump of a database has left.
use Rattle.std.specs.Prelude.{ℕ, List, [], ◌++◌, if◌then◌else◌, Option, Some, None}
use Rattle.kmc_database.specs.DumpText.{steps_left, text_from}
use Rattle.kmc_database.specs.LeftOf.{left_of}
use Rattle.kmc_database.specs.declared.reader.DatabaseReader.{DatabaseReader}

-- what is made of the bytes of both files, where both are known
abbrev pub of_both : (List ℕ → List ℕ → List ℕ) → Option (List ℕ) → Option (List ℕ) → Option (List ℕ)
of_both f (Some p) (Some s) = Some (f p s)
of_both f (Some p) None = None
of_both f None s = None

-- the text that a reader has left, of what is left of both files: the line in hand and the text behind it, or that line alone at the end
abbrev pub text_left : {R : Type 0} → DatabaseReader R → List ℕ → List ℕ → List ℕ
text_left r p s = r.line ++ (if r.ended then [] else text_from r.header r.at p s)

-- that text, where it is known
abbrev pub rest_of : {R : Type 0} → (R → Option (List ℕ)) → DatabaseReader R → Option (List ℕ)
rest_of remaining r = of_both (text_left r) (left_of remaining r.prefix) (left_of remaining r.suffix)

-- the steps that it has left
abbrev pub steps_of : {R : Type 0} → DatabaseReader R → ℕ
steps_of r = if r.ended then 0 else steps_left r.header r.at
