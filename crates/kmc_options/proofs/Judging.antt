-- What the parse of the command says of the words.
use Rattle.std.proofs.Common.{◌≡◌, ◌∙◌, List, [], ◌∷◌, ap, arith, false, ne_eqb, length, refl, sym, true}
use Rattle.std.specs.Prelude.{◌==◌}
use Rattle.clap.proofs.OnLiterals.{clap_on_literals}
use Rattle.clap.specs.Faults.{fault_of, is_simple_and_free}
use Rattle.clap.specs.Kinds.{IsAmong, Kinds}
use Rattle.clap.specs.Simple.{App, is_simple, matches_of}
use Rattle.clap.specs.Walk.{Row}
use Rattle.clap.specs.declared.error.kind.ErrorKind.{ErrorKind}
use Rattle.kmc_options.specs.CommandLine.{command, found, is_accepted}
use Rattle.kmc_options.specs.Words.{Word}
use Rattle.kmc_options.specs.declared.program.Program.{Program}
use Rattle.kmc_options.specs.declared.program.Program.TheVariants.{Kmc, KmcMerge, KmcCut, KmcList, KmcDb}

is_plain : (p : Program) → is_simple (command p) ≡ true
unfolding clap_on_literals
is_plain Kmc = refl
is_plain KmcMerge = refl
is_plain KmcCut = refl
is_plain KmcList = refl
is_plain KmcDb = refl

is_judged : (p : Program) → is_simple_and_free (command p) ≡ true
unfolding clap_on_literals
is_judged Kmc = refl
is_judged KmcMerge = refl
is_judged KmcCut = refl
is_judged KmcList = refl
is_judged KmcDb = refl

pub plain : (p : Program) (a : App) → a ≡ command p → is_simple a ≡ true
plain p a e = ap is_simple e ∙ is_plain p

pub judged : (p : Program) (a : App) → a ≡ command p → is_simple_and_free a ≡ true
judged p a e = ap is_simple_and_free e ∙ is_judged p

pub accepts : (p : Program) (a : App) (words : List Word) → a ≡ command p → fault_of a words ≡ [] → is_accepted p words ≡ true
unfolding is_accepted
accepts p a words e none = ap (λ b. length (fault_of b words) == 0) (sym e) ∙ ap (λ ks. length ks == 0) none

some_kind : (k : ErrorKind) (ks : Kinds) → IsAmong k ks → (length ks == 0) ≡ false
some_kind k [] h = absurd h
some_kind k (x ∷ xs) h = ne_eqb _ _ (λ e. omega arith)

pub refuses : (p : Program) (a : App) (words : List Word) (k : ErrorKind) → a ≡ command p → IsAmong k (fault_of a words) → is_accepted p words ≡ false
unfolding is_accepted
refuses p a words k e h = ap (λ b. length (fault_of b words) == 0) (sym e) ∙ some_kind k (fault_of a words) h

pub finds : (p : Program) (a : App) (words : List Word) (rows : List Row) → a ≡ command p → rows ≡ matches_of a words → rows ≡ found p words
unfolding found
finds p a words rows e h = h ∙ ap (λ b. matches_of b words) e
