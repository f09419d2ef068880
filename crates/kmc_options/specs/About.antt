-- What words ask for beside the work, and what is shown then.
use Rattle.std.specs.Prelude.{◌≡◌, ◌||◌, ℕ, Bool, cond, List, Option, codes}
use Rattle.std.specs.Io.KnownBytes.{Appends}
use Rattle.std.specs.List.{list_any}
use Rattle.std.specs.Str.{bytes_eq}
use Rattle.kmc_device.specs.Device.{AppendsFront, RisesByOne, Watched}
use Rattle.kmc_options.specs.Words.{Word}
use Rattle.kmc_options.specs.declared.about.TheConstants.{VERSION}

abbrev pub has_word : Word → List Word → Bool
has_word word words = list_any (λ other. bytes_eq other word) words

-- help or the version is asked for
abbrev pub is_asked : List Word → Bool
is_asked words = has_word (codes "--help") words || has_word (codes "--version") words

-- the text that is asked for: help before the version
abbrev pub text_asked : List ℕ → List Word → List ℕ
text_asked help words = cond (has_word (codes "--help") words) help VERSION.now

-- the text was written, and no call of the device failed
pub record Shows {W : Type 0} (contents : W → Option (List ℕ)) (text : List ℕ) (writer written : Watched W) : Type 0 where
  pub out : Appends (contents writer.inner) (contents written.inner) text
  pub kept : written.failures ≡ writer.failures

-- a call of the device failed, and a front of the text is out
pub record ShowsFront {W : Type 0} (contents : W → Option (List ℕ)) (text : List ℕ) (writer written : Watched W) : Type 0 where
  pub out : AppendsFront (contents writer.inner) (contents written.inner) text
  pub failed : RisesByOne writer.failures written.failures
