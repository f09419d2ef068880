-- What a command line in long form says: the command of a program that reads it, and what stands for each option.
use Rattle.std.specs.Prelude.{◌++◌, ◌==◌, ℕ, Bool, true, false, List, [], Option, Some, None, map, length, if◌then◌else◌, codes}
use Rattle.std.specs.Option.{option_map_or}
use Rattle.std.specs.Str.{bytes_eq}
use Rattle.clap.specs.Faults.{fault_of}
use Rattle.clap.specs.Simple.{App, matches_of, new_rule, new_shape}
use Rattle.clap.specs.Walk.{Row, Rule, first_of}
use Rattle.clap.specs.declared.builder.action.ArgAction.{ArgAction}
use Rattle.clap.specs.declared.builder.action.ArgAction.TheVariants.{Set, SetTrue}
use Rattle.kmc_base.specs.declared.strands.Strands.{Strands}
use Rattle.kmc_base.specs.declared.strands.Strands.TheVariants.{Apart, Joined}
use Rattle.kmc_reads.specs.declared.format.Format.{Format}
use Rattle.kmc_reads.specs.declared.format.Format.TheVariants.{Fasta, Fastq}
use Rattle.kmc_options.specs.Words.{Word}
use Rattle.kmc_options.specs.Names.{flag_name, flags_of, name_of, settings_of}
use Rattle.kmc_options.specs.Settings.{bounds_of, chosen}
use Rattle.kmc_options.specs.declared.named.Flag.{Flag}
use Rattle.kmc_options.specs.declared.named.Flag.TheVariants.{B, Fa, Fm, Fq}
use Rattle.kmc_options.specs.declared.program.Program.{Program}
use Rattle.kmc_options.specs.declared.setting.Setting.{Setting}

-- ---- the command

-- two hyphens and the name, at most once
abbrev pub rule_of : ArgAction → List ℕ → Rule
rule_of action name = record (new_rule name) { long = Some name; action = Some action }

-- `--name VALUE` or `--name=VALUE`
abbrev pub option_rule : Setting → Rule
option_rule s = rule_of Set (name_of s)

-- `--name`
abbrev pub flag_rule : Flag → Rule
flag_rule f = rule_of SetTrue (flag_name f)

-- no positional argument, no help, no version, and no option yet
abbrev pub plain : App
plain = record {
  top = record (new_shape (codes "kmc")) {
    no_binary_name = true;
    disable_help_flag = true;
    disable_version_flag = true;
  };
  subs = [];
}

-- the options and the flags of the program, and nothing else: no positional argument, no help, no version
abbrev pub command : Program → App
command program = record {
  top = record (new_shape (codes "kmc")) {
    rules = map option_rule (settings_of program) ++ map flag_rule (flags_of program);
    no_binary_name = true;
    disable_help_flag = true;
    disable_version_flag = true;
  };
  subs = [];
}

-- `clap` finds no fault with the words
unfoldable pub is_accepted : Program → List Word → Bool
is_accepted program words = length (fault_of (command program) words) == 0

-- what `clap` finds in words that it accepts
unfoldable pub found : Program → List Word → List Row
found program words = matches_of (command program) words

-- ---- what stands for a flag and an option

-- a flag that stands has the value `true`
abbrev pub is_set : List Row → Flag → Bool
is_set rows f = option_map_or (bytes_eq (codes "true")) (first_of (flag_name f) rows) false

abbrev pub given_text : List Row → Setting → Option Word
given_text rows s = first_of (name_of s) rows

-- the number of an option; none where what is given for it is out of range
abbrev pub value_of : List Row → Setting → Option ℕ
value_of rows s = chosen (bounds_of s) (given_text rows s)

-- ---- formats and strands

-- by the flags `fa`, `fq` and `fm`, of which at most one may stand; none of them means FASTQ
abbrev pub format_by : Bool → Bool → Bool → Option Format
format_by false false false = Some Fastq
format_by true false false = Some Fasta
format_by false true false = Some Fastq
format_by false false true = Some Fasta
format_by _ _ _ = None

abbrev pub format_of : List Row → Option Format
format_of rows = format_by (is_set rows Fa) (is_set rows Fq) (is_set rows Fm)

abbrev pub strands_of : List Row → Strands
strands_of rows = if is_set rows B then Apart else Joined
