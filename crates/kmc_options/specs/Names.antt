-- The options and flags of the programs, and their names.
use Rattle.std.specs.Prelude.{ℕ, List, [], ◌∷◌, codes}
use Rattle.kmc_options.specs.declared.named.Flag.{Flag}
use Rattle.kmc_options.specs.declared.named.Flag.TheVariants.{Fa, Fq, Fm, B}
use Rattle.kmc_options.specs.declared.program.Program.{Program}
use Rattle.kmc_options.specs.declared.program.Program.TheVariants.{Kmc, KmcMerge, KmcCut, KmcList, KmcDb}
use Rattle.kmc_options.specs.declared.setting.Setting.{Setting}
use Rattle.kmc_options.specs.declared.setting.Setting.TheVariants.{K, P, N, Ci, Cx, Cs, Sp, Sr}

-- the options in the order in which their values are judged
abbrev pub settings : List Setting
settings = K ∷ P ∷ N ∷ Ci ∷ Cx ∷ Cs ∷ Sp ∷ Sr ∷ []

-- and those of each program
abbrev pub settings_of : Program → List Setting
settings_of Kmc = settings
settings_of KmcMerge = Ci ∷ Cx ∷ Cs ∷ []
settings_of KmcCut = K ∷ P ∷ N ∷ Sp ∷ []
settings_of KmcList = Ci ∷ Cx ∷ Cs ∷ Sr ∷ []
settings_of KmcDb = Ci ∷ Cx ∷ Cs ∷ []

-- the name of an option, without hyphens
abbrev pub name_of : Setting → List ℕ
name_of K = codes "k"
name_of P = codes "p"
name_of N = codes "n"
name_of Ci = codes "ci"
name_of Cx = codes "cx"
name_of Cs = codes "cs"
name_of Sp = codes "sp"
name_of Sr = codes "sr"

-- the usage line of each program
abbrev pub usage_of : Program → List ℕ
usage_of Kmc = codes "usage: kmc [-fa|-fq|-fm] [-k<len>] [-p<len>] [-ci<n>] [-cx<n>] [-cs<n>] [-n<bins>] [-sp<n>] [-sr<n>] [-b]"
usage_of KmcMerge = codes "usage: kmc_merge [-ci<n>] [-cx<n>] [-cs<n>] a.dump b.dump .."
usage_of KmcCut = codes "usage: kmc_cut [-fa|-fq|-fm] [-k<len>] [-p<len>] [-n<bins>] [-sp<n>] -slices<S> [--force] <prefix>"
usage_of KmcList = codes "usage: kmc_list [-ci<n>] [-cx<n>] [-cs<n>] [-sr<n>] [-b] <file> .."
usage_of KmcDb = codes "usage: kmc_db union|intersect|subtract|counters-subtract [-oc<choice>] [-ci<n>] [-cx<n>] [-cs<n>] a.dump b.dump, or kmc_db table [-cs<n>] a.dump b.dump, or kmc_db histogram a.dump, or kmc_db query [-b] a.dump|<name> < words"

-- the flags
abbrev pub flags : List Flag
flags = Fa ∷ Fq ∷ Fm ∷ B ∷ []

-- and those of each program
abbrev pub flags_of : Program → List Flag
flags_of Kmc = flags
flags_of KmcMerge = []
flags_of KmcCut = Fa ∷ Fq ∷ Fm ∷ []
flags_of KmcList = B ∷ []
flags_of KmcDb = []

abbrev pub flag_name : Flag → List ℕ
flag_name Fa = codes "fa"
flag_name Fq = codes "fq"
flag_name Fm = codes "fm"
flag_name B = codes "b"
