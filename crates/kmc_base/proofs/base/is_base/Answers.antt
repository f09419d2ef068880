use Rattle.std.proofs.Common.{◌≡◌, IsTrue, ℕ, Some, None, Bool, true, false, cond, ◌||◌, nat_eq, refl}
use Rattle.kmc_base.proofs.base.is_base.Goals as goal

one_of : (a c g t : Bool) → IsTrue (((a || c) || g) || t) → (x : ℕ) × (cond a (Some 0) (cond c (Some 1) (cond g (Some 2) (cond t (Some 3) None))) ≡ Some x)
one_of true c g t h = (0, refl)
one_of false true g t h = (1, refl)
one_of false false true t h = (2, refl)
one_of false false false true h = (3, refl)
one_of false false false false h = absurd (cc)

pub returns-clause-yes : goal.returns-clause-yes
returns-clause-yes c = one_of ((nat_eq c.args.b 65) || (nat_eq c.args.b 97)) ((nat_eq c.args.b 67) || (nat_eq c.args.b 99))
    ((nat_eq c.args.b 71) || (nat_eq c.args.b 103)) ((nat_eq c.args.b 84) || (nat_eq c.args.b 116))
