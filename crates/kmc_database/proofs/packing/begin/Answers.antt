use Rattle.std.proofs.Common.{◌≡◌, ℕ, ◌≤◌, ◌⊎◌, inl, inr, max, true, None, unwrap_or, refl, sym, ap, subst, ◌∙◌, arith}
use Rattle.kmc_database.proofs.Beginnings.{agrees, beginning, begins, gave_nothing, length_asked, none_asked, some_asked}
use Rattle.kmc_database.proofs.Exits.{is_dead, is_live, same_failures}
use Rattle.kmc_database.proofs.packing.begin.Goals as goal
use Rattle.kmc_database.proofs.packing.begin.Goals.{else-asked-eq0-via-then-asked-eq0+else-not-head, else-asked-eq0-via-else-asked-eq0}

-- the length of the words found is the one asked for
same_length : (asked found k : ℕ) → (asked ≡ 0) ⊎ (found ≡ asked) → (asked ≡ 0 → ⊥) → k ≡ max found 1 → k ≡ asked
same_length asked found k (inl none) some is = absurd (some none)
same_length asked found k (inr same) some is = omega (arith, same, some, is)

pub returns-then-not-head-clause-cause : goal.returns-then-not-head-clause-cause
returns-then-not-head-clause-cause g c = λ prefix suffix.
    let k = max c.in_ok-head.found 1 in (
      none_asked c.args.options.now.k c.requires.options (sym c.unwrap_or-asked.ensures ∙ c.if-asked-eq0.true),
      gave_nothing k _ _ c.first_head.new.room c.in_ok-head.head (is_dead c.in_ok-head.head.live c.if-not-head.true)
          (c.in_ok-head.ensures.ok k (agrees c.in_ok-head.found k refl)),
      same_failures _ _ c.in_ok-head.ensures.kept refl refl,
    )

pub returns-in-Some-clause-ok : goal.returns-in-Some-clause-ok
returns-in-Some-clause-ok g c =
    let o = c.args.options.now in
    let k = c.max-k.result in
    let k_is : k ≡ max c.in_ok-head.found 1 = c.max-k.ensures in
    let same : c.unwrap_or-asked.result ≡ unwrap_or o.k 0 = c.unwrap_or-asked.ensures in
    let agree = subst (λ n. (n ≡ 0) ⊎ (c.in_ok-head.found ≡ n)) same c.in_ok-head.ensures.length.2 in
    let told : o.k ≡ None → c.in_ok-head.head.live ≡ true = elim c.else-asked-eq0.branch [
      | else-asked-eq0-via-then-asked-eq0+else-not-head w ↦ λ _. is_live c.in_ok-head.head.live w.if-not-head.false
      | else-asked-eq0-via-else-asked-eq0 w ↦ λ none. absurd (w.if-asked-eq0.false (same ∙ ap (λ m. unwrap_or m 0) none))
    ] in
    beginning g.R.Read.remaining o c.args.reader.now c.first_head.new.reader c.first_head.new.room c.in_ok-head.head c.in-Some.layout c.form.result k
    c.in-Some.ensures.0 c.in-Some.ensures.1 c.form.ensures (length_asked o.k c.requires.options c.in_ok-head.found k agree k_is)
    (c.in_ok-head.ensures.ok k (agrees c.in_ok-head.found k k_is)) (c.in_ok-head.ensures.fits k (agrees c.in_ok-head.found k k_is)) told
    c.in_ok-head.ensures.kept

pub returns-in-None-clause-cause : goal.returns-in-None-clause-cause
returns-in-None-clause-cause g c = λ prefix suffix.
    let o = c.args.options.now in
    let k = c.max-k.result in
    let k_is : k ≡ max c.in_ok-head.found 1 = c.max-k.ensures in
    let same : c.unwrap_or-asked.result ≡ unwrap_or o.k 0 = c.unwrap_or-asked.ensures in
    let some : 1 ≤ k = omega (arith, k_is) in (
      elim c.else-asked-eq0.branch [
        | else-asked-eq0-via-then-asked-eq0+else-not-head w ↦
            inr (begins k _ _ c.first_head.new.room c.in_ok-head.head (is_live c.in_ok-head.head.live w.if-not-head.false)
            (c.in_ok-head.ensures.ok k (agrees c.in_ok-head.found k k_is)))
        | else-asked-eq0-via-else-asked-eq0 w ↦
            inl (some_asked o.k c.requires.options k some
            (sym (same_length c.unwrap_or-asked.result c.in_ok-head.found k c.in_ok-head.ensures.length.2 w.if-asked-eq0.false k_is ∙ same)))
      ],
      c.in-None.ensures,
      same_failures _ _ c.in_ok-head.ensures.kept refl refl,
    )
