-- The ends of lanes.
use Rattle.std.proofs.Common.{◌≡◌, ℕ, zero, suc, ◌<◌, ◌==◌, inl, inr, false, true≢false, List, [], ◌∷◌, ◌++◌, length, get_or, set, All, refl, sym, ap, subst, ◌∙◌, arith}
use Rattle.std.proofs.lemmas.Bool.{cases_eq, cases_lt}
use Rattle.std.proofs.lemmas.List.{get_or_push, get_or-set_same, get_or-set_other, length_push, length-append, length-set}
use Rattle.std.proofs.lemmas.List.Elements.{All-nil, All-push}
use Rattle.std.proofs.Math.ListN.{get_or-append}
use Rattle.rtrb.specs.Ring.{IsPair, SameProducer, SameConsumer, sent, received}
use Rattle.rtrb.specs.declared.producer.Producer.{Producer}
use Rattle.rtrb.specs.declared.consumer.Consumer.{Consumer}
use Rattle.kmc_dump.specs.Lanes.{Sends, Gets, IsLane, ArePaired, AreLanes, SameFillers, SameTrays, SendMore}
use Rattle.kmc_dump.specs.declared.buffers.Buffer.{Buffer}
use Rattle.kmc_dump.specs.declared.lane.Filler.{Filler}
use Rattle.kmc_dump.specs.declared.lane.Tray.{Tray}

-- the front of what are such
pub front_are : {X : Type 0} (P : X → Type 0) (xs rest ys : List X) → xs ++ rest ≡ ys → All P ys → All P xs
front_are P xs rest ys is all = λ i d inside.
    let more : i < length (xs ++ rest) = omega (arith, inside, length-append xs rest) in
    subst P (get_or-append xs rest d i inside) (subst (All P) (sym is) all i d more)

-- the last of what are such
pub last_is : {X : Type 0} (P : X → Type 0) (xs ys : List X) (x : X) → ys ≡ xs ++ x ∷ [] → All P ys → P x
last_is P xs ys x is all =
    let last : length xs < length (xs ++ x ∷ []) = omega (arith, length_push xs x) in
    subst P (get_or_push xs x x (length xs) refl) (subst (All P) is all (length xs) x last)

-- a list that is not empty
pub some_are : {X : Type 0} (xs : List X) → false ≡ (length xs == 0) → 0 < length xs
some_are [] is = absurd (true≢false (sym is))
some_are (x ∷ xs) is = omega arith

-- what stands at a place
pub some_at : {X : Type 0} (xs : List X) (i : ℕ) → i < length xs → (x : X) × ((d : X) → get_or xs i d ≡ x)
some_at [] i inside = absurd (omega (arith, inside))
some_at (x ∷ xs) zero inside = (x, λ d. refl)
some_at (x ∷ xs) (suc i) inside = some_at xs i (omega (arith, inside))

-- a list reads alike at a place that it has, whatever is read elsewhere
pub read_alike : {X : Type 0} (xs : List X) (i j : ℕ) (d e : X) → i ≡ j → i < length xs → get_or xs i d ≡ get_or xs j e
read_alike xs i j d e at inside =
    let x = some_at xs i inside in
    x.1 d ∙ sym (x.1 e) ∙ ap (λ n. get_or xs n e) at

module _ {T A P : Type 0} where
  pub same_producer : (a b c : Producer T A P) → SameProducer a b → SameProducer b c → SameProducer a c
  same_producer a b c one two = ((two.0.0 ∙ one.0.0, two.0.1 ∙ one.0.1, two.0.2 ∙ one.0.2, two.0.3 ∙ one.0.3), two.1 ∙ one.1)

  pub same_consumer : (a b c : Consumer T A P) → SameConsumer a b → SameConsumer b c → SameConsumer a c
  same_consumer a b c one two = ((two.0.0 ∙ one.0.0, two.0.1 ∙ one.0.1, two.0.2 ∙ one.0.2, two.0.3 ∙ one.0.3), two.1 ∙ one.1)

  pub same_pair : (p q : Producer T A P) (c d : Consumer T A P) → IsPair p c → SameProducer p q → SameConsumer c d → IsPair q d
  same_pair p q c d pair one two =
      (two.0.0 ∙ pair.0 ∙ sym one.0.0, two.0.1 ∙ pair.1 ∙ sym one.0.1, two.0.2 ∙ pair.2 ∙ sym one.0.2, two.0.3 ∙ pair.3 ∙ sym one.0.3)

module _ {W : Type 0} where
  -- one lane more
  pub one_more : (fs : List (Filler W)) (ts : List (Tray W)) (f : Filler W) (t : Tray W) → AreLanes fs ts → IsLane f t
      → AreLanes (fs ++ f ∷ []) (ts ++ t ∷ [])
  one_more fs ts f t are is = record {
    paired = record {
      long = omega (arith, are.paired.long, length_push fs f, length_push ts t);
      each = λ i d e inside.
          elim (cases_lt i (length fs)) [
            | inl front ↦
                let here : i < length ts = omega (arith, front, are.paired.long) in
                subst (λ (x : Filler W). IsPair x.full (get_or (ts ++ t ∷ []) i e).full) (sym (get_or-append fs (f ∷ []) d i front))
                (subst (λ (y : Tray W). IsPair (get_or fs i d).full y.full) (sym (get_or-append ts (t ∷ []) e i here)) (are.paired.each i d e front))
            | inr last ↦
                let at : length fs ≡ i = omega (arith, last, inside, length_push fs f) in
                let at_too : length ts ≡ i = are.paired.long ∙ at in
                subst (λ (x : Filler W). IsPair x.full (get_or (ts ++ t ∷ []) i e).full) (sym (get_or_push fs f d i at))
                (subst (λ (y : Tray W). IsPair f.full y.full) (sym (get_or_push ts t e i at_too)) is.ends)
          ];
    };
    none = All-push (λ x. sent x.full ≡ []) fs f are.none is.none;
  }

  -- the lanes after their threads
  pub still_paired : (fs gs : List (Filler W)) (ts us : List (Tray W)) → ArePaired fs ts → length gs ≡ length fs → length us ≡ length ts → SameFillers fs gs
      → SameTrays ts us → ArePaired gs us
  still_paired fs gs ts us paired long long_too one two = record {
    long = omega (arith, paired.long, long, long_too);
    each = λ i d e inside.
        let here : i < length fs = omega (arith, inside, long) in
        let there : i < length ts = omega (arith, here, paired.long) in
        same_pair (get_or fs i d).full (get_or gs i d).full (get_or ts i e).full (get_or us i e).full (paired.each i d e here) (one i d here) (two i e there);
  }

  -- what new lanes sent on since is such
  pub all_send : (P : Buffer W → Type 0) (fs gs : List (Filler W)) → All (λ f. sent f.full ≡ []) fs → length gs ≡ length fs → SendMore P fs gs
      → All (Sends P) gs
  all_send P fs gs none long more = λ i d inside.
      let here : i < length fs = omega (arith, inside, long) in
      more i d here (record { all = subst (All P) (sym (none i d here)) (All-nil P) })

  -- what each buffer is that came to the trays, when one of them had fewer
  pub all_got : (P : Buffer W → Type 0) (ts : List (Tray W)) (i : ℕ) (t : Tray W) → i < length ts
      → ((d : Tray W) → Gets P t → Gets P (get_or ts i d)) → All (Gets P) (set ts i t) → All (Gets P) ts
  all_got P ts i t inside less all = λ j d here.
      let still : j < length (set ts i t) = omega (arith, here, length-set ts i t) in
      elim (cases_eq j i) [
        | inl same ↦
            subst (λ n. Gets P (get_or ts n d)) (sym same)
            (less d (subst (Gets P) (get_or-set_same ts i t d inside) (subst (λ n. Gets P (get_or (set ts i t) n d)) same (all j d still))))
        | inr other ↦ subst (Gets P) (get_or-set_other ts i j t d other) (all j d still)
      ]

  -- the trays are the same where one of them is
  pub one_tray : (ts : List (Tray W)) (i : ℕ) (t : Tray W) → i < length ts → ((d : Tray W) → SameConsumer (get_or ts i d).full t.full) → SameTrays ts (set ts i t)
  one_tray ts i t inside same = λ j d here.
      elim (cases_eq j i) [
        | inl at ↦
            subst (λ n. SameConsumer (get_or ts n d).full (get_or (set ts i t) n d).full) (sym at)
            (subst (λ (x : Tray W). SameConsumer (get_or ts i d).full x.full) (sym (get_or-set_same ts i t d inside)) (same d))
        | inr other ↦
            subst (λ (x : Tray W). SameConsumer (get_or ts j d).full x.full) (sym (get_or-set_other ts i j t d other)) ((refl, refl, refl, refl), refl)
      ]

  -- what each buffer is that came to a tray, as its filler sent it on
  pub lane_told : {A P : Type 0} (is : Buffer W → Type 0) (x f : Filler W) (y t : Tray W) (p : Producer (Buffer W) A P) (c : Consumer (Buffer W) A P)
      (rest : List (Buffer W)) → x ≡ f → y ≡ t → sent p ≡ sent f.full → received c ≡ received t.full → received c ++ rest ≡ sent p → Sends is x → Gets is y
  lane_told is x f y t p c rest x_is y_is sent_is received_is fifo sends =
      let all : All is (sent p) = subst (All is) (sym sent_is) (subst (Sends is) x_is sends).all in
      subst (Gets is) (sym y_is) (record { all = subst (All is) received_is (front_are is (received c) rest (sent p) fifo all) })
