-- What the rule says once one seat has all writers and all readers.
use Rattle.std.proofs.Common.{◌≡◌, ℕ, zero, suc, ◌+◌, ◌<◌, ◌≤◌, ◌≢◌, List, [], ◌∷◌, ◌++◌, length, get_or, refl, sym, ap, ◌∙◌, subst, arith}
use mathlib.Core.Option.{some, some-injective, some-ne-none}
use mathlib.Core.Logic.{dite}
use native.Mathlib.Decide.{ℕ_discrete}
use lib.ListN.{get_elem?}
use Rattle.std.specs.Prelude.{Option, Some, None, slice_get}
use Rattle.kmc_partqueue.specs.declared.views.Writing.{Writing}
use Rattle.kmc_partqueue.specs.declared.views.Reading.{Reading}
use Rattle.kmc_partcore.specs.declared.event.Received.{Received}
use Rattle.kmc_partqueue.specs.declared.views.View.{View}
use Rattle.kmc_partcore.specs.declared.shape.QueueShape.{QueueShape}
use Rattle.kmc_partqueue.specs.Counts.{Each, total_of, same, once_below, Among}
use Rattle.kmc_partqueue.specs.Rule.{is_entry, got_once, entries, readers_of, WriterOk, ReaderOk, GotOk, EndOk, Rises, LanesRule}
use Rattle.kmc_partqueue.specs.Seats.{AreKeptTotals, WriterState, ReaderState, AllEnded}
use Rattle.kmc_partqueue.specs.Gathered.{Tells, Pairs, WriterTells, WriterPairs, in_list, IsGathered}
use Rattle.kmc_partqueue.specs.Lemmas.Sums.{same_refl, same_ne, total_two, each_map, below_one}
use Rattle.kmc_partqueue.proofs.Frame.{St, heads_of}

module _ {A : Type 0} where
  pub each_at : (P : A → Type 0) (l : List A) → Each P l → (i : ℕ) (x : A) → slice_get l i ≡ Some x → P x
  each_at P [] p i x e = absurd (clash e)
    where
      clash : None ≡ Some x → ⊥
      clash e = cc
  each_at P (y ∷ l) p zero x e = subst P (let e' : Some y ≡ Some x = e in let z : y ≡ x = cc in z) p.0
  each_at P (y ∷ l) p (suc i) x e = each_at P l p.1 i x e

  find_number : (num : A → ℕ) (w : ℕ) (l : List A) → total_of (λ (x : A). same (num x) w) l ≡ 1 → (x : A) × Among x l × (num x ≡ w)
  find_number num w [] e = absurd (let e' : 0 ≡ 1 = e in omega arith)
  find_number num w (x ∷ l) e = dite (ℕ_discrete (num x) w) (λ is. (x, (0, refl), is))
      (λ other. let t : ℕ = total_of (λ (y : A). same (num y) w) l in let u : ℕ = same (num x) w in let z : u ≡ 0 = same_ne (num x) w other in
      let e' : u + t ≡ 1 = e in let r = find_number num w l (omega arith) in (r.0, (suc r.1.0, r.1.1), r.2))

  total_zero : (f : A → ℕ) (l : List A) → ((j : ℕ) (u : A) → get_elem? l j ≡ some u → f u ≡ 0) → total_of f l ≡ 0
  total_zero f [] z = refl
  total_zero f (x ∷ l) z = let a = z 0 x refl in let b = total_zero f l (λ j u e. z (suc j) u e) in omega arith

  pub total_only : (f : A → ℕ) (l : List A) (i : ℕ) (v : A) → get_elem? l i ≡ some v
      → ((j : ℕ) (u : A) → j ≢ i → get_elem? l j ≡ some u → f u ≡ 0) → total_of f l ≡ f v
  total_only f [] i v e z = absurd (some-ne-none v (sym e))
  total_only f (x ∷ l) zero v e z =
      let a = total_zero f l (λ j u d. z (suc j) u (λ h. omega arith) d) in
      let b : f x ≡ f v = ap f (some-injective x v e) in omega arith
  total_only f (x ∷ l) (suc i) v e z =
      let a = total_only f l i v e (λ j u n d. z (suc j) u (λ h. n (omega arith)) d) in
      let b = z 0 x (λ h. omega arith) refl in omega arith

module _ {T : Type 0} where
  pairs_total : (f : Reading T → ℕ) (g : ReaderState T → ℕ)
      → ((b : Reading T) (s : ReaderState T) → Tells b s → f b ≡ g s)
      → (bs : List (Reading T)) (ss : List (ReaderState T)) → Pairs bs ss → total_of f bs ≡ total_of g ss
  pairs_total f g go [] [] p = refl
  pairs_total f g go [] (s ∷ ss) p = absurd p
  pairs_total f g go (b ∷ bs) [] p = absurd p
  pairs_total f g go (b ∷ bs) (s ∷ ss) p = let a = go b s p.0 in let r = pairs_total f g go bs ss p.1 in omega arith

  pub pairs_each : (P : Reading T → Type 0) (Q : ReaderState T → Type 0)
      → ((b : Reading T) (s : ReaderState T) → Tells b s → P b → Q s)
      → (bs : List (Reading T)) (ss : List (ReaderState T)) → Pairs bs ss → Each P bs → Each Q ss
  pairs_each P Q go [] [] p e = tt
  pairs_each P Q go [] (s ∷ ss) p e = absurd p
  pairs_each P Q go (b ∷ bs) [] p e = absurd p
  pairs_each P Q go (b ∷ bs) (s ∷ ss) p e = (go b s p.0 e.0, pairs_each P Q go bs ss p.1 e.1)

  pub writers_each : (P : Writing T → Type 0) (Q : WriterState T → Type 0) → ((a : Writing T) (s : WriterState T) → WriterTells a s → P a → Q s)
      → (ws : List (Writing T)) (ss : List (WriterState T)) → WriterPairs ws ss → Each P ws → Each Q ss
  writers_each P Q go [] [] p e = tt
  writers_each P Q go [] (s ∷ ss) p e = absurd p
  writers_each P Q go (a ∷ ws) [] p e = absurd p
  writers_each P Q go (a ∷ ws) (s ∷ ss) p e = (go a s p.0 e.0, writers_each P Q go ws ss p.1 e.1)

  module _ (k : QueueShape) (s : St T) (r : LanesRule k s) (id : ℕ) (v : View T) (at : get_elem? s.views id ≡ some v)
      (writers : List (WriterState T)) (readers : List (ReaderState T)) (ws : WriterPairs v.writers writers) (bs : Pairs v.readers readers)
      (each_writer : (w : ℕ) → w < k.writers → total_of (λ (x : WriterState T). same x.number w) writers ≡ 1)
      (each_reader : (q : ℕ) → q < k.readers → total_of (λ (x : ReaderState T). same x.number q) readers ≡ 1)
      (last : ReaderState T) (among : Among last readers) (ended : AllEnded k.writers last.totals) where
    abbrev heads : ℕ → ℕ
    heads = heads_of k s.words

    -- what a seat's lists are, by the rule
    abbrev pub OfLane : WriterState T → Type 0
    OfLane x = (x.number < k.writers) × (x.sent ≡ (r.lanes x.number).sent)

    pub of_lanes : Each OfLane writers
    of_lanes =
        writers_each (WriterOk k r.lanes heads) OfLane (λ a x t p. (
          subst (λ (z : ℕ). z < k.writers) t.number p.known,
          sym t.sent ∙ p.sent ∙ ap
              (λ (z : ℕ). (r.lanes z).sent) t.number,
        )) v.writers writers ws (r.each_seat id v at).0

    -- every lane is at its end
    abbrev EndsAt : ReaderState T → Type 0
    EndsAt x = (w t : ℕ) → slice_get x.totals w ≡ Some (Some t) → EndOk k r.lanes heads record { writer = w; total = t }

    ends_at : Each EndsAt readers
    ends_at =
        pairs_each (ReaderOk k r.lanes heads) EndsAt (λ b x t p w n e. let a = t.noted.kept w n e in each_at
        (EndOk k r.lanes heads) b.ends p.ends a.0 _ a.1) v.readers readers bs (r.each_seat id v at).1

    pub full : (w : ℕ) → w < k.writers
        → (slice_get last.totals w ≡ Some (Some (length (r.lanes w).sent))) × (heads w ≡ length (r.lanes w).sent)
    full w near =
        let t = ended w near in let e = each_at EndsAt readers ends_at among.0 last among.1 w t.0 t.1 in
        (t.1 ∙ (λ j. Some (Some (sym e.sent j))), e.taken ∙ sym e.sent)

    -- no other seat has a reader
    no_reader : (j : ℕ) (u : View T) → j ≢ id → get_elem? s.views j ≡ some u → (w n : ℕ) → entries w n u ≡ 0
    no_reader j u other e w n = go u.readers refl (r.each_seat j u e).1
      where
        clash : (b : Reading T) (more : List (Reading T)) → u.readers ≡ b ∷ more → b.number < k.readers → ⊥
        clash b more is known =
            let q : ℕ = b.number in let t = total_two (readers_of q) s.views j id u v other e at in
            let o = r.one_reader q known in let a : ℕ = readers_of q v in let a₁ : ℕ = readers_of q u in
            let one : a ≡ 1 = pairs_total (λ (x : Reading T). same x.number q) (λ (x : ReaderState T). same x.number q)
            (λ x y p. ap (λ (z : ℕ). same z q) p.number) v.readers readers bs ∙ each_reader q known in
            let m : ℕ = total_of (λ (x : Reading T). same x.number q) more in let s₁ : ℕ = same q q in
            let two : a₁ ≡ s₁ + m = ap (total_of (λ (x : Reading T). same x.number q)) is in
            let s₂ : s₁ ≡ 1 = same_refl q q refl in
            let t' : a₁ + a ≤ 1 = subst (λ (z : ℕ). a₁ + a ≤ z) o t in omega arith

        go : (l : List (Reading T)) → u.readers ≡ l → Each (ReaderOk k r.lanes heads) u.readers → entries w n u ≡ 0
        go [] is p = ap (total_of (got_once w n)) is
        go (b ∷ more) is p = absurd (clash b more is (let p' = subst (Each (ReaderOk k r.lanes heads)) is p in p'.0.known))

    pub counted : (w n : ℕ) → w < k.writers → total_of (in_list w n) readers ≡ once_below n (length (r.lanes w).sent)
    counted w n near =
        sym (pairs_total (got_once w n) (in_list w n) (λ b x p. ap (total_of (is_entry w n)) p.got) v.readers readers bs) ∙ sym
        (total_only (entries w n) s.views id v at (λ j u other e. no_reader j u other e w n))
        ∙ r.taken_once w n near ∙ ap (once_below n) (full w near).1

    abbrev Stands : Received T → Type 0
    Stands e = (x : WriterState T) × Among x writers × (x.number ≡ e.writer) × (get_elem? x.sent e.number ≡ some e.item)

    stands : (e : Received T) → GotOk k r.lanes heads e → Stands e
    stands e p =
        let f = find_number (λ (x : WriterState T). x.number) e.writer writers (each_writer e.writer p.known) in
        let o = each_at OfLane writers of_lanes f.1.0 f.0 f.1.1 in
        (f.0, f.1, f.2, ap (λ (z : List T). get_elem? z e.number) (o.1 ∙ ap (λ (z : ℕ). (r.lanes z).sent) f.2) ∙ p.put)

    pub gathered : IsGathered writers readers
    gathered = record {
      once = each_map OfLane (λ x. (n : ℕ) → n < length x.sent → total_of (in_list x.number n) readers ≡ 1)
          (λ x p n lt. let long : length x.sent ≡ length (r.lanes x.number).sent = ap length p.1 in counted x.number n p.0 ∙ below_one n
          (length (r.lanes x.number).sent) (omega arith)) writers of_lanes;
      others = pairs_each (ReaderOk k r.lanes heads) (λ x. Each Stands x.got × Rises x.got)
          (λ b x t p. (
            subst (Each Stands) t.got (each_map (GotOk k r.lanes heads) Stands stands b.got p.shown),
            subst Rises t.got p.rises,
          )) v.readers readers bs (r.each_seat id v at).1;
    }

    pub totals_are : Each (λ (x : WriterState T). slice_get last.totals x.number ≡ Some (Some (length x.sent))) writers
    totals_are =
        each_map OfLane (λ x. slice_get last.totals x.number ≡ Some (Some (length x.sent)))
        (λ x p. (full x.number p.0).0 ∙ (λ j. Some (Some (length (sym p.1 j))))) writers of_lanes

  pub pairs_append : (bs cs : List (Reading T)) (ss us : List (ReaderState T)) → Pairs bs ss → Pairs cs us → Pairs (bs ++ cs) (ss ++ us)
  pairs_append [] cs [] us p q = q
  pairs_append [] cs (s ∷ ss) us p q = absurd p
  pairs_append (b ∷ bs) cs [] us p q = absurd p
  pairs_append (b ∷ bs) cs (s ∷ ss) us p q = (p.0, pairs_append bs cs ss us p.1 q)

pub get_or_at : {A : Type 0} (l : List A) (i : ℕ) (d s : A) → slice_get l i ≡ Some s → get_or l i d ≡ s
get_or_at [] i d s e = cc
get_or_at (x ∷ l) zero d s e = let e' : Some x ≡ Some s = e in cc
get_or_at (x ∷ l) (suc i) d s e = get_or_at l i d s e

pub inner : {a b : ℕ} → Some (Some a) ≡ Some (Some b) → a ≡ b
inner e = cc

-- the counts that a take answers are the kept totals
pub counts_are : {T : Type 0} (n : ℕ) (totals : List (Option ℕ)) (counts : List ℕ) → AreKeptTotals n totals counts
    → (l : List (WriterState T)) → Each (λ (x : WriterState T). x.number < n) l
    → Each (λ (x : WriterState T). slice_get totals x.number ≡ Some (Some (length x.sent))) l
    → Each (λ (x : WriterState T). slice_get counts x.number ≡ Some (length x.sent)) l
counts_are n totals counts are [] near p = tt
counts_are n totals counts are (x ∷ l) near p =
    let t = are.1 x.number near.0 in (t.2 ∙ ap Some (inner (sym t.1 ∙ p.0)), counts_are n totals counts are l near.1 p.1)
