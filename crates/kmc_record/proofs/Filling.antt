-- A record's words while they are appended.
use Rattle.std.proofs.Common.{◌≡◌, ℕ, zero, suc, min, max, map, append_assoc, Bool, true, false, nat_le, refl, ◌+◌, ◌*◌, ◌-◌, ◌/◌, ◌^◌, ◌<◌, ◌≤◌, ◌++◌, ◌∷◌, [], List, length, take, get_or, ap, sym, ◌∙◌, arith, append-nil}
use Rattle.std.proofs.lemmas.List.{length-take-le, get_or-take, map-append}
use Rattle.std.proofs.lemmas.Nat.{mod_below}
use Rattle.std.proofs.Math.Nat.{pow-succ'}
use Rattle.std.proofs.lemmas.Bool.Decides.{nat_tests}
use Rattle.kmc_base.specs.declared.strands.Strands.{Strands}
use Rattle.kmc_base.specs.declared.strands.Strands.TheVariants.{Joined, Apart}
use Rattle.kmc_base.specs.Lemmas.Packs.{AreCodes}
use Rattle.kmc_base.specs.Strands.{key, packed_key}
use Rattle.kmc_base.specs.Words.{window}
use Rattle.kmc_base.specs.Packed.{pack}
use Rattle.kmc_base.specs.Weights.{weighted}
use Rattle.kmc_base.specs.Lemmas.Rolling.{IsRolling, codes_front, ahead, behind, step_at, roll_key, fits_at, keys_upto, one_more}

-- the window behind i symbols, the keys of the words that end there or before, and room for the others
pub record Holds (strands : Strands) (k symbols bits times i forward back : ℕ) (codes old new : List ℕ) (len capacity : ℕ) : Type 0 where
  pub rolling : IsRolling k (take symbols codes) i forward back
  pub pushed : new ≡ old ++ map (weighted bits times) (keys_upto strands k (take symbols codes) (i + 1 - k))
  pub room : len + (symbols - i) ≤ capacity

-- one word more
one_more_item : (strands : Strands) (k bits times : ℕ) (s : List ℕ) (n n' v : ℕ) (old new whole : List ℕ) → new ≡ old ++ weighted bits times v ∷ []
    → v ≡ pack (key strands (window k s n)) → n' ≡ n + 1
    → old ≡ whole ++ map (weighted bits times) (keys_upto strands k s n) → new ≡ whole ++ map (weighted bits times) (keys_upto strands k s n')
one_more_item strands k bits times s n n' v old new whole pushed is count before =
    let w : ℕ → ℕ = weighted bits times in
    let more : keys_upto strands k s n ++ v ∷ [] ≡ keys_upto strands k s n' = one_more strands k s n n' v (keys_upto strands k s n)
    (keys_upto strands k s n ++ v ∷ []) [] refl is count refl in
    pushed ∙ ap (λ (t : List ℕ). t ++ w v ∷ []) before ∙ append_assoc whole (map w (keys_upto strands k s n)) (w v ∷ [])
    ∙ ap (λ (t : List ℕ). whole ++ t) (sym (map-append w (keys_upto strands k s n) (v ∷ [])) ∙ ap (map w) more)

-- a key with one code more than `top` has in front
pub key_fits : (strands : Strands) (top forward back code : ℕ) → code < 4 → 1 ≤ top → packed_key strands (ahead top forward code) back < 4 * top
key_fits Joined top forward back code small some = let low = mod_below forward top (omega arith) in omega (arith, low)
key_fits Apart top forward back code small some = let low = mod_below forward top (omega arith) in omega (arith, low)

pub top_room : (k top : ℕ) → 1 ≤ k → top ≡ 4 ^ (k - 1) → 4 * top ≤ 4 ^ k
top_room zero top some t = absurd (omega arith)
top_room (suc k) top some t =
    let less : suc k - 1 ≡ k = omega arith in
    let p : top ≡ 4 ^ k = t ∙ ap (λ n. 4 ^ n) less in
    omega (arith, p, pow-succ' 4 k)

module _ (strands : Strands) (k symbols bits times : ℕ) (some : 1 ≤ k) (codes : List ℕ) (are : AreCodes codes) (inside : symbols ≤ length codes)
    (top : ℕ) (t : top ≡ 4 ^ (k - 1)) where
  long : length (take symbols codes) ≡ symbols
  long = length-take-le symbols codes inside

  pub fits : (i f b : ℕ) → i < symbols → IsRolling k (take symbols codes) i f b → b / 4 < top
  fits i f b less rolling = fits_at k some (take symbols codes) i f b top (codes_front symbols codes are) (omega (arith, long)) t rolling

  -- no word ends before the place k - 1
  pub held_first : (i f b : ℕ) (old : List ℕ) (len capacity : ℕ) → i + 1 ≡ k → len + (symbols + 1 - k) ≤ capacity → IsRolling k (take symbols codes) i f b
      → Holds strands k symbols bits times i f b codes old old len capacity
  held_first i f b old len capacity e room rolling =
      let none : i + 1 - k ≡ 0 = omega arith in
      record {
        rolling = rolling;
        pushed = sym (ap (λ n. old ++ map (weighted bits times) (keys_upto strands k (take symbols codes) n)) none ∙ append-nil old);
        room = omega arith;
      }

  pub held_more : (i c f b g d : ℕ) (old new next : List ℕ) (len capacity len2 capacity2 : ℕ) → i < symbols → k ≤ i + 1 → c ≡ get_or codes i 0
      → g ≡ ahead top f c → d ≡ behind top b c → next ≡ new ++ weighted bits times (packed_key strands g d) ∷ [] → len2 ≡ len + 1 → capacity2 ≡ capacity
      → Holds strands k symbols bits times i f b codes old new len capacity → Holds strands k symbols bits times (i + 1) g d codes old next len2 capacity2
  held_more i c f b g d old new next len capacity len2 capacity2 less enough is eg ed more one same h =
      let s = take symbols codes in
      let small = codes_front symbols codes are in
      let rolled = step_at k some s i c f b g d top small (omega (arith, long)) (is ∙ sym (get_or-take symbols codes i 0 less)) t eg ed h.rolling in
      record {
        rolling = rolled;
        pushed = one_more_item strands k bits times s (i + 1 - k) (i + 1 + 1 - k) (packed_key strands g d) new next old more
            (roll_key strands k s (i + 1) g d small enough rolled) (omega arith) h.pushed;
        room = let r = h.room in omega (arith, r);
      }

  pub held_all : (i f b : ℕ) (old new : List ℕ) (len capacity : ℕ) → i ≡ symbols → Holds strands k symbols bits times i f b codes old new len capacity
      → new ≡ old ++ map (weighted bits times) (keys_upto strands k (take symbols codes) (length (take symbols codes) + 1 - k))
  held_all i f b old new len capacity e h =
      let end : i + 1 - k ≡ length (take symbols codes) + 1 - k = omega (arith, long) in
      h.pushed ∙ ap (λ n. old ++ map (weighted bits times) (keys_upto strands k (take symbols codes) n)) end

-- behind the whole bytes: either there were some, or all symbols were near
pub behind_bytes : (w n near last j : ℕ) → near ≡ min n (4 * w) → last ≡ max near (4 * (n / 4)) → w ≤ j → n / 4 ≤ j → (w ≤ n / 4 → j ≤ n / 4) → min
    (4 * j) n ≡ last
behind_bytes w n near last j en el least end most = go (nat_le w (n / 4)) refl
  where
    go : (t : Bool) → nat_le w (n / 4) ≡ t → min (4 * j) n ≡ last
    go true e =
        let some : w ≤ n / 4 = grind (arith, nat_tests) in
        let here : j ≤ n / 4 = most some in
        omega arith
    go false e =
        let none : n / 4 < w = grind (arith, nat_tests) in
        omega arith
