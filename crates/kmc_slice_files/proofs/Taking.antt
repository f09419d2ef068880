-- What a head and a body say of the text that begins with them.
use Rattle.std.proofs.Common.{◌≡◌, ℕ, zero, suc, ◌-◌, ◌%◌, ◌<◌, ◌^◌, List, [], ◌∷◌, ◌++◌, length, take, drop, get_or, set, refl, sym, ap, subst, ◌∙◌, arith, append_assoc, length-append, take_all}
use Rattle.std.specs.declared.alloc.Global.{Global}
use Rattle.std.specs.declared.vec.Vec.{Vec}
use Rattle.std.proofs.lemmas.List.{drop_at, get_or-set_same}
use Rattle.kmc_record.specs.Parts.{capped}
use Rattle.kmc_slice_files.specs.Frames.{Frame, frame, IsFrame, check_of, spare_head, head_bytes, frame_bytes, end_bytes, NO_BIN}
use Rattle.kmc_slice_files.specs.Reads.{IsHeadOf, BeginsNothing, SaysFrame, SaysEnd}
use Rattle.kmc_slice_files.specs.declared.read.Head.{Head}
use Rattle.kmc_slice_files.proofs.Hashing.{hashed_small}
use Rattle.kmc_slice_files.specs.Lemmas.Heads.{length_spare}
use Rattle.kmc_slice_files.proofs.Parsing.{parted, spares_told}

check_small : (bin : ℕ) (body : List ℕ) → check_of bin body < 2 ^ 64
check_small bin body = hashed_small bin body

module _ (h : Head) (bytes : List ℕ) (is : IsHeadOf h bytes) (n S s count : ℕ) (few : n < 65536) (fits : count < 2 ^ 64) where
  frame_told : (f : Frame) (rest more : List ℕ) → IsFrame n S s f → bytes ++ rest ≡ frame_bytes f ++ more
      → (h.bin ≡ f.bin) × (h.spare ≡ 0) × (h.long ≡ length f.body) × (h.check ≡ check_of f.bin f.body) × (rest ≡ f.body ++ more)
  frame_told f rest more own e =
      spares_told h.bin h.spare h.long h.check f.bin 0 (length f.body) (check_of f.bin f.body) rest (f.body ++ more)
      is.bin (omega (arith, own.within)) is.spare (omega arith) is.long (omega (arith, own.most)) is.check (check_small f.bin f.body)
      (ap (λ (l : List ℕ). l ++ rest) (sym is.is) ∙ e ∙ append_assoc (head_bytes f.bin (length f.body) (check_of f.bin f.body)) f.body more)

  end_told : (rest more : List ℕ) → bytes ++ rest ≡ end_bytes count ++ more → SaysEnd count h
  end_told rest more e =
      let t = spares_told h.bin h.spare h.long h.check NO_BIN 0 0 (capped count) rest more is.bin (omega arith) is.spare (omega arith) is.long
      (omega arith) is.check (omega arith) (ap (λ (l : List ℕ). l ++ rest) (sym is.is) ∙ e) in
      record { bin = t.0; spare = t.1; long = t.2; check = omega (arith, t.3, fits) }

  says : (f : Frame) (rest more : List ℕ) → IsFrame n S s f → bytes ++ rest ≡ frame_bytes f ++ more → SaysFrame n S s h.bin h
  says f rest more own e =
      let t = frame_told f rest more own e in
      record {
        bin = refl;
        spare = t.1;
        within = subst (λ b. b < n) (sym t.0) own.within;
        own = ap (λ b. b % S) t.0 ∙ own.own;
        some = omega (arith, t.2, own.some);
        most = omega (arith, t.2, own.most);
      }

  pub neither_begins : (SaysFrame n S s h.bin h → ⊥) → (SaysEnd count h → ⊥) → (rest : List ℕ) → BeginsNothing n S s count (bytes ++ rest)
  neither_begins frame_no end_no rest = record {
    frame = λ f more own e. frame_no (says f rest more own e);
    end = λ more e. end_no (end_told rest more e);
  }

  module _ (b : ℕ) (saysf : SaysFrame n S s b h) (body : List ℕ) where
    no_end : (rest more : List ℕ) → bytes ++ rest ≡ end_bytes count ++ more → ⊥
    no_end rest more e = let t = end_told rest more e in omega (arith, t.bin, saysf.bin, saysf.within, few)

    pub short_begins : length body < h.long → BeginsNothing n S s count (bytes ++ body)
    short_begins short = record {
      frame = λ f more own e. let t = frame_told f body more own e in omega (arith, short, t.2, ap length t.4, length-append f.body more);
      end = λ more e. no_end body more e;
    }

    pub damaged_begins : length body ≡ h.long → (check_of h.bin body ≡ h.check → ⊥) → (rest : List ℕ)
        → BeginsNothing n S s count ((bytes ++ body) ++ rest)
    damaged_begins long differ rest = record {
      frame = λ f more own e.
          let t = frame_told f (body ++ rest) more own (sym (append_assoc bytes body rest) ∙ e) in
          let same = parted body rest f.body more (long ∙ t.2) t.4 in
          differ ((λ i. check_of (t.0 i) (same.0 i)) ∙ sym t.3);
      end = λ more e. no_end (body ++ rest) more (sym (append_assoc bytes body rest) ∙ e);
    }

    pub is_frame : length body ≡ h.long → IsFrame n S s (frame b body)
    is_frame long = record { within = saysf.within; own = saysf.own; some = omega (arith, long, saysf.some); most = omega (arith, long, saysf.most) }

    pub frame_is : length body ≡ h.long → check_of h.bin body ≡ h.check → bytes ++ body ≡ frame_bytes (frame b body)
    frame_is long same =
        ap (λ (l : List ℕ). l ++ body) is.is
        ∙ (λ i. spare_head (saysf.bin i) (saysf.spare i) (sym long i) ((sym same ∙ ap (λ x. check_of x body) saysf.bin) i) ++ body)

-- less than a head begins nothing
pub less_begins : (n S s count : ℕ) (bytes : List ℕ) → length bytes < 16 → BeginsNothing n S s count bytes
less_begins n S s count bytes few = record {
  frame = λ f rest own e.
      omega (
        arith,
        few,
        ap length e,
        length-append (frame_bytes f) rest,
        length-append (head_bytes f.bin (length f.body) (check_of f.bin f.body))
            f.body,
        length_spare f.bin 0 (length f.body) (check_of f.bin f.body),
      );
  end = λ rest e. omega (arith, few, ap length e, length-append (end_bytes count) rest, length_spare NO_BIN 0 0 (capped count));
}

-- behind what stood there
tail_is : (all old body : List ℕ) (from : ℕ) → all ≡ old ++ body → from ≡ length old → take (length all - from) (drop from all) ≡ body
tail_is all old body from e is =
    let behind : drop from all ≡ body = ap (drop from) e ∙ drop_at old body from (sym is) in
    ap (take (length all - from)) behind ∙ take_all (length all - from) body (omega (arith, ap length e, is, length-append old body))

-- inside a list the default does not matter
same_place : {X : Type 0} (xs : List X) (i : ℕ) (d e : X) → i < length xs → get_or xs i d ≡ get_or xs i e
same_place [] i d e inside = absurd (omega (arith, inside))
same_place (x ∷ xs) zero d e inside = refl
same_place (x ∷ xs) (suc i) d e inside = same_place xs i d e (omega (arith, inside))

-- behind what a body had stands what came, where the body was looked up more than once
pub came_behind : (bodies : List (Vec ℕ Global)) (b : ℕ) (new d e f : Vec ℕ Global) (all came : List ℕ) (from : ℕ) → b < length bodies
    → from ≡ (get_or bodies b d).len → all ≡ (get_or (set bodies b new) b f).items → new.items ≡ (get_or bodies b e).items ++ came
    → take (length all - from) (drop from all) ≡ came
came_behind bodies b new d e f all came from inside is at now =
    let long : from ≡ length (get_or bodies b e).items =
    is ∙ (get_or bodies b d).ok.0 ∙ ap (λ (v : Vec ℕ Global). length v.items) (same_place bodies b d e inside) in
    tail_is all (get_or bodies b e).items came from (at ∙ ap (λ (v : Vec ℕ Global). v.items) (get_or-set_same bodies b new f inside) ∙ now) long
