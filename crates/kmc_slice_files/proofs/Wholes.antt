-- Frames that are read one after the other.
use Rattle.std.proofs.Common.{◌≡◌, ℕ, ◌+◌, ◌-◌, ◌<◌, ◌^◌, ◌⊎◌, inl, inr, cond, min, List, [], ◌∷◌, ◌++◌, length, set, Option, Some, refl, sym, ap, subst, ◌∙◌, arith, append_assoc, length-append}
use Rattle.std.specs.List.{flat_map}
use Rattle.std.specs.Io.KnownBytes.{Consumes}
use Rattle.std.proofs.KnownBytes.{Consumes-trans, Consumes-nil}
use Rattle.std.proofs.lemmas.Bool.{cases_eq, eq-eqb, ne_eqb}
use Rattle.std.proofs.lemmas.Grind.{flat_map-append}
use Rattle.std.proofs.lemmas.List.{append-nil, length-set, get_or-set_same, get_or-set_other}
use Rattle.std.proofs.lemmas.List.Sums.{sum_by-set}
use Rattle.kmc_store.specs.Bins.{body_at}
use Rattle.kmc_slice_files.specs.Frames.{Frame, frame_bytes, frames_bytes, head_bytes, end_bytes, check_of, body_of}
use Rattle.kmc_slice_files.specs.Lemmas.Rounds.{frames_more, body_more}
use Rattle.kmc_slice_files.specs.Reads.{TookFrame, TookNext, GaveSome, held_bytes}
use Rattle.kmc_slice_files.specs.Whole.{TookFrames, TookAll, IsEndFault}
use Rattle.kmc_slice_files.specs.declared.frames.Place.{Place}
use Rattle.kmc_slice_files.specs.declared.frames.FramesFault.{FramesFault}
use Rattle.kmc_slice_files.specs.declared.frames.FramesFault.TheVariants.{Next, Behind, TooMany}
use Rattle.kmc_slice_files.specs.Lemmas.Heads.{length_spare}

abbrev pub place : ℕ → ℕ → Place
place frames byte = record { frames = frames; byte = byte }

-- a body behind what its bin has
grown_body : (bodies : List (List ℕ)) (f : Frame) (b : ℕ) → b < length bodies
    → body_at (set bodies f.bin (body_at bodies f.bin ++ f.body)) b ≡ body_at bodies b ++ body_of b (f ∷ [])
grown_body bodies f b inside = go (cases_eq f.bin b)
  where
    go : (f.bin ≡ b) ⊎ (f.bin ≡ b → ⊥) → body_at (set bodies f.bin (body_at bodies f.bin ++ f.body)) b ≡ body_at bodies b ++ body_of b (f ∷ [])
    go (inl e) =
        ap (λ x. body_at (set bodies x (body_at bodies x ++ f.body)) b) e ∙ get_or-set_same bodies b (body_at bodies b ++ f.body) [] inside
        ∙ ap (λ (l : List ℕ). body_at bodies b ++ l)
        (sym (ap (λ t. flat_map (λ (g : Frame). g.body) (cond t (f ∷ []) [])) (eq-eqb f.bin b e) ∙ append-nil f.body))
    go (inr differ) =
        get_or-set_other bodies f.bin b (body_at bodies f.bin ++ f.body) [] (λ e. differ (sym e))
        ∙ sym (append-nil (body_at bodies b))
        ∙ ap (λ (l : List ℕ). body_at bodies b ++ l) (sym (ap (λ t. flat_map (λ (g : Frame). g.body) (cond t (f ∷ []) [])) (ne_eqb f.bin b differ)))

one_more : (fs : List Frame) (f : Frame) → frames_bytes (fs ++ f ∷ []) ≡ frames_bytes fs ++ frame_bytes f
one_more fs f = flat_map-append frame_bytes fs (f ∷ []) ∙ ap (λ (l : List ℕ). frames_bytes fs ++ l) (append-nil (frame_bytes f))

length-frame : (f : Frame) → length (frame_bytes f) ≡ 16 + length f.body
length-frame f = omega (
  arith,
  length-append (head_bytes f.bin (length f.body) (check_of f.bin f.body)) f.body,
  length_spare f.bin 0 (length f.body)
      (check_of f.bin f.body),
)

pub frame_behind : (n m S s count byte long : ℕ) (a b c : Option (List ℕ)) (before mid after : List (List ℕ)) → n ≡ length before → m ≡ length mid
    → TookFrames n S s a b before mid (place count byte) → (o : Option ℕ) → o ≡ Some long → TookNext m S s count b c mid after o
    → TookFrames n S s a c before after (place (count + 1) (min (byte + (16 + long)) (2 ^ 64 - 1)))
frame_behind n m S s count byte long a b c before mid after wide now took o is said =
    let next : TookFrame m S s long b c mid after = subst (TookNext m S s count b c mid after) is said in
    let f = next.f in
    let same : m ≡ n = omega (arith, wide, now, took.bodies.wide) in
    let inside : f.bin < length mid = omega (arith, next.is.within, now) in
    let longer : length (frames_bytes (took.fs ++ f ∷ [])) ≡ length (frames_bytes took.fs) + (16 + long) =
    omega (arith, ap length (one_more took.fs f), length-append (frames_bytes took.fs) (frame_bytes f), length-frame f, next.size) in
    record {
      fs = took.fs ++ f ∷ [];
      frames = frames_more n S s took.fs (f ∷ []) took.frames
          (record { within = omega (arith, next.is.within, same); own = next.is.own; some = next.is.some; most = next.is.most }, tt);
      gave = subst (Consumes a c) (sym (one_more took.fs f)) (Consumes-trans a b c (frames_bytes took.fs) (frame_bytes f) took.gave next.gave);
      many = omega (arith, took.many, length-append took.fs (f ∷ []));
      byte = omega (arith, took.byte, longer);
      bodies = record {
        wide = ap length next.bodies_after ∙ length-set mid f.bin (body_at mid f.bin ++ f.body) ∙ took.bodies.wide;
        each = λ i within.
            ap (λ (l : List (List ℕ)). body_at l i) next.bodies_after ∙ grown_body mid f i (omega (arith, within, took.bodies.wide))
            ∙ ap (λ (l : List ℕ). l ++ body_of i (f ∷ [])) (took.bodies.each i within)
            ∙ append_assoc (body_at before i) (body_of i took.fs) (body_of i (f ∷ []))
            ∙ ap (λ (l : List ℕ). body_at before i ++ l) (sym (body_more i took.fs (f ∷ [])));
      };
      held = omega (
        arith,
        took.held,
        longer,
        next.size,
        ap held_bytes next.bodies_after,
        sum_by-set length mid f.bin (body_at mid f.bin ++ f.body) [] inside,
        length-append (body_at mid f.bin) f.body,
      );
    }

-- what memory holds behind a fault
pub held_behind : (n S s count byte block : ℕ) (a b c : Option (List ℕ)) (before mid after : List (List ℕ))
    → TookFrames n S s a b before mid (place count byte)
    → GaveSome (held_bytes mid) (held_bytes after) block b c → GaveSome (held_bytes before) (held_bytes after) block a c
held_behind n S s count byte block a b c before mid after took some = record {
  bytes = frames_bytes took.fs ++ some.bytes;
  gave = Consumes-trans a b c (frames_bytes took.fs) some.bytes took.gave some.gave;
  held = omega (arith, took.held, some.held, length-append (frames_bytes took.fs) some.bytes);
}

-- the same behind a header
pub held_header : (before after block : ℕ) (a b c : Option (List ℕ)) (header : List ℕ) → Consumes a b header → GaveSome before after block b c
    → GaveSome before after block a c
held_header before after block a b c header first some = record {
  bytes = header ++ some.bytes;
  gave = Consumes-trans a b c header some.bytes first some.gave;
  held = omega (arith, some.held, length-append header some.bytes);
}

end_bytes_given : (b c : Option (List ℕ)) (why : FramesFault) → IsEndFault b c why → (bytes : List ℕ) × Consumes b c bytes
end_bytes_given b c (Next f) is = (is.1, is.2)
end_bytes_given b c Behind is = (is.0, is.2)
end_bytes_given b c TooMany is = absurd is

-- the same where the end of the bytes was not read
pub held_at_end : (n S s block : ℕ) (a b c : Option (List ℕ)) (before after : List (List ℕ)) (at : Place) → TookAll n S s a b before after at
    → (why : FramesFault) → IsEndFault b c why
    → GaveSome (held_bytes before) (held_bytes after) block a c
held_at_end n S s block a b c before after at all why is =
    let took = all.took in
    let more = end_bytes_given b c why is in
    record {
      bytes = (frames_bytes took.fs ++ end_bytes at.frames) ++ more.0;
      gave = Consumes-trans a b c (frames_bytes took.fs ++ end_bytes at.frames) more.0 (Consumes-trans a all.mid b (frames_bytes took.fs)
          (end_bytes at.frames) took.gave all.ended) more.1;
      held = omega (
        arith,
        took.held,
        length-append (frames_bytes took.fs ++ end_bytes at.frames) more.0,
        length-append (frames_bytes took.fs)
            (end_bytes at.frames),
      );
    }
