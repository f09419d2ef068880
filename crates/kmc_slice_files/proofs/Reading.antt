-- Bytes that are read into a room.
use Rattle.std.proofs.Common.{◌≡◌, ℕ, zero, suc, ◌+◌, ◌-◌, ◌<◌, ◌≤◌, List, [], ◌∷◌, ◌++◌, length, take, map, get_or, Option, refl, sym, ap, ◌∙◌, arith, append_assoc, length-append, take_all}
use Rattle.std.specs.Int.{w16, w32, w64, from_le_bytes}
use Rattle.std.specs.List.{range_with_len, AllByRecursion}
use Rattle.std.specs.Io.KnownBytes.{Consumes, IsAtEnd}
use Rattle.std.proofs.KnownBytes.{Consumes-trans}
use Rattle.std.proofs.lemmas.List.{ext_get_or, take_at}
use Rattle.std.proofs.lemmas.List.FromFn.{get_or-map-range_with_len, length-map-range_with_len}
use Rattle.std.proofs.lemmas.Nat.{le_bytes_2, le_bytes_4, le_bytes_8}
use Rattle.kmc_device.specs.Room.{CameBehind}
use Rattle.kmc_slice_files.specs.Reads.{GaveSome}
use Rattle.kmc_slice_files.specs.Frames.{spare_head}
use Rattle.kmc_slice_files.specs.declared.read.Head.{Head}

-- a list of so many numbers, place by place
pub by_places : (l : List ℕ) (n : ℕ) → length l ≡ n → l ≡ map (λ i. get_or l i 0) (range_with_len 0 n)
by_places l n long =
    ext_get_or 0 l (map (λ i. get_or l i 0) (range_with_len 0 n)) (long ∙ sym (length-map-range_with_len (λ i. get_or l i 0) 0 n))
    (λ i inside. sym (get_or-map-range_with_len (λ j. get_or l j 0) 0 n i i 0 (omega (arith, long)) (omega arith)))

pub below : (l : List ℕ) → AllByRecursion (λ b. b < 256) l → (i : ℕ) → get_or l i 0 < 256
below [] h i = omega arith
below (b ∷ l) h zero = h.0
below (b ∷ l) h (suc i) = below l h.1 i

-- a head is spelled by its numbers
pub head_is : (h : Head) (bytes : List ℕ) → length bytes ≡ 16 → ((i : ℕ) → get_or bytes i 0 < 256)
    → h.bin ≡ from_le_bytes w16 (get_or bytes 0 0 ∷ get_or bytes 1 0 ∷ [])
    → h.spare ≡ from_le_bytes w16 (get_or bytes 2 0 ∷ get_or bytes 3 0 ∷ [])
    → h.long ≡ from_le_bytes w32 (get_or bytes 4 0 ∷ get_or bytes 5 0 ∷ get_or bytes 6 0 ∷ get_or bytes 7 0 ∷ [])
    → h.check ≡ from_le_bytes w64 (get_or bytes 8 0 ∷ get_or bytes 9 0 ∷ get_or bytes 10 0 ∷ get_or bytes 11 0 ∷ get_or bytes 12 0 ∷ get_or bytes 13
    0 ∷ get_or bytes 14 0 ∷ get_or bytes 15 0 ∷ [])
    → bytes ≡ spare_head h.bin h.spare h.long h.check
unfolding spare_head
head_is h bytes long small bin spare size check =
    by_places bytes 16 long
    ∙ sym (λ p. ((le_bytes_2 (get_or bytes 0 0 ∷ get_or bytes 1 0 ∷ []) h.bin refl (below (get_or bytes 0 0 ∷ get_or bytes 1 0 ∷ [])
    (small 0, (small 1, tt))) bin p
    ++ le_bytes_2 (get_or bytes 2 0 ∷ get_or bytes 3 0 ∷ []) h.spare refl (below (get_or bytes 2 0 ∷ get_or bytes 3 0 ∷ []) (small 2, (small 3, tt)))
    spare p)
    ++ le_bytes_4 (get_or bytes 4 0 ∷ get_or bytes 5 0 ∷ get_or bytes 6 0 ∷ get_or bytes 7 0 ∷ []) h.long refl
    (below (get_or bytes 4 0 ∷ get_or bytes 5 0 ∷ get_or bytes 6 0 ∷ get_or bytes 7 0 ∷ []) (small 4, (small 5, (small 6, (small 7, tt))))) size
    p)
    ++ le_bytes_8 (get_or bytes 8 0 ∷ get_or bytes 9 0 ∷ get_or bytes 10 0 ∷ get_or bytes 11 0 ∷ get_or bytes 12 0 ∷ get_or bytes 13 0 ∷ get_or bytes
    14 0 ∷ get_or bytes 15 0 ∷ []) h.check refl
    (below (get_or bytes 8 0 ∷ get_or bytes 9 0 ∷ get_or bytes 10 0 ∷ get_or bytes 11 0 ∷ get_or bytes 12 0 ∷ get_or bytes 13 0 ∷ get_or bytes 14 0 ∷
    get_or bytes 15 0 ∷ []) (small 8, (small 9, (small 10, (small 11, (small 12, (small 13, (small 14, (small 15, tt))))))))) check p)

front_of_wide : (items zs : List ℕ) (n from : ℕ) → from ≡ length items → from ≤ n → take from (take n items ++ zs) ≡ items
front_of_wide items zs n from is most = ap (λ (l : List ℕ). take from (l ++ zs)) (take_all n items (omega (arith, is)))
    ∙ take_at items zs from (sym is)

-- a block of a body came
module _ (a b c : Option (List ℕ)) (start body items wide spare room : List ℕ) (left long block from end : ℕ) (size : length body + left ≡ long)
    (stand : items ≡ start ++ body) (gave : Consumes a b body) (behind : from ≡ length items) (spread : wide ≡ take (from + block) items ++ spare)
    (most : block ≤ left) (came : CameBehind b c from end wide room) where
  front : take from wide ≡ items
  front = ap (take from) spread ∙ front_of_wide items spare (from + block) from behind (omega arith)

  abbrev pub all_bytes : List ℕ
  all_bytes = body ++ came.bytes

  pub all_gave : Consumes a c all_bytes
  all_gave = Consumes-trans a b c body came.bytes gave came.gave

  pub all_size : length all_bytes + from ≡ length body + end
  all_size = omega (arith, length-append body came.bytes, came.many)

  pub block_came : (len : ℕ) (rest : List ℕ) → end ≡ from + block → length room ≡ end → len ≡ end
      → (x : List ℕ) × (length x + (left - block) ≡ long) × (take len (room ++ rest) ≡ start ++ x) × Consumes a c x
  block_came len rest full wide_room is = (
    all_bytes,
    omega (arith, all_size, size, full, most),
    take_at room rest len (omega (arith, wide_room, is)) ∙ sym (take_all end room (omega (arith, wide_room))) ∙ came.stand
        ∙ ap (λ (l : List ℕ). l ++ came.bytes) (front ∙ stand) ∙ append_assoc start body came.bytes,
    all_gave,
  )

  pub short_came : end < from + block → IsAtEnd c → (bytes : List ℕ) × (length bytes < long) × Consumes a c bytes × IsAtEnd c
  short_came short ended = (all_bytes, omega (arith, all_size, short, size, most), all_gave, ended)

  pub some_came : (before after limit : ℕ) → before ≡ length start → after ≡ from + block → block ≤ limit → GaveSome before after limit a c
  some_came before after limit is now few = record {
    bytes = all_bytes;
    gave = all_gave;
    held = omega (arith, is, now, few, behind, ap length stand, length-append start body, length-append body came.bytes);
  }

pub some_given : (a b c : Option (List ℕ)) (body given items start : List ℕ) (before after from block limit : ℕ) → Consumes a b body
    → Consumes b c given → items ≡ start ++ body → from ≡ length items → before ≡ length start → after ≡ from + block → block ≤ limit
    → GaveSome before after limit a c
some_given a b c body given items start before after from block limit gave now stand behind is grown few = record {
  bytes = body ++ given;
  gave = Consumes-trans a b c body given gave now;
  held = omega (arith, is, grown, few, behind, ap length stand, length-append start body, length-append body given);
}
