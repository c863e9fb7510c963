-- The words and the parts of the text of groups.
use Rattle.std.specs.Prelude.{◌≡◌, ℕ, zero, suc, ◌^◌, ◌<◌, List, [], ◌∷◌, ◌++◌, map, length, take, drop, Some, None, Option, ◌≢◌, slice_index, refl}
use Rattle.std.proofs.Common.{sym, ap, ap₂, ◌∙◌, append_assoc, append-nil, arith, length-append}
use Rattle.std.specs.List.{flat_map}
use Rattle.text.specs.Colons.{hex, behind, written}
use Rattle.text.specs.Words.{words, before, numbers, side, further, parts}
use Rattle.text.specs.Written.{written_cons}
use Rattle.text.specs.HexWords.{hex_some, hex_plain, word_hex}
use Rattle.text.specs.Reading.{moved, moved_none, parts_here, parts_single, parts_colon, parts_empty}
use Rattle.text.specs.WordLists.{Plain, words_last, words_first, numbers_cons, numbers_nil, side_some, side_none}

-- every group has 16 bits
abbrev pub Small : List ℕ → Type 0
Small [] = Unit {0}
Small (g ∷ gs) = (g < 2 ^ 16) × Small gs

pub small_take : (n : ℕ) (gs : List ℕ) → Small gs → Small (take n gs)
small_take zero gs s = tt
small_take (suc n) [] s = tt
small_take (suc n) (g ∷ gs) s = (s.0, small_take n gs s.1)

pub small_drop : (n : ℕ) (gs : List ℕ) → Small gs → Small (drop n gs)
small_drop zero gs s = s
small_drop (suc n) [] s = tt
small_drop (suc n) (g ∷ gs) s = small_drop n gs s.1

-- ---- words

words_written : (g : ℕ) (gs : List ℕ) → Small (g ∷ gs) → words (hex g ++ flat_map behind gs) ≡ map hex (g ∷ gs)
words_written g [] s = ap words (append-nil (hex g)) ∙ words_last (hex g) (hex_plain g s.0)
words_written g (h ∷ gs) s = words_first (hex g) (hex h ++ flat_map behind gs) (hex_plain g s.0) ∙ ap (λ ws. hex g ∷ ws) (words_written h gs s.1)

numbers_hex : (gs : List ℕ) → Small gs → numbers (map hex gs) ≡ Some gs
numbers_hex [] s = numbers_nil
numbers_hex (g ∷ gs) s = numbers_cons (hex g) (map hex gs) ∙ ap₂ before (word_hex g s.0) (numbers_hex gs s.1)

written_some : (g : ℕ) (gs : List ℕ) → g < 2 ^ 16 → 0 < length (written (g ∷ gs))
written_some g gs h =
    let e = ap length (written_cons g gs) in
    let l = length-append (hex g) (flat_map behind gs) in
    omega (arith, hex_some g h)

pub side_written : (gs : List ℕ) → Small gs → side (written gs) ≡ Some gs
unfolding written
side_written [] s = side_none [] refl
side_written (g ∷ gs) s =
    side_some (written (g ∷ gs)) (written_some g gs s.0)
    ∙ ap numbers (words_written g gs s)
    ∙ numbers_hex (g ∷ gs) s

-- ---- parts

further_moved : (c : ℕ) (front : List ℕ) (o : Option (List ℕ × List ℕ)) → further c (moved front o) ≡ moved (c ∷ front) o
further_moved c front None = refl
further_moved c front (Some p) = refl

moved_moved : (a b : List ℕ) (o : Option (List ℕ × List ℕ)) → moved a (moved b o) ≡ moved (a ++ b) o
moved_moved a b None = refl
moved_moved a b (Some p) = ap (λ l. Some (l, p.1)) (sym (append_assoc a b p.0))

parts_plain : (w r : List ℕ) → Plain w → parts (w ++ r) ≡ moved w (parts r)
parts_plain [] r p = sym (moved_none (parts r))
parts_plain (c ∷ cs) r p = parts_single c (cs ++ r) p.0 ∙ ap (further c) (parts_plain cs r p.1) ∙ further_moved c cs (parts r)

first_plain : (w r : List ℕ) → Plain w → 0 < length w → slice_index (w ++ r) 0 ≢ 58
first_plain [] r p h e = omega arith
first_plain (c ∷ cs) r p h e = p.0 e

parts_behind : (g : ℕ) (r : List ℕ) → g < 2 ^ 16 → parts (58 ∷ (hex g ++ r)) ≡ moved (58 ∷ hex g) (parts r)
parts_behind g r h =
    parts_colon 58 (hex g ++ r) (first_plain (hex g) r (hex_plain g h) (hex_some g h))
    ∙ ap (further 58) (parts_plain (hex g) r (hex_plain g h))
    ∙ further_moved 58 (hex g) (parts r)

parts_joined : (gs r : List ℕ) → Small gs → parts (flat_map behind gs ++ r) ≡ moved (flat_map behind gs) (parts r)
parts_joined [] r s = sym (moved_none (parts r))
parts_joined (g ∷ gs) r s =
    ap parts (append_assoc (58 ∷ hex g) (flat_map behind gs) r)
    ∙ parts_behind g (flat_map behind gs ++ r) s.0
    ∙ ap (moved (58 ∷ hex g)) (parts_joined gs r s.1)
    ∙ moved_moved (58 ∷ hex g) (flat_map behind gs) (parts r)

parts_written : (gs r : List ℕ) → Small gs → parts (written gs ++ r) ≡ moved (written gs) (parts r)
unfolding written
parts_written [] r s = sym (moved_none (parts r))
parts_written (g ∷ gs) r s =
    ap parts (append_assoc (hex g) (flat_map behind gs) r)
    ∙ parts_plain (hex g) (flat_map behind gs ++ r) (hex_plain g s.0)
    ∙ ap (moved (hex g)) (parts_joined gs r s.1)
    ∙ moved_moved (hex g) (flat_map behind gs) (parts r)

-- no two colons in a row between groups
pub parts_whole : (gs : List ℕ) → Small gs → parts (written gs) ≡ None
parts_whole gs s = ap parts (sym (append-nil (written gs))) ∙ parts_written gs [] s ∙ ap (moved (written gs)) parts_empty

-- the two colons are the first
pub parts_shortened : (gs hs : List ℕ) → Small gs → parts (written gs ++ (58 ∷ 58 ∷ written hs)) ≡ Some (written gs, written hs)
parts_shortened gs hs s =
    parts_written gs (58 ∷ 58 ∷ written hs) s
    ∙ ap (moved (written gs)) (parts_here 58 (58 ∷ written hs) refl refl)
    ∙ ap (λ l. Some (l, written hs)) (append-nil (written gs))
