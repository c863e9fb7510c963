-- Blanks and words by the places of the first blank and the first other byte.
use Rattle.std.proofs.Common.{◌≡◌, ℕ, zero, suc, ◌+◌, ◌-◌, ◌<◌, ◌≤◌, Bool, true, false, not, List, length, Option, None, Some, get_or, drop, refl, arith, nat_lt, add-zero}
use Rattle.std.proofs.lemmas.List.{get_or-drop, take_all}
use Rattle.std.proofs.lemmas.List.Quantifiers.{position-Some}
use Rattle.std.proofs.lemmas.List.Sums.{fails_before_first}
use Rattle.std.specs.List.{position, position_or_len}
use Rattle.std.specs.Prelude.{slice_range}
use Rattle.std.proofs.Math.ListN.{length-drop}
use Rattle.std.proofs.lemmas.Grind.{common_steps}
use Rattle.commands.specs.Blanks.{is_blank, Blank, WordAt}

-- where no element passes, each fails
none_passes : (p : ℕ → Bool) (xs : List ℕ) → position p xs ≡ None → (k : ℕ) → k < length xs → p (get_or xs k 0) ≡ false
none_passes p xs e k h = by (nat_lt (position_or_len p xs) (length xs)) refl
  where
    by : (b : Bool) → nat_lt (position_or_len p xs) (length xs) ≡ b → p (get_or xs k 0) ≡ false
    by true u = let wrong = simp u at e in cc
    by false u = fails_before_first p xs k 0 (grind (arith, common_steps))

-- the rest of a line as code takes it
rest_of : (line : List ℕ) (from : ℕ) → slice_range line from (length line) ≡ drop from line
rest_of line from = take_all _ _ (simp length-drop (omega arith))

-- what is not other than a blank is one
blank : (b : Bool) → not b ≡ false → b ≡ true
blank true h = refl
blank false h = cc

other : (b : Bool) → not b ≡ true → b ≡ false
other true h = cc
other false h = refl

-- the byte at a place, as it stands in the rest of the line
at_place : (p : ℕ → Bool) (b : Bool) (line : List ℕ) (from k : ℕ) → from ≤ k → p (get_or (drop from line) (k - from) 0) ≡ b → p (get_or line k 0) ≡ b
at_place p b line from k h e =
    let at = rw get_or-drop at e in
    let same : from + (k - from) ≡ k = omega arith in
    rw same at at

-- with no other byte, all that is left is blank
pub only_blanks : (line : List ℕ) (from : ℕ) → position (λ byte. not (is_blank byte)) (slice_range line from (length line)) ≡ None
    → Blank line from (length line)
only_blanks line from e k h l =
    let p : ℕ → Bool = λ byte. not (is_blank byte) in
    let e = rw rest_of at e in
    blank _ (at_place p false line from k h (none_passes p (drop from line) e (k - from) (simp length-drop (omega arith))))

-- the first other byte from a place on
record Starts (line : List ℕ) (from start : ℕ) : Type 0 where
  within : start < length line
  before : Blank line from start
  first : is_blank (get_or line start 0) ≡ false

starts : (line : List ℕ) (from i : ℕ) → position (λ byte. not (is_blank byte)) (drop from line) ≡ Some i → Starts line from (from + i)
starts line from i e =
    let p : ℕ → Bool = λ byte. not (is_blank byte) in
    let f = position-Some p (drop from line) i 0 e in
    record {
      within = let w = rw length-drop at f.0 in omega (arith, w);
      before = λ k h l. blank _ (at_place p false line from k h (f.2 (k - from) (omega arith)));
      first = other _ (rw get_or-drop at f.1);
    }

-- the end of a word that begins at a place: the first blank from there, or else the end of the line
abbrev pub end_of : List ℕ → ℕ → Option ℕ → ℕ
end_of line start None = length line
end_of line start (Some len) = start + len

-- a word stands from the first other byte to its end
pub word_found : (line : List ℕ) (from i : ℕ) (o : Option ℕ)
    → position (λ byte. not (is_blank byte)) (slice_range line from (length line)) ≡ Some i
    → position is_blank (slice_range line (from + i) (length line)) ≡ o
    → WordAt line from (from + i) (end_of line (from + i) o) (slice_range line (from + i) (end_of line (from + i) o))
word_found line from i o e f =
    let e = rw rest_of at e in
    let f = rw rest_of at f in
    by o f (starts line from i e)
  where
    longer : (len : ℕ) → is_blank (get_or line ((from + i) + len) 0) ≡ true → is_blank (get_or line (from + i) 0) ≡ false → from + i < from + i + len
    longer zero b n = let c = rw add-zero at b in cc
    longer (suc l) b n = omega arith

    by : (o : Option ℕ) → position is_blank (drop (from + i) line) ≡ o → Starts line from (from + i)
        → WordAt line from (from + i) (end_of line (from + i) o) (slice_range line (from + i) (end_of line (from + i) o))
    by None f s = record {
      order = (omega arith, omega (arith, s.within), omega arith);
      before = s.before;
      inside = λ k h l. at_place is_blank false line (from + i) k h (none_passes is_blank (drop (from + i) line) f (k - (from + i)) (simp length-drop (omega arith)));
      behind = λ h. absurd (omega arith);
      is = refl;
    }
    by (Some len) f s =
        let g = position-Some is_blank (drop (from + i) line) len 0 f in
        let behind = rw get_or-drop at g.1 in
        record {
          order = (omega arith, longer len behind s.first, (let w = rw length-drop at g.0 in omega (arith, w)));
          before = s.before;
          inside = λ k h l. at_place is_blank false line (from + i) k h (g.2 (k - (from + i)) (omega arith));
          behind = λ h. behind;
          is = refl;
        }
