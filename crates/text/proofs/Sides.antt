-- The groups of a text read so far, and one group more.
use Rattle.std.proofs.Common.{◌≡◌, ℕ, Bool, ◌==◌, ◌+◌, ◌*◌, ◌^◌, ◌<◌, ◌≤◌, false, List, [], ◌∷◌, length, get_or, drop, Some, None, Option, sym, refl, ap, ◌∙◌, ⊎_elim, append-nil, subst, arith, pow_mono, pow-add}
use lib.Arith.{digits_lt}
use Rattle.std.specs.List.{onto_first}
use Rattle.std.proofs.lemmas.Bool.{cases_eq}
use Rattle.std.proofs.lemmas.List.{drop_more, drop_all}
use Rattle.std.specs.declared.slice.Split.{Split}
use Rattle.std.specs.Slice.Iter.{split_rest, split_done, split_callee, split_steps}
use Rattle.std.specs.Fn.{CalledAt}
use Rattle.std.specs.Iterator.{Yields}
use Rattle.std.proofs.lemmas.Iterator.{YieldsList}
use Rattle.std.proofs.lemmas.Iterator.Consumers.{YieldsList-at, YieldsList-turn, YieldsList-end}
use Rattle.std.proofs.lemmas.Iterator.Splits.{YieldsList-from_slice_split}
use denote.Param.Members.{Mut}
use denote.Ref.{Bor}
use Rattle.text.specs.Colons.{low_groups}
use Rattle.text.specs.Words.{word, words, before, numbers, side, Beyond}
use Rattle.text.specs.Groups.{length_low, low_more}
use Rattle.text.specs.WordLists.{ahead, ahead_none, ahead_before, beyond_before, words_by, words_colon, words_other, numbers_cons, numbers_nil, side_some, side_none}

-- how many bytes words take, each with a colon behind it
abbrev pub spans : List (List ℕ) → ℕ
spans [] = 0
spans (w ∷ ws) = length w + 1 + spans ws

all_spans : (t : List ℕ) → spans (words t) ≡ length t + 1
unfolding words
all_spans [] = refl
all_spans (c ∷ cs) = ⊎_elim
    (λ e. ap (λ x. spans (words (x ∷ cs))) e ∙ ap spans (words_colon cs) ∙ omega (arith, all_spans cs))
    (λ e.
    let more : spans (onto_first c (words cs)) ≡ 1 + spans (words cs) =
    words_by (λ ws. spans (onto_first c ws) ≡ 1 + spans ws) (λ w ws. omega arith) cs in
    ap spans (words_other c cs e) ∙ omega (arith, more, all_spans cs))
    (cases_eq c 58)

pub number_low : (count number : ℕ) → count < 8 → number < 2 ^ (16 * count) → number < 2 ^ 112
number_low count number h l =
    let m : 16 * count ≤ 112 = omega arith in
    let p : 2 ^ (16 * count) ≤ 2 ^ 112 = pow_mono m in
    omega arith

pub number_more : (count number g : ℕ) → number < 2 ^ (16 * count) → g < 2 ^ 16 → number * 65536 + g < 2 ^ (16 * (count + 1))
number_more count number g h l =
    let e : 16 * (count + 1) ≡ 16 * count + 16 = omega arith in
    subst (λ x. number * 65536 + g < x) (sym (ap (λ k. 2 ^ k) e ∙ pow-add 2 (16 * count) 16)) (digits_lt h l)

-- the first n words were read: they take so many bytes, and their groups stand before those of the other words
pub record Gone (t : List ℕ) (most count number n place : ℕ) : Type 0 where
  pub some : 0 < length t
  pub few : count ≤ most
  pub small : number < 2 ^ (16 * count)
  pub part : place + spans (drop n (words t)) ≡ length t + 1
  pub so_far : numbers (words t) ≡ ahead (low_groups count number) (numbers (drop n (words t)))

pub gone_none : (t : List ℕ) (most : ℕ) → 0 < length t → Gone t most 0 0 0 0
unfolding low_groups
gone_none t most h = record { some = h; few = omega arith; small = omega arith; part = omega (arith, all_spans t); so_far = ahead_none (numbers (words t)) }

pub side_empty : (t : List ℕ) → length t ≡ 0 → side t ≡ Some (low_groups 0 0)
unfolding low_groups
side_empty t e = side_none t e

module _ {t : List ℕ} {most count number n place : ℕ} (s : Gone t most count number n place) where
  -- every word was read
  pub side_done : length (words t) ≤ n → side t ≡ Some (low_groups count number)
  side_done e =
      side_some t s.some ∙ s.so_far
      ∙ ap (λ ws. ahead (low_groups count number) (numbers ws)) (drop_all n (words t) e)
      ∙ ap (ahead (low_groups count number)) numbers_nil
      ∙ ap (λ gs. Some gs) (append-nil (low_groups count number))

  module _ (w : List ℕ) (here : (n < length (words t)) × (w ≡ get_or (words t) n w)) where
    split : drop n (words t) ≡ w ∷ drop (n + 1) (words t)
    split = drop_more (words t) n w here.0 ∙ ap (λ x. x ∷ drop (n + 1) (words t)) (sym here.1)

    span_is : spans (drop n (words t)) ≡ length w + 1 + spans (drop (n + 1) (words t))
    span_is = ap spans split

    pub word_within : place + length w ≤ length t
    word_within = omega (arith, s.part, span_is)

    so_far_is : side t ≡ ahead (low_groups count number) (before (word w) (numbers (drop (n + 1) (words t))))
    so_far_is =
        side_some t s.some ∙ s.so_far
        ∙ ap (λ ws. ahead (low_groups count number) (numbers ws)) split
        ∙ ap (ahead (low_groups count number)) (numbers_cons w (drop (n + 1) (words t)))

    -- a word too many
    pub side_over : count ≡ most → Beyond most (side t)
    side_over e =
        let l = length_low count number in
        subst (Beyond most) (sym so_far_is) (beyond_before (low_groups count number) most (omega arith) (word w) (numbers (drop (n + 1) (words t))))

    -- no word
    pub side_strange : word w ≡ None → Beyond most (side t)
    side_strange e = subst (Beyond most) (sym (so_far_is ∙ ap (λ o. ahead (low_groups count number) (before o (numbers (drop (n + 1) (words t))))) e)) tt

    -- one word more
    pub side_more : (g : ℕ) → g < 2 ^ 16 → word w ≡ Some g → count < most → Gone t most (count + 1) (number * 65536 + g) (n + 1) (place + (length w + 1))
    side_more g low e room =
        record {
          some = s.some;
          few = omega arith;
          small = number_more count number g s.small low;
          part = omega (arith, s.part, span_is);
          so_far =
              sym (side_some t s.some) ∙ so_far_is
              ∙ ap (λ o. ahead (low_groups count number) (before o (numbers (drop (n + 1) (words t))))) e
              ∙ ahead_before (low_groups count number) g (numbers (drop (n + 1) (words t)))
              ∙ ap (λ gs. ahead gs (numbers (drop (n + 1) (words t)))) (sym (low_more count number g low));
        }

-- ---- the words that a split at colons gives

module _ {F : Type 0} {g : Mut F (Bor ℕ × Unit {0}) Bool} {s s' : Split ℕ F} {f : F} (t : List ℕ) (same : s' ≡ s) (rest : split_rest s ≡ t) (done : split_done s ≡ false) (callee : split_callee s ≡ f)
    (xs : List (Bor (List ℕ))) (u v : Split ℕ F) (yielded : Yields (split_steps g) s' xs u) (r : Option (Bor (List ℕ))) (steps : split_steps g u r v)
    (computes : (x : ℕ) (b : Bool) (q : F) → CalledAt g f x b q → (q ≡ f) × (b ≡ (x == 58))) where
  road : YieldsList (split_steps g) (λ x. x.now) s' (words t)
  unfolding words
  road = YieldsList-at same (YieldsList-from_slice_split _ (λ c. c == 58) t rest done callee computes)

  pub next_word : (w : Bor (List ℕ)) → r ≡ Some w → (length xs < length (words t)) × (w.now ≡ get_or (words t) (length xs) w.now)
  next_word w is = YieldsList-turn road xs u yielded r v w is steps

  pub last_word : r ≡ None → length (words t) ≤ length xs
  last_word is = omega (arith, (YieldsList-end road xs u yielded r v is steps).1)
