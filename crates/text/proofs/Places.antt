-- What stands where in a text: its words up to a place, and its two parts.
use Rattle.std.specs.Prelude.{◌≡◌, ℕ, suc, ◌+◌, ◌<◌, ◌≤◌, ◌⊎◌, List, [], ◌∷◌, ◌++◌, length, take, drop, Some, None, Option, ◌≢◌, slice_index, slice_index_or, refl}
use Rattle.std.proofs.Common.{sym, ap, ap₂, subst, ◌∙◌, append_assoc, append-nil, take-append-drop, ⊎_elim, arith}
use Rattle.std.proofs.lemmas.Bool.{cases_lt}
use Rattle.std.proofs.lemmas.List.{drop_more, drop_all, take_more, take_all, get_or-drop, get_or-take, drop-drop, length-take-le}
use Rattle.text.specs.Words.{word, words, further, parts, numbers, Beyond}
use Rattle.text.specs.Reading.{Digit, moved, moved_none, parts_here, parts_single, parts_colon, parts_empty}
use Rattle.text.specs.WordLists.{Plain, words_by, words_last, words_first, ahead, numbers_cons, beyond_before}

pub moved_start : (t : List ℕ) → parts t ≡ moved [] (parts t)
moved_start t = sym (moved_none (parts t))

pub moved_further : (front : List ℕ) (c : ℕ) (o : Option (List ℕ × List ℕ)) → moved front (further c o) ≡ moved (front ++ c ∷ []) o
moved_further front c None = refl
moved_further front c (Some p) = ap (λ l. Some (l, p.1)) (sym (append_assoc front (c ∷ []) p.0))

module _ (t : List ℕ) (i : ℕ) where
  second : slice_index_or (drop (i + 1) t) 0 0 ≡ slice_index t (i + 1)
  second = get_or-drop (i + 1) t 0 0 ∙ ap (λ n. slice_index t n) (omega arith)

  pub colons_found : i + 1 < length t → parts t ≡ moved (take i t) (parts (drop i t)) → slice_index t i ≡ 58 → slice_index t (i + 1) ≡ 58
      → (i + 2 ≤ length t) × (parts t ≡ Some (take i t, drop (i + 2) t))
  colons_found h inv e f = (
    omega arith,
    inv
        ∙ ap (λ l. moved (take i t) (parts l)) (drop_more t i 0 (omega arith))
        ∙ ap (moved (take i t)) (parts_here (slice_index t i) (drop (i + 1) t) e (second ∙ f))
        ∙ ap₂ (λ a b. Some (a, b)) (append-nil (take i t)) (drop-drop 1 (i + 1) t ∙ ap (λ n. drop n t) (omega arith)),
  )

  pub colons_passed : i + 1 < length t → parts t ≡ moved (take i t) (parts (drop i t)) → (slice_index t i ≢ 58) ⊎ (slice_index t (i + 1) ≢ 58)
      → parts t ≡ moved (take (i + 1) t) (parts (drop (i + 1) t))
  colons_passed h inv way =
      inv
      ∙ ap (λ l. moved (take i t) (parts l)) (drop_more t i 0 (omega arith))
      ∙ ap (moved (take i t)) (⊎_elim
      (λ e. parts_single (slice_index t i) (drop (i + 1) t) e)
      (λ e. parts_colon (slice_index t i) (drop (i + 1) t) (λ f. e (sym second ∙ f)))
      way)
      ∙ moved_further (take i t) (slice_index t i) (parts (drop (i + 1) t))
      ∙ ap (λ l. moved l (parts (drop (i + 1) t))) (sym (take_more t i 0 (omega arith)))

  pub colons_missing : length t ≤ i + 1 → parts t ≡ moved (take i t) (parts (drop i t)) → parts t ≡ None
  colons_missing h inv = inv ∙ ap (moved (take i t)) (⊎_elim
      (λ l.
      ap parts (drop_more t i 0 l ∙ ap (λ r. slice_index t i ∷ r) (drop_all (i + 1) t h))
      ∙ parts_colon (slice_index t i) [] (λ e. omega (arith, e))
      ∙ ap (further (slice_index t i)) parts_empty)
      (λ l. ap parts (drop_all i t l) ∙ parts_empty)
      (cases_lt i (length t)))

pub digit_none : (t : List ℕ) → Digit t 0 0
digit_none t = record { bound = omega arith; number = refl; digits = refl }

pub plain_from_places : (w : List ℕ) → ((k : ℕ) → k < length w → slice_index w k ≢ 58) → Plain w
plain_from_places [] h = tt
plain_from_places (c ∷ cs) h = (h 0 (omega arith), plain_from_places cs (λ k l. h (suc k) (omega arith)))

module _ (t : List ℕ) (n : ℕ) (within : n ≤ length t) (plain : (k : ℕ) → k < n → slice_index t k ≢ 58) where
  plain_front : Plain (take n t)
  plain_front = plain_from_places (take n t) (λ k l e. let h : k < n = (let q = length-take-le n t within in omega arith) in plain k h (sym (get_or-take n t k 0 h) ∙ e))

  pub words_all : n ≡ length t → words t ≡ take n t ∷ []
  words_all e = ap words (sym (take_all n t (omega arith))) ∙ words_last (take n t) plain_front

  pub words_some : n < length t → slice_index t n ≡ 58 → words t ≡ take n t ∷ words (drop (n + 1) t)
  words_some l e =
      ap words (sym (take-append-drop n t) ∙ ap (λ r. take n t ++ r) (drop_more t n 0 l ∙ ap (λ c. c ∷ drop (n + 1) t) e))
      ∙ words_first (take n t) (drop (n + 1) t) plain_front

pub beyond_words : (gs : List ℕ) (most : ℕ) → most ≤ length gs → (t : List ℕ) → Beyond most (ahead gs (numbers (words t)))
beyond_words gs most h t =
    words_by (λ ws. Beyond most (ahead gs (numbers ws)))
    (λ w ws. subst (λ o. Beyond most (ahead gs o)) (sym (numbers_cons w ws)) (beyond_before gs most h (word w) (numbers ws))) t
