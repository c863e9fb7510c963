-- The words of a text, one after another.
use Rattle.std.specs.Prelude.{◌≡◌, ℕ, ◌<◌, ◌≤◌, true, false, cond, List, [], ◌∷◌, ◌++◌, length, Some, None, Option, ◌==◌, ◌≢◌, refl}
use Rattle.std.proofs.Common.{sym, ap, ◌∙◌, append_assoc, append-nil, arith, length-append}
use Rattle.std.proofs.lemmas.Bool.{ne_eqb}
use Rattle.std.specs.List.{onto_first}
use Rattle.text.specs.Words.{word, words, before, numbers, side, Beyond}

-- no byte is a colon
abbrev pub Plain : List ℕ → Type 0
Plain [] = Unit {0}
Plain (c ∷ cs) = (c ≢ 58) × Plain cs

-- bytes put before the first word
abbrev pub glued : List ℕ → List (List ℕ) → List (List ℕ)
glued front [] = front ∷ []
glued front (w ∷ ws) = (front ++ w) ∷ ws

pub words_colon : (cs : List ℕ) → words (58 ∷ cs) ≡ [] ∷ words cs
unfolding words
words_colon cs = refl

pub words_other : (c : ℕ) (cs : List ℕ) → (c ≢ 58) → words (c ∷ cs) ≡ onto_first c (words cs)
unfolding words
words_other c cs e = ap (λ t. cond t ([] ∷ words cs) (onto_first c (words cs))) (ne_eqb c 58 e)

onto_glued : (c : ℕ) (front : List ℕ) (ws : List (List ℕ)) → onto_first c (glued front ws) ≡ glued (c ∷ front) ws
onto_glued c front [] = refl
onto_glued c front (w ∷ ws) = refl

-- what holds of every list of words that is not empty holds of the words of a text
pub words_by : (P : List (List ℕ) → Type 0) → ((w : List ℕ) (ws : List (List ℕ)) → P (w ∷ ws)) → (t : List ℕ) → P (words t)
unfolding words
words_by P f [] = f [] []
words_by P f (c ∷ cs) = elim (c == 58) as (λ b. P (cond b ([] ∷ words cs) (onto_first c (words cs)))) [ true ↦ f [] (words cs) | false ↦ some (words cs) ]
  where
    some : (ws : List (List ℕ)) → P (onto_first c ws)
    some [] = f (c ∷ []) []
    some (w ∷ ws) = f (c ∷ w) ws

words_glued : (front r : List ℕ) → Plain front → words (front ++ r) ≡ glued front (words r)
words_glued [] r p = words_by (λ ws. ws ≡ glued [] ws) (λ w ws. refl) r
words_glued (c ∷ cs) r p =
    words_other c (cs ++ r) p.0
    ∙ ap (onto_first c) (words_glued cs r p.1)
    ∙ onto_glued c cs (words r)

pub words_last : (w : List ℕ) → Plain w → words w ≡ w ∷ []
unfolding words
words_last w p = ap words (sym (append-nil w)) ∙ words_glued w [] p ∙ ap (λ l. l ∷ []) (append-nil w)

pub words_first : (w r : List ℕ) → Plain w → words (w ++ 58 ∷ r) ≡ w ∷ words r
words_first w r p = words_glued w (58 ∷ r) p ∙ ap (glued w) (words_colon r) ∙ ap (λ l. l ∷ words r) (append-nil w)

-- ---- numbers

-- numbers before others, where all are there
abbrev pub ahead : List ℕ → Option (List ℕ) → Option (List ℕ)
ahead front None = None
ahead front (Some rest) = Some (front ++ rest)

pub ahead_none : (o : Option (List ℕ)) → o ≡ ahead [] o
ahead_none None = refl
ahead_none (Some ns) = refl

pub ahead_before : (gs : List ℕ) (g : ℕ) (o : Option (List ℕ)) → ahead gs (before (Some g) o) ≡ ahead (gs ++ g ∷ []) o
ahead_before gs g None = refl
ahead_before gs g (Some ns) = ap (λ l. Some l) (sym (append_assoc gs (g ∷ []) ns))

pub numbers_cons : (w : List ℕ) (ws : List (List ℕ)) → numbers (w ∷ ws) ≡ before (word w) (numbers ws)
unfolding numbers
numbers_cons w ws = refl

pub numbers_nil : numbers [] ≡ Some []
unfolding numbers
numbers_nil = refl

pub side_some : (t : List ℕ) → 0 < length t → side t ≡ numbers (words t)
unfolding side
side_some [] h = absurd (omega arith)
side_some (c ∷ cs) h = refl

pub side_none : (t : List ℕ) → length t ≡ 0 → side t ≡ Some []
unfolding side
side_none [] h = refl
side_none (c ∷ cs) h = absurd (omega arith)

-- a word too many
pub beyond_before : (gs : List ℕ) (most : ℕ) → most ≤ length gs → (a : Option ℕ) (b : Option (List ℕ)) → Beyond most (ahead gs (before a b))
beyond_before gs most h None b = tt
beyond_before gs most h (Some n) None = tt
beyond_before gs most h (Some n) (Some ns) = let l = length-append gs (n ∷ ns) in omega arith
