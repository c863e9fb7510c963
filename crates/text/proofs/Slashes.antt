-- The last slash of a text is where the text of a prefix is taken apart.
use Rattle.std.proofs.Common.{◌≡◌, ℕ, suc, ◌+◌, ◌-◌, ◌^◌, ◌<◌, ◌≤◌, List, ◌∷◌, ◌++◌, length, slice_index, take, drop, decimal, sym, refl, ap, ◌∙◌, subst, ap₂, ⊎_elim, mod-eq_of_lt, arith, length-append, length-drop}
use Rattle.std.proofs.lemmas.Bool.{cases_order}
use Rattle.std.proofs.lemmas.List.{take-append-drop, take_at, drop_at, drop_more, get_or_at, get_or-append_right}
use Rattle.std.proofs.lemmas.Str.Parse.{digit_at}
use Rattle.std.proofs.lemmas.Fmt.{decimal_is_IsNumeral, decimal_injective}
use Rattle.text.specs.Stuck.{Stuck}
use Rattle.text.specs.Slashed.{length_text, Unslashed, LastSlash, SlashReads, SlashStuck}

decimal_unslashed : (n : ℕ) → n < 2 ^ 64 → Unslashed (decimal n)
decimal_unslashed n h k l e = omega (arith, digit_at (decimal n) k (decimal_is_IsNumeral n h).0.1 l)

-- a slash stands in the text
slash_at : (text t s : List ℕ) → text ≡ t ++ (47 ∷ s) → slice_index text (length t) ≡ 47
slash_at text t s e = ap (λ x. slice_index x (length t)) e ∙ get_or_at t 47 s 0 (length t) refl

long : (text t s : List ℕ) → text ≡ t ++ (47 ∷ s) → length text ≡ length t + 1 + length s
long text t s e = omega (arith, ap length e, length-append t (47 ∷ s))

-- a text in two parts, before and behind its last slash
pub record Parts (text t s : List ℕ) (i : ℕ) : Type 0 where
  pub at : length t ≡ i
  pub front : t ≡ take i text
  pub rest : s ≡ drop (i + 1) text

parted : (text t s : List ℕ) (i : ℕ) → LastSlash text i → text ≡ t ++ (47 ∷ s) → Unslashed s → Parts text t s i
parted text t s i h e none =
    let n = long text t s e in
    let here : length t ≡ i =
    ⊎_elim (λ same. same)
    (⊎_elim
    (λ less.
    let j : i - length t ≡ suc (i - length t - 1) = omega arith in
    absurd (none (i - length t - 1) (omega (arith, h.within))
    (ap (λ x. slice_index (47 ∷ s) x) (sym j) ∙ sym (get_or-append_right t (47 ∷ s) (length t) i 0 refl (omega arith))
    ∙ sym (ap (λ x. slice_index x i) e) ∙ h.is)))
    (λ more. absurd (h.last (length t) more (omega arith) (slash_at text t s e))))
    (cases_order (length t) i) in
    record {
      at = here;
      front = sym (take_at t (47 ∷ s) i here) ∙ ap (take i) (sym e);
      rest = ap (drop 1) (sym (drop_at t (47 ∷ s) i here) ∙ ap (drop i) (sym e) ∙ drop_more text i 0 h.within);
    }

module _ {X : Type 0} (reads : List ℕ → X → Type 0) (text : List ℕ) where
  -- a prefix with its text taken apart
  parts : (i : ℕ) → LastSlash text i → (a : X) (l : ℕ) → (r : SlashReads reads text a l) → Parts text r.front (decimal l) i
  parts i h a l r = parted text r.front (decimal l) i h r.is (decimal_unslashed l (omega (arith, r.small)))

  -- what is written of a prefix is the text of one
  pub written : (a : X) (t : List ℕ) (l : ℕ) → reads t a → l < 1000 → text ≡ t ++ (47 ∷ decimal l) → SlashReads reads text a l
  written a t l r small e = record { front = t; is = e; stands = r; small = small }

  -- reading is refused, at this place
  pub record Refusal (place : ℕ) : Type 0 where
    pub within : place ≤ length text
    pub none : (a : X) (l : ℕ) → SlashReads reads text a l → ⊥
    pub stop : SlashStuck reads text place

  -- no slash
  no_slash : Unslashed text → (t s : List ℕ) → text ≡ t ++ (47 ∷ s) → ⊥
  no_slash h t s e = h (length t) (omega (arith, long text t s e)) (slash_at text t s e)

  pub without : (place : ℕ) → place ≤ length text → Unslashed text → ((a : X) → reads text a → place ≡ length text) → Refusal place
  without place w h u =
      record {
        within = w;
        none = λ a l r. no_slash h r.front (decimal l) r.is;
        stop = record {
          unslashed = λ a _ r. u a r;
          before = λ t s e. absurd (no_slash h t s e);
          behind = λ t s a e. absurd (no_slash h t s e);
        };
      }

  module _ (i : ℕ) (h : LastSlash text i) where
    -- no address stands before the slash
    pub no_address : (place : ℕ) → place ≤ i → ((a : X) → reads (take i text) a → ⊥) → Refusal place
    no_address place w none =
        record {
          within = omega (arith, h.within);
          none = λ a l r. none a (subst (λ t. reads t a) (parts i h a l r).front r.stands);
          stop = record {
            unslashed = λ a u. absurd (u i h.within h.is);
            before = λ t s e u _. omega (arith, (parted text t s i h e u).at);
            behind = λ t s a e u r. absurd (none a (subst (λ x. reads x a) (parted text t s i h e u).front r));
          };
        }

    -- no length stands behind the slash
    pub no_length : (a : X) → reads (take i text) a → (p : ℕ) → Stuck length_text (drop (i + 1) text) p → Refusal (i + 1 + p)
    no_length a r p s =
        record {
          within = omega (arith, s.within, h.within, length-drop (i + 1) text);
          none = λ b l q. s.none l (sym (parts i h b l q).rest ∙ ap decimal (sym (mod-eq_of_lt q.small)));
          stop = record {
            unslashed = λ b u. absurd (u i h.within h.is);
            before = λ t s e u none. absurd (none a (subst (λ x. reads x a) (sym (parted text t s i h e u).front) r));
            behind = λ t x b e u _.
                let q = parted text t x i h e u in
                (p, ap (λ n. n + 1 + p) (sym q.at), subst (λ y. Stuck length_text y p) (sym q.rest) s);
          };
        }

    -- both stand there
    pub prefix_reads : (a : X) → reads (take i text) a → (l : ℕ) → drop (i + 1) text ≡ decimal l → l < 1000 → SlashReads reads text a l
    prefix_reads a r l e small =
        record {
          front = take i text;
          is = sym (take-append-drop i text) ∙ ap (λ s. take i text ++ s) (drop_more text i 0 h.within ∙ ap₂ (λ c t. c ∷ t) h.is e);
          stands = r;
          small = small;
        }

  -- a text stands for one prefix at most
  pub same_parts : (a b : X) (l m : ℕ) → SlashReads reads text a l → SlashReads reads text b m → (i : ℕ) → LastSlash text i → (l ≡ m) × reads (take i text) a × reads (take i text) b
  same_parts a b l m p q i h =
      let x = parts i h a l p in
      let y = parts i h b m q in (
        decimal_injective l m (omega (arith, p.small)) (omega (arith, q.small)) (x.rest ∙ sym y.rest),
        subst (λ t. reads t a) x.front p.stands,
        subst (λ t. reads t b) y.front q.stands,
      )
