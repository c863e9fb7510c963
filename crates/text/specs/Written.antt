-- The text of groups, piece by piece.
use Rattle.std.specs.Prelude.{◌≡◌, ℕ, ◌+◌, ◌-◌, ◌<◌, ◌≤◌, cond, List, [], ◌∷◌, ◌++◌, length, take, drop, slice_index, refl}
use Rattle.std.proofs.Common.{sym, ap, ap₂, ◌∙◌, append_assoc, append-nil, arith}
use Rattle.std.specs.List.{flat_map}
use Rattle.std.proofs.lemmas.Bool.{le-leb, lt-leb}
use Rattle.std.proofs.lemmas.List.{nil_from_length, take_more, take_all, flat_map_more, length-drop}
use Rattle.std.proofs.lemmas.Slice.{first_rest}
use Rattle.text.specs.Colons.{hex, behind, written, longest, first_run, shortened, colons}

pub written_cons : (g : ℕ) (gs : List ℕ) → written (g ∷ gs) ≡ hex g ++ flat_map behind gs
unfolding written
written_cons g gs = refl

pub written_none : (bs gs : List ℕ) → length gs ≡ 0 → bs ≡ bs ++ written gs
unfolding written
written_none bs gs e = sym (ap (λ l. bs ++ written l) (nil_from_length gs e) ∙ append-nil bs)

-- one group more, after its colon
pub written_more : (bs gs : List ℕ) (i : ℕ) (now : List ℕ) → i < length gs → now ≡ (bs ++ flat_map behind (take i gs)) ++ behind (slice_index gs i) → now ≡ bs ++ flat_map behind (take (i + 1) gs)
written_more bs gs i now h e =
    e
    ∙ flat_map_more behind bs (take i gs) (slice_index gs i)
    ∙ ap (λ l. bs ++ flat_map behind l) (sym (take_more gs i 0 h))

pub written_all : (bs gs rest : List ℕ) (i : ℕ) (mid now : List ℕ) → 0 < length gs → rest ≡ take (length gs - 1) (drop 1 gs) → length rest ≤ i
    → mid ≡ bs ++ hex (slice_index gs 0) → now ≡ mid ++ flat_map behind (take i rest) → now ≡ bs ++ written gs
written_all bs gs rest i mid now some is h e f =
    f
    ∙ ap₂ (λ a l. a ++ flat_map behind l) e (take_all i rest h ∙ is)
    ∙ append_assoc bs (hex (slice_index gs 0)) (flat_map behind (take (length gs - 1) (drop 1 gs)))
    ∙ ap (λ l. bs ++ l) (sym (written_cons (slice_index gs 0) (take (length gs - 1) (drop 1 gs))))
    ∙ ap (λ l. bs ++ written l) (sym (first_rest gs 0 some))

pub colons_whole : (gs : List ℕ) → longest gs < 2 → colons gs ≡ written gs
unfolding colons
colons_whole gs h = ap (λ t. cond t (shortened (first_run (longest gs) gs) (longest gs) gs) (written gs)) (lt-leb 2 (longest gs) h)

pub colons_shortened : (gs : List ℕ) → 2 ≤ longest gs → colons gs ≡ shortened (first_run (longest gs) gs) (longest gs) gs
unfolding colons
colons_shortened gs h = ap (λ t. cond t (shortened (first_run (longest gs) gs) (longest gs) gs) (written gs)) (le-leb 2 (longest gs) h)

-- what stands before the run, two colons, what stands behind the run
pub colons_pieces : (gs b₀ b₁ b₂ b₃ : List ℕ) (start end : ℕ) → length gs ≡ 8 → 2 ≤ end - start → start ≡ first_run (longest gs) gs → end ≡ start + longest gs
    → b₀ ≡ [] → b₁ ≡ b₀ ++ written (take start gs) → b₂ ≡ b₁ ++ 58 ∷ 58 ∷ [] → b₃ ≡ b₂ ++ written (take (8 - end) (drop end gs))
    → b₃ ≡ colons gs
colons_pieces gs b₀ b₁ b₂ b₃ start end eight some at is e₀ e₁ e₂ e₃ =
    let many : 2 ≤ longest gs = omega arith in
    let all = length-drop end gs in
    e₃
    ∙ ap₂ (λ b l. b ++ written l)
    (e₂ ∙ ap (λ b. b ++ 58 ∷ 58 ∷ []) (e₁ ∙ ap (λ b. b ++ written (take start gs)) e₀))
    (take_all (8 - end) (drop end gs) (omega arith))
    ∙ append_assoc (written (take start gs)) (58 ∷ 58 ∷ []) (written (drop end gs))
    ∙ ap (λ e. written (take start gs) ++ (58 ∷ 58 ∷ written (drop e gs))) is
    ∙ ap (λ p. shortened p (longest gs) gs) at
    ∙ sym (colons_shortened gs many)
