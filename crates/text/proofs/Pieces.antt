-- The text of groups from its pieces, said in other words than where it is used: by the place of a run and how many groups it has.
use Rattle.std.specs.Prelude.{◌≡◌, ℕ, ◌+◌, ◌-◌, ◌<◌, ◌≤◌, List, [], ◌∷◌, ◌++◌, length, take, drop, slice_index}
use Rattle.std.proofs.Common.{sym, ap, ap₂, ◌∙◌, append_assoc, arith}
use Rattle.std.specs.List.{flat_map}
use Rattle.std.proofs.lemmas.List.{take_more, take_all, flat_map_more, length-drop}
use Rattle.text.specs.Colons.{hex, behind, written, longest, first_run, shortened, colons}
use Rattle.text.specs.Written.{colons_shortened}

pub written_more : (bs gs : List ℕ) (i : ℕ) (now : List ℕ) → i < length gs → now ≡ ((bs ++ flat_map behind (take i gs)) ++ 58 ∷ []) ++ hex (slice_index gs i) → now ≡ bs ++ flat_map behind (take (i + 1) gs)
written_more bs gs i now h e =
    e
    ∙ append_assoc (bs ++ flat_map behind (take i gs)) (58 ∷ []) (hex (slice_index gs i))
    ∙ flat_map_more behind bs (take i gs) (slice_index gs i)
    ∙ ap (λ l. bs ++ flat_map behind l) (sym (take_more gs i 0 h))

pub colons_pieces : (gs b₀ b₁ b₂ b₃ : List ℕ) (place count : ℕ) → length gs ≡ 8 → 2 ≤ count → place ≡ first_run (longest gs) gs → count ≡ longest gs
    → b₀ ≡ [] → b₁ ≡ b₀ ++ written (take (place - 0) gs) → b₂ ≡ b₁ ++ 58 ∷ 58 ∷ [] → b₃ ≡ b₂ ++ written (take (8 - (place + count)) (drop (place + count) gs))
    → b₃ ≡ colons gs
colons_pieces gs b₀ b₁ b₂ b₃ place count eight some at is e₀ e₁ e₂ e₃ =
    let many : 2 ≤ longest gs = omega arith in
    let same : place - 0 ≡ place = omega arith in
    let all = length-drop (place + count) gs in
    e₃
    ∙ ap₂ (λ b l. b ++ written l)
    (e₂ ∙ ap (λ b. b ++ 58 ∷ 58 ∷ []) (e₁ ∙ ap₂ (λ b n. b ++ written (take n gs)) e₀ same))
    (take_all (8 - (place + count)) (drop (place + count) gs) (omega arith))
    ∙ append_assoc (written (take place gs)) (58 ∷ 58 ∷ []) (written (drop (place + count) gs))
    ∙ ap₂ (λ p n. shortened p n gs) at is
    ∙ sym (colons_shortened gs many)
