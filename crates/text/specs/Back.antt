-- The canonical text reads back.
use Rattle.std.specs.Prelude.{◌≡◌, ℕ, zero, suc, ◌+◌, ◌-◌, ◌*◌, ◌/◌, ◌^◌, ◌<◌, ◌≤◌, cond, List, [], ◌∷◌, ◌++◌, length, take, drop, replicate, Some, None, refl}
use Rattle.std.proofs.Common.{sym, ap, ap₂, ◌∙◌, ⊎_elim, mod-lt, arith, pow_pos}
use Rattle.std.proofs.lemmas.Bool.{cases_lt, cases_eq, eq-eqb, lt-ltb}
use Rattle.std.proofs.lemmas.List.{length-take-le, length-drop, take-append-drop, drop-drop}
use Rattle.text.specs.Colons.{low_groups, groups, written, zeros, longest, first_run, shortened, colons}
use Rattle.text.specs.Words.{whole, filled, read_colons}
use Rattle.text.specs.Addresses.{read_by}
use Rattle.text.specs.Groups.{length_groups}
use Rattle.text.specs.Runs.{zeros_more, zeros_end, longest_is, first_here, first_later}
use Rattle.text.specs.Written.{colons_whole, colons_shortened}
use Rattle.text.specs.WrittenParts.{Small, small_take, small_drop, side_written, parts_whole, parts_shortened}

small_low : (n v : ℕ) → Small (low_groups n v)
unfolding low_groups
small_low zero v = tt
small_low (suc n) v = (mod-lt (v / 2 ^ (16 * n)) (pow_pos 16), small_low n v)

small_groups : (h l : ℕ) → Small (groups h l)
unfolding groups
small_groups h l = small_low 8 (h * 2 ^ 64 + l)

-- ---- the run that is left out

zeros_none : zeros [] ≡ 0
unfolding zeros
zeros_none = refl

longest_none : longest [] ≡ 0
unfolding longest
longest_none = refl

first_none : (n : ℕ) → first_run n [] ≡ 0
unfolding first_run
first_none n = refl

-- a run stands at the place of the first run
run_there : (n : ℕ) (gs : List ℕ) → longest gs ≡ n → zeros (drop (first_run n gs) gs) ≡ n
run_there n [] e = ap (λ k. zeros (drop k [])) (first_none n) ∙ zeros_none ∙ sym longest_none ∙ e
run_there n (g ∷ gs) e =
    ⊎_elim
    (λ h. ap (λ k. zeros (drop k (g ∷ gs))) (first_here n g gs h) ∙ h)
    (λ h.
    let m = longest_is g gs in
    let there : first_run n (g ∷ gs) ≡ suc (first_run n gs) = first_later n g gs h ∙ omega arith in
    ap (λ k. zeros (drop k (g ∷ gs))) there ∙ run_there n gs (omega (arith, h)))
    (cases_eq (zeros (g ∷ gs)) n)

zeros_within : (gs : List ℕ) → zeros gs ≤ length gs
zeros_within [] = omega (arith, zeros_none)
zeros_within (g ∷ gs) =
    ⊎_elim
    (λ e. omega (arith, zeros_more g gs e, zeros_within gs))
    (λ e. omega (arith, zeros_end g gs e))
    (cases_eq g 0)

zeros_front : (gs : List ℕ) → gs ≡ replicate (zeros gs) 0 ++ drop (zeros gs) gs
zeros_front [] = ap (λ k. replicate k 0 ++ drop k []) (sym zeros_none)
zeros_front (g ∷ gs) =
    ⊎_elim
    (λ e.
    let k : zeros (g ∷ gs) ≡ suc (zeros gs) = zeros_more g gs e ∙ omega arith in
    ap₂ (λ x xs. x ∷ xs) e (zeros_front gs)
    ∙ ap (λ n. replicate n 0 ++ drop n (g ∷ gs)) (sym k))
    (λ e. ap (λ n. replicate n 0 ++ drop n (g ∷ gs)) (sym (zeros_end g gs e)))
    (cases_eq g 0)

-- ---- the law

module _ (gs : List ℕ) (eight : length gs ≡ 8) (s : Small gs) where
  back_whole : longest gs < 2 → read_colons (colons gs) ≡ Some gs
  back_whole h =
      ap read_colons (colons_whole gs h)
      ∙ read_by (written gs) None (parts_whole gs s)
      ∙ ap whole (side_written gs s)
      ∙ ap (λ t. cond t (Some gs) None) (eq-eqb (length gs) 8 eight)

  module _ (h : 2 ≤ longest gs) where
    there : zeros (drop (first_run (longest gs) gs) gs) ≡ longest gs
    there = run_there (longest gs) gs refl

    ends : first_run (longest gs) gs + longest gs ≤ 8
    ends =
        let l = length-drop (first_run (longest gs) gs) gs in
        omega (arith, zeros_within (drop (first_run (longest gs) gs) gs), there)

    split : gs ≡ take (first_run (longest gs) gs) gs ++ (replicate (longest gs) 0 ++ drop (first_run (longest gs) gs + longest gs) gs)
    split =
        sym (take-append-drop (first_run (longest gs) gs) gs)
        ∙ ap (λ r. take (first_run (longest gs) gs) gs ++ r)
        (zeros_front (drop (first_run (longest gs) gs) gs)
        ∙ ap (λ k. replicate k 0 ++ drop k (drop (first_run (longest gs) gs) gs)) there
        ∙ ap (λ r. replicate (longest gs) 0 ++ r) (drop-drop (longest gs) (first_run (longest gs) gs) gs))

    back_shortened : read_colons (colons gs) ≡ Some gs
    back_shortened =
        let p = first_run (longest gs) gs in
        let m = longest gs in
        let a = take p gs in
        let b = drop (p + m) gs in
        let e = ends in
        let la : length a ≡ p = length-take-le p gs (omega arith) in
        let lb : length b ≡ length gs - (p + m) = length-drop (p + m) gs in
        let left : 8 - (length a + length b) ≡ m = omega arith in
        ap read_colons (colons_shortened gs h)
        ∙ read_by (shortened p m gs) (Some (written a, written b)) (parts_shortened a b (small_take p gs s))
        ∙ ap₂ filled (side_written a (small_take p gs s)) (side_written b (small_drop (p + m) gs s))
        ∙ ap (λ t. cond t (Some (a ++ (replicate (8 - (length a + length b)) 0 ++ b))) None) (lt-ltb (length a + length b) 8 (omega arith))
        ∙ ap (λ k. Some (a ++ (replicate k 0 ++ b))) left
        ∙ ap (λ l. Some l) (sym split)

  back : read_colons (colons gs) ≡ Some gs
  back = ⊎_elim back_whole back_shortened (cases_lt (longest gs) 2)

pub reads_back : (h l : ℕ) → read_colons (colons (groups h l)) ≡ Some (groups h l)
reads_back h l = back (groups h l) (length_groups h l) (small_groups h l)
