-- A position within a node says which bits are left there, and the bitmap and the hops of a node are those of the routes that lie in it.
use Rattle.std.proofs.Common.{◌≡◌, ℕ, zero, suc, ◌+◌, ◌^◌, ◌<◌, ◌≤◌, Bool, true, cond, eqb, ltb, ◌⊎◌, [], ◌∷◌, ◌++◌, length, drop, Some, None, sym, refl, ap, ◌∙◌, subst, ap₂, inl, inr, ⊎_elim, pow-suc, arith, length-append, take-append-drop, take_at, drop_at, pow_mono}
use Rattle.std.proofs.lemmas.Bool.{and_parts, cases_order, cases_eq, eq-eqb, eqb-true, lt-ltb}
use Rattle.bits.specs.Rows.{Bits, number, row}
use Rattle.bits.specs.Order.{begins, same}
use Rattle.bits.proofs.Orders.{holds, fails, decided, number_lt, same_eq, same_self}
use Rattle.bits.proofs.Prefixes.{row_number, same_number, begins_front, front_from_begins}
use Rattle.model.specs.Nodes.{marked}
use Rattle.model.specs.Places.{position}
use Rattle.model.specs.Placements.{bitmap_of, hop_in, lies_at, lies_in, marks, taken_at}
use Rattle.model.specs.Routes.{Routes, find}

-- ---- positions tell rows apart

position_lt : (bs : Bits) (n : ℕ) → length bs < n → position bs < 2 ^ n
position_lt bs n h =
    let small = number_lt bs in
    let twice = pow-suc 2 (length bs) in
    let more : 2 ^ suc (length bs) ≤ 2 ^ n = pow_mono h in
    omega arith

shorter_differs : (bs cs : Bits) → length bs < length cs → position bs ≡ position cs → ⊥
shorter_differs bs cs h e = let small = position_lt bs (length cs) h in omega arith

pub position_same : (bs cs : Bits) → position bs ≡ position cs → bs ≡ cs
position_same bs cs e = by (cases_order (length bs) (length cs))
  where
    by : (length bs ≡ length cs) ⊎ ((length bs < length cs) ⊎ (length cs < length bs)) → bs ≡ cs
    by (inl h) = same_number bs cs h (let powers : 2 ^ length bs ≡ 2 ^ length cs = ap (λ k. 2 ^ k) h in omega arith)
    by (inr (inl h)) = absurd (shorter_differs bs cs h e)
    by (inr (inr h)) = absurd (shorter_differs cs bs h (sym e))

pub position_small : (bs : Bits) (s : ℕ) → length bs < s → s ≤ 6 → position bs < 64
position_small bs s h k = position_lt bs 6 (omega arith)

-- ---- the marks of a bitmap

pub length_marks : (at : ℕ → Bool) (n : ℕ) → length (marks at n) ≡ n
length_marks at zero = refl
length_marks at (suc n) = ap suc (length_marks at n)

-- position i of a row of marks
mark_in : (at : ℕ → Bool) (v n i : ℕ) → i < n → row n v ≡ marks at n → marked v i ≡ at i
unfolding row marked
mark_in at v zero i h e = absurd (omega arith)
mark_in at v (suc n) i h e =
    ⊎_elim {C = marked v i ≡ at i} (λ k. cc) (λ k. mark_in at v n i (omega arith) (cc)) (cases_eq i n)

pub marked_at : (at : ℕ → Bool) (n i : ℕ) → i < n → marked (number (marks at n)) i ≡ at i
marked_at at n i h =
    mark_in at (number (marks at n)) n i h
    (ap (λ k. row k (number (marks at n))) (sym (length_marks at n)) ∙ row_number (marks at n))

-- ---- which prefix lies at a position

begins_append : (path bs : Bits) → begins path (path ++ bs) ≡ true
begins_append path bs = subst (λ (q : Bits). begins q (path ++ bs) ≡ true) (take_at path bs (length path) refl) (begins_front (length path) (path ++ bs))

pub lies_there : (path : Bits) (s : ℕ) (bs : Bits) → length bs < s → lies_at path s (position bs) (path ++ bs) ≡ true
lies_there path s bs h =
    let size = length-append path bs in
    let short = lt-ltb (length (path ++ bs)) (length path + s) (omega arith) in
    simp (begins_append path bs, short, drop_at path bs (length path) refl) (eq-eqb (position bs) (position bs) refl)

pub lies_alone : (path : Bits) (s : ℕ) (bs p : Bits) → lies_at path s (position bs) p ≡ true → path ++ bs ≡ p
lies_alone path s bs p h =
    let parts = and_parts (lies_in path s p) (eqb (position bs) (position (drop (length path) p))) h in
    let front = front_from_begins path p (and_parts (begins path p) (ltb (length p) (length path + s)) parts.0).0 in
    let rest = position_same bs (drop (length path) p) (eqb-true (position bs) (position (drop (length path) p)) parts.1) in
    ap₂ (λ (x y : Bits). x ++ y) (sym front) rest ∙ take-append-drop (length path) p

lies_same : (path : Bits) (s : ℕ) (bs p : Bits) → length bs < s → lies_at path s (position bs) p ≡ same (path ++ bs) p
lies_same path s bs p h = elim (decided (same (path ++ bs) p)) [
  | holds e ↦ subst (λ (q : Bits). lies_at path s (position bs) q ≡ same (path ++ bs) q) (same_eq (path ++ bs) p e) (lies_there path s bs h ∙ sym (same_self (path ++ bs)))
  | fails e ↦ elim (decided (lies_at path s (position bs) p)) [
    | holds k ↦ (let wrong = subst (λ (q : Bits). same (path ++ bs) q ≡ true) (lies_alone path s bs p k) (same_self (path ++ bs)) in cc)
    | fails k ↦ k ∙ sym e
  ]
]

-- the hop at a position of the node is that of the prefix that lies there
hop_by : (path : Bits) (s : ℕ) (bs : Bits) (routes : Routes) → length bs < s
    → cond (taken_at path s routes (position bs)) (Some (hop_in path s routes (position bs))) None ≡ find routes (path ++ bs)
hop_by path s bs [] h = refl
hop_by path s bs (r ∷ rs) h =
    let here = lies_same path s bs r.prefix h in
    elim (decided (same (path ++ bs) r.prefix)) [
      | holds e ↦ simp (here, e)
      | fails e ↦ simp (here, e) (hop_by path s bs rs h)
    ]

pub hop_there : (path : Bits) (s : ℕ) (bs : Bits) (routes : Routes) → length bs < s → s ≤ 6
    → cond (marked (bitmap_of path s routes) (position bs)) (Some (hop_in path s routes (position bs))) None ≡ find routes (path ++ bs)
hop_there path s bs routes h k =
    ap (λ t. cond t (Some (hop_in path s routes (position bs))) None)
    (marked_at (taken_at path s routes) 64 (position bs) (position_small bs s h k))
    ∙ hop_by path s bs routes h
