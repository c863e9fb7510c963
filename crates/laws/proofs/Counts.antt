-- The path count of a lookup, and the nodes that a route more requires, counted offset by offset.
use Rattle.std.proofs.Common.{◌≡◌, ℕ, zero, suc, ◌+◌, ◌<◌, ◌≤◌, Bool, true, false, not, ◌&&◌, eqb, leb, List, [], ◌∷◌, length, take, is_some, sym, refl, ap, ◌∙◌, subst, ⊎_elim, le_of_suc-le-suc, not-suc-le-zero, add-zero, add_assoc, arith, length-take-le, take-take, eqb-true, le-leb, leb-true}
use Rattle.std.proofs.lemmas.Bool.{and_from, and_parts, or_cases, or_left, or_right}
use Rattle.bits.specs.Rows.{Bits}
use Rattle.bits.specs.Order.{begins, same}
use Rattle.bits.proofs.Orders.{holds, fails, decided, same_eq, same_self}
use Rattle.bits.proofs.Prefixes.{begins_front, front_from_begins}
use Rattle.laws.specs.Counts.{count, missing, needed, shared}
use Rattle.laws.specs.Required.{Beneath}
use Rattle.laws.proofs.Matches.{path_count_takes}
use Rattle.laws.proofs.Plans.{planned, ranged}
use Rattle.laws.proofs.Required.{offset_required, which}
use Rattle.laws.proofs.Singles.{keep, single_distinct}
use Rattle.laws.proofs.Visits.{other_length, takes}
use Rattle.laws.proofs.Ways.{root_required}
use Rattle.model.specs.Plans.{in_range, offset, offsets, offsets_from, plan_ok, sum}
use Rattle.model.specs.Required.{Single, distinct, fresh, member, path_count, required_paths, way}
use Rattle.model.specs.Routes.{Routes, find}

-- two tests that answer true together are the same
together : (x y : Bool) → (x ≡ true → y ≡ true) → (y ≡ true → x ≡ true) → x ≡ y
together true true f g = refl
together true false f g = sym (f refl)
together false true f g = g refl
together false false f g = refl

-- ---- a required path at an offset

begins_part : (n : ℕ) (xs ys : Bits) → n ≤ length xs → take n xs ≡ take n ys → begins (take n xs) ys ≡ true
begins_part n xs ys l e = ap (λ (x : Bits). begins x ys) e ∙ begins_front n ys

module _ (a : Bits) (o : ℕ) (inside : o ≤ length a) where
  -- a held prefix of at least o bits that begins as the address
  shared_from : (rs : Routes) (p : Bits) → is_some (find rs p) ≡ true → o ≤ length p → take o a ≡ take o p → shared rs a o ≡ true
  shared_from [] p h l e = h
  shared_from (r ∷ rs) p h l e = elim (decided (same p r.prefix)) [
    | holds k ↦
        (let is = same_eq p r.prefix k in
        or_left (leb o (length r.prefix) && begins (take o a) r.prefix) (shared rs a o)
        (subst (λ (q : Bits). (leb o (length q) && begins (take o a) q) ≡ true) is
        (and_from (leb o (length p)) (begins (take o a) p) (le-leb o (length p) l) (begins_part o a p inside e))))
    | fails k ↦ or_right (leb o (length r.prefix) && begins (take o a) r.prefix) (shared rs a o) (shared_from rs p (simp k at h) l e)
  ]

  record Sharing (rs : Routes) : Type 0 where
    prefix : Bits
    held : is_some (find rs prefix) ≡ true
    long : o ≤ length prefix
    same_front : take o a ≡ take o prefix

  sharing : (rs : Routes) → shared rs a o ≡ true → Sharing rs
  sharing [] h = let z : ◌≡◌ {A = ℕ} 0 1 = cc in absurd (omega arith)
  sharing (r ∷ rs) h =
      ⊎_elim
      (λ e.
      let parts = and_parts (leb o (length r.prefix)) (begins (take o a) r.prefix) e in
      record {
        prefix = r.prefix;
        held = rw (same_self r.prefix);
        long = leb-true o (length r.prefix) parts.0;
        same_front =
            sym (front_from_begins (take o a) r.prefix parts.1) ∙ ap (λ (i : ℕ). take i r.prefix) (length-take-le o a inside);
      })
      (λ e.
      let x = sharing rs e in
      record {
        prefix = x.prefix;
        held = elim (decided (same x.prefix r.prefix)) [ holds k ↦ simp k | fails k ↦ simp k x.held ];
        long = x.long;
        same_front = x.same_front;
      })
      (or_cases (leb o (length r.prefix) && begins (take o a) r.prefix) (shared rs a o) h)

  module _ (plan : List ℕ) (rs : Routes) (k : ℕ) (stride : k < length plan) (at : o ≡ offset plan k) where
    empty_front : take o a ≡ [] → eqb o 0 ≡ true
    empty_front e = let l = length-take-le o a inside in let n = ap length e in let z : o ≡ 0 = omega arith in rw z

    at_root : eqb o 0 ≡ true → take o a ≡ []
    at_root e = ap (λ (i : ℕ). take i a) (eqb-true o 0 e)

    pub needed_here : member (take o a) (required_paths plan rs) ≡ needed rs a o
    needed_here =
        together (member (take o a) (required_paths plan rs)) (needed rs a o)
        (λ m. ⊎_elim
        (λ e. or_left (eqb o 0) (shared rs a o) (empty_front e))
        (λ (x : Beneath plan rs (take o a)).
        let n = length-take-le o a inside in
        let m = ap length x.is ∙ length-take-le (offset plan x.stride) x.prefix x.reaches in
        let same_place : offset plan x.stride ≡ o = omega arith in
        or_right (eqb o 0) (shared rs a o)
        (shared_from rs x.prefix x.held (omega (arith, x.reaches)) (x.is ∙ ap (λ (i : ℕ). take i x.prefix) same_place)))
        (which plan rs (take o a) m))
        (λ s. ⊎_elim
        (λ e. ap (λ (q : Bits). member q (required_paths plan rs)) (at_root e) ∙ root_required plan rs)
        (λ e.
        let x = sharing rs e in
        let l = x.long in
        ap (λ (q : Bits). member q (required_paths plan rs)) (x.same_front ∙ ap (λ (i : ℕ). take i x.prefix) at)
        ∙ offset_required plan rs x.prefix k x.held stride (omega arith))
        (or_cases (eqb o 0) (shared rs a o) s))

-- ---- tests that agree at every offset count the same

Each : (ℕ → Type 0) → List ℕ → Type 0
Each P [] = Unit {0}
Each P (n ∷ ns) = P n × Each P ns

count_same : (f g : ℕ → Bool) (ns : List ℕ) → Each (λ n. f n ≡ g n) ns → count f ns ≡ count g ns
unfolding Each
count_same f g [] e = refl
count_same f g (n ∷ ns) e = simp (e.0, count_same f g ns e.1)

each_offset : (P : ℕ → Type 0) (o : ℕ) (ss : List ℕ) → ((k : ℕ) → k < length ss → P (o + offset ss k)) → Each P (offsets_from o ss)
unfolding Each
each_offset P o [] h = tt
each_offset P o (s ∷ ss) h = (
  subst P (add-zero o) (h 0 (omega arith)),
  each_offset P (o + s) ss (λ k l. subst P (sym (add_assoc o s (offset ss k))) (h (suc k) (omega arith))),
)

-- each offset is below the sum of the strides
offset_below : (ss : List ℕ) (k : ℕ) → in_range ss ≡ true → k < length ss → offset ss k < sum ss
offset_below [] k g h = absurd (not-suc-le-zero h)
offset_below (s ∷ ss) zero g h = let range = ranged s ss g in let l = range.low in omega arith
offset_below (s ∷ ss) (suc k) g h =
    let range = ranged s ss g in
    let rest = offset_below ss k range.rest (le_of_suc-le-suc h) in
    omega arith

-- ---- the path count

keep_count : (f : Bits → Bool) (a : Bits) (os : List ℕ) → length (keep f (takes a os)) ≡ count (λ o. f (take o a)) os
unfolding keep takes
keep_count f a [] = refl
keep_count f a (o ∷ os) = elim (decided (f (take o a))) [
  | holds e ↦ simp e (ap suc (keep_count f a os))
  | fails e ↦ simp e (keep_count f a os)
]

pub path_counted : (a : Bits) (plan : List ℕ) (rs : Routes) → plan_ok (length a) plan ≡ true → path_count plan rs a ≡ count (needed rs a) (offsets plan)
path_counted a plan rs h =
    let ok = planned (length a) plan h in
    let R = required_paths plan rs in
    path_count_takes a plan rs h
    ∙ keep_count (λ q. member q R) a (offsets plan)
    ∙ count_same (λ o. member (take o a) R) (needed rs a) (offsets plan)
    (each_offset (λ o. member (take o a) R ≡ needed rs a o) 0 plan
    (λ k l.
    let below = offset_below plan k ok.range l in
    let t = ok.total in
    needed_here a (0 + offset plan k) (omega arith) plan rs k l (omega arith)))

-- ---- the nodes that a route more requires

fresh_count : (R : List Bits) (p : Bits) (os : List ℕ) → length (fresh (way os p) R) ≡ count (λ o. leb o (length p) && not (member (take o p) R)) os
fresh_count R p [] = refl
fresh_count R p (o ∷ os) = elim (decided (leb o (length p))) [
  | holds e ↦ elim (decided (member (take o p) R)) [
    | holds k ↦ simp (e, k) (fresh_count R p os)
    | fails k ↦ simp (e, k) (ap suc (fresh_count R p os))
  ]
  | fails e ↦ simp e (fresh_count R p os)
]

-- a path on the way from an offset on is at least that long
way_long : (p q : Bits) (o : ℕ) (ss : List ℕ) → length q < o → member q (way (offsets_from o ss) p) ≡ false
way_long p q o [] h = refl
way_long p q o (s ∷ ss) h =
    let rest = way_long p q (o + s) ss (omega arith) in
    elim (decided (leb o (length p))) [
      | holds e ↦
          (let size = length-take-le o p (leb-true o (length p) e) in
          let apart = other_length p q (take o p) (λ l. omega arith) in
          simp (e, apart) rest)
      | fails e ↦ simp e rest
    ]

fresh_absent : (q : Bits) (xs R : List Bits) → member q xs ≡ false → member q (fresh xs R) ≡ false
fresh_absent q [] R h = refl
fresh_absent q (x ∷ xs) R h =
    elim (decided (same q x)) [
      | holds k ↦ (let wrong = simp k at h in let z : ◌≡◌ {A = ℕ} 0 1 = cc in absurd (omega arith))
      | fails k ↦
          (let rest = fresh_absent q xs R (simp k at h) in
          elim (decided (member x R)) [ holds e ↦ simp e rest | fails e ↦ simp (e, k) rest ])
    ]

pub fresh_single : (p : Bits) (o : ℕ) (ss : List ℕ) (R : List Bits) → in_range ss ≡ true → Single (fresh (way (offsets_from o ss) p) R)
fresh_single p o [] R g = tt
fresh_single p o (s ∷ ss) R g =
    let range = ranged s ss g in
    let low = range.low in
    let rest = fresh_single p (o + s) ss R range.rest in
    elim (decided (leb o (length p))) [
      | holds e ↦
          (let size = length-take-le o p (leb-true o (length p) e) in
          let once = fresh_absent (take o p) (way (offsets_from (o + s) ss) p) R (way_long p (take o p) (o + s) ss (omega arith)) in
          elim (decided (member (take o p) R)) [ holds k ↦ simp (e, k) rest | fails k ↦ simp (e, k) (once, rest) ])
      | fails e ↦ simp e rest
    ]

-- the same count with the first bits of the address in place of those of the prefix
pub newly_counted : (a : Bits) (len : ℕ) (plan : List ℕ) (rs : Routes) → plan_ok (length a) plan ≡ true → len ≤ length a
    → length (distinct (fresh (way (offsets plan) (take len a)) (required_paths plan rs))) ≡ count (missing rs a len) (offsets plan)
newly_counted a len plan rs h short =
    let ok = planned (length a) plan h in
    let R = required_paths plan rs in
    let p = take len a in
    let size = length-take-le len a short in
    ap length (single_distinct (fresh (way (offsets plan) p) R) (fresh_single p 0 plan R ok.range))
    ∙ fresh_count R p (offsets plan)
    ∙ count_same (λ o. leb o (length p) && not (member (take o p) R)) (missing rs a len) (offsets plan)
    (each_offset (λ o. (leb o (length p) && not (member (take o p) R)) ≡ missing rs a len o) 0 plan
    (λ k l.
    let o = 0 + offset plan k in
    let below = offset_below plan k ok.range l in
    let t = ok.total in
    ap (λ (i : ℕ). leb o i && not (member (take o p) R)) size
    ∙ elim (decided (leb o len)) [
      | holds e ↦ simp e
          (ap (λ (q : Bits). not (member q R)) (take-take o len a (leb-true o len e))
          ∙ ap not (needed_here a o (omega arith) plan rs k l (omega arith)))
      | fails e ↦ simp e
    ]))
