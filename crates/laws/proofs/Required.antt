-- Which paths a set of routes requires, and how their number changes with the routes.
use Rattle.std.proofs.Common.{◌≡◌, ℕ, zero, suc, ◌+◌, ◌<◌, ◌≤◌, true, ◌||◌, leb, ◌⊎◌, List, [], ◌∷◌, ◌++◌, length, take, is_some, Some, sym, refl, ap, ◌∙◌, subst, inl, inr, ⊎_elim, le_of_suc-le-suc, not-suc-le-zero, add-zero, add_assoc, arith, le-leb, leb-true}
use Rattle.std.proofs.lemmas.Bool.{or_cases, or_left, or_right}
use Rattle.bits.specs.Rows.{Bits}
use Rattle.bits.specs.Order.{same}
use Rattle.bits.proofs.Orders.{holds, fails, decided, same_eq, same_self}
use Rattle.laws.specs.Required.{Beneath, RequiredLaws}
use Rattle.laws.proofs.Paths.{count_append, member_append, member_distinct, put_requires, same_count}
use Rattle.laws.proofs.Routes.{find_put, find_put_other, find_without_other, put_ascends, unique, without_ascends}
use Rattle.laws.proofs.Singles.{required_single}
use Rattle.laws.proofs.Ways.{leads, root_required, way_among}
use Rattle.model.specs.Plans.{offset, offsets, offsets_from}
use Rattle.model.specs.Required.{distinct, fresh, member, required, required_paths, way, ways}
use Rattle.model.specs.Routes.{Routes, Ascending, find, put, without}

-- ---- the paths on the way to one prefix

-- from an offset on, a path on the way to a prefix is its first bits at the offset of a stride
pub record Step (o : ℕ) (ss : List ℕ) (p q : Bits) : Type 0 where
  pub stride : ℕ
  pub planned : stride < length ss
  pub reaches : o + offset ss stride ≤ length p
  pub is : q ≡ take (o + offset ss stride) p

later_step : (o s : ℕ) (ss : List ℕ) (p q : Bits) → Step (o + s) ss p q → Step o (s ∷ ss) p q
later_step o s ss p q x =
    let sums : (o + s) + offset ss x.stride ≡ o + (s + offset ss x.stride) = add_assoc o s (offset ss x.stride) in
    record {
      stride = suc x.stride;
      planned = omega (arith, x.planned);
      reaches = omega (arith, x.reaches);
      is = x.is ∙ ap (λ (i : ℕ). take i p) sums;
    }

pub way_step : (o : ℕ) (ss : List ℕ) (p q : Bits) → member q (way (offsets_from o ss) p) ≡ true → Step o ss p q
way_step o [] p q m = let z : ◌≡◌ {A = ℕ} 0 1 = cc in absurd (omega arith)
way_step o (s ∷ ss) p q m = elim (decided (leb o (length p))) [
  | holds e ↦ elim (decided (same q (take o p))) [
    | holds k ↦
        (let none : o ≡ o + 0 = omega arith in
        record {
          stride = 0;
          planned = omega arith;
          reaches = omega (arith, leb-true o (length p) e);
          is = same_eq q (take o p) k ∙ ap (λ (i : ℕ). take i p) none;
        })
    | fails k ↦ later_step o s ss p q (way_step (o + s) ss p q (simp (e, k) at m))
  ]
  | fails e ↦ later_step o s ss p q (way_step (o + s) ss p q (simp e at m))
]

pub step_way : (o : ℕ) (ss : List ℕ) (p : Bits) (k : ℕ) → k < length ss → o + offset ss k ≤ length p
    → member (take (o + offset ss k) p) (way (offsets_from o ss) p) ≡ true
step_way o [] p k l h = absurd (not-suc-le-zero l)
step_way o (s ∷ ss) p zero l h =
    let none : o + 0 ≡ o = add-zero o in
    simp (none, le-leb o (length p) (omega arith), same_self (take o p))
step_way o (s ∷ ss) p (suc k) l h =
    let sums : (o + s) + offset ss k ≡ o + (s + offset ss k) = add_assoc o s (offset ss k) in
    let rest = subst (λ (i : ℕ). member (take i p) (way (offsets_from (o + s) ss) p) ≡ true) sums
    (step_way (o + s) ss p k (le_of_suc-le-suc l) (omega arith)) in
    elim (decided (leb o (length p))) [
      | holds e ↦ simp e (or_right (same (take (o + (s + offset ss k)) p) (take o p)) (member (take (o + (s + offset ss k)) p) (way (offsets_from (o + s) ss) p)) rest)
      | fails e ↦ simp e rest
    ]

-- ---- the required paths

module _ (plan : List ℕ) (rs : Routes) where
  pub required_cases : (q : Bits) → member q (required_paths plan rs) ≡ (same q [] || member q (ways (offsets plan) rs))
  unfolding required_paths
  required_cases q = member_distinct q ([] ∷ ways (offsets plan) rs)

  way_which : (p q : Bits) → is_some (find rs p) ≡ true → Step 0 plan p q → (q ≡ []) ⊎ Beneath plan rs q
  way_which p q h x = by x.stride refl
    where
      none : (n : ℕ) → 0 + n ≡ n
      none n = omega arith

      by : (k : ℕ) → x.stride ≡ k → (q ≡ []) ⊎ Beneath plan rs q
      by zero e = inl (x.is ∙ ap (λ (k : ℕ). take (0 + offset plan k) p) e)
      by (suc k) e =
          inr (record {
            prefix = p;
            stride = x.stride;
            held = h;
            later = omega arith;
            planned = x.planned;
            reaches = omega (arith, x.reaches);
            is = x.is ∙ ap (λ (i : ℕ). take i p) (none (offset plan x.stride));
          })

  pub which : (q : Bits) → member q (required_paths plan rs) ≡ true → (q ≡ []) ⊎ Beneath plan rs q
  which q m =
      ⊎_elim (λ e. inl (same_eq q [] e))
      (λ e. let x = leads (offsets plan) rs q e in way_which x.prefix q x.held (way_step 0 plan x.prefix q x.on_way))
      (or_cases (same q []) (member q (ways (offsets plan) rs)) (sym (required_cases q) ∙ m))

  -- a path at any offset that a prefix reaches
  pub offset_required : (p : Bits) (k : ℕ) → is_some (find rs p) ≡ true → k < length plan → offset plan k ≤ length p
      → member (take (offset plan k) p) (required_paths plan rs) ≡ true
  offset_required p k h l r =
      let none : 0 + offset plan k ≡ offset plan k = omega arith in
      required_cases (take (offset plan k) p)
      ∙ or_right (same (take (offset plan k) p) []) (member (take (offset plan k) p) (ways (offsets plan) rs))
      (way_among (offsets plan) rs p (take (offset plan k) p) h
      (subst (λ (i : ℕ). member (take i p) (way (offsets plan) p) ≡ true) none (step_way 0 plan p k l (omega arith))))

  pub beneath : (q : Bits) → Beneath plan rs q → member q (required_paths plan rs) ≡ true
  beneath q x =
      ap (λ (y : Bits). member y (required_paths plan rs)) x.is ∙ offset_required x.prefix x.stride x.held x.planned x.reaches

-- ---- their number

-- fewer paths are no more different ones
pub fewer_paths : (xs ys : List Bits) → ((q : Bits) → member q xs ≡ true → member q ys ≡ true) → length (distinct xs) ≤ length (distinct ys)
fewer_paths xs ys h =
    let both : length (distinct ys) ≡ length (distinct (ys ++ xs)) =
    same_count ys (ys ++ xs) (λ q. sym (member_append q ys xs ∙ elim (decided (member q ys)) [
      | holds e ↦ simp e
      | fails e ↦ simp e (elim (decided (member q xs)) [
        | holds k ↦ (let wrong = sym e ∙ h q k in let z : ◌≡◌ {A = ℕ} 0 1 = cc in absurd (omega arith))
        | fails k ↦ k
      ])
    ])) in
    let sums = count_append ys xs in
    omega arith

pub fewer : (plan : List ℕ) (rs qs : Routes) → ((p : Bits) → is_some (find rs p) ≡ true → is_some (find qs p) ≡ true)
    → required plan rs ≤ required plan qs
unfolding required required_paths
fewer plan rs qs h = fewer_paths ([] ∷ ways (offsets plan) rs) ([] ∷ ways (offsets plan) qs) (λ q m.
    ⊎_elim
    (λ e. or_left (same q []) (member q (ways (offsets plan) qs)) e)
    (λ e. let x = leads (offsets plan) rs q e in
    or_right (same q []) (member q (ways (offsets plan) qs)) (way_among (offsets plan) qs x.prefix q (h x.prefix x.held) x.on_way))
    (or_cases (same q []) (member q (ways (offsets plan) rs)) m))

-- no route requires the root alone
pub none_required : (plan : List ℕ) → required plan [] ≡ 1
unfolding required required_paths
none_required plan = refl

-- what was taken out and is put in again is as it was
pub put_back : (rs : Routes) (p : Bits) (h : ℕ) → Ascending rs → find rs p ≡ Some h → put (without rs p) p h ≡ rs
put_back rs p h s e =
    unique (put (without rs p) p h) rs (put_ascends (without rs p) p h (without_ascends rs p s)) s
    (λ q. elim (decided (same q p)) [
      | holds k ↦ (let is = same_eq q p k in subst (λ (x : Bits). find (put (without rs p) p h) x ≡ find rs x) (sym is) (find_put (without rs p) p h ∙ sym e))
      | fails k ↦ find_put_other (without rs p) p q h k ∙ find_without_other rs p q k
    ])

pub no_longer : (plan : List ℕ) (rs : Routes) (p : Bits) (h : ℕ) → Ascending rs → find rs p ≡ Some h
    → required plan rs ≡ required plan (without rs p) + length (distinct (fresh (way (offsets plan) p) (required_paths plan (without rs p))))
no_longer plan rs p h s e = ap (required plan) (sym (put_back rs p h s e)) ∙ put_requires plan (without rs p) p h

pub required_laws : RequiredLaws
required_laws =
    record {
      which = which;
      root = root_required;
      beneath = beneath;
      each_once = required_single;
      newly = put_requires;
      no_longer = no_longer;
      fewer = fewer;
    }
