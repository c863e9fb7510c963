-- Which paths are required, and what is left of a plan behind an offset.
use Rattle.std.proofs.Common.{◌≡◌, ℕ, ◌+◌, ◌<◌, ◌≤◌, Bool, true, ◌||◌, eqb, leb, List, [], ◌∷◌, length, take, is_some, sym, refl, ap, ◌∙◌, subst, arith, length-take-le}
use Rattle.std.proofs.lemmas.Bool.{eq-eqb, le-leb, leb-true, ne_eqb, or_left, or_right}
use Rattle.bits.specs.Rows.{Bits}
use Rattle.bits.specs.Order.{order, same}
use Rattle.bits.proofs.Orders.{holds, fails, decided, same_eq, same_self}
use Rattle.laws.specs.Lists.{InRange}
use Rattle.laws.proofs.Paths.{member_append, member_distinct}
use Rattle.laws.proofs.Plans.{planned, ranged}
use Rattle.model.specs.Placements.{stride_from}
use Rattle.model.specs.Plans.{in_range, offsets, offsets_from, plan_ok, sum}
use Rattle.model.specs.Required.{member, required_paths, way, ways}
use Rattle.model.specs.Routes.{Route, Routes, find}

-- a prefix has a route
abbrev pub Held : Routes → Bits → Type 0
Held routes p = is_some (find routes p) ≡ true

pub held_more : (r : Route) (rs : Routes) (p : Bits) → Held rs p → Held (r ∷ rs) p
held_more r rs p h = elim (decided (same p r.prefix)) [ holds e ↦ simp e | fails e ↦ simp e h ]

pub held_first : (r : Route) (rs : Routes) → Held (r ∷ rs) r.prefix
held_first r rs = simp (same_self r.prefix)

pub held_short : (W : ℕ) (routes : Routes) (p : Bits) → InRange W routes → Held routes p → length p ≤ W
held_short W [] p h k = absurd (let z : ◌≡◌ {A = ℕ} 0 1 = cc in omega arith)
held_short W (r ∷ rs) p h k = elim (decided (same p r.prefix)) [
  | holds e ↦ subst (λ (q : Bits). length q ≤ W) (sym (same_eq p r.prefix e)) h.0
  | fails e ↦ held_short W rs p h.2 (simp e at k)
]

-- ---- the way of one prefix

-- a path on the way is the first bits of the prefix
pub way_front : (os : List ℕ) (p q : Bits) → member q (way os p) ≡ true → (take (length q) p ≡ q) × (length q ≤ length p)
way_front [] p q h = absurd (let z : ◌≡◌ {A = ℕ} 0 1 = cc in omega arith)
way_front (o ∷ os) p q h = elim (decided (leb o (length p))) [
  | holds e ↦
      (let k : (same q (take o p) || member q (way os p)) ≡ true = simp e at h in
      elim (decided (same q (take o p))) [
        | holds f ↦
            (let is = same_eq q (take o p) f in
            let within = leb-true o (length p) e in
            let size : length q ≡ o = ap length is ∙ length-take-le o p within in
            (ap (λ i. take i p) size ∙ sym is, omega arith))
        | fails f ↦ way_front os p q (simp f at k)
      ])
  | fails e ↦ way_front os p q (simp e at h)
]

-- at the end of a path on the way there is a stride
pub way_stride : (ss : List ℕ) (o : ℕ) (p q : Bits) → in_range ss ≡ true → member q (way (offsets_from o ss) p) ≡ true → 1 ≤ stride_from o ss (length q)
way_stride [] o p q g h = absurd (let z : ◌≡◌ {A = ℕ} 0 1 = cc in omega arith)
way_stride (s ∷ ss) o p q g h =
    let range = ranged s ss g in
    let later : member q (way (offsets_from (o + s) ss) p) ≡ true → 1 ≤ stride_from o (s ∷ ss) (length q) =
    λ k. elim (decided (eqb (length q) o)) [
      | holds e ↦ simp e range.low
      | fails e ↦ simp e (way_stride ss (o + s) p q range.rest k)
    ] in
    elim (decided (leb o (length p))) [
      | holds e ↦
          (let k : (same q (take o p) || member q (way (offsets_from (o + s) ss) p)) ≡ true = simp e at h in
          elim (decided (same q (take o p))) [
            | holds f ↦
                (let size : length q ≡ o = ap length (same_eq q (take o p) f) ∙ length-take-le o p (leb-true o (length p) e) in
                simp (eq-eqb (length q) o size) range.low)
            | fails f ↦ later (simp f at k)
          ])
      | fails e ↦ later (simp e at h)
    ]

-- ---- the ways of all routes

pub way_among : (os : List ℕ) (routes : Routes) (p q : Bits) → Held routes p → member q (way os p) ≡ true → member q (ways os routes) ≡ true
way_among os [] p q h k = cc
way_among os (r ∷ rs) p q h k = member_append q (way os r.prefix) (ways os rs) ∙ elim (decided (same p r.prefix)) [
  | holds e ↦
      or_left (member q (way os r.prefix)) (member q (ways os rs))
      (subst (λ (x : Bits). member q (way os x) ≡ true) (same_eq p r.prefix e) k)
  | fails e ↦ or_right (member q (way os r.prefix)) (member q (ways os rs)) (way_among os rs p q (simp e at h) k)
]

-- a route's prefix with the path on its way
pub record Leads (os : List ℕ) (routes : Routes) (q : Bits) : Type 0 where
  pub prefix : Bits
  pub held : Held routes prefix
  pub on_way : member q (way os prefix) ≡ true

pub leads : (os : List ℕ) (routes : Routes) (q : Bits) → member q (ways os routes) ≡ true → Leads os routes q
leads os [] q h = absurd (let z : ◌≡◌ {A = ℕ} 0 1 = cc in omega arith)
leads os (r ∷ rs) q h = elim (decided (member q (way os r.prefix))) [
  | holds e ↦ record { prefix = r.prefix; held = held_first r rs; on_way = e }
  | fails e ↦
      (let more = leads os rs q (simp e at (sym (member_append q (way os r.prefix) (ways os rs)) ∙ h)) in
      record { prefix = more.prefix; held = held_more r rs more.prefix more.held; on_way = more.on_way })
]

module _ (plan : List ℕ) (routes : Routes) where
  pub root_required : member [] (required_paths plan routes) ≡ true
  unfolding required_paths
  root_required = member_distinct [] ([] ∷ ways (offsets plan) routes) ∙ or_left (same [] []) (member [] (ways (offsets plan) routes)) (same_self [])

  pub way_required : (p q : Bits) → Held routes p → member q (way (offsets plan) p) ≡ true → member q (required_paths plan routes) ≡ true
  unfolding required_paths
  way_required p q h k =
      member_distinct q ([] ∷ ways (offsets plan) routes)
      ∙ or_right (same q []) (member q (ways (offsets plan) routes)) (way_among (offsets plan) routes p q h k)

  pub required_leads : (b : Bool) (q : Bits) → member (b ∷ q) (required_paths plan routes) ≡ true → Leads (offsets plan) routes (b ∷ q)
  unfolding required_paths order
  required_leads b q h =
      leads (offsets plan) routes (b ∷ q) (sym (member_distinct (b ∷ q) ([] ∷ ways (offsets plan) routes)) ∙ h)

-- ---- what is left of a plan

-- from the offset o on, the strides ss are left
pub record Rest (W : ℕ) (plan : List ℕ) (o : ℕ) (ss : List ℕ) : Type 0 where
  pub strides : (k : ℕ) → o ≤ k → stride_from 0 plan k ≡ stride_from o ss k
  pub onward : (p q : Bits) → member q (way (offsets_from o ss) p) ≡ true → member q (way (offsets plan) p) ≡ true
  pub range : in_range ss ≡ true
  pub total : o + sum ss ≡ W + 1

pub rest_all : (W : ℕ) (plan : List ℕ) → plan_ok W plan ≡ true → Rest W plan 0 plan
rest_all W plan h =
    let ok = planned W plan h in
    let whole = ok.total in
    record { strides = λ k l. refl; onward = λ p q m. m; range = ok.range; total = omega arith }

pub rest_next : (W : ℕ) (plan : List ℕ) (o s : ℕ) (ss : List ℕ) → Rest W plan o (s ∷ ss) → Rest W plan (o + s) ss
rest_next W plan o s ss rest =
    let range = ranged s ss rest.range in
    let whole = rest.total in
    record {
      strides = λ k l. (let other = ne_eqb k o (λ e. omega arith) in rest.strides k (omega arith) ∙ simp other);
      onward = λ p q m. rest.onward p q (elim (decided (leb o (length p))) [
        | holds e ↦ simp e (or_right (same q (take o p)) (member q (way (offsets_from (o + s) ss) p)) m)
        | fails e ↦ simp e m
      ]);
      range = range.rest;
      total = omega arith;
    }

-- before the offset there is no stride
pub stride_before : (ss : List ℕ) (o k : ℕ) → k < o → stride_from o ss k ≡ 0
stride_before [] o k h = refl
stride_before (s ∷ ss) o k h = let other = ne_eqb k o (λ e. omega arith) in simp other (stride_before ss (o + s) k (omega arith))

-- a prefix of at most W bits that begins with a path as long as the offset has it on its way
pub begins_way : (W : ℕ) (plan ss : List ℕ) (p q : Bits) → Rest W plan (length q) ss → length p ≤ W → length q ≤ length p → take (length q) p ≡ q
    → member q (way (offsets plan) p) ≡ true
begins_way W plan [] p q rest h k e = let whole = rest.total in absurd (omega arith)
begins_way W plan (s ∷ ss) p q rest h k e =
    let reached = le-leb (length q) (length p) k in
    rest.onward p q (simp reached (or_left (same q (take (length q) p)) (member q (way (offsets_from (length q + s) ss) p))
    (subst (λ (x : Bits). same q x ≡ true) (sym e) (same_self q))))
