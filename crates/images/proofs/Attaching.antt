-- The nodes that an insert takes along the way of a prefix: none for the paths that are required already, then one for each further path, whose
-- node is cleared, set as a child of the node before and counted there.
use Rattle.std.proofs.Common.{◌≡◌, ℕ, zero, suc, ◌+◌, ◌-◌, ◌^◌, ◌<◌, ◌≤◌, ◌≢◌, Bool, true, false, cond, ◌&&◌, ◌||◌, eqb, ltb, ◌==◌, slice_index, ◌⊎◌, List, [], ◌∷◌, ◌++◌, length, get_or, take, drop, map, Some, None, Option, sym, refl, ap, ◌∙◌, ap₂, subst, inl, inr, ⊎_elim, not-suc-le-zero, zero-add, arith, length-append, length-take, take_at, drop_at, pow_mono, mod-eq_of_lt, append-nil}
use Rattle.std.proofs.lemmas.Bool.{and_parts, eq-eqb, eqb-false, eqb-true, lt-ltb, ltb-true, ne_eqb, or_from, or_left, or_parts, or_right}
use Rattle.std.proofs.lemmas.List.{length-map}
use Rattle.bits.specs.Rows.{Bits, number, row}
use Rattle.bits.specs.Order.{begins, same}
use Rattle.bits.proofs.Orders.{holds, fails, decided, same_eq, same_self}
use Rattle.bits.proofs.Prefixes.{front_from_begins}
use Rattle.bits.proofs.Rows.{length_row, number_row}
use Rattle.laws.specs.Lists.{Holdable}
use Rattle.laws.proofs.Counts.{fresh_single}
use Rattle.laws.proofs.Paths.{member_append, put_requires, same_count}
use Rattle.laws.proofs.Placements.{placement_laws}
use Rattle.laws.proofs.Plans.{planned}
use Rattle.laws.proofs.Ranges.{count_small}
use Rattle.laws.proofs.Required.{offset_required, step_way}
use Rattle.laws.proofs.Served.{eqb_self, listed_append, node_listed, node_none, once_apart, path_back, path_none}
use Rattle.laws.proofs.Singles.{required_single, single_distinct}
use Rattle.laws.proofs.Taking.{Proper, proper, room as never_full}
use Rattle.laws.proofs.Ways.{Held, held_first, held_more, root_required, way_front}
use Rattle.images.proofs.MarkedNodes.{node_of_path, path_member}
use Rattle.images.proofs.Opening.{count_none}
use Rattle.images.proofs.Strides.{stride_of}
use Rattle.images.proofs.Ways.{firsts, firsts_among, firsts_length, fresh_serving, index_small, last_index, last_planned, node_among, path_front, path_longer, path_next, path_on_way, path_size, put_fewer, put_required, served_before, served_to, serving_firsts, stride_ends, stride_least, stride_most, unserved_behind, way_all, way_closed, way_more, way_path}
use Rattle.model.specs.Places.{indexes, level, position}
use Rattle.model.specs.Placements.{Once, Place, Placement, SoundPlacement, after_insert, bitmap_of, child_of, count_of, field, front, hop_in, image, lies_at, lies_in, link_in, listed, marks, node_at, nodes_of, path_at, paths, stride_from, take_for, taken, taken_at}
use Rattle.model.specs.Plans.{in_range, offset, offsets}
use Rattle.model.specs.Required.{Single, distinct, fresh, member, required, required_paths, way}
use Rattle.model.specs.Routes.{Routes, put}
use Rattle.walks.specs.Trails.{serving}
use Rattle.images.specs.Steps.{ServedTo, insert_at, path_of, served, taken_node}

-- ---- counts of children

-- the same children are as many
count_same : (g h : ℕ → ℕ) (c : ℕ) → ((j : ℕ) → j < c → h j ≡ g j) → count_of h c ≡ count_of g c
count_same g h zero e = refl
count_same g h (suc c) e =
    let rest = count_same g h c (λ j l. e j (omega arith)) in
    let here = e c (omega arith) in
    elim (decided (eqb (g c) 0)) [ holds t ↦ simp (here, t) rest | fails t ↦ simp (here, t) (ap suc rest) ]

-- a child more at a place where there was none
count_more : (g h : ℕ → ℕ) (f i : ℕ) (c : ℕ) → i < c → g i ≡ 0 → eqb f 0 ≡ false → ((j : ℕ) → h j ≡ cond (eqb j i) f (g j))
    → count_of h c ≡ suc (count_of g c)
count_more g h f i zero l off some e = absurd (not-suc-le-zero l)
count_more g h f i (suc c) l off some e = elim (decided (eqb c i)) [
  | holds t ↦
      (let is = eqb-true c i t in
      let here : h c ≡ f = e c ∙ simp t in
      let was : g c ≡ 0 = ap g is ∙ off in
      let rest = count_same g h c (λ j k. e j ∙ simp (ne_eqb j i (λ (x : j ≡ i). omega arith))) in
      simp (here, was, some) (ap suc rest))
  | fails t ↦
      (let here : h c ≡ g c = e c ∙ simp t in
      let apart = eqb-false c i t in
      let rest = count_more g h f i c (omega arith) off some e in
      elim (decided (eqb (g c) 0)) [ holds k ↦ simp (here, k) rest | fails k ↦ simp (here, k) (ap suc rest) ])
]

-- and one where there was none leaves fewer than there are places
count_less : (g : ℕ → ℕ) (i c : ℕ) → i < c → g i ≡ 0 → count_of g c < c
count_less g i zero l off = absurd (not-suc-le-zero l)
count_less g i (suc c) l off = elim (decided (eqb c i)) [
  | holds t ↦
      (let was : g c ≡ 0 = ap g (eqb-true c i t) ∙ off in
      let rest = count_small g c in
      simp was (omega arith))
  | fails t ↦
      (let apart = eqb-false c i t in
      let rest = count_less g i c (omega arith) off in
      elim (decided (eqb (g c) 0)) [ holds e ↦ simp e (omega arith) | fails e ↦ simp e (omega arith) ])
]

-- ---- where no route lies

-- without marks a bitmap is 0
marks_none : (t : ℕ → Bool) (n : ℕ) → ((i : ℕ) → t i ≡ false) → number (marks t n) ≡ 0
unfolding number
marks_none t zero h = refl
marks_none t (suc n) h = let rest = marks_none t n h in simp (h n) (omega arith)

-- without a route there is no hop
hop_none : (path : Bits) (s i : ℕ) (rs : Routes) → taken_at path s rs i ≡ false → hop_in path s rs i ≡ 0
hop_none path s i [] h = refl
hop_none path s i (r ∷ rs) h =
    let parts = or_parts (lies_at path s i r.prefix) (taken_at path s rs i) h in
    simp parts.0 (hop_none path s i rs parts.1)

-- ---- a path more has a node

-- What a path more with a node makes of the nodes, where the path goes on from another with the bits of child i: the node at the front of the chain
-- is cleared, set as child i of the other path's node, where there was none, and counted there.
pub record Takes (N : ℕ) (plan : List ℕ) (routes : Routes) (before after : Placement) (here below : Bits) (i : ℕ) : Type 0 where
  pub next : image N plan routes after ≡ taken_node (image N plan routes before) (front before.free) (node_at before.used here) i
  pub node : node_at after.used below ≡ front before.free
  pub link : (image N plan routes before).child (front before.free) 0 ≡ front after.free
  pub some : front before.free ≢ 0
  pub free : front before.free < N
  pub parent : node_at before.used here < N
  pub index : i < 64
  pub empty : (image N plan routes before).child (node_at before.used here) i ≡ 0
  pub count : (image N plan routes before).count (node_at before.used here) < 64
  pub apart : (node_at before.used here == front before.free) ≡ false

-- the path q, which goes on from y with the bits of child i and from which nothing goes on, gets the first node of the chain
module _ (N : ℕ) (plan : List ℕ) (routes : Routes) (used : List Place) (f : ℕ) (free : List ℕ)
    (once : Once (nodes_of used ++ (f ∷ free))) (single : Single (paths used)) (some : eqb f 0 ≡ false)
    (y q : Bits) (i : ℕ) (low : i < 64) (there : member y (paths used) ≡ true) (new : member q (paths used) ≡ false)
    (small : i < 2 ^ stride_from 0 plan (length y)) (next : y ++ row (stride_from 0 plan (length y)) i ≡ q)
    (alone : (x : Bits) (j : ℕ) → member x (paths used) ≡ true → j < 2 ^ stride_from 0 plan (length x)
    → x ++ row (stride_from 0 plan (length x)) j ≡ q → (x ≡ y) × (j ≡ i))
    (none_lies : (j : ℕ) → taken_at q (stride_from 0 plan (length q)) routes j ≡ false)
    (none_below : (j : ℕ) → (same (q ++ row (stride_from 0 plan (length q)) j) q ≡ false)
    × (node_at used (q ++ row (stride_from 0 plan (length q)) j) ≡ 0)) where
  abbrev more : List Place
  more = record { path = q; node = f } ∷ used

  abbrev parent : ℕ
  parent = node_at used y

  abbrev stride : Bits → ℕ
  stride x = stride_from 0 plan (length x)

  own : path_at used parent ≡ Some y
  own = path_back used (f ∷ free) y once there

  free_node : path_at used f ≡ None
  free_node = path_none used f (elim (decided (listed f (nodes_of used))) [
    | holds e ↦
        (let apart = once_apart f (nodes_of used) (f ∷ free) once e in
        let wrong = sym apart ∙ or_left (eqb f f) (listed f free) (eqb_self f) in
        let z : ◌≡◌ {A = ℕ} 0 1 = cc in
        absurd (omega arith))
    | fails e ↦ e
  ])

  apart : eqb f parent ≡ false
  apart = elim (decided (eqb f parent)) [
    | holds e ↦ (let wrong : None ≡ Some y = sym free_node ∙ ap (path_at used) (eqb-true f parent e) ∙ own in cc)
    | fails e ↦ e
  ]

  -- a node with a path is the parent where the path is that of the parent
  parent_path : (m : ℕ) (x : Bits) → path_at used m ≡ Some x → same x y ≡ eqb m parent
  parent_path m x e = elim (decided (eqb m parent)) [
    | holds t ↦
        (let both : Some x ≡ Some y = sym e ∙ ap (path_at used) (eqb-true m parent t) ∙ own in
        let is : x ≡ y = cc in
        ap (λ (z : Bits). same z y) is ∙ same_self y ∙ sym t)
    | fails t ↦ elim (decided (same x y)) [
      | holds k ↦
          (let is : parent ≡ m = ap (node_at used) (sym (same_eq x y k)) ∙ node_of_path used m x single e in
          absurd (eqb-false m parent t (sym is)))
      | fails k ↦ k ∙ sym t
    ]
  ]

  no_path : (m : ℕ) → path_at used m ≡ None → eqb m parent ≡ false
  no_path m e = elim (decided (eqb m parent)) [
    | holds t ↦ (let wrong : None ≡ Some y = sym e ∙ ap (path_at used) (eqb-true m parent t) ∙ own in cc)
    | fails t ↦ t
  ]

  -- the children of a path that had a node
  grows : (x : Bits) (j : ℕ) → member x (paths used) ≡ true
      → child_of more x (stride x) j ≡ cond (same x y && eqb j i) f (child_of used x (stride x) j)
  grows x j serves = elim (decided (ltb j (2 ^ stride x))) [
    | holds l ↦ elim (decided (same (x ++ row (stride x) j) q)) [
      | holds e ↦
          (let is = alone x j serves (ltb-true j (2 ^ stride x) l) (same_eq (x ++ row (stride x) j) q e) in
          let same_path : same x y ≡ true = ap (λ (z : Bits). same z y) is.0 ∙ same_self y in
          let same_index = eq-eqb j i is.1 in
          simp (l, e, same_path, same_index))
      | fails e ↦ elim (decided (same x y && eqb j i)) [
        | holds k ↦
            (let parts = and_parts (same x y) (eqb j i) k in
            let wrong : same (x ++ row (stride x) j) q ≡ true =
            ap₂ (λ (z : Bits) (a : ℕ). same (z ++ row (stride z) a) q) (same_eq x y parts.0) (eqb-true j i parts.1)
            ∙ ap (λ (z : Bits). same z q) next ∙ same_self q in
            let z : ◌≡◌ {A = ℕ} 0 1 = cc in
            absurd (omega arith))
        | fails k ↦ simp (l, e, k)
      ]
    ]
    | fails l ↦ elim (decided (same x y && eqb j i)) [
      | holds k ↦
          (let parts = and_parts (same x y) (eqb j i) k in
          let within : ltb j (2 ^ stride x) ≡ true =
          ap₂ (λ (z : Bits) (a : ℕ). ltb a (2 ^ stride z)) (same_eq x y parts.0) (eqb-true j i parts.1) ∙ lt-ltb i (2 ^ stride y) small in
          let z : ◌≡◌ {A = ℕ} 0 1 = cc in
          absurd (omega arith))
      | fails k ↦ simp (l, k)
    ]
  ]

  -- the new path has none
  childless : (j : ℕ) → child_of more q (stride q) j ≡ 0
  childless j =
      let below = none_below j in
      elim (decided (ltb j (2 ^ stride q))) [ holds l ↦ simp (l, below.0, below.1) | fails l ↦ simp l ]

  -- where the parent had none
  vacant : child_of used y (stride y) i ≡ 0
  vacant = simp (lt-ltb i (2 ^ stride y) small) (ap (node_at used) next ∙ node_none used q new)

  -- ---- each field of every node

  -- as they were, but that the parent has a child more and the free node is linked no more
  bitmaps : (m : ℕ)
      → field plan (path_at more m) (λ path s. bitmap_of path s routes) 0
      ≡ field plan (path_at used m) (λ path s. bitmap_of path s routes) 0
  bitmaps m = elim (decided (eqb m f)) [
    | holds e ↦
        (let none : path_at used m ≡ None = ap (path_at used) (eqb-true m f e) ∙ free_node in
        simp (e, none) (marks_none (taken_at q (stride q) routes) 64 none_lies))
    | fails e ↦ simp e
  ]

  hops : (m j : ℕ)
      → field plan (path_at more m) (λ path s. hop_in path s routes j) 0
      ≡ field plan (path_at used m) (λ path s. hop_in path s routes j) 0
  hops m j = elim (decided (eqb m f)) [
    | holds e ↦
        (let none : path_at used m ≡ None = ap (path_at used) (eqb-true m f e) ∙ free_node in
        simp (e, none) (hop_none q (stride q) j routes (none_lies j)))
    | fails e ↦ simp e
  ]

  counts : (c m : ℕ) → i < c
      → field plan (path_at more m) (λ path s. count_of (child_of more path s) c) 0
      ≡ cond (eqb m parent) (suc (field plan (path_at used parent) (λ path s. count_of (child_of used path s) c) 0))
      (field plan (path_at used m) (λ path s. count_of (child_of used path s) c) 0)
  counts c m within = elim (decided (eqb m f)) [
    | holds e ↦
        (let is = eqb-true m f e in
        let none : path_at used m ≡ None = ap (path_at used) is ∙ free_node in
        let other : eqb m parent ≡ false = ap (λ (a : ℕ). eqb a parent) is ∙ apart in
        simp (e, none, other) (count_none (child_of more q (stride q)) c childless))
    | fails e ↦ simp e (by (path_at used m) refl)
  ]
    where
      by : (o : Option Bits) → path_at used m ≡ o
          → field plan o (λ path s. count_of (child_of more path s) c) 0
          ≡ cond (eqb m parent) (suc (field plan (path_at used parent) (λ path s. count_of (child_of used path s) c) 0))
          (field plan o (λ path s. count_of (child_of used path s) c) 0)
      by None k = simp (no_path m k)
      by (Some x) k =
          let serves = path_member used m x k in
          let whose = parent_path m x k in
          elim (decided (eqb m parent)) [
            | holds t ↦
                (let same_path = whose ∙ t in
                let is = same_eq x y same_path in
                simp (t, own)
                (ap (λ (z : Bits). count_of (child_of more z (stride z)) c) is
                ∙ count_more (child_of used y (stride y)) (child_of more y (stride y)) f i c within vacant some
                (λ j. grows y j there ∙ ap (λ t. cond (t && eqb j i) f (child_of used y (stride y) j)) (same_self y))))
            | fails t ↦
                simp t
                (count_same (child_of used x (stride x)) (child_of more x (stride x)) c
                (λ j l. grows x j serves ∙ ap (λ t. cond (t && eqb j i) f (child_of used x (stride x) j)) (whose ∙ t)))
          ]

  children : (m j : ℕ)
      → field plan (path_at more m) (λ path s. child_of more path s j) (cond (eqb j 0) (link_in free m) 0)
      ≡ cond (eqb m parent && eqb j i) f
      (cond (eqb m f && eqb j 0) 0 (field plan (path_at used m) (λ path s. child_of used path s j) (cond (eqb j 0) (link_in (f ∷ free) m) 0)))
  children m j = elim (decided (eqb m f)) [
    | holds e ↦
        (let is = eqb-true m f e in
        let none : path_at used m ≡ None = ap (path_at used) is ∙ free_node in
        let other : eqb m parent ≡ false = ap (λ (a : ℕ). eqb a parent) is ∙ apart in
        simp (e, none, other) (childless j ∙ by (eqb j 0)))
    | fails e ↦ simp e (whether (path_at used m) refl e)
  ]
    where
      by : (t : Bool) → ◌≡◌ {A = ℕ} 0 (cond t 0 (cond t (front free) 0))
      by true = refl
      by false = refl

      whether : (o : Option Bits) → path_at used m ≡ o → eqb m f ≡ false
          → field plan o (λ path s. child_of more path s j) (cond (eqb j 0) (link_in free m) 0)
          ≡ cond (eqb m parent && eqb j i) f (field plan o (λ path s. child_of used path s j) (cond (eqb j 0) (link_in free m) 0))
      whether None k e = simp (no_path m k)
      whether (Some x) k e =
          grows x j (path_member used m x k)
          ∙ ap (λ t. cond (t && eqb j i) f (child_of used x (stride x) j)) (parent_path m x k)

  counted : (c : ℕ) → i < c → field plan (path_at used parent) (λ path s. count_of (child_of used path s) c) 0 < c
  counted c within = simp own (count_less (child_of used y (stride y)) i c within vacant)

  linked : (image N plan routes (record { used = used; free = f ∷ free })).child f 0 ≡ front free
  unfolding image
  linked = simp (free_node, eqb_self f)

  childless_there : (image N plan routes (record { used = used; free = f ∷ free })).child parent i ≡ 0
  unfolding image
  childless_there = simp own vacant

  counted_there : (image N plan routes (record { used = used; free = f ∷ free })).count parent < 64
  unfolding image
  counted_there = counted 64 low

  -- together
  took : image N plan routes (record { used = more; free = free })
      ≡ taken_node (image N plan routes (record { used = used; free = f ∷ free })) f parent i
  unfolding image
  took = λ k. record {
    size = N;
    bitmap = λ m. bitmaps m k;
    count = λ m. counts 64 m low k;
    child = λ m j. children m j k;
    hop = λ m j. hops m j k;
  }

  pub takes : f < N → parent < N → Takes N plan routes (record { used = used; free = f ∷ free }) (record { used = more; free = free }) y q i
  takes is_node is_parent = record {
    next = took;
    node = simp (same_self q);
    link = linked;
    some = λ e. eqb-false f 0 some e;
    free = is_node;
    parent = is_parent;
    index = low;
    empty = childless_there;
    count = counted_there;
    apart = ne_eqb parent f (λ e. eqb-false f parent apart (sym e));
  }

-- ---- paths that take nodes, one after the other

-- first some, then others
take_append : (xs ys : List Bits) (at : Placement) → take_for (xs ++ ys) at ≡ take_for ys (take_for xs at)
take_append [] ys at = refl
take_append (x ∷ xs) ys at = elim (decided (member x (paths at.used))) [
  | holds e ↦ simp e (take_append xs ys at)
  | fails e ↦ simp e (take_append xs ys (taken x at.used at.free))
]

-- none where all of them have nodes
take_none : (ps : List Bits) (at : Placement) → ((q : Bits) → member q ps ≡ true → member q (paths at.used) ≡ true) → take_for ps at ≡ at
take_none [] at h = refl
take_none (p ∷ ps) at h =
    simp (h p (or_left (same p p) (member p ps) (same_self p)))
    (take_none ps at (λ q m. h q (or_right (same q p) (member q ps) m)))

-- ---- routes that lie at a path

-- none lies at one that begins none of their prefixes
taken_none : (path : Bits) (s i : ℕ) (rs : Routes) → ((r : Bits) → Held rs r → begins path r ≡ true → ⊥) → taken_at path s rs i ≡ false
taken_none path s i [] h = refl
taken_none path s i (r ∷ rs) h =
    or_from (lies_at path s i r.prefix) (taken_at path s rs i)
    (elim (decided (lies_at path s i r.prefix)) [
      | holds e ↦
          (let inside = and_parts (lies_in path s r.prefix) (eqb i (position (drop (length path) r.prefix))) e in
          let parts = and_parts (begins path r.prefix) (ltb (length r.prefix) (length path + s)) inside.0 in
          absurd (h r.prefix (held_first r rs) parts.0))
      | fails e ↦ e
    ])
    (taken_none path s i rs (λ x held b. h x (held_more r rs x held) b))

-- ---- a number is 0 or at least 1

zero_or : (n : ℕ) → (n ≡ 0) ⊎ (1 ≤ n)
zero_or zero = inl refl
zero_or (suc n) = inr (omega arith)

-- ---- along the way of a prefix

module _ (W N : ℕ) (plan : List ℕ) (routes : Routes) (at : Placement) (p : Bits) (can : Holdable W plan routes)
    (sound : SoundPlacement N plan routes at) (short : length p ≤ W) where
  abbrev top : ℕ
  top = level plan (length p)

  abbrev old : List Bits
  old = required_paths plan routes

  -- as far as the paths are required no node is taken
  pub attach_none : (k : ℕ) → served plan routes p k ≡ true → insert_at plan p at k ≡ at
  unfolding after_insert
  attach_none k e =
      take_none (way (offsets plan) (path_of plan p k)) at (λ q m. sound.served q ∙ way_closed plan routes (path_of plan p k) q e m)

  -- as far as the last path all are taken
  pub attach_all : insert_at plan p at (level plan (length p)) ≡ after_insert plan p at
  unfolding after_insert
  attach_all =
      ap (λ (ps : List Bits). take_for ps at)
      (way_path W plan can.planned p short top (omega arith) ∙ sym (way_all W plan can.planned p short))

  -- ---- the nodes that there are on the way

  -- of the paths on the way those that are not required are new
  pub attach_count : (h : ℕ)
      → required plan (put routes p h)
      ≡ required plan routes + (suc (level plan (length p)) - length (serving at.used (required_paths plan routes) (way (offsets plan) p)))
  attach_count h =
      let in_plan = last_planned W plan can.planned p short in
      let new = put_requires plan routes p h in
      let once = ap length (single_distinct (fresh (way (offsets plan) p) old) (fresh_single p 0 plan old (planned W plan can.planned).range)) in
      let parts = fresh_serving at.used old (way (offsets plan) p) in
      let size = ap length (way_all W plan can.planned p short) ∙ firsts_length 0 plan p (suc top) (omega arith) in
      omega arith

  -- and no more than all of them have nodes
  pub attach_few : length (serving at.used (required_paths plan routes) (way (offsets plan) p)) ≤ suc (level plan (length p))
  attach_few =
      let in_plan = last_planned W plan can.planned p short in
      let parts = fresh_serving at.used old (way (offsets plan) p) in
      let size = ap length (way_all W plan can.planned p short) ∙ firsts_length 0 plan p (suc top) (omega arith) in
      omega arith

  served_from : (i : ℕ) → member (take (0 + offset plan i) p) old ≡ served plan routes p i
  served_from i = ap (λ (k : ℕ). member (take k p) old) (zero-add (offset plan i))

  -- they are those of the required paths, from the root down
  serves_to : (j : ℕ) → ServedTo plan routes p j → serving at.used old (way (offsets plan) p) ≡ map (node_at at.used) (firsts 0 plan p (suc j))
  serves_to j to =
      let in_plan = last_planned W plan can.planned p short in
      let size = last_index W plan can.planned p short in
      let within = to.within in
      ap (serving at.used old) (way_all W plan can.planned p short)
      ∙ serving_firsts at.used old 0 plan p (suc j) (suc top) (omega arith) (omega arith)
      (λ i l. served_from i ∙ served_before W plan can.planned p short routes i j (omega arith) (omega arith) to.there)
      (λ i l m. served_from i ∙ unserved_behind W plan can.planned p short routes j i to (omega arith) (omega arith))

  -- up to the last required path there is one for each
  pub attach_served : (j : ℕ) → ServedTo plan routes p j → length (serving at.used (required_paths plan routes) (way (offsets plan) p)) ≡ suc j
  attach_served j to =
      let in_plan = last_planned W plan can.planned p short in
      let size = last_index W plan can.planned p short in
      let within = to.within in
      ap length (serves_to j to) ∙ length-map (firsts 0 plan p (suc j)) (node_at at.used) ∙ firsts_length 0 plan p (suc j) (omega arith)

  -- in their order
  pub attach_node : (j i : ℕ) → ServedTo plan routes p j → i ≤ j
      → slice_index (serving at.used (required_paths plan routes) (way (offsets plan) p)) i ≡ node_at at.used (path_of plan p i)
  attach_node j i to l =
      let in_plan = last_planned W plan can.planned p short in
      let size = last_index W plan can.planned p short in
      let within = to.within in
      ap (λ (ns : List ℕ). get_or ns i 0) (serves_to j to)
      ∙ node_among at.used 0 plan p (suc j) i (omega arith) (omega arith)
      ∙ ap (λ (k : ℕ). node_at at.used (take k p)) (zero-add (offset plan i))

  -- and their number says which
  pub attach_serves : (j : ℕ) → length (serving at.used (required_paths plan routes) (way (offsets plan) p)) ≡ suc j → ServedTo plan routes p j
  attach_serves j e =
      let to = served_to W plan can.planned p short routes in
      let size = attach_served to.0 to.1 in
      subst (ServedTo plan routes p) (let is : to.0 ≡ j = omega arith in is) to.1

  module _ (room : required plan (put routes p 0) ≤ N) where
    -- there are nodes for the paths as far as the k-th
    pub enough_at : (k : ℕ) → k ≤ level plan (length p) → required plan (put routes (path_of plan p k) 0) ≤ N
    enough_at k h =
        let few = put_fewer plan routes p (path_of plan p k) (λ x m.
        ap (member x) (way_all W plan can.planned p short)
        ∙ firsts_among 0 plan p x (suc k) (suc top) (omega arith) (ap (member x) (sym (way_path W plan can.planned p short k h)) ∙ m)) in
        omega arith

    -- what is taken leaves a sound placement
    pub attach_sound : (k : ℕ) → k ≤ level plan (length p)
        → SoundPlacement N plan (put routes (path_of plan p k) 0) (insert_at plan p at k)
    attach_sound k h = placement_laws.inserts N plan routes at (path_of plan p k) 0 sound (enough_at k h)

    -- the paths that have nodes then
    pub members_at : (k : ℕ) (q : Bits) → k ≤ level plan (length p)
        → member q (paths (insert_at plan p at k).used) ≡ (member q (way (offsets plan) (path_of plan p k)) || member q (required_paths plan routes))
    members_at k q h = (attach_sound k h).served q ∙ put_required plan routes (path_of plan p k) q

    -- ---- one path more

    module _ (k : ℕ) (under : k < level plan (length p)) (new : served plan routes p (suc k) ≡ false) where
      abbrev before : Placement
      before = insert_at plan p at k

      abbrev here : Bits
      here = path_of plan p k

      abbrev below : Bits
      below = path_of plan p (suc k)

      abbrev index : ℕ
      index = get_or (indexes plan p) k 0

      is_sound : SoundPlacement N plan (put routes here 0) before
      is_sound = attach_sound k (omega arith)

      in_range_too : in_range plan ≡ true
      in_range_too = (planned W plan can.planned).range

      here_planned : suc k < length plan
      here_planned = let in_plan = last_planned W plan can.planned p short in omega arith

      here_size : length here ≡ offset plan k
      here_size = path_size W plan can.planned p short k (omega arith)

      below_size : length below ≡ offset plan (suc k)
      below_size = path_size W plan can.planned p short (suc k) under

      longer : offset plan k < offset plan (suc k)
      longer = path_longer W plan can.planned p short k under

      stride_here : stride_from 0 plan (length here) ≡ get_or plan k 0
      stride_here =
          let in_plan = here_planned in
          let size : length here ≡ 0 + offset plan k = (let s = here_size in omega arith) in
          ap (stride_from 0 plan) size ∙ stride_of plan 0 k in_range_too (omega arith)

      stride_below : stride_from 0 plan (length below) ≡ get_or plan (suc k) 0
      stride_below =
          let size : length below ≡ 0 + offset plan (suc k) = (let s = below_size in omega arith) in
          ap (stride_from 0 plan) size ∙ stride_of plan 0 (suc k) in_range_too here_planned

      small : index < 2 ^ stride_from 0 plan (length here)
      small = subst (λ (s : ℕ). index < 2 ^ s) (sym stride_here) (index_small W plan can.planned p short k under)

      low : index < 64
      low =
          let in_plan = here_planned in
          let within = index_small W plan can.planned p short k under in
          let most : 2 ^ get_or plan k 0 ≤ 2 ^ 6 = pow_mono (stride_most plan k in_range_too (omega arith)) in
          omega arith

      goes_on : here ++ row (stride_from 0 plan (length here)) index ≡ below
      goes_on = ap (λ (s : ℕ). here ++ row s index) stride_here ∙ path_next W plan can.planned p short k under

      -- a path that is longer than the way so far, and that is not required, has no node
      unserved : (q : Bits) → offset plan k < length q → member q (required_paths plan routes) ≡ false → member q (paths before.used) ≡ false
      unserved q l none =
          members_at k q (omega arith)
          ∙ or_from (member q (way (offsets plan) here)) (member q (required_paths plan routes))
          (elim (decided (member q (way (offsets plan) here))) [
            | holds e ↦
                (let size = here_size in
                let front = (way_front (offsets plan) here q e).1 in
                absurd (omega arith))
            | fails e ↦ e
          ])
          none

      here_serves : member here (paths before.used) ≡ true
      here_serves =
          members_at k here (omega arith)
          ∙ or_left (member here (way (offsets plan) here)) (member here (required_paths plan routes))
          (path_on_way W plan can.planned p short k k (omega arith) (omega arith))

      below_new : member below (paths before.used) ≡ false
      below_new = let size = below_size in let more = longer in unserved below (omega arith) new

      -- it is the child of no other path
      alone : (x : Bits) (j : ℕ) → member x (paths before.used) ≡ true → j < 2 ^ stride_from 0 plan (length x)
          → x ++ row (stride_from 0 plan (length x)) j ≡ below → (x ≡ here) × (j ≡ index)
      unfolding row
      alone x j serves l e =
          let s = stride_from 0 plan (length x) in
          let in_plan = here_planned in
          let rows = length_row s j in
          let joined = length-append x (row s j) in
          let whole : length (x ++ row s j) ≡ offset plan (suc k) = ap length e ∙ below_size in
          let some : 1 ≤ s = ⊎_elim
          (λ (none : s ≡ 0).
          let is : x ≡ below = sym (append-nil x) ∙ ap (λ (n : ℕ). x ++ row n j) (sym none) ∙ e in
          let wrong = sym (ap (λ (z : Bits). member z (paths before.used)) is ∙ below_new) ∙ serves in
          let z : ◌≡◌ {A = ℕ} 0 1 = cc in
          absurd (omega arith))
          (λ (h : 1 ≤ s). h)
          (zero_or s) in
          let at_size = stride_ends 0 plan k (length x) in_range_too (omega arith) some (omega arith) in
          let size : length x ≡ offset plan k = omega arith in
          let is : x ≡ here =
          sym (take_at x (row s j) (length x) refl) ∙ ap (take (length x)) e ∙ ap (λ (n : ℕ). take n below) size
          ∙ path_front W plan can.planned p short k (suc k) (omega arith) in
          let same_rest : row (stride_from 0 plan (length here)) j ≡ row (stride_from 0 plan (length here)) index =
          sym (drop_at here (row (stride_from 0 plan (length here)) j) (length here) refl)
          ∙ ap (drop (length here)) (ap (λ (z : Bits). z ++ row (stride_from 0 plan (length z)) j) (sym is) ∙ e ∙ sym goes_on)
          ∙ drop_at here (row (stride_from 0 plan (length here)) index) (length here) refl in
          let within : j < 2 ^ stride_from 0 plan (length here) = subst (λ (z : Bits). j < 2 ^ stride_from 0 plan (length z)) is l in (
            is,
            sym (mod-eq_of_lt within) ∙ sym (number_row (stride_from 0 plan (length here)) j) ∙ ap number same_rest
                ∙ number_row (stride_from 0 plan (length here)) index ∙ mod-eq_of_lt small,
          )

      -- no route lies there or beyond
      none_lies : (j : ℕ) → taken_at below (stride_from 0 plan (length below)) routes j ≡ false
      none_lies j = taken_none below (stride_from 0 plan (length below)) j routes (λ r held b.
          let front = front_from_begins below r b in
          let size = below_size in
          let cut = length-take (length below) r in
          let all = ap length front in
          let there = offset_required plan routes r (suc k) held here_planned (omega arith) in
          let is : take (offset plan (suc k)) r ≡ below = ap (λ (n : ℕ). take n r) (sym size) ∙ front in
          let wrong = sym new ∙ ap (λ (z : Bits). member z (required_paths plan routes)) (sym is) ∙ there in
          let z : ◌≡◌ {A = ℕ} 0 1 = cc in
          omega arith)

      none_below : (j : ℕ) → (same (below ++ row (stride_from 0 plan (length below)) j) below ≡ false)
          × (node_at before.used (below ++ row (stride_from 0 plan (length below)) j) ≡ 0)
      none_below j =
          let s = stride_from 0 plan (length below) in
          let x = below ++ row s j in
          let is_stride = stride_below in
          let some = stride_least plan (suc k) in_range_too here_planned in
          let rows = length_row s j in
          let joined = length-append below (row s j) in
          let size = below_size in
          let more = longer in (
            elim (decided (same x below)) [
              | holds e ↦ (let wrong = ap length (same_eq x below e) in absurd (omega arith))
              | fails e ↦ e
            ],
            node_none before.used x (unserved x (omega arith) (elim (decided (member x (required_paths plan routes))) [
              | holds e ↦
                  (let sums : 0 + offset plan (suc k) ≡ length below = omega arith in
                  let front : take (0 + offset plan (suc k)) x ≡ below =
                  ap (λ (n : ℕ). take n x) sums ∙ take_at below (row s j) (length below) refl in
                  let on_way = step_way 0 plan x (suc k) here_planned (omega arith) in
                  let there = way_closed plan routes x (take (0 + offset plan (suc k)) x) e on_way in
                  let wrong = sym new ∙ ap (λ (z : Bits). member z (required_paths plan routes)) (sym front) ∙ there in
                  let z : ◌≡◌ {A = ℕ} 0 1 = cc in
                  absurd (omega arith))
              | fails e ↦ e
            ])),
          )

      -- the path gets the node at the front of the chain
      after_is : insert_at plan p at (suc k) ≡ taken below before.used before.free
      unfolding after_insert
      after_is =
          ap (λ (ps : List Bits). take_for ps at) (way_more W plan can.planned p short k under)
          ∙ take_append (way (offsets plan) here) (below ∷ []) at
          ∙ simp below_new

      -- with it the paths that have nodes are those that are required
      members_after : (q : Bits) → member q (below ∷ paths before.used) ≡ member q (required_paths plan (put routes below 0))
      members_after q =
          let first = member q (way (offsets plan) here) in
          let rest = member q (required_paths plan routes) in
          ap (λ t. same q below || t) (members_at k q (omega arith))
          ∙ by (same q below) first rest
          ∙ ap (λ t. t || rest)
          (sym (ap (member q) (way_more W plan can.planned p short k under) ∙ member_append q (way (offsets plan) here) (below ∷ [])))
          ∙ sym (put_required plan routes below q)
        where
          by : (a b c : Bool) → (a || (b || c)) ≡ ((b || (a || false)) || c)
          by true true c = refl
          by true false c = refl
          by false true c = refl
          by false false c = refl

      paths_enough : length (distinct (below ∷ paths before.used)) ≤ N
      unfolding required
      paths_enough =
          let paths_then = required_paths plan (put routes below 0) in
          let one = same_count (below ∷ paths before.used) paths_then members_after in
          let size = ap length (single_distinct paths_then (required_single plan (put routes below 0))) in
          let enough : length paths_then ≤ N = enough_at (suc k) under in
          omega arith

      -- there is one
      some_free : before.free ≡ [] → ⊥
      some_free e =
          let shape : before ≡ record { used = before.used; free = [] } = λ i. record { used = before.used; free = e i } in
          let is = subst (Proper N) shape (proper N plan (put routes here 0) before is_sound) in
          never_full N before.used below is below_new paths_enough

      listed_below : (n : ℕ) → listed n (nodes_of before.used ++ before.free) ≡ true → n < N
      listed_below n e = ltb-true n N (sym (is_sound.each_node n) ∙ e)

      attach_by : (free : List ℕ) → before.free ≡ free
          → Takes N plan routes before (insert_at plan p at (suc k)) here below index
      attach_by [] e = absurd (some_free e)
      attach_by (f ∷ free) e =
          let shape : record { used = before.used; free = f ∷ free } ≡ before = λ i. record { used = before.used; free = sym e i } in
          let next_shape : record { used = record { path = below; node = f } ∷ before.used; free = free } ≡ insert_at plan p at (suc k) =
          sym (after_is ∙ ap (taken below before.used) e) in
          let parent = node_at before.used here in
          let once : Once (nodes_of before.used ++ (f ∷ free)) = subst (λ (l : List ℕ). Once (nodes_of before.used ++ l)) e is_sound.once in
          let parent_listed = node_listed before.used here here_serves in
          let is_parent : parent < N =
          listed_below parent (listed_append parent (nodes_of before.used) before.free
          ∙ or_left (listed parent (nodes_of before.used)) (listed parent before.free) parent_listed) in
          let first : listed f before.free ≡ true = ap (listed f) e ∙ or_left (eqb f f) (listed f free) (eqb_self f) in
          let is_node : f < N =
          listed_below f (listed_append f (nodes_of before.used) before.free
          ∙ or_right (listed f (nodes_of before.used)) (listed f before.free) first) in
          let root_listed : listed 0 (nodes_of before.used) ≡ true =
          ap (λ (n : ℕ). listed n (nodes_of before.used)) (sym is_sound.root)
          ∙ node_listed before.used [] (is_sound.served [] ∙ root_required plan (put routes here 0)) in
          let not_root = (or_parts (eqb 0 f) (listed 0 free) (once_apart 0 (nodes_of before.used) (f ∷ free) once root_listed)).0 in
          let some : eqb f 0 ≡ false = ne_eqb f 0 (λ i. eqb-false 0 f not_root (sym i)) in
          subst (λ (b : Placement). Takes N plan routes b (insert_at plan p at (suc k)) here below index) shape
          (subst (λ (a : Placement). Takes N plan routes (record { used = before.used; free = f ∷ free }) a here below index) next_shape
          (takes N plan routes before.used f free once is_sound.single some here below index low here_serves below_new small goes_on
          alone none_lies none_below is_node is_parent))

      -- the path behind the k-th takes a node
      pub attach_step : Takes N plan routes (insert_at plan p at k) (insert_at plan p at (suc k)) (path_of plan p k) (path_of plan p (suc k))
          (slice_index (indexes plan p) k)
      attach_step = attach_by before.free refl
