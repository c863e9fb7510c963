-- The steps of an insert, by what each of its calls answers.
use Rattle.std.proofs.Common.{◌≡◌, ℕ, ◌+◌, ◌-◌, ◌<◌, ◌≤◌, Bool, true, false, cond, List, length, drop, slice_index, is_some, Some, min, not, refl, sym, ap, ◌∙◌, arith}
use Rattle.bits.specs.Rows.{Bits}
use Rattle.growth.specs.Ways.{Attaches}
use Rattle.images.proofs.Counting.{routes_few}
use Rattle.model.specs.Calls.{Plain, holding}
use Rattle.model.specs.Nodes.{Nodes}
use Rattle.model.specs.Outcomes.{granted}
use Rattle.model.specs.Places.{position_of}
use Rattle.model.specs.Placements.{Placement, after_insert, front, image}
use Rattle.model.specs.Required.{required}
use Rattle.model.specs.Routes.{Routes, find, last_hop, put}
use Rattle.walks.specs.Shows.{Shows}
use Rattle.walks.specs.Trails.{Trail, trail_in}
use Rattle.table.specs.Stands.{Open, StandsFor}
use Rattle.table.proofs.Growing.{attaches, needs_few, open_list, opens_more, requires_more, there}

-- what is granted is one trail
granted_alone : (a b : Trail) → granted a ≡ granted b → a ≡ b
granted_alone a b e = cc

module _ (W : ℕ) (m : Nodes) (plan : List ℕ) (chain count needs : ℕ) (plain : Plain) (at : Placement) (stands : StandsFor W m (Some plan) chain count needs plain at)
    (p : Bits) (short : length p ≤ W) (t : Trail) (shown : (routes : Routes) (at : Placement) → Shows W m plan routes at → granted t ≡ granted (trail_in plan routes at p))
    (missing : List ℕ) (is_missing : missing ≡ drop (length t.nodes - 1) t.indexes) where
  pub routes : Routes
  routes = (open_list plain at stands).0

  pub is_plain : plain ≡ holding plan routes
  unfolding routes
  is_plain = (open_list plain at stands).1

  pub opened : Open W m (Some plan) chain count needs plan routes at
  unfolding routes
  opened = (open_list plain at stands).2

  trail_is : t ≡ trail_in plan routes at p
  trail_is = granted_alone t (trail_in plan routes at p) (shown routes at opened.shows)

  pub missing_is : missing ≡ drop (length (trail_in plan routes at p).nodes - 1) (trail_in plan routes at p).indexes
  missing_is = is_missing ∙ ap (λ (x : Trail). drop (length x.nodes - 1) x.indexes) trail_is

  pub needs_then : (h : ℕ) → required plan (put routes p h) ≡ needs + length missing
  needs_then h = requires_more opened p short h ∙ ap (λ (xs : List ℕ). needs + length xs) (sym missing_is)

  pub old_hop : t.hop ≡ find routes p
  unfolding trail_in
  old_hop = ap (λ (x : Trail). x.hop) trail_is

  pub position_is : t.position ≡ position_of plan p
  unfolding trail_in
  position_is = ap (λ (x : Trail). x.position) trail_is

  -- they suffice exactly where no more are missing than are left
  pub enough : (size taken : ℕ) → size ≡ m.size → taken ≡ length missing → taken ≤ size - needs → (h : ℕ) → required plan (put routes p h) ≤ m.size
  enough size taken is_size is_taken within h = let n = needs_then h in let f = needs_few opened p short in omega arith

  pub not_enough : (size taken : ℕ) → size ≡ m.size → taken ≡ length missing → size - needs < taken → (h : ℕ) → m.size < required plan (put routes p h)
  not_enough size taken is_size is_taken past h = let n = needs_then h in omega arith

  pub starts : required plan (put routes p 0) ≤ m.size → (last : ℕ) → last ≡ slice_index t.nodes (length t.nodes - 1)
      → Attaches W m plan routes at p (there opened p short).0 chain last missing
  starts room last is_last =
      let first = attaches opened p short room in
      record {
        can = first.can;
        served = first.served;
        is = first.is;
        chain_is = first.chain_is;
        node_is = is_last ∙ ap (λ (x : Trail). slice_index x.nodes (length x.nodes - 1)) trail_is ∙ first.node_is;
        missing_is = missing_is ∙ first.missing_is;
      }

  -- what the table has counted then
  module _ (small_memory : m.size ≤ 262144) (h : ℕ) (small : h ≤ last_hop) (room : required plan (put routes p h) ≤ m.size) where
    pub stands_then : (new : Nodes) (chain' count' needs' : ℕ) (none : Bool) → is_some t.hop ≡ not none
        → new.size ≡ m.size → new ≡ image m.size plan (put routes p h) (after_insert plan p at) → chain' ≡ front (after_insert plan p at).free
        → count' ≡ min (count + cond none 1 0) 18446744073709551615 → needs' ≡ min (needs + length missing) 18446744073709551615
        → Open W new (Some plan) chain' count' needs' plan (put routes p h) (after_insert plan p at)
    stands_then new chain' count' needs' none is_none size is_new is_chain is_count is_needs =
        let few = routes_few W m.size plan routes at opened.shows.holdable opened.shows.sound in
        let counted = opened.counted in
        let n = needs_then h in
        let one : ◌≡◌ {A = ℕ} (cond none 1 0) (cond (is_some (find routes p)) 0 1) =
        by none ∙ ap (λ (t : Bool). cond t 0 1) (sym is_none ∙ ap is_some old_hop) in
        let low : cond {A = ℕ} (is_some (find routes p)) 0 1 ≤ 1 = at_most (is_some (find routes p)) in
        opens_more opened p short h small room new chain' count' needs' size is_new is_chain
        (omega arith)
        ((let e : needs' ≡ needs + length missing = omega arith in e) ∙ ap (λ (xs : List ℕ). needs + length xs) missing_is)
      where
        by : (b : Bool) → ◌≡◌ {A = ℕ} (cond b 1 0) (cond (not b) 0 1)
        by true = refl
        by false = refl

        at_most : (b : Bool) → cond {A = ℕ} b 0 1 ≤ 1
        at_most true = omega arith
        at_most false = omega arith
