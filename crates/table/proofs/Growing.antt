-- An insert, from the trail of its prefix: when the nodes suffice, what the tree is given, and what the table then stands for.
use Rattle.std.proofs.Common.{◌≡◌, ℕ, suc, ◌+◌, ◌-◌, ◌<◌, ◌≤◌, true, cond, List, length, drop, slice_index, is_some, Some, Option, sym, ap, ◌∙◌, subst, length-drop, le-leb, arith}
use Rattle.std.proofs.lemmas.Bool.{lt-leb}
use Rattle.bits.specs.Rows.{Bits}
use Rattle.faults.specs.declared.Layer.TheVariants.{Table}
use Rattle.faults.specs.Numbers.{full}
use Rattle.growth.specs.Ways.{Attaches}
use Rattle.images.specs.Steps.{ServedTo}
use Rattle.images.proofs.Attaching.{attach_count, attach_node, attach_served}
use Rattle.images.proofs.Inserting.{length_put, needs_within, put_holdable, put_sound}
use Rattle.images.proofs.Ways.{last_index, served_to}
use Rattle.model.specs.Calls.{Call, Done, Plain, answer, after, done, holding, insert, inserted, left_by, perform, shut}
use Rattle.model.specs.Nodes.{Nodes}
use Rattle.model.specs.Outcomes.{Outcome, and_then, granted, is_granted, refused}
use Rattle.model.specs.Places.{indexes}
use Rattle.model.specs.Placements.{Placement, SoundPlacement, after_insert, front, image}
use Rattle.model.specs.Required.{required}
use Rattle.model.specs.Routes.{Routes, find, last_hop, prefix_of, put, sound}
use Rattle.walks.specs.Trails.{Trail, trail_in}
use Rattle.table.specs.Placed.{placed}
use Rattle.table.specs.Stands.{Open, StandsFor}

-- ---- the tree, where the table is open

module _ {W : ℕ} {nodes : Nodes} {strides : Option (List ℕ)} {chain count needs : ℕ} {plan : List ℕ} {routes : Routes} {at : Placement}
    (is : Open W nodes strides chain count needs plan routes at) (p : Bits) (short : length p ≤ W) where
  abbrev trail : Trail
  trail = trail_in plan routes at p

  -- as far as the paths of the prefix have nodes
  pub there : (j : ℕ) × ServedTo plan routes p j
  there = served_to W plan is.shows.holdable.planned p short routes

  nodes_there : length trail.nodes ≡ suc there.0
  unfolding trail_in
  nodes_there = attach_served W nodes.size plan routes at p is.shows.holdable is.shows.sound short there.0 there.1

  behind : length trail.nodes - 1 ≡ there.0
  behind = let n = nodes_there in omega arith

  abbrev missing : List ℕ
  missing = drop (length trail.nodes - 1) trail.indexes

  -- an insert requires so many nodes more
  pub requires_more : (h : ℕ) → required plan (put routes p h) ≡ needs + length missing
  unfolding trail_in
  requires_more h =
      let n = nodes_there in
      let c = attach_count W nodes.size plan routes at p is.shows.holdable is.shows.sound short h in
      let l = last_index W plan is.shows.holdable.planned p short in
      let d = length-drop (length trail.nodes - 1) (indexes plan p) in
      let r = is.requires in
      omega arith

  pub needs_few : needs ≤ nodes.size
  needs_few = let r = is.requires in let w = needs_within nodes.size plan routes at is.shows.sound in omega arith

  -- the tree is given the last node there and the indexes behind it
  pub attaches : required plan (put routes p 0) ≤ nodes.size
      → Attaches W nodes plan routes at p there.0 chain (slice_index trail.nodes (length trail.nodes - 1)) missing
  unfolding trail_in
  attaches room =
      record {
        can = record { holds = record { can = is.shows.holdable; sound = is.shows.sound }; short = short; room = room };
        served = there.1;
        is = is.shows.is;
        chain_is = is.chain;
        node_is =
            ap (slice_index trail.nodes) behind
            ∙ attach_node W nodes.size plan routes at p is.shows.holdable is.shows.sound short there.0 there.0 there.1 (omega arith);
        missing_is = ap (λ k. drop k (indexes plan p)) behind;
      }

  -- and then the table stands for the routes with one more
  pub opens_more : (h : ℕ) → h ≤ last_hop → required plan (put routes p h) ≤ nodes.size → (new : Nodes) (chain' count' needs' : ℕ)
      → new.size ≡ nodes.size → new ≡ image nodes.size plan (put routes p h) (after_insert plan p at) → chain' ≡ front (after_insert plan p at).free
      → count' ≡ count + cond (is_some (find routes p)) 0 1 → needs' ≡ needs + length missing
      → Open W new strides chain' count' needs' plan (put routes p h) (after_insert plan p at)
  opens_more h small room new chain' count' needs' size is_new is_chain is_count is_needs =
      record {
        planned = is.planned;
        shows =
            record {
              holdable = put_holdable W nodes.size plan routes at p h is.shows.holdable is.shows.sound short small room;
              sound =
                  subst (λ k. SoundPlacement k plan (put routes p h) (after_insert plan p at)) (sym size)
                  (put_sound W nodes.size plan routes at p h is.shows.holdable is.shows.sound short small room);
              is = is_new ∙ ap (λ k. image k plan (put routes p h) (after_insert plan p at)) (sym size);
            };
        chain = is_chain;
        counted = (let l = length_put routes p h is.shows.holdable.ascends in let c = is.counted in omega arith);
        requires = is_needs ∙ sym (requires_more h);
      }

-- ---- what the plain list answers and leaves, where the arguments are admitted

module _ (W N : ℕ) (plan : List ℕ) (routes : Routes) (address : Bits) (len h : ℕ) (fits : len ≤ W) (clean : sound address len ≡ true) (small : h ≤ last_hop) where
  abbrev prefix : Bits
  prefix = prefix_of address len

  abbrev call : Call
  call = insert address len h

  refuses : N < required plan (put routes prefix h) → perform W N (holding plan routes) call ≡ refused full Table 0
  refuses few = simp (le-leb len W fits, clean, le-leb h last_hop small, lt-leb (required plan (put routes prefix h)) N few)

  grants : required plan (put routes prefix h) ≤ N
      → perform W N (holding plan routes) call
      ≡ done (inserted (find routes prefix) (required plan (put routes prefix h) - required plan routes)) (holding plan (put routes prefix h))
  grants enough = simp (le-leb len W fits, clean, le-leb h last_hop small, le-leb (required plan (put routes prefix h)) N enough)

  -- where the nodes do not suffice nothing changes
  pub none_in : (at : Placement) → N < required plan (put routes prefix h)
      → (refused full Table 0 ≡ answer W N (holding plan routes) call)
      × (after W N (holding plan routes) call ≡ holding plan routes)
      × (placed W N (holding plan routes) at call ≡ at)
  none_in at few =
      let r = refuses few in (
        sym (ap (λ (o : Outcome Done). and_then o (λ d. granted d.answered)) r),
        ap (left_by (holding plan routes)) r,
        ap (λ (o : Outcome Done). cond (is_granted o) (after_insert plan prefix at) at) r,
      )

  pub one_in : (at : Placement) → required plan (put routes prefix h) ≤ N
      → (granted (inserted (find routes prefix) (required plan (put routes prefix h) - required plan routes)) ≡ answer W N (holding plan routes) call)
      × (after W N (holding plan routes) call ≡ holding plan (put routes prefix h))
      × (placed W N (holding plan routes) at call ≡ after_insert plan prefix at)
  one_in at enough =
      let r = grants enough in (
        sym (ap (λ (o : Outcome Done). and_then o (λ d. granted d.answered)) r),
        ap (left_by (holding plan routes)) r,
        ap (λ (o : Outcome Done). cond (is_granted o) (after_insert plan prefix at) at) r,
      )

-- a table with a plan stands for an open list by it
pub open_list : {W : ℕ} {nodes : Nodes} {strides : List ℕ} {chain count needs : ℕ} (plain : Plain) (at : Placement)
    → StandsFor W nodes (Some strides) chain count needs plain at
    → (routes : Routes) × (plain ≡ holding strides routes) × Open W nodes (Some strides) chain count needs strides routes at
open_list shut at is = absurd (let z : ◌≡◌ {A = ℕ} 0 1 = cc in omega arith)
open_list {W = W} {nodes = nodes} {strides = strides} {chain = chain} {count = count} {needs = needs} (holding plan routes) at is =
    let same : plan ≡ strides = by plan is.planned in
    (routes, ap (λ (s : List ℕ). holding s routes) same, subst (λ (s : List ℕ). Open W nodes (Some strides) chain count needs s routes at) same is)
  where
    by : (plan : List ℕ) → Some strides ≡ Some plan → plan ≡ strides
    by plan e = cc
