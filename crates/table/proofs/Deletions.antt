-- A delete, by what the table stands for: what its trail comes to, and what the table stands for afterwards.
use Rattle.std.proofs.Common.{◌≡◌, ℕ, ◌-◌, true, false, cond, List, length, get_or, is_some, Some, None, Option, Ok, Err, Result, refl, sym, ap, ◌∙◌, ap₂, subst, arith}
use Rattle.std.proofs.lemmas.Bool.{le-leb}
use Rattle.std.specs.Option.{ok_or}
use Rattle.bits.specs.Rows.{Bits}
use Rattle.bits.specs.Order.{Sound}
use Rattle.faults.specs.declared.Fault.{Fault}
use Rattle.faults.specs.declared.Layer.TheVariants.{Table}
use Rattle.faults.specs.Numbers.{absent}
use Rattle.growth.specs.Ways.{Climbs}
use Rattle.growth.specs.declared.climbing.Climbed.{Climbed}
use Rattle.images.specs.Steps.{unmarked_node, way_nodes}
use Rattle.images.proofs.Deleting.{left_holdable, left_requires, left_sound, length_without, unmarks, unmarks_there, way_last, way_served}
use Rattle.images.proofs.Inserting.{no_mark}
use Rattle.model.specs.Calls.{Done, Plain, after, answer, delete, deleted, done, holding, left_by, perform, shut}
use Rattle.model.specs.Nodes.{Nodes, marked}
use Rattle.model.specs.Outcomes.{Outcome, granted, is_granted, refused}
use Rattle.model.specs.Places.{indexes, path_to, position_of}
use Rattle.model.specs.Placements.{Placement, SoundPlacement, after_delete, front, image, node_at}
use Rattle.model.specs.Required.{required}
use Rattle.model.specs.Routes.{Routes, find, prefix_of, without}
use Rattle.nodes.specs.Fields.{is_hop}
use Rattle.walks.specs.Shows.{Shows}
use Rattle.walks.specs.Trails.{Trail, trail_in}
use Rattle.table.specs.Placed.{placed}
use Rattle.table.specs.Stands.{StandsFor}

-- what is granted is one value
granted_alone : {A : Type 0} (a b : A) → granted a ≡ granted b → a ≡ b
granted_alone a b e = cc

some_alone : (a b : List ℕ) → Some a ≡ Some b → a ≡ b
some_alone a b e = cc

-- whether there is a hop
pub no_hop : (o : Option ℕ) (e : Fault) {f : Fault} → ◌≡◌ {A = Result ℕ Fault} (Err f) (ok_or o e) → o ≡ None
no_hop None e h = refl
no_hop (Some a) e h = let z : ◌≡◌ {A = ℕ} 0 1 = cc in absurd (omega arith)

pub hop_there : (o : Option ℕ) (e : Fault) {a : ℕ} → ◌≡◌ {A = Result ℕ Fault} (Ok a) (ok_or o e) → o ≡ Some a
hop_there None e h = let z : ◌≡◌ {A = ℕ} 0 1 = cc in absurd (omega arith)
hop_there (Some b) e h = cc

-- what a climb that is done comes to
pub climbed_alone : {a b : Climbed} → ◌≡◌ {A = Result Climbed Fault} (Ok a) (Ok b) → (a.front ≡ b.front) × (a.returned ≡ b.returned)
climbed_alone {a = a} {b = b} e = let is : a ≡ b = cc in (ap (λ (c : Climbed). c.front) is, ap (λ (c : Climbed). c.returned) is)

pub never : false ≡ true → ⊥
never e = let z : ◌≡◌ {A = ℕ} 0 1 = cc in omega arith

-- an image has as many nodes as it is one of
pub image_size : {m : Nodes} (N : ℕ) (plan : List ℕ) (routes : Routes) (at : Placement) → m ≡ image N plan routes at → m.size ≡ N
unfolding image
image_size N plan routes at e = ap (λ (m : Nodes). m.size) e

-- the routes that an open table stands for
pub record Found (W : ℕ) (nodes : Nodes) (s : List ℕ) (chain count needs : ℕ) (plain : Plain) (at : Placement) : Type 0 where
  pub routes : Routes
  pub is : plain ≡ holding s routes
  pub shows : Shows W nodes s routes at
  pub chain_is : chain ≡ front at.free
  pub counted : count ≡ length routes
  pub requires : needs ≡ required s routes

pub found : {W : ℕ} {nodes : Nodes} {strides : Option (List ℕ)} {s : List ℕ} {chain count needs : ℕ} → strides ≡ Some s
    → (plain : Plain) (at : Placement) → StandsFor W nodes strides chain count needs plain at → Found W nodes s chain count needs plain at
found {s = s} planned shut at stands = let wrong : Some s ≡ None = sym planned ∙ stands in cc
found {W = W} {nodes = nodes} {s = s} planned (holding plan routes) at stands =
    let same : plan ≡ s = some_alone plan s (sym stands.planned ∙ planned) in
    record {
      routes = routes;
      is = ap (λ (x : List ℕ). holding x routes) same;
      shows = subst (λ (x : List ℕ). Shows W nodes x routes at) same stands.shows;
      chain_is = stands.chain;
      counted = stands.counted;
      requires = stands.requires ∙ ap (λ (x : List ℕ). required x routes) same;
    }

-- the trail of a sound prefix was read, which leaves the nodes
pub record Trailed (W : ℕ) (nodes now : Nodes) (s : List ℕ) (chain count needs : ℕ) (plain : Plain) (at : Placement) (address : Bits) (len : ℕ) (trail : Trail) : Type 0 where
  pub found : Found W nodes s chain count needs plain at
  pub long : length address ≡ W
  pub clear : Sound address len
  pub shown : granted trail ≡ granted (trail_in s found.routes at (prefix_of address len))
  pub same : now ≡ nodes

pub trailed : {W : ℕ} {nodes now : Nodes} {strides : Option (List ℕ)} {s : List ℕ} {chain count needs : ℕ} {address : Bits} {len : ℕ} {trail : Trail}
    → strides ≡ Some s → length address ≡ W → Sound address len
    → ((routes : Routes) (at : Placement) → Shows W nodes s routes at → granted trail ≡ granted (trail_in s routes at (prefix_of address len)))
    → now ≡ nodes → (plain : Plain) (at : Placement) → StandsFor W nodes strides chain count needs plain at
    → Trailed W nodes now s chain count needs plain at address len trail
trailed planned long clear shown same plain at stands =
    let x = found planned plain at stands in
    record { found = x; long = long; clear = clear; shown = shown x.routes at x.shows; same = same }

module _ {W : ℕ} {nodes now : Nodes} {s : List ℕ} {chain count needs : ℕ} {plain : Plain} {at : Placement} {address : Bits} {len : ℕ} {trail : Trail}
    (t : Trailed W nodes now s chain count needs plain at address len trail) where
  abbrev x : Found W nodes s chain count needs plain at
  x = t.found

  abbrev p : Bits
  p = prefix_of address len

  abbrev size : ℕ
  size = nodes.size

  trail_is : trail ≡ trail_in s x.routes at p
  trail_is = granted_alone trail (trail_in s x.routes at p) t.shown

  hop_is : trail.hop ≡ find x.routes p
  unfolding trail_in
  hop_is = ap (λ (y : Trail). y.hop) trail_is

  -- ---- a prefix that is not held

  module _ (none : trail.hop ≡ None) where
    refuses : perform W size plain (delete address len) ≡ refused absent Table 0
    refuses =
        ap (λ (q : Plain). perform W size q (delete address len)) x.is
        ∙ simp (le-leb len W (let l = t.clear.0 in let m = t.long in omega arith), t.clear.1, sym hop_is ∙ none)

    pub answers_absent : answer W size plain (delete address len) ≡ refused absent Table 0
    answers_absent = simp refuses

    pub stays : (strides : Option (List ℕ)) → StandsFor W nodes strides chain count needs plain at
        → StandsFor W now strides chain count needs (after W size plain (delete address len)) (placed W size plain at (delete address len))
    stays strides stands =
        simp refuses (subst (λ (m : Nodes). StandsFor W m strides chain count needs plain at) (sym t.same) stands)

  -- ---- one that is held

  module _ {h : ℕ} (some : trail.hop ≡ Some h) where
    held : find x.routes p ≡ Some h
    held = sym hop_is ∙ some

    abbrev left : Routes
    left = without x.routes p

    abbrev later : Placement
    later = after_delete s left p at

    grants_here : perform W size (holding s x.routes) (delete address len) ≡ done (deleted h (required s x.routes - required s left)) (holding s left)
    grants_here = simp (le-leb len W (let l = t.clear.0 in let m = t.long in omega arith), t.clear.1, held)

    grants : perform W size plain (delete address len) ≡ done (deleted h (required s x.routes - required s left)) (holding s left)
    grants = ap (λ (q : Plain). perform W size q (delete address len)) x.is ∙ grants_here

    after_is : after W size plain (delete address len) ≡ holding s left
    after_is = ap (left_by plain) grants

    placed_is : placed W size plain at (delete address len) ≡ later
    placed_is =
        ap (λ (q : Plain). placed W size q at (delete address len)) x.is
        ∙ ap (λ (o : Outcome Done). cond (is_granted o) later at) grants_here

    nodes_are : trail.nodes ≡ way_nodes s p at
    unfolding trail_in
    nodes_are = ap (λ (y : Trail). y.nodes) trail_is ∙ way_served W size s x.routes at p h x.shows.holdable x.shows.sound held

    indexes_are : trail.indexes ≡ indexes s p
    unfolding trail_in
    indexes_are = ap (λ (y : Trail). y.indexes) trail_is

    position_is : trail.position ≡ position_of s p
    unfolding trail_in
    position_is = ap (λ (y : Trail). y.position) trail_is

    module _ {node : ℕ} (is_last : node ≡ get_or trail.nodes (length trail.nodes - 1) 0) where
      node_is : node ≡ node_at at.used (path_to s p)
      node_is =
          is_last ∙ ap (λ (l : List ℕ). get_or l (length l - 1) 0) nodes_are
          ∙ way_last W size s x.routes at p h x.shows.holdable x.shows.sound held

      now_is : now ≡ image size s x.routes at
      now_is = t.same ∙ x.shows.is

      -- what unmarking asks is there
      pub place_there : is_hop now node trail.position ≡ true
      place_there =
          ap₂ (λ (m : Nodes) (n : ℕ). is_hop m n trail.position) now_is node_is
          ∙ ap (is_hop (image size s x.routes at) (node_at at.used (path_to s p))) position_is
          ∙ unmarks_there W size s x.routes at p h x.shows.holdable x.shows.sound held

      pub place_free : marked (now.bitmap node) 0 ≡ false
      place_free = ap (λ (m : Nodes). marked (m.bitmap node) 0) now_is ∙ no_mark size s x.routes at node

      -- and what it leaves is what a climb begins with
      module _ {new : Nodes} (is_new : new ≡ unmarked_node now node trail.position) where
        new_is : new ≡ image size s left at
        new_is =
            is_new
            ∙ ap₂ (λ (m : Nodes) (n : ℕ). unmarked_node m n trail.position) now_is node_is
            ∙ ap (unmarked_node (image size s x.routes at) (node_at at.used (path_to s p))) position_is
            ∙ sym (unmarks W size s x.routes at p h x.shows.holdable x.shows.sound held)

        size_is : new.size ≡ size
        size_is = image_size size s left at new_is

        pub climbs : {way is : List ℕ} → way ≡ trail.nodes → is ≡ trail.indexes → Climbs W new s x.routes at p chain way is
        climbs is_way is_indexes =
            record {
              can =
                  record {
                    holds = record { can = x.shows.holdable; sound = subst (λ n. SoundPlacement n s x.routes at) (sym size_is) x.shows.sound };
                    held = ap is_some held;
                  };
              image_is = new_is ∙ ap (λ n. image n s left at) (sym size_is);
              chain_is = x.chain_is;
              way_is = is_way ∙ nodes_are;
              indexes_are = is_indexes ∙ indexes_are;
            }

        -- which comes to the nodes, the answer and the counts of the delete
        module _ {returned : ℕ} (returned_is : returned ≡ required s x.routes - required s left) where
          pub answers_deleted : granted (deleted h returned) ≡ answer W size plain (delete address len)
          answers_deleted = simp (grants, returned_is)

          pub stands_later : {strides : Option (List ℕ)} {last : Nodes} {chain' : ℕ} → strides ≡ Some s → chain' ≡ front later.free
              → last ≡ image new.size s left later
              → StandsFor W last strides chain' (count - 1) (needs - returned) (after W size plain (delete address len)) (placed W size plain at (delete address len))
          stands_later {strides = strides} {last = last} {chain' = chain'} planned front_is last_is =
              let is : last ≡ image size s left later = last_is ∙ ap (λ n. image n s left later) size_is in
              let last_size : last.size ≡ size = image_size size s left later is in
              let one = length_without x.routes p h x.shows.holdable.ascends held in
              let c = x.counted in
              subst (λ (q : Plain). StandsFor W last strides chain' (count - 1) (needs - returned) q (placed W size plain at (delete address len))) (sym after_is)
              (subst (λ (y : Placement). StandsFor W last strides chain' (count - 1) (needs - returned) (holding s left) y) (sym placed_is)
              (record {
                planned = planned;
                shows = record {
                  holdable = left_holdable W size s x.routes at p h x.shows.holdable x.shows.sound held;
                  sound = subst (λ n. SoundPlacement n s left later) (sym last_size) (left_sound W size s x.routes at p h x.shows.holdable x.shows.sound held);
                  is = is ∙ ap (λ n. image n s left later) (sym last_size);
                };
                chain = front_is;
                counted = omega arith;
                requires = ap₂ (λ a b. a - b) x.requires returned_is ∙ left_requires W size s x.routes at p h x.shows.holdable x.shows.sound held;
              }))
