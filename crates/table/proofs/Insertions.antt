-- An insert, by what the table stands for: what its trail comes to, and what the table stands for afterwards.
use Rattle.std.proofs.Common.{◌≡◌, ℕ, ◌+◌, ◌-◌, ◌<◌, ◌≤◌, Bool, cond, List, length, drop, get_or, is_some, Some, Option, min, not, refl, sym, ap, ◌∙◌, ap₂, subst, arith}
use Rattle.std.proofs.lemmas.List.{length-take-le}
use Rattle.bits.specs.Rows.{Bits}
use Rattle.bits.specs.Order.{Sound}
use Rattle.faults.specs.declared.Layer.TheVariants.{Table}
use Rattle.faults.specs.Numbers.{full}
use Rattle.growth.specs.Ways.{Attaches}
use Rattle.model.specs.Calls.{Call, Plain, after, answer, holding, insert, inserted}
use Rattle.model.specs.Nodes.{Nodes}
use Rattle.model.specs.Outcomes.{granted, refused}
use Rattle.model.specs.Places.{position_of}
use Rattle.model.specs.Placements.{Placement, after_insert, front, image}
use Rattle.model.specs.Required.{required}
use Rattle.model.specs.Routes.{Routes, find, last_hop, prefix_of, put}
use Rattle.walks.specs.Shows.{Shows}
use Rattle.walks.specs.Trails.{Trail, trail_in}
use Rattle.table.specs.Placed.{placed}
use Rattle.table.specs.Stands.{StandsFor}
use Rattle.table.proofs.Deletions.{image_size}
use Rattle.table.proofs.Growing.{none_in, one_in, there}
use Rattle.table.proofs.Steps as steps

-- the trail of an admitted route was read, and the number of nodes, which leaves the nodes
pub record Trailed (W : ℕ) (nodes : Nodes) (s : List ℕ) (chain count needs : ℕ) (plain : Plain) (at : Placement) (address : Bits) (len hop : ℕ) (trail : Trail)
    (missing : List ℕ) (size : ℕ) : Type 0 where
  pub stands : StandsFor W nodes (Some s) chain count needs plain at
  pub long : length address ≡ W
  pub clear : Sound address len
  pub small : hop ≤ last_hop
  pub shown : (routes : Routes) (at : Placement) → Shows W nodes s routes at → granted trail ≡ granted (trail_in s routes at (prefix_of address len))
  pub missing_is : missing ≡ drop (length trail.nodes - 1) trail.indexes
  pub size_is : size ≡ nodes.size

pub trailed : {W : ℕ} {nodes now : Nodes} {strides : Option (List ℕ)} {s : List ℕ} {chain count needs : ℕ} {address : Bits} {len hop : ℕ} {trail : Trail}
    {missing : List ℕ} {size : ℕ}
    → strides ≡ Some s → length address ≡ W → Sound address len → hop ≤ last_hop
    → ((routes : Routes) (at : Placement) → Shows W nodes s routes at → granted trail ≡ granted (trail_in s routes at (prefix_of address len)))
    → missing ≡ drop (length trail.nodes - 1) trail.indexes → size ≡ now.size → now ≡ nodes
    → (plain : Plain) (at : Placement) → StandsFor W nodes strides chain count needs plain at
    → Trailed W nodes s chain count needs plain at address len hop trail missing size
trailed {W = W} {nodes = nodes} {chain = chain} {count = count} {needs = needs} planned long clear small shown missing_is size_is same plain at stands =
    record {
      stands = subst (λ (o : Option (List ℕ)). StandsFor W nodes o chain count needs plain at) planned stands;
      long = long;
      clear = clear;
      small = small;
      shown = shown;
      missing_is = missing_is;
      size_is = size_is ∙ ap (λ (m : Nodes). m.size) same;
    }

module _ {W : ℕ} {nodes : Nodes} {s : List ℕ} {chain count needs : ℕ} {plain : Plain} {at : Placement} {address : Bits} {len hop : ℕ} {trail : Trail}
    {missing : List ℕ} {size : ℕ} (t : Trailed W nodes s chain count needs plain at address len hop trail missing size) where
  abbrev p : Bits
  p = prefix_of address len

  pub fits : len ≤ W
  fits = let l = t.clear.0 in let m = t.long in omega arith

  pub short : length p ≤ W
  short = let l = length-take-le len address (let l = t.clear.0 in l) in let f = fits in omega arith

  abbrev routes : Routes
  routes = steps.routes W nodes s chain count needs plain at t.stands p short trail t.shown missing t.missing_is

  abbrev then : Routes
  then = put routes p hop

  abbrev later : Placement
  later = after_insert s p at

  plain_is : plain ≡ holding s routes
  plain_is = steps.is_plain W nodes s chain count needs plain at t.stands p short trail t.shown missing t.missing_is

  pub position_is : trail.position ≡ position_of s p
  position_is = steps.position_is W nodes s chain count needs plain at t.stands p short trail t.shown missing t.missing_is

  abbrev call : Call
  call = insert address len hop

  -- ---- where more are missing than are left

  module _ {left : ℕ} (is_left : left ≡ size - needs) (past : left < length missing) where
    few : nodes.size < required s then
    few =
        steps.not_enough W nodes s chain count needs plain at t.stands p short trail t.shown missing t.missing_is size (length missing) t.size_is refl
        (omega arith) hop

    none : (refused full Table 0 ≡ answer W nodes.size (holding s routes) call)
        × (after W nodes.size (holding s routes) call ≡ holding s routes)
        × (placed W nodes.size (holding s routes) at call ≡ at)
    none = none_in W nodes.size s routes address len hop fits t.clear.1 t.small at few

    pub answers_full : refused full Table 0 ≡ answer W nodes.size plain call
    answers_full = none.0 ∙ ap (λ (q : Plain). answer W nodes.size q call) (sym plain_is)

    pub stays : {now : Nodes} (strides : Option (List ℕ)) → now ≡ nodes → StandsFor W nodes strides chain count needs plain at
        → StandsFor W now strides chain count needs (after W nodes.size plain call) (placed W nodes.size plain at call)
    stays {now = now} strides same stands =
        let after_is : after W nodes.size plain call ≡ plain = ap (λ (q : Plain). after W nodes.size q call) plain_is ∙ none.1 ∙ sym plain_is in
        let placed_is : placed W nodes.size plain at call ≡ at = ap (λ (q : Plain). placed W nodes.size q at call) plain_is ∙ none.2 in
        subst (λ (m : Nodes). StandsFor W m strides chain count needs (after W nodes.size plain call) (placed W nodes.size plain at call)) (sym same)
        (subst (λ (q : Plain). StandsFor W nodes strides chain count needs q (placed W nodes.size plain at call)) (sym after_is)
        (subst (λ (y : Placement). StandsFor W nodes strides chain count needs plain y) (sym placed_is) stands))

  -- ---- where they suffice

  module _ {left : ℕ} (is_left : left ≡ size - needs) (within : length missing ≤ left) where
    room : (h : ℕ) → required s (put routes p h) ≤ nodes.size
    room =
        steps.enough W nodes s chain count needs plain at t.stands p short trail t.shown missing t.missing_is size (length missing) t.size_is refl
        (omega arith)

    -- the tree is given nodes from the last one of the trail on
    pub starts : {now : Nodes} {last : ℕ} → now ≡ nodes → last ≡ get_or trail.nodes (length trail.nodes - 1) 0
        → (k : ℕ) × Attaches W now s routes at p k chain last missing
    starts {last = last} same is_last =
        let o = steps.opened W nodes s chain count needs plain at t.stands p short trail t.shown missing t.missing_is in
        let k = (there o p short).0 in (
          k,
          subst (λ (m : Nodes). Attaches W m s routes at p k chain last missing) (sym same)
              (steps.starts W nodes s chain count needs plain at t.stands p short trail t.shown missing t.missing_is (room 0) last is_last),
        )

    one : (granted (inserted (find routes p) (required s then - required s routes)) ≡ answer W nodes.size (holding s routes) call)
        × (after W nodes.size (holding s routes) call ≡ holding s then)
        × (placed W nodes.size (holding s routes) at call ≡ later)
    one = one_in W nodes.size s routes address len hop fits t.clear.1 t.small at (room hop)

    more : required s then - required s routes ≡ length missing
    more =
        let n = steps.needs_then W nodes s chain count needs plain at t.stands p short trail t.shown missing t.missing_is hop in
        let o = steps.opened W nodes s chain count needs plain at t.stands p short trail t.shown missing t.missing_is in
        let r = o.requires in
        omega arith

    pub answers_inserted : granted (inserted trail.hop (length missing)) ≡ answer W nodes.size plain call
    answers_inserted =
        ap₂ (λ o n. granted (inserted o n)) (steps.old_hop W nodes s chain count needs plain at t.stands p short trail t.shown missing t.missing_is) (sym more)
        ∙ one.0 ∙ ap (λ (q : Plain). answer W nodes.size q call) (sym plain_is)

    pub stands_later : {strides : Option (List ℕ)} {now new : Nodes} {chain' count' needs' : ℕ} (absent : Bool) → strides ≡ Some s → nodes.size ≤ 262144
        → is_some trail.hop ≡ not absent → now ≡ nodes → chain' ≡ front later.free → new ≡ image now.size s then later
        → count' ≡ min (count + cond absent 1 0) 18446744073709551615 → needs' ≡ min (needs + length missing) 18446744073709551615
        → StandsFor W new strides chain' count' needs' (after W nodes.size plain call) (placed W nodes.size plain at call)
    stands_later {strides = strides} {new = new} {chain' = chain'} {count' = count'} {needs' = needs'} absent planned most is_absent same is_chain is_new is_count is_needs =
        let after_is : after W nodes.size plain call ≡ holding s then = ap (λ (q : Plain). after W nodes.size q call) plain_is ∙ one.1 in
        let placed_is : placed W nodes.size plain at call ≡ later = ap (λ (q : Plain). placed W nodes.size q at call) plain_is ∙ one.2 in
        let is : new ≡ image nodes.size s then later = is_new ∙ ap (λ (m : Nodes). image m.size s then later) same in
        let opened : StandsFor W new (Some s) chain' count' needs' (holding s then) later =
        steps.stands_then W nodes s chain count needs plain at t.stands p short trail t.shown missing t.missing_is most hop t.small (room hop)
        new chain' count' needs' absent is_absent (image_size nodes.size s then later is) is is_chain is_count is_needs in
        subst (λ (o : Option (List ℕ)). StandsFor W new o chain' count' needs' (after W nodes.size plain call) (placed W nodes.size plain at call)) (sym planned)
        (subst (λ (q : Plain). StandsFor W new (Some s) chain' count' needs' q (placed W nodes.size plain at call)) (sym after_is)
        (subst (λ (y : Placement). StandsFor W new (Some s) chain' count' needs' (holding s then) y) (sym placed_is) opened))
