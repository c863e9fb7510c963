-- The nodes on a way are returned, one after the other, from the deepest up.
use Rattle.std.proofs.Common.{◌≡◌, ℕ, suc, ◌+◌, ◌-◌, ◌<◌, ◌≤◌, ◌⊎◌, ◌&&◌, Bool, true, false, not, eqb, List, length, get_or, is_some, Some, None, Option, Ok, Result, refl, sym, ap, ◌∙◌, ap₂, subst, inl, inr, lt-ltb, arith}
use Rattle.bits.specs.Rows.{Bits}
use Rattle.bits.specs.Order.{same}
use Rattle.bits.proofs.Orders.{holds, fails, decided, same_eq}
use Rattle.faults.specs.declared.Fault.{Fault}
use Rattle.laws.proofs.Returning.{without_node}
use Rattle.laws.proofs.Ways.{held_short}
use Rattle.images.specs.Steps.{delete_at, path_of, returned_node}
use Rattle.images.proofs.Climbs.{indexes_down, on_apart, root_needed}
use Rattle.images.proofs.Deleting.{way_item, way_size}
use Rattle.images.proofs.Returning.{Returns, m_small, one_returned, return_all_kept, return_count, return_none, return_step, return_test}
use Rattle.model.specs.Nodes.{Nodes}
use Rattle.model.specs.Places.{indexes, level}
use Rattle.model.specs.Placements.{Placement, after_delete, front, image, node_at}
use Rattle.model.specs.Required.{member, required, required_paths}
use Rattle.model.specs.Routes.{Routes, find, without}
use Rattle.nodes.specs.Fields.{is_child, is_node}
use Rattle.growth.specs.Ways.{Climbs}

-- as far up as the k-th path the nodes are returned
pub record ClimbedTo (N : ℕ) (plan : List ℕ) (routes : Routes) (at : Placement) (p : Bits) (k : ℕ) (nodes : Nodes) (chain count : ℕ) : Type 0 where
  pub is : nodes ≡ image N plan (without routes p) (delete_at plan (without routes p) p at k)
  pub chain_is : chain ≡ front (delete_at plan (without routes p) p at k).free
  pub count_is : count + k ≡ level plan (length p)
  pub stay : (j : ℕ) → j ≤ k → node_at (delete_at plan (without routes p) p at k).used (path_of plan p j) ≡ node_at at.used (path_of plan p j)
  pub deepest : (k ≡ level plan (length p)) ⊎ (member (path_of plan p (suc k)) (required_paths plan (without routes p)) ≡ false)

-- what is granted is one truth value
pub ok_test : {a b : Bool} → ◌≡◌ {A = Result Bool Fault} (Ok a) (Ok b) → a ≡ b
ok_test e = cc

-- what is held has a hop
hop_of : (o : Option ℕ) → is_some o ≡ true → (h : ℕ) × (o ≡ Some h)
hop_of None e = let z : ◌≡◌ {A = ℕ} 0 1 = cc in absurd (omega arith)
hop_of (Some h) e = (h, refl)

module _ {W : ℕ} {nodes : Nodes} {plan : List ℕ} {routes : Routes} {at : Placement} {p : Bits} {chain : ℕ} {way is : List ℕ}
    (starts : Climbs W nodes plan routes at p chain way is) where
  abbrev left : Routes
  left = without routes p

  abbrev last : ℕ
  last = level plan (length p)

  abbrev size : ℕ
  size = nodes.size

  abbrev hop : (h : ℕ) × (find routes p ≡ Some h)
  hop = hop_of (find routes p) starts.can.held

  short : length p ≤ W
  short = held_short W routes p starts.can.holds.can.ranged starts.can.held

  none_yet : delete_at plan left p at last ≡ at
  none_yet = return_none W size plan routes at p hop.0 starts.can.holds.can starts.can.holds.sound hop.1

  -- as many child indexes as the way has nodes below the root
  indexes_size : length is ≡ last
  indexes_size = ap length starts.indexes_are ∙ indexes_down W plan starts.can.holds.can.planned p short

  length_way : length way ≡ suc last
  length_way = ap length starts.way_is ∙ way_size W plan starts.can.holds.can.planned p short at

  item : (j : ℕ) → j ≤ last → get_or way j 0 ≡ node_at at.used (path_of plan p j)
  item j h = ap (λ (l : List ℕ). get_or l j 0) starts.way_is ∙ way_item W plan starts.can.holds.can.planned p short at j h

  pub climbed_first : ClimbedTo size plan routes at p (length is) nodes chain 0
  climbed_first =
      subst (λ k. ClimbedTo size plan routes at p k nodes chain 0) (sym indexes_size)
      (record {
        is = starts.image_is ∙ ap (image size plan left) (sym none_yet);
        chain_is = starts.chain_is ∙ ap (λ (x : Placement). front x.free) (sym none_yet);
        count_is = omega arith;
        stay = λ j h. ap (λ (x : Placement). node_at x.used (path_of plan p j)) none_yet;
        deepest = inl refl;
      })

  module _ {k : ℕ} {now : Nodes} {chain' count : ℕ} (to : ClimbedTo size plan routes at p k now chain' count) where
    -- where the k-th path is still required, or is the root's, all is returned that is to be
    pub climbed_kept : member (path_of plan p k) (required_paths plan left) ≡ true
        → (chain' ≡ front (after_delete plan left p at).free) × (count ≡ required plan routes - required plan left)
        × (now ≡ image size plan left (after_delete plan left p at))
    climbed_kept needed =
        let c = to.count_is in
        let all = return_all_kept W size plan routes at p hop.0 starts.can.holds.can starts.can.holds.sound hop.1 k (omega arith) needed in
        let sum = return_count W size plan routes at p hop.0 starts.can.holds.can starts.can.holds.sound hop.1 k (omega arith) needed to.deepest in (
          to.chain_is ∙ ap (λ (x : Placement). front x.free) all,
          omega arith,
          to.is ∙ ap (image size plan left) all,
        )

    -- the way goes as far
    pub way_long : k < length way
    way_long = let c = to.count_is in let w = length_way in omega arith

    -- a reading leaves it so
    pub climbed_read : {then : Nodes} → then ≡ now → ClimbedTo size plan routes at p k then chain' count
    climbed_read e = record { is = e ∙ to.is; chain_is = to.chain_is; count_is = to.count_is; stay = to.stay; deepest = to.deepest }

    -- the path behind the level below
    pub climbed_next : 0 < k → ClimbedTo size plan routes at p (suc (k - 1)) now chain' count
    climbed_next some = subst (λ (j : ℕ). ClimbedTo size plan routes at p j now chain' count) (omega arith) to

  -- the root stays
  pub climbed_root : {k : ℕ} {now : Nodes} {chain' count : ℕ} → ClimbedTo size plan routes at p k now chain' count → k ≡ 0
      → (chain' ≡ front (after_delete plan left p at).free) × (count ≡ required plan routes - required plan left)
      × (now ≡ image size plan left (after_delete plan left p at))
  climbed_root to none =
      climbed_kept to
      (subst (λ j. member (path_of plan p j) (required_paths plan left) ≡ true) (sym none)
      (root_needed W plan starts.can.holds.can.planned p short left))

  -- one node more
  module _ {k : ℕ} {now : Nodes} {chain' count : ℕ} (to : ClimbedTo size plan routes at p (suc k) now chain' count)
      {parent node : ℕ} (is_parent : parent ≡ get_or way k 0) (is_child_of : node ≡ get_or way (k + 1) 0) where
    abbrev index : ℕ
    index = get_or is k 0

    abbrev before : Placement
    before = delete_at plan left p at (suc k)

    pub deep : suc k ≤ last
    deep = let c = to.count_is in omega arith

    node_is : node ≡ node_at before.used (path_of plan p (suc k))
    node_is = let more : k + 1 ≡ suc k = omega arith in is_child_of ∙ ap (λ j. get_or way j 0) more ∙ item (suc k) deep ∙ sym (to.stay (suc k) (omega arith))

    parent_is : parent ≡ node_at before.used (path_of plan p k)
    parent_is = let d = deep in is_parent ∙ item k (omega arith) ∙ sym (to.stay k (omega arith))

    index_is : index ≡ get_or (indexes plan p) k 0
    index_is = ap (λ (l : List ℕ). get_or l k 0) starts.indexes_are

    size_now : now.size ≡ size
    unfolding image
    size_now = ap (λ (x : Nodes). x.size) to.is

    pub node_there : is_node now node ≡ true
    node_there =
        let small = m_small W size plan routes at p hop.0 starts.can.holds.can starts.can.holds.sound hop.1 k deep in
        let e = size_now in
        let f = node_is in
        lt-ltb node now.size (omega arith)

    empty_is : (eqb (now.bitmap node) 0 && eqb (now.count node) 0) ≡ not (member (path_of plan p (suc k)) (required_paths plan left))
    empty_is =
        ap₂ (λ (m : Nodes) (n : ℕ). eqb (m.bitmap n) 0 && eqb (m.count n) 0) to.is node_is
        ∙ return_test W size plan routes at p hop.0 starts.can.holds.can starts.can.holds.sound hop.1 k deep

    -- where it is not empty its path is still required, and where it is, no longer
    pub node_kept : {b : Bool} → b ≡ (eqb (now.bitmap node) 0 && eqb (now.count node) 0) → b ≡ false
        → member (path_of plan p (suc k)) (required_paths plan left) ≡ true
    node_kept e none = not_false (member (path_of plan p (suc k)) (required_paths plan left)) (sym empty_is ∙ sym e ∙ none)
      where
        not_false : (t : Bool) → not t ≡ false → t ≡ true
        not_false true e = refl
        not_false false e = let z : ◌≡◌ {A = ℕ} 0 1 = cc in absurd (omega arith)

    pub node_gone : {b : Bool} → b ≡ (eqb (now.bitmap node) 0 && eqb (now.count node) 0) → b ≡ true
        → member (path_of plan p (suc k)) (required_paths plan left) ≡ false
    node_gone e some = not_true (member (path_of plan p (suc k)) (required_paths plan left)) (sym empty_is ∙ sym e ∙ some)
      where
        not_true : (t : Bool) → not t ≡ true → t ≡ false
        not_true true e = let z : ◌≡◌ {A = ℕ} 0 1 = cc in absurd (omega arith)
        not_true false e = refl

    module _ (gone : member (path_of plan p (suc k)) (required_paths plan left) ≡ false) where
      returns : Returns size plan left p k before (delete_at plan left p at k)
      returns = return_step W size plan routes at p hop.0 starts.can.holds.can starts.can.holds.sound hop.1 k deep gone

      -- what returning it asks is there
      pub front_there : is_node now chain' ≡ true
      front_there =
          let small = returns.bounds.2 in
          let e = size_now in
          let f = to.chain_is in
          lt-ltb chain' now.size (omega arith)

      pub child_there : is_child now parent index ≡ true
      child_there =
          let small = returns.bounds.1 in
          let low = returns.bounds.3 in
          let e = size_now in
          let f = parent_is in
          let i = index_is in
          simp (lt-ltb parent now.size (omega arith), lt-ltb index 64 (omega arith))

      pub apart : eqb parent node ≡ false
      apart = ap₂ eqb parent_is node_is ∙ returns.apart

      pub count_few : now.count parent ≤ 64
      unfolding image
      count_few =
          subst (λ x. x ≤ 64) (sym (ap₂ (λ (m : Nodes) (n : ℕ). m.count n) to.is parent_is)) returns.count.1

      -- and what it leaves is the next step
      pub climbed_on : (new : Nodes) → new ≡ returned_node now node parent index chain' → ClimbedTo size plan routes at p k new node (count + 1)
      climbed_on new is_new =
          let m = node_at before.used (path_of plan p (suc k)) in
          let n = node_at before.used (path_of plan p k) in
          let old = image size plan left before in
          let c = to.count_is in
          let one = one_returned W size plan routes at p hop.0 starts.can.holds.can starts.can.holds.sound hop.1 k deep gone in
          record {
            is =
                is_new
                ∙ ap (λ (x : Nodes). returned_node x node parent index chain') to.is
                ∙ ap₂ (λ (x y : ℕ). returned_node old x y index chain') node_is parent_is
                ∙ ap₂ (λ (x y : ℕ). returned_node old m n x y) index_is to.chain_is
                ∙ sym returns.next;
            chain_is = node_is ∙ ap front (sym returns.free);
            count_is = omega arith;
            stay = λ j h.
                ap (λ (x : Placement). node_at x.used (path_of plan p j)) one
                ∙ without_node before.used (path_of plan p (suc k)) (path_of plan p j) (elim (decided (same (path_of plan p j) (path_of plan p (suc k)))) [
                  | holds e ↦ absurd (on_apart W plan starts.can.holds.can.planned p short j (suc k) (omega arith) deep (same_eq (path_of plan p j) (path_of plan p (suc k)) e))
                  | fails e ↦ e
                ])
                ∙ to.stay j (omega arith);
            deepest = inr gone;
          }
