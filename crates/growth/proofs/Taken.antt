-- Nodes are taken along a way, one after the other.
use Rattle.std.proofs.Common.{◌≡◌, ℕ, suc, ◌+◌, ◌<◌, ◌≤◌, true, false, eqb, List, length, get_or, Ok, Err, Result, sym, ap, ◌∙◌, ap₂, subst, length-drop, lt-ltb, arith}
use Rattle.std.proofs.lemmas.List.{get_or-drop}
use Rattle.bits.specs.Rows.{Bits}
use Rattle.faults.specs.declared.Fault.{Fault}
use Rattle.images.specs.Steps.{insert_at, path_of, taken_node}
use Rattle.images.proofs.Attaching.{Takes, attach_all, attach_none, attach_step}
use Rattle.images.proofs.Ways.{last_index, unserved_behind}
use Rattle.model.specs.Nodes.{Nodes}
use Rattle.model.specs.Places.{indexes, level, path_to}
use Rattle.model.specs.Placements.{Placement, after_insert, front, image, node_at}
use Rattle.model.specs.Routes.{Routes}
use Rattle.nodes.specs.Fields.{is_child, is_node}
use Rattle.growth.specs.Ways.{Attaches}

-- what is granted is one value
pub ok_alone : {A : Type 0} (a b : A) → ◌≡◌ {A = Result A Fault} (Ok a) (Ok b) → a ≡ b
ok_alone a b e = cc

-- and it is not refused
pub not_refused : {A : Type 0} {v : A} {f : Fault} → ◌≡◌ {A = Result A Fault} (Err f) (Ok v) → ⊥
not_refused e = let z : ◌≡◌ {A = ℕ} 0 1 = cc in omega arith

-- the paths as far as the k-th have nodes
pub record TakenTo (N : ℕ) (plan : List ℕ) (routes : Routes) (at : Placement) (p : Bits) (k : ℕ) (nodes : Nodes) (chain node : ℕ) : Type 0 where
  pub is : nodes ≡ image N plan routes (insert_at plan p at k)
  pub chain_is : chain ≡ front (insert_at plan p at k).free
  pub node_is : node ≡ node_at (insert_at plan p at k).used (path_of plan p k)

module _ {W : ℕ} {nodes : Nodes} {plan : List ℕ} {routes : Routes} {at : Placement} {p : Bits} {k chain node : ℕ} {missing : List ℕ}
    (starts : Attaches W nodes plan routes at p k chain node missing) where
  none_yet : insert_at plan p at k ≡ at
  none_yet =
      let h = starts.can.holds in
      attach_none W nodes.size plan routes at p h.can h.sound starts.can.short k starts.served.there

  pub taken_first : TakenTo nodes.size plan routes at p k nodes chain node
  taken_first =
      record {
        is = starts.is ∙ ap (image nodes.size plan routes) (sym none_yet);
        chain_is = starts.chain_is ∙ ap (λ (x : Placement). front x.free) (sym none_yet);
        node_is = starts.node_is ∙ ap (λ (x : Placement). node_at x.used (path_of plan p k)) (sym none_yet);
      }

  module _ {j : ℕ} {now : Nodes} {chain' node' : ℕ} (to : TakenTo nodes.size plan routes at p (k + j) now chain' node') (inside : j < length missing)
      (index : ℕ) (is_index : index ≡ get_or missing j 0) where
    abbrev size : ℕ
    size = nodes.size

    under : k + j < length (indexes plan p)
    under = let l = ap length starts.missing_is in let d = length-drop k (indexes plan p) in omega arith

    index_there : index ≡ get_or (indexes plan p) (k + j) 0
    index_there = is_index ∙ ap (λ (xs : List ℕ). get_or xs j 0) starts.missing_is ∙ get_or-drop k (indexes plan p) j 0

    abbrev takes : Takes size plan routes (insert_at plan p at (k + j)) (insert_at plan p at (suc (k + j))) (path_of plan p (k + j)) (path_of plan p (suc (k + j))) (get_or (indexes plan p) (k + j) 0)
    takes =
        let h = starts.can.holds in
        let l = last_index W plan h.can.planned p starts.can.short in
        attach_step W size plan routes at p h.can h.sound starts.can.short starts.can.room (k + j) (omega (arith, under))
        (unserved_behind W plan h.can.planned p starts.can.short routes k (suc (k + j)) starts.served (omega arith) (omega (arith, under)))

    size_now : now.size ≡ size
    unfolding image
    size_now = ap (λ (x : Nodes). x.size) to.is

    -- what taking a node asks is there
    pub front_there : is_node now chain' ≡ true
    front_there = let t = takes.free in let e = size_now in let f = to.chain_is in lt-ltb chain' now.size (omega arith)

    pub child_there : is_child now node' index ≡ true
    child_there =
        let t = takes.parent in
        let e = size_now in
        let f = to.node_is in
        let i = takes.index in
        let g = index_there in
        simp (lt-ltb node' now.size (omega arith), lt-ltb index 64 (omega arith))

    pub apart : eqb node' chain' ≡ false
    apart = ap₂ eqb to.node_is to.chain_is ∙ takes.apart

    pub count_there : now.count node' < 64
    unfolding image
    count_there =
        subst (λ x. x < 64) (sym (ap₂ (λ (m : Nodes) (n : ℕ). m.count n) to.is to.node_is)) takes.count

    -- and what it leaves is the next step
    pub taken_on : (link : ℕ) (new : Nodes) → link ≡ now.child chain' 0 → new ≡ taken_node now chain' node' index
        → TakenTo size plan routes at p (k + (j + 1)) new link chain'
    taken_on link new is_link is_new =
        let more : suc (k + j) ≡ k + (j + 1) = omega arith in
        let before = image size plan routes (insert_at plan p at (k + j)) in
        let f = front (insert_at plan p at (k + j)).free in
        let n = node_at (insert_at plan p at (k + j)).used (path_of plan p (k + j)) in
        subst (λ (m : ℕ). TakenTo size plan routes at p m new link chain') more
        (record {
          is =
              is_new
              ∙ ap (λ (m : Nodes). taken_node m chain' node' index) to.is
              ∙ ap₂ (λ (x y : ℕ). taken_node before x y index) to.chain_is to.node_is
              ∙ ap (taken_node before f n) index_there
              ∙ sym takes.next;
          chain_is = is_link ∙ ap₂ (λ (m : Nodes) (x : ℕ). m.child x 0) to.is to.chain_is ∙ takes.link;
          node_is = to.chain_is ∙ sym takes.node;
        })

  -- at the end all paths on the way have nodes
  pub taken_all : {j : ℕ} {now : Nodes} {chain' node' : ℕ} → TakenTo nodes.size plan routes at p (k + j) now chain' node' → length missing ≤ j → j ≤ length missing
      → (node' ≡ node_at (after_insert plan p at).used (path_to plan p)) × (chain' ≡ front (after_insert plan p at).free)
      × (now ≡ image nodes.size plan routes (after_insert plan p at))
  taken_all {j = j} to past within =
      let h = starts.can.holds in
      let l = last_index W plan h.can.planned p starts.can.short in
      let m = ap length starts.missing_is in
      let d = length-drop k (indexes plan p) in
      let w = starts.served.within in
      let last : k + j ≡ level plan (length p) = omega arith in
      let all : insert_at plan p at (k + j) ≡ after_insert plan p at =
      ap (insert_at plan p at) last ∙ attach_all W nodes.size plan routes at p h.can h.sound starts.can.short in (
        to.node_is ∙ ap₂ (λ (x : Placement) (y : Bits). node_at x.used y) all (ap (path_of plan p) last),
        to.chain_is ∙ ap (λ (x : Placement). front x.free) all,
        to.is ∙ ap (image nodes.size plan routes) all,
      )
