-- Nodes taken, then the position marked: the route is in.
use Rattle.std.proofs.Common.{◌≡◌, ℕ, ◌≤◌, true, false, List, sym, ap, ◌∙◌, ap₂, arith}
use Rattle.bits.specs.Rows.{Bits}
use Rattle.images.specs.Steps.{marked_node}
use Rattle.images.proofs.Attaching.{attach_count}
use Rattle.images.proofs.Inserting.{no_mark, place_there, put_image}
use Rattle.model.specs.Nodes.{Nodes, marked}
use Rattle.model.specs.Places.{path_to, position_of}
use Rattle.model.specs.Placements.{Placement, after_insert, image, node_at}
use Rattle.model.specs.Required.{required}
use Rattle.model.specs.Routes.{Routes, put}
use Rattle.nodes.specs.Fields.{is_hop}
use Rattle.growth.specs.Ways.{Attaches}

module _ {W : ℕ} {nodes : Nodes} {plan : List ℕ} {routes : Routes} {at : Placement} {p : Bits} {k chain node : ℕ} {missing : List ℕ}
    (starts : Attaches W nodes plan routes at p k chain node missing) (h : ℕ) (small : h ≤ 4095) where
  abbrev later : Placement
  later = after_insert plan p at

  abbrev end : ℕ
  end = node_at later.used (path_to plan p)

  -- what is required does not depend on the hop
  pub room : required plan (put routes p h) ≤ nodes.size
  room =
      let c = starts.can in
      let any = attach_count W nodes.size plan routes at p c.holds.can c.holds.sound c.short h in
      let none = attach_count W nodes.size plan routes at p c.holds.can c.holds.sound c.short 0 in
      let r = c.room in
      omega arith

  module _ (now : Nodes) (is : now ≡ image nodes.size plan routes later) where
    pub marks_there : (n j : ℕ) → n ≡ end → j ≡ position_of plan p → is_hop now n j ≡ true
    marks_there n j e f =
        let c = starts.can in
        ap₂ (is_hop now) e f
        ∙ ap (λ (m : Nodes). is_hop m end (position_of plan p)) is
        ∙ place_there W nodes.size plan routes at p h c.holds.can c.holds.sound c.short small room

    pub marks_clean : (n : ℕ) → marked (now.bitmap n) 0 ≡ false
    marks_clean n = ap (λ (m : Nodes). marked (m.bitmap n) 0) is ∙ no_mark nodes.size plan routes later n

    pub entered : (n j : ℕ) → n ≡ end → j ≡ position_of plan p → (new : Nodes) → new ≡ marked_node now n j h → new ≡ image nodes.size plan (put routes p h) later
    entered n j f g new e =
        let c = starts.can in
        e ∙ ap₂ (λ (x y : ℕ). marked_node now x y h) f g ∙ ap (λ (m : Nodes). marked_node m end (position_of plan p) h) is
        ∙ sym (put_image W nodes.size plan routes at p h c.holds.can c.holds.sound c.short small room)
