-- The laws of trees and of images: what is held settles the routes, and a walk finds what the plain list answers.
use Rattle.std.proofs.Common.{◌≡◌, ℕ, List, length, sym, ap, ◌∙◌}
use Rattle.bits.specs.Rows.{Bits}
use Rattle.laws.specs.Lists.{Holdable}
use Rattle.laws.specs.Trees.{ImageLaws, TreeLaws}
use Rattle.laws.proofs.ImageNodes.{chains_free, free_unreached, holds_routes, own_node, reaches_required, reaches_some, rest_reached}
use Rattle.laws.proofs.Ranges.{image_takeable}
use Rattle.laws.proofs.Routes.{unique}
use Rattle.laws.proofs.Spots.{indexes_lead, lies_at_position}
use Rattle.laws.proofs.Trees.{spells_ascending, spells_held}
use Rattle.laws.proofs.Visits.{walk_visits}
use Rattle.laws.proofs.Walks.{walk_longest}
use Rattle.model.specs.Nodes.{Nodes, held, spelled, walk}
use Rattle.model.specs.Placements.{Placement, SoundPlacement, image}
use Rattle.model.specs.Required.{path_count}
use Rattle.model.specs.Routes.{Routes, longest}

-- ascending routes that find what the image holds are the routes
spells_routes : (W N : ℕ) (plan : List ℕ) (routes : Routes) (at : Placement) → Holdable W plan routes → SoundPlacement N plan routes at
    → spelled (image N plan routes at) plan ≡ routes
spells_routes W N plan routes at can sound =
    let nodes = image N plan routes at in
    unique (spelled nodes plan) routes (spells_ascending nodes plan) can.ascends
    (λ p. spells_held nodes plan p ∙ holds_routes W N plan routes at can sound p)

same_held : (W N : ℕ) (plan : List ℕ) (routes others : Routes) (at elsewhere : Placement)
    → Holdable W plan routes → SoundPlacement N plan routes at → Holdable W plan others → SoundPlacement N plan others elsewhere
    → image N plan routes at ≡ image N plan others elsewhere → routes ≡ others
same_held W N plan routes others at elsewhere can sound could sounds e =
    unique routes others can.ascends could.ascends (λ p.
    sym (holds_routes W N plan routes at can sound p)
    ∙ ap (λ (x : Nodes). held x plan p) e
    ∙ holds_routes W N plan others elsewhere could sounds p)

-- a walk on the image
module _ (N : ℕ) (plan : List ℕ) (routes : Routes) (at : Placement) (address : Bits)
    (can : Holdable (length address) plan routes) (sound : SoundPlacement N plan routes at) where
  found_there : (walk (image N plan routes at) plan address).found ≡ longest routes address
  found_there =
      walk_longest (image N plan routes at) plan address can.planned
      ∙ ap (λ (rs : Routes). longest rs address) (spells_routes (length address) N plan routes at can sound)

  visits_there : (walk (image N plan routes at) plan address).visits ≡ path_count plan routes address
  visits_there =
      walk_visits address (image N plan routes at) plan routes can.planned (reaches_some (length address) N plan routes at can sound)

  walks_there : walk (image N plan routes at) plan address ≡ record { found = longest routes address; visits = path_count plan routes address }
  walks_there = λ i. record { found = found_there i; visits = visits_there i }

pub tree_laws : TreeLaws
tree_laws = record {
  lies_at_position = lies_at_position;
  indexes_lead = indexes_lead;
  spells_held = spells_held;
  spells_ascending = spells_ascending;
  walk_longest = walk_longest;
  walk_visits = walk_visits;
}

pub image_laws : ImageLaws
image_laws = record {
  holds = holds_routes;
  spells = spells_routes;
  reaches = reaches_required;
  own_nodes = own_node;
  chains = chains_free;
  chains_no_other = free_unreached;
  loses_none = rest_reached;
  takeable = image_takeable;
  alone = same_held;
  looks_up = walks_there;
}
