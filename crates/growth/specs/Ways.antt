-- What the way of an insert and the climb of a delete begin with: a table's nodes, and the way of a prefix through them.
use Rattle.std.specs.Prelude.{◌≡◌, ℕ, List, drop}
use Rattle.bits.specs.Rows.{Bits}
use Rattle.images.specs.Steps.{CanDelete, CanInsert, ServedTo, path_of, way_nodes}
use Rattle.model.specs.Nodes.{Nodes}
use Rattle.model.specs.Places.{indexes}
use Rattle.model.specs.Placements.{Placement, front, image, node_at}
use Rattle.model.specs.Routes.{Routes, without}

-- the paths on the way of a prefix have nodes as far as the k-th; nodes for the others are to be taken
pub record Attaches (W : ℕ) (nodes : Nodes) (plan : List ℕ) (routes : Routes) (at : Placement) (p : Bits) (k chain node : ℕ) (missing : List ℕ) : Type 0 where
  pub can : CanInsert W nodes.size plan routes at p
  pub served : ServedTo plan routes p k
  pub is : nodes ≡ image nodes.size plan routes at
  pub chain_is : chain ≡ front at.free
  pub node_is : node ≡ node_at at.used (path_of plan p k)
  pub missing_is : missing ≡ drop k (indexes plan p)

-- the routes have lost a prefix, whose way still has all its nodes
pub record Climbs (W : ℕ) (nodes : Nodes) (plan : List ℕ) (routes : Routes) (at : Placement) (p : Bits) (chain : ℕ) (way is : List ℕ) : Type 0 where
  pub can : CanDelete W nodes.size plan routes at p
  pub image_is : nodes ≡ image nodes.size plan (without routes p) at
  pub chain_is : chain ≡ front at.free
  pub way_is : way ≡ way_nodes plan p at
  pub indexes_are : is ≡ indexes plan p
