-- A memory of bitmap nodes, by what each field of each node reads; and, on any such memory, which routes the tree of its nodes spells and
-- what a lookup finds there.
use Rattle.std.specs.Prelude.{◌≡◌, ℕ, zero, suc, ◌+◌, ◌-◌, ◌/◌, ◌%◌, ◌^◌, Bool, true, false, cond, ◌≢◌, List, [], ◌∷◌, ◌++◌, length, take, drop, Some, None, Option, ◌==◌, nat_lt}
use Rattle.bits.specs.Rows.{Bits, number, read_group}
use Rattle.model.specs.Places.{position}
use Rattle.model.specs.Routes.{Route, Routes, route}

-- so many nodes, numbered from 0; a bitmap has bit i for position i, a child is a node's number or 0 for none; what lies outside is 0
pub record Nodes : Type 0 where
  pub size : ℕ
  pub bitmap : ℕ → ℕ
  pub count : ℕ → ℕ
  pub child : ℕ → ℕ → ℕ
  pub hop : ℕ → ℕ → ℕ

-- a position of a bitmap is marked
unfoldable pub marked : ℕ → ℕ → Bool
marked bitmap i = bitmap / 2 ^ i % 2 == 1

-- the hop at a position of a node, if it is marked
abbrev pub hop_at : Nodes → ℕ → ℕ → Option ℕ
hop_at nodes n i = cond (marked (nodes.bitmap n) i) (Some (nodes.hop n i)) None

-- where bits end in the tree: a node, and the bits that are left within it
pub record Spot : Type 0 where
  pub node : ℕ
  pub rest : Bits

-- from a node on, one child for each stride that the bits fill; none at a child 0
abbrev pub spot : Nodes → List ℕ → ℕ → Bits → Option Spot
spot nodes [] n bs = None
spot nodes (s ∷ ss) n bs =
    let c = nodes.child n (number (take s bs)) in
    let below = spot nodes ss c (drop s bs) in
    cond (nat_lt (length bs) s) (Some (record { node = n; rest = bs })) (cond (c == 0) None below)

-- the node that a path leads to from the root
abbrev pub node_of : Option Spot → Option ℕ
node_of None = None
node_of (Some s) = cond (length s.rest == 0) (Some s.node) None

unfoldable pub reached : Nodes → List ℕ → Bits → Option ℕ
reached nodes plan path = node_of (spot nodes plan 0 path)

-- the node that child indexes lead to, from a node on; none at a child 0
abbrev pub descend : Nodes → ℕ → List ℕ → Option ℕ
descend nodes n [] = Some n
descend nodes n (i ∷ is) =
    let c = nodes.child n i in
    let below = descend nodes c is in
    cond (c == 0) None below

-- the hop at a position of a node, where there is a node
abbrev pub hop_in_node : Nodes → Option ℕ → ℕ → Option ℕ
hop_in_node nodes None i = None
hop_in_node nodes (Some n) i = hop_at nodes n i

-- the hop where a prefix lies
abbrev pub hop_of : Nodes → Option Spot → Option ℕ
hop_of nodes None = None
hop_of nodes (Some s) = hop_at nodes s.node (position s.rest)

unfoldable pub held : Nodes → List ℕ → Bits → Option ℕ
held nodes plan p = hop_of nodes (spot nodes plan 0 p)

-- all rows of so many bits more, in order: what stands at the bits themselves, then at those that go on with 0, then with 1
abbrev pub in_order : (here below : Bits → Routes) → ℕ → Bits → Routes
in_order here below zero bs = below bs
in_order here below (suc more) bs =
    here bs ++ (in_order here below more (bs ++ (false ∷ [])) ++ in_order here below more (bs ++ (true ∷ [])))

abbrev pub entry : Bits → Option ℕ → Routes
entry p None = []
entry p (Some hop) = route p hop ∷ []

-- the routes from a node on, in order; `path` leads to it
abbrev pub spelled_from : Nodes → List ℕ → ℕ → Bits → Routes
spelled_from nodes [] n path = []
spelled_from nodes (s ∷ ss) n path =
    in_order
    (λ bs. entry (path ++ bs) (hop_at nodes n (position bs)))
    (λ bs.
    let c = nodes.child n (number bs) in
    let below = spelled_from nodes ss c (path ++ bs) in
    cond (c == 0) [] below)
    s []

unfoldable pub spelled : Nodes → List ℕ → Routes
spelled nodes plan = spelled_from nodes plan 0 []

-- these nodes are chained through child 0, from a first node on and ended by 0
abbrev pub Chain : Nodes → ℕ → List ℕ → Type 0
Chain nodes first [] = first ≡ 0
Chain nodes first (n ∷ ns) = (first ≡ n) × (n ≢ 0) × Chain nodes (nodes.child n 0) ns

-- The longest match within a node: how many of the next bits, fewer than `levels`, lead to the highest marked position among
-- i, i / 2, and so on to 1
abbrev pub deepest : ℕ → ℕ → ℕ → Option ℕ
deepest bitmap zero i = None
deepest bitmap (suc levels) i = cond (marked bitmap i) (Some levels) (deepest bitmap levels (i / 2))

-- what a walk has found so far, and how many nodes it has visited
pub record Walk : Type 0 where
  pub found : Option Route
  pub visits : ℕ

-- the route at a node's match, or else what was found before
abbrev pub noted : Nodes → ℕ → ℕ → Bits → Option ℕ → Option Route → Option Route
noted nodes n o address None found = found
noted nodes n o address (Some more) found =
    Some (route (take (o + more) address) (nodes.hop n (2 ^ more + read_group address o more)))

abbrev pub visited : Walk → Walk
visited w = record { found = w.found; visits = suc w.visits }

-- from a node on, o bits being used: the longest match in the node, then its child, until that is 0 or the strides are used up
abbrev pub walk_from : Nodes → List ℕ → Bits → ℕ → ℕ → Option Route → Walk
walk_from nodes [] address o n found = record { found = found; visits = 0 }
walk_from nodes (s ∷ ss) address o n found =
    let i = 2 ^ (s - 1) + read_group address o (s - 1) in
    let here = noted nodes n o address (deepest (nodes.bitmap n) s i) found in
    let c = nodes.child n (read_group address o s) in
    let below = walk_from nodes ss address (o + s) c here in
    visited (cond (c == 0) (record { found = here; visits = 0 }) below)

-- the walk of a lookup, from the root on
unfoldable pub walk : Nodes → List ℕ → Bits → Walk
walk nodes plan address = walk_from nodes plan address 0 0 None
