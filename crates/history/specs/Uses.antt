-- What is said of a table by name: which of its nodes are in use and which are free, what a lookup tells, and when an insert is refused as full.
use Rattle.std.specs.Prelude.{◌≡◌, ◌≢◌, ℕ, ◌<◌, ◌≤◌, true, false, cond, List, [], ◌∷◌, length, Some, None, Option, nat_le, MatchOption, ◌↔◌}
use Rattle.bits.specs.Rows.{Bits}
use Rattle.faults.specs.declared.Layer.TheVariants.{Table as ByTable}
use Rattle.faults.specs.Numbers.{full}
use Rattle.laws.specs.Matches.{LongestMatch, NoMatch}
use Rattle.model.specs.Calls.{Answer, Call, Plain, after, holding, insert, lookup, matched, shut}
use Rattle.model.specs.Nodes.{Chain, Nodes, reached}
use Rattle.model.specs.Outcomes.{Outcome, granted, refused}
use Rattle.model.specs.Placements.{listed}
use Rattle.model.specs.Required.{member, path_count, required, required_paths}
use Rattle.model.specs.Routes.{Route, Routes, last_hop, prefix_of, put, sound}

-- Exactly the required nodes are in use, the root and every child of a node in use, each reached by its path's bits; and exactly the others are
-- free, which are those on the chain.
pub record ExactlyRequired (nodes : Nodes) (plan : List ℕ) (routes : Routes) (front : ℕ) : Type 0 where
  -- the node of each required path; no other path leads to a node
  pub node : Bits → ℕ
  pub in_use : (path : Bits) → reached nodes plan path ≡ cond (member path (required_paths plan routes)) (Some (node path)) None
  pub each_its_own : (p q : Bits) → member p (required_paths plan routes) ≡ true → member q (required_paths plan routes) ≡ true → node p ≡ node q → p ≡ q
  -- the chain from its front on; none of it is in use, and every node is on it or in use
  pub free : List ℕ
  pub chained : Chain nodes front free
  pub none_in_use : (n : ℕ) (path : Bits) → listed n free ≡ true → reached nodes plan path ≢ Some n
  pub none_lost : (n : ℕ) → n < nodes.size → listed n free ≡ false → (path : Bits) × (reached nodes plan path ≡ Some n)

-- while a table is shut nothing is said of its nodes
abbrev pub Uses : Nodes → ℕ → Plain → Type 0
Uses nodes front shut = Unit {0}
Uses nodes front (holding plan routes) = ExactlyRequired nodes plan routes front

-- A lookup tells the longest matching route, or none where no route matches; it counts exactly the nodes on the address's path, and no more than
-- the plan has strides.
pub record LookedUp (plan : List ℕ) (routes : Routes) (address : Bits) (answered : Outcome Answer) : Type 0 where
  pub found : Option Route
  pub visits : ℕ
  pub is : answered ≡ granted (matched found visits)
  pub longest : MatchOption found (NoMatch routes address) (LongestMatch routes address)
  pub exact : visits ≡ path_count plan routes address
  pub within : visits ≤ length plan

-- An insert that nothing else refuses is refused as full exactly when the routes that it would leave require more nodes than there are.
abbrev pub FullAlone : ℕ → ℕ → List ℕ → Routes → Bits → ℕ → ℕ → Outcome Answer → Type 0
FullAlone W N plan routes address len hop answered =
    nat_le len W ≡ true → sound address len ≡ true → nat_le hop last_hop ≡ true
    → (answered ≡ refused full ByTable 0) ↔ (N < required plan (put routes (prefix_of address len) hop))

-- what is told of one call on an open list
abbrev pub Told : ℕ → ℕ → Plain → Call → Outcome Answer → Type 0
Told W N (holding plan routes) (lookup address) answered = LookedUp plan routes address answered
Told W N (holding plan routes) (insert address len hop) answered = FullAlone W N plan routes address len hop answered
Told W N plain call answered = Unit {0}

-- and of each of a list of calls
abbrev pub AllTold : ℕ → ℕ → Plain → List Call → List (Outcome Answer) → Type 0
AllTold W N plain [] answered = Unit {0}
AllTold W N plain (c ∷ cs) [] = ⊥
AllTold W N plain (c ∷ cs) (a ∷ more) = Told W N plain c a × AllTold W N (after W N plain c) cs more
