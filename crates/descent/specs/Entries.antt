-- What stands in a node, as the code finds it there: the hop at a position, or a child.
use Rattle.std.specs.Prelude.{◌≡◌, ℕ, ◌+◌, ◌-◌, ◌*◌, ◌^◌, ◌<◌, ◌≤◌, Bool, true, false, cond, List, [], ◌∷◌, ◌++◌, length, take, Some, None, Option, Ok, Err, Result, nat_lt}
use Rattle.std.specs.Option.{option_map}
use Rattle.bits.specs.Rows.{Bits, number}
use Rattle.faults.specs.declared.Fault.{Fault}
use Rattle.faults.specs.declared.Refusal.TheVariants.{Place}
use Rattle.faults.specs.Numbers.{of_memory}
use Rattle.model.specs.Nodes.{Nodes, entry, hop_at, in_order}
use Rattle.model.specs.Places.{position}
use Rattle.model.specs.Routes.{Route, Routes, above, smallest}
use Rattle.nodes.specs.Fields.{is_node}
use Rattle.walks.specs.Smallest.{child_behind, standing}
use Rattle.descent.specs.declared.ascending.Entry.{Entry}
use Rattle.descent.specs.declared.ascending.Entry.TheVariants.{Child, Hop}
use Rattle.descent.specs.declared.ascending.Node.{Node}
use Rattle.descent.specs.declared.ascending.Path.{Path}
use Rattle.descent.specs.declared.ascending.Way.{Way}

-- ---- nodes that are read

-- there are strides to come
abbrev pub leads : List ℕ → Bool
leads [] = false
leads (t ∷ ts) = true

-- a node of the memory with its bitmap, and whether there are strides to come below it
pub record Reads (nodes : Nodes) (below : List ℕ) (node : Node) : Type 0 where
  pub there : is_node nodes node.number ≡ true
  pub bitmap : node.bitmap ≡ nodes.bitmap node.number
  pub leads_on : node.leads_on ≡ leads below

-- a node is read where there is one
abbrev pub Read : Nodes → ℕ → ℕ → Bool → Result Node Fault → Type 0
Read nodes n s on (Ok node) =
    (is_node nodes n ≡ true) × (node ≡ record { number = n; bitmap = nodes.bitmap n; stride = s; leads_on = on })
Read nodes n s on (Err f) = (is_node nodes n ≡ false) × (f ≡ of_memory Place)

-- how a row of bits leads through a node
pub record LeadsBy (nodes : Nodes) (below : List ℕ) (n s : ℕ) (x : Bits) (way : Way) : Type 0 where
  pub reads : Reads nodes below way.node
  pub node : way.node.number ≡ n
  pub stride : way.node.stride ≡ s
  pub size : length x ≡ way.more
  pub spells : number x ≡ way.bits
  -- the child behind them, where they are all of the stride
  pub child : way.child ≡ cond (nat_lt (length x) s) 0 (nodes.child n (number x))

-- it is entered where there is one
abbrev pub Enters : Nodes → List ℕ → (n s : ℕ) → Bits → Result Way Fault → Type 0
Enters nodes below n s x (Ok way) = LeadsBy nodes below n s x way
Enters nodes below n s x (Err f) = (is_node nodes n ≡ false) × (f ≡ of_memory Place)

-- ---- rows of a node

-- a number is that of a row so many levels above the children of a node with s bits
pub record IsRow (s levels row : ℕ) : Type 0 where
  pub few : s ≤ 6
  pub within : levels ≤ s
  pub low : 2 ^ (s - levels) ≤ row
  pub high : row < 2 * 2 ^ (s - levels)

-- the position of bits of a node
abbrev pub IsPosition : ℕ → Bits → Type 0
IsPosition i bs = i ≡ position bs

-- the number of a row is the position of its bits, or would be if they were not as many as those of the stride
pub record RowAt (s levels row : ℕ) (bs : Bits) : Type 0 where
  pub size : length bs + levels ≡ s
  pub is : IsPosition row bs

-- ---- what stands there

-- what stands in a node at a row and behind it, so many levels deep
abbrev pub from_row : Nodes → List ℕ → ℕ → ℕ → Bits → Routes
from_row nodes below n levels bs = in_order (λ cs. entry cs (hop_at nodes n (position cs))) (child_behind nodes below n) levels bs

-- behind fewer bits than the stride stands the hop of a position, behind all of them a child
abbrev pub entry_of : ℕ → Route → Entry
entry_of s r = cond (nat_lt (length r.prefix) s) (Hop (position r.prefix) r.hop) (Child (number r.prefix) r.hop)

-- ---- what the code finds

-- the entry of a route that was found
abbrev pub Finds : ℕ → Option Route → Result (Option Entry) Fault → Type 0
Finds s found result = result ≡ Ok (option_map (entry_of s) found)

module _ (nodes : Nodes) (node : Node) where
  -- the child behind a row
  abbrev pub Behind : (row : ℕ) → Result (Option Entry) Fault → Type 0
  Behind row result =
      (below : List ℕ) (bs : Bits) → Reads nodes below node → RowAt node.stride 0 row bs
      → Finds node.stride (smallest (child_behind nodes below node.number bs)) result

  -- the first at a row or behind it
  abbrev pub First : (levels row : ℕ) → Result (Option Entry) Fault → Type 0
  First levels row result =
      (below : List ℕ) (bs : Bits) → Reads nodes below node → RowAt node.stride levels row bs
      → Finds node.stride (smallest (from_row nodes below node.number levels bs)) result

  -- the first behind a row that is above one that goes on from it by so many bits of this number
  abbrev pub Next : (levels row v more : ℕ) → Result (Option Entry) Fault → Type 0
  Next levels row v more result =
      (below : List ℕ) (bs cs : Bits) → Reads nodes below node → RowAt node.stride levels row bs → length cs ≡ more → number cs ≡ v
      → Finds node.stride (above (from_row nodes below node.number levels bs) (bs ++ cs)) result

-- the first in a node, where there is one
abbrev pub FirstIn : Nodes → List ℕ → (n s : ℕ) → Result (Option Entry) Fault → Type 0
FirstIn nodes below n s (Ok found) =
    (is_node nodes n ≡ true) × (found ≡ option_map (entry_of s) (smallest (standing nodes below n s)))
FirstIn nodes below n s (Err f) = (is_node nodes n ≡ false) × (f ≡ of_memory Place)

-- no hop is held at position 0
abbrev pub IsEntry : Option Entry → Type 0
IsEntry None = Unit {0}
IsEntry (Some (Hop i h)) = 0 < i
IsEntry (Some (Child i n)) = Unit {0}

-- the bits that lead to a node
abbrev pub path_bits : {X : Type 0} (bits : X → Bits) → Path X → Bits
path_bits bits p = take p.length (bits p.address)
