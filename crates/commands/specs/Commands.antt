-- What a command leaves, by what the list of routes stood for. W is the width of the addresses.
use Rattle.std.specs.Prelude.{ℕ, List, vec_items}
use Rattle.bits.specs.Rows.{Bits}
use Rattle.model.specs.Outcomes.{Outcome, granted, refused}
use Rattle.model.specs.Calls.{Call, Answer, open_with, insert, delete, answer, after, shut}
use Rattle.commands.specs.Stands.{Standing, memory_of}
use Rattle.commands.specs.declared.command.Command.{Command}
use Rattle.commands.specs.declared.command.Command.TheVariants.{Kind, Open, Insert, Delete, Lookup, Exact, First, Next, Counts, List as ListAll, Nodes, Help}

-- what a call leaves, in the same memory
abbrev pub left_after : ℕ → Call → Standing → Standing
left_after W call s = record { nodes = s.nodes; plain = after W s.nodes s.plain call }

-- a shut list for a memory of so many nodes, once it is opened
abbrev pub newly_open : ℕ → ℕ → List ℕ → Standing
newly_open W nodes strides = left_after W (open_with strides) (record { nodes = memory_of nodes; plain = shut })

-- a new list where a call is granted, and else the one that was there
abbrev pub replaced : Outcome Answer → Standing → Standing → Standing
replaced (granted a) new s = new
replaced (refused number layer place) new s = s

-- opening puts a newly open list in the place of what was there, unless that is refused
abbrev pub opened_by : ℕ → ℕ → List ℕ → Standing → Standing
opened_by W nodes strides s = replaced (answer W (memory_of nodes) shut (open_with strides)) (newly_open W nodes strides) s

-- opening, insert and delete do what the plain list's calls do, and no other command changes anything
abbrev pub commanded : {X : Type 0} → ℕ → (X → Bits) → Command X → Standing → Standing
commanded W bits (Kind kind) s = s
commanded W bits (Open nodes strides) s = opened_by W nodes (vec_items strides) s
commanded W bits (Insert p hop) s = left_after W (insert (bits p.address) p.length hop) s
commanded W bits (Delete p) s = left_after W (delete (bits p.address) p.length) s
commanded W bits (Lookup address) s = s
commanded W bits (Exact p) s = s
commanded W bits First s = s
commanded W bits (Next p) s = s
commanded W bits Counts s = s
commanded W bits ListAll s = s
commanded W bits Nodes s = s
commanded W bits Help s = s
