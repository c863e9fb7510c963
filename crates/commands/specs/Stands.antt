-- What a pair of engines stands for: the nodes of its memory, and its plain list; and that the two agree.
use Rattle.std.specs.Prelude.{ℕ, min}
use Rattle.address.specs.declared.Address.{Ghosts}
use Rattle.model.specs.Calls.{Plain}
use Rattle.nodes.specs.Fields.{most_nodes}
use Rattle.reference.specs.Shown.{shown}
use Rattle.buffer.specs.Held.{nodes_in}
use Rattle.buffer.specs.declared.Buffer.{Buffer}
use Rattle.pair.specs.Agree.{Agree}
use Rattle.pair.specs.declared.Pair.{Pair}

pub record Standing : Type 0 where
  pub nodes : ℕ
  pub plain : Plain

-- the nodes of a memory that is to have so many
abbrev pub memory_of : ℕ → ℕ
memory_of nodes = min nodes most_nodes

-- a type with ghost fields is named with what its bounds mean, whatever that is
module _ {X : Type 0} {G : Ghosts X} where
  abbrev pub stands : Pair X Buffer G → Standing
  stands p = record { nodes = p.list.nodes; plain = shown p.list }

  -- table and list stand for the same
  abbrev pub Agreed : ℕ → Pair X Buffer G → Type 0
  Agreed W p = Agree nodes_in W p
