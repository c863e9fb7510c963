-- What a list of records holds, as a memory of nodes.
use Rattle.std.specs.Prelude.{ℕ, ◌-◌, ◌&&◌, cond, List, [], length, min, nat_lt, nat_le, slice_index, slice_index_or}
use Rattle.model.specs.Nodes.{Nodes}
use Rattle.nodes.specs.Fields.{Node, most_nodes}
use Rattle.records.specs.declared.Record.{Record}

-- where there is no record
abbrev pub blank : Record
blank = record { bitmap = 0; count = 0; children = []; hops = [] }

-- the record of a node
abbrev pub record_at : List Record → ℕ → Record
record_at xs n = slice_index_or xs n blank

-- as many nodes as there are records, up to the most
abbrev pub size_of : List Record → ℕ
size_of xs = min (length xs) most_nodes

-- each field reads what its record has; the hop at a position stands one before it
abbrev pub nodes_of : List Record → Nodes
nodes_of xs = record {
  size = size_of xs;
  bitmap = λ n. cond (nat_lt n (size_of xs)) (record_at xs n).bitmap 0;
  count = λ n. cond (nat_lt n (size_of xs)) (record_at xs n).count 0;
  child = λ n i. cond (nat_lt n (size_of xs) && nat_lt i 64) (slice_index (record_at xs n).children i) 0;
  hop = λ n i. cond (nat_lt n (size_of xs) && (nat_le 1 i && nat_lt i 64)) (slice_index (record_at xs n).hops (i - 1)) 0;
}

-- the fields of one record
abbrev pub fields_of : Record → Node
fields_of r = record { bitmap = r.bitmap; count = r.count; child = λ i. slice_index r.children i; hop = λ i. slice_index r.hops (i - 1) }
