-- What the calls of a node memory answer and leave, by what the memory holds: one field is read or set, or the call is refused.
use Rattle.std.specs.Prelude.{ℕ, ◌%◌, Bool, ◌&&◌, cond, Ok, Err, Result, ◌==◌, nat_lt, nat_le}
use Rattle.faults.specs.declared.Fault.{Fault}
use Rattle.faults.specs.declared.Refusal.TheVariants.{Place, Value}
use Rattle.faults.specs.Numbers.{of_memory}
use Rattle.model.specs.Nodes.{Nodes}
use Rattle.model.specs.Routes.{last_hop}

-- a memory has at most so many nodes
abbrev pub most_nodes : ℕ
most_nodes = 262144

-- ---- which places there are

module _ (m : Nodes) where
  -- a node is one of those that the memory has
  abbrev pub is_node : ℕ → Bool
  is_node n = nat_lt n m.size

  -- its children are 0 to 63, its hops are at positions 1 to 63
  abbrev pub is_child : ℕ → ℕ → Bool
  is_child n i = is_node n && nat_lt i 64

  abbrev pub is_hop : ℕ → ℕ → Bool
  is_hop n i = is_node n && (nat_le 1 i && nat_lt i 64)

-- ---- readings

-- what is held there, or a refusal as place
abbrev pub read : Bool → ℕ → Result ℕ Fault
read there held = cond there (Ok held) (Err (of_memory Place))

module _ (m : Nodes) where
  abbrev pub read_bitmap : ℕ → Result ℕ Fault
  read_bitmap n = read (is_node m n) (m.bitmap n)

  abbrev pub read_count : ℕ → Result ℕ Fault
  read_count n = read (is_node m n) (m.count n)

  abbrev pub read_child : ℕ → ℕ → Result ℕ Fault
  read_child n i = read (is_child m n i) (m.child n i)

  abbrev pub read_hop : ℕ → ℕ → Result ℕ Fault
  read_hop n i = read (is_hop m n i) (m.hop n i)

-- ---- which values are taken

-- no mark at position 0
abbrev pub fits_bitmap : ℕ → Bool
fits_bitmap v = v % 2 == 0

abbrev pub fits_count : ℕ → Bool
fits_count v = nat_le v 64

-- a node, or 0 for none
abbrev pub fits_child : Nodes → ℕ → Bool
fits_child m v = nat_lt v m.size

abbrev pub fits_hop : ℕ → Bool
fits_hop v = nat_le v last_hop

-- ---- writes

-- a write is refused as place, then as value, or done
abbrev pub write : Bool → Bool → Result (Unit {0}) Fault
write there fits = cond there (cond fits (Ok tt) (Err (of_memory Value))) (Err (of_memory Place))

module _ (m : Nodes) where
  abbrev pub write_bitmap : ℕ → ℕ → Result (Unit {0}) Fault
  write_bitmap n v = write (is_node m n) (fits_bitmap v)

  abbrev pub write_count : ℕ → ℕ → Result (Unit {0}) Fault
  write_count n v = write (is_node m n) (fits_count v)

  abbrev pub write_child : ℕ → ℕ → ℕ → Result (Unit {0}) Fault
  write_child n i v = write (is_child m n i) (fits_child m v)

  abbrev pub write_hop : ℕ → ℕ → ℕ → Result (Unit {0}) Fault
  write_hop n i v = write (is_hop m n i) (fits_hop v)

-- with another value at one node, or at one place of one node
abbrev pub changed : (ℕ → ℕ) → ℕ → ℕ → ℕ → ℕ
changed f n v k = cond (k == n) v (f k)

abbrev pub changed_at : (ℕ → ℕ → ℕ) → ℕ → ℕ → ℕ → ℕ → ℕ → ℕ
changed_at f n i v k j = cond (k == n && j == i) v (f k j)

-- what a write that is done leaves: that field, and all others as they were
module _ (m : Nodes) where
  abbrev pub with_bitmap : ℕ → ℕ → Nodes
  with_bitmap n v = record { size = m.size; bitmap = changed m.bitmap n v; count = m.count; child = m.child; hop = m.hop }

  abbrev pub with_count : ℕ → ℕ → Nodes
  with_count n v = record { size = m.size; bitmap = m.bitmap; count = changed m.count n v; child = m.child; hop = m.hop }

  abbrev pub with_child : ℕ → ℕ → ℕ → Nodes
  with_child n i v = record { size = m.size; bitmap = m.bitmap; count = m.count; child = changed_at m.child n i v; hop = m.hop }

  abbrev pub with_hop : ℕ → ℕ → ℕ → Nodes
  with_hop n i v = record { size = m.size; bitmap = m.bitmap; count = m.count; child = m.child; hop = changed_at m.hop n i v }

-- what a write leaves: where it is refused, everything as it was
module _ (m : Nodes) where
  abbrev pub after_bitmap : ℕ → ℕ → Nodes
  after_bitmap n v = cond (is_node m n && fits_bitmap v) (with_bitmap m n v) m

  abbrev pub after_count : ℕ → ℕ → Nodes
  after_count n v = cond (is_node m n && fits_count v) (with_count m n v) m

  abbrev pub after_child : ℕ → ℕ → ℕ → Nodes
  after_child n i v = cond (is_child m n i && fits_child m v) (with_child m n i v) m

  abbrev pub after_hop : ℕ → ℕ → ℕ → Nodes
  after_hop n i v = cond (is_hop m n i && fits_hop v) (with_hop m n i v) m

-- ---- a memory of equal nodes

-- the fields of one node
pub record Node : Type 0 where
  pub bitmap : ℕ
  pub count : ℕ
  pub child : ℕ → ℕ
  pub hop : ℕ → ℕ

-- so many nodes, each of which reads the same
abbrev pub filled : ℕ → Node → Nodes
filled size x = record {
  size = size;
  bitmap = λ n. cond (nat_lt n size) x.bitmap 0;
  count = λ n. cond (nat_lt n size) x.count 0;
  child = λ n i. cond (nat_lt n size && nat_lt i 64) (x.child i) 0;
  hop = λ n i. cond (nat_lt n size && (nat_le 1 i && nat_lt i 64)) (x.hop i) 0;
}
