-- Nodes whose fields are set to 0, one after the other.
use Rattle.std.specs.Prelude.{ℕ, suc, ◌&&◌, cond, ◌==◌, nat_lt}
use Rattle.model.specs.Nodes.{Nodes}

module _ (m : Nodes) where
  -- children 0 to i - 1 of a node are none
  abbrev pub without_children : ℕ → ℕ → Nodes
  without_children n i =
      record { size = m.size; bitmap = m.bitmap; count = m.count; child = λ k j. cond (k == n && nat_lt j i) 0 (m.child k j); hop = m.hop }

  -- no hop stands at positions below i of a node
  abbrev pub without_hops : ℕ → ℕ → Nodes
  without_hops n i =
      record { size = m.size; bitmap = m.bitmap; count = m.count; child = m.child; hop = λ k j. cond (k == n && nat_lt j i) 0 (m.hop k j) }

  -- all fields of a node are 0, but that its child 0 is a link
  abbrev pub cleared : ℕ → ℕ → Nodes
  cleared n link =
      record {
        size = m.size;
        bitmap = λ k. cond (k == n) 0 (m.bitmap k);
        count = λ k. cond (k == n) 0 (m.count k);
        child = λ k j. cond (k == n && nat_lt j 64) (cond (j == 0) link 0) (m.child k j);
        hop = λ k j. cond (k == n && nat_lt j 64) 0 (m.hop k j);
      }

  -- the link of a node of a newly opened table: nodes 1 to N - 1 are chained in ascending order
  abbrev pub first_link : ℕ → ℕ
  first_link n = cond (nat_lt 0 n && nat_lt (suc n) m.size) (suc n) 0

  -- the nodes below n are as opening leaves them
  abbrev pub opened_below : ℕ → Nodes
  opened_below n =
      record {
        size = m.size;
        bitmap = λ k. cond (nat_lt k n) 0 (m.bitmap k);
        count = λ k. cond (nat_lt k n) 0 (m.count k);
        child = λ k j. cond (nat_lt k n && nat_lt j 64) (cond (j == 0) (first_link k) 0) (m.child k j);
        hop = λ k j. cond (nat_lt k n && nat_lt j 64) 0 (m.hop k j);
      }
