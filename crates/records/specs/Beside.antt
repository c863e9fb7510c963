-- What every call of a memory of records keeps beside the fields of its nodes, and that the memory meets the laws.
use Rattle.std.specs.Prelude.{◌≡◌, ℕ, ◌≤◌, List, length, min}
use Rattle.std.proofs.Common.{refl, ap, ◌∙◌}
use Rattle.std.proofs.Math.Nat.{min-le_right}
use Rattle.nodes.specs.Fields.{most_nodes}
use Rattle.nodes.specs.Laws.{Laws, Within}
use Rattle.records.specs.Held.{nodes_of, record_at}
use Rattle.records.specs.declared.Record.{Record}

-- the records behind the last node, where there are more than a memory has nodes
pub record Beside (xs ys : List Record) : Type 0 where
  pub long : length ys ≡ length xs
  pub behind : (k : ℕ) → most_nodes ≤ k → record_at ys k ≡ record_at xs k

within : (xs : List Record) → Within (nodes_of xs)
within xs = record {
  few = min-le_right (length xs) most_nodes;
  bitmap = λ n e. simp e refl;
  count = λ n e. simp e refl;
  child = λ n i e. simp e refl;
  hop = λ n i e. simp e refl;
}

-- for whatever has records: a reading leaves it, and every call leaves what is beside the nodes
pub laws_of : {S : Type 0} (records : S → List Record) → Laws (λ s. nodes_of (records s)) (λ a b. b ≡ a) (λ a b. Beside (records a) (records b))
laws_of records = record {
  within = λ x. within (records x);
  still_same = λ x. refl;
  still_then = λ x y z p q. q ∙ p;
  still_nodes = λ x y p. ap (λ s. nodes_of (records s)) p;
  still_always = λ x y p. record { long = ap (λ s. length (records s)) p; behind = λ k h. ap (λ s. record_at (records s) k) p };
  always_same = λ x. record { long = refl; behind = λ k h. refl };
  always_then = λ x y z p q. record { long = q.long ∙ p.long; behind = λ k h. q.behind k h ∙ p.behind k h };
  always_size = λ x y p. ap (λ n. min n most_nodes) p.long;
}
