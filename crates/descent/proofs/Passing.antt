-- The nodes on a way by child indexes: those passed, and those still to come.
use Rattle.std.proofs.Common.{◌≡◌, ℕ, suc, ◌^◌, ◌<◌, ◌≤◌, Bool, true, false, ◌&&◌, eqb, ltb, List, [], ◌∷◌, ◌++◌, length, get_or, take, drop, Some, None, Option, Ok, Err, Result, ◌⊎◌, inl, inr, refl, sym, ap, ◌∙◌, subst, length-take-le, lt-ltb, ltb-false, arith}
use Rattle.std.proofs.Math.Nat.{pow-le-pow_right}
use Rattle.bits.specs.Rows.{Bits, number}
use Rattle.bits.proofs.Orders.{holds, fails, decided, number_lt}
use Rattle.laws.proofs.Plans.{ranged}
use Rattle.faults.specs.declared.Fault.{Fault}
use Rattle.model.specs.Nodes.{Nodes, descend, hop_in_node}
use Rattle.model.specs.Places.{indexes}
use Rattle.model.specs.Plans.{in_range}
use Rattle.nodes.specs.Fields.{is_node}
use Rattle.walks.specs.Trails.{are_nodes, passed}
use Rattle.descent.specs.Passing.{HasHop, HopThere, end_there, readable}

pub record Passing (nodes : Nodes) (way : List ℕ) (i node : ℕ) (through : List ℕ) : Type 0 where
  pub above : List ℕ
  pub reads : readable nodes 0 way ≡ readable nodes node (drop i way)
  pub passes : passed nodes 0 way ≡ above ++ passed nodes node (drop i way)
  pub is : through ≡ above ++ (node ∷ [])
  pub each : length above ≡ i

-- ---- where a way ends

-- a way that goes on to its end passes one node more than it has indexes, and the last is the node that it leads to
pub record Reaches (nodes : Nodes) (n : ℕ) (way : List ℕ) (m : ℕ) : Type 0 where
  pub leads : descend nodes n way ≡ Some m
  pub longer : length (passed nodes n way) ≡ suc (length way)
  pub last : (d : ℕ) → get_or (passed nodes n way) (length way) d ≡ m

pub record Breaks (nodes : Nodes) (n : ℕ) (way : List ℕ) : Type 0 where
  pub leads : descend nodes n way ≡ None
  pub shorter : length (passed nodes n way) ≤ length way

pub reaches_or_breaks : (nodes : Nodes) (n : ℕ) (way : List ℕ) → ((m : ℕ) × Reaches nodes n way m) ⊎ Breaks nodes n way
reaches_or_breaks nodes n [] = inl (n, record { leads = refl; longer = refl; last = λ d. refl })
reaches_or_breaks nodes n (i ∷ is) =
    let c = nodes.child n i in
    elim (decided (eqb c 0)) [
      | holds e ↦ inr (record { leads = simp e; shorter = simp e (omega arith) })
      | fails e ↦ elim (reaches_or_breaks nodes c is) [
        | inl r ↦ inl (r.0, record { leads = simp e r.1.leads; longer = simp e (ap suc r.1.longer); last = λ d. simp e (r.1.last d) })
        | inr b ↦ inr (record { leads = simp e b.leads; shorter = simp e (let s = b.shorter in omega arith) })
      ]
    ]

-- ---- the way of a prefix

-- every index is that of a child
abbrev pub Low : List ℕ → Type 0
Low [] = Unit {0}
Low (i ∷ is) = (i < 64) × Low is

pub low_indexes : (plan : List ℕ) (p : Bits) → in_range plan ≡ true → Low (indexes plan p)
low_indexes [] p range = tt
low_indexes (s ∷ ss) p range =
    let r = ranged s ss range in
    elim (decided (ltb (length p) s)) [
      | holds e ↦ simp e tt
      | fails e ↦
          (let size = length-take-le s p (ltb-false (length p) s e) in
          let small : number (take s p) < 2 ^ s = subst (λ k. number (take s p) < 2 ^ k) size (number_lt (take s p)) in
          let six = pow-le-pow_right {n = 2} (omega arith) {i = s} {j = 6} r.high in
          simp e (omega arith, low_indexes ss (drop s p) r.rest))
    ]

-- the nodes passed are all there where each child can be read, and the end of the way
pub all_readable : (nodes : Nodes) (n : ℕ) (way : List ℕ) → Low way
    → are_nodes nodes (passed nodes n way) ≡ (readable nodes n way && end_there nodes (descend nodes n way))
all_readable nodes n [] low = by (is_node nodes n)
  where
    by : (t : Bool) → (t && true) ≡ (true && t)
    by true = refl
    by false = refl
all_readable nodes n (i ∷ is) low =
    let c = nodes.child n i in
    let rest = all_readable nodes c is low.1 in
    elim (decided (is_node nodes n)) [
      | holds t ↦ elim (decided (eqb c 0)) [ holds e ↦ simp (t, e, lt-ltb i 64 low.0) | fails e ↦ simp (t, e, lt-ltb i 64 low.0) rest ]
      | fails t ↦ simp t
    ]

-- ---- the hop at the end of a way

-- where the nodes passed are more than the indexes, the last of them is the way's end
pub hop_there : (nodes : Nodes) (way : List ℕ) (i last : ℕ) (r : Result (Option ℕ) Fault) → length way < length (passed nodes 0 way)
    → last ≡ get_or (passed nodes 0 way) (length way) last → HasHop nodes last i r → HopThere nodes way i r
hop_there nodes way i last r more is has = elim (reaches_or_breaks nodes 0 way) [
  | inl x ↦
      by r (x.1.leads ∙ ap Some (sym (is ∙ x.1.last last))) has
  | inr b ↦ absurd (let s = b.shorter in omega arith)
]
  where
    by : (r : Result (Option ℕ) Fault) → descend nodes 0 way ≡ Some last → HasHop nodes last i r → HopThere nodes way i r
    by (Ok hop) e h = (ap (end_there nodes) e ∙ h.0, h.1 ∙ sym (ap (λ o. hop_in_node nodes o i) e))
    by (Err f) e h = (ap (end_there nodes) e ∙ h.0, h.1)

-- else it leads to no node
pub no_hop_there : (nodes : Nodes) (way : List ℕ) (i : ℕ) → length (passed nodes 0 way) ≤ length way → HopThere nodes way i (Ok None)
no_hop_there nodes way i few = elim (reaches_or_breaks nodes 0 way) [
  | inl x ↦ absurd (let l = x.1.longer in omega arith)
  | inr b ↦ (ap (end_there nodes) b.leads, sym (ap (λ o. hop_in_node nodes o i) b.leads))
]
