-- Prefixes and routes. A prefix is a row of at most W bits; a set of routes, at most one hop to a prefix, is the ascending list of them.
use Rattle.std.specs.Prelude.{◌≡◌, ℕ, Bool, cond, List, [], ◌∷◌, length, take, drop, Some, None, Option, nat_le}
use Rattle.std.specs.declared.cmp.Ordering.TheVariants.{Less}
use Rattle.bits.specs.Rows.{Bits, clear}
use Rattle.bits.specs.Order.{order, begins, before, same}

-- an address and a length stand for the first bits of the address
abbrev pub prefix_of : Bits → ℕ → Bits
prefix_of address len = take len address

-- they are sound where all bits of the address behind the length are 0; then the prefix says all of it
abbrev pub sound : Bits → ℕ → Bool
sound address len = clear (drop len address)

-- the largest hop
abbrev pub last_hop : ℕ
last_hop = 4095

-- a prefix matches the addresses that it begins, and a route names the hop for them
pub record Route : Type 0 where
  pub prefix : Bits
  pub hop : ℕ

abbrev pub route : Bits → ℕ → Route
route p h = record { prefix = p; hop = h }

abbrev pub Routes : Type 0
Routes = List Route

-- the prefix stands before the first route, if there is one
abbrev pub Above : Bits → Routes → Type 0
Above p [] = Unit {0}
Above p (r ∷ rs) = order p r.prefix ≡ Less

-- each prefix stands before the next
abbrev pub Ascending : Routes → Type 0
Ascending [] = Unit {0}
Ascending (r ∷ rs) = Above r.prefix rs × Ascending rs

-- the hop of a prefix
abbrev pub find : Routes → Bits → Option ℕ
find [] p = None
find (r ∷ rs) p = cond (same p r.prefix) (Some r.hop) (find rs p)

-- with a route put in, or its hop replaced
abbrev pub put : Routes → Bits → ℕ → Routes
put [] p h = route p h ∷ []
put (r ∷ rs) p h =
    cond (before p r.prefix) (route p h ∷ r ∷ rs)
    (cond (same p r.prefix) (route p h ∷ rs) (r ∷ put rs p h))

-- without the route of a prefix
abbrev pub without : Routes → Bits → Routes
without [] p = []
without (r ∷ rs) p = cond (same p r.prefix) (without rs p) (r ∷ without rs p)

-- of a route and perhaps another, the one with the longer prefix
abbrev pub longer : Route → Option Route → Option Route
longer r None = Some r
longer r (Some q) = cond (nat_le (length r.prefix) (length q.prefix)) (Some q) (Some r)

-- the route with the longest prefix that begins an address
abbrev pub longest : Routes → Bits → Option Route
longest [] address = None
longest (r ∷ rs) address = cond (begins r.prefix address) (longer r (longest rs address)) (longest rs address)

-- the smallest route
abbrev pub smallest : Routes → Option Route
smallest [] = None
smallest (r ∷ rs) = Some r

-- the smallest route above a prefix
abbrev pub above : Routes → Bits → Option Route
above [] p = None
above (r ∷ rs) p = cond (before p r.prefix) (Some r) (above rs p)
