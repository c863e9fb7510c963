-- Where a prefix is in a list of routes, or where it would be; and the last route that matches an address.
use Rattle.std.specs.Prelude.{◌≡◌, ℕ, ◌+◌, ◌<◌, ◌≤◌, true, false, List, length, drop, Some, None, slice_index_or, slice_set}
use Rattle.std.specs.List.{insert, remove, AllWithin}
use Rattle.address.specs.declared.Address.{Ghosts}
use Rattle.bits.specs.Rows.{Bits}
use Rattle.bits.specs.Order.{begins}
use Rattle.model.specs.Routes.{Route, Routes, route, find, put, without, smallest, above}
use Rattle.routes.specs.declared.Route.{Route as Entry}
use Rattle.routes.specs.Meant.{prefix_bits}

module _ (rs : Routes) (p : Bits) where
  -- the route at i has the prefix
  pub record Hit (i : ℕ) : Type 0 where
    pub within : i < length rs
    pub finds : (d : Route) → find rs p ≡ Some (slice_index_or rs i d).hop
    pub puts : (h : ℕ) → put rs p h ≡ slice_set rs i (route p h)
    pub takes : without rs p ≡ remove rs i
    pub follows : above rs p ≡ smallest (drop (i + 1) rs)

  -- no route has it, and it belongs before the one at i
  pub record Miss (i : ℕ) : Type 0 where
    pub within : i ≤ length rs
    pub finds : find rs p ≡ None
    pub puts : (h : ℕ) → put rs p h ≡ insert rs i (route p h)
    pub follows : above rs p ≡ smallest (drop i rs)

module _ {X : Type 0} {G : Ghosts X} (bits : X → Bits) (xs : List (Entry X G)) (address : Bits) where
  -- the route is at some index, it matches the address, and none behind it does
  abbrev pub LastMatch : Entry X G → Type 0
  LastMatch r =
      (i : ℕ) × (i < length xs) × (r ≡ slice_index_or xs i r) × (begins (prefix_bits bits r.prefix) address ≡ true)
      × AllWithin (λ q. begins (prefix_bits bits q.prefix) address ≡ false) xs (i + 1) (length xs)
