-- The longest match, in the words of the field.
use Rattle.std.specs.Prelude.{◌≡◌, ℕ, ◌≤◌, true, false, List, length, Some, None}
use Rattle.bits.specs.Rows.{Bits}
use Rattle.bits.specs.Order.{begins}
use Rattle.model.specs.Plans.{plan_ok}
use Rattle.model.specs.Required.{path_count}
use Rattle.model.specs.Routes.{Route, Routes, Ascending, find, longest}

-- the route is one of the routes, it matches the address, and no route that matches is longer
pub record LongestMatch (rs : Routes) (address : Bits) (r : Route) : Type 0 where
  pub held : find rs r.prefix ≡ Some r.hop
  pub matches : begins r.prefix address ≡ true
  pub longest : (p : Bits) (h : ℕ) → find rs p ≡ Some h → begins p address ≡ true → length p ≤ length r.prefix

-- no route matches the address
abbrev pub NoMatch : Routes → Bits → Type 0
NoMatch rs address = (p : Bits) (h : ℕ) → find rs p ≡ Some h → begins p address ≡ false

-- a lookup answers the longest match, and none exactly where no route matches; its path has the root at least, and a node for each stride at most
pub record MatchLaws : Type 0 where
  pub found : (rs : Routes) (address : Bits) (r : Route) → Ascending rs → longest rs address ≡ Some r → LongestMatch rs address r
  pub none : (rs : Routes) (address : Bits) → Ascending rs → longest rs address ≡ None → NoMatch rs address
  pub none_alone : (rs : Routes) (address : Bits) → Ascending rs → NoMatch rs address → longest rs address ≡ None
  pub path_has_root : (plan : List ℕ) (rs : Routes) (address : Bits) → 1 ≤ path_count plan rs address
  pub path_within_plan :
      (plan : List ℕ) (rs : Routes) (address : Bits) → plan_ok (length address) plan ≡ true → path_count plan rs address ≤ length plan
