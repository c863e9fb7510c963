use Rattle.std.proofs.Common.{rules}
use Rattle.std.proofs.lemmas.Fn.{always_returns_same}
use Rattle.bits.specs.Order.{order}
use Rattle.routes.specs.Meant.{prefix_bits}
use Rattle.routes.proofs.Finds.{searched}
use Rattle.routes.proofs.set.RouteSet.place.Goals as goal

-- the closure compares a held route's prefix, and the slice is the set's routes
pub returns : goal.returns
returns g c =
    let facts = c.binary_search_by.ensures in
    let p = prefix_bits g.A.Address.bits c.args.prefix.prefix in
    let compared = facts.position (λ held. order (prefix_bits g.A.Address.bits held.prefix) p) (always_returns_same _ _ _ (λ a r h called. search rules)) in
    rw (← c.self.view_is, ← c.deref.ensures.value) (searched g.A.Address.bits _ (rw c.deref.ensures.value c.self.invariant.0) p _ facts.bound compared)
