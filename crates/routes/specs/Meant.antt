-- The route of the definitions that a route of the code stands for.
use Rattle.address.specs.declared.Address.{Ghosts}
use Rattle.address.specs.declared.prefix.Prefix.{Prefix}
use Rattle.bits.specs.Rows.{Bits}
use Rattle.model.specs.Routes.{Route, route, prefix_of}
use Rattle.routes.specs.declared.Route.{Route as Entry}

module _ {X : Type 0} (bits : X → Bits) where
  -- the bits of a prefix
  abbrev pub prefix_bits : Prefix X → Bits
  prefix_bits p = prefix_of (bits p.address) p.length

  -- a type with ghost fields is named with what its bounds mean, whatever that is
  abbrev pub meant : {G : Ghosts X} → Entry X G → Route
  meant r = route (prefix_bits r.prefix) r.hop
