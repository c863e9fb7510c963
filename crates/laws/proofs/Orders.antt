-- The order of prefixes, as it is proved of rows of bits.
use Rattle.std.proofs.Common.{◌≡◌, Ordering, Less, Equal, Greater, refl}
use Rattle.std.specs.Ordering.{ordering_then}
use Rattle.bits.proofs.Orders.{order_chains, order_equal, order_flips, order_self}
use Rattle.bits.proofs.Prefixes.{prefix_order}
use Rattle.laws.specs.Orders.{OrderLaws}

pub order_laws : OrderLaws
order_laws = record { self = order_self; equal_alone = order_equal; flips = order_flips; chains = order_chains; address_first = prefix_order }

-- where the first of two orders decides, the second does not matter
pub first_decides : (o s : Ordering) → (o ≡ Equal → ⊥) → o ≡ ordering_then o s
first_decides Less s h = refl
first_decides Equal s h = absurd (h refl)
first_decides Greater s h = refl
