-- Two rows of bits are ordered as equal exactly where they are the same.
use Rattle.std.proofs.Common.{◌≡◌, refl}
use Rattle.std.specs.declared.cmp.Ordering.TheVariants.{Equal}
use Rattle.bits.specs.Rows.{Bits}
use Rattle.bits.specs.Order.{order}
use Rattle.bits.proofs.Orders.{order_equal, order_self}

pub ordered_equal : (p q : Bits) → (order p q ≡ Equal → p ≡ q) × (p ≡ q → order p q ≡ Equal)
ordered_equal p q = (order_equal p q, λ e. rw e (order_self q))
