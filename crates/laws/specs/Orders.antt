-- The order of prefixes.
use Rattle.std.specs.Prelude.{◌≡◌, ℕ, length, take}
use Rattle.std.specs.declared.cmp.Ordering.TheVariants.{Less, Equal}
use Rattle.bits.specs.Rows.{Bits}
use Rattle.bits.specs.Order.{order, flipped, by_address, Sound}

-- The order is strict and total, and tells every two prefixes apart; by address, then shorter first is the order of their rows of bits.
pub record OrderLaws : Type 0 where
  pub self : (p : Bits) → order p p ≡ Equal
  pub equal_alone : (p q : Bits) → order p q ≡ Equal → p ≡ q
  pub flips : (p q : Bits) → order q p ≡ flipped (order p q)
  pub chains : (p q r : Bits) → order p q ≡ Less → order q r ≡ Less → order p r ≡ Less
  pub address_first :
      (a b : Bits) (l m : ℕ) → length a ≡ length b → Sound a l → Sound b m → by_address a l b m ≡ order (take l a) (take m b)
