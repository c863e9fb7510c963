-- The tests of a prefix and of a route, in ascending order of the refusals' numbers.
use Rattle.std.specs.Prelude.{ℕ, cond, Ok, Err, Result, nat_le}
use Rattle.bits.specs.Rows.{Bits}
use Rattle.faults.specs.declared.Fault.{Fault}
use Rattle.faults.specs.declared.Refusal.TheVariants.{Length, Stray, Hop}
use Rattle.faults.specs.Numbers.{of_table}
use Rattle.model.specs.Routes.{sound, last_hop}

-- the length is within the width, and no bit is set behind it
abbrev pub prefix_admitted : ℕ → Bits → ℕ → Result (Unit {0}) Fault
prefix_admitted W address len =
    cond (nat_le len W) (cond (sound address len) (Ok tt) (Err (of_table Stray))) (Err (of_table Length))

-- the same, and the hop is in range
abbrev pub route_admitted : ℕ → Bits → ℕ → ℕ → Result (Unit {0}) Fault
route_admitted W address len hop =
    cond (nat_le len W)
    (cond (sound address len) (cond (nat_le hop last_hop) (Ok tt) (Err (of_table Hop))) (Err (of_table Stray)))
    (Err (of_table Length))
