-- Routes by the numbers of their addresses: which match, which are above a prefix, and which of them is asked for.
use Rattle.std.specs.List.{list_all}
use Rattle.std.specs.Option.{option_map}
use Rattle.std.specs.Prelude.{◌≡◌, ◌≤◌, false, filter, find, All, Contains, ⊤, sum, length, ◌+◌, if◌then◌else◌, ℕ, ◌-◌, ◌*◌, ◌/◌, ◌^◌, Bool, true, ◌&&◌, ◌||◌, ◌==◌, nat_lt, nat_le, List, Option, Some, None, Result, Ok, Err}
use Rattle.faults.specs.declared.Fault.{Fault}
use Rattle.faults.specs.declared.Refusal.TheVariants.{Length, Stray}
use Rattle.faults.specs.Numbers.{of_table}
use Rattle.trials.specs.declared.lines.Network.{Network}
use Rattle.trials.specs.declared.lines.Line.{Line}

-- the first l of the w bits of v, zeros behind them
abbrev pub front : ℕ → ℕ → ℕ → ℕ
front w l v = v / 2 ^ (w - l) * 2 ^ (w - l)

-- the bits of a network begin the w bits of v
abbrev pub begins : ℕ → Network → ℕ → Bool
begins w n v = front w n.length v == n.value

-- the route is that of a network
abbrev pub names : Network → Line → Bool
names n l = l.network.value == n.value && l.network.length == n.length

-- a network is taken where its length is within the width and no bit is set behind the length
abbrev pub admitted : ℕ → Network → Result ⊤ Fault
admitted w n = if nat_lt w n.length then Err (of_table Length) else if begins w n n.value then Ok tt else Err (of_table Stray)

-- by the number of the address, then shorter first
abbrev pub is_before : Network → Network → Bool
is_before m n = nat_lt m.value n.value || (m.value == n.value && nat_lt m.length n.length)

-- a route is above a network, or there is none to be above
abbrev pub is_above : Option Network → Line → Bool
is_above None l = true
is_above (Some n) l = is_before n l.network

-- the hop of a network in some routes, or none
abbrev pub hop_of : Network → List Line → Option ℕ
hop_of n ls = option_map (λ l. l.hop) (find (names n) ls)

-- of some routes, those that match the number v of an address of w bits
abbrev pub matching : ℕ → ℕ → List Line → List Line
matching w v ls = filter (λ l. begins w l.network v) ls

-- no other of the routes is longer
abbrev pub IsLongest : List Line → Line → Type 0
IsLongest ls m = Contains ls m × All (λ l. l.network.length ≤ m.network.length) ls

-- no other of the routes is before it
abbrev pub IsSmallest : List Line → Line → Type 0
IsSmallest ls m = Contains ls m × All (λ l. is_before l.network m.network ≡ false) ls

-- a stride is 1 to 6
abbrev pub is_stride : ℕ → Bool
is_stride s = nat_le 1 s && nat_le s 6

-- 1 to 32 strides, each 1 to 6, of the sum w + 1
abbrev pub is_plan : ℕ → List ℕ → Bool
is_plan w ss = nat_le 1 (length ss) && nat_le (length ss) 32 && list_all is_stride ss && sum ss == w + 1
