-- Dice: a state of 64 bits that each roll multiplies and adds to, and the number that its high bits show.
use Rattle.std.specs.Prelude.{ℕ, ◌+◌, ◌*◌, ◌/◌, ◌%◌, ◌^◌, ◌==◌, if◌then◌else◌}

-- the state after a roll
abbrev pub next_state : ℕ → ℕ
next_state s = (s * 6364136223846793005 % 2 ^ 64 + 1442695040888963407) % 2 ^ 64

-- what dice of so many sides show in a state
abbrev pub rolled : ℕ → ℕ → ℕ
rolled sides s = if sides == 0 then 0 else s / 2 ^ 33 % sides
