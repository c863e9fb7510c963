-- Bytes that are put into an output from a place on.
use Rattle.std.specs.Prelude.{ℕ, ◌+◌, ◌++◌, length, take, drop, nat_le}
use Rattle.faults.specs.declared.Layer.TheVariants.{Table}
use Rattle.faults.specs.Numbers.{too_narrow}
use Rattle.model.specs.Bytes.{Bytes}
use Rattle.model.specs.Outcomes.{Outcome, granted, provided}

-- the output with the bytes put in, and those before and behind them left
abbrev pub put_at : ℕ → Bytes → Bytes → Bytes
put_at place bytes output = take place output ++ (bytes ++ drop (place + length bytes) output)

-- where they fit: the place behind them, and the output then
abbrev pub put_in : ℕ → Bytes → Bytes → Outcome (ℕ × Bytes)
put_in place bytes output =
    provided (nat_le (place + length bytes) (length output)) too_narrow Table 0
    (granted (place + length bytes, put_at place bytes output))

-- a place that was answered, beside an output
abbrev pub beside : Bytes → ℕ → ℕ × Bytes
beside output place = (place, output)
