-- The program `follow`: IPv4 with the plan 3, 6, 6, 6, 6, 6 and 180 nodes. Its input is a sheet and then blocks, each after its length in
-- 4 bytes. It writes the sheet that it ends with, under the number last used, or, for the first message that is refused, the number of
-- the refusal and in 4 bytes its place in the input.
use Rattle.std.specs.Prelude.{ℕ, zero, suc, ◌+◌, ◌-◌, cond, List, [], ◌∷◌, length, nat_le}
use Rattle.faults.specs.declared.Layer.TheVariants.{Table, Reader as ByReader}
use Rattle.faults.specs.Numbers.{cut_short, too_narrow}
use Rattle.model.specs.Bytes.{Bytes, big_endian, in_front}
use Rattle.model.specs.Calls.{Plain, shut, holding}
use Rattle.model.specs.Links.{join, follow_block}
use Rattle.model.specs.Outcomes.{Outcome, and_then, granted, refused, provided}
use Rattle.model.specs.Reading.{Reader, ◌>>=◌, give, bytes, here, number_in}
use Rattle.model.specs.Sheets.{sheet_bytes}

abbrev pub width : ℕ
width = 32

abbrev pub nodes : ℕ
nodes = 180

abbrev pub strides : List ℕ
strides = 3 ∷ 6 ∷ 6 ∷ 6 ∷ 6 ∷ 6 ∷ []

-- the most bytes that are read or written
abbrev pub limit : ℕ
limit = 65536

-- one message of the input, and where it starts
pub record Message : Type 0 where
  pub start : ℕ
  pub body : Bytes

unfoldable pub framed : Reader Message
framed = do
  size ← number_in 4
  start ← here
  body ← bytes size
  give (record { start = start; body = body })

module _ {A : Type 0} where
  -- a refusal's place in the input
  abbrev pub from_start : ℕ → Outcome A → Outcome A
  from_start start (granted a) = granted a
  from_start start (refused number layer place) = refused number layer (start + place)

abbrev pub final_sheet : ℕ → Plain → Bytes
final_sheet number shut = []
final_sheet number (holding plan routes) = sheet_bytes number plan routes

-- the blocks from a place in the input on, at most `most` of them; the number last used is the one before that which is due
abbrev pub follow_blocks : (most due : ℕ) → Plain → Bytes → ℕ → Outcome Bytes
follow_blocks zero due plain input at = granted (final_sheet (due - 1) plain)
follow_blocks (suc most) due plain input at =
    let more =
    and_then (framed input at) (λ got.
    and_then (from_start got.0.start (follow_block width nodes due plain got.0.body)) (λ done.
    follow_blocks most (suc due) done.left input got.1)) in
    cond (nat_le (length input) at) (granted (final_sheet (due - 1) plain)) more

-- the final sheet; each block has its length in 4 bytes before it, so the input has no more blocks than bytes
unfoldable pub follow_input : Bytes → Outcome Bytes
follow_input input =
    provided (nat_le (length input) limit) cut_short ByReader limit
    (and_then (framed input 0) (λ got.
    and_then (from_start got.0.start (join width nodes (holding strides []) got.0.body)) (λ joined.
    follow_blocks (length input) joined.due joined.left input got.1)))

-- what the program writes: the final sheet, or the refusal
abbrev pub told : Outcome Bytes → Bytes
told (granted sheet) = sheet
told (refused number layer place) = number ∷ big_endian 4 place

unfoldable pub follow_bytes : Bytes → Bytes
follow_bytes input = told (follow_input input)

-- The program as a call: it puts these bytes at the front of an output and answers how many they are; before all else it asks for an
-- output of so many bytes as it may ever write.
abbrev pub follow_call : Bytes → Bytes → Outcome (ℕ × Bytes)
follow_call output input =
    let bytes = follow_bytes input in
    provided (nat_le limit (length output)) too_narrow Table 0 (granted (length bytes, in_front bytes output))
