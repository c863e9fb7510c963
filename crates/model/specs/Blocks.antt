-- A block, a message of changes: a number in 8 bytes, the count of withdrawn prefixes in 2 and these, the count of announced routes in 2
-- and these. A fault of the block refuses it whole; a fault of one update, or a call that the table refuses, skips that update alone.
use Rattle.std.specs.Prelude.{ℕ, suc, cond, List, [], ◌∷◌, ◌++◌, length, Some, None, Option, ◌==◌, nat_le}
use Rattle.faults.specs.declared.Layer.{Layer}
use Rattle.faults.specs.declared.Layer.TheVariants.{Table, Link, Reader as ByReader}
use Rattle.faults.specs.Numbers.{bad_hop, bad_number, not_due}
use Rattle.bits.specs.Rows.{Bits}
use Rattle.model.specs.Bytes.{Bytes, big_endian, prefix_bytes}
use Rattle.model.specs.Calls.{Plain, Call, insert, delete, Done, perform, left_by}
use Rattle.model.specs.Outcomes.{Outcome, and_then, granted, refused}
use Rattle.model.specs.Reading.{Reader, ◌>>=◌, ◌>>◌, give, end, must, number_in, series}
use Rattle.model.specs.Routes.{Routes}
use Rattle.model.specs.Sheets.{last_number, read_prefix, routes_bytes}

abbrev pub prefixes_bytes : List Bits → Bytes
prefixes_bytes [] = []
prefixes_bytes (p ∷ ps) = prefix_bytes p ++ prefixes_bytes ps

-- the block of withdrawn prefixes and announced routes, under a number
unfoldable pub block_bytes : ℕ → List Bits → Routes → Bytes
block_bytes number withdrawn announced =
    big_endian 8 number
    ++ (big_endian 2 (length withdrawn)
    ++ (prefixes_bytes withdrawn ++ (big_endian 2 (length announced) ++ routes_bytes announced)))

-- a call to be put to the table, and the place of its length byte in the block
pub record Update : Type 0 where
  pub place : ℕ
  pub call : Call

unfoldable pub read_withdrawn : ℕ → Reader Update
read_withdrawn W = do
  read ← read_prefix W
  give (record { place = read.place; call = delete read.row read.len })

unfoldable pub read_announced : ℕ → Reader Update
read_announced W = do
  read ← read_prefix W
  hop ← number_in 2
  give (record { place = read.place; call = insert read.row read.len hop })

-- the updates of the block with the due number: the withdrawn first, then the announced, in their order
unfoldable pub block : ℕ → ℕ → Reader (List Update)
block W due = do
  number ← number_in 8
  must (nat_le number last_number) bad_number ByReader 0
  must (number == due) not_due Link 0
  withdrawn-count ← number_in 2
  withdrawn ← series (λ _. read_withdrawn W) None withdrawn-count
  announced-count ← number_in 2
  announced ← series (λ _. read_announced W) None announced-count
  end
  give (withdrawn ++ announced)

unfoldable pub read_block : ℕ → ℕ → Bytes → Outcome (List Update)
read_block W due message = and_then (block W due message 0) (λ got. granted got.0)

-- a refused update
pub record Refused : Type 0 where
  pub number : ℕ
  pub layer : Layer
  pub place : ℕ

-- stray bits and a bad hop are faults that the reader finds, the others the table
abbrev pub update_layer : ℕ → Layer
update_layer number = cond (nat_le number bad_hop) ByReader Table

-- what following a block answers: how many updates were applied and how many refused, and the first refusal; and what it leaves
pub record Followed : Type 0 where
  pub applied : ℕ
  pub refusals : ℕ
  pub first_refusal : Option Refused
  pub left : Plain

-- one update more, before those already counted
abbrev pub tallied : Update → Outcome Done → Followed → Followed
tallied u (granted d) f =
    record { applied = suc f.applied; refusals = f.refusals; first_refusal = f.first_refusal; left = f.left }
tallied u (refused number layer place) f =
    let r : Refused = record { number = number; layer = update_layer number; place = u.place } in
    record { applied = f.applied; refusals = suc f.refusals; first_refusal = Some r; left = f.left }

-- the updates in their order; a refused one is skipped
abbrev pub follow : ℕ → ℕ → List Update → Plain → Followed
follow W N [] plain = record { applied = 0; refusals = 0; first_refusal = None; left = plain }
follow W N (u ∷ us) plain =
    let outcome = perform W N plain u.call in
    tallied u outcome (follow W N us (left_by plain outcome))
