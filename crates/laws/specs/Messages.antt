-- Sheets and prefixes as bytes, what loading does, and the program `follow`.
use Rattle.std.specs.Prelude.{◌≡◌, ℕ, ◌+◌, ◌^◌, ◌<◌, ◌≤◌, true, List, [], ◌∷◌, ◌++◌, length, take}
use Rattle.bits.specs.Rows.{Bits}
use Rattle.laws.specs.Lists.{InRange, insert_all}
use Rattle.model.specs.Blocks.{Update, block_bytes, follow, prefixes_bytes, read_block}
use Rattle.model.specs.Bytes.{Bytes, byte_count, pack, prefix_bytes, unpack}
use Rattle.model.specs.Calls.{Plain, holding, open_with, insert, delete, load, loaded, Done, perform, after_all}
use Rattle.model.specs.Follow.{follow_blocks, follow_bytes, follow_input, limit}
use Rattle.model.specs.Outcomes.{granted}
use Rattle.model.specs.Plans.{plan_ok}
use Rattle.model.specs.Routes.{Routes, Ascending, prefix_of, sound}
use Rattle.model.specs.Sheets.{Read, Sheet, last_number, read_prefix, read_sheet, route_bytes, sheet_bytes}

-- every number is one of a byte
abbrev pub Octets : Bytes → Type 0
Octets [] = Unit {0}
Octets (b ∷ bs) = (b < 256) × Octets bs

-- A written prefix reads back, with no bit behind its length, and the reading ends behind it. A prefix that reads, at the front of a message
-- and with no bit behind its length, is byte for byte what is written of it. Two different prefixes have different bytes.
pub record PrefixLaws : Type 0 where
  pub reads_back :
      (W : ℕ) (p : Bits) (rest : Bytes) → length p ≤ W
      → (row : Bits) × (read_prefix W (prefix_bytes p ++ rest) 0 ≡ granted (record { place = 0; len = length p; row = row }, length (prefix_bytes p)))
      × (sound row (length p) ≡ true) × (prefix_of row (length p) ≡ p)
  pub read_is_written :
      (W : ℕ) (message : Bytes) (read : Read) (behind : ℕ) → Octets message → read_prefix W message 0 ≡ granted (read, behind)
      → sound read.row read.len ≡ true
      → prefix_bytes (prefix_of read.row read.len) ≡ take behind message
  pub different : (p q : Bits) → prefix_bytes p ≡ prefix_bytes q → p ≡ q

-- A written sheet reads back as its number and routes. A sheet that reads has a number in range and ascending routes in range, and is byte
-- for byte the sheet that is written of them under its number.
pub record SheetLaws : Type 0 where
  pub reads_back :
      (W number : ℕ) (plan : List ℕ) (routes : Routes) → number ≤ last_number → length routes < 2 ^ 32 → Ascending routes → InRange W routes
      → read_sheet W plan (sheet_bytes number plan routes) ≡ granted (record { number = number; routes = routes })
  pub number_small : (W : ℕ) (plan : List ℕ) (message : Bytes) (s : Sheet) → read_sheet W plan message ≡ granted s → s.number ≤ last_number
  pub routes_ascend : (W : ℕ) (plan : List ℕ) (message : Bytes) (s : Sheet) → read_sheet W plan message ≡ granted s → Ascending s.routes
  pub routes_in_range : (W : ℕ) (plan : List ℕ) (message : Bytes) (s : Sheet) → read_sheet W plan message ≡ granted s → InRange W s.routes
  pub read_is_written :
      (W : ℕ) (plan : List ℕ) (message : Bytes) (s : Sheet) → Octets message → read_sheet W plan message ≡ granted s
      → sheet_bytes s.number plan s.routes ≡ message

-- the bits of a prefix's bytes: the prefix, and zeros behind it
abbrev pub row_of : Bits → Bits
row_of p = unpack (pack (byte_count (length p)) p)

-- the updates that withdraw prefixes and announce routes which stand one after the other from a place on
abbrev pub withdrawals : ℕ → List Bits → List Update
withdrawals at [] = []
withdrawals at (p ∷ ps) = record { place = at; call = delete (row_of p) (length p) } ∷ withdrawals (at + length (prefix_bytes p)) ps

abbrev pub announcements : ℕ → Routes → List Update
announcements at [] = []
announcements at (r ∷ rs) =
    record { place = at; call = insert (row_of r.prefix) (length r.prefix) r.hop } ∷ announcements (at + length (route_bytes r)) rs

-- every prefix has at most W bits
abbrev pub Short : ℕ → List Bits → Type 0
Short W [] = Unit {0}
Short W (p ∷ ps) = (length p ≤ W) × Short W ps

-- and every hop fits 2 bytes
abbrev pub ShortRoutes : ℕ → Routes → Type 0
ShortRoutes W [] = Unit {0}
ShortRoutes W (r ∷ rs) = (length r.prefix ≤ W) × (r.hop < 2 ^ 16) × ShortRoutes W rs

-- A written block reads, where its number is due, as a delete of each withdrawn prefix and then an insert of each announced route, in their
-- order, each at the place of its length byte; and these calls name the prefixes that were written.
pub record BlockLaws : Type 0 where
  pub reads_back :
      (W number : ℕ) (withdrawn : List Bits) (announced : Routes) → number ≤ last_number → length withdrawn < 2 ^ 16 → length announced < 2 ^ 16
      → Short W withdrawn → ShortRoutes W announced
      → read_block W number (block_bytes number withdrawn announced)
      ≡ granted (withdrawals 10 withdrawn ++ announcements (12 + length (prefixes_bytes withdrawn)) announced)
  pub row_sound : (p : Bits) → sound (row_of p) (length p) ≡ true
  pub row_prefix : (p : Bits) → prefix_of (row_of p) (length p) ≡ p

-- a load is granted where its sheet reads and the nodes suffice, and then it leaves what opening and inserting the sheet's routes in order leaves
abbrev pub LoadLaw : Type 0
LoadLaw =
    (W N : ℕ) (plan : List ℕ) (routes : Routes) (message : Bytes) (d : Done) → plan_ok W plan ≡ true
    → perform W N (holding plan routes) (load message) ≡ granted d
    → (s : Sheet) × (read_sheet W plan message ≡ granted s) × (d.answered ≡ loaded s.number)
    × (after_all W N (holding plan routes) (open_with plan ∷ insert_all W s.routes) ≡ d.left)

-- All updates of a block are counted, as applied or as refused. The program reads all of its input: a higher bound on the number of its
-- blocks changes nothing. The final sheet is never longer than the input, and what is written always fits.
pub record FollowLaws : Type 0 where
  pub all_counted : (W N : ℕ) (updates : List Update) (plain : Plain) → (follow W N updates plain).applied + (follow W N updates plain).refusals ≡ length updates
  pub reads_all :
      (more due : ℕ) (plain : Plain) (input : Bytes) (at : ℕ)
      → follow_blocks (length input + more) due plain input at ≡ follow_blocks (length input) due plain input at
  pub shrinks : (input sheet : Bytes) → follow_input input ≡ granted sheet → length sheet ≤ length input
  pub fits : (input : Bytes) → length (follow_bytes input) ≤ limit
