-- The refusals by number: the one link between the program's cases and the numbers that promises speak of.
use Rattle.std.specs.Prelude.{List, ℕ, ◌++◌, codes, decimal}
use Rattle.faults.specs.declared.Refusal.{Refusal}
use Rattle.faults.specs.declared.Refusal.TheVariants.{Shut, Plan, Size, Length, Stray, Hop, Full, Absent, Place, Value, Cut, Number, Strides, Order, Turn, Narrow}
use Rattle.faults.specs.declared.Layer.{Layer}
use Rattle.faults.specs.declared.Layer.TheVariants.{Memory, Table, Reader, Link}
use Rattle.faults.specs.declared.Fault.{Fault}

-- not yet opened
abbrev pub not_open : ℕ
not_open = 1

-- a rule of the plan is broken
abbrev pub bad_plan : ℕ
bad_plan = 2

-- a memory without nodes is opened
abbrev pub no_nodes : ℕ
no_nodes = 3

-- a length is above the width
abbrev pub too_long : ℕ
too_long = 4

-- a bit is set behind the length
abbrev pub stray_bits : ℕ
stray_bits = 5

-- a hop is above 4095
abbrev pub bad_hop : ℕ
bad_hop = 6

-- more nodes are required than there are
abbrev pub full : ℕ
full = 7

-- a prefix to be deleted is not held
abbrev pub absent : ℕ
absent = 8

-- a node or a position is outside
abbrev pub outside : ℕ
outside = 9

-- a written value is outside its range
abbrev pub bad_value : ℕ
bad_value = 10

-- a message ends early or has bytes left over
abbrev pub cut_short : ℕ
cut_short = 11

-- a message's number is above 2 ^ 62
abbrev pub bad_number : ℕ
bad_number = 12

-- a sheet's strides are not the table's
abbrev pub other_plan : ℕ
other_plan = 13

-- a sheet's route is not above the one before
abbrev pub out_of_order : ℕ
out_of_order = 14

-- a block's number is not the one due
abbrev pub not_due : ℕ
not_due = 15

-- the output is shorter than the sheet
abbrev pub too_narrow : ℕ
too_narrow = 16

-- the number of each case
abbrev pub number_of : Refusal → ℕ
number_of Shut = not_open
number_of Plan = bad_plan
number_of Size = no_nodes
number_of Length = too_long
number_of Stray = stray_bits
number_of Hop = bad_hop
number_of Full = full
number_of Absent = absent
number_of Place = outside
number_of Value = bad_value
number_of Cut = cut_short
number_of Number = bad_number
number_of Strides = other_plan
number_of Order = out_of_order
number_of Turn = not_due
number_of Narrow = too_narrow

-- its word
abbrev pub word_of : Refusal → List ℕ
word_of Shut = codes "shut"
word_of Plan = codes "plan"
word_of Size = codes "size"
word_of Length = codes "length"
word_of Stray = codes "stray"
word_of Hop = codes "hop"
word_of Full = codes "full"
word_of Absent = codes "absent"
word_of Place = codes "place"
word_of Value = codes "value"
word_of Cut = codes "cut"
word_of Number = codes "number"
word_of Strides = codes "strides"
word_of Order = codes "order"
word_of Turn = codes "turn"
word_of Narrow = codes "narrow"

-- what it says
abbrev pub meaning_of : Refusal → List ℕ
meaning_of Shut = codes "the table is not yet open"
meaning_of Plan = codes "a rule of the plan is broken"
meaning_of Size = codes "the memory has no nodes"
meaning_of Length = codes "the length is above the width"
meaning_of Stray = codes "bits are set behind the length"
meaning_of Hop = codes "the hop is above 4095"
meaning_of Full = codes "more nodes are required than there are"
meaning_of Absent = codes "the prefix is not held"
meaning_of Place = codes "the node or position is outside"
meaning_of Value = codes "the value is outside its range"
meaning_of Cut = codes "the message ends early or has bytes left over"
meaning_of Number = codes "the number is above 2^62"
meaning_of Strides = codes "the strides are not the table's"
meaning_of Order = codes "the route is not above the one before"
meaning_of Turn = codes "the block's number is not due"
meaning_of Narrow = codes "the output is shorter than the sheet"

-- a refusal by number, word and meaning
abbrev pub refusal_told : Refusal → List ℕ
refusal_told r =
    codes "refused " ++ (decimal (number_of r) ++ (codes " (" ++ (word_of r ++ (codes "): " ++ meaning_of r))))

abbrev pub layer_word : Layer → List ℕ
layer_word Memory = codes "memory"
layer_word Table = codes "table"
layer_word Reader = codes "reader"
layer_word Link = codes "link"

-- a refusal by the table itself has no place
abbrev pub of_table : Refusal → Fault
of_table refusal = record { refusal = refusal; layer = Table; place = 0 }

-- nor has one by a node memory
abbrev pub of_memory : Refusal → Fault
of_memory refusal = record { refusal = refusal; layer = Memory; place = 0 }
