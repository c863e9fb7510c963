-- Worked examples on IPv4 addresses, with the plan 3, 6, 6, 6, 6, 6.
use Rattle.std.specs.Prelude.{◌≡◌, ℕ, ◌^◌, List, [], ◌∷◌, ◌++◌, take, replicate, Some, None, slice_set}
use Rattle.bits.specs.Rows.{Bits}
use Rattle.model.specs.Bytes.{Bytes, unpack}
use Rattle.model.specs.Calls.{shut, Call, open_with, insert, delete, lookup, counts, write, load, Answer, opened, inserted, deleted, matched, counted, written, loaded, answer, after_all}
use Rattle.model.specs.Follow.{follow_bytes, follow_call}
use Rattle.model.specs.Blocks.{Followed}
use Rattle.model.specs.Links.{follow_block}
use Rattle.model.specs.Outcomes.{Outcome, granted, refused}
use Rattle.faults.specs.declared.Layer.TheVariants.{Table, Reader, Link}
use Rattle.faults.specs.Numbers.{absent, bad_hop, bad_number, bad_plan, cut_short, full, not_due, other_plan, out_of_order, stray_bits, too_long, too_narrow}
use Rattle.model.specs.Nodes.{Nodes, spelled, held, reached, walk}
use Rattle.model.specs.Places.{indexes, level, position_of}
use Rattle.model.specs.Placements.{image, opened_placement, after_insert, after_delete}
use Rattle.model.specs.Routes.{Routes, prefix_of, route}
use Rattle.model.specs.Sheets.{sheet_bytes}

abbrev pub ipv4 : ℕ → ℕ → ℕ → ℕ → Bits
ipv4 a b c d = unpack (a ∷ b ∷ c ∷ d ∷ [])

abbrev pub plan : List ℕ
plan = 3 ∷ 6 ∷ 6 ∷ 6 ∷ 6 ∷ 6 ∷ []

-- the examples' routes: 192.0.2.0/24 with hop 7, and 0.0.0.0/0 with hop 1
abbrev pub put_24 : Call
put_24 = insert (ipv4 192 0 2 0) 24 7

abbrev pub put_0 : Call
put_0 = insert (ipv4 0 0 0 0) 0 1

-- the answer to a call after others, from a table's making on, with N nodes
abbrev pub answer_after : ℕ → List Call → Call → Outcome Answer
answer_after N calls call = answer 32 N (after_all 32 N shut calls) call

abbrev pub opening : List Call
opening = open_with plan ∷ []

abbrev pub two_routes : List Call
two_routes = open_with plan ∷ put_24 ∷ put_0 ∷ []

-- the two routes under number 5
abbrev pub two_routes_sheet : Bytes
two_routes_sheet =
    0x00 ∷ 0x00 ∷ 0x00 ∷ 0x00 ∷ 0x00 ∷ 0x00 ∷ 0x00 ∷ 0x05 ∷ 0x06 ∷ 0x03 ∷ 0x06 ∷ 0x06 ∷ 0x06 ∷ 0x06 ∷ 0x06 ∷ 0x00 ∷ 0x00 ∷ 0x00 ∷ 0x02
    ∷ 0x00 ∷ 0x00 ∷ 0x01 ∷ 0x18 ∷ 0xC0 ∷ 0x00 ∷ 0x02 ∷ 0x00 ∷ 0x07 ∷ []

pub record CallFigures : Type 0 where
  pub four_nodes_are_few : answer_after 4 opening put_24 ≡ refused full Table 0
  pub five_nodes_do : answer_after 5 opening put_24 ≡ granted (inserted None 4)
  pub default_route : answer_after 5 (open_with plan ∷ put_24 ∷ []) put_0 ≡ granted (inserted None 0)
  pub one_level_more : answer_after 5 two_routes (insert (ipv4 192 0 2 0) 27 3) ≡ refused full Table 0
  pub same_node : answer_after 5 two_routes (insert (ipv4 192 0 2 0) 26 3) ≡ granted (inserted None 0)
  pub longest_match : answer_after 5 two_routes (lookup (ipv4 192 0 2 5)) ≡ granted (matched (Some (route (prefix_of (ipv4 192 0 2 0) 24) 7)) 5)
  pub root_alone : answer_after 5 two_routes (lookup (ipv4 10 0 0 1)) ≡ granted (matched (Some (route [] 1)) 1)
  pub last_match : answer_after 5 two_routes (lookup (ipv4 192 0 3 1)) ≡ granted (matched (Some (route [] 1)) 5)
  pub nodes_return : answer_after 5 two_routes (delete (ipv4 192 0 2 0) 24) ≡ granted (deleted 7 4)
  pub delete_again : answer_after 5 (open_with plan ∷ put_24 ∷ put_0 ∷ delete (ipv4 192 0 2 0) 24 ∷ []) (delete (ipv4 192 0 2 0) 24) ≡ refused absent Table 0
  pub bit_behind_length : answer_after 5 two_routes (insert (ipv4 192 0 2 64) 25 7) ≡ refused stray_bits Table 0
  pub length_first : answer_after 5 two_routes (insert (ipv4 192 0 2 0) 33 4096) ≡ refused too_long Table 0
  pub sum_too_small : answer_after 5 [] (open_with (2 ∷ 6 ∷ 6 ∷ 6 ∷ 6 ∷ 6 ∷ [])) ≡ refused bad_plan Table 0
  pub other_strides : answer_after 5 [] (open_with (4 ∷ 6 ∷ 6 ∷ 6 ∷ 5 ∷ 6 ∷ [])) ≡ granted opened
  pub all_nodes_required : answer_after 5 two_routes counts ≡ granted (counted 2 5 0)
  pub sheet_written : answer_after 5 two_routes (write 5 (replicate 30 0xAA)) ≡ granted (written 28 (two_routes_sheet ++ (0xAA ∷ 0xAA ∷ [])))
  pub sheet_loads : answer_after 5 opening (load two_routes_sheet) ≡ granted (loaded 5)
  pub sheet_holds : after_all 32 5 shut (open_with plan ∷ load two_routes_sheet ∷ []) ≡ after_all 32 5 shut two_routes

-- the two routes in the nodes
abbrev pub p_24 : Bits
p_24 = prefix_of (ipv4 192 0 2 0) 24

abbrev pub two : Routes
two = route [] 1 ∷ route p_24 7 ∷ []

abbrev pub two_nodes : Nodes
two_nodes = image 5 plan two (after_insert plan [] (after_insert plan p_24 (opened_placement 5)))

-- 192.0.2.0/24 lies at stride 4, behind the child indexes 6, 0, 0 and 0, at position 10
pub record TreeFigures : Type 0 where
  pub at_stride : level plan 24 ≡ 4
  pub on_the_way : indexes plan p_24 ≡ 6 ∷ 0 ∷ 0 ∷ 0 ∷ []
  pub at_position : position_of plan p_24 ≡ 10
  pub root_bitmap : two_nodes.bitmap 0 ≡ 2
  pub root_hop : two_nodes.hop 0 1 ≡ 1
  pub root_child : two_nodes.child 0 6 ≡ 1
  pub next_child : two_nodes.child 3 0 ≡ 4
  pub last_bitmap : two_nodes.bitmap 4 ≡ 2 ^ 10
  pub last_hop : two_nodes.hop 4 10 ≡ 7
  pub spells : spelled two_nodes plan ≡ two
  pub holds_24 : held two_nodes plan p_24 ≡ Some 7
  pub at_21_bits : reached two_nodes plan (prefix_of (ipv4 192 0 2 0) 21) ≡ Some 4
  pub finds : walk two_nodes plan (ipv4 192 0 2 5) ≡ record { found = Some (route p_24 7); visits = 5 }
  pub finds_default : walk two_nodes plan (ipv4 192 0 3 1) ≡ record { found = Some (route [] 1); visits = 5 }
  pub stays_at_root : walk two_nodes plan (ipv4 10 0 0 1) ≡ record { found = Some (route [] 1); visits = 1 }
  pub one_child : two_nodes.count 0 ≡ 1
  pub returned : after_delete plan (route [] 1 ∷ []) p_24 (after_insert plan p_24 (opened_placement 5)) ≡ opened_placement 5

-- what the program `follow` writes; a block under number 6 withdraws 0.0.0.0/0 and announces 10.0.0.0/8 with hop 9
abbrev pub framed_sheet : Bytes
framed_sheet = 0x00 ∷ 0x00 ∷ 0x00 ∷ 0x1C ∷ two_routes_sheet

abbrev pub framed_block : Bytes
framed_block =
    0x00 ∷ 0x00 ∷ 0x00 ∷ 0x11 ∷ 0x00 ∷ 0x00 ∷ 0x00 ∷ 0x00 ∷ 0x00 ∷ 0x00 ∷ 0x00 ∷ 0x06
    ∷ 0x00 ∷ 0x01 ∷ 0x00 ∷ 0x00 ∷ 0x01 ∷ 0x08 ∷ 0x0A ∷ 0x00 ∷ 0x09 ∷ []

pub record ProgramFigures : Type 0 where
  pub echoes : follow_bytes framed_sheet ≡ two_routes_sheet
  pub empty_input : follow_bytes [] ≡ 11 ∷ 0 ∷ 0 ∷ 0 ∷ 0 ∷ []
  pub one_block :
      follow_bytes (framed_sheet ++ framed_block)
      ≡ sheet_bytes 6 plan (route (prefix_of (ipv4 10 0 0 0) 8) 9 ∷ route p_24 7 ∷ [])
  pub block_again : follow_bytes (framed_sheet ++ (framed_block ++ framed_block)) ≡ 15 ∷ 0 ∷ 0 ∷ 0 ∷ 57 ∷ []
  pub cut_block : follow_bytes (framed_sheet ++ (0 ∷ 0 ∷ [])) ≡ 11 ∷ 0 ∷ 0 ∷ 0 ∷ 34 ∷ []
  -- an output that is a byte too short for what might be written
  pub short_room : follow_call (replicate 65535 0) framed_sheet ≡ refused too_narrow Table 0

-- the sheet with another byte at a place
abbrev pub load_with : ℕ → ℕ → Outcome Answer
load_with place byte = answer_after 5 opening (load (slice_set two_routes_sheet place byte))

-- a block under number 6 with these bytes behind the number
abbrev pub follow_six : Bytes → Outcome Followed
follow_six body = follow_block 32 5 6 (after_all 32 5 shut two_routes) (0 ∷ 0 ∷ 0 ∷ 0 ∷ 0 ∷ 0 ∷ 0 ∷ 6 ∷ body)

abbrev pub announced : Bytes
announced =
    0x19 ∷ 0xC0 ∷ 0x00 ∷ 0x02 ∷ 0x40 ∷ 0x00 ∷ 0x01 ∷ 0x1B ∷ 0xC0 ∷ 0x00 ∷ 0x02 ∷ 0x00 ∷ 0x00 ∷ 0x03
    ∷ 0x1A ∷ 0xC0 ∷ 0x00 ∷ 0x02 ∷ 0x00 ∷ 0x00 ∷ 0x03 ∷ []

-- which refusal, from where, and its place
pub record ReadingFigures : Type 0 where
  pub cut_in_route : answer_after 5 opening (load (take 25 two_routes_sheet)) ≡ refused cut_short Reader 25
  pub byte_left_over : answer_after 5 opening (load (two_routes_sheet ++ (0 ∷ []))) ≡ refused cut_short Reader 28
  pub high_number : load_with 0 0x80 ≡ refused bad_number Reader 0
  pub other_stride : load_with 9 4 ≡ refused other_plan Reader 8
  pub length_byte : load_with 22 33 ≡ refused too_long Reader 22
  pub bit_behind : load_with 22 22 ≡ refused stray_bits Reader 22
  pub high_hop : load_with 26 0x10 ≡ refused bad_hop Reader 26
  pub wrong_order : answer_after 5 opening (load (sheet_bytes 5 plan (route p_24 7 ∷ route [] 1 ∷ []))) ≡ refused out_of_order Reader 25
  pub too_few_nodes : answer_after 4 opening (load two_routes_sheet) ≡ refused full Table 0
  pub short_output : answer_after 5 two_routes (write 5 (replicate 27 0)) ≡ refused too_narrow Table 0
  -- the withdrawn prefix is absent, then a bit behind the length, a node too many, and one announcement is applied
  pub some_refused :
      follow_six (0x00 ∷ 0x01 ∷ 0x08 ∷ 0x0A ∷ 0x00 ∷ 0x03 ∷ announced)
      ≡ granted
      (record {
        applied = 1;
        refusals = 3;
        first_refusal = Some (record { number = absent; layer = Table; place = 10 });
        left = after_all 32 5 shut (open_with plan ∷ put_24 ∷ put_0 ∷ insert (ipv4 192 0 2 0) 26 3 ∷ []);
      })
  pub reader_refuses :
      follow_six (0x00 ∷ 0x00 ∷ 0x00 ∷ 0x03 ∷ announced)
      ≡ granted
      (record {
        applied = 1;
        refusals = 2;
        first_refusal = Some (record { number = stray_bits; layer = Reader; place = 12 });
        left = after_all 32 5 shut (open_with plan ∷ put_24 ∷ put_0 ∷ insert (ipv4 192 0 2 0) 26 3 ∷ []);
      })
  pub whole_block : follow_six (0x00 ∷ 0x01 ∷ 0x21 ∷ []) ≡ refused too_long Reader 10
  pub another_turn : follow_block 32 5 7 (after_all 32 5 shut two_routes) (0 ∷ 0 ∷ 0 ∷ 0 ∷ 0 ∷ 0 ∷ 0 ∷ 6 ∷ []) ≡ refused not_due Link 0

pub record Figures : Type 0 where
  pub calls : CallFigures
  pub tree : TreeFigures
  pub program : ProgramFigures
  pub reading : ReadingFigures
