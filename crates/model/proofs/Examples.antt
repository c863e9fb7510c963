-- The worked examples, each by computation.
use Rattle.std.proofs.Common.{refl}
use Rattle.model.specs.Figures.{Figures}
use Rattle.model.proofs.Open.{model}

pub figures : Figures
unfolding model
figures =
    record {
      calls =
          record {
            four_nodes_are_few = refl;
            five_nodes_do = refl;
            default_route = refl;
            one_level_more = refl;
            same_node = refl;
            longest_match = refl;
            root_alone = refl;
            last_match = refl;
            nodes_return = refl;
            delete_again = refl;
            bit_behind_length = refl;
            length_first = refl;
            sum_too_small = refl;
            other_strides = refl;
            all_nodes_required = refl;
            sheet_written = refl;
            sheet_loads = refl;
            sheet_holds = refl;
          };
      tree =
          record {
            at_stride = refl;
            on_the_way = refl;
            at_position = refl;
            root_bitmap = refl;
            root_hop = refl;
            root_child = refl;
            next_child = refl;
            last_bitmap = refl;
            last_hop = refl;
            spells = refl;
            holds_24 = refl;
            at_21_bits = refl;
            finds = refl;
            finds_default = refl;
            stays_at_root = refl;
            one_child = refl;
            returned = refl;
          };
      program = record { echoes = refl; empty_input = refl; one_block = refl; block_again = refl; cut_block = refl; short_room = refl };
      reading = record { cut_in_route = refl; byte_left_over = refl; high_number = refl; other_stride = refl; length_byte = refl; bit_behind = refl; high_hop = refl; wrong_order = refl; too_few_nodes = refl; short_output = refl; some_refused = refl; reader_refuses = refl; whole_block = refl; another_turn = refl };
    }
