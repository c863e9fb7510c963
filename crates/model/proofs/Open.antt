-- The definitions that do not unfold by themselves: a proof that computes with them says `unfolding model`.
use Rattle.bits.specs.Rows.{number, row, read_group, clear}
use Rattle.bits.specs.Order.{order, begins}
use Rattle.model.specs.Plans.{plan_ok}
use Rattle.model.specs.Required.{required_paths, required, path_count}
use Rattle.model.specs.Bytes.{prefix_bytes}
use Rattle.model.specs.Sheets.{route_bytes, sheet_bytes, read_prefix, read_route, sheet, read_sheet}
use Rattle.model.specs.Calls.{load_sheet}
use Rattle.model.specs.Blocks.{read_withdrawn, read_announced, block, read_block}
use Rattle.model.specs.Links.{join, follow_block}
use Rattle.model.specs.Follow.{framed, follow_bytes, follow_input}
use Rattle.model.specs.Nodes.{marked, reached, held, spelled, walk}
use Rattle.model.specs.Placements.{opened_placement, after_insert, after_delete, after_load, image}

unfoldable pub model : Unit {0}
unfolding number row read_group clear order begins plan_ok required_paths required path_count prefix_bytes route_bytes sheet_bytes read_prefix read_route sheet read_sheet load_sheet read_withdrawn read_announced block read_block join follow_block framed follow_bytes follow_input marked reached held spelled walk opened_placement after_insert after_delete after_load image
model = tt
