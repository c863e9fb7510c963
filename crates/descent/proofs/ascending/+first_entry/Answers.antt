use Rattle.std.proofs.Common.{◌≡◌, ◌*◌, ◌+◌, ◌-◌, true, false, [], ◌∷◌, ◌++◌, subst, arith}
use Rattle.model.specs.Nodes.{Nodes}
use Rattle.nodes.specs.Fields.{is_hop}
use Rattle.nodes.proofs.Readings.{granted}
use Rattle.descent.specs.Entries.{First}
use Rattle.descent.proofs.Rows.{left_at, left_row, right_at, right_row, row_some, row_small}
use Rattle.descent.proofs.Entries.{first_left, first_right, hop_granted, is_marked, marked_first, not_marked}
use Rattle.descent.proofs.ascending.+first_entry.Goals as goal

pub overflow_shr-node : goal.overflow_shr-node
overflow_shr-node g t c = row_small c.requires.row c.if-levels-eq0.false

pub overflow_mul-row : goal.overflow_mul-row
overflow_mul-row g t c = let h = row_small c.requires.row c.if-levels-eq0.false in omega arith

pub overflow_mul-row-in-None : goal.overflow_mul-row-in-None
overflow_mul-row-in-None g t c = let h = row_small c.requires.row c.if-levels-eq0.false in omega arith

pub overflow_add-row : goal.overflow_add-row
overflow_add-row g t c = let h = row_small c.requires.row c.if-levels-eq0.false in omega arith

pub first_entry-requires : goal.first_entry-requires
first_entry-requires g t c κs within = (omega arith, (within, left_row c.requires.row c.if-levels-eq0.false))

pub first_entry-requires-in-None : goal.first_entry-requires-in-None
first_entry-requires-in-None g t c κs within = (omega arith, (within, right_row c.requires.row c.if-levels-eq0.false))

-- the hop at a place of the bitmap is never refused
pub returns-in_err-hop-clause-first : goal.returns-in_err-hop-clause-first
returns-in_err-hop-clause-first g t c below bs reads at =
    absurd
    (hop_granted reads c.args.row c.in_err-hop.field-0.0 (row_some c.requires.row) (row_small c.requires.row c.if-levels-eq0.false)
    c.in_err-hop.ensures.answer)

pub returns-then-node-row-eq1-clause-first : goal.returns-then-node-row-eq1-clause-first
returns-then-node-row-eq1-clause-first g t c below bs reads at =
    let N = g.M.NodeRead.nodes c.args.memory.now in
    let n = c.args.node.number in
    let hop = granted (is_hop N n c.args.row) (N.hop n c.args.row) c.in_ok-hop.hop c.in_ok-hop.ensures.answer in
    marked_first N below n c.args.node.stride at c.if-levels-eq0.false c.in_ok-hop.hop (is_marked reads c.args.row c.if-node-row-eq1.true) hop.1

pub returns-in_err-found-clause-first : goal.returns-in_err-found-clause-first
returns-in_err-found-clause-first g t c below bs reads at =
    let wrong = c.in_err-found.ensures.first below _ reads (left_at at c.if-levels-eq0.false) in cc

pub returns-in_default-clause-first : goal.returns-in_default-clause-first
returns-in_default-clause-first g t c below bs reads at =
    let node = c.args.node in
    first_left (g.M.NodeRead.nodes c.args.memory.now) below node.number node.stride at c.if-levels-eq0.false
    (not_marked reads c.args.row c.if-node-row-eq1.false) c.in_default.not-None
    (c.in_ok-found.ensures.first below (bs ++ (false ∷ [])) reads (left_at at c.if-levels-eq0.false))

pub returns-in-None-clause-first : goal.returns-in-None-clause-first
returns-in-None-clause-first g t c below bs reads at =
    let N = g.M.NodeRead.nodes c.args.memory.now in
    let node = c.args.node in
    let same : g.M.NodeRead.nodes c.first_entry.new.memory ≡ N =
    g.met.M.NodeRead.laws.still_nodes c.args.memory.now c.first_entry.new.memory c.first_entry.ensures.still in
    let rest =
    subst (λ (m : Nodes). First m node (c.args.levels - 1) (2 * c.args.row + 1) c.first_entry-in-None.result) same
    c.first_entry-in-None.ensures.first in
    first_right N below node.number node.stride at c.if-levels-eq0.false (not_marked reads c.args.row c.if-node-row-eq1.false) c.in-None.is
    (c.in_ok-found.ensures.first below (bs ++ (false ∷ [])) reads (left_at at c.if-levels-eq0.false))
    (rest below (bs ++ (true ∷ [])) reads (right_at at c.if-levels-eq0.false))
