use Rattle.std.proofs.Common.{◌≡◌, ◌*◌, ◌+◌, ◌-◌, ◌∙◌, true, false, [], ◌∷◌, ◌++◌, subst, arith}
use Rattle.model.specs.Nodes.{Nodes}
use Rattle.descent.specs.Entries.{First}
use Rattle.descent.proofs.Rows.{below_half, from_half, high_half, left_at, left_row, low_half, right_at, right_row, row_small}
use Rattle.descent.proofs.Entries.{all_left, all_right, high, low_left, low_right, next_none}
use Rattle.descent.proofs.ascending.+entry_above.Goals as goal

pub overflow_mul-row : goal.overflow_mul-row
overflow_mul-row g t c = let h = row_small c.requires.row c.if-levels-eq0.false in omega arith

pub overflow_mul-row-in-None : goal.overflow_mul-row-in-None
overflow_mul-row-in-None g t c = let h = row_small c.requires.row c.if-levels-eq0.false in omega arith

pub overflow_add-row : goal.overflow_add-row
overflow_add-row g t c = let h = row_small c.requires.row c.if-levels-eq0.false in omega arith

pub overflow_mul-row-then-bits-half : goal.overflow_mul-row-then-bits-half
overflow_mul-row-then-bits-half g t c = let h = row_small c.requires.row c.if-levels-eq0.false in omega arith

pub overflow_mul-row-in-None-2 : goal.overflow_mul-row-in-None-2
overflow_mul-row-in-None-2 g t c = let h = row_small c.requires.row c.if-levels-eq0.false in omega arith

pub overflow_add-row-in-None-2 : goal.overflow_add-row-in-None-2
overflow_add-row-in-None-2 g t c = let h = row_small c.requires.row c.if-levels-eq0.false in omega arith

pub overflow_mul-row-else-bits-half : goal.overflow_mul-row-else-bits-half
overflow_mul-row-else-bits-half g t c = let h = row_small c.requires.row c.if-levels-eq0.false in omega arith

pub overflow_add-row-else-bits-half : goal.overflow_add-row-else-bits-half
overflow_add-row-else-bits-half g t c = let h = row_small c.requires.row c.if-levels-eq0.false in omega arith

pub first_entry-requires : goal.first_entry-requires
first_entry-requires g t c = record { row = left_row c.requires.row c.if-levels-eq0.false }

pub first_entry-requires-in-None : goal.first_entry-requires-in-None
first_entry-requires-in-None g t c = record { row = right_row c.requires.row c.if-levels-eq0.false }

pub first_entry-requires-in-None-2 : goal.first_entry-requires-in-None-2
first_entry-requires-in-None-2 g t c = record { row = right_row c.requires.row c.if-levels-eq0.false }

pub entry_above-requires : goal.entry_above-requires
entry_above-requires g t c κs within =
    let few = c.requires.more in (
      omega arith,
      (
        within,
        (left_row c.requires.row c.if-levels-eq0.false, (omega arith, low_half c.requires.row few c.if-more-eq0.false c.if-bits-half.true)),
      ),
    )

pub entry_above-requires-else-bits-half : goal.entry_above-requires-else-bits-half
entry_above-requires-else-bits-half g t c κs within =
    let few = c.requires.more in (
      omega arith,
      (
        within,
        (right_row c.requires.row c.if-levels-eq0.false, (omega arith, high_half c.requires.row few c.if-more-eq0.false c.requires.bits)),
      ),
    )

pub returns-then-levels-eq0-clause-next : goal.returns-then-levels-eq0-clause-next
returns-then-levels-eq0-clause-next g t c below bs cs reads at size spells =
    let node = c.args.node in
    let few = c.requires.more in
    next_none (g.M.NodeRead.nodes c.args.memory.now) below node.number node.stride c.args.levels bs cs c.if-levels-eq0.true (omega arith)

-- ---- above the row itself

pub returns-in_err-found-clause-next : goal.returns-in_err-found-clause-next
returns-in_err-found-clause-next g t c below bs cs reads at size spells =
    let wrong = c.in_err-found.ensures.first below _ reads (left_at at c.if-levels-eq0.false) in cc

pub returns-in_default-clause-next : goal.returns-in_default-clause-next
returns-in_default-clause-next g t c below bs cs reads at size spells =
    let node = c.args.node in
    all_left (g.M.NodeRead.nodes c.args.memory.now) below node.number node.stride c.args.levels bs cs c.if-levels-eq0.false
    (size ∙ c.if-more-eq0.true) c.in_default.not-None
    (c.in_ok-found.ensures.first below (bs ++ (false ∷ [])) reads (left_at at c.if-levels-eq0.false))

pub returns-in-None-clause-next : goal.returns-in-None-clause-next
returns-in-None-clause-next g t c below bs cs reads at size spells =
    let N = g.M.NodeRead.nodes c.args.memory.now in
    let node = c.args.node in
    let same : g.M.NodeRead.nodes c.first_entry.new.memory ≡ N =
    g.met.M.NodeRead.laws.still_nodes c.args.memory.now c.first_entry.new.memory c.first_entry.ensures.still in
    let rest =
    subst (λ (m : Nodes). First m node (c.args.levels - 1) (2 * c.args.row + 1) c.first_entry-in-None.result) same
    c.first_entry-in-None.ensures.first in
    all_right N below node.number node.stride c.args.levels bs cs c.if-levels-eq0.false (size ∙ c.if-more-eq0.true) c.in-None.is
    (c.in_ok-found.ensures.first below (bs ++ (false ∷ [])) reads (left_at at c.if-levels-eq0.false))
    (rest below (bs ++ (true ∷ [])) reads (right_at at c.if-levels-eq0.false))

-- ---- above one that goes on to the left

pub returns-in_err-found-2-clause-next : goal.returns-in_err-found-2-clause-next
returns-in_err-found-2-clause-next g t c below bs cs reads at size spells =
    let split = below_half c.requires.row c.requires.more c.if-more-eq0.false size spells c.if-bits-half.true in
    let wrong = c.in_err-found-2.ensures.next below _ split.rest reads (left_at at c.if-levels-eq0.false) split.size split.spells in
    cc

pub returns-in_default-2-clause-next : goal.returns-in_default-2-clause-next
returns-in_default-2-clause-next g t c below bs cs reads at size spells =
    let node = c.args.node in
    let few = c.requires.more in
    let split = below_half c.requires.row few c.if-more-eq0.false size spells c.if-bits-half.true in
    low_left (g.M.NodeRead.nodes c.args.memory.now) below node.number node.stride c.args.levels bs cs c.if-levels-eq0.false (omega arith) split
    c.in_default-2.not-None
    (c.in_ok-found-2.ensures.next below (bs ++ (false ∷ [])) split.rest reads (left_at at c.if-levels-eq0.false) split.size split.spells)

pub returns-in-None-2-clause-next : goal.returns-in-None-2-clause-next
returns-in-None-2-clause-next g t c below bs cs reads at size spells =
    let N = g.M.NodeRead.nodes c.args.memory.now in
    let node = c.args.node in
    let few = c.requires.more in
    let split = below_half c.requires.row few c.if-more-eq0.false size spells c.if-bits-half.true in
    let same : g.M.NodeRead.nodes c.entry_above.new.memory ≡ N =
    g.met.M.NodeRead.laws.still_nodes c.args.memory.now c.entry_above.new.memory c.entry_above.ensures.still in
    let rest =
    subst (λ (m : Nodes). First m node (c.args.levels - 1) (2 * c.args.row + 1) c.first_entry-in-None-2.result) same
    c.first_entry-in-None-2.ensures.first in
    low_right N below node.number node.stride c.args.levels bs cs c.if-levels-eq0.false (omega arith) split c.in-None-2.is
    (c.in_ok-found-2.ensures.next below (bs ++ (false ∷ [])) split.rest reads (left_at at c.if-levels-eq0.false) split.size split.spells)
    (rest below (bs ++ (true ∷ [])) reads (right_at at c.if-levels-eq0.false))

-- ---- above one that goes on to the right

pub returns-else-bits-half-clause-next : goal.returns-else-bits-half-clause-next
returns-else-bits-half-clause-next g t c below bs cs reads at size spells =
    let node = c.args.node in
    let few = c.requires.more in
    let split = from_half c.requires.row few c.if-more-eq0.false size spells c.if-bits-half.false in
    high (g.M.NodeRead.nodes c.args.memory.now) below node.number node.stride c.args.levels bs cs c.if-levels-eq0.false (omega arith) split
    (c.entry_above-else-bits-half.ensures.next below (bs ++ (true ∷ [])) split.rest reads (right_at at c.if-levels-eq0.false) split.size split.spells)
