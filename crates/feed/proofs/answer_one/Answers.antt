use Rattle.std.proofs.Common.{sym, ap, ◌∙◌, subst}
use Rattle.bits.specs.Rows.{row}
use Rattle.bits.proofs.Rows.{length_row}
use Rattle.model.specs.Calls.{Call, after, answer}
use Rattle.plan.specs.Strides.{strides_of}
use Rattle.std.specs.Option.{option_map}
use Rattle.table.specs.Placed.{placed}
use Rattle.table.specs.Stands.{Stands}
use Rattle.feed.specs.Fed.{told}
use Rattle.feed.proofs.Asked.{is_delete, is_insert, is_lookup, looked_up}
use Rattle.feed.proofs.Few.{Few, delete_few, insert_few, lookup_few, returned_few, taken_few, visited_few}
use Rattle.feed.proofs.answer_one.Goals as goal

pub returns-then-asked-eq-INSERT-clause-answer : goal.returns-then-asked-eq-INSERT-clause-answer
returns-then-asked-eq-INSERT-clause-answer g c plain at stands =
    let is = c.insert.ensures.answer plain at stands in
    let asks = is_insert c.args.call c.prefix_in.result.address.bits c.prefix_in.ensures.address c.prefix_in.result.length c.prefix_in.ensures.length c.hop_in.result c.hop_in.ensures c.if-asked-eq-INSERT.true in
    let few = insert_few 32 (g.M.NodeRead.nodes c.args.table.now.memory) (g.met.M.NodeRead.laws.within c.args.table.now.memory).few
    (option_map strides_of c.args.table.now.plan) c.args.table.now.front c.args.table.now.routes c.args.table.now.required plain at _ _ _ stands in
    c.told_insert.ensures (taken_few c.insert.result (subst Few (sym is) few)) ∙ ap told is
    ∙ ap (λ x. told (answer 32 (g.M.NodeRead.nodes c.args.table.now.memory).size plain x)) (sym asks)

pub returns-then-asked-eq-INSERT-clause-after : goal.returns-then-asked-eq-INSERT-clause-after
returns-then-asked-eq-INSERT-clause-after g c plain at stands =
    let size = (g.M.NodeRead.nodes c.args.table.now.memory).size in
    let asks = is_insert c.args.call c.prefix_in.result.address.bits c.prefix_in.ensures.address c.prefix_in.result.length c.prefix_in.ensures.length c.hop_in.result c.hop_in.ensures c.if-asked-eq-INSERT.true in
    subst (λ (x : Call). Stands g.M.NodeRead.nodes 32 c.insert.new.self (after 32 size plain x) (placed 32 size plain at x)) (sym asks)
    (c.insert.ensures.after plain at stands)

pub returns-then-asked-eq-DELETE-clause-answer : goal.returns-then-asked-eq-DELETE-clause-answer
returns-then-asked-eq-DELETE-clause-answer g c plain at stands =
    let is = c.delete.ensures.answer plain at stands in
    let asks = is_delete c.args.call c.prefix_in-then-asked-eq-DELETE.result.address.bits c.prefix_in-then-asked-eq-DELETE.ensures.address c.prefix_in-then-asked-eq-DELETE.result.length c.prefix_in-then-asked-eq-DELETE.ensures.length c.if-asked-eq-DELETE.true in
    let few = delete_few 32 (g.M.NodeRead.nodes c.args.table.now.memory) (g.met.M.NodeRead.laws.within c.args.table.now.memory).few
    (option_map strides_of c.args.table.now.plan) c.args.table.now.front c.args.table.now.routes c.args.table.now.required plain at _ _ stands in
    c.told_delete.ensures (returned_few c.delete.result (subst Few (sym is) few)) ∙ ap told is
    ∙ ap (λ x. told (answer 32 (g.M.NodeRead.nodes c.args.table.now.memory).size plain x)) (sym asks)

pub returns-then-asked-eq-DELETE-clause-after : goal.returns-then-asked-eq-DELETE-clause-after
returns-then-asked-eq-DELETE-clause-after g c plain at stands =
    let size = (g.M.NodeRead.nodes c.args.table.now.memory).size in
    let asks = is_delete c.args.call c.prefix_in-then-asked-eq-DELETE.result.address.bits c.prefix_in-then-asked-eq-DELETE.ensures.address c.prefix_in-then-asked-eq-DELETE.result.length c.prefix_in-then-asked-eq-DELETE.ensures.length c.if-asked-eq-DELETE.true in
    subst (λ (x : Call). Stands g.M.NodeRead.nodes 32 c.delete.new.self (after 32 size plain x) (placed 32 size plain at x)) (sym asks)
    (c.delete.ensures.after plain at stands)

pub returns-else-asked-eq-DELETE-clause-answer : goal.returns-else-asked-eq-DELETE-clause-answer
returns-else-asked-eq-DELETE-clause-answer g c plain at stands =
    let is = c.lookup.ensures.answer plain at stands in
    let asks = is_lookup c.args.call c.address_in.result.bits c.address_in.ensures c.if-asked-eq-INSERT.false c.if-asked-eq-DELETE.false in
    let few =
    lookup_few 32 (g.M.NodeRead.nodes c.args.table.now.memory) (g.met.M.NodeRead.laws.within c.args.table.now.memory).few
    (option_map strides_of c.args.table.now.plan) c.args.table.now.front c.args.table.now.routes c.args.table.now.required plain at (row 32 c.address_in.result.bits) (length_row 32 c.address_in.result.bits) stands in
    c.told_lookup.ensures (visited_few (λ a. row 32 a.bits) c.lookup.result (subst Few (sym is) few)) ∙ ap told is
    ∙ ap (λ x. told (answer 32 (g.M.NodeRead.nodes c.args.table.now.memory).size plain x)) (sym asks)

pub returns-else-asked-eq-DELETE-clause-after : goal.returns-else-asked-eq-DELETE-clause-after
returns-else-asked-eq-DELETE-clause-after g c plain at stands =
    let size = (g.M.NodeRead.nodes c.args.table.now.memory).size in
    let asks = is_lookup c.args.call c.address_in.result.bits c.address_in.ensures c.if-asked-eq-INSERT.false c.if-asked-eq-DELETE.false in
    subst (λ (x : Call). Stands g.M.NodeRead.nodes 32 c.lookup.new.self (after 32 size plain x) (placed 32 size plain at x)) (sym asks)
    (looked_up 32 size plain at (row 32 c.address_in.result.bits) (Stands g.M.NodeRead.nodes 32 c.lookup.new.self) (c.lookup.ensures.after plain at stands))
