use Rattle.std.proofs.Common.{◌≡◌, ◌%◌, true, ◌&&◌, leb, ltb, Err, ap, ◌∙◌, subst, leb-true, ltb-true}
use Rattle.std.proofs.lemmas.Bool.{and_parts, eq-eqb}
use Rattle.masks.specs.Marks.{without_mark}
use Rattle.model.specs.Nodes.{Nodes}
use Rattle.nodes.specs.Fields.{fits_bitmap, is_node, write_bitmap}
use Rattle.nodes.proofs.Readings.{granted, never_refused}
use Rattle.growth.proofs.Evens.{unmarked_even}
use Rattle.growth.proofs.marks.unmark.Goals as goal

-- the new bitmap is never refused
pub returns-in_err-set_bitmap-clause-done : goal.returns-in_err-set_bitmap-clause-done
returns-in_err-set_bitmap-clause-done g c there clean =
    let N = g.M.NodeRead.nodes c.args.memory.now in
    let n = c.args.node in
    let j = c.args.position in
    let parts = and_parts (is_node N n) (leb 1 j && ltb j 64) there in
    let bounds = and_parts (leb 1 j) (ltb j 64) parts.1 in
    let some = leb-true 1 j bounds.0 in
    let low = ltb-true j 64 bounds.1 in
    let same : g.M.NodeRead.nodes c.bitmap.new.self ≡ N = g.met.M.NodeRead.laws.still_nodes c.args.memory.now c.bitmap.new.self c.bitmap.ensures.still in
    let read = granted (is_node N n) (N.bitmap n) c.in_ok-bitmap.bitmap c.in_ok-bitmap.ensures.answer in
    let value : c.without_mark.result ≡ without_mark (N.bitmap n) j = c.without_mark.ensures ∙ ap (λ b. without_mark b j) read.1 in
    let even : fits_bitmap c.without_mark.result ≡ true = eq-eqb (c.without_mark.result % 2) 0 (ap (λ b. b % 2) value ∙ unmarked_even (N.bitmap n) j clean some) in
    absurd (never_refused (is_node N n) (fits_bitmap c.without_mark.result) c.in_err-set_bitmap.field-0.0 parts.0 even
    (subst (λ (m : Nodes). Err c.in_err-set_bitmap.field-0.0 ≡ write_bitmap m n c.without_mark.result) same c.in_err-set_bitmap.ensures.answer))
