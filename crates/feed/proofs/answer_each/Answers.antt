use Rattle.std.proofs.Common.{◌+◌, ◌∙◌, [], ap, subst, sym, rules, slice_index, take}
use Rattle.model.specs.Calls.{answer, after, holding, Plain}
use Rattle.model.specs.Placements.{Placement, opened_placement}
use Rattle.table.specs.Placed.{placed}
use Rattle.table.specs.Stands.{Stands}
use Rattle.feed.specs.Fed.{call_of, list_after, placement_after, told}
use Rattle.feed.proofs.Feeds.{list_more, placement_more, told_more}
use Rattle.feed.proofs.answer_each.Goals as goal

pub loop-i-preserved : goal.loop-i-preserved
loop-i-preserved g c =
    let kept = c.loop-i.invariant in
    let size = (g.M.NodeRead.nodes c.args.table.now.memory).size in
    let size_is = g.met.M.NodeRead.laws.always_size c.args.table.now.memory c.loop-i.table.memory kept.always in
    let calls = c.args.calls.now in
    let i = c.loop-i.i in
    let call = call_of (slice_index calls i) in
    record {
      always =
          g.met.M.NodeRead.laws.always_then c.args.table.now.memory c.loop-i.table.memory c.answer_one.new.table.memory kept.always c.answer_one.ensures.always;
      size = search rules;
      answers = λ strides start.
          let plain = list_after size strides (take i calls) in
          let at = placement_after size strides (take i calls) in
          told_more size strides calls c.args.answers.now i c.loop-i.answers c.answer_one.result (kept.answers strides start) (search rules)
          (c.answer_one.ensures.answer plain at (kept.stands strides start) ∙ ap (λ n. told (answer 32 n plain call)) size_is);
      stands = λ strides start.
          let plain = list_after size strides (take i calls) in
          let at = placement_after size strides (take i calls) in
          subst (λ (p : Plain). Stands g.M.NodeRead.nodes 32 c.answer_one.new.table p (placement_after size strides (take (i + 1) calls))) (sym (list_more 32 size (holding strides []) calls i (search rules)))
          (subst (λ (a : Placement). Stands g.M.NodeRead.nodes 32 c.answer_one.new.table (after 32 size plain call) a)
          (sym (placement_more 32 size (holding strides []) (opened_placement size) calls i (search rules)))
          (subst (λ n. Stands g.M.NodeRead.nodes 32 c.answer_one.new.table (after 32 n plain call) (placed 32 n plain at call)) size_is
          (c.answer_one.ensures.after plain at (kept.stands strides start))));
    }
