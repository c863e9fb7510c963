use Rattle.std.proofs.Common.{[], length, min, take, ap, subst, sym, ◌∙◌}
use Rattle.model.specs.Calls.{Plain, answer, holding, open_with, opened, shut}
use Rattle.model.specs.Outcomes.{is_granted}
use Rattle.model.specs.Placements.{opened_placement}
use Rattle.table.specs.Stands.{Stands}
use Rattle.walks.specs.Shows.{Shows}
use Rattle.feed.specs.Fed.{Answered, list_after, placement_after, routes_of}
use Rattle.feed.proofs.Asked.{plan_stays}
use Rattle.feed.proofs.Feeds.{granted_ok, never, on_ok}
use Rattle.feed.proofs.feed.Goals.{else-opened, then-opened}
use Rattle.feed.proofs.feed.Goals as goal

pub returns-clause-opened : goal.returns-clause-opened
returns-clause-opened g c =
    c.is_ok-opened.ensures.value ∙ granted_ok (λ u. opened) c.open.result ∙ ap is_granted (c.open.ensures.answer shut)
    ∙ ap (λ m. is_granted (answer 32 (g.M.NodeRead.nodes m).size shut (open_with c.args.strides.now))) (c.new-table.ensures.memory ∙ c.replace.ensures.value)

pub returns-clause-answers : goal.returns-clause-answers
returns-clause-answers g c granted = elim c.if-opened.branch [
  | then-opened w ↦
      let strides = c.args.strides.now in
      let size_is = g.met.M.NodeRead.laws.always_size c.new-table.result.memory c.open.new.self.memory c.open.ensures.always in
      let size_was = ap (λ m. (g.M.NodeRead.nodes m).size) (c.new-table.ensures.memory ∙ c.replace.ensures.value) in
      let stands = on_ok c.open.result (sym c.is_ok-opened.ensures.value ∙ granted) c.open.ensures.opened in
      let starts = subst (λ n. Stands g.M.NodeRead.nodes 32 c.open.new.self (holding strides []) (opened_placement n)) (sym size_is) stands in
      subst (λ xs. Answered (g.M.NodeRead.nodes c.args.memory.now).size strides c.args.calls.now c.args.answers.now (min (length c.args.calls.now) (length c.args.answers.now)) xs)
      (sym w.answers-is)
      (subst (λ n. Answered n strides c.args.calls.now c.args.answers.now (min (length c.args.calls.now) (length c.args.answers.now)) w.answer_each.new.answers)
      (size_is ∙ size_was) (w.answer_each.ensures.answers strides starts))
  | else-opened w ↦ absurd (never (sym w.if-opened.false ∙ granted))
]

pub returns-clause-shows : goal.returns-clause-shows
returns-clause-shows g c granted = elim c.if-opened.branch [
  | then-opened w ↦
      let strides = c.args.strides.now in
      let calls = take (length c.args.answers.now) c.args.calls.now in
      let size_is = g.met.M.NodeRead.laws.always_size c.new-table.result.memory c.open.new.self.memory c.open.ensures.always in
      let size_was = ap (λ m. (g.M.NodeRead.nodes m).size) (c.new-table.ensures.memory ∙ c.replace.ensures.value) in
      let stands = on_ok c.open.result (sym c.is_ok-opened.ensures.value ∙ granted) c.open.ensures.opened in
      let starts = subst (λ n. Stands g.M.NodeRead.nodes 32 c.open.new.self (holding strides []) (opened_placement n)) (sym size_is) stands in
      let ends =
      subst (λ n. Stands g.M.NodeRead.nodes 32 w.answer_each.new.table (list_after n strides calls) (placement_after n strides calls)) (size_is ∙ size_was)
      (w.answer_each.ensures.after strides starts) in
      let size = (g.M.NodeRead.nodes c.args.memory.now).size in
      let holds = subst (λ (p : Plain). Stands g.M.NodeRead.nodes 32 w.answer_each.new.table p (placement_after size strides calls)) (plan_stays size strides calls) ends in
      subst (λ m. Shows 32 (g.M.NodeRead.nodes m) strides (routes_of (list_after size strides calls)) (placement_after size strides calls))
      (sym (c.into_memory.ensures ∙ ap (λ t. t.memory) w.table-is)) holds.shows
  | else-opened w ↦ absurd (never (sym w.if-opened.false ∙ granted))
]
