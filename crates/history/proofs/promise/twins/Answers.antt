use Rattle.std.proofs.Common.{◌≡◌, ℕ, map, ap, sym, ◌∙◌, subst}
use Rattle.std.proofs.lemmas.Bool.{and_parts}
use Rattle.model.specs.Calls.{Plain, after, after_all, holding, open_with, shut}
use Rattle.model.specs.Placements.{opened_placement}
use Rattle.table.specs.Placed.{placed, placed_all}
use Rattle.table.specs.Stands.{Stands}
use Rattle.history.specs.Asked.{call_of, inserts}
use Rattle.history.proofs.Feeding.{fed}
use Rattle.history.proofs.Meeting.{meets}
use Rattle.history.proofs.Runs.{Comes, comes}
use Rattle.history.proofs.Uses.{all_told}
use Rattle.history.proofs.promise.twins.Goals as goal

pub returns-clause-history_cannot_be_told : goal.returns-clause-history_cannot_be_told
returns-clause-history_cannot_be_told g c held done sizes e d =
    let W = g.A.Address.WIDTH in
    let bits = g.A.Address.bits in
    let P = g.P.NodeRead.nodes in
    let Q = g.Q.NodeRead.nodes in
    let N = (P c.args.first).size in
    let plan = c.args.plan.now in
    let h = map (call_of bits) c.args.history.now in
    let at = opened_placement N in
    let some = and_parts c.run-met.result _ done in
    let both = and_parts c.run-told.result c.run-told_of_second.result some.1 in
    -- the first table, after its history
    let one_size : (P c.new-one.result.memory).size ≡ N = ap (λ m. (P m).size) c.new-one.ensures.memory in
    let past = c.run-met.ensures.runs some.0 in
    let came : Comes P bits W N shut at c.args.history.now past.answers c.run-met.new.table =
    subst (λ (n : ℕ). Comes P bits W n shut at c.args.history.now past.answers c.run-met.new.table) one_size
    (comes P bits W shut at (c.new-one.ensures.shut at) past.runs) in
    let stands_first : Stands P W c.run-met.new.table (holding plan held) (placed_all W N shut at h) =
    subst (λ (p : Plain). Stands P W c.run-met.new.table p (placed_all W N shut at h)) e came.stands in
    -- the second, opened and fed
    let two_size : (Q c.new-two.result.memory).size ≡ N = ap (λ m. (Q m).size) c.new-two.ensures.memory ∙ sym sizes in
    let opened_size : (Q c.open.new.self.memory).size ≡ N =
    g.met.Q.NodeRead.laws.always_size c.new-two.result.memory c.open.new.self.memory c.open.ensures.always ∙ two_size in
    let fed_size : (Q c.insert_each.new.table.memory).size ≡ N =
    g.met.Q.NodeRead.laws.always_size c.open.new.self.memory c.insert_each.new.table.memory c.insert_each.ensures.always ∙ opened_size in
    let then = after W N shut (open_with plan) in
    let place = placed W N shut at (open_with plan) in
    let opened : Stands Q W c.open.new.self then place =
    subst (λ (n : ℕ). Stands Q W c.open.new.self (after W n shut (open_with plan)) (placed W n shut at (open_with plan))) two_size
    (c.open.ensures.after shut at (c.new-two.ensures.shut at)) in
    let stands_second : Stands Q W c.insert_each.new.table (holding plan held) (placed_all W N then place (inserts bits c.args.routes.now)) =
    subst (λ (p : Plain). Stands Q W c.insert_each.new.table p (placed_all W N then place (inserts bits c.args.routes.now)))
    (fed W g.met.A.Address.long N h plan held c.args.routes.now e d)
    (subst
    (λ (n : ℕ). Stands Q W c.insert_each.new.table (after_all W n then (inserts bits c.args.routes.now)) (placed_all W n then place (inserts bits c.args.routes.now)))
    opened_size (c.insert_each.ensures.after then place opened)) in
    let first =
    meets P bits W N (holding plan held) (placed_all W N shut at h) c.args.further.now c.args.answers.now c.run-told.new.answers c.run-met.new.table
    c.run-told.new.table came.size stands_first (c.run-told.ensures.runs both.0) in
    let second =
    meets Q bits W N (holding plan held) (placed_all W N then place (inserts bits c.args.routes.now)) c.args.further.now c.args.answers_of_second.now
    c.run-told_of_second.new.answers c.insert_each.new.table c.run-told_of_second.new.table fed_size stands_second (c.run-told_of_second.ensures.runs both.1) in
    record {
      first = first;
      second = second;
      same_answers = first.answers ∙ sym second.answers;
      told = all_told bits W N g.met.A.Address.long h (holding plan held) (sym e) c.args.further.now;
    }

pub returns-clause-past : goal.returns-clause-past
returns-clause-past g c done =
    let W = g.A.Address.WIDTH in
    let bits = g.A.Address.bits in
    let P = g.P.NodeRead.nodes in
    let N = (P c.args.first).size in
    let at = opened_placement N in
    let past = c.run-met.ensures.runs (and_parts c.run-met.result _ done).0 in
    let size : (P c.new-one.result.memory).size ≡ N = ap (λ m. (P m).size) c.new-one.ensures.memory in
    let came : Comes P bits W N shut at c.args.history.now past.answers c.run-met.new.table =
    subst (λ (n : ℕ). Comes P bits W n shut at c.args.history.now past.answers c.run-met.new.table) size
    (comes P bits W shut at (c.new-one.ensures.shut at) past.runs) in
    record { answers = past.answers; is = past.is; told = came.answers }

pub returns-clause-without_room : goal.returns-clause-without_room
returns-clause-without_room g c = (
  λ e. (c.run-met.ensures.refused (c.run-met.ensures.room ∙ e)).1,
  (
    λ e. (c.run-told.ensures.refused (c.run-told.ensures.room ∙ e)).1,
    λ e. (c.run-told_of_second.ensures.refused (c.run-told_of_second.ensures.room ∙ e)).1,
  ),
)

pub returns-clause-always : goal.returns-clause-always
returns-clause-always g c =
    let P = g.P.NodeRead.always in
    let Q = g.Q.NodeRead.always in
    let laws_of_first = g.met.P.NodeRead.laws in
    let laws = g.met.Q.NodeRead.laws in (
      subst (λ m. P m c.run-told.new.table.memory) c.new-one.ensures.memory
          (laws_of_first.always_then c.new-one.result.memory c.run-met.new.table.memory c.run-told.new.table.memory c.run-met.ensures.always c.run-told.ensures.always),
      subst (λ m. Q m c.run-told_of_second.new.table.memory) c.new-two.ensures.memory
          (laws.always_then c.new-two.result.memory c.insert_each.new.table.memory c.run-told_of_second.new.table.memory
          (laws.always_then c.new-two.result.memory c.open.new.self.memory c.insert_each.new.table.memory c.open.ensures.always c.insert_each.ensures.always)
          c.run-told_of_second.ensures.always),
    )
