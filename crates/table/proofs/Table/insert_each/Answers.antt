use Rattle.std.proofs.Common.{◌≡◌, ℕ, suc, ◌+◌, ◌-◌, Some, Option, refl, ap, sym, ◌∙◌, subst, arith}
use Rattle.std.specs.Option.{option_map}
use Rattle.model.specs.Bytes.{Bytes}
use Rattle.model.specs.Calls.{after, answer, holding, insert}
use Rattle.model.specs.Outcomes.{outcome}
use Rattle.model.specs.Placements.{after_inserts}
use Rattle.model.specs.Reading.{series}
use Rattle.model.specs.Routes.{Route}
use Rattle.model.specs.Sheets.{read_route}
use Rattle.routes.specs.Meant.{meant}
use Rattle.table.specs.Answers.{insert_answer}
use Rattle.table.specs.Placed.{placed}
use Rattle.table.specs.Stands.{Stands}
use Rattle.table.proofs.Loadings.{Loading, loading_last, loading_more, read_passes, step_passes}
use Rattle.table.proofs.Table.insert_each.Goals as goal

pub returns-in_err-route-clause-inserted : goal.returns-in_err-route-clause-inserted
returns-in_err-route-clause-inserted g c plan at held end stands first reads order room =
    let W = g.A.Address.WIDTH in
    let nodes = g.M.NodeRead.nodes in
    let f = c.in_err-route.field-0.0 in
    let left = c.args.count - (c.loop.counter + 1) in
    let one_less : c.args.count - c.loop.counter ≡ suc left = omega (arith, c.loop-test.true) in
    let last = option_map (meant g.A.Address.bits) c.loop.routes.last in
    let bytes = c.loop.routes.reader.bytes.now in
    let place = c.loop.routes.reader.place in
    let here : Loading nodes W plan at held end c.loop.self (series (read_route W) last (suc left) bytes place) =
    subst (λ (k : ℕ). Loading nodes W plan at held end c.loop.self (series (read_route W) last k bytes place)) one_less
    (c.loop.invariant.loading plan at held end stands first reads order room) in
    read_passes nodes W (nodes c.args.self.now.memory).size plan at held end c.loop.self last left bytes place here _ _ _ c.in_err-route.ensures.read

pub returns-in_err-insert-clause-inserted : goal.returns-in_err-insert-clause-inserted
returns-in_err-insert-clause-inserted g c plan at held end stands first reads order room =
    let W = g.A.Address.WIDTH in
    let bits = g.A.Address.bits in
    let nodes = g.M.NodeRead.nodes in
    let N = (nodes c.args.self.now.memory).size in
    let f = c.in_err-insert.field-0.0 in
    let left = c.args.count - (c.loop.counter + 1) in
    let one_less : c.args.count - c.loop.counter ≡ suc left = omega (arith, c.loop-test.true) in
    let last = option_map (meant bits) c.loop.routes.last in
    let bytes = c.loop.routes.reader.bytes.now in
    let place = c.loop.routes.reader.place in
    let here : Loading nodes W plan at held end c.loop.self (series (read_route W) last (suc left) bytes place) =
    subst (λ (k : ℕ). Loading nodes W plan at held end c.loop.self (series (read_route W) last k bytes place)) one_less
    (c.loop.invariant.loading plan at held end stands first reads order room) in
    let route = c.in_ok-route.route in
    let size = g.met.M.NodeRead.laws.always_size c.args.self.now.memory c.loop.self.memory c.loop.invariant.always in
    step_passes nodes W N plan at held end c.loop.self last left bytes place here (bits route.prefix.address) route.prefix.length route.hop c.next.new.self.reader.place
    (g.met.A.Address.long route.prefix.address) route.sound route.small c.in_ok-route.ensures.read order room _ _ _
    (ap (outcome insert_answer) (sym c.in_err-insert.was)
    ∙ c.insert.ensures.answer (holding plan here.held) (after_inserts plan here.held at) here.stands
    ∙ ap (λ (n : ℕ). answer W n (holding plan here.held) (insert (bits route.prefix.address) route.prefix.length route.hop)) size)

pub loop-preserved : goal.loop-preserved
loop-preserved g c =
    let W = g.A.Address.WIDTH in
    let bits = g.A.Address.bits in
    let nodes = g.M.NodeRead.nodes in
    let N = (nodes c.args.self.now.memory).size in
    let left = c.args.count - (c.loop.counter + 1) in
    let one_less : c.args.count - c.loop.counter ≡ suc left = omega (arith, c.loop-test.true) in
    let last = option_map (meant bits) c.loop.routes.last in
    let bytes = c.loop.routes.reader.bytes.now in
    let place = c.loop.routes.reader.place in
    let route = c.in_ok-route.route in
    let size = g.met.M.NodeRead.laws.always_size c.args.self.now.memory c.loop.self.memory c.loop.invariant.always in
    record {
      loading = λ plan at held end stands first reads order room.
          let here : Loading nodes W plan at held end c.loop.self (series (read_route W) last (suc left) bytes place) =
          subst (λ (k : ℕ). Loading nodes W plan at held end c.loop.self (series (read_route W) last k bytes place)) one_less
          (c.loop.invariant.loading plan at held end stands first reads order room) in
          let then =
          loading_more nodes W N plan at held end c.loop.self last left bytes place here (bits route.prefix.address) route.prefix.length route.hop c.next.new.self.reader.place
          (g.met.A.Address.long route.prefix.address) route.sound route.small c.in_ok-route.ensures.read order room c.insert.new.self
          (subst
          (λ (n : ℕ). Stands nodes W c.insert.new.self (after W n (holding plan here.held) (insert (bits route.prefix.address) route.prefix.length route.hop))
          (placed W n (holding plan here.held) (after_inserts plan here.held at) (insert (bits route.prefix.address) route.prefix.length route.hop)))
          size (c.insert.ensures.after (holding plan here.held) (after_inserts plan here.held at) here.stands)) in
          let after_it : option_map (meant bits) c.next.new.self.last ≡ Some (meant bits route) = ap (option_map (meant bits)) c.in_ok-route.ensures.last in
          subst (λ (l : Option Route). Loading nodes W plan at held end c.insert.new.self (series (read_route W) l left c.next.new.self.reader.bytes.now c.next.new.self.reader.place))
          (sym after_it)
          (subst (λ (b : Bytes). Loading nodes W plan at held end c.insert.new.self (series (read_route W) (Some (meant bits route)) left b c.next.new.self.reader.place))
          (sym c.in_ok-route.ensures.bytes) then);
      always =
          g.met.M.NodeRead.laws.always_then c.args.self.now.memory c.loop.self.memory c.insert.new.self.memory c.loop.invariant.always c.insert.ensures.always;
    }

pub returns-clause-inserted : goal.returns-clause-inserted
returns-clause-inserted g c plan at held end stands first reads order room =
    let W = g.A.Address.WIDTH in
    let nodes = g.M.NodeRead.nodes in
    let last = option_map (meant g.A.Address.bits) c.loop.routes.last in
    let bytes = c.loop.routes.reader.bytes.now in
    let place = c.loop.routes.reader.place in
    let none_left : c.args.count - c.loop.counter ≡ 0 = omega (arith, c.loop-test.false) in (
      refl,
      loading_last nodes W (nodes c.args.self.now.memory).size plan at held end c.loop.self last bytes place
          (subst (λ (k : ℕ). Loading nodes W plan at held end c.loop.self (series (read_route W) last k bytes place)) none_left
          (c.loop.invariant.loading plan at held end stands first reads order room)),
    )
