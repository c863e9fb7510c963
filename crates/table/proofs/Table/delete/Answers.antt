use Rattle.std.proofs.Common.{ap, rules}
use Rattle.std.specs.Option.{option_map}
use Rattle.growth.proofs.Taken.{not_refused}
use Rattle.plan.specs.Strides.{strides_of}
use Rattle.model.specs.Calls.{Plain}
use Rattle.model.specs.Placements.{Placement}
use Rattle.table.specs.Stands.{Stands}
use Rattle.table.proofs.Deletions.{answers_absent, answers_deleted, climbed_alone, climbs, hop_there, never, no_hop, place_free, place_there, stands_later, stays, trailed}
use Rattle.table.proofs.Table.delete.Goals as goal

pub returns-in_err-hop-clause-answer : goal.returns-in_err-hop-clause-answer
returns-in_err-hop-clause-answer g c plain at stands =
    let t =
    trailed (ap (option_map strides_of) c.in-Some.is) (g.met.A.Address.long c.args.prefix.address) (rw c.in_ok-prefix.ensures at c.in_ok-prefix.prefix.sound)
    (rw c.in_ok-prefix.ensures at c.in_ok-trail_to.ensures.shown)
    (g.met.M.NodeRead.laws.still_nodes c.args.self.now.memory c.trail_to.new.memory c.trail_to.ensures.still) plain at stands in
    let none = no_hop c.trail_to.new.trail.hop c.of_table-2.result c.in_err-hop.ensures.value in
    rw (answers_absent t none) (search rules)

pub returns-in_err-hop-clause-after : goal.returns-in_err-hop-clause-after
returns-in_err-hop-clause-after g c plain at stands =
    let t =
    trailed (ap (option_map strides_of) c.in-Some.is) (g.met.A.Address.long c.args.prefix.address) (rw c.in_ok-prefix.ensures at c.in_ok-prefix.prefix.sound)
    (rw c.in_ok-prefix.ensures at c.in_ok-trail_to.ensures.shown)
    (g.met.M.NodeRead.laws.still_nodes c.args.self.now.memory c.trail_to.new.memory c.trail_to.ensures.still) plain at stands in
    let none = no_hop c.trail_to.new.trail.hop c.of_table-2.result c.in_err-hop.ensures.value in
    stays t none (option_map strides_of c.args.self.now.plan) stands

pub returns-in_err-unmark : goal.returns-in_err-unmark
returns-in_err-unmark g c =
    let wrong : (plain : Plain) (at : Placement) → Stands g.M.NodeRead.nodes g.A.Address.WIDTH c.args.self.now plain at → ⊥ =
    (λ plain at stands.
    let t =
    trailed (ap (option_map strides_of) c.in-Some.is) (g.met.A.Address.long c.args.prefix.address) (rw c.in_ok-prefix.ensures at c.in_ok-prefix.prefix.sound)
    (rw c.in_ok-prefix.ensures at c.in_ok-trail_to.ensures.shown)
    (g.met.M.NodeRead.laws.still_nodes c.args.self.now.memory c.trail_to.new.memory c.trail_to.ensures.still) plain at stands in
    let some = hop_there c.trail_to.new.trail.hop c.of_table-2.result c.in_ok-hop.ensures.value in
    never (c.in_err-unmark.ensures.done (place_there t some c.last.ensures) (place_free t some c.last.ensures)).0) in
    record {
      answer = λ plain at stands. absurd (wrong plain at stands);
      after = λ plain at stands. absurd (wrong plain at stands);
      refused = λ plain at stands. absurd (wrong plain at stands);
      always = g.met.M.NodeRead.laws.always_then c.args.self.now.memory c.trail_to.new.memory c.unmark.new.memory (g.met.M.NodeRead.laws.still_always c.args.self.now.memory c.trail_to.new.memory c.trail_to.ensures.still) c.unmark.ensures.always;
    }

pub returns-in_err-front : goal.returns-in_err-front
returns-in_err-front g c =
    let wrong : (plain : Plain) (at : Placement) → Stands g.M.NodeRead.nodes g.A.Address.WIDTH c.args.self.now plain at → ⊥ =
    (λ plain at stands.
    let t =
    trailed (ap (option_map strides_of) c.in-Some.is) (g.met.A.Address.long c.args.prefix.address) (rw c.in_ok-prefix.ensures at c.in_ok-prefix.prefix.sound)
    (rw c.in_ok-prefix.ensures at c.in_ok-trail_to.ensures.shown)
    (g.met.M.NodeRead.laws.still_nodes c.args.self.now.memory c.trail_to.new.memory c.trail_to.ensures.still) plain at stands in
    let some = hop_there c.trail_to.new.trail.hop c.of_table-2.result c.in_ok-hop.ensures.value in
    let unmarked = c.in_ok-unmark.ensures.done (place_there t some c.last.ensures) (place_free t some c.last.ensures) in
    let starts = climbs t some c.last.ensures unmarked.1 c.as_slice.ensures.value c.as_slice-2.ensures.value in
    not_refused (c.in_err-front.ensures.climbed _ _ _ _ _ starts).0) in
    record {
      answer = λ plain at stands. absurd (wrong plain at stands);
      after = λ plain at stands. absurd (wrong plain at stands);
      refused = λ plain at stands. absurd (wrong plain at stands);
      always =
          g.met.M.NodeRead.laws.always_then c.args.self.now.memory c.unmark.new.memory c.climb.new.memory
          (g.met.M.NodeRead.laws.always_then c.args.self.now.memory c.trail_to.new.memory c.unmark.new.memory (g.met.M.NodeRead.laws.still_always c.args.self.now.memory c.trail_to.new.memory c.trail_to.ensures.still) c.unmark.ensures.always) c.climb.ensures.always;
    }

pub returns-clause-answer : goal.returns-clause-answer
returns-clause-answer g c plain at stands =
    let t =
    trailed (ap (option_map strides_of) c.in-Some.is) (g.met.A.Address.long c.args.prefix.address) (rw c.in_ok-prefix.ensures at c.in_ok-prefix.prefix.sound)
    (rw c.in_ok-prefix.ensures at c.in_ok-trail_to.ensures.shown)
    (g.met.M.NodeRead.laws.still_nodes c.args.self.now.memory c.trail_to.new.memory c.trail_to.ensures.still) plain at stands in
    let some = hop_there c.trail_to.new.trail.hop c.of_table-2.result c.in_ok-hop.ensures.value in
    let unmarked = c.in_ok-unmark.ensures.done (place_there t some c.last.ensures) (place_free t some c.last.ensures) in
    let starts = climbs t some c.last.ensures unmarked.1 c.as_slice.ensures.value c.as_slice-2.ensures.value in
    let done = c.in_ok-front.ensures.climbed _ _ _ _ _ starts in
    let is = climbed_alone done.0 in
    answers_deleted t some c.last.ensures unmarked.1 is.1

pub returns-clause-after : goal.returns-clause-after
returns-clause-after g c plain at stands =
    let t =
    trailed (ap (option_map strides_of) c.in-Some.is) (g.met.A.Address.long c.args.prefix.address) (rw c.in_ok-prefix.ensures at c.in_ok-prefix.prefix.sound)
    (rw c.in_ok-prefix.ensures at c.in_ok-trail_to.ensures.shown)
    (g.met.M.NodeRead.laws.still_nodes c.args.self.now.memory c.trail_to.new.memory c.trail_to.ensures.still) plain at stands in
    let some = hop_there c.trail_to.new.trail.hop c.of_table-2.result c.in_ok-hop.ensures.value in
    let unmarked = c.in_ok-unmark.ensures.done (place_there t some c.last.ensures) (place_free t some c.last.ensures) in
    let starts = climbs t some c.last.ensures unmarked.1 c.as_slice.ensures.value c.as_slice-2.ensures.value in
    let done = c.in_ok-front.ensures.climbed _ _ _ _ _ starts in
    let is = climbed_alone done.0 in
    rw (c.saturating_sub-self.ensures, c.saturating_sub-self-2.ensures)
    (stands_later t some c.last.ensures unmarked.1 is.1 (ap (option_map strides_of) c.in-Some.is) is.0 done.1)
