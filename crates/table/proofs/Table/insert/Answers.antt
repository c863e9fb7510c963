use Rattle.std.proofs.Common.{◌≡◌, cond, ap, sym, rules}
use Rattle.std.specs.Option.{option_map}
use Rattle.growth.proofs.Taken.{not_refused, ok_alone}
use Rattle.plan.specs.Strides.{strides_of}
use Rattle.model.specs.Calls.{Plain}
use Rattle.model.specs.Placements.{Placement}
use Rattle.table.specs.Stands.{Stands}
use Rattle.table.proofs.Insertions.{answers_full, answers_inserted, position_is, stands_later, starts, stays, trailed}
use Rattle.table.proofs.Table.insert.Goals as goal

pub returns-then-taken-saturating_sub-clause-answer : goal.returns-then-taken-saturating_sub-clause-answer
returns-then-taken-saturating_sub-clause-answer g c plain at stands =
    let t =
    trailed (ap (option_map strides_of) c.in-Some.is) (g.met.A.Address.long c.args.prefix.address) (rw c.in_ok-prefix.ensures.0 at c.in_ok-prefix.field-0.sound)
    (rw c.in_ok-prefix.ensures.1 at c.in_ok-prefix.field-0.small)
    (rw c.in_ok-prefix.ensures.0 at c.in_ok-trail_to.ensures.shown)
    c.missing-missing.ensures c.size-size.ensures.answer
    (g.met.M.NodeRead.laws.still_nodes c.args.self.now.memory c.trail_to.new.memory c.trail_to.ensures.still) plain at stands in
    rw (sym (answers_full t c.saturating_sub.ensures c.if-taken-saturating_sub.true)) (search rules)

pub returns-then-taken-saturating_sub-clause-after : goal.returns-then-taken-saturating_sub-clause-after
returns-then-taken-saturating_sub-clause-after g c plain at stands =
    let t =
    trailed (ap (option_map strides_of) c.in-Some.is) (g.met.A.Address.long c.args.prefix.address) (rw c.in_ok-prefix.ensures.0 at c.in_ok-prefix.field-0.sound)
    (rw c.in_ok-prefix.ensures.1 at c.in_ok-prefix.field-0.small)
    (rw c.in_ok-prefix.ensures.0 at c.in_ok-trail_to.ensures.shown)
    c.missing-missing.ensures c.size-size.ensures.answer
    (g.met.M.NodeRead.laws.still_nodes c.args.self.now.memory c.trail_to.new.memory c.trail_to.ensures.still) plain at stands in
    stays t c.saturating_sub.ensures c.if-taken-saturating_sub.true (option_map strides_of c.args.self.now.plan)
    (g.met.M.NodeRead.laws.still_nodes c.args.self.now.memory c.size-size.new.self
    (g.met.M.NodeRead.laws.still_then c.args.self.now.memory c.trail_to.new.memory c.size-size.new.self c.trail_to.ensures.still c.size-size.ensures.still))
    stands

-- the tree is never refused its nodes
pub returns-in_err-self : goal.returns-in_err-self
returns-in_err-self g c =
    let wrong : (plain : Plain) (at : Placement) → Stands g.M.NodeRead.nodes g.A.Address.WIDTH c.args.self.now plain at → ⊥ =
    (λ plain at stands.
    let t =
    trailed (ap (option_map strides_of) c.in-Some.is) (g.met.A.Address.long c.args.prefix.address) (rw c.in_ok-prefix.ensures.0 at c.in_ok-prefix.field-0.sound)
    (rw c.in_ok-prefix.ensures.1 at c.in_ok-prefix.field-0.small)
    (rw c.in_ok-prefix.ensures.0 at c.in_ok-trail_to.ensures.shown)
    c.missing-missing.ensures c.size-size.ensures.answer
    (g.met.M.NodeRead.laws.still_nodes c.args.self.now.memory c.trail_to.new.memory c.trail_to.ensures.still) plain at stands in
    let first = starts t c.saturating_sub.ensures c.if-taken-saturating_sub.false (g.met.M.NodeRead.laws.still_nodes c.args.self.now.memory c.size-size.new.self
    (g.met.M.NodeRead.laws.still_then c.args.self.now.memory c.trail_to.new.memory c.size-size.new.self c.trail_to.ensures.still c.size-size.ensures.still)) c.last.ensures in
    not_refused (c.in_err-self.ensures.entered _ _ _ _ _ _ first.1 (position_is t) c.in_ok-prefix.field-0.small).0) in
    record {
      answer = λ plain at stands. absurd (wrong plain at stands);
      after = λ plain at stands. absurd (wrong plain at stands);
      refused = λ plain at stands. absurd (wrong plain at stands);
      always = g.met.M.NodeRead.laws.always_then c.args.self.now.memory c.size-size.new.self c.enter.new.memory
          (g.met.M.NodeRead.laws.still_always c.args.self.now.memory c.size-size.new.self
          (g.met.M.NodeRead.laws.still_then c.args.self.now.memory c.trail_to.new.memory c.size-size.new.self c.trail_to.ensures.still c.size-size.ensures.still))
          c.enter.ensures.always;
    }

pub returns-clause-answer : goal.returns-clause-answer
returns-clause-answer g c plain at stands =
    let t =
    trailed (ap (option_map strides_of) c.in-Some.is) (g.met.A.Address.long c.args.prefix.address) (rw c.in_ok-prefix.ensures.0 at c.in_ok-prefix.field-0.sound)
    (rw c.in_ok-prefix.ensures.1 at c.in_ok-prefix.field-0.small)
    (rw c.in_ok-prefix.ensures.0 at c.in_ok-trail_to.ensures.shown)
    c.missing-missing.ensures c.size-size.ensures.answer
    (g.met.M.NodeRead.laws.still_nodes c.args.self.now.memory c.trail_to.new.memory c.trail_to.ensures.still) plain at stands in
    answers_inserted t c.saturating_sub.ensures c.if-taken-saturating_sub.false

pub returns-clause-after : goal.returns-clause-after
returns-clause-after g c plain at stands =
    let t =
    trailed (ap (option_map strides_of) c.in-Some.is) (g.met.A.Address.long c.args.prefix.address) (rw c.in_ok-prefix.ensures.0 at c.in_ok-prefix.field-0.sound)
    (rw c.in_ok-prefix.ensures.1 at c.in_ok-prefix.field-0.small)
    (rw c.in_ok-prefix.ensures.0 at c.in_ok-trail_to.ensures.shown)
    c.missing-missing.ensures c.size-size.ensures.answer
    (g.met.M.NodeRead.laws.still_nodes c.args.self.now.memory c.trail_to.new.memory c.trail_to.ensures.still) plain at stands in
    let same = (g.met.M.NodeRead.laws.still_nodes c.args.self.now.memory c.size-size.new.self
    (g.met.M.NodeRead.laws.still_then c.args.self.now.memory c.trail_to.new.memory c.size-size.new.self c.trail_to.ensures.still c.size-size.ensures.still)) in
    let first = starts t c.saturating_sub.ensures c.if-taken-saturating_sub.false same c.last.ensures in
    let done = c.in_ok-self.ensures.entered _ _ _ _ _ _ first.1 (position_is t) c.in_ok-prefix.field-0.small in
    let from_is : c.from.result ≡ cond c.is_none.result 1 0 = search rules in
    stands_later t c.saturating_sub.ensures c.if-taken-saturating_sub.false c.is_none.result (ap (option_map strides_of) c.in-Some.is)
    (g.met.M.NodeRead.laws.within c.args.self.now.memory).few c.is_none.ensures same (ok_alone _ _ done.0)
    (rw c.in_ok-prefix.ensures.1 at done.1)
    (rw from_is at c.saturating_add-self-2.ensures) c.saturating_add-self.ensures

pub returns-clause-always : goal.returns-clause-always
returns-clause-always g c =
    g.met.M.NodeRead.laws.always_then c.args.self.now.memory c.size-size.new.self c.enter.new.memory
    (g.met.M.NodeRead.laws.still_always c.args.self.now.memory c.size-size.new.self
    (g.met.M.NodeRead.laws.still_then c.args.self.now.memory c.trail_to.new.memory c.size-size.new.self c.trail_to.ensures.still c.size-size.ensures.still))
    c.enter.ensures.always
