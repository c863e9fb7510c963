use Rattle.std.proofs.Common.{ℕ, List, ◌∙◌, [], ap, arith}
use Rattle.laws.proofs.Plans.{planned}
use Rattle.plan.specs.Strides.{strides_of}
use Rattle.routes.specs.Meant.{prefix_bits}
use Rattle.walks.specs.Smallest.{above_from, above_of}
use Rattle.walks.proofs.Searches.{above_shown}
use Rattle.descent.proofs.ascending.next.Goals as goal

pub above-requires-clause-strides : goal.above-requires-clause-strides
above-requires-clause-strides g c = (planned g.A.Address.WIDTH c.strides.result.now c.strides.ensures.right).range

pub above-requires-clause-fits : goal.above-requires-clause-fits
above-requires-clause-fits g c =
    let total = (planned g.A.Address.WIDTH c.strides.result.now c.strides.ensures.right).total in omega arith

pub returns-clause-any : goal.returns-clause-any
unfolding above_of
returns-clause-any g c =
    c.above.ensures.above
    ∙ ap (λ (xs : List ℕ). above_from (g.M.NodeRead.nodes c.args.memory.now) xs 0 [] (prefix_bits g.A.Address.bits c.args.prefix.prefix)) c.strides.ensures.value

pub returns-clause-shown : goal.returns-clause-shown
returns-clause-shown g c routes at shows =
    returns-clause-any g c
    ∙ above_shown g.A.Address.WIDTH (g.M.NodeRead.nodes c.args.memory.now) (strides_of c.args.plan.now) routes at
    (prefix_bits g.A.Address.bits c.args.prefix.prefix) shows
