use Rattle.std.proofs.Common.{ℕ, List, ◌∙◌, [], ap, arith}
use Rattle.laws.proofs.Plans.{planned}
use Rattle.plan.specs.Strides.{strides_of}
use Rattle.walks.specs.Smallest.{smallest_from, smallest_of}
use Rattle.walks.proofs.Smallest.{smallest_shown}
use Rattle.descent.proofs.ascending.first.Goals as goal

pub smallest-requires-clause-strides : goal.smallest-requires-clause-strides
smallest-requires-clause-strides g c = (planned g.A.Address.WIDTH c.strides.result.now c.strides.ensures.right).range

pub smallest-requires-clause-fits : goal.smallest-requires-clause-fits
smallest-requires-clause-fits g c =
    let total = (planned g.A.Address.WIDTH c.strides.result.now c.strides.ensures.right).total in omega arith

pub returns-clause-any : goal.returns-clause-any
unfolding smallest_of
returns-clause-any g c =
    c.smallest.ensures.smallest
    ∙ ap (λ (xs : List ℕ). smallest_from (g.M.NodeRead.nodes c.args.memory.now) xs 0 []) c.strides.ensures.value

pub returns-clause-shown : goal.returns-clause-shown
returns-clause-shown g c routes at shows =
    returns-clause-any g c
    ∙ smallest_shown g.A.Address.WIDTH (g.M.NodeRead.nodes c.args.memory.now) (strides_of c.args.plan.now) routes at shows
