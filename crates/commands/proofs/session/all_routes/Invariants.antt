use Rattle.std.specs.Prelude.{◌≡◌}
use Rattle.commands.specs.Stands.{Agreed, stands}
use Rattle.commands.proofs.session.all_routes.Given as goal

abbrev pub invariant-loop : goal.invariant-loop
invariant-loop g l =
    record {
      after : stands l.pair ≡ stands l.fn.pair;
      agree : Agreed g.A.Address.WIDTH l.fn.pair → Agreed g.A.Address.WIDTH l.pair;
    }
