use Rattle.std.proofs.Common.{◌≡◌, ℕ, List, ◌∷◌, sym, subst}
use Rattle.std.specs.Option.{option_map}
use Rattle.model.specs.Nodes.{Nodes}
use Rattle.model.specs.Outcomes.{outcome}
use Rattle.model.specs.Routes.{smallest}
use Rattle.walks.specs.Smallest.{follow_up, smallest_from, standing}
use Rattle.descent.specs.Entries.{path_bits}
use Rattle.descent.specs.Meant.{held_route}
use Rattle.descent.proofs.Following.{first_short, is_entry, through}
use Rattle.descent.proofs.ascending.smallest.Goals as goal

pub follow-requires-clause-entry : goal.follow-requires-clause-entry
follow-requires-clause-entry g c = is_entry _ _ _ c.in_ok-entry.ensures.first.1

pub returns-clause-smallest : goal.returns-clause-smallest
returns-clause-smallest g c =
    let N = g.M.NodeRead.nodes c.args.memory.now in
    let bits = g.A.Address.bits in
    let meant = option_map (held_route {G = g.A.Address} bits) in
    let n = c.args.number in
    let s = c.in-Some.stride.now in
    let below = c.in-Some.below.now in
    let path = path_bits bits c.args.path in
    let r = c.follow.result in
    let parts : c.args.strides.now ≡ s ∷ below = c.in-Some.ensures.cases.0 in
    let same : g.M.NodeRead.nodes c.first_in.new.memory ≡ N =
    g.met.M.NodeRead.laws.still_nodes c.args.memory.now c.first_in.new.memory c.first_in.ensures.still in
    let first = c.in_ok-entry.ensures.first in
    let follows = c.follow.ensures.follows (smallest (standing N below n s)) first.1 (first_short N below n s) in
    let down : outcome meant r ≡ follow_up (smallest_from N below) s path (smallest (standing N below n s)) =
    subst (λ (m : Nodes). outcome meant r ≡ follow_up (smallest_from m below) s path (smallest (standing N below n s))) same follows in
    subst (λ (xs : List ℕ). outcome meant r ≡ smallest_from N xs n path) (sym parts) (through meant N below s path n r first.0 down)
