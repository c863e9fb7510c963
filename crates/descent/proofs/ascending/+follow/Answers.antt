use Rattle.std.proofs.Common.{◌≡◌, ℕ, ◌+◌, ◌≤◌, List, ◌∷◌, ◌∙◌, Some, sym, ap, subst, arith}
use Rattle.std.specs.Option.{option_map}
use Rattle.model.specs.Nodes.{Nodes}
use Rattle.model.specs.Outcomes.{outcome}
use Rattle.model.specs.Routes.{smallest}
use Rattle.walks.specs.Smallest.{follow_up, smallest_from, standing}
use Rattle.descent.specs.declared.ascending.Entry.TheVariants.{Child}
use Rattle.descent.specs.Entries.{entry_of, path_bits}
use Rattle.descent.specs.Meant.{held_route}
use Rattle.descent.proofs.Following.{child_of, first_short, from_child, strides, through}
use Rattle.descent.proofs.ascending.+follow.Goals as goal

pub returns-in_ok-entry-in-Some-Child-clause-follows : goal.returns-in_ok-entry-in-Some-Child-clause-follows
returns-in_ok-entry-in-Some-Child-clause-follows g t c found is short =
    let N = g.M.NodeRead.nodes c.args.memory.now in
    let bits = g.A.Address.bits in
    let meant = option_map (held_route {G = g.A.Address} bits) in
    let s = c.args.stride in
    let n = c.in-Some-Child.node in
    let next = c.in-Some.next.now in
    let rest = c.in-Some.rest.now in
    let path = path_bits bits c.args.path in
    let further = path_bits bits c.longer-path.result in
    let r = c.follow.result in
    let parts : c.args.below.now ≡ next ∷ rest = c.in-Some.ensures.cases.0 in
    let more = strides c.args.below.now next rest parts c.requires.strides in
    let fits = c.requires.fits in
    let within : c.args.path.length + s ≤ g.A.Address.WIDTH = omega arith in
    let entry : Some (Child c.in-Some-Child.index n) ≡ option_map (entry_of s) found =
    (let is_some = c.in-Some-Child.is in let is_child = c.in-Some-Child.field-0-is in ap Some (sym (rw is_some at is_child)) ∙ sym is_some ∙ is) in
    let child = child_of s found c.in-Some-Child.index n entry short in
    let same : g.M.NodeRead.nodes c.first_in.new.memory ≡ N =
    g.met.M.NodeRead.laws.still_nodes c.args.memory.now c.first_in.new.memory c.first_in.ensures.still in
    let first = c.in_ok-entry-in-Some-Child.ensures.first in
    let follows = c.follow.ensures.follows (smallest (standing N rest n next)) first.1 (first_short N rest n next) in
    let down : outcome meant r ≡ follow_up (smallest_from N rest) next further (smallest (standing N rest n next)) =
    subst (λ (m : Nodes). outcome meant r ≡ follow_up (smallest_from m rest) next further (smallest (standing N rest n next))) same follows in
    subst (λ (xs : List ℕ). outcome meant r ≡ follow_up (smallest_from N xs) s path found) (sym parts)
    (from_child meant N (next ∷ rest) s path r child (c.longer-path.ensures.bits child.route.prefix child.size child.spells within)
    (through meant N rest next further n r first.0 down))
