use Rattle.std.proofs.Common.{◌≡◌, [], subst}
use Rattle.std.specs.Option.{option_map}
use Rattle.model.specs.Nodes.{Nodes}
use Rattle.model.specs.Outcomes.{outcome}
use Rattle.model.specs.Routes.{above}
use Rattle.walks.specs.Smallest.{follow_up, smallest_from, standing}
use Rattle.descent.specs.Entries.{path_bits}
use Rattle.descent.specs.Meant.{held_route}
use Rattle.descent.proofs.Rows.{root_at, row_of}
use Rattle.descent.proofs.Following.{found_entry, next_short}
use Rattle.descent.proofs.ascending.follow_above.Goals as goal

pub follow-requires-clause-entry : goal.follow-requires-clause-entry
follow-requires-clause-entry g c =
    let x = row_of c.args.way.more c.args.way.bits c.requires.bits in
    let s = c.args.way.node.stride in
    let below = c.args.below.now in
    (found_entry s (above (standing (g.M.NodeRead.nodes c.args.memory.now) below c.args.way.node.number s) x.0)
    (c.in_ok-entry.ensures.next below [] x.0 c.requires.node (root_at s) x.1 x.2)).1

-- what stands above a row is never refused in a node that was read
pub returns-in_err-entry-clause-follows : goal.returns-in_err-entry-clause-follows
returns-in_err-entry-clause-follows g c x size spells =
    let wrong = c.in_err-entry.ensures.next c.args.below.now [] x c.requires.node (root_at c.args.way.node.stride) size spells in cc

pub returns-clause-follows : goal.returns-clause-follows
returns-clause-follows g c x size spells =
    let N = g.M.NodeRead.nodes c.args.memory.now in
    let bits = g.A.Address.bits in
    let meant = option_map (held_route {G = g.A.Address} bits) in
    let n = c.args.way.node.number in
    let s = c.args.way.node.stride in
    let below = c.args.below.now in
    let path = path_bits bits c.args.path in
    let r = c.follow.result in
    let found = above (standing N below n s) x in
    let same : g.M.NodeRead.nodes c.entry_above.new.memory ≡ N =
    g.met.M.NodeRead.laws.still_nodes c.args.memory.now c.entry_above.new.memory c.entry_above.ensures.still in
    let entry = found_entry s found (c.in_ok-entry.ensures.next below [] x c.requires.node (root_at s) size spells) in
    let follows = c.follow.ensures.follows found entry.0 (next_short N below n s x) in
    subst (λ (m : Nodes). outcome meant r ≡ follow_up (smallest_from m below) s path found) same follows
