use Rattle.std.proofs.Common.{◌≡◌, ◌+◌, ◌≤◌, length, take, drop, Some, None, sym, subst, MatchResult}
use Rattle.text.specs.Colons.{groups}
use Rattle.text.specs.Addresses.{read_by}
use Rattle.text.proofs.TwoParts.{parts_first, parts_none}
use Rattle.text.proofs.ipv6.read.read_address.Goals as goal

pub returns-in-Some : goal.returns-in-Some
returns-in-Some c =
    let t = c.args.text.now in
    let p = c.in-Some.place in
    let first = c.in-Some.ensures in
    subst (λ o. MatchResult c.read_parted.result (λ a. o ≡ Some (groups a.high a.low)) (λ e. (e.place ≤ length t) × (o ≡ None)))
    (sym (read_by t (Some (take p t, drop (p + 2) t)) (parts_first t p first.0 first.1 first.2))) c.read_parted.ensures

pub returns-in-None : goal.returns-in-None
returns-in-None c =
    let t = c.args.text.now in
    subst (λ o. MatchResult c.read_whole.result (λ a. o ≡ Some (groups a.high a.low)) (λ e. (e.place ≤ length t) × (o ≡ None)))
    (sym (read_by t None (parts_none t c.in-None.ensures))) c.read_whole.ensures
