use Rattle.std.proofs.Common.{rules, tests, ◌-◌, ◌*◌, ◌/◌, ◌%◌, ◌^◌, ap, ◌∙◌}
use Rattle.text.specs.Colons.{groups, low_groups}
use Rattle.text.proofs.FromFn.{from_fn_is}
use Rattle.text.proofs.ipv6.write.groups_of.Goals as goal

pub returns : goal.returns
unfolding groups low_groups
returns c =
    from_fn_is _ (λ i. c.from-number.result / 2 ^ (16 * (7 - i)) % 65536) _ (λ i y q k. search (rules, tests)) c.from_fn.result 8 c.from_fn.ensures.items
    ∙ ap (low_groups 8) c.from-number.ensures
