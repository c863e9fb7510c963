use Rattle.std.proofs.Common.{◌+◌, ap₂, ◌∙◌, arith}
use Rattle.descent.proofs.Placing.{position_by_group, position_fits}
use Rattle.descent.proofs.trails.position_at.Goals as goal

pub overflow_add-result : goal.overflow_add-result
overflow_add-result g c =
    let p = c.args.prefix.prefix in
    let fits = position_fits (g.A.Address.bits p.address) p.length c.args.offset c.requires.reaches c.requires.few in
    omega (arith, fits, c.group.ensures)

pub returns-clause-value : goal.returns-clause-value
returns-clause-value g c =
    let p = c.args.prefix.prefix in
    let fits = position_fits (g.A.Address.bits p.address) p.length c.args.offset c.requires.reaches c.requires.few in
    ap₂ (λ x y. x + y) fits.0 c.group.ensures
    ∙ position_by_group (g.A.Address.bits p.address) p.length c.args.offset c.args.prefix.sound.0 c.requires.reaches c.requires.few

pub returns-clause-within : goal.returns-clause-within
returns-clause-within g c =
    let p = c.args.prefix.prefix in
    let fits = position_fits (g.A.Address.bits p.address) p.length c.args.offset c.requires.reaches c.requires.few in
    (omega (arith, fits, c.group.ensures), omega (arith, fits, c.group.ensures))
