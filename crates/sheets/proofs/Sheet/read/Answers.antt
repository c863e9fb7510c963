use Rattle.std.proofs.Common.{arith}
use Rattle.plan.specs.Strides.{strides_of}
use Rattle.sheets.specs.Held.{held}
use Rattle.sheets.proofs.Steps.{as_written, in_order}
use Rattle.sheets.proofs.Sheet.read.Goals as goal

pub returns-clause-ordered : goal.returns-clause-ordered
returns-clause-ordered g c =
    in_order (held g.A.Address.WIDTH) g.A.Address.WIDTH (strides_of c.args.plan.now) c.args.bytes.now c.read_fields.result c.read_fields.ensures.read

pub returns-clause-written : goal.returns-clause-written
returns-clause-written g c =
    as_written (held g.A.Address.WIDTH) g.A.Address.WIDTH (strides_of c.args.plan.now) c.args.bytes.now c.read_fields.result (λ i. omega (arith, c.type_inv.bytes i))
    c.read_fields.ensures.read
