use Rattle.std.proofs.Common.{◌≡◌, ap, rules, Err}
use Rattle.std.specs.Option.{option_map}
use Rattle.model.specs.Outcomes.{outcome}
use Rattle.routes.specs.Meant.{meant, prefix_bits}
use Rattle.messages.specs.Meant.{as_read}
use Rattle.sheets.proofs.Steps.{stray_read, told_refused}
use Rattle.sheets.proofs.Routes.next.Goals as goal

pub returns-in_err-prefix-clause-read : goal.returns-in_err-prefix-clause-read
returns-in_err-prefix-clause-read g c =
    let bits = g.A.Address.bits in
    let self = c.args.self.now in
    let f = c.in_err-prefix.field-0.0 in
    let is : c.from_residual-in_err-prefix.result ≡ Err f = search rules in
    told_refused _ c.from_residual-in_err-prefix.result f _ is
    (stray_read g.A.Address.WIDTH (option_map (meant bits) self.last) self.reader.bytes.now self.reader.place (as_read c.in_ok-read.read) c.prefix.new.self.place
    _ c.in_ok-read.ensures.read c.prefix-2.ensures.prefix _ _ _ (ap (outcome (λ s. prefix_bits bits s.prefix)) c.in_err-prefix.was))
