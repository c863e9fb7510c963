use Rattle.std.proofs.Common.{rules, ◌≡◌, ℕ, true, Err, Result, sym, ap, ◌∙◌, length, arith}
use Rattle.std.specs.Option.{option_map}
use Rattle.plan.specs.Strides.{strides_of}
use Rattle.laws.proofs.Written.{routes_were_read}
use Rattle.routes.specs.Meant.{meant}
use Rattle.faults.specs.declared.Fault.{Fault}
use Rattle.faults.specs.Numbers.{number_of}
use Rattle.model.specs.Calls.{holding, load, loaded}
use Rattle.model.specs.Outcomes.{is_granted, refused}
use Rattle.routes.specs.Answered.{leaves, planned}
use Rattle.routes.specs.declared.failure.Failure.{Failure}
use Rattle.routes.specs.declared.failure.Failure.TheVariants.{Refused}
use Rattle.sheets.specs.Held.{held}
use Rattle.reference.specs.Shown.{answer_of, left_of, route_count, shown}
use Rattle.reference.proofs.Loading.{not_read, says_refused, taken_over, too_many}
use Rattle.reference.proofs.Nodes.{answered, is_open, left_is}
use Rattle.reference.proofs.RouteList.load.Goals as goal

pub returns-in_err-sheet-clause-answer : goal.returns-in_err-sheet-clause-answer
returns-in_err-sheet-clause-answer g c =
    let W = g.A.Address.WIDTH in
    let t = c.args.self.now in
    let rs = t.routes.routes in
    let f = c.in_err-sheet.field-0.0 in
    let plan = strides_of c.in-Some.plan in
    let bytes = c.args.bytes.now in
    let is : c.from_residual.result ≡ Err (Refused f) = search rules in
    let so = not_read W t.nodes plan rs bytes (number_of f.refusal) f.layer f.place c.in_err-sheet.ensures.read in
    says_refused (λ (n : ℕ). loaded n) c.from_residual.result f _ is
    (sym (answered W t.plan c.in-Some.plan c.in-Some.is t.nodes rs (load bytes) _ so))

pub returns-in_err-sheet-clause-after : goal.returns-in_err-sheet-clause-after
returns-in_err-sheet-clause-after g c =
    let W = g.A.Address.WIDTH in
    let t = c.args.self.now in
    let rs = t.routes.routes in
    let f = c.in_err-sheet.field-0.0 in
    let plan = strides_of c.in-Some.plan in
    let bytes = c.args.bytes.now in
    let is : c.from_residual.result ≡ Err (Refused f) = search rules in
    let so = not_read W t.nodes plan rs bytes (number_of f.refusal) f.layer f.place c.in_err-sheet.ensures.read in
    is_open W t.plan c.in-Some.plan c.in-Some.is t.nodes rs (load bytes) _ so
    ∙ sym (left_is W t.plan c.in-Some.plan c.in-Some.is t.nodes rs (load bytes) _ so)
    ∙ sym (ap (λ (r : Result ℕ Failure). leaves r (shown t) (left_of W t (load bytes))) is)

pub returns-then-sheet-self-clause-answer : goal.returns-then-sheet-self-clause-answer
returns-then-sheet-self-clause-answer g c =
    let W = g.A.Address.WIDTH in
    let t = c.args.self.now in
    let rs = t.routes.routes in
    let s = c.in_ok-sheet.sheet in
    let plan = strides_of c.in-Some.plan in
    let bytes = c.args.bytes.now in
    let so = too_many W t.nodes plan rs bytes (held W s) c.in_ok-sheet.ensures.read s.required c.in_ok-sheet.ensures.required c.if-sheet-self.true in
    ap (λ (f : Fault). refused (number_of f.refusal) f.layer f.place) c.of_table-then-sheet-self.ensures
    ∙ sym (answered W t.plan c.in-Some.plan c.in-Some.is t.nodes rs (load bytes) _ so)

pub returns-then-sheet-self-clause-after : goal.returns-then-sheet-self-clause-after
returns-then-sheet-self-clause-after g c =
    let W = g.A.Address.WIDTH in
    let t = c.args.self.now in
    let rs = t.routes.routes in
    let s = c.in_ok-sheet.sheet in
    let plan = strides_of c.in-Some.plan in
    let bytes = c.args.bytes.now in
    let so = too_many W t.nodes plan rs bytes (held W s) c.in_ok-sheet.ensures.read s.required c.in_ok-sheet.ensures.required c.if-sheet-self.true in
    is_open W t.plan c.in-Some.plan c.in-Some.is t.nodes rs (load bytes) _ so
    ∙ sym (left_is W t.plan c.in-Some.plan c.in-Some.is t.nodes rs (load bytes) _ so)

pub returns-in_err-set-clause-answer : goal.returns-in_err-set-clause-answer
returns-in_err-set-clause-answer g c =
    let W = g.A.Address.WIDTH in
    let t = c.args.self.now in
    let rs = t.routes.routes in
    let s = c.in_ok-sheet.sheet in
    let plan = strides_of c.in-Some.plan in
    let bytes = c.args.bytes.now in
    let so = taken_over W t.nodes plan rs bytes (held W s) c.in_ok-sheet.ensures.read s.required c.in_ok-sheet.ensures.required c.if-sheet-self.false in
    let sure : is_granted (answer_of W t (load bytes)) ≡ true = ap is_granted (answered W t.plan c.in-Some.plan c.in-Some.is t.nodes rs (load bytes) _ so) in
    search rules

pub returns-in_err-set-clause-memory : goal.returns-in_err-set-clause-memory
returns-in_err-set-clause-memory g c e =
    let W = g.A.Address.WIDTH in
    let t = c.args.self.now in
    let rs = t.routes.routes in
    let s = c.in_ok-sheet.sheet in
    let plan = strides_of c.in-Some.plan in
    let bytes = c.args.bytes.now in
    let so = taken_over W t.nodes plan rs bytes (held W s) c.in_ok-sheet.ensures.read s.required c.in_ok-sheet.ensures.required c.if-sheet-self.false in
    let left : route_count (left_of W t (load bytes)) ≡ length (held W s).routes =
    ap route_count (left_is W t.plan c.in-Some.plan c.in-Some.is t.nodes rs (load bytes) _ so) in
    let read =
    routes_were_read W (option_map (meant g.A.Address.bits) s.routes.last) s.count s.routes.reader.bytes.now s.routes.reader.place (held W s).routes (length bytes)
    s.routes.reader.within c.in_ok-sheet.ensures.routes.1 in
    omega (arith, left, read.count_is, c.in_err-set.ensures.1)

pub returns-clause-answer : goal.returns-clause-answer
returns-clause-answer g c =
    let W = g.A.Address.WIDTH in
    let t = c.args.self.now in
    let rs = t.routes.routes in
    let s = c.in_ok-sheet.sheet in
    let plan = strides_of c.in-Some.plan in
    let bytes = c.args.bytes.now in
    let so = taken_over W t.nodes plan rs bytes (held W s) c.in_ok-sheet.ensures.read s.required c.in_ok-sheet.ensures.required c.if-sheet-self.false in
    sym (answered W t.plan c.in-Some.plan c.in-Some.is t.nodes rs (load bytes) _ so)

pub returns-clause-after : goal.returns-clause-after
returns-clause-after g c =
    let W = g.A.Address.WIDTH in
    let t = c.args.self.now in
    let rs = t.routes.routes in
    let s = c.in_ok-sheet.sheet in
    let plan = strides_of c.in-Some.plan in
    let bytes = c.args.bytes.now in
    let so = taken_over W t.nodes plan rs bytes (held W s) c.in_ok-sheet.ensures.read s.required c.in_ok-sheet.ensures.required c.if-sheet-self.false in
    ap (λ o. planned (option_map strides_of o) c.in_ok-set.set.routes) c.in-Some.is
    ∙ ap (holding plan) c.in_ok-set.ensures
    ∙ sym (left_is W t.plan c.in-Some.plan c.in-Some.is t.nodes rs (load bytes) _ so)
