use Rattle.std.proofs.Common.{◌≡◌, ℕ, ◌≤◌, Err, IfErr, length, refl, ap, sym, ◌∙◌, subst, arith, rules}
use Rattle.std.specs.Option.{option_map}
use Rattle.growth.proofs.Taken.{not_refused}
use Rattle.faults.specs.declared.Fault.{Fault}
use Rattle.faults.specs.Numbers.{number_of}
use Rattle.model.specs.Calls as calls
use Rattle.model.specs.Calls.{Plain, after, answer, holding, loaded}
use Rattle.model.specs.Nodes.{Nodes}
use Rattle.model.specs.Outcomes.{granted, outcome, refused}
use Rattle.model.specs.Placements.{Placement, after_load}
use Rattle.model.specs.Required.{required}
use Rattle.plan.specs.Strides.{strides_of}
use Rattle.sheets.specs.Held.{held}
use Rattle.table.specs.Placed.{placed}
use Rattle.table.specs.Stands.{Stands, StandsFor, Still}
use Rattle.table.proofs.Loadings.{keeps, load_answers, load_full, load_leaves, load_places, load_unread, when_open, when_refused}
use Rattle.table.proofs.Table.load.Goals as goal

pub returns-in_err-sheet-clause-answer : goal.returns-in_err-sheet-clause-answer
returns-in_err-sheet-clause-answer g c =
    let W = g.A.Address.WIDTH in
    let nodes = g.M.NodeRead.nodes in
    let N = (nodes c.args.self.now.memory).size in
    let f = c.in_err-sheet.field-0.0 in
    let bytes = c.args.bytes.now in
    let plan = strides_of c.in-Some.plan in
    let is : c.from_residual.result ≡ Err f = search rules in
    when_open nodes W c.args.self.now c.in-Some.plan c.in-Some.is (λ plain at. outcome (λ number. loaded number) c.from_residual.result ≡ answer W N plain (calls.load bytes))
    (λ routes at s.
    ap (outcome (λ number. loaded number)) is
    ∙ sym (when_refused W N (holding plan routes) (calls.load bytes) (number_of f.refusal) f.layer f.place at (load_unread W N plan routes bytes _ _ _ c.in_err-sheet.ensures.read)).0)

pub returns-in_err-sheet-clause-after : goal.returns-in_err-sheet-clause-after
returns-in_err-sheet-clause-after g c =
    let W = g.A.Address.WIDTH in
    let nodes = g.M.NodeRead.nodes in
    let t = c.args.self.now in
    let m = nodes t.memory in
    let bytes = c.args.bytes.now in
    let plan = strides_of c.in-Some.plan in
    when_open nodes W t c.in-Some.plan c.in-Some.is (λ plain at. Stands nodes W t (after W m.size plain (calls.load bytes)) (placed W m.size plain at (calls.load bytes)))
    (λ routes at s.
    keeps W m.size m m (option_map strides_of t.plan) t.front t.routes t.required (holding plan routes) at (calls.load bytes) _ _ _
    (load_unread W m.size plan routes bytes _ _ _ c.in_err-sheet.ensures.read) refl s)

pub returns-then-sheet-size-clause-answer : goal.returns-then-sheet-size-clause-answer
returns-then-sheet-size-clause-answer g c =
    let W = g.A.Address.WIDTH in
    let nodes = g.M.NodeRead.nodes in
    let N = (nodes c.args.self.now.memory).size in
    let bytes = c.args.bytes.now in
    let plan = strides_of c.in-Some.plan in
    let sheet = held W c.in_ok-sheet.sheet in
    when_open nodes W c.args.self.now c.in-Some.plan c.in-Some.is
    (λ plain at. refused (number_of c.of_table-then-sheet-size.result.refusal) c.of_table-then-sheet-size.result.layer c.of_table-then-sheet-size.result.place ≡ answer W N plain (calls.load bytes))
    (λ routes at s.
    ap (λ (f : Fault). refused (number_of f.refusal) f.layer f.place) c.of_table-then-sheet-size.ensures
    ∙ sym
    (when_refused W N (holding plan routes) (calls.load bytes) _ _ _ at (load_full W N plan routes bytes sheet c.in_ok-sheet.ensures.read
    (omega (arith, c.if-sheet-size.true, c.size.ensures.answer, c.in_ok-sheet.ensures.required)))).0)

pub returns-then-sheet-size-clause-after : goal.returns-then-sheet-size-clause-after
returns-then-sheet-size-clause-after g c =
    let W = g.A.Address.WIDTH in
    let nodes = g.M.NodeRead.nodes in
    let t = c.args.self.now in
    let m = nodes t.memory in
    let bytes = c.args.bytes.now in
    let plan = strides_of c.in-Some.plan in
    let sheet = held W c.in_ok-sheet.sheet in
    let same : nodes c.size.new.self ≡ m = g.met.M.NodeRead.laws.still_nodes t.memory c.size.new.self c.size.ensures.still in
    when_open nodes W t c.in-Some.plan c.in-Some.is
    (λ plain at. StandsFor W (nodes c.size.new.self) (option_map strides_of t.plan) t.front t.routes t.required (after W m.size plain (calls.load bytes)) (placed W m.size plain at (calls.load bytes)))
    (λ routes at s.
    keeps W m.size (nodes c.size.new.self) m (option_map strides_of t.plan) t.front t.routes t.required (holding plan routes) at (calls.load bytes) _ _ _
    (load_full W m.size plan routes bytes sheet c.in_ok-sheet.ensures.read (omega (arith, c.if-sheet-size.true, c.size.ensures.answer, c.in_ok-sheet.ensures.required))) same s)

-- the table is not refused the routes of the sheet
pub returns-in_err-refill-clause-answer : goal.returns-in_err-refill-clause-answer
returns-in_err-refill-clause-answer g c =
    let W = g.A.Address.WIDTH in
    let nodes = g.M.NodeRead.nodes in
    let t = c.args.self.now in
    let m = nodes t.memory in
    let plan = strides_of c.in-Some.plan in
    let sheet = held W c.in_ok-sheet.sheet in
    let same : nodes c.size.new.self ≡ m = g.met.M.NodeRead.laws.still_nodes t.memory c.size.new.self c.size.ensures.still in
    let same_size = ap (λ (x : Nodes). x.size) same in
    when_open nodes W t c.in-Some.plan c.in-Some.is
    (λ plain at. outcome (λ number. loaded number) c.from_residual-in_err-refill.result ≡ answer W m.size plain (calls.load c.args.bytes.now))
    (λ routes at s.
    absurd
    (not_refused
    (c.in_err-refill.ensures.refilled plan routes at sheet.routes (length c.args.bytes.now)
    (subst (λ (x : Nodes). StandsFor W x (option_map strides_of t.plan) t.front t.routes t.required (holding plan routes) at) (sym same) s)
    c.in_ok-sheet.ensures.routes.0 c.in_ok-sheet.ensures.routes.1 c.in_ok-sheet.ensures.ordered
    (omega (arith, c.if-sheet-size.false, c.size.ensures.answer, c.in_ok-sheet.ensures.required))).0))

pub returns-in_err-refill-clause-after : goal.returns-in_err-refill-clause-after
returns-in_err-refill-clause-after g c =
    let W = g.A.Address.WIDTH in
    let nodes = g.M.NodeRead.nodes in
    let t = c.args.self.now in
    let m = nodes t.memory in
    let plan = strides_of c.in-Some.plan in
    let sheet = held W c.in_ok-sheet.sheet in
    let same : nodes c.size.new.self ≡ m = g.met.M.NodeRead.laws.still_nodes t.memory c.size.new.self c.size.ensures.still in
    let same_size = ap (λ (x : Nodes). x.size) same in
    when_open nodes W t c.in-Some.plan c.in-Some.is
    (λ plain at. Stands nodes W c.refill.new.self (after W m.size plain (calls.load c.args.bytes.now)) (placed W m.size plain at (calls.load c.args.bytes.now)))
    (λ routes at s.
    absurd
    (not_refused
    (c.in_err-refill.ensures.refilled plan routes at sheet.routes (length c.args.bytes.now)
    (subst (λ (x : Nodes). StandsFor W x (option_map strides_of t.plan) t.front t.routes t.required (holding plan routes) at) (sym same) s)
    c.in_ok-sheet.ensures.routes.0 c.in_ok-sheet.ensures.routes.1 c.in_ok-sheet.ensures.ordered
    (omega (arith, c.if-sheet-size.false, c.size.ensures.answer, c.in_ok-sheet.ensures.required))).0))

pub returns-in_err-refill-clause-refused : goal.returns-in_err-refill-clause-refused
returns-in_err-refill-clause-refused g c =
    let W = g.A.Address.WIDTH in
    let nodes = g.M.NodeRead.nodes in
    let t = c.args.self.now in
    let m = nodes t.memory in
    let plan = strides_of c.in-Some.plan in
    let sheet = held W c.in_ok-sheet.sheet in
    let same : nodes c.size.new.self ≡ m = g.met.M.NodeRead.laws.still_nodes t.memory c.size.new.self c.size.ensures.still in
    let same_size = ap (λ (x : Nodes). x.size) same in
    when_open nodes W t c.in-Some.plan c.in-Some.is
    (λ plain at. IfErr c.from_residual-in_err-refill.result (λ _. Still g.M.NodeRead.still t c.refill.new.self))
    (λ routes at s.
    absurd
    (not_refused
    (c.in_err-refill.ensures.refilled plan routes at sheet.routes (length c.args.bytes.now)
    (subst (λ (x : Nodes). StandsFor W x (option_map strides_of t.plan) t.front t.routes t.required (holding plan routes) at) (sym same) s)
    c.in_ok-sheet.ensures.routes.0 c.in_ok-sheet.ensures.routes.1 c.in_ok-sheet.ensures.ordered
    (omega (arith, c.if-sheet-size.false, c.size.ensures.answer, c.in_ok-sheet.ensures.required))).0))

pub returns-clause-answer : goal.returns-clause-answer
returns-clause-answer g c =
    let W = g.A.Address.WIDTH in
    let nodes = g.M.NodeRead.nodes in
    let N = (nodes c.args.self.now.memory).size in
    let plan = strides_of c.in-Some.plan in
    let sheet = held W c.in_ok-sheet.sheet in
    when_open nodes W c.args.self.now c.in-Some.plan c.in-Some.is
    (λ plain at. granted (loaded c.in_ok-sheet.sheet.number) ≡ answer W N plain (calls.load c.args.bytes.now))
    (λ routes at s.
    load_answers W N plan routes c.args.bytes.now sheet c.in_ok-sheet.ensures.read
    (omega (arith, c.if-sheet-size.false, c.size.ensures.answer, c.in_ok-sheet.ensures.required)))

pub returns-clause-after : goal.returns-clause-after
returns-clause-after g c =
    let W = g.A.Address.WIDTH in
    let nodes = g.M.NodeRead.nodes in
    let t = c.args.self.now in
    let m = nodes t.memory in
    let bytes = c.args.bytes.now in
    let plan = strides_of c.in-Some.plan in
    let sheet = held W c.in_ok-sheet.sheet in
    let same : nodes c.size.new.self ≡ m = g.met.M.NodeRead.laws.still_nodes t.memory c.size.new.self c.size.ensures.still in
    let same_size = ap (λ (x : Nodes). x.size) same in
    let room : required plan sheet.routes ≤ m.size = omega (arith, c.if-sheet-size.false, c.size.ensures.answer, c.in_ok-sheet.ensures.required) in
    when_open nodes W t c.in-Some.plan c.in-Some.is (λ plain at. Stands nodes W c.refill.new.self (after W m.size plain (calls.load bytes)) (placed W m.size plain at (calls.load bytes)))
    (λ routes at s.
    let filled =
    c.refill.ensures.refilled plan routes at sheet.routes (length bytes)
    (subst (λ (x : Nodes). StandsFor W x (option_map strides_of t.plan) t.front t.routes t.required (holding plan routes) at) (sym same) s)
    c.in_ok-sheet.ensures.routes.0 c.in_ok-sheet.ensures.routes.1 c.in_ok-sheet.ensures.ordered (omega arith) in
    subst (λ (p : Plain). Stands nodes W c.refill.new.self p (placed W m.size (holding plan routes) at (calls.load bytes))) (sym (load_leaves W m.size plan routes bytes sheet c.in_ok-sheet.ensures.read room))
    (subst (λ (a : Placement). Stands nodes W c.refill.new.self (holding plan sheet.routes) a)
    (sym (load_places W m.size plan routes bytes sheet c.in_ok-sheet.ensures.read room at ∙ ap (λ (n : ℕ). after_load n plan sheet.routes) (sym same_size))) filled.1))
