use Rattle.std.proofs.Common.{◌≡◌, ℕ, ◌+◌, ◌-◌, ◌++◌, take, drop-drop, ap, ap₂, sym, ◌∙◌, arith, rules, leb-true, length-take-le}
use Rattle.std.proofs.lemmas.Bool.{leb-false}
use borrow.Rule.Slice.PartMut.{put_mid}
use Rattle.faults.specs.declared.Fault.{Fault}
use Rattle.faults.specs.Numbers.{number_of}
use Rattle.model.specs.Bytes.{Bytes, big_endian, byte_count}
use Rattle.model.specs.Outcomes.{refused}
use Rattle.routes.specs.Meant.{prefix_bits}
use Rattle.messages.proofs.Puts.{no_room, route_put}
use Rattle.messages.proofs.writing.put_route.Goals as goal

pub returns-then-not-fits-clause-answer : goal.returns-then-not-fits-clause-answer
returns-then-not-fits-clause-answer g c =
    let r = c.args.route.now in
    let long = length-take-le r.prefix.length (g.A.Address.bits r.prefix.address) r.sound.0 in
    ap (λ (f : Fault). refused (number_of f.refusal) f.layer f.place) c.of_table.ensures
    ∙ sym
    (no_room c.args.place c.route_size-size.result r.hop (prefix_bits g.A.Address.bits r.prefix) c.args.output.now
    (c.route_size-size.ensures ∙ ap (λ (k : ℕ). 3 + byte_count k) (sym long))
    (leb-false _ _ (sym c.fits.ensures ∙ c.if-not-fits.true)))

pub returns-clause-answer : goal.returns-clause-answer
returns-clause-answer g c =
    let r = c.args.route.now in
    let long = length-take-le r.prefix.length (g.A.Address.bits r.prefix.address) r.sound.0 in
    let hops : c.copy_from_slice.new.self ≡ big_endian 2 r.hop = search rules in
    let now = c.put_prefix.new.output in
    let hop = r.hop in
    let end = c.args.place + c.route_size-size.result in
    let size = c.route_size-size.ensures in
    let two : end - (end - 2) ≡ 2 = omega arith in
    route_put c.args.place c.route_size-size.result r.hop (prefix_bits g.A.Address.bits r.prefix) c.args.output.now
    (c.route_size-size.ensures ∙ ap (λ (k : ℕ). 3 + byte_count k) (sym long))
    (leb-true _ _ (sym c.fits.ensures ∙ c.if-not-fits.false))
    now _ c.put_prefix.ensures
    (ap₂ (λ (k : ℕ) (ys : Bytes). put_mid (end - 2) k now ys) two hops
    ∙ ap (λ (r : Bytes). take (end - 2) now ++ (big_endian 2 hop ++ r)) (drop-drop 2 (end - 2) now))
