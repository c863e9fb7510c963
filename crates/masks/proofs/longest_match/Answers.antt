use Rattle.std.proofs.Common.{◌≡◌, ℕ, ◌*◌, ◌<◌, ◌≤◌, ◌^◌, bit_and, slice_index, IfNone, IfSome, sym, ap, ◌∙◌, subst, rules, arith}
use Rattle.std.specs.Prelude.{◌↔◌, IsTrue}
use Rattle.std.specs.Int.Bits.{and_zero_r}
use Rattle.std.proofs.Math.Nat.{pow-le-pow_right}
use Rattle.std.proofs.lemmas.List.{get_or_past}
use Rattle.model.specs.Nodes.{marked}
use Rattle.masks.specs.Ways.{OnTheWay}
use Rattle.masks.specs.declared.TheConstants.{MASKS}
use Rattle.masks.proofs.Matches.{found_match, is_deepest, nothing}
use Rattle.masks.proofs.longest_match.Goals as goal

pub returns-clause-highest : goal.returns-clause-highest
returns-clause-highest c inside =
    let i = c.args.position in
    let mask = c.mask.result in
    let seen = bit_and c.args.bitmap mask in
    let log = c.checked_ilog2.result in
    let answered : c.map.result ≡ log = search rules in
    let entry : mask ≡ slice_index MASKS i = search rules in
    let none : IfNone log (seen ≡ 0) = search rules in
    let least : IfSome log (λ p. 2 ^ p ≤ seen) = search rules in
    let most : IfSome log (λ p. seen < 2 * 2 ^ p) = search rules in
    let low : IfSome log (λ p. p < 64) = search rules in
    let masks : (k : ℕ) → k < 64 → IsTrue (marked mask k) ↔ OnTheWay k i =
    λ k low. subst (λ (m : ℕ). IsTrue (marked m k) ↔ OnTheWay k i) (sym entry) (c.mask.ensures.table i k inside low) in
    rw answered (found_match c.args.bitmap mask i inside masks log none least most low)

pub returns-clause-deepest : goal.returns-clause-deepest
returns-clause-deepest c s few least most =
    let i = c.args.position in
    let inside : i < 64 = (let h = pow-le-pow_right {n = 2} (omega arith) {i = s} {j = 6} few in omega arith) in
    is_deepest c.args.bitmap s i c.map.result (returns-clause-highest c inside) least most

pub returns-clause-outside : goal.returns-clause-outside
returns-clause-outside c outside =
    let i = c.args.position in
    let mask = c.mask.result in
    let seen = bit_and c.args.bitmap mask in
    let log = c.checked_ilog2.result in
    let answered : c.map.result ≡ log = search rules in
    let entry : mask ≡ slice_index MASKS i = search rules in
    let least : IfSome log (λ p. 2 ^ p ≤ seen) = search rules in
    let dark : seen ≡ 0 = ap (bit_and c.args.bitmap) (entry ∙ get_or_past MASKS i 0 outside) ∙ and_zero_r c.args.bitmap in
    answered ∙ nothing seen log dark least
