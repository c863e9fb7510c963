use Rattle.std.proofs.Common.{◌≡◌, ◌<◌, ◌^◌, bit_and, slice_index, ap, ◌∙◌, subst, rules, arith}
use Rattle.std.specs.Int.Bits.{and_zero_r}
use Rattle.std.proofs.Math.Nat.{pow-le-pow_right}
use Rattle.std.proofs.lemmas.List.{get_or_past}
use Rattle.masks.specs.Ways.{HighestBit}
use Rattle.masks.specs.declared.TheConstants.{MASKS}
use Rattle.masks.proofs.Matches.{found_bit, highest_bit, is_deepest}
use Rattle.masks.proofs.Table.{marks_the_ways}
use Rattle.masks.proofs.marks_on_the_way.Goals as goal

pub returns-clause-deepest : goal.returns-clause-deepest
returns-clause-deepest c s few least most =
    let i = c.args.position in
    let inside : i < 64 = (let h = pow-le-pow_right {n = 2} (omega arith) {i = s} {j = 6} few in omega arith) in
    let mask = slice_index MASKS i in
    let seen = bit_and c.args.bitmap mask in
    let small : seen < 2 ^ 64 = search rules in
    let top = highest_bit 64 seen small in
    let match = found_bit c.args.bitmap mask i inside (λ k low. marks_the_ways i k inside low) top.0 top.1 top.2 in
    let entry : c.mask-on_the_way.result ≡ mask = search rules in
    rw entry (subst (HighestBit seen) (is_deepest c.args.bitmap s i top.0 match least most) top.1)

pub returns-clause-outside : goal.returns-clause-outside
returns-clause-outside c outside =
    let i = c.args.position in
    let entry : c.mask-on_the_way.result ≡ slice_index MASKS i = search rules in
    ap (bit_and c.args.bitmap) (entry ∙ get_or_past MASKS i 0 outside) ∙ and_zero_r c.args.bitmap
