use Rattle.std.proofs.Common.{◌<◌, length, arith, true-eqb, false-eqb}
use Rattle.text.specs.Reading.{word_long, word_empty, digit_more, digit_strange, digit_all, below_word}
use Rattle.text.proofs.ipv6.read.read_word.Goals as goal

pub returns-then-is_empty : goal.returns-then-is_empty
returns-then-is_empty c = (omega arith, word_empty c.args.text.now (true-eqb (length c.args.text.now) 0 c.if-is_empty.ensures))

pub loop-place-preserved : goal.loop-place-preserved
loop-place-preserved c =
    let few : c.loop-place.place < 4 = omega arith in (
      omega arith,
      digit_more c.args.text.now c.loop-place.place c.loop-place.number c.from.result c.in-Some.digit few c.loop-place-test.true c.loop-place.invariant.1 c.from.ensures c.in-Some.ensures.value,
    )

pub returns : goal.returns
returns c =
    digit_all c.args.text.now c.loop-place.place c.loop-place.number c.loop-place-test.false
    (omega (arith, false-eqb (length c.args.text.now) 0 c.if-is_empty.ensures)) (omega arith) c.loop-place.invariant.1

pub returns-then-place-eq-MOST_DIGITS : goal.returns-then-place-eq-MOST_DIGITS
returns-then-place-eq-MOST_DIGITS c = (omega arith, word_long c.args.text.now (omega arith))

pub returns-in_default : goal.returns-in_default
returns-in_default c =
    (omega arith, digit_strange c.args.text.now c.loop-place.place c.loop-place.number c.from.result c.loop-place-test.true c.loop-place.invariant.1 c.from.ensures c.in_default.ensures.value)

pub overflow_mul-number : goal.overflow_mul-number
overflow_mul-number c = omega (arith, below_word c.loop-place.place c.loop-place.number (omega arith) c.loop-place.invariant.1.bound)

pub overflow_add-number : goal.overflow_add-number
overflow_add-number c =
    let d = c.in-Some.ensures.value in
    omega (arith, below_word c.loop-place.place c.loop-place.number (omega arith) c.loop-place.invariant.1.bound, d.0, d.1)
