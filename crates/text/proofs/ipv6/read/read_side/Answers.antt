use Rattle.std.proofs.Common.{rules, tests, length, arith, true-eqb, false-eqb}
use Rattle.std.proofs.lemmas.List.{length_push}
use Rattle.std.proofs.lemmas.Result.{err_from_is_err_and, MatchResult-weaker}
use Rattle.text.proofs.Sides.{next_word, last_word, gone_none, side_empty, side_over, side_strange, side_more, side_done, word_within}
use Rattle.text.proofs.Further.{behind_ok, behind_err}
use Rattle.text.proofs.ipv6.read.read_side.Goals as goal

pub returns-then-is_empty : goal.returns-then-is_empty
returns-then-is_empty c = (side_empty c.args.text.now (true-eqb (length c.args.text.now) 0 c.if-is_empty.ensures), omega arith)

pub loop-word-init : goal.loop-word-init
loop-word-init c = gone_none c.args.text.now c.args.most (omega (arith, false-eqb (length c.args.text.now) 0 c.if-is_empty.ensures))

pub returns-then-groups-most : goal.returns-then-groups-most
returns-then-groups-most c =
    let t = next_word c.args.text.now c.into_iter-word-iterator.ensures.into_iter_gives c.split-word-items.ensures.rest c.split-word-items.ensures.done c.split-word-items.ensures.closure
    c.loop-word.yielded _ _ c.loop-word.yielded_by _ c.next.ensures.steps (λ x b q k. search (rules, tests)) c.in-Some.word c.in-Some.is in
    (omega (arith, word_within c.loop-word.invariant c.in-Some.word.now t), side_over c.loop-word.invariant c.in-Some.word.now t c.if-groups-most.true)

pub behind-requires : goal.behind-requires
behind-requires c =
    let t = next_word c.args.text.now c.into_iter-word-iterator.ensures.into_iter_gives c.split-word-items.ensures.rest c.split-word-items.ensures.done c.split-word-items.ensures.closure
    c.loop-word.yielded _ _ c.loop-word.yielded_by _ c.next.ensures.steps (λ x b q k. search (rules, tests)) c.in-Some.word c.in-Some.is in
    let h = word_within c.loop-word.invariant c.in-Some.word.now t in
    MatchResult-weaker c.read_word.result c.read_word.ensures (λ x p. tt) (λ e q. omega (arith, q.0))

pub returns-in_err-behind : goal.returns-in_err-behind
returns-in_err-behind c =
    let t = next_word c.args.text.now c.into_iter-word-iterator.ensures.into_iter_gives c.split-word-items.ensures.rest c.split-word-items.ensures.done c.split-word-items.ensures.closure
    c.loop-word.yielded _ _ c.loop-word.yielded_by _ c.next.ensures.steps (λ x b q k. search (rules, tests)) c.in-Some.word c.in-Some.is in
    let h = word_within c.loop-word.invariant c.in-Some.word.now t in
    let p = err_from_is_err_and c.from_residual.result c.from_residual.ensures.1 in
    let q = behind_err c.loop-word.place _ _ c.read_word.result c.in_err-behind.field-0.0 c.read_word.ensures c.in_err-behind.ensures in
    rw (p.1, p.2) (omega (arith, q.1.0, q.2), side_strange c.loop-word.invariant c.in-Some.word.now t q.1.1)

pub overflow_add-place-in-loop-word : goal.overflow_add-place-in-loop-word
overflow_add-place-in-loop-word c =
    let t = next_word c.args.text.now c.into_iter-word-iterator.ensures.into_iter_gives c.split-word-items.ensures.rest c.split-word-items.ensures.done c.split-word-items.ensures.closure
    c.loop-word.yielded _ _ c.loop-word.yielded_by _ c.next.ensures.steps (λ x b q k. search (rules, tests)) c.in-Some.word c.in-Some.is in
    omega (arith, word_within c.loop-word.invariant c.in-Some.word.now t)

pub loop-word-preserved : goal.loop-word-preserved
loop-word-preserved c =
    let t = next_word c.args.text.now c.into_iter-word-iterator.ensures.into_iter_gives c.split-word-items.ensures.rest c.split-word-items.ensures.done c.split-word-items.ensures.closure
    c.loop-word.yielded _ _ c.loop-word.yielded_by _ c.next.ensures.steps (λ x b q k. search (rules, tests)) c.in-Some.word c.in-Some.is in
    let g = c.in_ok-behind.field-0 in
    let is = behind_ok c.loop-word.place _ _ c.read_word.result g c.read_word.ensures c.in_ok-behind.ensures in
    rw (c.with-groups.ensures.number, c.with-groups.ensures.count, length_push)
    (side_more c.loop-word.invariant c.in-Some.word.now t g (omega arith) is (omega (arith, c.loop-word.invariant.few)))

pub returns : goal.returns
returns c =
    let all = last_word c.args.text.now c.into_iter-word-iterator.ensures.into_iter_gives c.split-word-items.ensures.rest c.split-word-items.ensures.done c.split-word-items.ensures.closure
    c.loop-word.yielded _ _ c.loop-word.yielded_by _ c.next.ensures.steps (λ x b q k. search (rules, tests)) c.in-None.is in
    (side_done c.loop-word.invariant all, c.loop-word.invariant.few)
