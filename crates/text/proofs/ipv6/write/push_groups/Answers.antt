use Rattle.std.proofs.Common.{◌-◌, [], ◌∷◌, ◌++◌, length, slice_index, take, drop, string_bytes, refl, ap, ◌∙◌, arith}
use lib.Utf8.{encode}
use Rattle.std.proofs.lemmas.Slice.{pushed}
use Rattle.text.specs.Colons.{hex}
use Rattle.text.specs.Written.{written_none, written_all}
use Rattle.text.proofs.Pieces.{written_more}
use Rattle.text.proofs.ipv6.write.push_groups.Goals as goal

pub returns-in_default : goal.returns-in_default
returns-in_default c = written_none (string_bytes c.args.out.now) c.args.all.now (omega (arith, c.in_default.len_below))

pub loop-group-preserved : goal.loop-group-preserved
unfolding encode
loop-group-preserved c =
    let gs = c.args.all.now in
    let rest = take (length gs - 1) (drop 1 gs) in
    let i = c.loop-group.group-index in
    written_more (string_bytes c.push_hex.new.out) rest i _ c.loop-group-test.true
    (c.in_ok-push_hex-2.ensures
    ∙ ap (λ b. b ++ hex (slice_index rest i)) (pushed (58 ∷ []) c.loop-group.invariant c.in_ok-push.was c.push.ensures.bytes))

pub returns : goal.returns
returns c =
    let gs = c.args.all.now in
    written_all (string_bytes c.args.out.now) gs (take (length gs - 1) (drop 1 gs)) c.loop-group.group-index _ _ (omega arith) refl c.loop-group-test.false
    c.in_ok-push_hex.ensures c.loop-group.invariant
