use Rattle.std.proofs.Common.{◌≡◌, [], ◌∷◌, ◌++◌, length, string_bytes, sym, refl, ap, ◌∙◌, arith}
use Rattle.std.proofs.lemmas.Slice.{pushed}
use Rattle.text.specs.Colons.{written, colons}
use Rattle.text.specs.Groups.{length_groups}
use Rattle.text.specs.Written.{colons_whole, colons_pieces}
use Rattle.text.proofs.ipv6.write.write_address.Goals as goal
use Rattle.text.proofs.ipv6.write.write_address.Goals.{then-len-ge-FEWEST_LEFT_OUT+in_ok-push_groups+in_ok-push_str+in_ok-push_groups-2, else-len-ge-FEWEST_LEFT_OUT+in_ok-push_groups-3}

pub returns : goal.returns
returns c =
    let gs = c.groups_of-all.result in
    let run = c.longest_run-run in
    let eight : length gs ≡ 8 = ap length c.groups_of-all.ensures ∙ length_groups c.args.a.now.high c.args.a.now.low in
    let is : string_bytes c.if-len-ge-FEWEST_LEFT_OUT.out ≡ colons gs =
    elim c.if-len-ge-FEWEST_LEFT_OUT.branch [
      | then-len-ge-FEWEST_LEFT_OUT+in_ok-push_groups+in_ok-push_str+in_ok-push_groups-2 w ↦
          ap string_bytes w.out-is
          ∙ colons_pieces gs _ _ _ _ run.result.start run.result.end eight (omega (arith, w.if-len-ge-FEWEST_LEFT_OUT.true, c.len.ensures.value)) run.ensures.start run.ensures.end
          c.new-out.ensures.bytes
          w.in_ok-push_groups.ensures
          (pushed (58 ∷ 58 ∷ []) refl w.in_ok-push_str.was w.push_str.ensures.bytes)
          w.in_ok-push_groups-2.ensures
      | else-len-ge-FEWEST_LEFT_OUT+in_ok-push_groups-3 w ↦
          ap string_bytes w.out-is
          ∙ w.in_ok-push_groups-3.ensures
          ∙ ap (λ b. b ++ written gs) c.new-out.ensures.bytes
          ∙ sym (colons_whole gs (omega (arith, w.if-len-ge-FEWEST_LEFT_OUT.false, c.len.ensures.value, run.ensures.end)))
    ] in
    is ∙ ap colons c.groups_of-all.ensures
