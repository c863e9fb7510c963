use Rattle.text.proofs.ipv6.write.+push_hex.Given as goal

abbrev pub decreases-push-hex : goal.decreases-push-hex
decreases-push-hex l = l.group
