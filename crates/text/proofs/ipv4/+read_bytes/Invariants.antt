use Rattle.text.proofs.ipv4.+read_bytes.Given as goal

abbrev pub decreases-read_bytes : goal.decreases-read_bytes
decreases-read_bytes l = l.dots
