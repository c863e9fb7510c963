-- What a vector holds once all of its items were lent, and given back.
use Rattle.std.proofs.Common.{◌≡◌, ℕ, List, length, take, ◌++◌}
use Rattle.std.proofs.Math.Seq.{take-append_seam}

pub written_back : {X : Type 0} (len : ℕ) (given rest : List X) → length given ≡ len → take len (given ++ rest) ≡ given
written_back len given rest e = rw e at (take-append_seam given rest)
