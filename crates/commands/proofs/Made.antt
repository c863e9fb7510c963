-- What holds of every value that is made.
use Rattle.std.proofs.Common.{IfOk, Ok, Err, Result}

pub made_so : {X Y : Type 0} {P Q : X → Type 0} (r : Result X Y) → IfOk r P → ((x : X) → P x → Q x) → IfOk r Q
made_so (Ok x) h f = f x h
made_so (Err y) h f = tt
