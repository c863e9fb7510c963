-- A bitmap with one position more, or one less, that is marked.
use Rattle.std.specs.Prelude.{ℕ, ◌+◌, ◌-◌, ◌^◌, cond}
use Rattle.model.specs.Nodes.{marked}

abbrev pub with_mark : ℕ → ℕ → ℕ
with_mark bitmap i = cond (marked bitmap i) bitmap (bitmap + 2 ^ i)

abbrev pub without_mark : ℕ → ℕ → ℕ
without_mark bitmap i = cond (marked bitmap i) (bitmap - 2 ^ i) bitmap
