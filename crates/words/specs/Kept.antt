-- What a memory in lent words holds, and what its calls keep.
use Rattle.std.specs.Prelude.{◌≡◌, ℕ, List}
use Rattle.std.specs.Borrow.{MutBor}
use Rattle.fields.specs.Beside.{Beside}
use Rattle.words.specs.declared.Words.{Words}

-- the words
abbrev pub words_of : Words → List ℕ
words_of x = x.words.now

-- they are those of this lender, who gets them back as the last call leaves them
abbrev pub LentBy : MutBor (List ℕ) → Words → Type 0
LentBy lender x = x.words.ghost_name ≡ lender.ghost_name

-- they are still the same ones
abbrev pub SameLoan : Words → Words → Type 0
SameLoan x y = y.words.ghost_name ≡ x.words.ghost_name

-- every reading leaves all words
abbrev pub Still : Words → Words → Type 0
Still x y = SameLoan x y × (words_of y ≡ words_of x)

-- every call of the two halves leaves what lies beside the fields
abbrev pub Always : Words → Words → Type 0
Always x y = SameLoan x y × Beside (words_of x) (words_of y)
