-- What the next word of a line is.
use Rattle.std.specs.Prelude.{◌≡◌, length, Option, None, Some}
use Rattle.commands.specs.Blanks.{Blank, WordAt}
use Rattle.commands.specs.declared.line.Word.{Word}
use Rattle.commands.specs.declared.line.Words.{Words}

-- the first word of those that are left, or none where only blanks are left; a word that was given is left no more
abbrev pub NextWord : Words → Option Word → Words → Type 0
NextWord s None t = (t.line.now ≡ s.line.now) × (t.place ≡ s.place) × Blank s.line.now s.place (length s.line.now)
NextWord s (Some w) t = (t.line.now ≡ s.line.now) × WordAt s.line.now s.place w.place t.place w.bytes.now
