-- What was found, in the words of the plain list's answers.
use Rattle.std.proofs.Common.{◌≡◌, ℕ, List, Option, Some, None, refl}
use Rattle.std.specs.Option.{option_map}
use Rattle.address.specs.declared.Address.{Ghosts}
use Rattle.routes.specs.declared.Route.{Route}
use Rattle.routes.specs.Meant.{meant}
use Rattle.replies.specs.Told.{found_spelled}
use Rattle.replies.specs.Words.{FoundWords}

-- the words of a route that was found are those of the route that it stands for
pub found_words : {X : Type 0} {G : Ghosts X} (spelled : X → List ℕ) (o : Option (Route X G)) (words : List ℕ)
    → words ≡ found_spelled spelled o → FoundWords G.bits spelled (option_map (meant G.bits) o) words
found_words spelled None words e = e
found_words spelled (Some r) words e = record { prefix = r.prefix; sound = r.sound; is = refl; told = e }
