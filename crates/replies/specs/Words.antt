-- The answers of the plain list in words.
use Rattle.std.specs.Prelude.{◌≡◌, ℕ, List, Some, None, Option, codes}
use Rattle.address.specs.declared.prefix.Prefix.{Prefix}
use Rattle.bits.specs.Rows.{Bits}
use Rattle.bits.specs.Order.{Sound}
use Rattle.model.specs.Calls.{Answer, opened, inserted, deleted, matched, hop_is, route_is, counted}
use Rattle.model.specs.Routes.{Route}
use Rattle.routes.specs.Meant.{prefix_bits}
use Rattle.replies.specs.Told.{route_told, prefix_spelled, opened_told, inserted_told, deleted_told, matched_told, hop_told, counted_told}

-- the answer to an opening for so many nodes, with so many strides
abbrev pub OpenedWords : ℕ → ℕ → Answer → List ℕ → Type 0
OpenedWords nodes strides opened words = words ≡ opened_told nodes strides
OpenedWords nodes strides _ words = ⊥

-- the answer to an insert of a hop
abbrev pub InsertedWords : ℕ → Answer → List ℕ → Type 0
InsertedWords hop (inserted old taken) words = words ≡ inserted_told hop old taken
InsertedWords hop _ words = ⊥

abbrev pub DeletedWords : Answer → List ℕ → Type 0
DeletedWords (deleted hop returned) words = words ≡ deleted_told hop returned
DeletedWords _ words = ⊥

abbrev pub HopWords : Answer → List ℕ → Type 0
HopWords (hop_is hop) words = words ≡ hop_told hop
HopWords _ words = ⊥

abbrev pub CountedWords : Answer → List ℕ → Type 0
CountedWords (counted routes required free) words = words ≡ counted_told routes required free
CountedWords _ words = ⊥

module _ {X : Type 0} (bits : X → Bits) (spelled : X → List ℕ) where
  -- the words are the text of the route's prefix, an address with no bit set behind the length, and the hop
  pub record RouteWords (r : Route) (words : List ℕ) : Type 0 where
    pub prefix : Prefix X
    pub sound : Sound (bits prefix.address) prefix.length
    pub is : prefix_bits bits prefix ≡ r.prefix
    pub told : words ≡ route_told (prefix_spelled spelled prefix) r.hop

  -- the same, or the words of none
  abbrev pub FoundWords : Option Route → List ℕ → Type 0
  FoundWords None words = words ≡ codes "no route"
  FoundWords (Some r) words = RouteWords r words

  -- the answer to a first or a next
  abbrev pub RouteAnswerWords : Answer → List ℕ → Type 0
  RouteAnswerWords (route_is found) words = FoundWords found words
  RouteAnswerWords _ words = ⊥

  -- the answer to a lookup
  abbrev pub MatchedWords : Answer → List ℕ → Type 0
  MatchedWords (matched found path) words = (route : List ℕ) × FoundWords found route × (words ≡ matched_told route path)
  MatchedWords _ words = ⊥
