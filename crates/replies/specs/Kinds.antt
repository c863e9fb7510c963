-- The names of the kinds of address.
use Rattle.std.specs.Prelude.{◌≡◌, ◌≢◌, ℕ, List, codes, Ok, Err, Result}
use Rattle.replies.specs.declared.kind.Kind.{Kind}
use Rattle.replies.specs.declared.kind.Kind.TheVariants.{Ipv4, Ipv6}
use Rattle.replies.specs.declared.kind.UnknownKind.{UnknownKind}

abbrev pub kind_name : Kind → List ℕ
kind_name Ipv4 = codes "ipv4"
kind_name Ipv6 = codes "ipv6"

-- the text is the kind's name, or that of none
abbrev pub NamesKind : List ℕ → Result Kind UnknownKind → Type 0
NamesKind text (Ok kind) = text ≡ kind_name kind
NamesKind text (Err e) = (text ≢ kind_name Ipv4) × (text ≢ kind_name Ipv6)
