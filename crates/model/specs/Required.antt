-- The nodes that a set of routes requires: the root, and one for each different first o bits of a prefix, o the offset of a later stride.
-- A node is named by the bits that lead to it, its path; the root's is empty.
use Rattle.std.specs.Prelude.{◌≡◌, ℕ, suc, Bool, false, cond, ◌||◌, List, [], ◌∷◌, ◌++◌, length, take, nat_le}
use Rattle.bits.specs.Rows.{Bits}
use Rattle.bits.specs.Order.{begins, same}
use Rattle.model.specs.Plans.{offsets}
use Rattle.model.specs.Routes.{Routes}

-- the paths on the way to a prefix, from the root down: its first bits at each offset that it reaches
abbrev pub way : List ℕ → Bits → List Bits
way [] p = []
way (o ∷ os) p = cond (nat_le o (length p)) (take o p ∷ way os p) (way os p)

-- those of all routes
abbrev pub ways : List ℕ → Routes → List Bits
ways os [] = []
ways os (r ∷ rs) = way os r.prefix ++ ways os rs

abbrev pub member : Bits → List Bits → Bool
member p [] = false
member p (q ∷ qs) = same p q || member p qs

-- each path once
abbrev pub distinct : List Bits → List Bits
distinct [] = []
distinct (p ∷ ps) = cond (member p ps) (distinct ps) (p ∷ distinct ps)

-- no path stands twice
abbrev pub Single : List Bits → Type 0
Single [] = Unit {0}
Single (p ∷ ps) = (member p ps ≡ false) × Single ps

-- those that are not among others
abbrev pub fresh : List Bits → List Bits → List Bits
fresh [] qs = []
fresh (p ∷ ps) qs = cond (member p qs) (fresh ps qs) (p ∷ fresh ps qs)

unfoldable pub required_paths : List ℕ → Routes → List Bits
required_paths plan routes = distinct ([] ∷ ways (offsets plan) routes)

-- how many nodes a set of routes requires
unfoldable pub required : List ℕ → Routes → ℕ
required plan routes = length (required_paths plan routes)

-- how many of the paths begin an address
abbrev pub count_begins : List Bits → Bits → ℕ
count_begins [] address = 0
count_begins (p ∷ ps) address = cond (begins p address) (suc (count_begins ps address)) (count_begins ps address)

-- the path count of a lookup: how many of the required nodes lie on the way of the address
unfoldable pub path_count : List ℕ → Routes → Bits → ℕ
path_count plan routes address = count_begins (required_paths plan routes) address
