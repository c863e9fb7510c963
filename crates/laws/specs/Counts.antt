-- Required nodes counted offset by offset.
use Rattle.std.specs.Prelude.{ℕ, suc, Bool, false, cond, not, ◌&&◌, ◌||◌, List, [], ◌∷◌, length, take, ◌==◌, nat_le}
use Rattle.bits.specs.Rows.{Bits}
use Rattle.bits.specs.Order.{begins}
use Rattle.model.specs.Routes.{Routes}

-- how many numbers pass a test
abbrev pub count : (ℕ → Bool) → List ℕ → ℕ
count test [] = 0
count test (n ∷ ns) = cond (test n) (suc (count test ns)) (count test ns)

-- one of the routes has a prefix of at least o bits that begins as the address does
abbrev pub shared : Routes → Bits → ℕ → Bool
shared [] address o = false
shared (r ∷ rs) address o = nat_le o (length r.prefix) && begins (take o address) r.prefix || shared rs address o

-- the routes require the node that the first o bits of an address lead to, o an offset: it is the root, or it is shared
abbrev pub needed : Routes → Bits → ℕ → Bool
needed rs address o = o == 0 || shared rs address o

-- of the nodes on the way to a prefix of so many bits, one that is not required
abbrev pub missing : Routes → Bits → ℕ → ℕ → Bool
missing rs address len o = nat_le o len && not (needed rs address o)
