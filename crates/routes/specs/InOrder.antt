-- What a list of routes is that a set holds; it can hold in one way only, as a fact of a type must.
use Rattle.std.specs.Prelude.{ℕ, ◌≤◌, [], ◌∷◌, length}
use Rattle.std.specs.Coded.{×_prop, Unit-prop}
use Rattle.std.specs.Ordering.{Ordering-set}
use Rattle.std.specs.declared.cmp.Ordering.TheVariants.{Less}
use Rattle.std.proofs.Common.{ap, ap₂, ◌∙◌}
use Rattle.std.proofs.Math.Bridge.{le_prop}
use Rattle.bits.specs.Rows.{Bits}
use Rattle.bits.specs.Order.{order}
use Rattle.laws.specs.Lists.{InRange}
use Rattle.model.specs.Routes.{Routes, Above, Ascending, last_hop}

-- ascending, so at most one to a prefix, and each with at most W bits and a hop in range
abbrev pub InOrder : ℕ → Routes → Type 0
InOrder W rs = Ascending rs × InRange W rs

Above-prop : (p : Bits) (rs : Routes) → IsProp (Above p rs)
Above-prop p [] = Unit-prop
Above-prop p (r ∷ rs) = Ordering-set (order p r.prefix) Less

Ascending-prop : (rs : Routes) → IsProp (Ascending rs)
Ascending-prop [] = Unit-prop
Ascending-prop (r ∷ rs) = ×_prop (Above-prop r.prefix rs) (Ascending-prop rs)

InRange-prop : (W : ℕ) (rs : Routes) → IsProp (InRange W rs)
InRange-prop W [] x y = Unit-prop x y
InRange-prop W (r ∷ rs) x y =
    ap₂ (λ (s : length r.prefix ≤ W) (h : r.hop ≤ last_hop). (s, h, x.2)) (le_prop x.0 y.0) (le_prop x.1 y.1)
    ∙ ap (λ (i : InRange W rs). (y.0, y.1, i)) (InRange-prop W rs x.2 y.2)

pub InOrder-prop : (W : ℕ) (rs : Routes) → IsProp (InOrder W rs)
InOrder-prop W rs = ×_prop (Ascending-prop rs) (InRange-prop W rs)
