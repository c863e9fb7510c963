-- Whether a list of routes shares the first bits of an address, route by route.
use Rattle.std.proofs.Common.{◌≡◌, ℕ, Bool, ◌&&◌, ◌||◌, leb, List, [], ◌∷◌, map, length, take, sym, refl, ap, ◌∙◌, arith, length-take}
use Rattle.std.proofs.lemmas.List.{length-take-le}
use Rattle.std.proofs.lemmas.Bool.{leb-true}
use Rattle.std.specs.List.{list_any}
use Rattle.address.specs.declared.Address.{Ghosts}
use Rattle.bits.specs.Rows.{Bits}
use Rattle.bits.specs.Order.{begins}
use Rattle.bits.proofs.Orders.{holds, fails, decided}
use Rattle.bits.proofs.Prefixes.{begins_take}
use Rattle.laws.specs.Counts.{shared}
use Rattle.routes.specs.declared.Route.{Route as Entry}
use Rattle.routes.specs.Meant.{meant}

module _ {X : Type 0} {G : Ghosts X} (a : Bits) (o : ℕ) where
  -- a route's whole address shows it as well as its prefix does
  abbrev passes : Entry X G → Bool
  passes r = leb o r.prefix.length && begins (take o a) (G.bits r.prefix.address)

  by_address : (r : Entry X G) → (leb o (length (meant G.bits r).prefix) && begins (take o a) (meant G.bits r).prefix) ≡ passes r
  by_address r =
      let size = length-take-le r.prefix.length (G.bits r.prefix.address) r.sound.0 in
      ap (λ (n : ℕ). leb o n && begins (take o a) (meant G.bits r).prefix) size
      ∙ elim (decided (leb o r.prefix.length)) [
        | holds e ↦ simp e
            (let short = leb-true o r.prefix.length e in
            let some = length-take o a in
            begins_take (take o a) (G.bits r.prefix.address) r.prefix.length (omega arith))
        | fails e ↦ simp e
      ]

  pub any_shares : (rs : List (Entry X G)) → list_any passes rs ≡ shared (map (meant G.bits) rs) a o
  any_shares [] = refl
  any_shares (r ∷ rs) =
      ap (λ (t : Bool). t || list_any passes rs) (sym (by_address r))
      ∙ ap (λ (t : Bool). (leb o (length (meant G.bits r).prefix) && begins (take o a) (meant G.bits r).prefix) || t) (any_shares rs)
