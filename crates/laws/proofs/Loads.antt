-- Loading a sheet leaves what opening and inserting its routes in their order leaves.
use Rattle.std.proofs.Common.{◌≡◌, ℕ, ◌≤◌, true, leb, List, [], ◌∷◌, ◌++◌, length, Less, Greater, sym, refl, ap, ◌∙◌, subst, append_assoc, append-nil, arith, le-leb}
use Rattle.bits.proofs.Orders.{order_chains, order_flips}
use Rattle.bits.specs.Order.{flipped, order}
use Rattle.bits.specs.Rows.{Bits}
use Rattle.laws.specs.Lists.{insert_all, put_all}
use Rattle.laws.specs.Messages.{LoadLaw}
use Rattle.model.specs.Calls.{Plain, holding, Done, open_with, load_sheet, after_all, after}
use Rattle.model.specs.Required.{member, required, required_paths}
use Rattle.model.specs.Routes.{Route, Routes, Ascending, put}
use Rattle.laws.proofs.Insertions.{all_held}
use Rattle.laws.proofs.Readings.{both_granted, granted_same}
use Rattle.laws.proofs.Ways.{root_required}
use Rattle.laws.proofs.Written.{sheet_was_loaded, sheet_was_read}

-- ascending routes, put in one after the other, are the list of them
stands_before : (x : Route) (xs : Routes) (r : Route) (rs : Routes) → Ascending (x ∷ (xs ++ (r ∷ rs))) → order x.prefix r.prefix ≡ Less
stands_before x [] r rs s = s.0
stands_before x (y ∷ xs) r rs s = order_chains x.prefix y.prefix r.prefix s.0 (stands_before y xs r rs s.1)

put_last : (xs : Routes) (r : Route) (rs : Routes) → Ascending (xs ++ (r ∷ rs)) → put xs r.prefix r.hop ≡ xs ++ (r ∷ [])
put_last [] r rs s = refl
put_last (x ∷ xs) r rs s =
    let turned : order r.prefix x.prefix ≡ Greater = order_flips x.prefix r.prefix ∙ ap flipped (stands_before x xs r rs s) in
    simp turned (ap (λ (l : Routes). x ∷ l) (put_last xs r rs s.1))

pub put_behind : (xs rs : Routes) → Ascending (xs ++ rs) → put_all xs rs ≡ xs ++ rs
put_behind xs [] s = sym (append-nil xs)
put_behind xs (r ∷ rs) s =
    let again : xs ++ (r ∷ []) ++ rs ≡ xs ++ (r ∷ rs) = append_assoc xs (r ∷ []) rs in
    ap (λ (l : Routes). put_all l rs) (put_last xs r rs s)
    ∙ put_behind (xs ++ (r ∷ [])) rs (subst Ascending (sym again) s)
    ∙ again

-- a node is required always, the root
member_some : (p : Bits) (xs : List Bits) → member p xs ≡ true → 1 ≤ length xs
member_some p [] h = let z : ◌≡◌ {A = ℕ} 0 1 = cc in omega arith
member_some p (x ∷ xs) h = omega arith

pub some_required : (plan : List ℕ) (rs : Routes) → 1 ≤ required plan rs
unfolding required
some_required plan rs = member_some [] (required_paths plan rs) (root_required plan rs)

-- a load that was granted
pub loads : LoadLaw
loads W N plan routes message d ok h =
    both_granted (load_sheet W N plan message) _ _ h (λ s e f.
    let (read, room) = sheet_was_loaded W N plan message s e in
    let was = sheet_was_read W plan message s read in
    let listed : put_all [] s.routes ≡ s.routes = put_behind [] s.routes was.ascending in
    let some : leb 1 N ≡ true = le-leb 1 N (omega (arith, some_required plan s.routes)) in
    let opened : after W N (holding plan routes) (open_with plan) ≡ holding plan [] = simp (ok, some) in
    let same = granted_same _ _ f in
    let all : after_all W N (holding plan []) (insert_all W s.routes) ≡ holding plan (put_all [] s.routes) =
    all_held W N plan [] s.routes was.in_range (subst (λ (rs : Routes). required plan rs ≤ N) (sym listed) room) in (
      s,
      read,
      sym (ap (λ (q : Done). q.answered) same),
      ap (λ (p : Plain). after_all W N p (insert_all W s.routes)) opened
          ∙ all
          ∙ ap (holding plan) listed
          ∙ ap (λ (q : Done). q.left) same,
    ))
