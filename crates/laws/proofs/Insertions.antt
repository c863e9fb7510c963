-- Routes put in one after the other: in any order, and by calls.
use Rattle.std.proofs.Common.{◌≡◌, ℕ, zero, suc, ◌+◌, ◌-◌, ◌≤◌, true, false, List, [], ◌∷◌, ◌++◌, length, take, drop, replicate, is_some, sym, refl, ap, ◌∙◌, subst, arith, take-take, le-leb}
use mathlib.Core.List.{Permᴰ}
use lib.Seq.{drop-append_seam, take-append_seam}
use Rattle.std.proofs.lemmas.List.{drop-take}
use Rattle.bits.specs.Rows.{Bits, clear, padded}
use Rattle.bits.specs.Order.{same}
use Rattle.bits.proofs.Orders.{holds, fails, decided, same_eq, same_flips}
use Rattle.laws.specs.Lists.{Apart, Different, Granted, InRange, InsertionLaws, insert_all, put_all}
use Rattle.laws.proofs.Granted.{insert_granted}
use Rattle.laws.proofs.Required.{fewer}
use Rattle.laws.proofs.Routes.{find_put, find_put_other, put_ascends, unique}
use Rattle.model.specs.Calls.{Plain, holding, insert, inserted, done, perform, after_all, left_by}
use Rattle.model.specs.Outcomes.{is_granted}
use Rattle.model.specs.Required.{required}
use Rattle.model.specs.Routes.{Route, Routes, Ascending, find, last_hop, prefix_of, put, sound}

-- ---- in any order

put_two : (rs : Routes) (p q : Bits) (h k : ℕ) → Ascending rs → same p q ≡ false → put (put rs p h) q k ≡ put (put rs q k) p h
put_two rs p q h k s n =
    unique (put (put rs p h) q k) (put (put rs q k) p h) (put_ascends (put rs p h) q k (put_ascends rs p h s)) (put_ascends (put rs q k) p h (put_ascends rs q k s))
    (λ x. elim (decided (same x q)) [
      | holds e ↦
          (let is = same_eq x q e in
          let other : same x p ≡ false = ap (λ (y : Bits). same y p) is ∙ same_flips p q ∙ n in
          ap (find (put (put rs p h) q k)) is ∙ find_put (put rs p h) q k
          ∙ sym (find_put_other (put rs q k) p x h other ∙ ap (find (put rs q k)) is ∙ find_put rs q k))
      | fails e ↦
          (find_put_other (put rs p h) q x k e
          ∙ elim (decided (same x p)) [
            | holds f ↦
                (let is = same_eq x p f in
                ap (find (put rs p h)) is ∙ find_put rs p h ∙ sym (ap (find (put (put rs q k) p h)) is ∙ find_put (put rs q k) p h))
            | fails f ↦ find_put_other rs p x h f ∙ sym (find_put_other (put rs q k) p x h f ∙ find_put_other rs q x k e)
          ])
    ])

apart_reordered : (p : Bits) {xs ys : Routes} → Permᴰ xs ys → Apart p xs → Apart p ys
apart_reordered p Permᴰ.nil a = a
apart_reordered p (Permᴰ.cons e d) a = (ap (λ (r : Route). same p r.prefix) (sym e) ∙ a.0, apart_reordered p d a.1)
apart_reordered p (Permᴰ.swap e f) a =
    (ap (λ (r : Route). same p r.prefix) (sym f) ∙ a.1.0, (ap (λ (r : Route). same p r.prefix) (sym e) ∙ a.0, a.1.1))
apart_reordered p (Permᴰ.trans d f) a = apart_reordered p f (apart_reordered p d a)

different_reordered : {xs ys : Routes} → Permᴰ xs ys → Different xs → Different ys
different_reordered Permᴰ.nil s = s
different_reordered (Permᴰ.cons {a} {b} {l₁} {l₂} e d) s =
    (subst (λ (r : Route). Apart r.prefix l₂) e (apart_reordered a.prefix d s.0), different_reordered d s.1)
different_reordered (Permᴰ.swap {a} {b} {a'} {b'} {l} e f) s =
    let turned : same a'.prefix b'.prefix ≡ false =
    ap (λ (r : Route). same r.prefix b'.prefix) (sym f) ∙ ap (λ (r : Route). same b.prefix r.prefix) (sym e) ∙ same_flips a.prefix b.prefix ∙ s.0.0 in
    ((turned, subst (λ (r : Route). Apart r.prefix l) f s.1.0), (subst (λ (r : Route). Apart r.prefix l) e s.0.1, s.1.1))
different_reordered (Permᴰ.trans d f) s = different_reordered f (different_reordered d s)

any_order : (rs : Routes) {xs ys : Routes} → Ascending rs → Different xs → Permᴰ xs ys → put_all rs xs ≡ put_all rs ys
any_order rs s n Permᴰ.nil = refl
any_order rs s n (Permᴰ.cons {a} {b} {l₁} {l₂} e d) =
    any_order (put rs a.prefix a.hop) (put_ascends rs a.prefix a.hop s) n.1 d
    ∙ ap (λ (r : Route). put_all (put rs r.prefix r.hop) l₂) e
any_order rs s n (Permᴰ.swap {a} {b} {a'} {b'} {l} e f) =
    ap (λ (x : Routes). put_all x l) (put_two rs a.prefix b.prefix a.hop b.hop s n.0.0)
    ∙ ap (λ (r : Route). put_all (put (put rs r.prefix r.hop) a.prefix a.hop) l) f
    ∙ ap (λ (r : Route). put_all (put (put rs a'.prefix a'.hop) r.prefix r.hop) l) e
any_order rs s n (Permᴰ.trans d f) = any_order rs s n d ∙ any_order rs s (different_reordered d n) f

-- ---- a prefix as an address of W bits and a length

clear_zeros : (n m : ℕ) → clear (take n (replicate m false)) ≡ true
unfolding clear
clear_zeros zero m = refl
clear_zeros (suc n) zero = refl
clear_zeros (suc n) (suc m) = clear_zeros n m

module _ (W : ℕ) (p : Bits) (fits : length p ≤ W) where
  pub address_prefix : prefix_of (padded W p) (length p) ≡ p
  address_prefix = take-take (length p) W (p ++ replicate W false) fits ∙ take-append_seam p (replicate W false)

  pub address_sound : sound (padded W p) (length p) ≡ true
  address_sound =
      let split : W ≡ length p + (W - length p) = omega arith in
      ap (λ (i : ℕ). clear (drop (length p) (take i (p ++ replicate W false)))) split
      ∙ ap clear (drop-take (length p) (W - length p) (p ++ replicate W false))
      ∙ ap (λ (x : Bits). clear (take (W - length p) x)) (drop-append_seam p (replicate W false))
      ∙ clear_zeros (W - length p) W

-- ---- by calls

put_keeps : (rs : Routes) (q p : Bits) (h : ℕ) → is_some (find rs p) ≡ true → is_some (find (put rs q h) p) ≡ true
put_keeps rs q p h e = elim (decided (same p q)) [
  | holds k ↦ (let is = same_eq p q k in ap (λ (x : Bits). is_some (find (put rs q h) x)) is ∙ ap is_some (find_put rs q h))
  | fails k ↦ ap is_some (find_put_other rs q p h k) ∙ e
]

put_all_keeps : (rs xs : Routes) (p : Bits) → is_some (find rs p) ≡ true → is_some (find (put_all rs xs) p) ≡ true
put_all_keeps rs [] p e = e
put_all_keeps rs (x ∷ xs) p e = put_all_keeps (put rs x.prefix x.hop) xs p (put_keeps rs x.prefix p x.hop e)

module _ (W N : ℕ) (plan : List ℕ) where
  -- the next insert is granted, since what it requires is required in the end
  insert_next : (rs xs : Routes) (x : Route) → length x.prefix ≤ W → x.hop ≤ last_hop → required plan (put_all rs (x ∷ xs)) ≤ N
      → perform W N (holding plan rs) (insert (padded W x.prefix) (length x.prefix) x.hop)
      ≡ done (inserted (find rs x.prefix) (required plan (put rs x.prefix x.hop) - required plan rs)) (holding plan (put rs x.prefix x.hop))
  insert_next rs xs x l m n =
      let p = x.prefix in
      let then = put rs p x.hop in
      let room : required plan then ≤ N = omega (arith, fewer plan then (put_all then xs) (λ q. put_all_keeps then xs q)) in
      let as-prefix = address_prefix W p l in
      let fits = subst (λ (y : Bits). required plan (put rs y x.hop) ≤ N) (sym as-prefix) room in
      insert_granted W N plan rs (padded W p) (length p) (le-leb (length p) W l) (address_sound W p l) x.hop
      (le-leb x.hop last_hop m) (le-leb (required plan (put rs (prefix_of (padded W p) (length p)) x.hop)) N fits)
      ∙ ap (λ (y : Bits). done (inserted (find rs y) (required plan (put rs y x.hop) - required plan rs)) (holding plan (put rs y x.hop))) as-prefix

  pub all_granted : (rs xs : Routes) → InRange W xs → required plan (put_all rs xs) ≤ N → Granted W N (holding plan rs) (insert_all W xs)
  all_granted rs [] i n = tt
  all_granted rs (x ∷ xs) i n =
      let step = insert_next rs xs x i.0 i.1 n in
      let then = holding plan (put rs x.prefix x.hop) in (
        ap is_granted step,
        subst (λ (l : Plain). Granted W N l (insert_all W xs)) (sym (ap (left_by (holding plan rs)) step))
            (all_granted (put rs x.prefix x.hop) xs i.2 n),
      )

  pub all_held : (rs xs : Routes) → InRange W xs → required plan (put_all rs xs) ≤ N
      → after_all W N (holding plan rs) (insert_all W xs) ≡ holding plan (put_all rs xs)
  all_held rs [] i n = refl
  all_held rs (x ∷ xs) i n =
      ap (λ (l : Plain). after_all W N l (insert_all W xs)) (ap (left_by (holding plan rs)) (insert_next rs xs x i.0 i.1 n))
      ∙ all_held (put rs x.prefix x.hop) xs i.2 n

pub insertion_laws : InsertionLaws
insertion_laws = record { any_order = λ rs xs ys s n d. any_order rs s n d; all_granted = all_granted; all_held = all_held }
