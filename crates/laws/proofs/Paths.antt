-- How many nodes are required depends only on which paths are, and a route more requires those of its paths that are new.
use Rattle.std.proofs.Common.{◌≡◌, ℕ, suc, ◌+◌, Bool, true, false, cond, ◌||◌, List, [], ◌∷◌, ◌++◌, length, sym, refl, ap, ◌∙◌, add-zero, add-suc}
use Rattle.bits.specs.Rows.{Bits}
use Rattle.bits.specs.Order.{same}
use Rattle.model.specs.Plans.{offsets}
use Rattle.model.specs.Required.{way, ways, member, distinct, fresh, required_paths, required}
use Rattle.model.specs.Routes.{Routes, put}
use Rattle.laws.proofs.Bools.{or_false, or_true}
use Rattle.bits.proofs.Orders.{less, equal, greater, compared, holds, fails, decided, order_equal, same_eq, same_flips, same_self}

pub member_append : (q : Bits) (xs ys : List Bits) → member q (xs ++ ys) ≡ (member q xs || member q ys)
member_append q [] ys = refl
member_append q (x ∷ xs) ys = elim (decided (same q x)) [ holds e ↦ simp e | fails e ↦ simp e (member_append q xs ys) ]

member_same : (p q : Bits) (xs : List Bits) → same p q ≡ true → member p xs ≡ member q xs
member_same p q xs e = ap (λ x. member x xs) (same_eq p q e)

-- without every occurrence of a path
except : Bits → List Bits → List Bits
except p [] = []
except p (x ∷ xs) = cond (same p x) (except p xs) (x ∷ except p xs)

except_gone : (p : Bits) (xs : List Bits) → member p (except p xs) ≡ false
unfolding except
except_gone p [] = refl
except_gone p (x ∷ xs) = elim (decided (same p x)) [ holds e ↦ simp e (except_gone p xs) | fails e ↦ simp e (except_gone p xs) ]

except_keeps : (p q : Bits) (xs : List Bits) → same q p ≡ false → member q (except p xs) ≡ member q xs
unfolding except
except_keeps p q [] h = refl
except_keeps p q (x ∷ xs) h = elim (decided (same p x)) [
  | holds e ↦ simp e (except_keeps p q xs h ∙ simp (← same_eq p x e, h))
  | fails e ↦ simp e (ap (λ t. same q x || t) (except_keeps p q xs h))
]

except_none : (p : Bits) (xs : List Bits) → member p xs ≡ false → except p xs ≡ xs
unfolding except
except_none p [] h = refl
except_none p (x ∷ xs) h = elim (decided (same p x)) [
  | holds e ↦ (let wrong = simp e at h in cc)
  | fails e ↦ simp e (ap (λ (l : List Bits). x ∷ l) (except_none p xs (simp e at h)))
]

count_except : (p : Bits) (xs : List Bits) → member p xs ≡ true → length (distinct xs) ≡ suc (length (distinct (except p xs)))
unfolding except
count_except p [] h = cc
count_except p (x ∷ xs) h = elim (decided (same p x)) [
  | holds e ↦
      (let other = member_same p x xs e in
      elim (decided (member x xs)) [
        | holds k ↦ simp (e, k) (count_except p xs (other ∙ k))
        | fails k ↦ simp (e, k, except_none p xs (other ∙ k))
      ])
  | fails e ↦
      (let kept = except_keeps p x xs (same_flips p x ∙ e) in
      let more = count_except p xs (simp e at h) in
      elim (decided (member x xs)) [
        | holds k ↦ simp (e, k, kept) more
        | fails k ↦ simp (e, k, kept) (ap suc more)
      ])
]

none_empty : (xs : List Bits) → ((q : Bits) → false ≡ member q xs) → xs ≡ []
none_empty [] h = refl
none_empty (x ∷ xs) h = let wrong = simp (same_self x) at (h x) in cc

-- lists with the same members have as many different ones
pub same_count : (xs ys : List Bits) → ((q : Bits) → member q xs ≡ member q ys) → length (distinct xs) ≡ length (distinct ys)
same_count [] ys h = sym (ap (λ l. length (distinct l)) (none_empty ys h))
same_count (x ∷ xs) ys h = elim (decided (member x xs)) [
  | holds e ↦ simp e (same_count xs ys (λ q. elim (decided (same q x)) [
    | holds k ↦ (member_same q x xs k ∙ e) ∙ simp k at (h q)
    | fails k ↦ simp k at (h q)
  ]))
  | fails e ↦
      (let here : member x ys ≡ true = sym (simp (same_self x) at (h x)) in
      let rest = same_count xs (except x ys) (λ q. elim (decided (same q x)) [
        | holds k ↦ member_same q x xs k ∙ e ∙ sym (member_same q x (except x ys) k ∙ except_gone x ys)
        | fails k ↦ (simp k at (h q)) ∙ sym (except_keeps x q ys k)
      ]) in
      simp e (ap suc rest ∙ sym (count_except x ys here)))
]

fresh_member : (q : Bits) (xs ys : List Bits) → member q ys ≡ false → member q (fresh xs ys) ≡ member q xs
fresh_member q [] ys h = refl
fresh_member q (x ∷ xs) ys h = elim (decided (member x ys)) [
  | holds e ↦
      (elim (decided (same q x)) [
        | holds k ↦ (let wrong = sym h ∙ (member_same q x ys k ∙ e) in cc)
        | fails k ↦ simp (e, k) (fresh_member q xs ys h)
      ])
  | fails e ↦ simp e (ap (λ t. same q x || t) (fresh_member q xs ys h))
]

-- more paths: those already there, and the different ones among the new
pub count_append : (xs ys : List Bits) → length (distinct (xs ++ ys)) ≡ length (distinct ys) + length (distinct (fresh xs ys))
count_append [] ys = sym (add-zero (length (distinct ys)))
count_append (x ∷ xs) ys = elim (decided (member x ys)) [
  | holds e ↦
      (let there : member x (xs ++ ys) ≡ true = member_append x xs ys ∙ ap (λ t. member x xs || t) e ∙ or_true (member x xs) in
      simp (there, e) (count_append xs ys))
  | fails e ↦
      (let there : member x (xs ++ ys) ≡ member x xs = member_append x xs ys ∙ ap (λ t. member x xs || t) e ∙ or_false (member x xs) in
      elim (decided (member x xs)) [
        | holds k ↦ simp (there, e, fresh_member x xs ys e, k) (count_append xs ys)
        | fails k ↦ simp (there, e, fresh_member x xs ys e, k) (ap suc (count_append xs ys) ∙ sym (add-suc (length (distinct ys)) (length (distinct (fresh xs ys)))))
      ])
]

pub or_swap : (a b c : Bool) → (a || (b || c)) ≡ (b || (a || c))
or_swap true true c = refl
or_swap true false c = refl
or_swap false true c = refl
or_swap false false c = refl

or_twice : (a b : Bool) → (a || b) ≡ (a || (a || b))
or_twice true b = refl
or_twice false b = refl

-- putting a route in adds the way of its prefix
pub put_members : (os : List ℕ) (rs : Routes) (p : Bits) (h : ℕ) (q : Bits)
    → member q (ways os (put rs p h)) ≡ member q (way os p ++ ways os rs)
put_members os [] p h q = refl
put_members os (r ∷ rs) p h q = elim (compared p r.prefix) [
  | less e ↦ simp e
  | equal e ↦ simp (e, member_append, ← order_equal p r.prefix e) (or_twice (member q (way os p)) (member q (ways os rs)))
  | greater e ↦
      simp (e, member_append)
      (ap (λ t. member q (way os r.prefix) || t) (put_members os rs p h q ∙ member_append q (way os p) (ways os rs))
      ∙ or_swap (member q (way os r.prefix)) (member q (way os p)) (member q (ways os rs)))
]

pub member_distinct : (q : Bits) (xs : List Bits) → member q (distinct xs) ≡ member q xs
member_distinct q [] = refl
member_distinct q (x ∷ xs) = elim (decided (member x xs)) [
  | holds e ↦
      simp e (member_distinct q xs ∙ elim (decided (same q x)) [ holds k ↦ simp k (member_same q x xs k ∙ e) | fails k ↦ simp k ])
  | fails e ↦ simp e (ap (λ t. same q x || t) (member_distinct q xs))
]

fresh_same : (xs ys zs : List Bits) → ((q : Bits) → member q ys ≡ member q zs) → fresh xs ys ≡ fresh xs zs
fresh_same [] ys zs h = refl
fresh_same (x ∷ xs) ys zs h = simp (h x, fresh_same xs ys zs h)

pub put_requires : (plan : List ℕ) (rs : Routes) (p : Bits) (h : ℕ)
    → required plan (put rs p h) ≡ required plan rs + length (distinct (fresh (way (offsets plan) p) (required_paths plan rs)))
unfolding required required_paths
put_requires plan rs p h =
    let os = offsets plan in
    let old = [] ∷ ways os rs in
    same_count ([] ∷ ways os (put rs p h)) (way os p ++ old) (λ q.
    ap (λ t. same q [] || t) (put_members os rs p h q ∙ member_append q (way os p) (ways os rs))
    ∙ or_swap (same q []) (member q (way os p)) (member q (ways os rs))
    ∙ sym (member_append q (way os p) old))
    ∙ count_append (way os p) old
    ∙ ap (λ (l : List Bits). length (distinct old) + length (distinct l)) (fresh_same (way os p) old (distinct old) (λ q. sym (member_distinct q old)))
