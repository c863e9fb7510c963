-- Lists in which each path stands once: those that are kept by a test, the different ones, the required ones; and how long they are.
use Rattle.std.proofs.Common.{◌≡◌, ℕ, suc, Bool, cond, ◌&&◌, List, [], ◌∷◌, length, sym, refl, ap, ◌∙◌}
use Rattle.bits.specs.Rows.{Bits}
use Rattle.bits.specs.Order.{begins, same}
use Rattle.bits.proofs.Orders.{holds, fails, decided, same_eq}
use Rattle.laws.proofs.Bools.{and_false}
use Rattle.laws.proofs.Paths.{member_distinct, same_count}
use Rattle.model.specs.Plans.{offsets}
use Rattle.model.specs.Required.{Single, count_begins, distinct, member, required_paths, ways}
use Rattle.model.specs.Routes.{Routes}

unfoldable pub keep : (Bits → Bool) → List Bits → List Bits
keep f [] = []
keep f (x ∷ xs) = cond (f x) (x ∷ keep f xs) (keep f xs)

pub count_keeps : (a : Bits) (xs : List Bits) → count_begins xs a ≡ length (keep (λ p. begins p a) xs)
unfolding keep
count_keeps a [] = refl
count_keeps a (x ∷ xs) = elim (decided (begins x a)) [ holds e ↦ simp e (ap suc (count_keeps a xs)) | fails e ↦ simp e (count_keeps a xs) ]

pub member_keep : (f : Bits → Bool) (q : Bits) (xs : List Bits) → member q (keep f xs) ≡ (f q && member q xs)
unfolding keep
member_keep f q [] = sym (and_false (f q))
member_keep f q (x ∷ xs) =
    let rest = member_keep f q xs in
    elim (decided (same q x)) [
      | holds e ↦
          (let here : f q ≡ f x = ap f (same_eq q x e) in
          elim (decided (f x)) [ holds k ↦ simp (k, e, here) | fails k ↦ simp (k, e, here) (rest ∙ simp (here, k)) ])
      | fails e ↦ elim (decided (f x)) [ holds k ↦ simp (k, e) rest | fails k ↦ simp (k, e) rest ]
    ]

pub single_distinct : (xs : List Bits) → Single xs → distinct xs ≡ xs
single_distinct [] s = refl
single_distinct (x ∷ xs) s = simp s.0 (ap (λ (l : List Bits). x ∷ l) (single_distinct xs s.1))

distinct_single : (xs : List Bits) → Single (distinct xs)
distinct_single [] = tt
distinct_single (x ∷ xs) = elim (decided (member x xs)) [
  | holds e ↦ simp e (distinct_single xs)
  | fails e ↦ simp e (member_distinct x xs ∙ e, distinct_single xs)
]

pub keep_single : (f : Bits → Bool) (xs : List Bits) → Single xs → Single (keep f xs)
unfolding keep
keep_single f [] s = tt
keep_single f (x ∷ xs) s = elim (decided (f x)) [
  | holds e ↦ simp e (member_keep f x xs ∙ ap (λ t. f x && t) s.0 ∙ and_false (f x), keep_single f xs s.1)
  | fails e ↦ simp e (keep_single f xs s.1)
]

pub required_single : (plan : List ℕ) (routes : Routes) → Single (required_paths plan routes)
unfolding required_paths
required_single plan routes = distinct_single ([] ∷ ways (offsets plan) routes)

-- lists that hold the same paths, each once, are equally long
pub same_length : (xs ys : List Bits) → Single xs → Single ys → ((q : Bits) → member q xs ≡ member q ys) → length xs ≡ length ys
same_length xs ys s t h =
    ap length (sym (single_distinct xs s)) ∙ same_count xs ys h ∙ ap length (single_distinct ys t)
