-- Which nodes a set of routes requires, and how their number changes.
use Rattle.std.specs.Prelude.{◌≡◌, ℕ, ◌+◌, ◌<◌, ◌≤◌, true, ◌⊎◌, List, [], length, take, is_some, Some}
use Rattle.bits.specs.Rows.{Bits}
use Rattle.model.specs.Plans.{offset, offsets}
use Rattle.model.specs.Required.{Single, distinct, fresh, member, required, required_paths, way}
use Rattle.model.specs.Routes.{Routes, Ascending, find, put, without}

-- a path is the first bits of one of the routes' prefixes, as many as the offset of a later stride, which the prefix reaches
pub record Beneath (plan : List ℕ) (routes : Routes) (path : Bits) : Type 0 where
  pub prefix : Bits
  pub stride : ℕ
  pub held : is_some (find routes prefix) ≡ true
  pub later : 1 ≤ stride
  pub planned : stride < length plan
  pub reaches : offset plan stride ≤ length prefix
  pub is : path ≡ take (offset plan stride) prefix

-- Required are the root and each path of that kind, each counted once. A route more requires those of its paths that are new, and a route
-- less no longer those that it alone required; so an insert's and a delete's node numbers are the differences of what is required.
pub record RequiredLaws : Type 0 where
  pub which : (plan : List ℕ) (rs : Routes) (path : Bits) → member path (required_paths plan rs) ≡ true → (path ≡ []) ⊎ Beneath plan rs path
  pub root : (plan : List ℕ) (rs : Routes) → member [] (required_paths plan rs) ≡ true
  pub beneath : (plan : List ℕ) (rs : Routes) (path : Bits) → Beneath plan rs path → member path (required_paths plan rs) ≡ true
  pub each_once : (plan : List ℕ) (rs : Routes) → Single (required_paths plan rs)
  pub newly :
      (plan : List ℕ) (rs : Routes) (p : Bits) (h : ℕ)
      → required plan (put rs p h) ≡ required plan rs + length (distinct (fresh (way (offsets plan) p) (required_paths plan rs)))
  pub no_longer :
      (plan : List ℕ) (rs : Routes) (p : Bits) (h : ℕ) → Ascending rs → find rs p ≡ Some h
      → required plan rs ≡ required plan (without rs p) + length (distinct (fresh (way (offsets plan) p) (required_paths plan (without rs p))))
  pub fewer :
      (plan : List ℕ) (rs qs : Routes) → ((p : Bits) → is_some (find rs p) ≡ true → is_some (find qs p) ≡ true)
      → required plan rs ≤ required plan qs
