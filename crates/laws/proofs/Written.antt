-- What reads is what is written: what a granted reading of a prefix, of a route and of a sheet says of the message.
use Rattle.std.proofs.Common.{◌≡◌, ℕ, zero, suc, ◌+◌, ◌≤◌, true, eqb, leb, List, [], ◌∷◌, ◌++◌, length, take, drop, Some, None, Option, sym, refl, ap, ◌∙◌, subst, ap₂, append-nil, arith, length-append, take_at, eqb-true, leb-true}
use Rattle.std.proofs.lemmas.List.{drop_all}
use Rattle.bits.proofs.Orders.{decided, holds, fails, compared, less, equal, greater}
use Rattle.bits.specs.Rows.{Bits}
use Rattle.faults.specs.Numbers.{full}
use Rattle.faults.specs.declared.Layer.TheVariants.{Table}
use Rattle.laws.specs.Lists.{InRange}
use Rattle.laws.specs.Messages.{Octets}
use Rattle.model.specs.Bytes.{Bytes, big_endian, byte_count, unpack, prefix_bytes}
use Rattle.model.specs.Calls.{load_sheet}
use Rattle.model.specs.Plans.{same_strides}
use Rattle.model.specs.Reading.{bytes, number_in, end, series}
use Rattle.model.specs.Outcomes.{granted}
use Rattle.model.specs.Required.{required}
use Rattle.model.specs.Routes.{Route, Routes, route, Ascending, last_hop, prefix_of, sound}
use Rattle.model.specs.Sheets.{Read, Sheet, ascends, last_number, route_bytes, routes_bytes, sheet_bytes, read_prefix, read_route, sheet, read_sheet}
use Rattle.laws.proofs.Digits.{length_big_endian, length_prefix_bytes, length_held, prefix_bytes_held}
use Rattle.laws.proofs.Readings.{both_granted, passed, must_passed, granted_same, Stands, stands_none, stands_both, stands_octets, bytes_read, number_read, byte_read, number_written, end_read}
use Rattle.laws.proofs.Sheets.{Follows}

-- a prefix that was read: its length and the bytes of its bits stand in the message
pub record PrefixRead (W : ℕ) (message : Bytes) (at : ℕ) (read : Read) (to : ℕ) : Type 0 where
  pub digits : Bytes
  pub stands : Stands message at (read.len ∷ digits) to
  pub count : length digits ≡ byte_count read.len
  pub short : read.len ≤ W
  pub row_is : read.row ≡ unpack digits
  pub length_is : length (prefix_of read.row read.len) ≡ read.len
  pub place_is : read.place ≡ at

pub prefix_was_read : (W : ℕ) (message : Bytes) (at : ℕ) (read : Read) (to : ℕ) → read_prefix W message at ≡ granted (read, to) → PrefixRead W message at read to
unfolding read_prefix
prefix_was_read W message at read to h =
    both_granted (number_in 1 message at) _ _ h (λ len e f.
    must_passed (leb len.0 W) _ _ _ _ _ _ f (λ t g.
    both_granted (bytes (byte_count len.0) message len.1) _ _ g (λ digits d k.
    let same = granted_same _ _ k in
    let first = byte_read at len.0 len.1 e in
    let (rest, count) = bytes_read (byte_count len.0) len.1 digits.0 digits.1 d in
    subst (λ (r : Read × ℕ). PrefixRead W message at r.0 r.1) same
    (record {
      digits = digits.0;
      stands = stands_both at len.1 digits.1 (len.0 ∷ []) digits.0 first rest;
      count = count;
      short = leb-true len.0 W t;
      row_is = refl;
      length_is = length_held len.0 digits.0 count;
      place_is = refl;
    }))))

-- with no bit behind its length, it stands there as it is written
pub prefix_written : (W : ℕ) (message : Bytes) (at : ℕ) (read : Read) (to : ℕ) → Octets message → PrefixRead W message at read to
    → sound read.row read.len ≡ true → Stands message at (prefix_bytes (prefix_of read.row read.len)) to
prefix_written W message at read to o p s =
    let octets = stands_octets at to (read.len ∷ p.digits) o p.stands in
    let clean : sound (unpack p.digits) read.len ≡ true = ap (λ (r : Bits). sound r read.len) (sym p.row_is) ∙ s in
    subst (λ (x : Bytes). Stands message at x to)
    (sym (prefix_bytes_held read.len p.digits octets.1 p.count clean)
    ∙ ap (λ (r : Bits). prefix_bytes (prefix_of r read.len)) (sym p.row_is))
    p.stands

pub prefix_read_is_written :
    (W : ℕ) (message : Bytes) (read : Read) (behind : ℕ) → Octets message → read_prefix W message 0 ≡ granted (read, behind)
    → sound read.row read.len ≡ true
    → prefix_bytes (prefix_of read.row read.len) ≡ take behind message
prefix_read_is_written W message read behind o h s =
    let p = prefix_of read.row read.len in
    let there = prefix_written W message 0 read behind o (prefix_was_read W message 0 read behind h) s in
    sym (ap (take behind) there.is ∙ take_at (prefix_bytes p) (drop behind message) behind (let e = there.behind in omega arith))

-- ---- a route that was read

pub length_route_bytes : (r : Route) → length (route_bytes r) ≡ 3 + byte_count (length r.prefix)
unfolding route_bytes
length_route_bytes r = omega (arith, length-append (prefix_bytes r.prefix) (big_endian 2 r.hop), length_prefix_bytes r.prefix, length_big_endian 2 r.hop)

pub record RouteRead (W : ℕ) (last : Option Route) (message : Bytes) (at : ℕ) (r : Route) (to : ℕ) : Type 0 where
  pub size : at + length (route_bytes r) ≡ to
  pub inside : to ≤ length message
  pub short : length r.prefix ≤ W
  pub small : r.hop ≤ last_hop
  pub rises : ascends last r.prefix ≡ true
  pub written : Octets message → Stands message at (route_bytes r) to

pub route_was_read : (W : ℕ) (last : Option Route) (message : Bytes) (at : ℕ) (r : Route) (to : ℕ) → read_route W last message at ≡ granted (r, to)
    → RouteRead W last message at r to
unfolding read_route route_bytes
route_was_read W last message at r to h =
    both_granted (read_prefix W message at) _ _ h (λ read e f.
    must_passed (sound read.0.row read.0.len) _ _ _ _ _ _ f (λ clean g.
    both_granted (number_in 2 message read.1) _ _ g (λ hop d k.
    must_passed (leb hop.0 last_hop) _ _ _ _ _ _ k (λ small l.
    must_passed (ascends last (prefix_of read.0.row read.0.len)) _ _ _ _ _ _ l (λ rises m.
    let same = granted_same _ _ m in
    let p = prefix_of read.0.row read.0.len in
    let first = prefix_was_read W message at read.0 read.1 e in
    let (x, there, two, value-is) = number_read 2 read.1 hop.0 hop.1 d in
    subst (λ (q : Route × ℕ). RouteRead W last message at q.0 q.1) same
    (record {
      size = omega (arith, length_route_bytes (route p hop.0), first.length_is, first.stands.behind, first.count, there.behind);
      inside = there.inside;
      short = omega (arith, first.length_is, first.short);
      small = leb-true hop.0 last_hop small;
      rises = rises;
      written = λ o.
          stands_both at read.1 hop.1 (prefix_bytes p) (big_endian 2 hop.0)
          (prefix_written W message at read.0 read.1 o first clean)
          (number_written 2 read.1 hop.0 hop.1 o d);
    }))))))

-- ---- the routes that were read

pub record RoutesRead (W : ℕ) (last : Option Route) (count : ℕ) (message : Bytes) (at : ℕ) (rs : Routes) (to : ℕ) : Type 0 where
  pub count_is : length rs ≡ count
  pub size : at + length (routes_bytes rs) ≡ to
  pub inside : to ≤ length message
  pub follows : Follows last rs
  pub ascending : Ascending rs
  pub in_range : InRange W rs
  pub written : Octets message → Stands message at (routes_bytes rs) to

ascends_follows : (last : Option Route) (r : Route) (rs : Routes) → ascends last r.prefix ≡ true → Follows last (r ∷ rs)
ascends_follows None r rs f = tt
ascends_follows (Some q) r rs f = elim (compared q.prefix r.prefix) [
  | less e ↦ e
  | equal e ↦ (let wrong = simp e at f in cc)
  | greater e ↦ (let wrong = simp e at f in cc)
]

pub routes_were_read : (W : ℕ) (last : Option Route) (count : ℕ) (message : Bytes) (at : ℕ) (rs : Routes) (to : ℕ) → at ≤ length message
    → series (read_route W) last count message at ≡ granted (rs, to) → RoutesRead W last count message at rs to
routes_were_read W last zero message at rs to b h =
    subst (λ (q : Routes × ℕ). RoutesRead W last 0 message at q.0 q.1) (granted_same _ _ h)
    (record {
      count_is = refl;
      size = omega arith;
      inside = b;
      follows = none last;
      ascending = tt;
      in_range = tt;
      written = λ o. stands_none at b;
    })
  where
    none : (last : Option Route) → Follows last []
    none None = tt
    none (Some r) = tt
routes_were_read W last (suc count) message at rs to b h =
    both_granted (read_route W last message at) _ _ h (λ r e f.
    both_granted (series (read_route W) (Some r.0) count message r.1) _ _ f (λ more d k.
    let here = route_was_read W last message at r.0 r.1 e in
    let rest = routes_were_read W (Some r.0) count message r.1 more.0 more.1 here.inside d in
    subst (λ (q : Routes × ℕ). RoutesRead W last (suc count) message at q.0 q.1) (granted_same _ _ k)
    (record {
      count_is = ap suc rest.count_is;
      size = omega (arith, here.size, rest.size, length-append (route_bytes r.0) (routes_bytes more.0));
      inside = rest.inside;
      follows = ascends_follows last r.0 more.0 here.rises;
      ascending = (rest.follows, rest.ascending);
      in_range = (here.short, here.small, rest.in_range);
      written = λ o. stands_both at r.1 more.1 (route_bytes r.0) (routes_bytes more.0) (here.written o) (rest.written o);
    })))

-- ---- a sheet that was read

-- strides that pass the test are the same
strides_same : (xs ys : List ℕ) → same_strides xs ys ≡ true → xs ≡ ys
strides_same [] [] h = refl
strides_same [] (y ∷ ys) h = cc
strides_same (x ∷ xs) [] h = cc
strides_same (x ∷ xs) (y ∷ ys) h = elim (decided (eqb x y)) [
  | holds e ↦ ap₂ (λ a (r : List ℕ). a ∷ r) (eqb-true x y e) (strides_same xs ys (simp e at h))
  | fails e ↦ (let wrong = simp e at h in cc)
]

-- the parts of a sheet, put together
gathered : (number stride-count route-count : ℕ) (strides plan : List ℕ) (routes : Routes) → stride-count ≡ length plan → route-count ≡ length routes → strides ≡ plan
    → big_endian 8 number ++ (stride-count ∷ (strides ++ (big_endian 4 route-count ++ routes_bytes routes))) ≡ sheet_bytes number plan routes
unfolding sheet_bytes
gathered number stride-count route-count strides plan routes c r e = rw (c, r, e)

pub record SheetRead (W : ℕ) (plan : List ℕ) (message : Bytes) (s : Sheet) : Type 0 where
  pub number_small : s.number ≤ last_number
  pub ascending : Ascending s.routes
  pub in_range : InRange W s.routes
  pub size : length message ≡ 13 + length plan + length (routes_bytes s.routes)
  pub written : Octets message → sheet_bytes s.number plan s.routes ≡ message

module _ (W : ℕ) (plan : List ℕ) (message : Bytes) where
  sheet_read : (s : Sheet) (to : ℕ) → sheet W plan message 0 ≡ granted (s, to) → SheetRead W plan message s
  unfolding sheet sheet_bytes
  sheet_read s to h =
      both_granted (number_in 8 message 0) _ _ h (λ number e₁ h₁.
      must_passed (leb number.0 last_number) _ _ _ _ _ _ h₁ (λ small h₂.
      both_granted (number_in 1 message number.1) _ _ h₂ (λ stride-count e₂ h₃.
      both_granted (bytes stride-count.0 message stride-count.1) _ _ h₃ (λ strides e₃ h₄.
      must_passed (same_strides strides.0 plan) _ _ _ _ _ _ h₄ (λ agree h₅.
      both_granted (number_in 4 message strides.1) _ _ h₅ (λ route-count e₄ h₆.
      both_granted (series (read_route W) None route-count.0 message route-count.1) _ _ h₆ (λ routes e₅ h₇.
      both_granted (end message routes.1) _ _ h₇ (λ ended e₆ h₈.
      let same = strides_same strides.0 plan agree in
      let (x₁, there₁, long₁, value₁) = number_read 8 0 number.0 number.1 e₁ in
      let there₂ = byte_read number.1 stride-count.0 stride-count.1 e₂ in
      let (there₃, long₃) = bytes_read stride-count.0 stride-count.1 strides.0 strides.1 e₃ in
      let (x₄, there₄, long₄, value₄) = number_read 4 strides.1 route-count.0 route-count.1 e₄ in
      let there₅ = routes_were_read W None route-count.0 message route-count.1 routes.0 routes.1 there₄.inside e₅ in
      let last = end_read message routes.1 ended there₅.inside e₆ in
      let plan-long = ap length same in
      subst (λ (q : Sheet × ℕ). SheetRead W plan message q.0) (granted_same _ _ h₈)
      (record {
        number_small = leb-true number.0 last_number small;
        ascending = there₅.ascending;
        in_range = there₅.in_range;
        size = omega arith;
        written = λ o.
            let all =
            stands_both 0 number.1 routes.1 (big_endian 8 number.0) _ (number_written 8 0 number.0 number.1 o e₁)
            (stands_both number.1 stride-count.1 routes.1 (stride-count.0 ∷ []) _ there₂
            (stands_both stride-count.1 strides.1 routes.1 strides.0 _ there₃
            (stands_both strides.1 route-count.1 routes.1 (big_endian 4 route-count.0) (routes_bytes routes.0)
            (number_written 4 strides.1 route-count.0 route-count.1 o e₄) (there₅.written o)))) in
            sym
            (all.is
            ∙ ap₂ (λ (a b : Bytes). a ++ b)
            (gathered number.0 stride-count.0 route-count.0 strides.0 plan routes.0 (sym long₃ ∙ plan-long) (sym there₅.count_is) same)
            (drop_all routes.1 message (omega arith))
            ∙ append-nil (sheet_bytes number.0 plan routes.0));
      })))))))))

  pub sheet_was_read : (s : Sheet) → read_sheet W plan message ≡ granted s → SheetRead W plan message s
  unfolding read_sheet
  sheet_was_read s h = both_granted (sheet W plan message 0) _ _ h (λ got e f.
      subst (λ (q : Sheet). SheetRead W plan message q) (granted_same _ _ f) (sheet_read got.0 got.1 e))

-- a sheet that is to be loaded reads, and the nodes suffice for its routes
pub sheet_was_loaded : (W N : ℕ) (plan : List ℕ) (message : Bytes) (s : Sheet) → load_sheet W N plan message ≡ granted s
    → (read_sheet W plan message ≡ granted s) × (required plan s.routes ≤ N)
unfolding load_sheet
sheet_was_loaded W N plan message s h =
    both_granted (read_sheet W plan message) _ _ h (λ t e f.
    passed (leb (required plan t.routes) N) full Table 0 (granted t) s f (λ fits g.
    let same = granted_same _ _ g in
    (e ∙ g, subst (λ (q : Sheet). required plan q.routes ≤ N) same (leb-true (required plan t.routes) N fits))))
