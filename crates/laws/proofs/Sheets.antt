-- A written prefix and a written sheet read back.
use Rattle.std.proofs.Common.{◌≡◌, ℕ, ◌+◌, ◌^◌, ◌<◌, ◌≤◌, true, List, [], ◌∷◌, ◌++◌, length, Some, None, Option, sym, refl, ap, ◌∙◌, ap₂, append_assoc, append-nil, arith, eq-eqb, le-leb}
use Rattle.bits.specs.Rows.{Bits}
use Rattle.laws.specs.Lists.{InRange}
use Rattle.model.specs.Bytes.{Bytes, big_endian, byte_count, pack, unpack, prefix_bytes}
use Rattle.model.specs.Plans.{same_strides}
use Rattle.model.specs.Reading.{series}
use Rattle.model.specs.Outcomes.{granted}
use Rattle.model.specs.Routes.{Route, Routes, Above, Ascending, last_hop, prefix_of, sound}
use Rattle.model.specs.Sheets.{Read, ascends, last_number, route_bytes, routes_bytes, sheet_bytes, read_prefix, read_route, sheet, read_sheet}
use Rattle.laws.proofs.Digits.{length_pack, length_prefix_bytes, unpacked_sound, unpacked_prefix}
use Rattle.laws.proofs.Readings.{Left, left_whole, left_behind, bytes_at, number_at, byte_at, end_at}

-- the bytes of a prefix behind its length
unfoldable pub digits : Bits → Bytes
digits p = pack (byte_count (length p)) p

-- the place behind a prefix
unfoldable pub behind : ℕ → Bits → ℕ
behind at p = at + 1 + byte_count (length p)

length_digits : (p : Bits) → length (digits p) ≡ byte_count (length p)
unfolding digits
length_digits p = length_pack (byte_count (length p)) p

unfoldable pub as_read : ℕ → Bits → Read
as_read at p = record { place = at; len = length p; row = unpack (digits p) }

-- what a list's first prefix has to be above
abbrev pub Follows : Option Route → Routes → Type 0
Follows None rs = Unit {0}
Follows (Some r) rs = Above r.prefix rs

follows_ascends : (last : Option Route) (r : Route) (rs : Routes) → Follows last (r ∷ rs) → ascends last r.prefix ≡ true
follows_ascends None r rs f = refl
follows_ascends (Some q) r rs f = rw f

-- the place behind the routes
end_of : ℕ → Routes → ℕ
end_of at [] = at
end_of at (r ∷ rs) = end_of (behind at r.prefix + 2) rs

module _ {message : Bytes} where
  -- a prefix, a route and a list of routes that stand at a place are read
  pub prefix_left : {at : ℕ} (p : Bits) (rest : Bytes) → Left message at (prefix_bytes p ++ rest) → Left message (behind at p) rest
  unfolding prefix_bytes digits behind
  prefix_left p rest l = left_behind (byte_count (length p)) (digits p) rest (length_digits p) (left_behind 1 (length p ∷ []) (digits p ++ rest) refl l)

  pub prefix_read : {at : ℕ} (W : ℕ) (p : Bits) (rest : Bytes) → length p ≤ W → Left message at (prefix_bytes p ++ rest)
      → read_prefix W message at ≡ granted (as_read at p, behind at p)
  unfolding read_prefix prefix_bytes digits behind as_read
  prefix_read W p rest h l =
      let next = left_behind 1 (length p ∷ []) (digits p ++ rest) refl l in
      rw (byte_at (length p) (digits p ++ rest) l, le-leb (length p) W h, bytes_at (byte_count (length p)) (digits p) rest (length_digits p) next)

  route_read : {at : ℕ} (W : ℕ) (last : Option Route) (r : Route) (rest : Bytes) → length r.prefix ≤ W → r.hop ≤ last_hop
      → ascends last r.prefix ≡ true → Left message at (prefix_bytes r.prefix ++ (big_endian 2 r.hop ++ rest))
      → read_route W last message at ≡ granted (r, behind at r.prefix + 2)
  unfolding read_route digits as_read
  route_read W last r rest w h a l =
      let p = r.prefix in
      let left = prefix_left p (big_endian 2 r.hop ++ rest) l in
      rw (
        prefix_read W p (big_endian 2 r.hop ++ rest) w l,
        unpacked_sound p,
        number_at 2 r.hop rest (omega arith) left,
        le-leb r.hop last_hop h,
        unpacked_prefix p,
        a,
      )

  routes_read : (W : ℕ) (last : Option Route) (at : ℕ) (rs : Routes) (rest : Bytes) → Follows last rs → Ascending rs → InRange W rs
      → Left message at (routes_bytes rs ++ rest)
      → (series (read_route W) last (length rs) message at ≡ granted (rs, end_of at rs)) × Left message (end_of at rs) rest
  unfolding end_of route_bytes
  routes_read W last at [] rest f s i l = (refl, l)
  routes_read W last at (r ∷ rs) rest f s i l =
      let here = simp append_assoc at l in
      let left = left_behind 2 (big_endian 2 r.hop) (routes_bytes rs ++ rest) refl (prefix_left r.prefix _ here) in
      let more = routes_read W (Some r) (behind at r.prefix + 2) rs rest s.0 s.1 i.2 left in
      (rw (route_read W last r (routes_bytes rs ++ rest) i.0 i.1 (follows_ascends last r rs f) here, more.0), more.1)

-- the same strides pass the test
same_self : (xs : List ℕ) → same_strides xs xs ≡ true
same_self [] = refl
same_self (x ∷ xs) = rw (eq-eqb x x refl) (same_self xs)

-- a message that is a written sheet reads as it
sheet_read : (W number : ℕ) (plan : List ℕ) (routes : Routes) (message : Bytes) → number ≤ last_number → length routes < 2 ^ 32 → Ascending routes
    → InRange W routes → Left message 0 (sheet_bytes number plan routes)
    → read_sheet W plan message ≡ granted (record { number = number; routes = routes })
unfolding read_sheet sheet sheet_bytes
sheet_read W number plan routes message n c s i l =
    let body = big_endian 4 (length routes) ++ routes_bytes routes in
    let at-strides = left_behind 8 (big_endian 8 number) (length plan ∷ (plan ++ body)) refl l in
    let at-plan = left_behind 1 (length plan ∷ []) (plan ++ body) refl at-strides in
    let at_body = left_behind (length plan) plan body refl at-plan in
    let at-routes = left_behind 4 (big_endian 4 (length routes)) (routes_bytes routes) refl at_body in
    let all = routes_read {message = message} W None (9 + length plan + 4) routes [] tt s i (rw append-nil at-routes) in
    rw (
      number_at 8 number (length plan ∷ (plan ++ body)) (omega arith) l,
      le-leb number last_number n,
      byte_at (length plan) (plan ++ body) at-strides,
      bytes_at (length plan) plan body refl at-plan,
      same_self plan,
      number_at 4 (length routes) (routes_bytes routes) (omega arith) at_body,
      all.0,
      end_at all.1,
    )

pub sheet_reads_back :
    (W number : ℕ) (plan : List ℕ) (routes : Routes) → number ≤ last_number → length routes < 2 ^ 32 → Ascending routes → InRange W routes
    → read_sheet W plan (sheet_bytes number plan routes) ≡ granted (record { number = number; routes = routes })
sheet_reads_back W number plan routes n c s i =
    sheet_read W number plan routes (sheet_bytes number plan routes) n c s i (left_whole (sheet_bytes number plan routes))

pub prefix_reads_back :
    (W : ℕ) (p : Bits) (rest : Bytes) → length p ≤ W
    → (row : Bits) × (read_prefix W (prefix_bytes p ++ rest) 0 ≡ granted (record { place = 0; len = length p; row = row }, length (prefix_bytes p)))
    × (sound row (length p) ≡ true) × (prefix_of row (length p) ≡ p)
unfolding digits behind as_read
prefix_reads_back W p rest h = (
  unpack (digits p),
  prefix_read W p rest h (left_whole (prefix_bytes p ++ rest))
      ∙ ap (λ n. granted (as_read 0 p, n)) (omega (arith, length_prefix_bytes p)),
  unpacked_sound p,
  unpacked_prefix p,
)

-- two prefixes with the same bytes are the same: the bytes read back as both
pub prefix_different : (p q : Bits) → prefix_bytes p ≡ prefix_bytes q → p ≡ q
unfolding prefix_bytes
prefix_different p q e =
    let lengths : length p ≡ length q = cc in
    let rows : pack (byte_count (length p)) p ≡ pack (byte_count (length q)) q = cc in
    sym (unpacked_prefix p) ∙ ap₂ prefix_of (ap unpack rows) lengths ∙ unpacked_prefix q
