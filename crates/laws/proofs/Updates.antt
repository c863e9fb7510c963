-- A written block reads back as its updates.
use Rattle.std.proofs.Common.{◌≡◌, ℕ, ◌+◌, ◌^◌, ◌<◌, ◌≤◌, List, [], ◌∷◌, ◌++◌, length, Some, None, Option, sym, refl, ap, subst, append_assoc, append-nil, add-zero, arith, length-append, eq-eqb, le-leb}
use Rattle.bits.specs.Rows.{Bits}
use Rattle.laws.specs.Messages.{BlockLaws, Short, ShortRoutes, announcements, row_of, withdrawals}
use Rattle.laws.proofs.Digits.{length_prefix_bytes, unpacked_prefix, unpacked_sound}
use Rattle.laws.proofs.Readings.{Left, end_at, left_behind, left_whole, number_at}
use Rattle.laws.proofs.Sheets.{as_read, behind, digits, prefix_left, prefix_read}
use Rattle.model.specs.Blocks.{Update, block, block_bytes, prefixes_bytes, read_announced, read_block, read_withdrawn}
use Rattle.model.specs.Bytes.{Bytes, big_endian, prefix_bytes}
use Rattle.model.specs.Calls.{delete, insert}
use Rattle.model.specs.Outcomes.{granted}
use Rattle.model.specs.Reading.{series}
use Rattle.model.specs.Routes.{Route, Routes}
use Rattle.model.specs.Sheets.{last_number, route_bytes, routes_bytes}

-- the place behind a prefix is as far on as its bytes reach
behind_bytes : (at : ℕ) (p : Bits) → behind at p ≡ at + length (prefix_bytes p)
unfolding behind
behind_bytes at p = omega (arith, length_prefix_bytes p)

module _ {message : Bytes} (W : ℕ) where
  -- one withdrawn prefix, one announced route
  withdrawn_read : (at : ℕ) (p : Bits) (rest : Bytes) → length p ≤ W → Left message at (prefix_bytes p ++ rest)
      → read_withdrawn W message at ≡ granted (record { place = at; call = delete (row_of p) (length p) }, at + length (prefix_bytes p))
  unfolding read_withdrawn as_read digits
  withdrawn_read at p rest h l =
      rw (prefix_read W p rest h l) (ap (λ (n : ℕ). granted (record { place = at; call = delete (row_of p) (length p) }, n)) (behind_bytes at p))

  announced_read : (at : ℕ) (r : Route) (rest : Bytes) → length r.prefix ≤ W → r.hop < 2 ^ 16
      → Left message at (prefix_bytes r.prefix ++ (big_endian 2 r.hop ++ rest))
      → read_announced W message at ≡ granted (record { place = at; call = insert (row_of r.prefix) (length r.prefix) r.hop }, at + length (route_bytes r))
  unfolding read_announced as_read digits route_bytes
  announced_read at r rest h k l =
      let p = r.prefix in
      let sums = length-append (prefix_bytes p) (big_endian 2 r.hop) in
      let far : behind at p + 2 ≡ at + length (prefix_bytes p ++ big_endian 2 r.hop) = omega (arith, behind_bytes at p) in
      rw (prefix_read W p (big_endian 2 r.hop ++ rest) h l, number_at 2 r.hop rest k (prefix_left p (big_endian 2 r.hop ++ rest) l))
      (ap (λ (n : ℕ). granted (record { place = at; call = insert (row_of p) (length p) r.hop }, n)) far)

  -- a route's bytes are its prefix's and its hop's
  route_left : (at : ℕ) (r : Route) (rest : Bytes) → Left message at (route_bytes r ++ rest) → Left message at (prefix_bytes r.prefix ++ (big_endian 2 r.hop ++ rest))
  unfolding route_bytes
  route_left at r rest l = simp append_assoc at l

  -- all of them
  all_withdrawn : (last : Option Update) (at : ℕ) (ps : List Bits) (rest : Bytes) → Short W ps → Left message at (prefixes_bytes ps ++ rest)
      → (series (λ _. read_withdrawn W) last (length ps) message at ≡ granted (withdrawals at ps, at + length (prefixes_bytes ps)))
      × Left message (at + length (prefixes_bytes ps)) rest
  all_withdrawn last at [] rest s l =
      (ap (λ (n : ℕ). granted ([], n)) (sym (add-zero at)), subst (λ (n : ℕ). Left message n rest) (sym (add-zero at)) l)
  all_withdrawn last at (p ∷ ps) rest s l =
      let here = simp append_assoc at l in
      let to = at + length (prefix_bytes p) in
      let next = left_behind (length (prefix_bytes p)) (prefix_bytes p) (prefixes_bytes ps ++ rest) refl here in
      let more = all_withdrawn (Some (record { place = at; call = delete (row_of p) (length p) })) to ps rest s.1 next in
      let sums = length-append (prefix_bytes p) (prefixes_bytes ps) in
      let far : to + length (prefixes_bytes ps) ≡ at + length (prefix_bytes p ++ prefixes_bytes ps) = omega arith in (
        rw (withdrawn_read at p (prefixes_bytes ps ++ rest) s.0 here, more.0) (ap (λ (n : ℕ). granted (withdrawals at (p ∷ ps), n)) far),
        subst (λ (n : ℕ). Left message n rest) far more.1,
      )

  all_announced : (last : Option Update) (at : ℕ) (rs : Routes) (rest : Bytes) → ShortRoutes W rs → Left message at (routes_bytes rs ++ rest)
      → (series (λ _. read_announced W) last (length rs) message at ≡ granted (announcements at rs, at + length (routes_bytes rs)))
      × Left message (at + length (routes_bytes rs)) rest
  all_announced last at [] rest s l =
      (ap (λ (n : ℕ). granted ([], n)) (sym (add-zero at)), subst (λ (n : ℕ). Left message n rest) (sym (add-zero at)) l)
  all_announced last at (r ∷ rs) rest s l =
      let here = simp append_assoc at l in
      let to = at + length (route_bytes r) in
      let next = left_behind (length (route_bytes r)) (route_bytes r) (routes_bytes rs ++ rest) refl here in
      let more = all_announced (Some (record { place = at; call = insert (row_of r.prefix) (length r.prefix) r.hop })) to rs rest s.2 next in
      let sums = length-append (route_bytes r) (routes_bytes rs) in
      let far : to + length (routes_bytes rs) ≡ at + length (route_bytes r ++ routes_bytes rs) = omega arith in (
        rw (announced_read at r (routes_bytes rs ++ rest) s.0 s.1 (route_left at r (routes_bytes rs ++ rest) here), more.0) (ap (λ (n : ℕ). granted (announcements at (r ∷ rs), n)) far),
        subst (λ (n : ℕ). Left message n rest) far more.1,
      )

-- a message that is a written block
block_read : (W number : ℕ) (ps : List Bits) (rs : Routes) (message : Bytes) → number ≤ last_number → length ps < 2 ^ 16 → length rs < 2 ^ 16
    → Short W ps → ShortRoutes W rs → Left message 0 (block_bytes number ps rs)
    → read_block W number message ≡ granted (withdrawals 10 ps ++ announcements (12 + length (prefixes_bytes ps)) rs)
unfolding read_block block block_bytes
block_read W number ps rs message n c d s t l =
    let back = big_endian 2 (length rs) ++ routes_bytes rs in
    let body = prefixes_bytes ps ++ back in
    let at_count = left_behind 8 (big_endian 8 number) (big_endian 2 (length ps) ++ body) refl l in
    let at-withdrawn = left_behind 2 (big_endian 2 (length ps)) body refl at_count in
    let gone = all_withdrawn {message = message} W None 10 ps back s at-withdrawn in
    let at-routes = left_behind 2 (big_endian 2 (length rs)) (routes_bytes rs) refl gone.1 in
    let place : 10 + length (prefixes_bytes ps) + 2 ≡ 12 + length (prefixes_bytes ps) = omega arith in
    let come = all_announced {message = message} W None (10 + length (prefixes_bytes ps) + 2) rs [] t (rw append-nil at-routes) in
    rw (
      number_at 8 number (big_endian 2 (length ps) ++ body) (omega arith) l,
      le-leb number last_number n,
      eq-eqb number number refl,
      number_at 2 (length ps) body (omega arith) at_count,
      gone.0,
      number_at 2 (length rs) (routes_bytes rs) (omega arith) gone.1,
      come.0,
      end_at come.1,
    )
    (ap (λ (k : ℕ). granted (withdrawals 10 ps ++ announcements k rs)) place)

pub block_laws : BlockLaws
block_laws =
    record {
      reads_back = λ W number ps rs n c d s t. block_read W number ps rs (block_bytes number ps rs) n c d s t (left_whole (block_bytes number ps rs));
      row_sound = unpacked_sound;
      row_prefix = unpacked_prefix;
    }
