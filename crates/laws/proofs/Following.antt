-- What following a message of changes leaves, and the program `follow`: all updates are counted, all of the input is read, and the final
-- sheet is never longer than the input.
use Rattle.std.proofs.Common.{◌≡◌, ℕ, zero, suc, ◌+◌, ◌-◌, ◌≤◌, eqb, leb, List, [], ◌∷◌, ◌++◌, length, Some, None, Option, sym, refl, ap, subst, append-nil, arith, lit≤, length-append, le-leb, leb-true}
use Rattle.bits.proofs.Orders.{decided, holds, fails, compared, less, equal, greater}
use Rattle.bits.specs.Rows.{Bits}
use Rattle.bits.specs.Order.{same}
use Rattle.model.specs.Blocks.{Update, Followed, tallied, follow, read_withdrawn, read_announced, block, read_block}
use Rattle.model.specs.Bytes.{Bytes, big_endian, byte_count}
use Rattle.model.specs.Calls.{Plain, shut, holding, Call, insert, delete, Done, perform, left_by, after, load_sheet, removed}
use Rattle.model.specs.Follow.{width, nodes, strides, limit, Message, framed, from_start, final_sheet, follow_blocks, follow_bytes, follow_input, told}
use Rattle.model.specs.Links.{Joined, join, follow_block}
use Rattle.model.specs.Outcomes.{Outcome, granted, refused, and_then}
use Rattle.model.specs.Reading.{Reader, bytes, number_in, end, series}
use Rattle.model.specs.Required.{required}
use Rattle.model.specs.Routes.{Routes, route, find, put, without, last_hop, prefix_of, sound}
use Rattle.model.specs.Sheets.{last_number, route_bytes, routes_bytes, sheet_bytes, read_prefix}
use Rattle.laws.proofs.Readings.{both_granted, passed, must_passed, granted_same, bytes_read, number_read}
use Rattle.laws.proofs.Written.{prefix_was_read, length_route_bytes, sheet_was_read, sheet_was_loaded}

-- ---- all updates are counted

pub all_counted : (W N : ℕ) (updates : List Update) (plain : Plain) → (follow W N updates plain).applied + (follow W N updates plain).refusals ≡ length updates
all_counted W N [] plain = refl
all_counted W N (u ∷ us) plain = by (perform W N plain u.call) (all_counted W N us)
  where
    by : (o : Outcome Done) → ((p : Plain) → (follow W N us p).applied + (follow W N us p).refusals ≡ length us)
        → (tallied u o (follow W N us (left_by plain o))).applied + (tallied u o (follow W N us (left_by plain o))).refusals ≡ suc (length us)
    by (granted d) more = let e = more d.left in omega arith
    by (refused number layer place) more = let e = more plain in omega arith

-- ---- all of the input is read

pub record Framed (input : Bytes) (at : ℕ) (m : Message) (to : ℕ) : Type 0 where
  pub behind : at + 4 + length m.body ≡ to
  pub inside : to ≤ length input

pub was_framed : (input : Bytes) (at : ℕ) (m : Message) (to : ℕ) → framed input at ≡ granted (m, to) → Framed input at m to
unfolding framed
was_framed input at m to h =
    both_granted (number_in 4 input at) _ _ h (λ size e f.
    both_granted (bytes size.0 input size.1) _ _ f (λ body d g.
    let (x, first, four, value-is) = number_read 4 at size.0 size.1 e in
    let (rest, long) = bytes_read size.0 size.1 body.0 body.1 d in
    subst (λ (q : Message × ℕ). Framed input at q.0 q.1) (granted_same _ _ g) (record { behind = omega arith; inside = rest.inside })))

and_then_same : {A B : Type 0} (x : Outcome A) (f g : A → Outcome B) → ((a : A) → x ≡ granted a → f a ≡ g a) → and_then x f ≡ and_then x g
and_then_same (granted a) f g h = h a refl
and_then_same (refused number layer place) f g h = refl

-- two bounds that are both high enough
same_bound : (m n due : ℕ) (plain : Plain) (input : Bytes) (at : ℕ) → length input ≤ m + at → length input ≤ n + at
    → follow_blocks m due plain input at ≡ follow_blocks n due plain input at
same_bound zero zero due plain input at h k = refl
same_bound zero (suc n) due plain input at h k = simp (le-leb (length input) at (omega arith))
same_bound (suc m) zero due plain input at h k = simp (le-leb (length input) at (omega arith))
same_bound (suc m) (suc n) due plain input at h k = elim (decided (leb (length input) at)) [
  | holds e ↦ simp e
  | fails e ↦ simp e (and_then_same (framed input at) _ _ (λ got f.
      let there = was_framed input at got.0 got.1 f in
      and_then_same (from_start got.0.start (follow_block width nodes due plain got.0.body)) _ _ (λ done g.
      same_bound m n (suc due) done.left input got.1 (omega (arith, there.behind)) (omega (arith, there.behind)))))
]

pub reads_all :
    (more due : ℕ) (plain : Plain) (input : Bytes) (at : ℕ)
    → follow_blocks (length input + more) due plain input at ≡ follow_blocks (length input) due plain input at
reads_all more due plain input at = same_bound (length input + more) (length input) due plain input at (omega arith) (omega arith)

-- ---- what a list of routes weighs: the length of its sheet

weight : Plain → ℕ
weight shut = 0
weight (holding plan rs) = 13 + length plan + length (routes_bytes rs)

pub length_sheet_bytes : (number : ℕ) (plan : List ℕ) (rs : Routes) → length (sheet_bytes number plan rs) ≡ 13 + length plan + length (routes_bytes rs)
unfolding sheet_bytes
length_sheet_bytes number plan rs =
    omega (arith, length-append plan (big_endian 4 (length rs) ++ routes_bytes rs), length-append (big_endian 4 (length rs)) (routes_bytes rs))

weighed : (number : ℕ) (plain : Plain) → length (final_sheet number plain) ≡ weight plain
unfolding weight
weighed number shut = refl
weighed number (holding plan rs) = length_sheet_bytes number plan rs

-- putting a route in adds its bytes at most, and taking one out adds none
put_size : (rs : Routes) (p : Bits) (h : ℕ) → length (routes_bytes (put rs p h)) ≤ length (routes_bytes rs) + (3 + byte_count (length p))
put_size [] p h = omega (arith, length_route_bytes (route p h), length-append (route_bytes (route p h)) [])
put_size (r ∷ rs) p h =
    let new = length_route_bytes (route p h) in
    let old = length-append (route_bytes r) (routes_bytes rs) in
    elim (compared p r.prefix) [
      | less e ↦ simp e (omega (arith, length-append (route_bytes (route p h)) (route_bytes r ++ routes_bytes rs)))
      | equal e ↦ simp e (omega (arith, length-append (route_bytes (route p h)) (routes_bytes rs)))
      | greater e ↦ simp e (omega (arith, length-append (route_bytes r) (routes_bytes (put rs p h)), put_size rs p h))
    ]

without_size : (rs : Routes) (p : Bits) → length (routes_bytes (without rs p)) ≤ length (routes_bytes rs)
without_size [] p = omega arith
without_size (r ∷ rs) p =
    let old = length-append (route_bytes r) (routes_bytes rs) in
    let more = without_size rs p in
    elim (decided (same p r.prefix)) [
      | holds e ↦ simp e (omega arith)
      | fails e ↦ simp e (omega (arith, length-append (route_bytes r) (routes_bytes (without rs p))))
    ]

-- a change of a route adds no more than so many bytes, and so do updates one after the other
module _ (W N : ℕ) where
  Adds : Call → ℕ → Type 0
  Adds call n = (plain : Plain) → weight (after W N plain call) ≤ weight plain + n

  insert_adds : (a : Bits) (l h : ℕ) → Adds (insert a l h) (3 + byte_count (length (prefix_of a l)))
  unfolding Adds weight
  insert_adds a l h shut = omega arith
  insert_adds a l h (holding plan rs) =
      let p = prefix_of a l in
      let big = put_size rs p h in
      elim (decided (leb l W)) [
        | fails e ↦ simp e (omega arith)
        | holds e ↦ (elim (decided (sound a l)) [
          | fails s ↦ simp (e, s) (omega arith)
          | holds s ↦ (elim (decided (leb h last_hop)) [
            | fails k ↦ simp (e, s, k) (omega arith)
            | holds k ↦ (elim (decided (leb (required plan (put rs p h)) N)) [
              | fails f ↦ simp (e, s, k, f) (omega arith)
              | holds f ↦ simp (e, s, k, f) (omega arith)
            ])
          ])
        ])
      ]

  delete_adds : (a : Bits) (l n : ℕ) → Adds (delete a l) n
  unfolding Adds weight
  delete_adds a l n shut = omega arith
  delete_adds a l n (holding plan rs) =
      elim (decided (leb l W)) [
        | fails e ↦ simp e (omega arith)
        | holds e ↦ (elim (decided (sound a l)) [
          | fails s ↦ simp (e, s) (omega arith)
          | holds s ↦ simp (e, s) (by (find rs (prefix_of a l)))
        ])
      ]
    where
      by : (o : Option ℕ) → weight (left_by (holding plan rs) (removed plan rs (prefix_of a l) o)) ≤ weight (holding plan rs) + n
      by None = omega arith
      by (Some h) = omega (arith, without_size rs (prefix_of a l))

  AddsAll : List Update → ℕ → Type 0
  AddsAll us n = (plain : Plain) → weight (follow W N us plain).left ≤ weight plain + n

  adds_none : AddsAll [] 0
  unfolding AddsAll
  adds_none plain = omega arith

  adds_more : (u : Update) (us : List Update) (n m : ℕ) → Adds u.call n → AddsAll us m → AddsAll (u ∷ us) (n + m)
  unfolding Adds AddsAll
  adds_more u us n m a more plain =
      by (perform W N plain u.call) (a plain) (more (left_by plain (perform W N plain u.call)))
    where
      by : (o : Outcome Done) → weight (left_by plain o) ≤ weight plain + n → weight (follow W N us (left_by plain o)).left ≤ weight (left_by plain o) + m
          → weight (tallied u o (follow W N us (left_by plain o))).left ≤ weight plain + (n + m)
      by (granted d) x y = omega arith
      by (refused number layer place) x y = omega arith

  -- an update that was read adds no more than the bytes that it was read from
  record UpdateRead (message : Bytes) (at : ℕ) (u : Update) (to : ℕ) : Type 0 where
    pub size : ℕ
    pub behind : at + size ≡ to
    pub inside : to ≤ length message
    pub adds : Adds u.call size

  withdrawn_was_read : (message : Bytes) (at : ℕ) (u : Update) (to : ℕ) → read_withdrawn W message at ≡ granted (u, to) → UpdateRead message at u to
  unfolding read_withdrawn
  withdrawn_was_read message at u to h =
      both_granted (read_prefix W message at) _ _ h (λ read e f.
      let first = prefix_was_read W message at read.0 read.1 e in
      subst (λ (q : Update × ℕ). UpdateRead message at q.0 q.1) (granted_same _ _ f)
      (record {
        size = 1 + length first.digits;
        behind = omega (arith, first.stands.behind);
        inside = first.stands.inside;
        adds = delete_adds read.0.row read.0.len (1 + length first.digits);
      }))

  announced_was_read : (message : Bytes) (at : ℕ) (u : Update) (to : ℕ) → read_announced W message at ≡ granted (u, to) → UpdateRead message at u to
  unfolding read_announced
  announced_was_read message at u to h =
      both_granted (read_prefix W message at) _ _ h (λ read e f.
      both_granted (number_in 2 message read.1) _ _ f (λ hop d g.
      let first = prefix_was_read W message at read.0 read.1 e in
      let (x, there, two, value-is) = number_read 2 read.1 hop.0 hop.1 d in
      let p = prefix_of read.0.row read.0.len in
      subst (λ (q : Update × ℕ). UpdateRead message at q.0 q.1) (granted_same _ _ g)
      (record {
        size = 3 + byte_count (length p);
        behind = omega (arith, first.length_is, first.count, first.stands.behind, there.behind);
        inside = there.inside;
        adds = insert_adds read.0.row read.0.len hop.0;
      })))

  -- and so do the updates of a series, before whatever follows them
  record UpdatesRead (message : Bytes) (at : ℕ) (us : List Update) (to : ℕ) : Type 0 where
    pub size : ℕ
    pub behind : at + size ≡ to
    pub inside : to ≤ length message
    pub adds : (vs : List Update) (n : ℕ) → AddsAll vs n → AddsAll (us ++ vs) (size + n)

  module _ (message : Bytes) (next : Reader Update) (each : (at : ℕ) (u : Update) (to : ℕ) → next message at ≡ granted (u, to) → UpdateRead message at u to) where
    updates_were_read : (last : Option Update) (count at : ℕ) (us : List Update) (to : ℕ) → at ≤ length message
        → series (λ _. next) last count message at ≡ granted (us, to) → UpdatesRead message at us to
    unfolding AddsAll
    updates_were_read last zero at us to b h =
        subst (λ (q : List Update × ℕ). UpdatesRead message at q.0 q.1) (granted_same _ _ h)
        (record { size = 0; behind = omega arith; inside = b; adds = λ vs n a plain. omega (arith, a plain) })
    updates_were_read last (suc count) at us to b h =
        both_granted (next message at) _ _ h (λ u e f.
        both_granted (series (λ _. next) (Some u.0) count message u.1) _ _ f (λ more d k.
        let here = each at u.0 u.1 e in
        let rest = updates_were_read (Some u.0) count u.1 more.0 more.1 here.inside d in
        subst (λ (q : List Update × ℕ). UpdatesRead message at q.0 q.1) (granted_same _ _ k)
        (record {
          size = here.size + rest.size;
          behind = omega (arith, here.behind, rest.behind);
          inside = rest.inside;
          adds = λ vs n a plain.
              omega (arith, adds_more u.0 (more.0 ++ vs) here.size (rest.size + n) here.adds (rest.adds vs n a) plain);
        })))

  -- the updates of a block add no more than its bytes
  block_adds : (due : ℕ) (message : Bytes) (us : List Update) (to : ℕ) → block W due message 0 ≡ granted (us, to)
      → AddsAll us (length message)
  unfolding block AddsAll
  block_adds due message us to h =
      both_granted (number_in 8 message 0) _ _ h (λ number e₁ h₁.
      must_passed (leb number.0 last_number) _ _ _ _ _ _ h₁ (λ small h₂.
      must_passed (eqb number.0 due) _ _ _ _ _ _ h₂ (λ is-due h₃.
      both_granted (number_in 2 message number.1) _ _ h₃ (λ withdrawn-count e₂ h₄.
      both_granted (series (λ _. read_withdrawn W) None withdrawn-count.0 message withdrawn-count.1) _ _ h₄ (λ withdrawn e₃ h₅.
      both_granted (number_in 2 message withdrawn.1) _ _ h₅ (λ announced-count e₄ h₆.
      both_granted (series (λ _. read_announced W) None announced-count.0 message announced-count.1) _ _ h₆ (λ announced e₅ h₇.
      both_granted (end message announced.1) _ _ h₇ (λ ended e₆ h₈.
      let (x₁, there₁, long₁, value₁) = number_read 8 0 number.0 number.1 e₁ in
      let (x₂, there₂, long₂, value₂) = number_read 2 number.1 withdrawn-count.0 withdrawn-count.1 e₂ in
      let out = updates_were_read message (read_withdrawn W) (withdrawn_was_read message) None withdrawn-count.0 withdrawn-count.1 withdrawn.0 withdrawn.1 there₂.inside e₃ in
      let (x₄, there₄, long₄, value₄) = number_read 2 withdrawn.1 announced-count.0 announced-count.1 e₄ in
      let new = updates_were_read message (read_announced W) (announced_was_read message) None announced-count.0 announced-count.1 announced.0 announced.1 there₄.inside e₅ in
      let second = subst (λ (vs : List Update). AddsAll vs (new.size + 0)) (append-nil announced.0) (new.adds [] 0 adds_none) in
      let both = out.adds announced.0 (new.size + 0) second in
      subst (λ (q : List Update × ℕ). AddsAll q.0 (length message)) (granted_same _ _ h₈)
      (λ plain. omega (arith, both plain, there₁.behind, there₂.behind, out.behind, there₄.behind, new.behind, new.inside))))))))))

  follow_block_adds : (due : ℕ) (plain : Plain) (message : Bytes) (f : Followed) → follow_block W N due plain message ≡ granted f
      → weight f.left ≤ weight plain + length message
  unfolding follow_block read_block AddsAll
  follow_block_adds due shut message f h = absurd (let z : ◌≡◌ {A = ℕ} 0 1 = cc in omega arith)
  follow_block_adds due (holding plan rs) message f h =
      both_granted (read_block W due message) _ _ h (λ us e g.
      both_granted (block W due message 0) _ _ e (λ got d k.
      subst (λ (q : Followed). weight q.left ≤ weight (holding plan rs) + length message) (granted_same _ _ g)
      (subst (λ (vs : List Update). weight (follow W N vs (holding plan rs)).left ≤ weight (holding plan rs) + length message) (granted_same _ _ k)
      (block_adds due message got.0 got.1 d (holding plan rs)))))

  -- a joined link's list weighs as much as the sheet
  join_weighs : (plan : List ℕ) (rs : Routes) (message : Bytes) (j : Joined) → join W N (holding plan rs) message ≡ granted j
      → weight j.left ≡ length message
  unfolding join weight
  join_weighs plan rs message j h =
      both_granted (load_sheet W N plan message) _ _ h (λ s e f.
      let read = (sheet_was_loaded W N plan message s e).0 in
      subst (λ (q : Joined). weight q.left ≡ length message) (granted_same _ _ f) (sym (sheet_was_read W plan message s read).size))

-- ---- the final sheet

from_start_granted : {A : Type 0} (start : ℕ) (o : Outcome A) (a : A) → from_start start o ≡ granted a → o ≡ granted a
from_start_granted start (granted b) a h = h
from_start_granted start (refused number layer place) a h = absurd (let z : ◌≡◌ {A = ℕ} 0 1 = cc in omega arith)

final_short : (due : ℕ) (plain : Plain) (input sheet : Bytes) (at : ℕ) → weight plain ≤ at → at ≤ length input → granted (final_sheet (due - 1) plain) ≡ granted sheet
    → length sheet ≤ length input
final_short due plain input sheet at w b h =
    let same = ap length (granted_same _ _ h) in
    omega (arith, weighed (due - 1) plain)

blocks_short : (most due : ℕ) (plain : Plain) (input sheet : Bytes) (at : ℕ) → weight plain ≤ at → at ≤ length input
    → follow_blocks most due plain input at ≡ granted sheet → length sheet ≤ length input
blocks_short zero due plain input sheet at w b h = final_short due plain input sheet at w b h
blocks_short (suc most) due plain input sheet at w b h = elim (decided (leb (length input) at)) [
  | holds e ↦ final_short due plain input sheet at w b (simp e at h)
  | fails e ↦ (both_granted (framed input at) _ _ (simp e at h) (λ got f k.
      both_granted (from_start got.0.start (follow_block width nodes due plain got.0.body)) _ _ k (λ done g l.
      let there = was_framed input at got.0 got.1 f in
      let more = follow_block_adds width nodes due plain got.0.body done (from_start_granted got.0.start _ done g) in
      blocks_short most (suc due) done.left input sheet got.1 (omega (arith, there.behind)) there.inside l)))
]

module _ (input sheet : Bytes) (h : follow_input input ≡ granted sheet) where
  both_bounds : (length sheet ≤ length input) × (length input ≤ limit)
  unfolding follow_input
  both_bounds = passed _ _ _ _ _ _ h (λ t e.
      both_granted (framed input 0) _ _ e (λ got f k.
      both_granted (from_start got.0.start (join width nodes (holding strides []) got.0.body)) _ _ k (λ joined g l.
      let there = was_framed input 0 got.0 got.1 f in
      let same = join_weighs width nodes strides [] got.0.body joined (from_start_granted got.0.start _ joined g) in (
        blocks_short (length input) joined.due joined.left input sheet got.1 (omega (arith, there.behind)) there.inside l,
        leb-true (length input) limit t,
      ))))

  pub shrinks : length sheet ≤ length input
  shrinks = both_bounds.0

  fits_limit : length sheet ≤ limit
  fits_limit = omega (arith, both_bounds)

-- what is written, sheet or refusal
pub fits : (input : Bytes) → length (follow_bytes input) ≤ limit
unfolding follow_bytes
fits input = by (follow_input input) refl
  where
    by : (o : Outcome Bytes) → follow_input input ≡ o → length (told o) ≤ limit
    by (granted sheet) e = fits_limit input sheet e
    by (refused number layer place) e = lit≤ tt
