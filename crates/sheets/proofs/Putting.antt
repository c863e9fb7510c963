-- A sheet that is put into an output, field by field and route by route.
use Rattle.std.proofs.Common.{◌≡◌, ℕ, ◌+◌, ◌-◌, ◌≤◌, ◌<◌, ◌^◌, true, false, leb, leb-true, take_at, Ok, Err, Result, IfOk, List, [], ◌∷◌, ◌++◌, length, take, drop, get_or, sym, refl, ap, ap₂, ◌∙◌, ⊎_elim, append_assoc, arith, length-append, length-drop, length-take-le, le-leb}
use Rattle.std.proofs.lemmas.Bool.{cases_lt, leb-false, lt-leb}
use Rattle.std.proofs.lemmas.List.{at_drop_more}
use Rattle.address.specs.declared.Address.{Ghosts}
use Rattle.bits.specs.Rows.{Bits}
use Rattle.laws.proofs.Digits.{length_big_endian}
use Rattle.laws.proofs.Written.{length_route_bytes}
use Rattle.model.specs.Bytes.{Bytes, big_endian, byte_count}
use Rattle.model.specs.Outcomes.{granted, outcome, refused}
use Rattle.model.specs.Routes.{Routes}
use Rattle.model.specs.Sheets.{last_number, read_sheet, route_bytes, routes_bytes, sheet_bytes}
use Rattle.laws.proofs.Messages.{sheet_laws}
use Rattle.laws.proofs.Readings.{passed}
use Rattle.faults.specs.declared.Fault.{Fault}
use Rattle.faults.specs.declared.Layer.TheVariants.{Table}
use Rattle.faults.specs.Numbers.{too_narrow}
use Rattle.messages.specs.Puts.{beside, put_at, put_in}
use Rattle.messages.proofs.Puts.{put_both, put_none}
use Rattle.routes.specs.InOrder.{InOrder}
use Rattle.routes.specs.Meant.{meant}
use Rattle.routes.specs.declared.Route.{Route as Entry}
use Rattle.sheets.specs.Written.{bytes_of, head_bytes, write_sheet}

-- what fits is put in
pub put_fits : (place : ℕ) (bytes output : Bytes) → place + length bytes ≤ length output
    → put_in place bytes output ≡ granted (place + length bytes, put_at place bytes output)
put_fits place bytes output room = rw (le-leb (place + length bytes) (length output) room) refl

-- one put behind another, from the front on
behind : (at : ℕ) (xs ys output then : Bytes) → at ≡ length xs → length xs + length ys ≤ length output → then ≡ put_at 0 xs output
    → put_at at ys then ≡ put_at 0 (xs ++ ys) output
behind at xs ys output then e room is =
    let place : at ≡ 0 + length xs = omega arith in
    ap₂ (λ (k : ℕ) (o : Bytes). put_at k ys o) place is ∙ put_both 0 xs ys output (omega arith)

pub length_head : (number : ℕ) (plan : List ℕ) (count : ℕ) → length (head_bytes number plan count) ≡ 13 + length plan
length_head number plan count =
    let first = length_big_endian 8 number in
    let last = length_big_endian 4 count in
    let both = length-append (big_endian 8 number) (length plan ∷ (plan ++ big_endian 4 count)) in
    let rest = length-append plan (big_endian 4 count) in
    omega arith

-- the front of a sheet, in four parts
pub head_put : (number : ℕ) (plan : List ℕ) (count : ℕ) (output a b c d : Bytes) → 9 + length plan + 4 ≤ length output → a ≡ put_at 0 (big_endian 8 number) output
    → b ≡ put_at 8 (length plan ∷ []) a → c ≡ put_at 9 plan b → d ≡ put_at (9 + length plan) (big_endian 4 count) c
    → granted (beside d (9 + length plan + 4)) ≡ put_in 0 (head_bytes number plan count) output
head_put number plan count output a b c d room first second third fourth =
    let x = big_endian 8 number in
    let y = length plan ∷ [] in
    let z = big_endian 4 count in
    let l = length_head number plan count in
    let lx = length_big_endian 8 number in
    let lz = length_big_endian 4 count in
    let lxy = length-append x y in
    let lxyp = length-append (x ++ y) plan in
    let two : b ≡ put_at 0 (x ++ y) output = second ∙ behind 8 x y output a (sym lx) (omega arith) first in
    let three : c ≡ put_at 0 ((x ++ y) ++ plan) output = third ∙ behind 9 (x ++ y) plan output b (omega arith) (omega arith) two in
    let four : d ≡ put_at 0 (((x ++ y) ++ plan) ++ z) output = fourth ∙ behind (9 + length plan) ((x ++ y) ++ plan) z output c (omega arith) (omega arith) three in
    let same : ((x ++ y) ++ plan) ++ z ≡ head_bytes number plan count =
    append_assoc (x ++ y) plan z ∙ append_assoc x y (plan ++ z) in
    let end : 9 + length plan + 4 ≡ 0 + length (head_bytes number plan count) = omega arith in
    ap₂ (λ (o : Bytes) (k : ℕ). granted (k, o)) (four ∙ ap (λ (r : Bytes). put_at 0 r output) same) end
    ∙ sym (put_fits 0 (head_bytes number plan count) output (omega arith))

-- ---- routes, one behind the other

module _ {X : Type 0} {G : Ghosts X} (bits : X → Bits) where
  -- the next of those that are left, and how many bytes it takes
  pub first_left : (routes : List (Entry X G)) (i : ℕ) (r : Entry X G) → i < length routes → r ≡ get_or routes i r
      → bytes_of bits (drop i routes) ≡ route_bytes (meant bits r) ++ bytes_of bits (drop (i + 1) routes)
  first_left routes i r inside is =
      at_drop_more (bytes_of bits) routes i r inside ∙ ap (λ (x : Entry X G). route_bytes (meant bits x) ++ bytes_of bits (drop (i + 1) routes)) (sym is)

module _ {X : Type 0} {G : Ghosts X} where
  pub length_first : (r : Entry X G) → length (route_bytes (meant G.bits r)) ≡ 3 + byte_count r.prefix.length
  length_first r =
      length_route_bytes (meant G.bits r)
      ∙ ap (λ (k : ℕ). 3 + byte_count k) (length-take-le r.prefix.length (G.bits r.prefix.address) r.sound.0)

length_put : (place : ℕ) (bytes output : Bytes) → place + length bytes ≤ length output → length (put_at place bytes output) ≡ length output
length_put place bytes output room =
    let front = length-take-le place output (omega arith) in
    let rest = length-drop (place + length bytes) output in
    let both = length-append bytes (drop (place + length bytes) output) in
    let all = length-append (take place output) (bytes ++ drop (place + length bytes) output) in
    omega arith

granted_parts : {goal : Type 0} (x y : ℕ × Bytes) → granted x ≡ granted y → (x.0 ≡ y.0 → x.1 ≡ y.1 → goal) → goal
granted_parts x y e next = let same : x ≡ y = cc in next (ap (λ (r : ℕ × Bytes). r.0) same) (ap (λ (r : ℕ × Bytes). r.1) same)

-- a route is put in, and the others come to the same behind it
pub record OneLess (place : ℕ) (more output : Bytes) (end : ℕ) (now : Bytes) (all : Bytes) : Type 0 where
  pub same : put_in place all output ≡ put_in end more now
  pub room : end + length more ≤ length now

pub one_less : (place : ℕ) (first more output : Bytes) (end : ℕ) (now : Bytes) → place + length (first ++ more) ≤ length output
    → granted (beside now end) ≡ put_in place first output → OneLess place more output end now (first ++ more)
one_less place first more output end now room e =
    let all = length-append first more in
    granted_parts (end, now) (place + length first, put_at place first output) (e ∙ put_fits place first output (omega arith)) (λ at is.
    let long = length_put place first output (omega arith) in
    let still = ap length is in
    let ends : place + length (first ++ more) ≡ end + length more = omega arith in
    record {
      same =
          put_fits place (first ++ more) output room
          ∙ ap₂ (λ (k : ℕ) (o : Bytes). granted (k, o)) ends
          (sym (put_both place first more output (omega arith)) ∙ ap₂ (λ (k : ℕ) (o : Bytes). put_at k more o) (sym at) (sym is))
          ∙ sym (put_fits end more now (omega arith));
      room = omega arith;
    })

-- none is left
pub none_less : (place : ℕ) (output : Bytes) → place ≤ length output → granted (beside output place) ≡ put_in place [] output
none_less place output room =
    let here : place + 0 ≡ place = omega arith in
    sym (put_fits place [] output (omega arith) ∙ ap₂ (λ (k : ℕ) (o : Bytes). granted (k, o)) here (put_none place output))

-- ---- whether they have room

all_left : (head total room : ℕ) → head ≤ room → leb (head + total) room ≡ leb total (room - head)
all_left head total room h =
    ⊎_elim
    (λ less. lt-leb (head + total) room (omega arith) ∙ sym (lt-leb total (room - head) (omega arith)))
    (λ fits. le-leb (head + total) room (omega arith) ∙ sym (le-leb total (room - head) fits))
    (cases_lt (room - head) total)

module _ (first more : Bytes) (size left : ℕ) (is : length first ≡ size) where
  pub one_less_room : size ≤ left → leb (length (first ++ more)) left ≡ leb (length more) (left - size)
  one_less_room fits = let both = length-append first more in ap (λ (k : ℕ). leb k left) (omega arith) ∙ all_left size (length more) left fits

  pub no_room : left < size → leb (length (first ++ more)) left ≡ false
  no_room short = let both = length-append first more in lt-leb (length (first ++ more)) left (omega arith)

-- ---- a whole sheet

module _ (number : ℕ) (plan : List ℕ) (routes : Routes) where
  abbrev pub head : Bytes
  head = head_bytes number plan (length routes)

  pub sheet_parts : sheet_bytes number plan routes ≡ head ++ routes_bytes routes
  unfolding sheet_bytes
  sheet_parts =
      sym
      (append_assoc (big_endian 8 number) (length plan ∷ (plan ++ big_endian 4 (length routes))) (routes_bytes routes)
      ∙ ap (λ (r : Bytes). big_endian 8 number ++ (length plan ∷ r)) (append_assoc plan (big_endian 4 (length routes)) (routes_bytes routes)))

  pub length_sheet : length (sheet_bytes number plan routes) ≡ 13 + length plan + length (routes_bytes routes)
  length_sheet = ap length sheet_parts ∙ length-append head (routes_bytes routes) ∙ ap (λ (k : ℕ). k + length (routes_bytes routes)) (length_head number plan (length routes))

  module _ (output : Bytes) (small : number ≤ last_number) where
    pub sheet_too_long : leb (13 + length plan + length (routes_bytes routes)) (length output) ≡ false → write_sheet number plan routes output ≡ refused too_narrow Table 0
    sheet_too_long e =
        let long = length_sheet in
        let short = leb-false (13 + length plan + length (routes_bytes routes)) (length output) e in
        rw (le-leb number last_number small, lt-leb (0 + length (sheet_bytes number plan routes)) (length output) (omega arith)) refl

    pub sheet_put : leb (13 + length plan + length (routes_bytes routes)) (length output) ≡ true → (place : ℕ) (now : Bytes) → granted (beside now place) ≡ put_in 0 head output
        → put_in place (routes_bytes routes) now ≡ write_sheet number plan routes output
    sheet_put e place now first =
        let fits = leb-true (13 + length plan + length (routes_bytes routes)) (length output) e in
        let long = length_sheet in
        let parts = ap length sheet_parts in
        sym (one_less 0 head (routes_bytes routes) output place now (omega arith) first).same
        ∙ ap (λ (b : Bytes). put_in 0 b output) (sym sheet_parts)
        ∙ rw (le-leb number last_number small) refl

  -- what was put in reads back
  pub sheet_back : (W : ℕ) (output now : Bytes) (r : Result ℕ Fault) → outcome (beside now) r ≡ write_sheet number plan routes output → InOrder W routes
      → length routes < 2 ^ 32 → IfOk r (λ size. read_sheet W plan (take size now) ≡ granted (record { number = number; routes = routes }))
  sheet_back W output now (Err f) e o few = tt
  sheet_back W output now (Ok size) e o few = passed _ _ _ _ _ _ (sym e) (λ t rest.
      let sheet = sheet_bytes number plan routes in
      passed _ _ _ _ _ _ rest (λ fits same.
      granted_parts (0 + length sheet, put_at 0 sheet output) (size, now) same (λ long is.
      ap (read_sheet W plan) (ap₂ (λ (k : ℕ) (b : Bytes). take k b) (sym long) (sym is) ∙ take_at sheet (drop (0 + length sheet) output) (0 + length sheet) (omega arith))
      ∙ sheet_laws.reads_back W number plan routes (leb-true number last_number t) few o.0 o.1)))
