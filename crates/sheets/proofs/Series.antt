-- A list of routes that is read one by one: those that are done, the reading of the rest, and how many nodes the done ones require.
use Rattle.std.proofs.Common.{◌≡◌, ℕ, suc, ◌+◌, ◌≤◌, Bool, true, List, [], ◌∷◌, ◌++◌, length, take, Some, None, Option, sym, refl, ap, ap₂, ◌∙◌, append_assoc, append-nil, arith, Less}
use Rattle.std.specs.Option.{option_to_list}
use Rattle.bits.proofs.Orders.{compared, decided, equal, fails, greater, holds, less}
use Rattle.bits.specs.Order.{order}
use Rattle.bits.specs.Rows.{Bits}
use Rattle.faults.specs.declared.Layer.{Layer}
use Rattle.laws.proofs.Plans.{planned}
use Rattle.laws.proofs.Required.{none_required}
use Rattle.laws.proofs.Written.{route_was_read}
use Rattle.laws.specs.Counts.{count, missing}
use Rattle.model.specs.Bytes.{Bytes}
use Rattle.model.specs.Outcomes.{Outcome, and_then, granted, refused}
use Rattle.model.specs.Plans.{offsets, offsets_from, plan_ok}
use Rattle.model.specs.Reading.{series}
use Rattle.model.specs.Required.{required}
use Rattle.model.specs.Routes.{Route, Routes, Ascending}
use Rattle.model.specs.Sheets.{ascends, read_route}
use Rattle.sheets.specs.Held.{count_read, last_of}
use Rattle.sheets.proofs.Counting.{last_behind, required_behind}

pub record Going (plan : List ℕ) (whole : Outcome (Routes × ℕ)) (last : Option Route) (rest : Outcome (Routes × ℕ)) (needs : ℕ) : Type 0 where
  pub done : Routes
  pub ends : last_of done ≡ last
  pub ascending : Ascending done
  pub counted : needs ≡ required plan done
  pub is : whole ≡ and_then rest (λ got. granted (done ++ got.0, got.1))

-- nothing is done
nothing_before : (o : Outcome (Routes × ℕ)) → o ≡ and_then o (λ got. granted ([] ++ got.0, got.1))
nothing_before (granted got) = refl
nothing_before (refused number layer place) = refl

pub going_first : (plan : List ℕ) (whole : Outcome (Routes × ℕ)) → Going plan whole None whole 1
going_first plan whole = record { done = []; ends = refl; ascending = tt; counted = sym (none_required plan); is = nothing_before whole }

-- one route more
behind_one : (done : Routes) (r : Route) (rest : Outcome (Routes × ℕ))
    → and_then {A = Routes × ℕ} {B = Routes × ℕ} (and_then {B = Routes × ℕ} rest (λ more. granted (r ∷ more.0, more.1))) (λ got. granted (done ++ got.0, got.1))
    ≡ and_then {B = Routes × ℕ} rest (λ got. granted ((done ++ (r ∷ [])) ++ got.0, got.1))
behind_one done r (granted got) = ap (λ (rs : Routes). granted (rs, got.1)) (sym (append_assoc done (r ∷ []) got.0))
behind_one done r (refused number layer place) = refl

rises : (p q : Bits) → ascends (Some (record { prefix = p; hop = 0 })) q ≡ true → order p q ≡ Less
rises p q h = elim (compared p q) [
  | less e ↦ e
  | equal e ↦ (let wrong = simp e at h in cc)
  | greater e ↦ (let wrong = simp e at h in cc)
]

ascending_one_more : (done : Routes) (r : Route) → Ascending done → ascends (last_of done) r.prefix ≡ true → Ascending (done ++ (r ∷ []))
ascending_one_more [] r s h = (tt, tt)
ascending_one_more (x ∷ []) r s h = (rises x.prefix r.prefix h, (tt, tt))
ascending_one_more (x ∷ y ∷ done) r s h = (s.0, ascending_one_more (y ∷ done) r s.1 h)

module _ (W : ℕ) (plan : List ℕ) (whole : Outcome (Routes × ℕ)) (last : Option Route) (left : ℕ) (message : Bytes) (at needs : ℕ)
    (g : Going plan whole last (series (read_route W) last (suc left) message at) needs) where
  pub going_refused : (number : ℕ) (layer : Layer) (place : ℕ) → refused number layer place ≡ read_route W last message at
      → refused number layer place ≡ count_read plan whole
  going_refused number layer place e = sym (ap (count_read plan) g.is ∙ rw (sym e) refl)

  pub going_on : (r : Route) (to more : ℕ) (a : Bits) (len : ℕ) → granted (r, to) ≡ read_route W last message at → r.prefix ≡ take len a → len ≤ length a
      → plan_ok (length a) plan ≡ true → more ≡ count (missing (option_to_list last) a len) (offsets plan)
      → Going plan whole (Some r) (series (read_route W) (Some r) left message to) (needs + more)
  going_on r to more a len e p-is inside ok counted =
      let read = route_was_read W last message at r to (sym e) in
      let up = ascending_one_more g.done r g.ascending (ap (λ (l : Option Route). ascends l r.prefix) g.ends ∙ read.rises) in
      record {
        done = g.done ++ (r ∷ []);
        ends = last_behind g.done r;
        ascending = up;
        counted =
            ap₂ (λ (n m : ℕ). n + m) g.counted
            (counted ∙ ap (λ (l : Option Route). count (missing (option_to_list l) a len) (offsets plan)) (sym g.ends))
            ∙ sym (required_behind g.done r up a len inside p-is plan ok);
        is = g.is ∙ rw (sym e) (behind_one g.done r (series (read_route W) (Some r) left message to));
      }

-- all are done
pub going_end : (W : ℕ) (plan : List ℕ) (whole : Outcome (Routes × ℕ)) (last : Option Route) (message : Bytes) (at needs : ℕ)
    → Going plan whole last (series (read_route W) last 0 message at) needs → granted (needs, at) ≡ count_read plan whole
going_end W plan whole last message at needs g =
    ap (λ (n : ℕ). granted (n, at)) (g.counted ∙ ap (required plan) (sym (append-nil g.done))) ∙ sym (ap (count_read plan) g.is)

-- at most one node for each stride
count_most : (test : ℕ → Bool) (ns : List ℕ) → count test ns ≤ length ns
count_most test [] = omega arith
count_most test (n ∷ ns) =
    let rest = count_most test ns in
    elim (decided (test n)) [ holds e ↦ simp e (omega arith) | fails e ↦ simp e (omega arith) ]

length_offsets : (o : ℕ) (ss : List ℕ) → length (offsets_from o ss) ≡ length ss
length_offsets o [] = refl
length_offsets o (s ∷ ss) = ap suc (length_offsets (o + s) ss)

pub few_newly : (W : ℕ) (plan : List ℕ) (test : ℕ → Bool) (n : ℕ) → plan_ok W plan ≡ true → n ≡ count test (offsets plan) → n ≤ 32
few_newly W plan test n ok e =
    let few = (planned W plan ok).few in
    let most = count_most test (offsets plan) in
    let long = length_offsets 0 plan in
    omega arith
