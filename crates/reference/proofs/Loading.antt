-- A set that takes the routes of a sheet one by one, and what a load comes to in the plain list.
use Rattle.std.proofs.Common.{◌≡◌, ℕ, suc, ◌<◌, ◌≤◌, true, List, [], ◌∷◌, Some, Option, Err, Result, sym, refl, ap, ◌∙◌, subst, arith, le-leb}
use Rattle.std.proofs.lemmas.Bool.{lt-leb}
use Rattle.faults.specs.declared.Fault.{Fault}
use Rattle.faults.specs.declared.Layer.{Layer}
use Rattle.faults.specs.declared.Layer.TheVariants.{Table}
use Rattle.faults.specs.Numbers.{full, number_of}
use Rattle.laws.proofs.Loads.{put_behind}
use Rattle.laws.specs.Lists.{put_all}
use Rattle.model.specs.Bytes.{Bytes}
use Rattle.model.specs.Calls.{holding, done, load, load_sheet, loaded, perform}
use Rattle.model.specs.Outcomes.{Outcome, and_then, granted, is_granted, refused}
use Rattle.model.specs.Reading.{series}
use Rattle.model.specs.Routes.{Route, Routes, Ascending, put}
use Rattle.model.specs.Required.{required}
use Rattle.model.specs.Sheets.{Sheet, read_route, read_sheet}
use Rattle.routes.specs.Answered.{Says}
use Rattle.routes.specs.declared.failure.Failure.{Failure}
use Rattle.routes.specs.declared.failure.Failure.TheVariants.{Refused}
use Rattle.sheets.specs.Held.{read_or_none}

-- what is read as a whole are the routes that are held, with those put in that are still to be read
abbrev pub Taking : Outcome (Routes × ℕ) → Routes → Outcome (Routes × ℕ) → Type 0
Taking whole held rest = whole ≡ and_then rest (λ got. granted (put_all held got.0, got.1))

pub taking_first : (whole : Outcome (Routes × ℕ)) → is_granted whole ≡ true → Ascending (read_or_none whole) → Taking whole [] whole
taking_first (granted got) sure up = ap (λ (rs : Routes). granted (rs, got.1)) (sym (put_behind [] got.0 up))
taking_first (refused number layer place) sure up = refl

-- one route more
put_one : (held : Routes) (r : Route) (rest : Outcome (Routes × ℕ))
    → and_then {A = Routes × ℕ} {B = Routes × ℕ} (and_then {B = Routes × ℕ} rest (λ more. granted (r ∷ more.0, more.1))) (λ got. granted (put_all held got.0, got.1))
    ≡ and_then {B = Routes × ℕ} rest (λ got. granted (put_all (put held r.prefix r.hop) got.0, got.1))
put_one held r (granted got) = refl
put_one held r (refused number layer place) = refl

module _ (W : ℕ) (whole : Outcome (Routes × ℕ)) (held : Routes) (last : Option Route) (left : ℕ) (message : Bytes) (at : ℕ)
    (t : Taking whole held (series (read_route W) last (suc left) message at)) where
  pub taking_on : (r : Route) (to : ℕ) → granted (r, to) ≡ read_route W last message at
      → Taking whole (put held r.prefix r.hop) (series (read_route W) (Some r) left message to)
  taking_on r to e = t ∙ rw (sym e) (put_one held r (series (read_route W) (Some r) left message to))

  -- none of them is refused
  pub none_refused : is_granted whole ≡ true → (number : ℕ) (layer : Layer) (place : ℕ) → refused number layer place ≡ read_route W last message at → ⊥
  none_refused sure number layer place e =
      let no : whole ≡ refused number layer place = t ∙ rw (sym e) refl in
      let both : is_granted {A = Routes × ℕ} (refused number layer place) ≡ true = ap is_granted (sym no) ∙ sure in
      cc

-- all are held
pub taking_end : (W : ℕ) (whole : Outcome (Routes × ℕ)) (held : Routes) (last : Option Route) (message : Bytes) (at : ℕ)
    → Taking whole held (series (read_route W) last 0 message at) → held ≡ read_or_none whole
taking_end W whole held last message at t = sym (ap read_or_none t)

-- a load on an open list: of a sheet that does not read, of one whose routes require more nodes than there are, and of any other
module _ (W N : ℕ) (plan : List ℕ) (rs : Routes) (message : Bytes) where
  pub not_read : (number : ℕ) (layer : Layer) (place : ℕ) → refused number layer place ≡ read_sheet W plan message
      → perform W N (holding plan rs) (load message) ≡ refused number layer place
  unfolding load_sheet
  not_read number layer place e = rw (sym e) refl

  module _ (s : Sheet) (reads : granted s ≡ read_sheet W plan message) (needs : ℕ) (counted : needs ≡ required plan s.routes) where
    pub too_many : N < needs → perform W N (holding plan rs) (load message) ≡ refused full Table 0
    unfolding load_sheet
    too_many more = rw (sym reads, lt-leb (required plan s.routes) N (omega arith)) refl

    pub taken_over : needs ≤ N → perform W N (holding plan rs) (load message) ≡ done (loaded s.number) (holding plan s.routes)
    unfolding load_sheet
    taken_over less = rw (sym reads, le-leb (required plan s.routes) N (omega arith)) refl

-- a result that is refused says nothing but that
pub says_refused : {T A : Type 0} (told : T → A) (r : Result T Failure) (f : Fault) (o : Outcome A) → r ≡ Err (Refused f)
    → refused (number_of f.refusal) f.layer f.place ≡ o → Says told r o
says_refused told r f o is e = subst (λ (x : Result _ Failure). Says told x o) (sym is) e
