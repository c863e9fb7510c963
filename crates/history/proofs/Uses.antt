-- What is said of a table and of its answers by name, from what it stands for.
use Rattle.std.proofs.Common.{◌≡◌, ℕ, true, List, [], ◌∷◌, ◌++◌, length, map, Some, None, Option, MatchOption, sym, refl, ap, ◌∙◌, subst, arith, le-leb, ⊎_elim}
use Rattle.std.proofs.lemmas.Bool.{cases_lt, lt-leb}
use Rattle.bits.specs.Rows.{Bits}
use Rattle.laws.proofs.Granted.{insert_full, insert_granted}
use Rattle.laws.proofs.Histories.{history_laws}
use Rattle.laws.proofs.Images.{image_laws}
use Rattle.laws.proofs.Matches.{match_laws}
use Rattle.laws.specs.Lists.{Holdable}
use Rattle.laws.specs.Matches.{LongestMatch, NoMatch}
use Rattle.model.specs.Calls.{Call, Plain, after, after_all, answer, holding, insert, lookup, shut}
use Rattle.model.specs.Nodes.{Chain, Nodes}
use Rattle.model.specs.Outcomes.{and_then, granted}
use Rattle.model.specs.Placements.{Placement, front, image, node_at}
use Rattle.model.specs.Plans.{plan_ok}
use Rattle.model.specs.Required.{path_count, required}
use Rattle.model.specs.Routes.{Routes, longest, prefix_of, put}
use Rattle.walks.specs.Shows.{Shows}
use Rattle.address.specs.declared.Address.{Ghosts as Kind}
use Rattle.table.specs.Stands.{Stands}
use Rattle.table.specs.declared.Table.{Table}
use Rattle.history.specs.Asked.{call_of}
use Rattle.history.specs.declared.Call.{Call as Asked}
use Rattle.history.specs.declared.Call.TheVariants.{Open, Insert, Delete, Lookup, Exact, First, Next, Counts}
use Rattle.history.specs.Runs.{all_answers}
use Rattle.history.specs.Uses.{AllTold, ExactlyRequired, FullAlone, LookedUp, Told, Uses}

-- nodes that show routes
pub exactly : (W : ℕ) (nodes : Nodes) (plan : List ℕ) (routes : Routes) (at : Placement) (n : ℕ) → Shows W nodes plan routes at → n ≡ front at.free
    → ExactlyRequired nodes plan routes n
unfolding image
exactly W nodes plan routes at n s e =
    let N = nodes.size in
    subst (λ (x : Nodes). ExactlyRequired x plan routes n) (sym s.is)
    (record {
      node = λ p. node_at at.used p;
      in_use = image_laws.reaches W N plan routes at s.holdable s.sound;
      each_its_own = image_laws.own_nodes N plan routes at s.sound;
      free = at.free;
      chained = subst (λ (k : ℕ). Chain (image N plan routes at) k at.free) (sym e) (image_laws.chains N plan routes at s.sound);
      none_in_use = λ m q h. image_laws.chains_no_other W N plan routes at s.holdable s.sound m q h;
      none_lost = λ m small h. image_laws.loses_none W N plan routes at s.holdable s.sound m small h;
    })

-- ---- what is told

module _ (W N : ℕ) (plan : List ℕ) (routes : Routes) (held : Holdable W plan routes) where
  looked_up : (a : Bits) → length a ≡ W → LookedUp plan routes a (answer W N (holding plan routes) (lookup a))
  looked_up a long =
      record {
        found = longest routes a;
        visits = path_count plan routes a;
        is = refl;
        longest = by (longest routes a) refl;
        exact = refl;
        within = match_laws.path_within_plan plan routes a (subst (λ (w : ℕ). plan_ok w plan ≡ true) (sym long) held.planned);
      }
    where
      by : (o : Option _) → longest routes a ≡ o → MatchOption o (NoMatch routes a) (LongestMatch routes a)
      by None e = match_laws.none routes a held.ascends e
      by (Some r) e = match_laws.found routes a r held.ascends e

  full_alone : (a : Bits) (l h : ℕ) → FullAlone W N plan routes a l h (answer W N (holding plan routes) (insert a l h))
  full_alone a l h short clean small =
      let then = required plan (put routes (prefix_of a l) h) in
      ⊎_elim
      (λ more. (λ _. more, λ _. ap (λ d. and_then d (λ x. granted x.answered)) (insert_full W N plan routes a l short clean h small (lt-leb then N more))))
      (λ fits. (
        λ e.
            let both = sym (ap (λ d. and_then d (λ x. granted x.answered)) (insert_granted W N plan routes a l short clean h small (le-leb then N fits))) ∙ e in
            let z : ◌≡◌ {A = ℕ} 0 1 = cc in absurd (omega arith),
        λ more. absurd (omega arith),
      ))
      (cases_lt N then)

-- ---- of each of a list of calls, whatever calls came before

after_more : (W N : ℕ) (plain : Plain) (cs : List Call) (c : Call) → after_all W N plain (cs ++ (c ∷ [])) ≡ after W N (after_all W N plain cs) c
after_more W N plain [] c = refl
after_more W N plain (d ∷ cs) c = after_more W N (after W N plain d) cs c

module _ {X : Type 0} (bits : X → Bits) (W N : ℕ) (long : (a : X) → length (bits a) ≡ W) where
  told_one : (h : List Call) (plain : Plain) → plain ≡ after_all W N shut h → (c : Asked X) → Told W N plain (call_of bits c) (answer W N plain (call_of bits c))
  told_one h shut e c = tt
  told_one h (holding plan routes) e (Open strides) = tt
  told_one h (holding plan routes) e (Insert p hop) = full_alone W N plan routes (history_laws.holdable W N h plan routes (sym e)) (bits p.address) p.length hop
  told_one h (holding plan routes) e (Delete p) = tt
  told_one h (holding plan routes) e (Lookup a) = looked_up W N plan routes (history_laws.holdable W N h plan routes (sym e)) (bits a) (long a)
  told_one h (holding plan routes) e (Exact p) = tt
  told_one h (holding plan routes) e First = tt
  told_one h (holding plan routes) e (Next p) = tt
  told_one h (holding plan routes) e Counts = tt

  pub all_told : (h : List Call) (plain : Plain) → plain ≡ after_all W N shut h → (cs : List (Asked X))
      → AllTold W N plain (map (call_of bits) cs) (all_answers W N plain (map (call_of bits) cs))
  all_told h plain e [] = tt
  all_told h plain e (c ∷ cs) = (
    told_one h plain e c,
    all_told (h ++ (call_of bits c ∷ [])) (after W N plain (call_of bits c))
        (ap (λ (p : Plain). after W N p (call_of bits c)) e ∙ sym (after_more W N shut h (call_of bits c))) cs,
  )

-- a table that stands for a plain list
module _ {X Y : Type 0} {G : Kind X} (nodes : Y → Nodes) (W : ℕ) where
  pub stands_uses : (t : Table X Y G) (plain : Plain) (at : Placement) → Stands nodes W t plain at → Uses (nodes t.memory) t.front plain
  stands_uses t shut at s = tt
  stands_uses t (holding plan routes) at s = exactly W (nodes t.memory) plan routes at t.front s.shows s.chain
