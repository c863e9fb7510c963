-- A newly opened table stands for the plan and no routes.
use Rattle.std.proofs.Common.{◌≡◌, ℕ, ◌≤◌, true, cond, ltb, List, [], Some, refl, sym, ap, ◌∙◌, subst, le-leb}
use Rattle.laws.proofs.Placements.{placement_laws}
use Rattle.model.specs.Calls.{Plain, after, done, holding, open_with, opened, perform, shut}
use Rattle.model.specs.Nodes.{Nodes}
use Rattle.model.specs.Placements.{Placement, SoundPlacement, image, opened_placement}
use Rattle.model.specs.Plans.{plan_ok}
use Rattle.model.specs.Required.{required, required_paths}
use Rattle.images.specs.Steps.{chained}
use Rattle.images.proofs.Opening.{opened_front, opened_image}
use Rattle.table.specs.Placed.{placed}
use Rattle.table.specs.Stands.{Open}

one_root : (plan : List ℕ) → 1 ≡ required plan []
unfolding required required_paths
one_root plan = refl

pub opens : (W N : ℕ) (nodes : Nodes) (plan : List ℕ) (at_front : ℕ) → plan_ok W plan ≡ true → 1 ≤ N → nodes ≡ chained N → at_front ≡ cond (ltb 1 N) 1 0
    → Open W nodes (Some plan) at_front 0 1 plan [] (opened_placement N)
opens W N nodes plan at_front ok some is is_front =
    let size : nodes.size ≡ N = ap (λ (m : Nodes). m.size) is in
    record {
      planned = refl;
      shows =
          record {
            holdable = record { planned = ok; ascends = tt; ranged = tt };
            sound = subst (λ k. SoundPlacement k plan [] (opened_placement N)) (sym size) (placement_laws.opens N plan some);
            is = is ∙ sym (opened_image N plan some) ∙ ap (λ k. image k plan [] (opened_placement N)) (sym size);
          };
      chain = is_front ∙ sym (opened_front N plan some);
      counted = refl;
      requires = one_root plan;
    }

-- what an opening leaves that is granted, and by which placement, whatever was there
opening_granted : (W N : ℕ) (plain : Plain) (plan : List ℕ) → plan_ok W plan ≡ true → 1 ≤ N
    → perform W N plain (open_with plan) ≡ done opened (holding plan [])
opening_granted W N shut plan ok some = rw (ok, le-leb 1 N some) refl
opening_granted W N (holding strides routes) plan ok some = rw (ok, le-leb 1 N some) refl

pub opens_to : (W N : ℕ) (plain : Plain) (plan : List ℕ) (at : Placement) → plan_ok W plan ≡ true → 1 ≤ N
    → (after W N plain (open_with plan) ≡ holding plan []) × (placed W N plain at (open_with plan) ≡ opened_placement N)
opens_to W N plain plan at ok some =
    let granted = opening_granted W N plain plan ok some in
    (rw granted refl, rw granted refl)
