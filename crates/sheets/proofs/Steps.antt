-- What a reader of sheets comes to: a prefix that is refused where its bits are looked at, and a sheet that was read.
use Rattle.std.proofs.Common.{◌≡◌, ℕ, nat_le, Option, sym, refl, ap, ◌∙◌, arith, le-leb, suc, ◌<◌, List, [], ◌∷◌, get_or, Ok, Err, Result, IfOk}
use Rattle.faults.specs.declared.Fault.{Fault}
use Rattle.bits.proofs.Orders.{decided, holds, fails}
use Rattle.faults.specs.declared.Layer.{Layer}
use Rattle.faults.specs.declared.Layer.TheVariants.{Reader as ByReader}
use Rattle.faults.specs.Numbers.{number_of, too_long, stray_bits}
use Rattle.bits.specs.Rows.{Bits}
use Rattle.model.specs.Bytes.{Bytes}
use Rattle.model.specs.Outcomes.{Outcome, and_then, granted, outcome, refused, provided}
use Rattle.model.specs.Routes.{Route, prefix_of, sound}
use Rattle.model.specs.Sheets.{Read, Sheet, read_prefix, read_route, read_sheet, sheet_bytes}
use Rattle.laws.proofs.Messages.{sheet_laws}
use Rattle.laws.specs.Messages.{Octets}
use Rattle.routes.specs.InOrder.{InOrder}
use Rattle.laws.proofs.Written.{prefix_was_read}

-- what is read within the width and then refused is stray
pub stray_read : (W : ℕ) (last : Option Route) (bytes : Bytes) (place : ℕ) (p : Read) (behind : ℕ) (o : Outcome Bits)
    → granted (p, behind) ≡ read_prefix W bytes place
    → o ≡ provided (nat_le p.len W) too_long ByReader p.place (provided (sound p.row p.len) stray_bits ByReader p.place (granted (prefix_of p.row p.len)))
    → (number : ℕ) (layer : Layer) (at : ℕ) → o ≡ refused number layer at
    → refused number layer at ≡ read_route W last bytes place
unfolding read_route
stray_read W last bytes place p behind o read checked number layer at is =
    let short = le-leb p.len W (prefix_was_read W bytes place p behind (sym read)).short in
    elim (decided (sound p.row p.len)) [
      | holds clean ↦ (let both : refused number layer at ≡ granted (prefix_of p.row p.len) = sym is ∙ checked ∙ rw (short, clean) refl in
          let z : ◌≡◌ {A = ℕ} 0 1 = cc in absurd (omega arith))
      | fails stray ↦ (let same : refused number layer at ≡ refused stray_bits ByReader p.place = sym is ∙ checked ∙ rw (short, stray) refl in
          ap (λ (x : Outcome Bits). and_then {B = Route × ℕ} x (λ _. refused number layer at)) same ∙ rw (sym read, stray) refl)
    ]

-- a result that is refused tells nothing but that
pub told_refused : {T A : Type 0} (told : T → A) (r : Result T Fault) (f : Fault) (o : Outcome A) → r ≡ Err f
    → refused (number_of f.refusal) f.layer f.place ≡ o → outcome told r ≡ o
told_refused told r f o is e = ap (outcome told) is ∙ e

-- every number of a part is one of a byte
octets : (bytes : Bytes) → ((i : ℕ) → get_or bytes i 0 < 256) → Octets bytes
octets [] small = tt
octets (b ∷ bytes) small = (small 0, octets bytes (λ i. small (suc i)))

-- a sheet that was read has ascending routes in range, and its bytes are those that are written of it
module _ {T : Type 0} (told : T → Sheet) (W : ℕ) (plan : List ℕ) (bytes : Bytes) where
  pub in_order : (r : Result T Fault) → outcome told r ≡ read_sheet W plan bytes → IfOk r (λ s. InOrder W (told s).routes)
  in_order (Ok s) e = (sheet_laws.routes_ascend W plan bytes (told s) (sym e), sheet_laws.routes_in_range W plan bytes (told s) (sym e))
  in_order (Err f) e = tt

  pub as_written : (r : Result T Fault) → ((i : ℕ) → get_or bytes i 0 < 256) → outcome told r ≡ read_sheet W plan bytes
      → IfOk r (λ s. sheet_bytes (told s).number plan (told s).routes ≡ bytes)
  as_written (Ok s) small e = sheet_laws.read_is_written W plan bytes (told s) (octets bytes small) (sym e)
  as_written (Err f) small e = tt
