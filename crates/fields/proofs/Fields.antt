-- The laws of a field, over any width and shift: what was put is read back, everything else is left, and the word still fits.
use Rattle.std.proofs.Common.{◌≡◌, ℕ, ◌+◌, ◌-◌, ◌*◌, ◌/◌, ◌%◌, ◌^◌, ◌<◌, ◌≤◌, ◌⊎◌, sym, ap, ◌∙◌, subst, inl, inr, ⊎_elim, arith, ◌==◌}
use Rattle.std.proofs.Math.Nat.{add-zero, add-mul, mod-eq_of_lt}
use Rattle.std.proofs.Math.Pow.{pow-add, ones_split, ones_lt, mod-mod-pow}
use lib.Arith.{digits_lt}
use lib.Bits.{bit_and, bit_or, and_zero_r, or_zero_r}
use Rattle.std.proofs.lemmas.Nat.{pow_pos, mod_below, one_shl, shl_whole, shr_high, mod_low, shr-shr, shr_split, shr_below, field_of, and_mask, and_block, or_block, or_shifted}
use Rattle.model.specs.Nodes.{marked}
use Rattle.fields.specs.Field.{field, with_field}

pub field_small : (width shift w : ℕ) → field width shift w < 2 ^ width
unfolding field
field_small width shift w = mod_below (w / 2 ^ shift) (2 ^ width) (pow_pos width)

-- what was put is read back
pub get_put : (width shift w v : ℕ) → v < 2 ^ width → field width shift (with_field width shift w v) ≡ v
unfolding field with_field
get_put width shift w v h =
    let hi = w / 2 ^ shift / 2 ^ width in
    ap (λ x. x % 2 ^ width) (shr_high (hi * 2 ^ width + v) shift (w % 2 ^ shift) (mod_below w (2 ^ shift) (pow_pos shift)))
    ∙ mod_low hi width v h

-- a field that lies above
above : (width shift w v : ℕ) (width' gap : ℕ) → v < 2 ^ width
    → field width' (shift + (width + gap)) (with_field width shift w v) ≡ field width' (shift + (width + gap)) w
unfolding field with_field
above width shift w v width' gap h =
    let hi : ℕ = w / 2 ^ shift / 2 ^ width in
    let whole : ℕ = (hi * 2 ^ width + v) * 2 ^ shift + w % 2 ^ shift in
    ap (λ x. x % 2 ^ width')
    (sym (shr-shr whole shift (width + gap))
    ∙ ap (λ x. x / 2 ^ (width + gap)) (shr_high (hi * 2 ^ width + v) shift (w % 2 ^ shift) (mod_below w (2 ^ shift) (pow_pos shift)))
    ∙ sym (shr-shr (hi * 2 ^ width + v) width gap)
    ∙ ap (λ x. x / 2 ^ gap) (shr_high hi width v h)
    ∙ shr-shr (w / 2 ^ shift) width gap
    ∙ shr-shr w shift (width + gap))

-- a field that lies below
below : (width shift' w v : ℕ) (width' gap : ℕ)
    → field width' shift' (with_field width (gap + (width' + shift')) w v) ≡ field width' shift' w
unfolding field with_field
below width shift' w v width' gap =
    let shift : ℕ = gap + (width' + shift') in
    let hi : ℕ = w / 2 ^ shift / 2 ^ width in
    let whole : ℕ = (hi * 2 ^ width + v) * 2 ^ shift + w % 2 ^ shift in
    let lows : whole % 2 ^ shift ≡ w % 2 ^ shift = mod_low (hi * 2 ^ width + v) shift (w % 2 ^ shift) (mod_below w (2 ^ shift) (pow_pos shift)) in
    sym (field_of whole width' shift')
    ∙ ap (λ x. x / 2 ^ shift') (sym (mod-mod-pow whole gap (width' + shift')) ∙ ap (λ x. x % 2 ^ (width' + shift')) lows ∙ mod-mod-pow w gap (width' + shift'))
    ∙ field_of w width' shift'

-- another field, whose bits lie apart, is left
pub get_other : (width shift w v : ℕ) (width' shift' : ℕ) → v < 2 ^ width → (shift + width ≤ shift') ⊎ (shift' + width' ≤ shift)
    → field width' shift' (with_field width shift w v) ≡ field width' shift' w
get_other width shift w v width' shift' h =
    ⊎_elim
    (λ p.
    let e : shift + (width + (shift' - (shift + width))) ≡ shift' = omega arith in
    subst (λ s. field width' s (with_field width shift w v) ≡ field width' s w) e (above width shift w v width' (shift' - (shift + width)) h))
    (λ p.
    let e : shift - (shift' + width') + (width' + shift') ≡ shift = omega arith in
    subst (λ s. field width' shift' (with_field width s w v) ≡ field width' shift' w) e (below width shift' w v width' (shift - (shift' + width'))))

-- every bit outside is left
pub bit_other : (width shift w v bit : ℕ) → v < 2 ^ width → (shift + width ≤ bit) ⊎ (bit < shift)
    → marked (with_field width shift w v) bit ≡ marked w bit
unfolding marked field
bit_other width shift w v bit h side =
    ap (λ x. x == 1) (get_other width shift w v 1 bit h (⊎_elim (λ p. inl p) (λ p. inr (let q : bit + 1 ≤ shift = omega arith in q)) side))

-- the three parts of a word
word_parts : (width shift w : ℕ) → w ≡ (w / 2 ^ shift / 2 ^ width * 2 ^ width + w / 2 ^ shift % 2 ^ width) * 2 ^ shift + w % 2 ^ shift
word_parts width shift w = sym (ap (λ x. x * 2 ^ shift + w % 2 ^ shift) (shr_split (w / 2 ^ shift) width) ∙ shr_split w shift)

-- the mask that leaves out the field
hole : (top width shift : ℕ)
    → (2 ^ (top + width + shift) - 1) - (2 ^ width - 1) * 2 ^ shift ≡ ((2 ^ top - 1) * 2 ^ width + 0) * 2 ^ shift + (2 ^ shift - 1)
hole top width shift =
    let p = ones_split (top + width) shift in
    let q = ap (λ x. x * 2 ^ shift) (ones_split top width) in
    let d = add-mul ((2 ^ top - 1) * 2 ^ width) (2 ^ width - 1) (2 ^ shift) in
    let z = ap (λ x. x * 2 ^ shift) (add-zero ((2 ^ top - 1) * 2 ^ width)) in
    omega (arith, p, q, d, z)

-- the word of top + width + shift bits still has no more
module _ (top width shift w v : ℕ) (hw : w < 2 ^ (top + width + shift)) (hv : v < 2 ^ width) where
  abbrev hi : ℕ
  hi = w / 2 ^ shift / 2 ^ width

  abbrev mid : ℕ
  mid = w / 2 ^ shift % 2 ^ width

  abbrev lo : ℕ
  lo = w % 2 ^ shift

  lo_lt : lo < 2 ^ shift
  lo_lt = mod_below w (2 ^ shift) (pow_pos shift)

  hi_lt : hi < 2 ^ top
  hi_lt = shr_below (w / 2 ^ shift) top width (shr_below w (top + width) shift hw)

  parts_lt : with_field width shift w v < 2 ^ (top + width + shift)
  unfolding with_field
  parts_lt = rw (pow-add 2 (top + width) shift, pow-add 2 top width) (digits_lt (digits_lt hi_lt hv) lo_lt)

  -- the field is masked out, and the value joined in its place
  masked : bit_or (bit_and w ((2 ^ (top + width + shift) - 1) - (2 ^ width - 1) * 2 ^ shift)) (v * 2 ^ shift) ≡ with_field width shift w v
  unfolding with_field
  masked =
      let mid_lt : mid < 2 ^ width = mod_below (w / 2 ^ shift) (2 ^ width) (pow_pos width) in
      let hi_kept : bit_and hi (2 ^ top - 1) ≡ hi = and_mask hi top ∙ mod-eq_of_lt hi_lt in
      let lo_kept : bit_and lo (2 ^ shift - 1) ≡ lo = and_mask lo shift ∙ mod-eq_of_lt lo_lt in
      let upper : bit_and (hi * 2 ^ width + mid) ((2 ^ top - 1) * 2 ^ width + 0) ≡ hi * 2 ^ width =
      and_block width hi (2 ^ top - 1) mid 0 mid_lt (pow_pos width)
      ∙ ap (λ x. x * 2 ^ width + bit_and mid 0) hi_kept ∙ ap (λ x. hi * 2 ^ width + x) (and_zero_r mid) ∙ add-zero (hi * 2 ^ width) in
      let cleared : bit_and w ((2 ^ (top + width + shift) - 1) - (2 ^ width - 1) * 2 ^ shift) ≡ (hi * 2 ^ width) * 2 ^ shift + lo =
      ap (λ x. bit_and x ((2 ^ (top + width + shift) - 1) - (2 ^ width - 1) * 2 ^ shift)) (word_parts width shift w)
      ∙ ap (λ x. bit_and ((hi * 2 ^ width + mid) * 2 ^ shift + lo) x) (hole top width shift)
      ∙ and_block shift (hi * 2 ^ width + mid) ((2 ^ top - 1) * 2 ^ width + 0) lo (2 ^ shift - 1) lo_lt (ones_lt shift)
      ∙ ap (λ x. x * 2 ^ shift + bit_and lo (2 ^ shift - 1)) upper ∙ ap (λ x. (hi * 2 ^ width) * 2 ^ shift + x) lo_kept in
      ap (λ x. bit_or x (v * 2 ^ shift)) cleared
      ∙ ap (λ x. bit_or ((hi * 2 ^ width) * 2 ^ shift + lo) x) (sym (add-zero (v * 2 ^ shift)))
      ∙ or_block shift (hi * 2 ^ width) v lo 0 lo_lt (pow_pos shift)
      ∙ ap (λ x. x * 2 ^ shift + bit_or lo 0) (or_shifted hi width v hv) ∙ ap (λ x. (hi * 2 ^ width + v) * 2 ^ shift + x) (or_zero_r lo)

-- at 64 bits
module _ (width shift w v : ℕ) (inside : shift + width ≤ 64) (hw : w < 2 ^ 64) (hv : v < 2 ^ width) where
  abbrev top : ℕ
  top = 64 - (shift + width)

  all : top + width + shift ≡ 64
  all = omega arith

  hw' : w < 2 ^ (top + width + shift)
  hw' = rw all hw

  -- the result still fits
  pub put_small : with_field width shift w v < 2 ^ 64
  put_small = subst (λ n. with_field width shift w v < 2 ^ n) all (parts_lt top width shift w v hw' hv)

  -- as the machine computes it: `(w & !(((1 << width) - 1) << shift)) | (v << shift)`
  pub put_word : width < 64
      → bit_or (bit_and w (18446744073709551615 - (1 * 2 ^ width % 2 ^ 64 - 1) * 2 ^ shift % 2 ^ 64)) (v * 2 ^ shift % 2 ^ 64) ≡ with_field width shift w v
  put_word narrow =
      let fits : width + shift ≤ 64 = omega arith in
      let mask =
      ap (λ x. (x - 1) * 2 ^ shift % 2 ^ 64) (one_shl width 64 narrow) ∙ shl_whole (2 ^ width - 1) width shift 64 (ones_lt width) fits in
      ap (λ x. bit_or (bit_and w (18446744073709551615 - x)) (v * 2 ^ shift % 2 ^ 64)) mask
      ∙ ap (λ x. bit_or (bit_and w (18446744073709551615 - (2 ^ width - 1) * 2 ^ shift)) x) (shl_whole v width shift 64 hv fits)
      ∙ ap (λ x. bit_or (bit_and w ((2 ^ x - 1) - (2 ^ width - 1) * 2 ^ shift)) (v * 2 ^ shift)) (sym all)
      ∙ masked top width shift w v hw' hv

-- `(w >> shift) & ((1 << width) - 1)`
pub get_word : (width shift w : ℕ) → width < 64 → bit_and (w / 2 ^ shift) (1 * 2 ^ width % 2 ^ 64 - 1) ≡ field width shift w
unfolding field
get_word width shift w narrow = ap (λ x. bit_and (w / 2 ^ shift) (x - 1)) (one_shl width 64 narrow) ∙ and_mask (w / 2 ^ shift) width
