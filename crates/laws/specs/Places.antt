-- Where a prefix lies.
use Rattle.std.specs.Prelude.{◌≡◌, ℕ, ◌<◌, ◌≤◌, true, List, length, take, drop, slice_index}
use Rattle.bits.specs.Rows.{Bits, number}
use Rattle.model.specs.Places.{Lies, indexes, level}
use Rattle.model.specs.Plans.{offset, offsets, plan_ok}

-- every prefix lies at one stride, and the child index at each stride before that is the number of this stride's bits
pub record PlaceLaws : Type 0 where
  pub somewhere : (W len : ℕ) (plan : List ℕ) → plan_ok W plan ≡ true → len ≤ W → Lies plan (level plan len) len
  pub nowhere_else : (len k : ℕ) (plan : List ℕ) → Lies plan k len → k ≡ level plan len
  pub offset_at : (plan : List ℕ) (k : ℕ) → k < length plan → slice_index (offsets plan) k ≡ offset plan k
  pub one_index_each : (W : ℕ) (plan : List ℕ) (p : Bits) → plan_ok W plan ≡ true → length p ≤ W → length (indexes plan p) ≡ level plan (length p)
  pub index_at :
      (plan : List ℕ) (p : Bits) (k : ℕ) → k < length (indexes plan p)
      → slice_index (indexes plan p) k ≡ number (take (slice_index plan k) (drop (offset plan k) p))
