-- Words that are filled with one node after another.
use Rattle.std.proofs.Common.{◌≡◌, ℕ, ◌+◌, ◌-◌, ◌*◌, ◌<◌, ◌≤◌, ap, ◌∙◌, ⊎_elim, arith, rules, List, length}
use Rattle.std.proofs.Math.ListN.{get_or}
use Rattle.std.proofs.lemmas.List.{places}
use Rattle.std.proofs.lemmas.Bool.{cases_lt}
use borrow.Rule.Slice.PartMut.{put_mid}
use Rattle.fields.specs.Layout.{size_of, word_at}
use Rattle.fields.specs.Filled.{Filled}

-- one node more
pub one_more : (i : ℕ) (node xs ys part : List ℕ) → i < size_of xs → length node ≡ 36 → part ≡ node → Filled i node xs ys
    → Filled (i + 1) node xs (put_mid (36 * i) (36 * i + 36 - 36 * i) ys part)
one_more i node xs ys part h l e f =
    let zs = put_mid (36 * i) (36 * i + 36 - 36 * i) ys part in
    let room : 36 * i + 36 ≤ length ys = omega (arith, f.long) in
    let long : length part ≡ 36 = ap length e ∙ l in
    record {
      long = search (rules, places) ∙ f.long;
      each = λ n w hn hw.
          ⊎_elim
          (λ before. let kept : word_at zs n w ≡ word_at ys n w = search (rules, places) in kept ∙ f.each n w before hw)
          (λ now.
          let same : n ≡ i = omega arith in
          let own : word_at zs i w ≡ get_or part w 0 = search (rules, places) in
          ap (λ m. word_at zs m w) same ∙ own ∙ ap (λ p. get_or p w 0) e)
          (cases_lt n i);
      behind = λ k b.
          let kept : get_or zs k 0 ≡ get_or ys k 0 = search (rules, places) in
          kept ∙ f.behind k (omega arith);
    }
