-- Every write leaves what lies beside the fields, and the laws of a memory that lies in words.
use Rattle.std.proofs.Common.{◌≡◌, ℕ, ◌+◌, ◌*◌, ◌/◌, ◌%◌, ◌^◌, ◌<◌, ◌≤◌, min, Bool, true, false, cond, ◌&&◌, inl, inr, refl, sym, ap, ◌∙◌, subst, ⊎_elim, arith, List, length, mul_comm}
use Rattle.std.specs.Prelude.{nat_lt, nat_le}
use Rattle.std.proofs.Math.ListN.{get_or, set}
use Rattle.std.proofs.lemmas.List.{length-set, get_or-set_same, get_or-set_other}
use Rattle.std.proofs.lemmas.Nat.{mod-mul-add}
use Rattle.std.proofs.lemmas.Bool.{cases_eq, cases_lt, cond-false, and_parts, ltb-true, leb-true, false≢true}
use Rattle.model.specs.Nodes.{marked}
use Rattle.nodes.specs.Fields.{most_nodes, is_node, is_child, is_hop, fits_bitmap, fits_count, fits_child, fits_hop}
use Rattle.nodes.specs.Laws.{Within, Laws}
use Rattle.fields.specs.Field.{with_field}
use Rattle.fields.specs.Layout.{Place, child_place, count_place, hop_place, size_of, word_at, set_word, put_at, nodes_of, words_after_bitmap, words_after_count, words_after_child, words_after_hop}
use Rattle.fields.specs.Beside.{is_field, Beside}
use Rattle.fields.proofs.Fields.{bit_other}
use Rattle.fields.proofs.Covers.{child_covers, count_covers, hop_covers}

-- ---- one field of one node is changed
row : (n w : ℕ) → w < 36 → (36 * n + w) % 36 ≡ w
row n w h = ap (λ x. (x + w) % 36) (mul_comm 36 n) ∙ mod-mul-add n 36 w h

module _ (words : List ℕ) (n : ℕ) (hn : n < size_of words) where
  -- whatever word is changed: if the bits that were no field stand as they were
  beside_word : (w new : ℕ) → w < 36 → ((bit : ℕ) → is_field w bit ≡ false → marked new bit ≡ marked (word_at words n w) bit) → Beside words (set_word words n w new)
  beside_word w new hw kept =
      let spot : ℕ = 36 * n + w in
      record {
        long = length-set words spot new;
        behind = λ k h. get_or-set_other words spot k new 0 (λ e. omega arith);
        spare = λ k bit f.
            ⊎_elim
            (λ e.
            let s : is_field w bit ≡ false = subst (λ x. is_field x bit ≡ false) (ap (λ x. x % 36) e ∙ row n w hw) f in
            ap (λ q. marked (get_or (set words spot new) q 0) bit) e
            ∙ ap (λ x. marked x bit) (get_or-set_same words spot new 0 (omega arith))
            ∙ kept bit s
            ∙ ap (λ q. marked (get_or words q 0) bit) (sym e))
            (λ ne. ap (λ x. marked x bit) (get_or-set_other words spot k new 0 ne))
            (cases_eq k spot);
      }

  beside_put : (p : Place) (v : ℕ) → p.word < 36 → v < 2 ^ p.width
      → ((bit : ℕ) → p.shift ≤ bit → bit < p.shift + p.width → is_field p.word bit ≡ true) → Beside words (put_at words n p v)
  beside_put p v hp hv covers =
      beside_word p.word (with_field p.width p.shift (word_at words n p.word) v) hp
      (λ bit f.
      bit_other p.width p.shift (word_at words n p.word) v bit hv
      (⊎_elim
      (λ l. inr l)
      (λ g. ⊎_elim (λ l. absurd (false≢true (sym f ∙ covers bit g l))) (λ h. inl h) (cases_lt bit (p.shift + p.width)))
      (cases_lt bit p.shift)))

-- ---- the relation goes on from call to call
pub beside_same : (xs : List ℕ) → Beside xs xs
beside_same xs = record { long = refl; behind = λ k h. refl; spare = λ k bit f. refl }

size_same : (ys xs : List ℕ) → length ys ≡ length xs → size_of ys ≡ size_of xs
size_same ys xs e = ap (λ n. min (n / 36) most_nodes) e

pub beside_then : (xs ys zs : List ℕ) → Beside xs ys → Beside ys zs → Beside xs zs
beside_then xs ys zs p q = record {
  long = q.long ∙ p.long;
  behind = λ k h. q.behind k (subst (λ n. 36 * n ≤ k) (sym (size_same ys xs p.long)) h) ∙ p.behind k h;
  spare = λ k bit f. q.spare k bit f ∙ p.spare k bit f;
}

-- ---- each write, done or refused
either : (words : List ℕ) (b : Bool) (ys : List ℕ) → (b ≡ true → Beside words ys) → Beside words (cond b ys words)
either words true ys h = h refl
either words false ys h = beside_same words

module _ (words : List ℕ) where
  pub bitmap_beside : (n v : ℕ) → Beside words (words_after_bitmap words n v)
  bitmap_beside n v =
      either words (is_node (nodes_of words) n && fits_bitmap v) (set_word words n 0 v)
      (λ b.
      beside_word words n (ltb-true n (size_of words) (and_parts (is_node (nodes_of words) n) (fits_bitmap v) b).0) 0 v (omega arith)
      (λ bit f. absurd (false≢true (sym f))))

  pub count_beside : (n v : ℕ) → Beside words (words_after_count words n v)
  count_beside n v =
      either words (is_node (nodes_of words) n && fits_count v) (put_at words n count_place v)
      (λ b.
      let p = and_parts (is_node (nodes_of words) n) (fits_count v) b in
      let l : v ≤ 64 = leb-true v 64 p.1 in
      beside_put words n (ltb-true n (size_of words) p.0) count_place v (omega arith) (omega arith) (λ bit from to. count_covers bit to))

  pub child_beside : (n i v : ℕ) → Beside words (words_after_child words n i v)
  child_beside n i v =
      either words (is_child (nodes_of words) n i && fits_child (nodes_of words) v) (put_at words n (child_place i) v)
      (λ b.
      let p = and_parts (is_child (nodes_of words) n i) (fits_child (nodes_of words) v) b in
      let q = and_parts (is_node (nodes_of words) n) (nat_lt i 64) p.0 in
      let hn : n < size_of words = ltb-true n (size_of words) q.0 in
      let hi : i < 64 = ltb-true i 64 q.1 in
      let hv : v < size_of words = ltb-true v (size_of words) p.1 in
      beside_put words n hn (child_place i) v (omega arith) (omega arith) (λ bit from to. child_covers i bit hi to))

  pub hop_beside : (n i v : ℕ) → Beside words (words_after_hop words n i v)
  hop_beside n i v =
      either words (is_hop (nodes_of words) n i && fits_hop v) (put_at words n (hop_place i) v)
      (λ b.
      let p = and_parts (is_hop (nodes_of words) n i) (fits_hop v) b in
      let q = and_parts (is_node (nodes_of words) n) (nat_le 1 i && nat_lt i 64) p.0 in
      let r = and_parts (nat_le 1 i) (nat_lt i 64) q.1 in
      let hn : n < size_of words = ltb-true n (size_of words) q.0 in
      let one : 1 ≤ i = leb-true 1 i r.0 in
      let hi : i < 64 = ltb-true i 64 r.1 in
      let hv : v ≤ 4095 = leb-true v 4095 p.1 in
      beside_put words n hn (hop_place i) v (omega arith) (omega arith) (λ bit from to. hop_covers i bit one hi from to))

-- ---- the laws, of whatever holds words under a name
within : (words : List ℕ) → Within (nodes_of words)
within words = record {
  few = omega arith;
  bitmap = λ n e. cond-false (is_node (nodes_of words) n) _ 0 e;
  count = λ n e. cond-false (is_node (nodes_of words) n) _ 0 e;
  child = λ n i e. cond-false (is_child (nodes_of words) n i) _ 0 e;
  hop = λ n i e. cond-false (is_hop (nodes_of words) n i) _ 0 e;
}

-- of whatever has words: a reading leaves them, and every call leaves what is beside the nodes
pub laws_of : {S : Type 0} (words : S → List ℕ) → Laws (λ x. nodes_of (words x)) (λ x y. words y ≡ words x) (λ x y. Beside (words x) (words y))
laws_of words = record {
  within = λ x. within (words x);
  still_same = λ x. refl;
  still_then = λ x y z p q. q ∙ p;
  still_nodes = λ x y p. ap nodes_of p;
  still_always = λ x y p. subst (λ l. Beside (words x) l) (sym p) (beside_same (words x));
  always_same = λ x. beside_same (words x);
  always_then = λ x y z p q. beside_then (words x) (words y) (words z) p q;
  always_size = λ x y p. size_same (words y) (words x) p.long;
}

-- and where the words are lent, they are still those of the same lender
pub laws : {S G : Type 0} (name : S → G) (words : S → List ℕ)
    → Laws (λ x. nodes_of (words x)) (λ x y. (name y ≡ name x) × (words y ≡ words x)) (λ x y. (name y ≡ name x) × Beside (words x) (words y))
laws name words = record {
  within = λ x. within (words x);
  still_same = λ x. (refl, refl);
  still_then = λ x y z p q. (q.0 ∙ p.0, q.1 ∙ p.1);
  still_nodes = λ x y p. ap nodes_of p.1;
  still_always = λ x y p. (p.0, subst (λ l. Beside (words x) l) (sym p.1) (beside_same (words x)));
  always_same = λ x. (refl, beside_same (words x));
  always_then = λ x y z p q. (q.0 ∙ p.0, beside_then (words x) (words y) (words z) p.1 q.1);
  always_size = λ x y p. size_same (words y) (words x) p.1.long;
}
