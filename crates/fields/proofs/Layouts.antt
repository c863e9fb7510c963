-- What the memory holds after a write, by the word that it changes.
use Rattle.std.proofs.Common.{◌≡◌, ℕ, ◌+◌, ◌*◌, ◌/◌, ◌%◌, ◌^◌, ◌<◌, ◌≤◌, min, Bool, true, false, cond, ◌&&◌, ◌==◌, ◌⊎◌, inl, inr, refl, sym, ap, ◌∙◌, subst, ⊎_elim, arith, List}
use Rattle.std.specs.Prelude.{nat_lt, nat_le}
use Rattle.std.proofs.Math.ListN.{get_or}
use Rattle.std.proofs.lemmas.List.{length-set, get_or-set_same, get_or-set_other}
use Rattle.std.proofs.lemmas.Bool.{cases_eq, cases_order, cond-true, cond-false, and_parts, and_from, and_left, and_right, eqb-true, eq-eqb, ne_eqb, ltb-true, leb-true, false≢true}
use Rattle.nodes.specs.Fields.{most_nodes, changed, changed_at, with_bitmap, with_count, with_child, with_hop, after_bitmap, after_count, after_child, after_hop, is_node, is_child, is_hop, fits_bitmap, fits_count, fits_child, fits_hop}
use Rattle.nodes.proofs.Guards.{guarded, left}
use Rattle.fields.specs.Field.{field, with_field}
use Rattle.fields.specs.Layout.{Place, child_place, count_place, hop_place, size_of, word_at, set_word, read_at, put_at, nodes_of, words_after_bitmap, words_after_count, words_after_child, words_after_hop}
use Rattle.fields.proofs.Fields.{get_put, get_other}

-- two fields lie in different words, or in different bits of one
pub Apart : Place → Place → Type 0
Apart p q = (p.word ≡ q.word) → (p.shift + p.width ≤ q.shift) ⊎ (q.shift + q.width ≤ p.shift)

-- ---- one word of one node is changed
module _ (words : List ℕ) (n w new : ℕ) (hn : n < size_of words) (hw : w < 36) where
  abbrev put : List ℕ
  put = set_word words n w new

  same_size : size_of put ≡ size_of words
  same_size = ap (λ k. min (k / 36) most_nodes) (length-set words (36 * n + w) new)

  here : word_at put n w ≡ new
  here = get_or-set_same words (36 * n + w) new 0 (omega arith)

  elsewhere : (m u : ℕ) → u < 36 → (m ≡ n → u ≡ w → ⊥) → word_at put m u ≡ word_at words m u
  elsewhere m u hu ne = get_or-set_other words (36 * n + w) (36 * m + u) new 0 (λ e. let a : m ≡ n = omega arith in let b : u ≡ w = omega arith in ne a b)

-- ---- one field of one node is changed
module _ (words : List ℕ) (n : ℕ) (p : Place) (v : ℕ) (hn : n < size_of words) (hp : p.word < 36) (hv : v < 2 ^ p.width) where
  abbrev new : ℕ
  new = with_field p.width p.shift (word_at words n p.word) v

  read_here : read_at (put_at words n p v) n p ≡ v
  read_here =
      ap (λ x. field p.width p.shift x) (here words n p.word new hn hp)
      ∙ get_put p.width p.shift (word_at words n p.word) v hv

  -- the same field of another node
  read_there : (m : ℕ) (q : Place) → q.word < 36 → (m ≡ n → ⊥) → read_at (put_at words n p v) m q ≡ read_at words m q
  read_there m q hq nm = ap (λ x. field q.width q.shift x) (elsewhere words n p.word new hn hp m q.word hq (λ e _. nm e))

  -- another field of any node
  read_apart : (m : ℕ) (q : Place) → q.word < 36 → Apart p q → read_at (put_at words n p v) m q ≡ read_at words m q
  unfolding Apart
  read_apart m q hq apart =
      ⊎_elim
      (λ em.
      ⊎_elim
      (λ ew.
      let same : 36 * m + q.word ≡ 36 * n + p.word = omega arith in
      ap (λ k. field q.width q.shift (get_or (put_at words n p v) k 0)) same
      ∙ ap (λ x. field q.width q.shift x) (here words n p.word new hn hp)
      ∙ get_other p.width p.shift (word_at words n p.word) v q.width q.shift hv (apart (sym ew))
      ∙ ap (λ k. field q.width q.shift (get_or words k 0)) (sym same))
      (λ nw. ap (λ x. field q.width q.shift x) (elsewhere words n p.word new hn hp m q.word hq (λ _ e. nw e)))
      (cases_eq q.word p.word))
      (λ nm. read_there m q hq nm)
      (cases_eq m n)

-- ---- what lies apart

child_inside : (i : ℕ) → i < 64 → 1 + i / 3 < 36
child_inside i h = omega arith

hop_inside : (i : ℕ) → i < 64 → 23 + i / 5 < 36
hop_inside i h = omega arith

child_apart : (i j : ℕ) → (j ≡ i → ⊥) → Apart (child_place i) (child_place j)
unfolding Apart
child_apart i j ne e =
    ⊎_elim
    (λ m. absurd (ne (omega arith)))
    (λ o. ⊎_elim (λ l. inl (let q : 18 * (i % 3) + 18 ≤ 18 * (j % 3) = omega arith in q)) (λ l. inr (let q : 18 * (j % 3) + 18 ≤ 18 * (i % 3) = omega arith in q)) o)
    (cases_order (i % 3) (j % 3))

hop_apart : (i j : ℕ) → (j ≡ i → ⊥) → Apart (hop_place i) (hop_place j)
unfolding Apart
hop_apart i j ne e =
    ⊎_elim
    (λ m. absurd (ne (omega arith)))
    (λ o. ⊎_elim (λ l. inl (let q : 12 * (i % 5) + 12 ≤ 12 * (j % 5) = omega arith in q)) (λ l. inr (let q : 12 * (j % 5) + 12 ≤ 12 * (i % 5) = omega arith in q)) o)
    (cases_order (i % 5) (j % 5))

child_count : (i : ℕ) → i < 64 → Apart (child_place i) count_place
unfolding Apart
child_count i h e = inl (let q : 18 * (i % 3) + 18 ≤ 18 = omega arith in q)

count_child : (j : ℕ) → j < 64 → Apart count_place (child_place j)
unfolding Apart
count_child j h e = inr (let q : 18 * (j % 3) + 18 ≤ 18 = omega arith in q)

child_hop : (i j : ℕ) → i < 64 → Apart (child_place i) (hop_place j)
unfolding Apart
child_hop i j h e = absurd (omega arith)

hop_child : (i j : ℕ) → j < 64 → Apart (hop_place i) (child_place j)
unfolding Apart
hop_child i j h e = absurd (omega arith)

count_hop : (j : ℕ) → Apart count_place (hop_place j)
unfolding Apart
count_hop j e = absurd (omega arith)

hop_count : (i : ℕ) → Apart (hop_place i) count_place
unfolding Apart
hop_count i e = absurd (omega arith)

-- ---- one of many fields of one kind is changed
module _ (words : List ℕ) (n : ℕ) (place : ℕ → Place) (i v : ℕ) (hn : n < size_of words) (hv : v < 2 ^ (place i).width)
    (inside : (j : ℕ) → j < 64 → (place j).word < 36) (apart : (j : ℕ) → (j ≡ i → ⊥) → Apart (place i) (place j)) (hi : i < 64) where
  one_of : (m j : ℕ) → j < 64 → read_at (put_at words n (place i) v) m (place j) ≡ cond (m == n && j == i) v (read_at words m (place j))
  one_of m j hj =
      ⊎_elim
      (λ em.
      ⊎_elim
      (λ ej.
      ap (λ k. read_at (put_at words n (place i) v) k (place j)) em
      ∙ ap (λ k. read_at (put_at words n (place i) v) n (place k)) ej
      ∙ read_here words n (place i) v hn (inside i hi) hv
      ∙ sym (cond-true (m == n && j == i) v (read_at words m (place j)) (and_from (m == n) (j == i) (eq-eqb m n em) (eq-eqb j i ej))))
      (λ nj.
      read_apart words n (place i) v hn (inside i hi) hv m (place j) (inside j hj) (apart j nj)
      ∙ sym (cond-false (m == n && j == i) v (read_at words m (place j)) (and_right (m == n) (j == i) (ne_eqb j i nj))))
      (cases_eq j i))
      (λ nm.
      read_there words n (place i) v hn (inside i hi) hv m (place j) (inside j hj) nm
      ∙ sym (cond-false (m == n && j == i) v (read_at words m (place j)) (and_left (m == n) (j == i) (ne_eqb m n nm))))
      (cases_eq m n)

-- ---- from the words to the fields
module _ (xs ys : List ℕ) (same : size_of ys ≡ size_of xs) where
  left_bitmap : (m : ℕ) → word_at ys m 0 ≡ word_at xs m 0 → (nodes_of ys).bitmap m ≡ (nodes_of xs).bitmap m
  left_bitmap m e =
      ap (λ z. cond (nat_lt m z) (word_at ys m 0) 0) same
      ∙ ap (λ x. cond (nat_lt m (size_of xs)) x 0) e

  left_count : (m : ℕ) → read_at ys m count_place ≡ read_at xs m count_place → (nodes_of ys).count m ≡ (nodes_of xs).count m
  left_count m e =
      ap (λ z. cond (nat_lt m z) (read_at ys m count_place) 0) same
      ∙ ap (λ x. cond (nat_lt m (size_of xs)) x 0) e

  left_child : (m j : ℕ) → (j < 64 → read_at ys m (child_place j) ≡ read_at xs m (child_place j)) → (nodes_of ys).child m j ≡ (nodes_of xs).child m j
  left_child m j e =
      ap (λ z. cond (nat_lt m z && nat_lt j 64) (read_at ys m (child_place j)) 0) same
      ∙ left (nat_lt m (size_of xs) && nat_lt j 64) (read_at ys m (child_place j)) (read_at xs m (child_place j))
      (λ g. e (ltb-true j 64 (and_parts (nat_lt m (size_of xs)) (nat_lt j 64) g).1))

  left_hop : (m j : ℕ) → (j < 64 → read_at ys m (hop_place j) ≡ read_at xs m (hop_place j)) → (nodes_of ys).hop m j ≡ (nodes_of xs).hop m j
  left_hop m j e =
      ap (λ z. cond (nat_lt m z && (nat_le 1 j && nat_lt j 64)) (read_at ys m (hop_place j)) 0) same
      ∙ left (nat_lt m (size_of xs) && (nat_le 1 j && nat_lt j 64)) (read_at ys m (hop_place j)) (read_at xs m (hop_place j))
      (λ g. e (ltb-true j 64 (and_parts (nat_le 1 j) (nat_lt j 64) (and_parts (nat_lt m (size_of xs)) (nat_le 1 j && nat_lt j 64) g).1).1))

  module _ (n v : ℕ) (hn : is_node (nodes_of xs) n ≡ true) where
    at_node : (m : ℕ) → (m == n) ≡ true → nat_lt m (size_of xs) ≡ true
    at_node m e = subst (λ k. nat_lt k (size_of xs) ≡ true) (sym (eqb-true m n e)) hn

    new_bitmap : (m : ℕ) → word_at ys m 0 ≡ cond (m == n) v (word_at xs m 0) → (nodes_of ys).bitmap m ≡ changed (nodes_of xs).bitmap n v m
    new_bitmap m e =
        ap (λ z. cond (nat_lt m z) (word_at ys m 0) 0) same
        ∙ guarded (nat_lt m (size_of xs)) (m == n) (word_at ys m 0) (word_at xs m 0) v (λ _. e) (at_node m)

    new_count : (m : ℕ) → read_at ys m count_place ≡ cond (m == n) v (read_at xs m count_place) → (nodes_of ys).count m ≡ changed (nodes_of xs).count n v m
    new_count m e =
        ap (λ z. cond (nat_lt m z) (read_at ys m count_place) 0) same
        ∙ guarded (nat_lt m (size_of xs)) (m == n) (read_at ys m count_place) (read_at xs m count_place) v (λ _. e) (at_node m)

  new_child : (n i v : ℕ) → is_child (nodes_of xs) n i ≡ true
      → (m j : ℕ) → (j < 64 → read_at ys m (child_place j) ≡ cond (m == n && j == i) v (read_at xs m (child_place j)))
      → (nodes_of ys).child m j ≡ changed_at (nodes_of xs).child n i v m j
  new_child n i v h m j e =
      ap (λ z. cond (nat_lt m z && nat_lt j 64) (read_at ys m (child_place j)) 0) same
      ∙ guarded (nat_lt m (size_of xs) && nat_lt j 64) (m == n && j == i) (read_at ys m (child_place j)) (read_at xs m (child_place j)) v
      (λ g. e (ltb-true j 64 (and_parts (nat_lt m (size_of xs)) (nat_lt j 64) g).1))
      (λ b.
      let p = and_parts (m == n) (j == i) b in
      subst (λ k. (nat_lt k (size_of xs) && nat_lt j 64) ≡ true) (sym (eqb-true m n p.0))
      (subst (λ k. (nat_lt n (size_of xs) && nat_lt k 64) ≡ true) (sym (eqb-true j i p.1)) h))

  new_hop : (n i v : ℕ) → is_hop (nodes_of xs) n i ≡ true
      → (m j : ℕ) → (j < 64 → read_at ys m (hop_place j) ≡ cond (m == n && j == i) v (read_at xs m (hop_place j)))
      → (nodes_of ys).hop m j ≡ changed_at (nodes_of xs).hop n i v m j
  new_hop n i v h m j e =
      ap (λ z. cond (nat_lt m z && (nat_le 1 j && nat_lt j 64)) (read_at ys m (hop_place j)) 0) same
      ∙ guarded (nat_lt m (size_of xs) && (nat_le 1 j && nat_lt j 64)) (m == n && j == i) (read_at ys m (hop_place j)) (read_at xs m (hop_place j)) v
      (λ g. e (ltb-true j 64 (and_parts (nat_le 1 j) (nat_lt j 64) (and_parts (nat_lt m (size_of xs)) (nat_le 1 j && nat_lt j 64) g).1).1))
      (λ b.
      let p = and_parts (m == n) (j == i) b in
      subst (λ k. (nat_lt k (size_of xs) && (nat_le 1 j && nat_lt j 64)) ≡ true) (sym (eqb-true m n p.0))
      (subst (λ k. (nat_lt n (size_of xs) && (nat_le 1 k && nat_lt k 64)) ≡ true) (sym (eqb-true j i p.1)) h))

-- ---- each write that is done
module _ (words : List ℕ) where
  bitmap_done : (n v : ℕ) → is_node (nodes_of words) n ≡ true → nodes_of (set_word words n 0 v) ≡ with_bitmap (nodes_of words) n v
  bitmap_done n v h =
      let hn : n < size_of words = ltb-true n (size_of words) h in
      let ys = set_word words n 0 v in
      let same = same_size words n 0 v hn (let z : 0 < 36 = omega arith in z) in
      let other = elsewhere words n 0 v hn (let z : 0 < 36 = omega arith in z) in
      λ t. record {
        size = same t;
        bitmap = λ m.
            new_bitmap words ys same n v h m
            (⊎_elim
            (λ em. ap (λ k. word_at ys k 0) em ∙ here words n 0 v hn (omega arith) ∙ sym (cond-true (m == n) v (word_at words m 0) (eq-eqb m n em)))
            (λ nm. other m 0 (omega arith) (λ e _. nm e) ∙ sym (cond-false (m == n) v (word_at words m 0) (ne_eqb m n nm)))
            (cases_eq m n)) t;
        count = λ m. left_count words ys same m (ap (λ x. field 7 18 x) (other m 22 (omega arith) (λ _ e. omega arith))) t;
        child = λ m j.
            left_child words ys same m j
            (λ hj. ap (λ x. field 18 (18 * (j % 3)) x) (other m (1 + j / 3) (child_inside j hj) (λ _ e. omega arith))) t;
        hop = λ m j.
            left_hop words ys same m j
            (λ hj. ap (λ x. field 12 (12 * (j % 5)) x) (other m (23 + j / 5) (hop_inside j hj) (λ _ e. omega arith))) t;
      }

  count_done : (n v : ℕ) → is_node (nodes_of words) n ≡ true → v < 2 ^ 7 → nodes_of (put_at words n count_place v) ≡ with_count (nodes_of words) n v
  count_done n v h hv =
      let hn : n < size_of words = ltb-true n (size_of words) h in
      let hp : 22 < 36 = omega arith in
      let ys = put_at words n count_place v in
      let new = with_field 7 18 (word_at words n 22) v in
      let same = same_size words n 22 new hn hp in
      let other = read_apart words n count_place v hn hp hv in
      λ t. record {
        size = same t;
        bitmap = λ m. left_bitmap words ys same m (elsewhere words n 22 new hn hp m 0 (omega arith) (λ _ e. omega arith)) t;
        count = λ m.
            new_count words ys same n v h m
            (⊎_elim
            (λ em.
            ap (λ k. read_at ys k count_place) em ∙ read_here words n count_place v hn hp hv
            ∙ sym (cond-true (m == n) v (read_at words m count_place) (eq-eqb m n em)))
            (λ nm.
            read_there words n count_place v hn hp hv m count_place hp nm
            ∙ sym (cond-false (m == n) v (read_at words m count_place) (ne_eqb m n nm)))
            (cases_eq m n)) t;
        child = λ m j. left_child words ys same m j (λ hj. other m (child_place j) (child_inside j hj) (count_child j hj)) t;
        hop = λ m j. left_hop words ys same m j (λ hj. other m (hop_place j) (hop_inside j hj) (count_hop j)) t;
      }

  child_done : (n i v : ℕ) → is_child (nodes_of words) n i ≡ true → v < 2 ^ 18 → nodes_of (put_at words n (child_place i) v) ≡ with_child (nodes_of words) n i v
  child_done n i v h hv =
      let parts = and_parts (nat_lt n (size_of words)) (nat_lt i 64) h in
      let hn : n < size_of words = ltb-true n (size_of words) parts.0 in
      let hi : i < 64 = ltb-true i 64 parts.1 in
      let hp : 1 + i / 3 < 36 = child_inside i hi in
      let ys = put_at words n (child_place i) v in
      let new = with_field 18 (18 * (i % 3)) (word_at words n (1 + i / 3)) v in
      let same = same_size words n (1 + i / 3) new hn hp in
      let other = read_apart words n (child_place i) v hn hp hv in
      λ t. record {
        size = same t;
        bitmap = λ m. left_bitmap words ys same m (elsewhere words n (1 + i / 3) new hn hp m 0 (omega arith) (λ _ e. omega arith)) t;
        count = λ m. left_count words ys same m (other m count_place (omega arith) (child_count i hi)) t;
        child = λ m j. new_child words ys same n i v h m j (λ hj. one_of words n child_place i v hn hv child_inside (child_apart i) hi m j hj) t;
        hop = λ m j. left_hop words ys same m j (λ hj. other m (hop_place j) (hop_inside j hj) (child_hop i j hi)) t;
      }

  hop_done : (n i v : ℕ) → is_hop (nodes_of words) n i ≡ true → v < 2 ^ 12 → nodes_of (put_at words n (hop_place i) v) ≡ with_hop (nodes_of words) n i v
  hop_done n i v h hv =
      let parts = and_parts (nat_lt n (size_of words)) (nat_le 1 i && nat_lt i 64) h in
      let hn : n < size_of words = ltb-true n (size_of words) parts.0 in
      let hi : i < 64 = ltb-true i 64 (and_parts (nat_le 1 i) (nat_lt i 64) parts.1).1 in
      let hp : 23 + i / 5 < 36 = hop_inside i hi in
      let ys = put_at words n (hop_place i) v in
      let new = with_field 12 (12 * (i % 5)) (word_at words n (23 + i / 5)) v in
      let same = same_size words n (23 + i / 5) new hn hp in
      let other = read_apart words n (hop_place i) v hn hp hv in
      λ t. record {
        size = same t;
        bitmap = λ m. left_bitmap words ys same m (elsewhere words n (23 + i / 5) new hn hp m 0 (omega arith) (λ _ e. omega arith)) t;
        count = λ m. left_count words ys same m (other m count_place (omega arith) (hop_count i)) t;
        child = λ m j. left_child words ys same m j (λ hj. other m (child_place j) (child_inside j hj) (hop_child i j hj)) t;
        hop = λ m j. new_hop words ys same n i v h m j (λ hj. one_of words n hop_place i v hn hv hop_inside (hop_apart i) hi m j hj) t;
      }

-- ---- each write, done or refused
either : {X : Type 0} (f : List ℕ → X) (b : Bool) (x y : List ℕ) (u : X) → (b ≡ true → f x ≡ u) → f (cond b x y) ≡ cond b u (f y)
either f true x y u h = h refl
either f false x y u h = refl

module _ (words : List ℕ) where
  pub bitmap_written : (n v : ℕ) → nodes_of (words_after_bitmap words n v) ≡ after_bitmap (nodes_of words) n v
  bitmap_written n v =
      either nodes_of (is_node (nodes_of words) n && fits_bitmap v) (set_word words n 0 v) words (with_bitmap (nodes_of words) n v)
      (λ b. bitmap_done words n v (and_parts (is_node (nodes_of words) n) (fits_bitmap v) b).0)

  pub count_written : (n v : ℕ) → nodes_of (words_after_count words n v) ≡ after_count (nodes_of words) n v
  count_written n v =
      either nodes_of (is_node (nodes_of words) n && fits_count v) (put_at words n count_place v) words (with_count (nodes_of words) n v)
      (λ b.
      let p = and_parts (is_node (nodes_of words) n) (fits_count v) b in
      let l : v ≤ 64 = leb-true v 64 p.1 in
      count_done words n v p.0 (omega arith))

  pub child_written : (n i v : ℕ) → nodes_of (words_after_child words n i v) ≡ after_child (nodes_of words) n i v
  child_written n i v =
      either nodes_of (is_child (nodes_of words) n i && fits_child (nodes_of words) v) (put_at words n (child_place i) v) words (with_child (nodes_of words) n i v)
      (λ b.
      let p = and_parts (is_child (nodes_of words) n i) (fits_child (nodes_of words) v) b in
      let l : v < size_of words = ltb-true v (size_of words) p.1 in
      child_done words n i v p.0 (omega arith))

  pub hop_written : (n i v : ℕ) → nodes_of (words_after_hop words n i v) ≡ after_hop (nodes_of words) n i v
  hop_written n i v =
      either nodes_of (is_hop (nodes_of words) n i && fits_hop v) (put_at words n (hop_place i) v) words (with_hop (nodes_of words) n i v)
      (λ b.
      let p = and_parts (is_hop (nodes_of words) n i) (fits_hop v) b in
      let l : v ≤ 4095 = leb-true v 4095 p.1 in
      hop_done words n i v p.0 (omega arith))
