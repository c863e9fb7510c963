-- A write to the part of the words that a node has, as a write to all words.
use Rattle.std.proofs.Common.{◌≡◌, ℕ, ◌+◌, ◌-◌, ◌*◌, ◌%◌, ◌<◌, ◌≤◌, true, ◌&&◌, sym, ap, ◌∙◌, arith, List, take, drop}
use Rattle.std.proofs.Math.ListN.{set}
use Rattle.std.proofs.lemmas.List.Edits.{get_or-between}
use Rattle.std.proofs.lemmas.Bool.{cond-true, and_from, eq-eqb, lt-ltb, le-leb}
use borrow.Rule.Slice.PartMut.{put_mid, set_mid_at, mid_len}
use Rattle.nodes.specs.Fields.{is_node, is_child, is_hop, fits_bitmap, fits_count, fits_child, fits_hop}
use Rattle.fields.specs.Field.{with_field}
use Rattle.fields.specs.Layout.{Place, child_place, count_place, hop_place, put_in, size_of, word_at, set_word, put_at, nodes_of, words_after_bitmap, words_after_count, words_after_child, words_after_hop}

module _ (words part : List ℕ) (n : ℕ) (hn : n < size_of words) where
  -- the node's own words, and all words with others in their place
  abbrev own : List ℕ
  own = take (36 * n + 36 - 36 * n) (drop (36 * n) words)

  abbrev whole : List ℕ
  whole = put_mid (36 * n) (36 * n + 36 - 36 * n) words part

  set_own : (w new : ℕ) → w < 36 → part ≡ set own w new → whole ≡ set_word words n w new
  set_own w new hw e =
      ap (λ ys. put_mid (36 * n) (36 * n + 36 - 36 * n) words ys) e
      ∙ set_mid_at (36 * n) (36 * n + 36 - 36 * n) w words new (let long = mid_len (36 * n) (36 * n + 36) words (omega arith) in omega arith)

  put_own : (p : Place) (v : ℕ) → p.word < 36 → part ≡ put_in own p v → whole ≡ put_at words n p v
  put_own p v hp e =
      set_own p.word (with_field p.width p.shift (word_at words n p.word) v) hp
      (e ∙ ap (λ x. set own p.word (with_field p.width p.shift x v)) (get_or-between words (36 * n) (36 * n + 36) p.word 0 (omega arith)))

  node_there : is_node (nodes_of words) n ≡ true
  node_there = lt-ltb n (size_of words) hn

  pub bitmap_put : (v : ℕ) → v % 2 ≡ 0 → part ≡ set own 0 v → whole ≡ words_after_bitmap words n v
  bitmap_put v f e =
      set_own 0 v (omega arith) e
      ∙ sym (cond-true (is_node (nodes_of words) n && fits_bitmap v) (set_word words n 0 v) words (and_from _ _ node_there (eq-eqb (v % 2) 0 f)))

  pub count_put : (v : ℕ) → v ≤ 64 → part ≡ put_in own count_place v → whole ≡ words_after_count words n v
  count_put v f e =
      put_own count_place v (omega arith) e
      ∙ sym (cond-true (is_node (nodes_of words) n && fits_count v) (put_at words n count_place v) words (and_from _ _ node_there (le-leb v 64 f)))

  pub child_put : (i v : ℕ) → i < 64 → v < size_of words → part ≡ put_in own (child_place i) v → whole ≡ words_after_child words n i v
  child_put i v hi f e =
      put_own (child_place i) v (omega arith) e
      ∙ sym (cond-true (is_child (nodes_of words) n i && fits_child (nodes_of words) v) (put_at words n (child_place i) v) words
      (and_from _ _ (and_from _ _ node_there (lt-ltb i 64 hi)) (lt-ltb v (size_of words) f)))

  pub hop_put : (i v : ℕ) → 1 ≤ i → i < 64 → v ≤ 4095 → part ≡ put_in own (hop_place i) v → whole ≡ words_after_hop words n i v
  hop_put i v one hi f e =
      put_own (hop_place i) v (omega arith) e
      ∙ sym (cond-true (is_hop (nodes_of words) n i && fits_hop v) (put_at words n (hop_place i) v) words
      (and_from _ _ (and_from _ _ node_there (and_from _ _ (le-leb 1 i one) (lt-ltb i 64 hi))) (le-leb v 4095 f)))
