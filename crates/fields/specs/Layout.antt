-- Where the fields of the nodes lie in a list of words: node n has the 36 words from 36 * n on, and word 0 of a node is its bitmap.
use Rattle.std.specs.Prelude.{ℕ, ◌+◌, ◌*◌, ◌/◌, ◌%◌, min, ◌&&◌, cond, List, length, nat_lt, nat_le}
use Rattle.std.proofs.Math.ListN.{get_or, set}
use Rattle.model.specs.Nodes.{Nodes}
use Rattle.nodes.specs.Fields.{Node, most_nodes, is_node, is_child, is_hop, fits_bitmap, fits_count, fits_child, fits_hop}
use Rattle.fields.specs.Field.{field, with_field}

-- a field lies in one word of its node, from a bit on, so many bits
pub record Place : Type 0 where
  pub word : ℕ
  pub shift : ℕ
  pub width : ℕ

-- children 0 to 63, three to a word
abbrev pub child_place : ℕ → Place
child_place i = record { word = 1 + i / 3; shift = 18 * (i % 3); width = 18 }

abbrev pub count_place : Place
count_place = record { word = 22; shift = 18; width = 7 }

-- hops at positions 1 to 63, five to a word
abbrev pub hop_place : ℕ → Place
hop_place i = record { word = 23 + i / 5; shift = 12 * (i % 5); width = 12 }

-- ---- of a node's own words

-- the number at a place, and the words with another number there
abbrev pub read_in : List ℕ → Place → ℕ
read_in node p = field p.width p.shift (get_or node p.word 0)

abbrev pub put_in : List ℕ → Place → ℕ → List ℕ
put_in node p v = set node p.word (with_field p.width p.shift (get_or node p.word 0) v)

-- the fields of the node
abbrev pub fields_of : List ℕ → Node
fields_of node = record {
  bitmap = get_or node 0 0;
  count = read_in node count_place;
  child = λ i. read_in node (child_place i);
  hop = λ i. read_in node (hop_place i);
}

-- ---- of all words

-- the whole nodes in the words, at most 262,144
abbrev pub size_of : List ℕ → ℕ
size_of words = min (length words / 36) most_nodes

-- word w of node n, and the words with another one there
abbrev pub word_at : List ℕ → ℕ → ℕ → ℕ
word_at words n w = get_or words (36 * n + w) 0

abbrev pub set_word : List ℕ → ℕ → ℕ → ℕ → List ℕ
set_word words n w x = set words (36 * n + w) x

-- the number at a place of node n, and the words with another number there
abbrev pub read_at : List ℕ → ℕ → Place → ℕ
read_at words n p = field p.width p.shift (word_at words n p.word)

abbrev pub put_at : List ℕ → ℕ → Place → ℕ → List ℕ
put_at words n p v = set_word words n p.word (with_field p.width p.shift (word_at words n p.word) v)

-- what the memory holds; whatever is outside reads 0
abbrev pub nodes_of : List ℕ → Nodes
nodes_of words = record {
  size = size_of words;
  bitmap = λ n. cond (nat_lt n (size_of words)) (word_at words n 0) 0;
  count = λ n. cond (nat_lt n (size_of words)) (read_at words n count_place) 0;
  child = λ n i. cond (nat_lt n (size_of words) && nat_lt i 64) (read_at words n (child_place i)) 0;
  hop = λ n i. cond (nat_lt n (size_of words) && (nat_le 1 i && nat_lt i 64)) (read_at words n (hop_place i)) 0;
}

-- ---- what a write leaves of the words: one of them changed, or all as they were where the write is refused
module _ (words : List ℕ) where
  abbrev pub words_after_bitmap : ℕ → ℕ → List ℕ
  words_after_bitmap n v = cond (is_node (nodes_of words) n && fits_bitmap v) (set_word words n 0 v) words

  abbrev pub words_after_count : ℕ → ℕ → List ℕ
  words_after_count n v = cond (is_node (nodes_of words) n && fits_count v) (put_at words n count_place v) words

  abbrev pub words_after_child : ℕ → ℕ → ℕ → List ℕ
  words_after_child n i v = cond (is_child (nodes_of words) n i && fits_child (nodes_of words) v) (put_at words n (child_place i) v) words

  abbrev pub words_after_hop : ℕ → ℕ → ℕ → List ℕ
  words_after_hop n i v = cond (is_hop (nodes_of words) n i && fits_hop v) (put_at words n (hop_place i) v) words
