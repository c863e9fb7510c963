-- Examples of texts, by computing.
use Rattle.std.proofs.Common.{◌≡◌, ℕ, List, [], ◌∷◌, Some, None, codes, refl}
use Rattle.std.specs.Fmt.{digits}
use Rattle.text.specs.Colons.{low_groups, groups, hex, written, zeros, longest, first_run, colons}
use Rattle.text.specs.Words.{hexadecimal, word, words, numbers, side, parts, read_colons}

eight : ℕ → ℕ → ℕ → ℕ → ℕ → ℕ → ℕ → ℕ → List ℕ
eight a b c d e f g h = a ∷ b ∷ c ∷ d ∷ e ∷ f ∷ g ∷ h ∷ []

-- ---- groups

most_significant_first : groups 0x20010db800000000 1 ≡ eight 0x2001 0xdb8 0 0 0 0 0 1
unfolding groups low_groups eight
most_significant_first = refl

-- ---- written

all_zeros : colons (eight 0 0 0 0 0 0 0 0) ≡ codes "::"
unfolding colons longest zeros first_run written hex digits eight
all_zeros = refl

one_at_the_end : colons (eight 0 0 0 0 0 0 0 1) ≡ codes "::1"
unfolding colons longest zeros first_run written hex digits eight
one_at_the_end = refl

run_at_the_end : colons (eight 0xfe80 0 0 0 0 0 0 0) ≡ codes "fe80::"
unfolding colons longest zeros first_run written hex digits eight
run_at_the_end = refl

run_in_the_middle : colons (eight 1 0 0 0 0 0 0 8) ≡ codes "1::8"
unfolding colons longest zeros first_run written hex digits eight
run_in_the_middle = refl

five_zeros : colons (eight 0x2001 0xdb8 0 0 0 0 0 1) ≡ codes "2001:db8::1"
unfolding colons longest zeros first_run written hex digits eight
five_zeros = refl

single_zero_stays : colons (eight 0x2001 0xdb8 0 1 1 1 1 1) ≡ codes "2001:db8:0:1:1:1:1:1"
unfolding colons longest zeros first_run written hex digits eight
single_zero_stays = refl

longer_run_later : colons (eight 0x2001 0 0 1 0 0 0 1) ≡ codes "2001:0:0:1::1"
unfolding colons longest zeros first_run written hex digits eight
longer_run_later = refl

first_of_equal_runs : colons (eight 0x2001 0xdb8 0 0 1 0 0 1) ≡ codes "2001:db8::1:0:0:1"
unfolding colons longest zeros first_run written hex digits eight
first_of_equal_runs = refl

lower_case : colons (eight 0xabcd 0xef01 0x2345 0x6789 0xabcd 0xef01 0x2345 0x6789) ≡ codes "abcd:ef01:2345:6789:abcd:ef01:2345:6789"
unfolding colons longest zeros first_run written hex digits eight
lower_case = refl

-- ---- read

either_case : read_colons (codes "2001:DB8::1") ≡ Some (eight 0x2001 0xdb8 0 0 0 0 0 1)
unfolding read_colons parts side numbers words word hexadecimal eight
either_case = refl

leading_zeros : read_colons (codes "0001:02:003:4:5:6:7:8") ≡ Some (eight 1 2 3 4 5 6 7 8)
unfolding read_colons parts side numbers words word hexadecimal eight
leading_zeros = refl

only_colons : read_colons (codes "::") ≡ Some (eight 0 0 0 0 0 0 0 0)
unfolding read_colons parts side numbers words word hexadecimal eight
only_colons = refl

one_group_left_out : read_colons (codes "1:2:3:4:5:6:7::") ≡ Some (eight 1 2 3 4 5 6 7 0)
unfolding read_colons parts side numbers words word hexadecimal eight
one_group_left_out = refl

embedded_zeros : read_colons (codes "1:0:0:2::3") ≡ Some (eight 1 0 0 2 0 0 0 3)
unfolding read_colons parts side numbers words word hexadecimal eight
embedded_zeros = refl

-- ---- not read

nothing : read_colons (codes "") ≡ None
unfolding read_colons parts side numbers words word hexadecimal
nothing = refl

one_colon : read_colons (codes ":") ≡ None
unfolding read_colons parts side numbers words word hexadecimal
one_colon = refl

three_colons : read_colons (codes ":::") ≡ None
unfolding read_colons parts side numbers words word hexadecimal
three_colons = refl

two_runs : read_colons (codes "1::2::3") ≡ None
unfolding read_colons parts side numbers words word hexadecimal
two_runs = refl

five_digits : read_colons (codes "12345::") ≡ None
unfolding read_colons parts side numbers words word hexadecimal
five_digits = refl

seven_groups : read_colons (codes "1:2:3:4:5:6:7") ≡ None
unfolding read_colons parts side numbers words word hexadecimal
seven_groups = refl

nine_groups : read_colons (codes "1:2:3:4:5:6:7:8:9") ≡ None
unfolding read_colons parts side numbers words word hexadecimal
nine_groups = refl

no_group_left_out : read_colons (codes "1:2:3:4::5:6:7:8") ≡ None
unfolding read_colons parts side numbers words word hexadecimal
no_group_left_out = refl

dotted_tail : read_colons (codes "::1.2.3.4") ≡ None
unfolding read_colons parts side numbers words word hexadecimal
dotted_tail = refl

space : read_colons (codes " ::1") ≡ None
unfolding read_colons parts side numbers words word hexadecimal
space = refl

colon_at_the_end : read_colons (codes "1:2:3:4:5:6:7:8:") ≡ None
unfolding read_colons parts side numbers words word hexadecimal
colon_at_the_end = refl

colon_at_the_front : read_colons (codes ":1:2:3:4:5:6:7:8") ≡ None
unfolding read_colons parts side numbers words word hexadecimal
colon_at_the_front = refl

colon_after_run : read_colons (codes "1::2:") ≡ None
unfolding read_colons parts side numbers words word hexadecimal
colon_after_run = refl

zone : read_colons (codes "fe80::1%1") ≡ None
unfolding read_colons parts side numbers words word hexadecimal
zone = refl

no_digit : read_colons (codes "g::") ≡ None
unfolding read_colons parts side numbers words word hexadecimal
no_digit = refl
