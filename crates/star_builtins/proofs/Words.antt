-- The code points of texts that stand in the code.
use Rattle.std.proofs.Common.{◌≡◌, ℕ, ℤ, List, ◌++◌, refl}
use Rattle.std.specs.Prelude.{codes}
use Rattle.std.specs.Fmt.{signed_decimal}
use Rattle.std.specs.Str.{chars}
use Rattle.star_value.specs.declared.range.Range.{Range}
use Rattle.star_meaning.specs.Showing.{range_text}
use Rattle.star_builtins.specs.Pieces.{with_step}

pub chars_range_open : chars (codes "range(") ≡ codes "range("
unfolding chars
chars_range_open = refl

pub chars_comma : chars (codes ", ") ≡ codes ", "
unfolding chars
chars_comma = refl

pub chars_close : chars (codes ")") ≡ codes ")"
unfolding chars
chars_close = refl

pub chars_function_open : chars (codes "<function ") ≡ codes "<function "
unfolding chars
chars_function_open = refl

pub chars_angle_close : chars (codes ">") ≡ codes ">"
unfolding chars
chars_angle_close = refl

pub chars_builtin_open : chars (codes "<builtin ") ≡ codes "<builtin "
unfolding chars
chars_builtin_open = refl

pub chars_none : chars (codes "None") ≡ codes "None"
unfolding chars
chars_none = refl

pub chars_true : chars (codes "True") ≡ codes "True"
unfolding chars
chars_true = refl

pub chars_false : chars (codes "False") ≡ codes "False"
unfolding chars
chars_false = refl

pub chars_list_open : chars (codes "[") ≡ codes "["
unfolding chars
chars_list_open = refl

pub chars_list_close : chars (codes "]") ≡ codes "]"
unfolding chars
chars_list_close = refl

pub chars_tuple_open : chars (codes "(") ≡ codes "("
unfolding chars
chars_tuple_open = refl

pub chars_one_close : chars (codes ",)") ≡ codes ",)"
unfolding chars
chars_one_close = refl

pub chars_dict_open : chars (codes "{") ≡ codes "{"
unfolding chars
chars_dict_open = refl

pub chars_dict_close : chars (codes "}") ≡ codes "}"
unfolding chars
chars_dict_close = refl

pub chars_colon : chars (codes ": ") ≡ codes ": "
unfolding chars
chars_colon = refl

pub chars_of_abs : chars (codes "abs") ≡ codes "abs"
unfolding chars
chars_of_abs = refl

pub chars_of_all : chars (codes "all") ≡ codes "all"
unfolding chars
chars_of_all = refl

pub chars_of_any : chars (codes "any") ≡ codes "any"
unfolding chars
chars_of_any = refl

pub chars_of_bool : chars (codes "bool") ≡ codes "bool"
unfolding chars
chars_of_bool = refl

pub chars_of_dict : chars (codes "dict") ≡ codes "dict"
unfolding chars
chars_of_dict = refl

pub chars_of_enumerate : chars (codes "enumerate") ≡ codes "enumerate"
unfolding chars
chars_of_enumerate = refl

pub chars_of_int : chars (codes "int") ≡ codes "int"
unfolding chars
chars_of_int = refl

pub chars_of_len : chars (codes "len") ≡ codes "len"
unfolding chars
chars_of_len = refl

pub chars_of_list : chars (codes "list") ≡ codes "list"
unfolding chars
chars_of_list = refl

pub chars_of_max : chars (codes "max") ≡ codes "max"
unfolding chars
chars_of_max = refl

pub chars_of_min : chars (codes "min") ≡ codes "min"
unfolding chars
chars_of_min = refl

pub chars_of_print : chars (codes "print") ≡ codes "print"
unfolding chars
chars_of_print = refl

pub chars_of_range : chars (codes "range") ≡ codes "range"
unfolding chars
chars_of_range = refl

pub chars_of_repr : chars (codes "repr") ≡ codes "repr"
unfolding chars
chars_of_repr = refl

pub chars_of_reversed : chars (codes "reversed") ≡ codes "reversed"
unfolding chars
chars_of_reversed = refl

pub chars_of_sorted : chars (codes "sorted") ≡ codes "sorted"
unfolding chars
chars_of_sorted = refl

pub chars_of_str : chars (codes "str") ≡ codes "str"
unfolding chars
chars_of_str = refl

pub chars_of_tuple : chars (codes "tuple") ≡ codes "tuple"
unfolding chars
chars_of_tuple = refl

pub chars_of_type : chars (codes "type") ≡ codes "type"
unfolding chars
chars_of_type = refl

pub chars_of_zip : chars (codes "zip") ≡ codes "zip"
unfolding chars
chars_of_zip = refl

pub ruleset words = (chars_range_open, chars_comma, chars_close, chars_function_open, chars_angle_close, chars_builtin_open, chars_none, chars_true, chars_false, chars_list_open, chars_list_close, chars_tuple_open, chars_one_close, chars_dict_open, chars_dict_close, chars_colon)

pub ruleset builtins = (chars_of_abs, chars_of_all, chars_of_any, chars_of_bool, chars_of_dict, chars_of_enumerate, chars_of_int, chars_of_len, chars_of_list, chars_of_max, chars_of_min, chars_of_print, chars_of_range, chars_of_repr, chars_of_reversed, chars_of_sorted, chars_of_str, chars_of_tuple, chars_of_type, chars_of_zip)

pub range_is : (r : Range) → range_text r ≡ with_step (codes "range(" ++ signed_decimal r.start ++ codes ", " ++ signed_decimal r.stop) r.step
unfolding range_text with_step
range_is r = refl

pub range_made : (r : Range) (a b d : ℤ) (front comma first second third whole : List ℕ) → a ≡ r.start → b ≡ r.stop → d ≡ r.step → front ≡ codes "range(" → comma ≡ codes ", "
    → first ≡ front ++ signed_decimal a → second ≡ first ++ comma → third ≡ second ++ signed_decimal b → whole ≡ with_step third d → whole ≡ range_text r
range_made r a b d front comma first second third whole ra rb rd f c e1 e2 e3 e4 = rw (e4, e3, e2, e1, f, c, ra, rb, rd, range_is r) refl
