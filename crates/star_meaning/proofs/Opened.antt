-- What is opened where a cell is evaluated.
use Rattle.std.specs.Prelude.{ℕ}
use Rattle.std.specs.Fmt.{digits}
use Rattle.star_syntax.specs.Placement.{is_input}
use Rattle.star_value.specs.Texts.{find as text_find, pieces as text_pieces, split_white, stripped}
use Rattle.star_value.specs.Format.{parts_of as format_parts}
use Rattle.star_meaning.specs.State.{global, object, list, dict, function, set_global, next_id, with_new, with_list, with_dict, dict_get, dict_put, dict_without}
use Rattle.star_meaning.specs.Steps.{charge}
use Rattle.star_meaning.specs.Values.{in_range, place_of, integers_of, range_gives, is_true, items_in, items_of, new_tuple, new_list, new_dict, new_function, builtin_of, builtin_name, type_name}
use Rattle.star_meaning.specs.Comparing.{own_part, equal, by_order, search_in, within, compare as compare_values}
use Rattle.star_meaning.specs.Builtins.{sorted_items, len, read_int, range, zip, extreme, call_builtin}
use Rattle.star_meaning.specs.Showing.{made, quoted_text, range_text, quoted, shown}
use Rattle.star_meaning.specs.Operators.{binary, unary, index, taken, slice, check_unlocked, store, extend, augmented, unpacked}
use Rattle.star_meaning.specs.Methods.{call_method}
use Rattle.star_meaning.specs.World.{located, acting, operation, write, look_up, bind, distinct, in_block, locking, in_function}
use Rattle.star_meaning.specs.Expressions.{values, named_values, store_items, next_item, loop_over, list_turn, dict_turn, read_input, called, method_called, store_at}
use Rattle.star_meaning.specs.Statements.{echo, kind_of, small_of, repeated, defined, filled, local_block, run_body}
use Rattle.star_meaning.specs.Cells.{run, ran, runs}

-- a definition whose `unfolding` line names what is opened
unfoldable pub turning : ℕ
unfolding lib.Utf8.encode digits is_input text_find text_pieces split_white stripped format_parts global object list dict function set_global next_id with_new with_list with_dict dict_get dict_without charge in_range place_of integers_of range_gives is_true items_in items_of new_tuple new_list new_dict new_function builtin_of builtin_name type_name own_part equal by_order search_in within compare_values sorted_items len read_int range zip extreme call_builtin made quoted_text range_text quoted shown binary unary index taken slice check_unlocked store extend augmented unpacked call_method located acting operation write look_up bind distinct in_block locking in_function values named_values store_items next_item loop_over list_turn read_input called method_called store_at echo kind_of small_of repeated defined filled local_block run_body run ran runs
turning = 0

-- the same, with the turns of dict comprehensions and what they put
unfoldable pub evaluation : ℕ
unfolding turning dict_put dict_turn
evaluation = 0
