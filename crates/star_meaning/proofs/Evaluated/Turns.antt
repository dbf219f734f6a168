-- Comprehensions and loops, turn by turn.
use Rattle.std.proofs.Common.{◌≡◌, ℕ, pos, List, [], ◌∷◌, ◌++◌, refl, ap}
use Rattle.std.specs.Prelude.{Some, None, true, false, codes}
use Rattle.star_meaning.proofs.Equations.{layers, statement_line, statement_for, meant_listover, meant_dictover, meant_name, same_text, out_key_text, values_shown, def_for}
use Rattle.star_meaning.specs.State.{dict_put}
use Rattle.star_meaning.specs.World.{bind}
use Rattle.star_meaning.specs.Expressions.{dict_turn}
use Rattle.star_syntax.specs.CellParts.{CellParts}
use Rattle.star_value.specs.declared.key.Key.{Key}
use Rattle.star_value.specs.declared.key.Key.TheVariants as key
use Rattle.star_value.specs.declared.value.Value.{Value}
use Rattle.star_value.specs.declared.value.Value.TheVariants as value
use Rattle.star_meaning.specs.declared.flow.Flow.TheVariants as flow
use Rattle.star_meaning.specs.State.{Object, AList, ADict}
use Rattle.star_meaning.specs.Steps.{Went}
use Rattle.star_meaning.specs.World.{World, Block}
use Rattle.star_meaning.specs.Expressions.{Setting, Callee, meant}
use Rattle.star_meaning.specs.Statements.{statement_of}
use Rattle.star_syntax.specs.declared.statement.SmallKind.TheVariants as small
use Rattle.star_meaning.specs.Trees.{int, line, name, called as called_tree}
use Rattle.star_meaning.specs.Rows.Turns.{Turns, numbers, is_other, square, squares, letters, zeros, one_pair, both, sums, passed_over, broken_off, counted, i_shown}
use Rattle.star_syntax.specs.declared.expression.Clause.TheVariants as clause
use Rattle.star_meaning.proofs.Opened.{evaluation, turning}
use Rattle.star_meaning.proofs.OneCell.{one_cell}

-- a world of a comprehension, and one at the outermost level
abbrev inside : List Block → List (Object CellParts) → List ℕ → ℕ → World CellParts
inside blocks objects locked left = record { store = record { state = record { globals = []; objects = objects }; left = left }; frame = record { blocks = blocks; active = []; locked = locked }; out = [] }

abbrev at : List (List ℕ × Value) → List ℕ → ℕ → World CellParts
at globals out left = record { store = record { state = record { globals = globals; objects = [] }; left = left }; frame = record { blocks = []; active = []; locked = [] }; out = out }

abbrev x_is : ℕ → List Block
x_is n = ((codes "x", Some (value.Int (pos n))) ∷ []) ∷ []

abbrev three : List (Object CellParts)
three = AList (value.Int (pos 1) ∷ value.Int (pos 2) ∷ value.Int (pos 3) ∷ []) ∷ []

abbrev k_is : List ℕ → List Block
k_is points = ((codes "k", Some (value.Text points)) ∷ []) ∷ []

abbrev three_letters : List (Object CellParts)
three_letters = AList (value.Text (codes "a") ∷ value.Text (codes "b") ∷ value.Text (codes "a") ∷ []) ∷ []

abbrev tuple_in_list : List (Object CellParts)
tuple_in_list = AList (value.Tuple (value.Int (pos 1) ∷ value.Int (pos 2) ∷ []) ∷ []) ∷ []

abbrev i_is : ℕ → List (List ℕ × Value)
i_is n = (codes "i", value.Int (pos n)) ∷ []

abbrev a_is : Key × Value
a_is = (key.Text (codes "a"), value.Int (pos 0))

abbrev b_is : Key × Value
b_is = (key.Text (codes "b"), value.Int (pos 0))

put_first : dict_put [] (key.Text (codes "a")) (value.Int (pos 0)) ≡ a_is ∷ []
unfolding dict_put
put_first = refl

put_second : dict_put (a_is ∷ []) (key.Text (codes "b")) (value.Int (pos 0)) ≡ a_is ∷ b_is ∷ []
unfolding dict_put
put_second = simp (same_text, out_key_text)

put_again : dict_put (a_is ∷ b_is ∷ []) (key.Text (codes "a")) (value.Int (pos 0)) ≡ a_is ∷ b_is ∷ []
unfolding dict_put
put_again = simp (same_text, out_key_text)

module _ (st : Setting CellParts) (call : Callee CellParts) where
  k_named : (meant st call (name (codes "k"))).names ≡ codes "k" ∷ []
  k_named = ap (λ m. m.names) (meant_name st call (codes "k"))

  k_stored : (v : Value) (w : World CellParts) → (meant st call (name (codes "k"))).store v w ≡ bind (codes "k") v w
  k_stored v w = ap (λ m. m.store v w) (meant_name st call (codes "k"))

  numbers_made : (meant st call numbers).value (inside [] [] [] 999998) ≡ Went (value.List 0) (inside [] three [] 999994)
  unfolding evaluation
  numbers_made = simp layers

  other_1 : (meant st call is_other).value (inside (x_is 1) three (0 ∷ []) 999992) ≡ Went (value.Bool true) (inside (x_is 1) three (0 ∷ []) 999988)
  unfolding evaluation
  other_1 = simp layers

  other_2 : (meant st call is_other).value (inside (x_is 2) three (0 ∷ []) 999984) ≡ Went (value.Bool false) (inside (x_is 2) three (0 ∷ []) 999980)
  unfolding evaluation
  other_2 = simp layers

  other_3 : (meant st call is_other).value (inside (x_is 3) three (0 ∷ []) 999979) ≡ Went (value.Bool true) (inside (x_is 3) three (0 ∷ []) 999975)
  unfolding evaluation
  other_3 = simp layers

  square_1 : (meant st call square).value (inside (x_is 1) three (0 ∷ []) 999988) ≡ Went (value.Int (pos 1)) (inside (x_is 1) three (0 ∷ []) 999985)
  unfolding evaluation
  square_1 = simp layers

  square_3 : (meant st call square).value (inside (x_is 3) three (0 ∷ []) 999975) ≡ Went (value.Int (pos 9)) (inside (x_is 3) three (0 ∷ []) 999972)
  unfolding evaluation
  square_3 = simp layers

  squares_made : (meant st call squares).value (inside [] [] [] 999998) ≡ Went (value.List 1) (inside [] (three ++ AList (value.Int (pos 1) ∷ value.Int (pos 9) ∷ []) ∷ []) [] 999972)
  unfolding evaluation
  squares_made = simp (numbers_made, other_1, other_2, other_3, square_1, square_3, meant_listover st call square (clause.For (name (codes "x") ∷ []) numbers ∷ clause.If is_other ∷ []), meant_name st call (codes "x"), values_shown)

  letters_made : (meant st call letters).value (inside [] [] [] 999998) ≡ Went (value.List 0) (inside [] three_letters [] 999991)
  unfolding evaluation
  letters_made = simp layers

  zero_1 : dict_turn (meant st call (name (codes "k"))) (meant st call (int 0)) [] (inside (k_is (codes "a")) three_letters (0 ∷ []) 999988) ≡ Went (a_is ∷ []) (inside (k_is (codes "a")) three_letters (0 ∷ []) 999983)
  unfolding turning dict_turn
  zero_1 = simp (put_first, layers)

  zero_2 : dict_turn (meant st call (name (codes "k"))) (meant st call (int 0)) (a_is ∷ []) (inside (k_is (codes "b")) three_letters (0 ∷ []) 999981) ≡ Went (a_is ∷ b_is ∷ []) (inside (k_is (codes "b")) three_letters (0 ∷ []) 999976)
  unfolding turning dict_turn
  zero_2 = simp (put_second, layers)

  zero_3 : dict_turn (meant st call (name (codes "k"))) (meant st call (int 0)) (a_is ∷ b_is ∷ []) (inside (k_is (codes "a")) three_letters (0 ∷ []) 999974) ≡ Went (a_is ∷ b_is ∷ []) (inside (k_is (codes "a")) three_letters (0 ∷ []) 999969)
  unfolding turning dict_turn
  zero_3 = simp (put_again, layers)

  zeros_made : (meant st call zeros).value (inside [] [] [] 999998) ≡ Went (value.Dict 1) (inside [] (three_letters ++ ADict ((key.Text (codes "a"), value.Int (pos 0)) ∷ (key.Text (codes "b"), value.Int (pos 0)) ∷ []) ∷ []) [] 999969)
  unfolding turning
  zeros_made = simp (letters_made, k_named, k_stored, zero_1, zero_2, zero_3, meant_dictover st call (name (codes "k")) (int 0) (clause.For (name (codes "k") ∷ []) letters ∷ []), values_shown)

  pair_made : (meant st call one_pair).value (inside [] [] [] 999998) ≡ Went (value.List 0) (inside [] tuple_in_list [] 999992)
  unfolding evaluation
  pair_made = simp layers

  both_made : (meant st call both).value (inside (((codes "a", Some (value.Int (pos 1))) ∷ (codes "b", Some (value.Int (pos 2))) ∷ []) ∷ []) tuple_in_list (0 ∷ []) 999986) ≡ Went (value.Int (pos 3)) (inside (((codes "a", Some (value.Int (pos 1))) ∷ (codes "b", Some (value.Int (pos 2))) ∷ []) ∷ []) tuple_in_list (0 ∷ []) 999983)
  unfolding evaluation
  both_made = simp layers

  sums_made : (meant st call sums).value (inside [] [] [] 999998) ≡ Went (value.List 1) (inside [] (tuple_in_list ++ AList (value.Int (pos 3) ∷ []) ∷ []) [] 999983)
  unfolding evaluation
  sums_made = simp (pair_made, both_made, meant_listover st call both (clause.For (name (codes "a") ∷ name (codes "b") ∷ []) one_pair ∷ []), meant_name st call (codes "a"), meant_name st call (codes "b"), values_shown)

  first_0 : statement_of st call passed_over false None (at (i_is 0) [] 999994) ≡ Went flow.On (at (i_is 0) [] 999989)
  unfolding evaluation
  first_0 = simp layers

  second_0 : statement_of st call broken_off false None (at (i_is 0) [] 999989) ≡ Went flow.On (at (i_is 0) [] 999984)
  unfolding evaluation
  second_0 = simp layers

  first_1 : statement_of st call passed_over false None (at (i_is 1) [] 999983) ≡ Went flow.Continue (at (i_is 1) [] 999977)
  unfolding evaluation
  first_1 = simp layers

  first_2 : statement_of st call passed_over false None (at (i_is 2) [] 999976) ≡ Went flow.On (at (i_is 2) [] 999971)
  unfolding evaluation
  first_2 = simp layers

  second_2 : statement_of st call broken_off false None (at (i_is 2) [] 999971) ≡ Went flow.Break (at (i_is 2) [] 999965)
  unfolding evaluation
  second_2 = simp layers

  range_made : (meant st call (called_tree (name (codes "range")) (int 4 ∷ []))).value (at [] [] 999998) ≡ Went (value.Range (record { start = pos 0; stop = pos 4; step = pos 1 })) (at [] [] 999995)
  unfolding evaluation
  range_made = simp layers

  counted_off : statement_of st call counted false (Some 0) (at [] [] 999999) ≡ Went flow.On (at (i_is 2) [] 999965)
  unfolding evaluation
  counted_off = simp (first_0, second_0, first_1, first_2, second_2, range_made, statement_for, meant_name st call (codes "i"), values_shown)

  i_is_shown : statement_of st call i_shown true (Some 0) (at (i_is 2) [] 999965) ≡ Went flow.On (at (i_is 2) (codes "2\n") 999961)
  unfolding evaluation
  i_is_shown = simp layers

  -- a statement that is one expression, whose value is known
  shown_squares : statement_of st call (line 1 (small.Tests (squares ∷ []))) true (Some 0) (inside [] [] [] 999999) ≡ Went flow.On (record (inside [] (three ++ AList (value.Int (pos 1) ∷ value.Int (pos 9) ∷ []) ∷ []) [] 999965) { out = codes "[1, 9]\n" })
  unfolding evaluation
  shown_squares = simp (squares_made, statement_line, values_shown)

  shown_zeros : statement_of st call (line 1 (small.Tests (zeros ∷ []))) true (Some 0) (inside [] [] [] 999999) ≡ Went flow.On (record (inside [] (three_letters ++ ADict ((key.Text (codes "a"), value.Int (pos 0)) ∷ (key.Text (codes "b"), value.Int (pos 0)) ∷ []) ∷ []) [] 999952) { out = codes "{\"a\": 0, \"b\": 0}\n" })
  unfolding evaluation
  shown_zeros = simp (zeros_made, statement_line, values_shown)

  shown_sums : statement_of st call (line 1 (small.Tests (sums ∷ []))) true (Some 0) (inside [] [] [] 999999) ≡ Went flow.On (record (inside [] (tuple_in_list ++ AList (value.Int (pos 3) ∷ []) ∷ []) [] 999979) { out = codes "[3]\n" })
  unfolding evaluation
  shown_sums = simp (sums_made, statement_line, values_shown)

pub turns_hold : Turns
turns_hold = record {
  list_comprehension = one_cell (λ st call. simp shown_squares);
  dict_comprehension = one_cell (λ st call. simp shown_zeros);
  unpacked_turn = one_cell (λ st call. simp shown_sums);
  break_and_continue = one_cell (λ st call. simp (counted_off, i_is_shown, def_for));
}
