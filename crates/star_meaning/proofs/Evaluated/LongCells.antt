-- The longer cells, statement by statement.
use Rattle.std.proofs.Common.{◌≡◌, ℕ, zero, suc, ◌+◌, ◌-◌, pos, List, [], ◌∷◌, refl, arith}
use Rattle.std.proofs.lemmas.Bool.Decides.{nat_tests}
use Rattle.std.specs.Prelude.{Some, None, true, false, nat_lt, codes}
use Rattle.star_meaning.proofs.Equations.{layers, out_list, values_shown, statement_line, meant_primary, statement_for, meant_name, out_dict, weight_dict, weight_text, value_text, def_line, def_for}
use Rattle.star_meaning.specs.State.{object, list}
use Rattle.star_meaning.specs.Steps.{charge}
use Rattle.star_meaning.specs.Showing.{made}
use Rattle.star_syntax.specs.CellParts.{CellParts}
use Rattle.star_value.specs.declared.failure.Failure.TheVariants as failure
use Rattle.star_value.specs.declared.key.Key.{Key}
use Rattle.star_value.specs.declared.key.Key.TheVariants as key
use Rattle.star_value.specs.declared.value.Value.{Value}
use Rattle.star_value.specs.declared.value.Value.TheVariants as value
use Rattle.star_meaning.specs.declared.flow.Flow.TheVariants as flow
use Rattle.star_meaning.specs.State.{Object, State, AList, ADict}
use Rattle.star_meaning.specs.Steps.{Went, Failed}
use Rattle.star_meaning.specs.World.{World}
use Rattle.star_meaning.specs.Showing.{Naming, quoted_in}
use Rattle.star_meaning.specs.Expressions.{Setting, Callee, meant}
use Rattle.star_meaning.specs.Statements.{statement_of}
use Rattle.star_meaning.specs.Trees.{name}
use Rattle.star_meaning.specs.Rows.LongCells.{LongCells, x_made, y_made, x_extended, x_joined, both_printed, sales_made, total_made, total_raised, sales_added, total_shown, words, fields, joined, replaced, stripped_text, formatted_text, rest, popped, less, all_printed}
use Rattle.star_meaning.proofs.Opened.{evaluation}
use Rattle.star_meaning.proofs.OneCell.{one_cell}

-- a world at the outermost level of a cell
abbrev at : List (List ℕ × Value) → List (Object CellParts) → List ℕ → List ℕ → ℕ → World CellParts
at globals objects locked out left = record { store = record { state = record { globals = globals; objects = objects }; left = left }; frame = record { blocks = []; active = []; locked = locked }; out = out }

abbrev pairs : List (Key × Value)
pairs = (key.Text (codes "north"), value.Int (pos 3)) ∷ (key.Text (codes "south"), value.Int (pos 5)) ∷ []

abbrev sales_is : List ℕ × Value
sales_is = (codes "sales", value.Dict 0)

abbrev total_is : ℕ → List ℕ × Value
total_is n = (codes "total", value.Int (pos n))

module _ (st : Setting CellParts) (call : Callee CellParts) where
  dict_made : statement_of st call sales_made false (Some 0) (at [] [] [] [] 999999) ≡ Went flow.On (at (sales_is ∷ []) (ADict pairs ∷ []) [] [] 999971)
  unfolding evaluation
  dict_made = simp layers

  total_zero : statement_of st call total_made false (Some 0) (at (sales_is ∷ []) (ADict pairs ∷ []) [] [] 999971) ≡ Went flow.On (at (sales_is ∷ total_is 0 ∷ []) (ADict pairs ∷ []) [] [] 999969)
  unfolding evaluation
  total_zero = simp layers

  north : statement_of st call total_raised false None (at ((codes "k", value.Text (codes "north")) ∷ sales_is ∷ total_is 0 ∷ []) (ADict pairs ∷ []) (0 ∷ []) [] 999961)
      ≡ Went flow.On (at ((codes "k", value.Text (codes "north")) ∷ sales_is ∷ total_is 3 ∷ []) (ADict pairs ∷ []) (0 ∷ []) [] 999944)
  unfolding evaluation
  north = simp layers

  south : statement_of st call total_raised false None (at ((codes "k", value.Text (codes "south")) ∷ sales_is ∷ total_is 3 ∷ []) (ADict pairs ∷ []) (0 ∷ []) [] 999938)
      ≡ Went flow.On (at ((codes "k", value.Text (codes "south")) ∷ sales_is ∷ total_is 8 ∷ []) (ADict pairs ∷ []) (0 ∷ []) [] 999921)
  unfolding evaluation
  south = simp layers

  added : statement_of st call sales_added false (Some 0) (at (sales_is ∷ total_is 0 ∷ []) (ADict pairs ∷ []) [] [] 999969)
      ≡ Went flow.On (at ((codes "k", value.Text (codes "south")) ∷ sales_is ∷ total_is 8 ∷ []) (ADict pairs ∷ []) [] [] 999921)
  unfolding evaluation
  added = simp (statement_for, north, south, meant_name, out_dict, weight_dict, weight_text, value_text)

  shown_last : statement_of st call total_shown true (Some 0) (at ((codes "k", value.Text (codes "south")) ∷ sales_is ∷ total_is 8 ∷ []) (ADict pairs ∷ []) [] [] 999921)
      ≡ Went flow.On (at ((codes "k", value.Text (codes "south")) ∷ sales_is ∷ total_is 8 ∷ []) (ADict pairs ∷ []) [] (codes "8\n") 999917)
  unfolding evaluation
  shown_last = simp layers

  words_is : (meant st call words).value (at [] [] [] [] 999997) ≡ Went (value.List 0) (at [] (AList (value.Text (codes "a") ∷ value.Text (codes "b") ∷ []) ∷ []) [] [] 999985)
  unfolding evaluation
  words_is = simp layers

  fields_is : (meant st call fields).value (at [] (AList (value.Text (codes "a") ∷ value.Text (codes "b") ∷ []) ∷ []) [] [] 999985) ≡ Went (value.List 1) (at [] (AList (value.Text (codes "a") ∷ value.Text (codes "b") ∷ []) ∷ AList (value.Text (codes "a") ∷ value.Text (codes "b") ∷ []) ∷ []) [] [] 999971)
  unfolding evaluation
  fields_is = simp layers

  joined_is : (meant st call joined).value (at [] (AList (value.Text (codes "a") ∷ value.Text (codes "b") ∷ []) ∷ AList (value.Text (codes "a") ∷ value.Text (codes "b") ∷ []) ∷ []) [] [] 999971) ≡ Went (value.Text (codes "a,b")) (at [] (AList (value.Text (codes "a") ∷ value.Text (codes "b") ∷ []) ∷ AList (value.Text (codes "a") ∷ value.Text (codes "b") ∷ []) ∷ AList (value.Text (codes "a") ∷ value.Text (codes "b") ∷ []) ∷ []) [] [] 999956)
  unfolding evaluation
  joined_is = simp layers

  replaced_is : (meant st call replaced).value (at [] (AList (value.Text (codes "a") ∷ value.Text (codes "b") ∷ []) ∷ AList (value.Text (codes "a") ∷ value.Text (codes "b") ∷ []) ∷ AList (value.Text (codes "a") ∷ value.Text (codes "b") ∷ []) ∷ []) [] [] 999956) ≡ Went (value.Text (codes "cbc")) (at [] (AList (value.Text (codes "a") ∷ value.Text (codes "b") ∷ []) ∷ AList (value.Text (codes "a") ∷ value.Text (codes "b") ∷ []) ∷ AList (value.Text (codes "a") ∷ value.Text (codes "b") ∷ []) ∷ []) [] [] 999941)
  unfolding evaluation
  replaced_is = simp layers

  stripped_text_is : (meant st call stripped_text).value (at [] (AList (value.Text (codes "a") ∷ value.Text (codes "b") ∷ []) ∷ AList (value.Text (codes "a") ∷ value.Text (codes "b") ∷ []) ∷ AList (value.Text (codes "a") ∷ value.Text (codes "b") ∷ []) ∷ []) [] [] 999941) ≡ Went (value.Text (codes "x")) (at [] (AList (value.Text (codes "a") ∷ value.Text (codes "b") ∷ []) ∷ AList (value.Text (codes "a") ∷ value.Text (codes "b") ∷ []) ∷ AList (value.Text (codes "a") ∷ value.Text (codes "b") ∷ []) ∷ []) [] [] 999932)
  unfolding evaluation
  stripped_text_is = simp layers

  formatted_text_is : (meant st call formatted_text).value (at [] (AList (value.Text (codes "a") ∷ value.Text (codes "b") ∷ []) ∷ AList (value.Text (codes "a") ∷ value.Text (codes "b") ∷ []) ∷ AList (value.Text (codes "a") ∷ value.Text (codes "b") ∷ []) ∷ []) [] [] 999932) ≡ Went (value.Text (codes "1")) (at [] (AList (value.Text (codes "a") ∷ value.Text (codes "b") ∷ []) ∷ AList (value.Text (codes "a") ∷ value.Text (codes "b") ∷ []) ∷ AList (value.Text (codes "a") ∷ value.Text (codes "b") ∷ []) ∷ []) [] [] 999925)
  unfolding evaluation
  formatted_text_is = simp layers

  rest_is : (meant st call rest).value (at [] (AList (value.Text (codes "a") ∷ value.Text (codes "b") ∷ []) ∷ AList (value.Text (codes "a") ∷ value.Text (codes "b") ∷ []) ∷ AList (value.Text (codes "a") ∷ value.Text (codes "b") ∷ []) ∷ []) [] [] 999925) ≡ Went (value.Tuple (value.Int (pos 2) ∷ value.Int (pos 3) ∷ [])) (at [] (AList (value.Text (codes "a") ∷ value.Text (codes "b") ∷ []) ∷ AList (value.Text (codes "a") ∷ value.Text (codes "b") ∷ []) ∷ AList (value.Text (codes "a") ∷ value.Text (codes "b") ∷ []) ∷ []) [] [] 999914)
  unfolding evaluation
  rest_is = simp layers

  popped_is : (meant st call popped).value (at [] (AList (value.Text (codes "a") ∷ value.Text (codes "b") ∷ []) ∷ AList (value.Text (codes "a") ∷ value.Text (codes "b") ∷ []) ∷ AList (value.Text (codes "a") ∷ value.Text (codes "b") ∷ []) ∷ []) [] [] 999914) ≡ Went (value.Int (pos 1)) (at [] (AList (value.Text (codes "a") ∷ value.Text (codes "b") ∷ []) ∷ AList (value.Text (codes "a") ∷ value.Text (codes "b") ∷ []) ∷ AList (value.Text (codes "a") ∷ value.Text (codes "b") ∷ []) ∷ ADict [] ∷ []) [] [] 999903)
  unfolding evaluation
  popped_is = simp layers

  less_is : (meant st call less).value (at [] (AList (value.Text (codes "a") ∷ value.Text (codes "b") ∷ []) ∷ AList (value.Text (codes "a") ∷ value.Text (codes "b") ∷ []) ∷ AList (value.Text (codes "a") ∷ value.Text (codes "b") ∷ []) ∷ ADict [] ∷ []) [] [] 999903) ≡ Went (value.Bool true) (at [] (AList (value.Text (codes "a") ∷ value.Text (codes "b") ∷ []) ∷ AList (value.Text (codes "a") ∷ value.Text (codes "b") ∷ []) ∷ AList (value.Text (codes "a") ∷ value.Text (codes "b") ∷ []) ∷ ADict [] ∷ []) [] [] 999889)
  unfolding evaluation
  less_is = simp layers

  all_is : statement_of st call all_printed true (Some 0) (at [] [] [] [] 999999) ≡ Went flow.On (at [] (AList (value.Text (codes "a") ∷ value.Text (codes "b") ∷ []) ∷ AList (value.Text (codes "a") ∷ value.Text (codes "b") ∷ []) ∷ AList (value.Text (codes "a") ∷ value.Text (codes "b") ∷ []) ∷ ADict [] ∷ []) [] (codes "[\"a\", \"b\"] [\"a\", \"b\"] a,b cbc x 1 (2, 3) 1 True\n") 999840)
  unfolding evaluation
  all_is = simp (words_is, fields_is, joined_is, replaced_is, stripped_text_is, formatted_text_is, rest_is, popped_is, less_is, statement_line, meant_primary st call (name (codes "print")), meant_name st call (codes "print"), values_shown)

  x_made_is : statement_of st call x_made false (Some 0) (at [] [] [] [] 999999) ≡ Went flow.On (at ((codes "x", value.List 0) ∷ []) (AList (value.Int (pos 1) ∷ []) ∷ []) [] [] 999996)
  unfolding evaluation
  x_made_is = simp layers

  y_made_is : statement_of st call y_made false (Some 0) (at ((codes "x", value.List 0) ∷ []) (AList (value.Int (pos 1) ∷ []) ∷ []) [] [] 999996) ≡ Went flow.On (at ((codes "x", value.List 0) ∷ (codes "y", value.List 0) ∷ []) (AList (value.Int (pos 1) ∷ []) ∷ []) [] [] 999994)
  unfolding evaluation
  y_made_is = simp layers

  x_extended_is : statement_of st call x_extended false (Some 0) (at ((codes "x", value.List 0) ∷ (codes "y", value.List 0) ∷ []) (AList (value.Int (pos 1) ∷ []) ∷ []) [] [] 999994) ≡ Went flow.On (at ((codes "x", value.List 0) ∷ (codes "y", value.List 0) ∷ []) (AList (value.Int (pos 1) ∷ value.Int (pos 2) ∷ []) ∷ AList (value.Int (pos 2) ∷ []) ∷ []) [] [] 999988)
  unfolding evaluation
  x_extended_is = simp layers

  x_joined_is : statement_of st call x_joined false (Some 0) (at ((codes "x", value.List 0) ∷ (codes "y", value.List 0) ∷ []) (AList (value.Int (pos 1) ∷ value.Int (pos 2) ∷ []) ∷ AList (value.Int (pos 2) ∷ []) ∷ []) [] [] 999988) ≡ Went flow.On (at ((codes "x", value.List 3) ∷ (codes "y", value.List 0) ∷ []) (AList (value.Int (pos 1) ∷ value.Int (pos 2) ∷ []) ∷ AList (value.Int (pos 2) ∷ []) ∷ AList (value.Int (pos 3) ∷ []) ∷ AList (value.Int (pos 1) ∷ value.Int (pos 2) ∷ value.Int (pos 3) ∷ []) ∷ []) [] [] 999980)
  unfolding evaluation
  x_joined_is = simp layers

  both_printed_is : statement_of st call both_printed true (Some 0) (at ((codes "x", value.List 3) ∷ (codes "y", value.List 0) ∷ []) (AList (value.Int (pos 1) ∷ value.Int (pos 2) ∷ []) ∷ AList (value.Int (pos 2) ∷ []) ∷ AList (value.Int (pos 3) ∷ []) ∷ AList (value.Int (pos 1) ∷ value.Int (pos 2) ∷ value.Int (pos 3) ∷ []) ∷ []) [] [] 999980) ≡ Went flow.On (at ((codes "x", value.List 3) ∷ (codes "y", value.List 0) ∷ []) (AList (value.Int (pos 1) ∷ value.Int (pos 2) ∷ []) ∷ AList (value.Int (pos 2) ∷ []) ∷ AList (value.Int (pos 3) ∷ []) ∷ AList (value.Int (pos 1) ∷ value.Int (pos 2) ∷ value.Int (pos 3) ∷ []) ∷ []) [] (codes "[1, 2, 3] [1, 2]\n") 999958)
  unfolding evaluation
  both_printed_is = simp layers

-- ---- a list that is its own item

abbrev looped : State CellParts
looped = record { globals = (codes "x", value.List 0) ∷ []; objects = AList (value.List 0 ∷ []) ∷ [] }

charge_one : (k n : ℕ) → charge 1 (record { state = looped; left = k + suc n }) ≡ Went tt (record { state = looped; left = k + n })
unfolding charge
charge_one k n =
    let enough : nat_lt (k + suc n) 1 ≡ false = grind (arith, nat_tests) in
    let less : k + suc n - 1 ≡ k + n = omega arith in
    rw (enough, less) refl

-- a bracket for each container that may still nest
deep : (naming : Naming CellParts) (n k : ℕ) → quoted_in naming n (value.List 0) (record { state = looped; left = k + n }) ≡ Failed failure.TooDeep (record { state = looped; left = k })
unfolding quoted_in list object made
deep naming zero k = let same : k + 0 ≡ k = omega arith in rw (out_list 0, same) refl
deep naming (suc n) k = rw (out_list 0, charge_one k n, deep naming n k) refl

deep_64 : (naming : Naming CellParts) → quoted_in naming 64 (value.List 0) (record { state = looped; left = 999995 }) ≡ Failed failure.TooDeep (record { state = looped; left = 999931 })
deep_64 naming = deep naming 64 999931

pub long_cells_hold : LongCells
unfolding evaluation
long_cells_hold = record {
  sales = one_cell (λ st call. simp (dict_made, total_zero, added, shown_last, def_line, def_for));
  many = one_cell (λ st call. simp all_is);
  extended_and_joined = one_cell (λ st call. simp (x_made_is, y_made_is, x_extended_is, x_joined_is, both_printed_is, def_line));
  itself_printed = record { hold = simp (deep_64, layers) };
}
