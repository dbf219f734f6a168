-- Machine states that small cells reach: which of them are alike, and their bytes.
use Rattle.std.specs.Prelude.{◌≡◌, false, List, [], ◌∷◌, ℕ, pos, codes, length, IsTrue}
use Rattle.star_syntax.specs.declared.expression.Expr.{Expr}
use Rattle.star_syntax.specs.declared.expression.Expr.TheVariants as e
use Rattle.star_syntax.specs.CellParts.{CellParts}
use Rattle.star_syntax.specs.declared.statement.SmallKind.TheVariants as small
use Rattle.star_value.specs.declared.value.Value.TheVariants as value
use Rattle.star_meaning.specs.State.{AList, State, empty}
use Rattle.star_meaning.specs.Cells.{ran}
use Rattle.star_meaning.specs.Trees.{called, cell, done, int, line, method, name}
use Rattle.star_meaning.specs.Validity.{MachineState}
use Rattle.star_meaning.specs.Alike.{Alike, IsAlike}
use Rattle.star_meaning.specs.Snapshot.{IsCanon, is_canonical, state_bytes}

-- one list with two names
abbrev pub one_list : {C : Type 0} → State C
one_list = record { globals = (codes "x", value.List 0) ∷ (codes "y", value.List 0) ∷ []; objects = AList (value.Int (pos 1) ∷ []) ∷ [] }

-- two equal lists
abbrev pub two_lists : {C : Type 0} → State C
two_lists = record { globals = (codes "x", value.List 0) ∷ (codes "y", value.List 1) ∷ []; objects = AList (value.Int (pos 1) ∷ []) ∷ AList (value.Int (pos 1) ∷ []) ∷ [] }

-- two lists, made in one order and in the other
abbrev pub x_first : {C : Type 0} → State C
x_first = record { globals = (codes "x", value.List 0) ∷ (codes "y", value.List 1) ∷ []; objects = AList (value.Int (pos 1) ∷ []) ∷ AList (value.Int (pos 2) ∷ []) ∷ [] }

abbrev pub y_first : {C : Type 0} → State C
y_first = record { globals = (codes "x", value.List 1) ∷ (codes "y", value.List 0) ∷ []; objects = AList (value.Int (pos 2) ∷ []) ∷ AList (value.Int (pos 1) ∷ []) ∷ [] }

-- both after `y.append(x)`
abbrev pub x_first_grown : {C : Type 0} → State C
x_first_grown = record { globals = (codes "x", value.List 0) ∷ (codes "y", value.List 1) ∷ []; objects = AList (value.Int (pos 1) ∷ []) ∷ AList (value.Int (pos 2) ∷ value.List 0 ∷ []) ∷ [] }

abbrev pub y_first_grown : {C : Type 0} → State C
y_first_grown = record { globals = (codes "x", value.List 1) ∷ (codes "y", value.List 0) ∷ []; objects = AList (value.Int (pos 2) ∷ value.List 1 ∷ []) ∷ AList (value.Int (pos 1) ∷ []) ∷ [] }

-- one list with two names, and two lists, after `y.append(2)`
abbrev pub one_list_grown : {C : Type 0} → State C
one_list_grown = record { globals = (codes "x", value.List 0) ∷ (codes "y", value.List 0) ∷ []; objects = AList (value.Int (pos 1) ∷ value.Int (pos 2) ∷ []) ∷ [] }

abbrev pub two_lists_grown : {C : Type 0} → State C
two_lists_grown = record { globals = (codes "x", value.List 0) ∷ (codes "y", value.List 1) ∷ []; objects = AList (value.Int (pos 1) ∷ []) ∷ AList (value.Int (pos 1) ∷ value.Int (pos 2) ∷ []) ∷ [] }

-- a list that no name has any more, and a list that a name has; and the second alone
abbrev pub bound_again : {C : Type 0} → State C
bound_again = record { globals = (codes "x", value.List 1) ∷ []; objects = AList (value.Int (pos 1) ∷ []) ∷ AList (value.Int (pos 2) ∷ []) ∷ [] }

abbrev pub bound_last : {C : Type 0} → State C
bound_last = record { globals = (codes "x", value.List 0) ∷ []; objects = AList (value.Int (pos 2) ∷ []) ∷ [] }

-- the cell that appends a value to the list `y`, and prints what a name is bound to
abbrev pub appending : Expr → List ℕ → CellParts
appending appended printed = cell (line 1 (small.Tests (method (name (codes "y")) (codes "append") (appended ∷ []) ∷ [])) ∷ line 2 (small.Tests (called (name (codes "print")) (name printed ∷ []) ∷ [])) ∷ [])

-- the state after the first node
abbrev pub after_first : State ℕ → MachineState
after_first s = record { state = s; ran = 1 ∷ [] }

pub record Snapshots : Type 0 where
  -- cell 1
  --     x = [1]
  --     y = x
  pub one_list_reached : (ran empty (cell (line 1 (small.Assign (name (codes "x") ∷ []) (e.List (int 1 ∷ []) false ∷ [])) ∷ line 2 (small.Assign (name (codes "y") ∷ []) (name (codes "x") ∷ [])) ∷ [])) [] 1000000) ≡ (done [] 6, one_list)
  -- cell 1
  --     x = [1]
  --     y = [2]
  pub x_first_reached : (ran empty (cell (line 1 (small.Assign (name (codes "x") ∷ []) (e.List (int 1 ∷ []) false ∷ [])) ∷ line 2 (small.Assign (name (codes "y") ∷ []) (e.List (int 2 ∷ []) false ∷ [])) ∷ [])) [] 1000000) ≡ (done [] 7, x_first)
  -- cell 1
  --     y = [2]
  --     x = [1]
  pub y_first_reached : (ran empty (cell (line 1 (small.Assign (name (codes "y") ∷ []) (e.List (int 2 ∷ []) false ∷ [])) ∷ line 2 (small.Assign (name (codes "x") ∷ []) (e.List (int 1 ∷ []) false ∷ [])) ∷ [])) [] 1000000) ≡ (done [] 7, y_first)
  -- the order in which lists are made makes no difference
  pub orders_alike : IsAlike {C = ℕ} ((0, 1) ∷ (1, 0) ∷ []) x_first y_first
  -- one list with two names is another thing than two equal lists
  pub not_alike : Alike {C = ℕ} one_list two_lists → ⊥
  -- a global's list is met first, and has number 0
  pub first_canonical : IsTrue (is_canonical (after_first one_list))
  pub met_in_order : IsTrue (is_canonical (after_first x_first))
  pub met_later : is_canonical (after_first y_first) ≡ false
  pub first_bytes : state_bytes (after_first one_list)
      ≡ 67 ∷ 72 ∷ 88 ∷ 50 ∷ 0 ∷ 0 ∷ 0 ∷ 0 ∷ 0 ∷ 0 ∷ 0 ∷ 1 ∷ 0 ∷ 0 ∷ 0 ∷ 1 ∷ 0 ∷ 0 ∷ 0 ∷ 0 ∷ 0 ∷ 0 ∷ 0 ∷ 2
      ∷ 0 ∷ 0 ∷ 0 ∷ 0 ∷ 0 ∷ 0 ∷ 0 ∷ 1 ∷ 120 ∷ 7 ∷ 0 ∷ 0 ∷ 0 ∷ 0 ∷ 0 ∷ 0 ∷ 0 ∷ 0 ∷ 0 ∷ 0 ∷ 0 ∷ 1 ∷ 121 ∷ 7 ∷ 0 ∷ 0 ∷ 0 ∷ 0
      ∷ 0 ∷ 0 ∷ 0 ∷ 0 ∷ 0 ∷ 0 ∷ 0 ∷ 1 ∷ 0 ∷ 0 ∷ 0 ∷ 0 ∷ 0 ∷ 0 ∷ 0 ∷ 0 ∷ 1 ∷ 3 ∷ 0 ∷ 0 ∷ 0 ∷ 0 ∷ 0 ∷ 0 ∷ 0 ∷ 0 ∷ 0 ∷ 0 ∷ 0 ∷ 0 ∷ 0 ∷ 0 ∷ 0 ∷ 1 ∷ []
  pub first_length : length (state_bytes (after_first one_list)) ≡ 86
  pub empty_length : length (state_bytes (record { state = empty; ran = [] })) ≡ 28
  -- cell 2, after the lists were made in the one order and in the other: equal output and equal steps
  --     y.append(x)
  --     print(y)
  pub x_first_appended : (ran x_first (appending (name (codes "x")) (codes "y")) [] 1000000) ≡ (done (codes "[2, [1]]\n") 18, x_first_grown)
  pub y_first_appended : (ran y_first (appending (name (codes "x")) (codes "y")) [] 1000000) ≡ (done (codes "[2, [1]]\n") 18, y_first_grown)
  -- cell 1
  --     x = [1]
  --     y = [1]
  pub two_lists_reached : (ran empty (cell (line 1 (small.Assign (name (codes "x") ∷ []) (e.List (int 1 ∷ []) false ∷ [])) ∷ line 2 (small.Assign (name (codes "y") ∷ []) (e.List (int 1 ∷ []) false ∷ [])) ∷ [])) [] 1000000) ≡ (done [] 7, two_lists)
  -- cell 2, after one list with two names, and after two lists: another output
  --     y.append(2)
  --     print(x)
  pub one_list_appended : (ran one_list (appending (int 2) (codes "x")) [] 1000000) ≡ (done (codes "[1, 2]\n") 16, one_list_grown)
  pub two_lists_appended : (ran two_lists (appending (int 2) (codes "x")) [] 1000000) ≡ (done (codes "[1]\n") 13, two_lists_grown)
  -- cell 1
  --     x = [1]
  --     x = [2]
  pub bound_again_reached : (ran empty (cell (line 1 (small.Assign (name (codes "x") ∷ []) (e.List (int 1 ∷ []) false ∷ [])) ∷ line 2 (small.Assign (name (codes "x") ∷ []) (e.List (int 2 ∷ []) false ∷ [])) ∷ [])) [] 1000000) ≡ (done [] 7, bound_again)
  -- the list that no name has is not written
  pub bound_again_canon : IsCanon (after_first bound_again) (after_first bound_last)
  pub bound_again_length : length (state_bytes (after_first bound_last)) ≡ 72
  -- the lists that were made in the one order and in the other have one snapshot
  pub orders_canon : IsCanon (after_first y_first) (after_first x_first)
  pub orders_length : length (state_bytes (after_first x_first)) ≡ 112
