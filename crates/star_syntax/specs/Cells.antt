-- What a cell and a program hold.
use Rattle.std.specs.Prelude.{ℕ, zero, suc, List, Option, Some, None}
use Rattle.std.specs.List.{filter_map, slice_get}
use Rattle.star_syntax.specs.declared.statement.Definition.{Definition}
use Rattle.star_syntax.specs.declared.statement.Statement.{Statement, out-Statement}
use Rattle.star_syntax.specs.declared.statement.Statement.TheOpen.{Statement-F}

abbrev pub layer_def : Statement-F Statement → Option (Definition Statement)
layer_def (Statement-F.Line line) = None
layer_def (Statement-F.If at first more other) = None
layer_def (Statement-F.For at targets over body) = None
layer_def (Statement-F.Def at def) = Some def

-- the function that a statement defines
unfoldable pub def_of : Statement → Option (Definition Statement)
def_of s = layer_def (out-Statement s)

-- The functions of a cell in text order. A `def` stands directly in its cell, so none is deeper.
abbrev pub functions_of : List Statement → List (Definition Statement)
functions_of statements = filter_map def_of statements

-- the item of number n at place n - 1; number 0 is no item
abbrev pub numbered : {X : Type 0} → List X → ℕ → Option X
numbered items zero = None
numbered items (suc n) = slice_get items n
