-- The names that a block has.
use Rattle.std.specs.Prelude.{ℕ, ◌+◌, ◌++◌, if◌then◌else◌, List, [], ◌∷◌, Option, Some, None, map, sum, option_map}
use Rattle.std.specs.List.{flat_map}
use Rattle.star_syntax.specs.declared.expression.Clause.{Clause}
use Rattle.star_syntax.specs.declared.expression.Clause.TheVariants as clause
use Rattle.star_syntax.specs.declared.expression.Expr.{Expr}
use Rattle.star_syntax.specs.declared.expression.Named.{Named}
use Rattle.star_syntax.specs.declared.statement.Branch.{Branch}
use Rattle.star_syntax.specs.declared.statement.Block.{Block as Body}
use Rattle.star_syntax.specs.declared.statement.Definition.{Definition}
use Rattle.star_syntax.specs.declared.statement.Statement.{Statement}
use Rattle.star_value.specs.declared.value.Value.{Value}
use Rattle.star_meaning.specs.World.{Block, is_among, unbound}
use Rattle.star_meaning.specs.Expressions.{target_names}
use Rattle.star_meaning.specs.Statements.{Filled, Parameter, body_names, default_weight, parameters_of}

-- a name that did not stand before goes last
abbrev pub with_name : List (List ℕ) → List ℕ → List (List ℕ)
with_name names name = if is_among names name then names else names ++ name ∷ []

-- names one after the other
unfoldable pub with_names : List (List ℕ) → List (List ℕ) → List (List ℕ)
with_names found [] = found
with_names found (name ∷ names) = with_names (with_name found name) names

-- the names that a clause of a comprehension binds
abbrev pub clause_bound : Clause Expr → List (List ℕ)
clause_bound (clause.For targets over) = flat_map target_names targets
clause_bound (clause.If condition) = []

-- and those of a branch
abbrev pub branch_bound : Branch Statement → List (List ℕ)
branch_bound branch = body_names branch.body

abbrev pub else_bound : Option (Body Statement) → List (List ℕ)
else_bound None = []
else_bound (Some body) = body_names body

-- the names of so many of a function's defaults
abbrev pub named_first : List (Named Expr) → List Value → List (List ℕ)
named_first [] vs = []
named_first (n ∷ ns) [] = []
named_first (n ∷ ns) (v ∷ vs) = n.name ∷ named_first ns vs

-- the local names of a function's calls: its parameters, and the further names that its body binds
abbrev pub locals_of : Definition Statement → List Value → List (List ℕ)
locals_of def defaults = with_names (def.required ++ named_first def.defaults defaults) (body_names def.body)

-- ---- calls

-- the slots of parameters that are filled, and the weight of the defaults that are used
abbrev pub summary : Option (List Filled) → Option (Block × ℕ)
summary all = option_map (λ filled. (map (λ f. (f.0, Some f.1)) filled, sum (map default_weight filled))) all

-- what was filled before stands in front
abbrev pub behind : Block → ℕ → Option (Block × ℕ) → Option (Block × ℕ)
behind block weights None = None
behind block weights (Some more) = Some (block ++ more.0, weights + more.1)
