-- The arguments of a call are one argument, and then the others.
use Rattle.std.proofs.Common.{◌≡◌, ◌++◌, ◌∷◌, [], ℕ, suc, Bool, true, false, List, Option, Some, None, Ok, Err, refl}
use Rattle.std.specs.Prelude.{if◌then◌else◌}
use Rattle.star_syntax.specs.declared.token.Mark.TheVariants as m
use Rattle.star_syntax.specs.declared.expression.Arguments.{Arguments}
use Rattle.star_syntax.specs.declared.expression.Expr.{Expr}
use Rattle.star_parser.specs.declared.level.Level.{Level}
use Rattle.star_parser.specs.declared.level.Level.TheVariants as level
use Rattle.star_parser.specs.declared.grammar.arguments.Argument.{Argument}
use Rattle.star_parser.specs.declared.grammar.arguments.Argument.TheVariants as a
use Rattle.star_parser.specs.Reading.{Input, Outcome, Reader, and_then, ◌>>◌, pure, skip, next}
use Rattle.star_parser.specs.Tables.{is_mark}
use Rattle.star_parser.specs.Readers as readers
use Rattle.star_parser.specs.Readers.{name_of, named_from, positional_by, arguments_from}
use Rattle.star_parser.specs.Parts.{argument, argument_by}

module _ (expr : Level → Reader Expr) (n : ℕ) (found : List Expr) where
  -- what follows one argument
  abbrev pub after : Argument → Reader (Arguments Expr)
  after (a.Named name) = named_from expr n found [] name
  after (a.Positional item) = positional_by expr (found ++ item ∷ []) (arguments_from expr n)

  by_mark : (item : Expr) (name : List ℕ) (b : Bool) (ts : Input) →
      and_then ((if b then skip >> pure true else pure false) ts) (λ is_named. if is_named then named_from expr n found [] name else positional_by expr (found ++ item ∷ []) (arguments_from expr n))
      ≡ and_then (and_then ((if b then skip >> pure true else pure false) ts) (λ is_named. if is_named then pure (a.Named name) else pure (a.Positional item))) after
  by_mark item name true ts = refl
  by_mark item name false ts = refl

  by_name : (item : Expr) (name : Option (List ℕ)) (ts : Input) →
      readers.argument_by expr n found item (arguments_from expr n) name ts ≡ and_then (argument_by item name ts) after
  by_name item None ts = refl
  by_name item (Some name) ts = by_mark item name (is_mark m.Assign (next ts)) ts

  by_outcome : (o : Outcome Expr) →
      and_then o (λ item. readers.argument_by expr n found item (arguments_from expr n) (name_of item))
      ≡ and_then (and_then o (λ item. argument_by item (name_of item))) after
  by_outcome (Ok p) = by_name p.0 (name_of p.0) p.1
  by_outcome (Err ts) = refl

  pub argument_step : (ts : Input) → arguments_from expr (suc n) found ts ≡ and_then (argument expr ts) after
  unfolding arguments_from argument
  argument_step ts = by_outcome (expr level.Test ts)
