-- What the parts of expressions mean in a cell that runs, each with the meanings of its trees in their places.
use Rattle.std.specs.Prelude.{ℕ, List, [], map, Option, option_map}
use Rattle.star_syntax.specs.declared.expression.Arguments.{Arguments}
use Rattle.star_syntax.specs.declared.expression.Arm.{Arm}
use Rattle.star_syntax.specs.declared.expression.Clause.{Clause}
use Rattle.star_syntax.specs.declared.expression.Clause.TheVariants as clause
use Rattle.star_syntax.specs.declared.expression.Expr.{Expr}
use Rattle.star_syntax.specs.declared.expression.Link.{Link}
use Rattle.star_syntax.specs.declared.expression.Named.{Named}
use Rattle.star_syntax.specs.declared.expression.Pair.{Pair}
use Rattle.star_syntax.specs.declared.expression.Suffix.{Suffix}
use Rattle.star_syntax.specs.declared.expression.Suffix.TheVariants as suffix
use Rattle.star_value.specs.declared.failure.Failure.TheVariants as failure
use Rattle.star_value.specs.declared.key.Key.{Key}
use Rattle.star_value.specs.declared.value.Value.{Value}
use Rattle.star_value.specs.declared.value.Value.TheVariants as value
use Rattle.star_meaning.specs.Steps.{Went, and_then, charge, fail, pure, ◌>>=◌}
use Rattle.star_meaning.specs.Values.{is_true}
use Rattle.star_meaning.specs.Builtins.{ByName}
use Rattle.star_meaning.specs.World.{Work, acting}
use Rattle.star_meaning.specs.Expressions.{Meant, chained, chosen, display_pairs, named_values, dict_turn, comprehension, list_turn, optional_value, parts, place, primary, step_value, store_each, store_in, store_items, suffix_value, suffixed, tests_value, turned, values}
use Rattle.star_run.specs.Fixed.{Fixed, callee, meaning, setting}

-- the truth of a value, turned so many times
abbrev pub negation : ℕ → Value → Work ℕ Value
negation count v = λ w. and_then (acting (charge count) w) (λ paid u. Went (value.Bool (turned count (is_true u.store.state v))) u)

module _ (g : Fixed) (depth : ℕ) where
  abbrev pub meanings : List Expr → List (Meant ℕ)
  meanings es = map (meaning g depth) es

  -- ---- operands

  abbrev pub operands : List Expr → Work ℕ (List Value)
  operands es = values (meanings es)

  abbrev pub named_meaning : Named Expr → Named (Meant ℕ)
  named_meaning x = record { name = x.name; value = meaning g depth x.value }

  abbrev pub named_operands : List (Named Expr) → Work ℕ ByName
  named_operands ns = named_values (map named_meaning ns)

  -- expressions that are a tuple where they are several
  abbrev pub tests : List Expr → Work ℕ Value
  tests es = tests_value (meanings es)

  abbrev pub optional : Option Expr → Work ℕ (Option Value)
  optional o = optional_value (option_map (meaning g depth) o)

  abbrev pub slice_step : Option (Option Expr) → Work ℕ (Option Value)
  slice_step o = step_value (option_map (option_map (meaning g depth)) o)

  -- ---- displays

  abbrev pub pair_meaning : Pair Expr → Pair (Meant ℕ)
  pair_meaning x = record { key = meaning g depth x.key; value = meaning g depth x.value }

  abbrev pub pairs : List (Pair Expr) → Work ℕ (List (Key × Value))
  pairs ps = display_pairs [] (map pair_meaning ps)

  -- ---- chains and conditionals

  abbrev pub link_meaning : Link Expr → Link (Meant ℕ)
  link_meaning x = record { op = x.op; operand = meaning g depth x.operand }

  -- what further operands make of the value so far
  abbrev pub linked : List (Link Expr) → Value → Work ℕ Value
  linked links = chained (setting g) (callee g depth) (map link_meaning links)

  abbrev pub arm_meaning : Arm Expr → Arm (Meant ℕ)
  arm_meaning x = record { value = meaning g depth x.value; condition = meaning g depth x.condition }

  abbrev pub arms : List (Arm Expr) → Expr → Work ℕ Value
  arms all last = chosen (setting g) (callee g depth) (map arm_meaning all) (meaning g depth last)

  -- ---- what is indexed or called

  abbrev pub arguments_meaning : Arguments Expr → Arguments (Meant ℕ)
  arguments_meaning x = record { positional = meanings x.positional; named = map named_meaning x.named; comma = x.comma }

  abbrev pub suffix_meaning : Suffix Expr → Suffix (Meant ℕ)
  suffix_meaning (suffix.Index at) = suffix.Index (meaning g depth at)
  suffix_meaning (suffix.Slice start stop by) = suffix.Slice (option_map (meaning g depth) start) (option_map (meaning g depth) stop) (option_map (option_map (meaning g depth)) by)
  suffix_meaning (suffix.Call given) = suffix.Call (arguments_meaning given)
  suffix_meaning (suffix.Method name given) = suffix.Method name (arguments_meaning given)

  -- what a suffix makes of a value
  abbrev pub one_suffix : Suffix Expr → Value → Work ℕ Value
  one_suffix s = suffix_value (setting g) (callee g depth) (suffix_meaning s)

  abbrev pub suffixes : List (Suffix Expr) → Value → Work ℕ Value
  suffixes all = suffixed (setting g) (callee g depth) (map suffix_meaning all)

  abbrev pub front : Expr → List (Suffix Expr) → Work ℕ Value × List (Suffix (Meant ℕ))
  front head all = primary (setting g) (callee g depth) (meaning g depth head) (map suffix_meaning all)

  abbrev pub primary_value : Expr → List (Suffix Expr) → Work ℕ Value
  primary_value head all = (front head all).0 >>= suffixed (setting g) (callee g depth) (front head all).1

  -- the parts of a place
  abbrev pub place_parts : List (Suffix Expr) → Value → Work ℕ (Value × Value)
  place_parts all = parts (setting g) (callee g depth) (map suffix_meaning all)

  -- the last part, with what is indexed: no place where it is no index
  abbrev pub last_part : Suffix Expr → Value → Work ℕ (Value × Value)
  last_part (suffix.Index at) x = (meaning g depth at).value >>= (λ i. pure (x, i))
  last_part (suffix.Slice start stop by) x = one_suffix (suffix.Slice start stop by) x >>= (λ y. fail failure.WrongType)
  last_part (suffix.Call given) x = one_suffix (suffix.Call given) x >>= (λ y. fail failure.WrongType)
  last_part (suffix.Method name given) x = one_suffix (suffix.Method name given) x >>= (λ y. fail failure.WrongType)

  abbrev pub place_of : Expr → List (Suffix Expr) → Work ℕ (Value × Value)
  place_of head all = place (setting g) (callee g depth) (meaning g depth head) (map suffix_meaning all)

  -- ---- targets

  abbrev pub target : Expr → Value → Work ℕ (Unit {0})
  target e = (meaning g depth e).store

  abbrev pub targets : List Expr → Value → Work ℕ (Unit {0})
  targets es = store_in (meanings es)

  abbrev pub target_items : List Expr → Value → Work ℕ (Unit {0})
  target_items es = store_items (meanings es)

  abbrev pub each_target : List Expr → List Value → Work ℕ (Unit {0})
  each_target es = store_each (meanings es)

  -- ---- clauses of comprehensions

  abbrev pub clause_meaning : Clause Expr → Clause (Meant ℕ)
  clause_meaning (clause.For ts over) = clause.For (meanings ts) (meaning g depth over)
  clause_meaning (clause.If condition) = clause.If (meaning g depth condition)

  -- what the comprehension of a list gathers, and that of a dict
  abbrev pub listed : List (Clause Expr) → Expr → Work ℕ (List Value)
  listed all e = comprehension (map clause_meaning all) (list_turn (meaning g depth e)) []

  abbrev pub paired : List (Clause Expr) → Expr → Expr → Work ℕ (List (Key × Value))
  paired all k v = comprehension (map clause_meaning all) (dict_turn (meaning g depth k) (meaning g depth v)) []
