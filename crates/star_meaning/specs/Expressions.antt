-- The meaning of expressions: one clause for each form, with the meaning of each part in its place.
use Rattle.std.specs.Prelude.{ℕ, zero, suc, Bool, true, false, not, if◌then◌else◌, List, [], ◌∷◌, ◌++◌, map, length, Option, Some, None, is_some}
use Rattle.std.specs.List.{flat_map}
use Rattle.chex_base.specs.declared.input.Input.{Input}
use Rattle.chex_base.specs.declared.input.Input.TheVariants as input
use Rattle.chex_base.specs.declared.input.InputItem.{InputItem}
use Rattle.chex_base.specs.declared.input.InputItem.TheVariants as item
use Rattle.chex_base.specs.Inputs as inputs
use Rattle.star_syntax.specs.declared.expression.Arm.{Arm}
use Rattle.star_syntax.specs.declared.expression.Expr.{Expr, fold-Expr, map-Expr}
use Rattle.star_syntax.specs.declared.expression.Expr.TheOpen.{Expr-F}
use Rattle.star_syntax.specs.declared.expression.Link.{Link}
use Rattle.star_syntax.specs.declared.expression.Suffix.{Suffix}
use Rattle.star_syntax.specs.declared.expression.Suffix.TheVariants as suffix
use Rattle.star_syntax.specs.declared.expression.Clause.{Clause}
use Rattle.star_syntax.specs.declared.expression.Clause.TheVariants as clause
use Rattle.star_syntax.specs.declared.expression.Named.{Named}
use Rattle.star_syntax.specs.declared.expression.Pair.{Pair}
use Rattle.star_syntax.specs.declared.expression.ChainOp.{ChainOp}
use Rattle.star_syntax.specs.declared.expression.ChainOp.TheVariants as chain
use Rattle.star_syntax.specs.declared.operator.CompareOp.{CompareOp}
use Rattle.star_syntax.specs.declared.operator.UnaryOp.{UnaryOp}
use Rattle.star_syntax.specs.declared.statement.Definition.{Definition}
use Rattle.star_syntax.specs.declared.statement.Statement.{Statement}
use Rattle.star_syntax.specs.Placement.{Seen, inner, first_literal, layer_seen}
use Rattle.star_value.specs.declared.failure.Failure.TheVariants as failure
use Rattle.star_value.specs.declared.key.Key.{Key}
use Rattle.star_value.specs.declared.value.Value.{Value, out-Value}
use Rattle.star_value.specs.declared.value.Value.TheOpen.{Value-F}
use Rattle.star_value.specs.declared.value.Value.TheVariants as value
use Rattle.star_meaning.specs.State.{dict_get, dict_put}
use Rattle.star_meaning.specs.Steps.{Action, pure, fail, given_or, charge, ◌>>=◌, ◌>>◌}
use Rattle.star_meaning.specs.Values.{has, is_true, items_of, charge_weight, new_tuple, new_list, new_dict}
use Rattle.star_meaning.specs.Comparing.{compare, key_in}
use Rattle.star_meaning.specs.Showing.{Naming}
use Rattle.star_meaning.specs.Operators as operators
use Rattle.star_meaning.specs.Operators.{Bounds, charged_list, binary, unary, index, slice, unpacked}
use Rattle.star_meaning.specs.Builtins.{ByName, call_builtin}
use Rattle.star_meaning.specs.Methods.{call_method}
use Rattle.star_meaning.specs.World.{Work, acting, reading, operation, operate, write, look_up, bind, unbound, distinct, in_block, locking, lock_of, turns, without_first}

-- What does not change while a cell runs: the functions of the cells, the cell, and the inputs.
pub record Setting (C : Type 0) : Type 0 where
  pub define : C → ℕ → Option (Definition Statement)
  pub cell : C
  pub inputs : List (List ℕ × Input)

abbrev pub name_of : Option (Definition Statement) → List ℕ
name_of None = []
name_of (Some def) = def.name

-- the name of a function
abbrev pub naming : {C : Type 0} → Setting C → Naming C
naming setting cell number = name_of (setting.define cell number)

-- what a call of a function does
abbrev pub Callee : Type 0 → Type 0
Callee C = ℕ → List Value → ByName → Work C Value

-- What a tree means.
pub record Meant (C : Type 0) : Type 0 where
  -- as an expression
  pub value : Work C Value
  -- as a target of a value
  pub store : Value → Work C (Unit {0})
  -- as a place whose value is changed
  pub update : (Value → Work C Value) → Work C (Unit {0})
  -- the names that it binds as a target
  pub names : List (List ℕ)
  -- it is the name `input` alone
  pub is_input : Bool
  -- the text literal that it is
  pub literal : Option (List ℕ)

-- ---- names that a target binds

abbrev pub layer_names : Expr-F (List (List ℕ)) → List (List ℕ)
layer_names (Expr-F.Name name) = name ∷ []
layer_names (Expr-F.Paren names) = names
layer_names (Expr-F.Tuple items _) = flat_map (λ names. names) items
layer_names (Expr-F.List items _) = flat_map (λ names. names) items
layer_names _ = []

unfoldable pub target_names : Expr → List (List ℕ)
target_names = fold-Expr (List (List ℕ)) layer_names

-- ---- operands

-- expressions from left to right
abbrev pub values_from : {C : Type 0} → List Value → List (Meant C) → Work C (List Value)
values_from done [] = pure done
values_from done (m ∷ ms) = m.value >>= (λ v. values_from (done ++ v ∷ []) ms)

unfoldable pub values : {C : Type 0} → List (Meant C) → Work C (List Value)
values ms = values_from [] ms

abbrev pub named_from : {C : Type 0} → ByName → List (Named (Meant C)) → Work C ByName
named_from done [] = pure done
named_from done (n ∷ ns) = n.value.value >>= (λ v. named_from (done ++ (n.name, v) ∷ []) ns)

unfoldable pub named_values : {C : Type 0} → List (Named (Meant C)) → Work C ByName
named_values ns = named_from [] ns

abbrev pub optional_value : {C : Type 0} → Option (Meant C) → Work C (Option Value)
optional_value None = pure None
optional_value (Some m) = m.value >>= (λ v. pure (Some v))

abbrev pub step_value : {C : Type 0} → Option (Option (Meant C)) → Work C (Option Value)
step_value None = pure None
step_value (Some m) = optional_value m

-- whether a value counts as true
abbrev pub truth : {C : Type 0} → Value → Work C Bool
truth v = reading (λ s. is_true s v)

-- ---- displays

-- expressions that are a tuple where they are several
abbrev pub tests_value : {C : Type 0} → List (Meant C) → Work C Value
tests_value (m ∷ []) = m.value
tests_value ms = values ms >>= (λ vs. operate (new_tuple vs))

-- a key that did not stand before
abbrev pub new_key : {C : Type 0} → List (Key × Value) → Value → Action C Key
new_key done k = do
  key ← key_in k
  (if is_some (dict_get done key) then fail failure.RepeatedKey else pure key)

-- the pairs of a dict display: a key, its value, the key's weight, before the next pair
abbrev pub display_pairs : {C : Type 0} → List (Key × Value) → List (Pair (Meant C)) → Work C (List (Key × Value))
display_pairs done [] = pure done
display_pairs done (pair ∷ pairs) = do
  k ← pair.key.value
  v ← pair.value.value
  key ← acting (new_key done k)
  acting (charge_weight k)
  display_pairs (dict_put done key v) pairs

-- ---- comprehensions

abbrev pub clause_names : {C : Type 0} → Clause (Meant C) → List (List ℕ)
clause_names (clause.For targets over) = flat_map (λ m. m.names) targets
clause_names (clause.If condition) = []

-- a value stored in targets, which are a tuple target where they are several; each target is wholly stored before the next
abbrev pub store_each : {C : Type 0} → List (Meant C) → List Value → Work C (Unit {0})
store_each [] vs = pure tt
store_each (m ∷ ms) [] = pure tt
store_each (m ∷ ms) (v ∷ vs) = m.store v >> store_each ms vs

-- a tuple or list target
unfoldable pub store_items : {C : Type 0} → List (Meant C) → Value → Work C (Unit {0})
store_items ms v = acting (unpacked (length ms) v) >>= store_each ms

abbrev pub store_in : {C : Type 0} → List (Meant C) → Value → Work C (Unit {0})
store_in (m ∷ []) v = m.store v
store_in ms v = store_items ms v

-- a turn charges the weight of its item, then binds it
unfoldable pub next_item : {C : Type 0} → List (Meant C) → Value → Work C (Unit {0})
next_item targets x = acting (charge_weight x) >> store_in targets x

-- a turn for each item of a value, which is locked meanwhile
unfoldable pub loop_over : {C A : Type 0} → (Value → A → Work C A) → Value → A → Work C A
loop_over turn v a = acting (items_of v) >>= (λ items. locking (lock_of v) (turns turn items a))

-- the clauses of a comprehension from one on, round what its innermost turns do
abbrev pub clauses_from : {C A : Type 0} → List (Clause (Meant C)) → (A → Work C A) → A → Work C A
clauses_from [] inner a = inner a
clauses_from (clause.If condition ∷ more) inner a = do
  v ← condition.value
  t ← truth v
  (if t then clauses_from more inner a else pure a)
clauses_from (clause.For targets over ∷ more) inner a = do
  v ← over.value
  loop_over (λ x b. next_item targets x >> clauses_from more inner b) v a

-- the first operand, outside the comprehension's block, and 1; then the turns in the block. A first clause that is no `for`, as no
-- text has it, gives no turns, and 1 all the same: so a step pays for each list and dict that a tree makes.
abbrev pub comprehension : {C A : Type 0} → List (Clause (Meant C)) → (A → Work C A) → A → Work C A
comprehension (clause.For targets over ∷ more) inner a = do
  v ← over.value
  acting (charge 1)
  in_block (unbound (distinct (flat_map clause_names (clause.For targets over ∷ more))))
      (loop_over (λ x b. next_item targets x >> clauses_from more inner b) v a)
comprehension _ inner a = acting (charge 1) >> pure a

unfoldable pub list_turn : {C : Type 0} → Meant C → List Value → Work C (List Value)
list_turn m done = m.value >>= (λ v. pure (done ++ v ∷ []))

-- a key that stood before keeps its place and takes the new value
unfoldable pub dict_turn : {C : Type 0} → Meant C → Meant C → List (Key × Value) → Work C (List (Key × Value))
dict_turn k' v' done = do
  k ← k'.value
  v ← v'.value
  key ← acting (key_in k)
  acting (charge_weight k)
  pure (dict_put done key v)

-- ---- inputs

abbrev pub item_value : InputItem → Value
item_value item.None = value.None
item_value (item.Bool b) = value.Bool b
item_value (item.Int z) = value.Int z
item_value (item.Text points) = value.Text points

-- a value; an array is a new list and charges its items' weights
abbrev pub input_value : {C : Type 0} → Input → Action C Value
input_value input.None = pure value.None
input_value (input.Bool b) = pure (value.Bool b)
input_value (input.Int z) = pure (value.Int z)
input_value (input.Text points) = pure (value.Text points)
input_value (input.List items) = charged_list (map item_value items)

-- `input(TEXT)` is one operation
unfoldable pub read_input : {C : Type 0} → Setting C → List ℕ → Work C Value
read_input setting name = operate (given_or failure.NoInput (inputs.value_of setting.inputs name) >>= input_value)

-- ---- calls

abbrev pub call_function : {C : Type 0} → Callee C → ℕ → List Value → ByName → Work C Value
call_function call id vs named = λ w. if has w.frame.active id then fail failure.Recursion w else call id vs named w

abbrev pub call_written : {C : Type 0} → Action C (Value × List ℕ) → Work C Value
call_written p = acting p >>= (λ answer. write answer.1 >> pure answer.0)

abbrev pub called_at : {C : Type 0} → Setting C → Callee C → Value-F Value → List Value → ByName → Work C Value
called_at setting call (Value-F.Function id) vs named = call_function call id vs named
called_at setting call (Value-F.Builtin which) vs named = call_written (call_builtin (naming setting) which vs named)
called_at setting call _ vs named = fail failure.WrongType

-- a call of a value
unfoldable pub called : {C : Type 0} → Setting C → Callee C → Value → List Value → ByName → Work C Value
called setting call f vs named = operation (called_at setting call (out-Value f) vs named)

-- a call of a method
unfoldable pub method_called : {C : Type 0} → List ℕ → Value → List Value → ByName → Work C Value
method_called name x vs named = λ w. operate (call_method w.frame.locked name x vs named) w

-- `x[i] = v`
unfoldable pub store_at : {C : Type 0} → Value → Value → Value → Work C (Unit {0})
store_at x at v = λ w. acting (operators.store w.frame.locked x at v) w

-- ---- signs, `not`, comparisons

abbrev pub signed : {C : Type 0} → List UnaryOp → Value → Work C Value
signed [] x = pure x
signed (s ∷ ss) x = signed ss x >>= (λ y. operate (unary s y))

abbrev pub turned : ℕ → Bool → Bool
turned zero b = b
turned (suc n) b = not (turned n b)

abbrev pub compared : {C : Type 0} → CompareOp → Value → Value → Action C Value
compared op x y = compare op x y >>= (λ b. pure (value.Bool b))

module _ {C : Type 0} (setting : Setting C) (call : Callee C) where
  -- ---- chains: the value so far, then each further operand

  -- `or` and `and` give an operand and stop early; an operand that is reached charges 1 first
  abbrev pub linked : ChainOp → Value → Work C Value → (Value → Work C Value) → Work C Value
  linked chain.Or x operand rest = truth x >>= (λ t. if t then pure x else (acting (charge 1) >> operand >>= rest))
  linked chain.And x operand rest = truth x >>= (λ t. if t then (acting (charge 1) >> operand >>= rest) else pure x)
  linked (chain.Binary op) x operand rest = operand >>= (λ y. operate (binary (naming setting) op x y)) >>= rest

  abbrev pub chained : List (Link (Meant C)) → Value → Work C Value
  chained [] x = pure x
  chained (link ∷ links) x = linked link.op x link.operand.value (chained links)

  -- ---- what is indexed or called

  abbrev pub suffix_value : Suffix (Meant C) → Value → Work C Value
  suffix_value (suffix.Index at) x = at.value >>= (λ i. operate (index x i))
  suffix_value (suffix.Slice start stop step) x = do
    i ← optional_value start
    j ← optional_value stop
    k ← step_value step
    operate (slice x (record { start = i; stop = j; step = k }))
  suffix_value (suffix.Call given) x = do
    vs ← values given.positional
    named ← named_values given.named
    called setting call x vs named
  suffix_value (suffix.Method name given) x = do
    vs ← values given.positional
    named ← named_values given.named
    method_called name x vs named

  abbrev pub suffixed : List (Suffix (Meant C)) → Value → Work C Value
  suffixed [] x = pure x
  suffixed (s ∷ more) x = suffix_value s x >>= suffixed more

  -- the name of `input(TEXT)`, as the rules of placement say what that is
  abbrev pub input_name : Bool → List (Suffix (Meant C)) → Option (List ℕ)
  input_name true suffixes = first_literal (λ m. m.literal) suffixes
  input_name false suffixes = None

  -- what is indexed or called, and the suffixes that follow it: `input(TEXT)` is one thing
  abbrev pub headed : Meant C → List (Suffix (Meant C)) → Option (List ℕ) → Work C Value × List (Suffix (Meant C))
  headed head suffixes (Some name) = (read_input setting name, without_first suffixes)
  headed head suffixes None = (head.value, suffixes)

  abbrev pub primary : Meant C → List (Suffix (Meant C)) → Work C Value × List (Suffix (Meant C))
  primary head suffixes = headed head suffixes (input_name head.is_input suffixes)

  -- the parts of a place: what is indexed, and the index
  abbrev pub parts : List (Suffix (Meant C)) → Value → Work C (Value × Value)
  parts [] x = fail failure.WrongType
  parts (suffix.Index at ∷ []) x = at.value >>= (λ i. pure (x, i))
  parts (s ∷ more) x = suffix_value s x >>= parts more

  abbrev pub place : Meant C → List (Suffix (Meant C)) → Work C (Value × Value)
  place head suffixes = (primary head suffixes).0 >>= parts (primary head suffixes).1

  -- ---- conditionals

  -- the value of the first arm whose condition holds, or else the last value; each condition that is reached charges 1
  abbrev pub chosen : List (Arm (Meant C)) → Meant C → Work C Value
  chosen [] last = last.value
  chosen (arm ∷ arms) last = do
    v ← arm.condition.value
    acting (charge 1)
    t ← truth v
    (if t then arm.value.value else chosen arms last)

  -- ---- the forms

  abbrev pub value_step : Expr-F (Meant C) → Work C Value
  value_step (Expr-F.Name name) = operation (look_up name)
  value_step (Expr-F.Int z) = operation (pure (value.Int z))
  value_step (Expr-F.Text points) = operation (pure (value.Text points))
  value_step Expr-F.None = operation (pure value.None)
  value_step Expr-F.True = operation (pure (value.Bool true))
  value_step Expr-F.False = operation (pure (value.Bool false))
  value_step (Expr-F.Paren m) = m.value
  value_step (Expr-F.Tuple ms _) = values ms >>= (λ vs. operate (new_tuple vs))
  value_step (Expr-F.List ms _) = values ms >>= (λ vs. operate (new_list vs))
  value_step (Expr-F.ListOver m clauses) = comprehension clauses (list_turn m) [] >>= (λ vs. acting (new_list vs))
  value_step (Expr-F.Dict pairs _) = display_pairs [] pairs >>= (λ done. operate (new_dict done))
  value_step (Expr-F.DictOver k v clauses) = comprehension clauses (dict_turn k v) [] >>= (λ done. acting (new_dict done))
  value_step (Expr-F.Primary head suffixes) = (primary head suffixes).0 >>= suffixed (primary head suffixes).1
  value_step (Expr-F.Signed signs m) = m.value >>= signed signs
  value_step (Expr-F.Chain level first links) = first.value >>= chained links
  value_step (Expr-F.Compare a op b) = do
    x ← a.value
    y ← b.value
    operate (compared op x y)
  value_step (Expr-F.Not count m) = do
    v ← m.value
    acting (charge count)
    t ← truth v
    pure (value.Bool (turned count t))
  value_step (Expr-F.Conditional arms last) = chosen arms last

  -- a name, a place, or targets in brackets; other trees are no targets
  abbrev pub store_step : Expr-F (Meant C) → Value → Work C (Unit {0})
  store_step (Expr-F.Name name) v = bind name v
  store_step (Expr-F.Paren m) v = m.store v
  store_step (Expr-F.Tuple ms _) v = store_items ms v
  store_step (Expr-F.List ms _) v = store_items ms v
  store_step (Expr-F.Primary head suffixes) v = place head suffixes >>= (λ at. store_at at.0 at.1 v)
  store_step _ v = fail failure.WrongType

  -- the old value of a name or place, as an expression; then the new one is stored
  abbrev pub update_step : Expr-F (Meant C) → (Value → Work C Value) → Work C (Unit {0})
  update_step (Expr-F.Name name) f = operation (look_up name) >>= f >>= bind name
  update_step (Expr-F.Primary head suffixes) f = do
    at ← place head suffixes
    old ← operate (index at.0 at.1)
    new ← f old
    store_at at.0 at.1 new
  update_step _ f = fail failure.WrongType

  -- what the rules of placement see of a node by itself
  abbrev pub node_seen : Expr-F (Meant C) → Seen
  node_seen x = layer_seen (map-Expr (Meant C) Seen (λ m. inner []) x)

  abbrev pub step : Expr-F (Meant C) → Meant C
  step x = record {
    value = value_step x;
    store = store_step x;
    update = update_step x;
    names = layer_names (map-Expr (Meant C) (List (List ℕ)) (λ m. m.names) x);
    is_input = (node_seen x).names_input;
    literal = (node_seen x).literal;
  }

  unfoldable pub meant : Expr → Meant C
  meant = fold-Expr (Meant C) step
