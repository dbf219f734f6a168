-- What the variants of values, keys and trees are, layer by layer.
use Rattle.std.proofs.Common.{◌≡◌, ℕ, suc, ℤ, ◌+◌, List, [], ◌∷◌, Bool, Option, Some, None, map, length, refl, sym, ap, ◌∙◌}
use Rattle.std.specs.Prelude.{sum, option_map}
use Rattle.star_syntax.specs.declared.expression.ChainLevel.{ChainLevel}
use Rattle.star_syntax.specs.declared.expression.Clause.{Clause}
use Rattle.star_syntax.specs.declared.expression.Clause.TheVariants as clause
use Rattle.star_syntax.specs.declared.expression.Arm.{Arm}
use Rattle.star_syntax.specs.declared.expression.Expr.{Expr, fold-roll-Expr, map-Expr, roll-Expr}
use Rattle.star_syntax.specs.declared.expression.Expr.TheOpen.{Expr-F}
use Rattle.star_syntax.specs.declared.expression.Expr.TheVariants as e
use Rattle.star_syntax.specs.declared.expression.Link.{Link}
use Rattle.star_syntax.specs.declared.expression.Pair.{Pair}
use Rattle.star_syntax.specs.declared.expression.Suffix.{Suffix}
use Rattle.star_syntax.specs.declared.operator.CompareOp.{CompareOp}
use Rattle.star_syntax.specs.declared.operator.UnaryOp.{UnaryOp}
use Rattle.star_syntax.specs.declared.statement.Block.{Block}
use Rattle.star_syntax.specs.declared.statement.Branch.{Branch}
use Rattle.star_syntax.specs.declared.statement.Definition.{Definition}
use Rattle.star_syntax.specs.declared.statement.Line.{Line}
use Rattle.star_syntax.specs.declared.statement.Statement.{Statement, fold-roll-Statement, map-Statement, out-roll-Statement, roll-Statement}
use Rattle.star_syntax.specs.declared.statement.Statement.TheOpen.{Statement-F}
use Rattle.star_syntax.specs.declared.statement.Statement.TheVariants as s
use Rattle.star_value.specs.declared.builtin.Builtin.{Builtin}
use Rattle.star_value.specs.declared.key.Key.{Key, fold-roll-Key, out-Key, out-roll-Key}
use Rattle.star_value.specs.declared.key.Key.TheOpen.{Key-F}
use Rattle.star_value.specs.declared.key.Key.TheVariants as key
use Rattle.star_value.specs.declared.range.Range.{Range}
use Rattle.star_value.specs.declared.value.Value.{Value, out-Value, out-roll-Value, fold-roll-Value}
use Rattle.star_value.specs.declared.value.Value.TheOpen.{Value-F}
use Rattle.star_value.specs.declared.value.Value.TheVariants as value
use Rattle.star_value.specs.KeyLaws.{same_key-roll}
use Rattle.star_value.specs.KeyOrder.{same_key, same_layer}
use Rattle.star_value.specs.Keys.{all_some, key_of, key_step, value_of, value_step}
use Rattle.star_value.specs.Weight.{depth, depth_step, greatest, weight, weight_step}
use Rattle.star_meaning.specs.State.{function}
use Rattle.star_meaning.specs.Steps.{Store, charge, ◌>>=◌, ◌>>◌}
use Rattle.star_meaning.specs.Comparing.{compared, look, own_part}
use Rattle.star_meaning.specs.Showing.{Naming, quoted_at, quoted_in}
use Rattle.star_meaning.specs.Builtins.{ByName}
use Rattle.star_meaning.specs.Expressions as expressions
use Rattle.star_meaning.specs.Expressions.{Setting, Callee, Meant, meant, step, target_names}
use Rattle.star_meaning.specs.World.{World, reading}
use Rattle.star_meaning.specs.Statements.{Doing, call_to, run_function, layer_names, layer_of, statement_names, statement_of}
use Rattle.star_syntax.specs.Cells.{def_of, layer_def}

-- ---- values

pub out_none : out-Value value.None ≡ Value-F.None
out_none = ap out-Value (sym value.rolls-None) ∙ out-roll-Value Value-F.None

pub out_bool : (b : Bool) → out-Value (value.Bool b) ≡ Value-F.Bool b
out_bool b = ap out-Value (sym (value.rolls-Bool b)) ∙ out-roll-Value (Value-F.Bool b)

pub out_int : (z : ℤ) → out-Value (value.Int z) ≡ Value-F.Int z
out_int z = ap out-Value (sym (value.rolls-Int z)) ∙ out-roll-Value (Value-F.Int z)

pub out_text : (points : List ℕ) → out-Value (value.Text points) ≡ Value-F.Text points
out_text points = ap out-Value (sym (value.rolls-Text points)) ∙ out-roll-Value (Value-F.Text points)

pub out_tuple : (items : List Value) → out-Value (value.Tuple items) ≡ Value-F.Tuple items
out_tuple items = ap out-Value (sym (value.rolls-Tuple items)) ∙ out-roll-Value (Value-F.Tuple items)

pub out_range : (r : Range) → out-Value (value.Range r) ≡ Value-F.Range r
out_range r = ap out-Value (sym (value.rolls-Range r)) ∙ out-roll-Value (Value-F.Range r)

pub out_list : (id : ℕ) → out-Value (value.List id) ≡ Value-F.List id
out_list id = ap out-Value (sym (value.rolls-List id)) ∙ out-roll-Value (Value-F.List id)

pub out_dict : (id : ℕ) → out-Value (value.Dict id) ≡ Value-F.Dict id
out_dict id = ap out-Value (sym (value.rolls-Dict id)) ∙ out-roll-Value (Value-F.Dict id)

pub out_function : (id : ℕ) → out-Value (value.Function id) ≡ Value-F.Function id
out_function id = ap out-Value (sym (value.rolls-Function id)) ∙ out-roll-Value (Value-F.Function id)

pub out_builtin : (which : Builtin) → out-Value (value.Builtin which) ≡ Value-F.Builtin which
out_builtin which = ap out-Value (sym (value.rolls-Builtin which)) ∙ out-roll-Value (Value-F.Builtin which)

pub weight_none : weight value.None ≡ 1
weight_none = ap weight (sym value.rolls-None) ∙ fold-roll-Value ℕ weight_step Value-F.None

pub weight_bool : (b : Bool) → weight (value.Bool b) ≡ 1
weight_bool b = ap weight (sym (value.rolls-Bool b)) ∙ fold-roll-Value ℕ weight_step (Value-F.Bool b)

pub weight_int : (z : ℤ) → weight (value.Int z) ≡ 1
weight_int z = ap weight (sym (value.rolls-Int z)) ∙ fold-roll-Value ℕ weight_step (Value-F.Int z)

pub weight_text : (points : List ℕ) → weight (value.Text points) ≡ length points + 1
weight_text points = ap weight (sym (value.rolls-Text points)) ∙ fold-roll-Value ℕ weight_step (Value-F.Text points)

pub weight_tuple : (items : List Value) → weight (value.Tuple items) ≡ sum (map weight items) + 1
weight_tuple items = ap weight (sym (value.rolls-Tuple items)) ∙ fold-roll-Value ℕ weight_step (Value-F.Tuple items)

pub weight_range : (r : Range) → weight (value.Range r) ≡ 1
weight_range r = ap weight (sym (value.rolls-Range r)) ∙ fold-roll-Value ℕ weight_step (Value-F.Range r)

pub weight_list : (id : ℕ) → weight (value.List id) ≡ 1
weight_list id = ap weight (sym (value.rolls-List id)) ∙ fold-roll-Value ℕ weight_step (Value-F.List id)

pub weight_dict : (id : ℕ) → weight (value.Dict id) ≡ 1
weight_dict id = ap weight (sym (value.rolls-Dict id)) ∙ fold-roll-Value ℕ weight_step (Value-F.Dict id)

pub weight_function : (id : ℕ) → weight (value.Function id) ≡ 1
weight_function id = ap weight (sym (value.rolls-Function id)) ∙ fold-roll-Value ℕ weight_step (Value-F.Function id)

pub weight_builtin : (which : Builtin) → weight (value.Builtin which) ≡ 1
weight_builtin which = ap weight (sym (value.rolls-Builtin which)) ∙ fold-roll-Value ℕ weight_step (Value-F.Builtin which)

pub depth_none : depth value.None ≡ 0
depth_none = ap depth (sym value.rolls-None) ∙ fold-roll-Value ℕ depth_step Value-F.None

pub depth_bool : (b : Bool) → depth (value.Bool b) ≡ 0
depth_bool b = ap depth (sym (value.rolls-Bool b)) ∙ fold-roll-Value ℕ depth_step (Value-F.Bool b)

pub depth_int : (z : ℤ) → depth (value.Int z) ≡ 0
depth_int z = ap depth (sym (value.rolls-Int z)) ∙ fold-roll-Value ℕ depth_step (Value-F.Int z)

pub depth_text : (points : List ℕ) → depth (value.Text points) ≡ 0
depth_text points = ap depth (sym (value.rolls-Text points)) ∙ fold-roll-Value ℕ depth_step (Value-F.Text points)

pub depth_tuple : (items : List Value) → depth (value.Tuple items) ≡ greatest (map depth items) + 1
depth_tuple items = ap depth (sym (value.rolls-Tuple items)) ∙ fold-roll-Value ℕ depth_step (Value-F.Tuple items)

pub depth_range : (r : Range) → depth (value.Range r) ≡ 0
depth_range r = ap depth (sym (value.rolls-Range r)) ∙ fold-roll-Value ℕ depth_step (Value-F.Range r)

pub depth_list : (id : ℕ) → depth (value.List id) ≡ 0
depth_list id = ap depth (sym (value.rolls-List id)) ∙ fold-roll-Value ℕ depth_step (Value-F.List id)

pub depth_dict : (id : ℕ) → depth (value.Dict id) ≡ 0
depth_dict id = ap depth (sym (value.rolls-Dict id)) ∙ fold-roll-Value ℕ depth_step (Value-F.Dict id)

pub depth_function : (id : ℕ) → depth (value.Function id) ≡ 0
depth_function id = ap depth (sym (value.rolls-Function id)) ∙ fold-roll-Value ℕ depth_step (Value-F.Function id)

pub depth_builtin : (which : Builtin) → depth (value.Builtin which) ≡ 0
depth_builtin which = ap depth (sym (value.rolls-Builtin which)) ∙ fold-roll-Value ℕ depth_step (Value-F.Builtin which)

pub key_none : key_of value.None ≡ Some key.None
key_none = ap key_of (sym value.rolls-None) ∙ fold-roll-Value (Option Key) key_step Value-F.None

pub key_bool : (b : Bool) → key_of (value.Bool b) ≡ Some (key.Bool b)
key_bool b = ap key_of (sym (value.rolls-Bool b)) ∙ fold-roll-Value (Option Key) key_step (Value-F.Bool b)

pub key_int : (z : ℤ) → key_of (value.Int z) ≡ Some (key.Int z)
key_int z = ap key_of (sym (value.rolls-Int z)) ∙ fold-roll-Value (Option Key) key_step (Value-F.Int z)

pub key_text : (points : List ℕ) → key_of (value.Text points) ≡ Some (key.Text points)
key_text points = ap key_of (sym (value.rolls-Text points)) ∙ fold-roll-Value (Option Key) key_step (Value-F.Text points)

pub key_tuple : (items : List Value) → key_of (value.Tuple items) ≡ option_map key.Tuple (all_some (map key_of items))
key_tuple items = ap key_of (sym (value.rolls-Tuple items)) ∙ fold-roll-Value (Option Key) key_step (Value-F.Tuple items)

pub key_range : (r : Range) → key_of (value.Range r) ≡ None
key_range r = ap key_of (sym (value.rolls-Range r)) ∙ fold-roll-Value (Option Key) key_step (Value-F.Range r)

pub key_list : (id : ℕ) → key_of (value.List id) ≡ None
key_list id = ap key_of (sym (value.rolls-List id)) ∙ fold-roll-Value (Option Key) key_step (Value-F.List id)

pub key_dict : (id : ℕ) → key_of (value.Dict id) ≡ None
key_dict id = ap key_of (sym (value.rolls-Dict id)) ∙ fold-roll-Value (Option Key) key_step (Value-F.Dict id)

pub key_function : (id : ℕ) → key_of (value.Function id) ≡ None
key_function id = ap key_of (sym (value.rolls-Function id)) ∙ fold-roll-Value (Option Key) key_step (Value-F.Function id)

pub key_builtin : (which : Builtin) → key_of (value.Builtin which) ≡ None
key_builtin which = ap key_of (sym (value.rolls-Builtin which)) ∙ fold-roll-Value (Option Key) key_step (Value-F.Builtin which)

pub value_none : value_of key.None ≡ value.None
value_none = ap value_of (sym key.rolls-None) ∙ fold-roll-Key Value value_step Key-F.None

pub value_bool : (b : Bool) → value_of (key.Bool b) ≡ value.Bool b
value_bool b = ap value_of (sym (key.rolls-Bool b)) ∙ fold-roll-Key Value value_step (Key-F.Bool b)

pub value_int : (z : ℤ) → value_of (key.Int z) ≡ value.Int z
value_int z = ap value_of (sym (key.rolls-Int z)) ∙ fold-roll-Key Value value_step (Key-F.Int z)

pub value_text : (points : List ℕ) → value_of (key.Text points) ≡ value.Text points
value_text points = ap value_of (sym (key.rolls-Text points)) ∙ fold-roll-Key Value value_step (Key-F.Text points)

pub value_tuple : (items : List Key) → value_of (key.Tuple items) ≡ value.Tuple (map value_of items)
value_tuple items = ap value_of (sym (key.rolls-Tuple items)) ∙ fold-roll-Key Value value_step (Key-F.Tuple items)

-- ---- keys

pub out_key_none : out-Key key.None ≡ Key-F.None
out_key_none = ap out-Key (sym key.rolls-None) ∙ out-roll-Key Key-F.None

pub out_key_bool : (b : Bool) → out-Key (key.Bool b) ≡ Key-F.Bool b
out_key_bool b = ap out-Key (sym (key.rolls-Bool b)) ∙ out-roll-Key (Key-F.Bool b)

pub out_key_int : (z : ℤ) → out-Key (key.Int z) ≡ Key-F.Int z
out_key_int z = ap out-Key (sym (key.rolls-Int z)) ∙ out-roll-Key (Key-F.Int z)

pub out_key_text : (points : List ℕ) → out-Key (key.Text points) ≡ Key-F.Text points
out_key_text points = ap out-Key (sym (key.rolls-Text points)) ∙ out-roll-Key (Key-F.Text points)

pub out_key_tuple : (items : List Key) → out-Key (key.Tuple items) ≡ Key-F.Tuple items
out_key_tuple items = ap out-Key (sym (key.rolls-Tuple items)) ∙ out-roll-Key (Key-F.Tuple items)

pub same_none : (other : Key) → same_key key.None other ≡ same_layer Key-F.None (out-Key other)
same_none other = ap (λ k. same_key k other) (sym key.rolls-None) ∙ same_key-roll Key-F.None other

pub same_bool : (b : Bool) → (other : Key) → same_key (key.Bool b) other ≡ same_layer (Key-F.Bool b) (out-Key other)
same_bool b other = ap (λ k. same_key k other) (sym (key.rolls-Bool b)) ∙ same_key-roll (Key-F.Bool b) other

pub same_int : (z : ℤ) → (other : Key) → same_key (key.Int z) other ≡ same_layer (Key-F.Int z) (out-Key other)
same_int z other = ap (λ k. same_key k other) (sym (key.rolls-Int z)) ∙ same_key-roll (Key-F.Int z) other

pub same_text : (points : List ℕ) → (other : Key) → same_key (key.Text points) other ≡ same_layer (Key-F.Text points) (out-Key other)
same_text points other = ap (λ k. same_key k other) (sym (key.rolls-Text points)) ∙ same_key-roll (Key-F.Text points) other

pub same_tuple : (items : List Key) → (other : Key) → same_key (key.Tuple items) other ≡ same_layer (Key-F.Tuple (map same_key items)) (out-Key other)
same_tuple items other = ap (λ k. same_key k other) (sym (key.rolls-Tuple items)) ∙ same_key-roll (Key-F.Tuple items) other

-- ---- the meaning of each form of a tree

clauses_in : {X : Type 0} → Expr-F X → List (Clause X)
clauses_in (Expr-F.ListOver x clauses) = clauses
clauses_in (Expr-F.DictOver k v clauses) = clauses
clauses_in _ = []

module _ {C : Type 0} (setting : Setting C) (call : Callee C) where
  meant_roll : (x : Expr-F Expr) → meant setting call (roll-Expr x) ≡ step setting call (map-Expr Expr (Meant C) (meant setting call) x)
  unfolding meant
  meant_roll x = fold-roll-Expr (Meant C) (step setting call) x

  -- the clauses of a comprehension, each with the meaning of its parts
  abbrev pub clause_meant : Clause Expr → Clause (Meant C)
  clause_meant (clause.For targets over) = clause.For (map (meant setting call) targets) (meant setting call over)
  clause_meant (clause.If condition) = clause.If (meant setting call condition)

  list_clauses : (x : Expr) (cs : List (Clause Expr)) → clauses_in (map-Expr Expr (Meant C) (meant setting call) (Expr-F.ListOver x cs)) ≡ map clause_meant cs
  unfolding clauses_in
  list_clauses x [] = refl
  list_clauses x (clause.For targets over ∷ cs) = ap (λ r. clause.For (map (meant setting call) targets) (meant setting call over) ∷ r) (list_clauses x cs)
  list_clauses x (clause.If condition ∷ cs) = ap (λ r. clause.If (meant setting call condition) ∷ r) (list_clauses x cs)

  dict_clauses : (k v : Expr) (cs : List (Clause Expr)) → clauses_in (map-Expr Expr (Meant C) (meant setting call) (Expr-F.DictOver k v cs)) ≡ map clause_meant cs
  unfolding clauses_in
  dict_clauses k v [] = refl
  dict_clauses k v (clause.For targets over ∷ cs) = ap (λ r. clause.For (map (meant setting call) targets) (meant setting call over) ∷ r) (dict_clauses k v cs)
  dict_clauses k v (clause.If condition ∷ cs) = ap (λ r. clause.If (meant setting call condition) ∷ r) (dict_clauses k v cs)

  pub meant_name : (name : List ℕ) → meant setting call (e.Name name) ≡ step setting call (map-Expr Expr (Meant C) (meant setting call) (Expr-F.Name name))
  meant_name name = ap (meant setting call) (sym (e.rolls-Name name)) ∙ meant_roll (Expr-F.Name name)

  pub meant_int : (z : ℤ) → meant setting call (e.Int z) ≡ step setting call (map-Expr Expr (Meant C) (meant setting call) (Expr-F.Int z))
  meant_int z = ap (meant setting call) (sym (e.rolls-Int z)) ∙ meant_roll (Expr-F.Int z)

  pub meant_text : (points : List ℕ) → meant setting call (e.Text points) ≡ step setting call (map-Expr Expr (Meant C) (meant setting call) (Expr-F.Text points))
  meant_text points = ap (meant setting call) (sym (e.rolls-Text points)) ∙ meant_roll (Expr-F.Text points)

  pub meant_none : meant setting call e.None ≡ step setting call (map-Expr Expr (Meant C) (meant setting call) Expr-F.None)
  meant_none = ap (meant setting call) (sym e.rolls-None) ∙ meant_roll Expr-F.None

  pub meant_true : meant setting call e.True ≡ step setting call (map-Expr Expr (Meant C) (meant setting call) Expr-F.True)
  meant_true = ap (meant setting call) (sym e.rolls-True) ∙ meant_roll Expr-F.True

  pub meant_false : meant setting call e.False ≡ step setting call (map-Expr Expr (Meant C) (meant setting call) Expr-F.False)
  meant_false = ap (meant setting call) (sym e.rolls-False) ∙ meant_roll Expr-F.False

  pub meant_paren : (x : Expr) → meant setting call (e.Paren x) ≡ step setting call (map-Expr Expr (Meant C) (meant setting call) (Expr-F.Paren x))
  meant_paren x = ap (meant setting call) (sym (e.rolls-Paren x)) ∙ meant_roll (Expr-F.Paren x)

  pub meant_tuple : (xs : List Expr) → (comma : Bool) → meant setting call (e.Tuple xs comma) ≡ step setting call (map-Expr Expr (Meant C) (meant setting call) (Expr-F.Tuple xs comma))
  meant_tuple xs comma = ap (meant setting call) (sym (e.rolls-Tuple xs comma)) ∙ meant_roll (Expr-F.Tuple xs comma)

  pub meant_list : (xs : List Expr) → (comma : Bool) → meant setting call (e.List xs comma) ≡ step setting call (map-Expr Expr (Meant C) (meant setting call) (Expr-F.List xs comma))
  meant_list xs comma = ap (meant setting call) (sym (e.rolls-List xs comma)) ∙ meant_roll (Expr-F.List xs comma)

  pub meant_listover : (x : Expr) → (clauses : List (Clause Expr)) → meant setting call (e.ListOver x clauses) ≡ step setting call (Expr-F.ListOver (meant setting call x) (map clause_meant clauses))
  unfolding clauses_in
  meant_listover x clauses =
      ap (meant setting call) (sym (e.rolls-ListOver x clauses)) ∙ meant_roll (Expr-F.ListOver x clauses)
      ∙ ap (λ cs. step setting call (Expr-F.ListOver (meant setting call x) cs)) (list_clauses x clauses)

  pub meant_dict : (pairs : List (Pair Expr)) → (comma : Bool) → meant setting call (e.Dict pairs comma) ≡ step setting call (map-Expr Expr (Meant C) (meant setting call) (Expr-F.Dict pairs comma))
  meant_dict pairs comma = ap (meant setting call) (sym (e.rolls-Dict pairs comma)) ∙ meant_roll (Expr-F.Dict pairs comma)

  pub meant_dictover : (k : Expr) → (v : Expr) → (clauses : List (Clause Expr)) → meant setting call (e.DictOver k v clauses) ≡ step setting call (Expr-F.DictOver (meant setting call k) (meant setting call v) (map clause_meant clauses))
  unfolding clauses_in
  meant_dictover k v clauses =
      ap (meant setting call) (sym (e.rolls-DictOver k v clauses)) ∙ meant_roll (Expr-F.DictOver k v clauses)
      ∙ ap (λ cs. step setting call (Expr-F.DictOver (meant setting call k) (meant setting call v) cs)) (dict_clauses k v clauses)

  pub meant_primary : (head : Expr) → (suffixes : List (Suffix Expr)) → meant setting call (e.Primary head suffixes) ≡ step setting call (map-Expr Expr (Meant C) (meant setting call) (Expr-F.Primary head suffixes))
  meant_primary head suffixes = ap (meant setting call) (sym (e.rolls-Primary head suffixes)) ∙ meant_roll (Expr-F.Primary head suffixes)

  pub meant_signed : (signs : List UnaryOp) → (x : Expr) → meant setting call (e.Signed signs x) ≡ step setting call (map-Expr Expr (Meant C) (meant setting call) (Expr-F.Signed signs x))
  meant_signed signs x = ap (meant setting call) (sym (e.rolls-Signed signs x)) ∙ meant_roll (Expr-F.Signed signs x)

  pub meant_chain : (level : ChainLevel) → (first : Expr) → (links : List (Link Expr)) → meant setting call (e.Chain level first links) ≡ step setting call (map-Expr Expr (Meant C) (meant setting call) (Expr-F.Chain level first links))
  meant_chain level first links = ap (meant setting call) (sym (e.rolls-Chain level first links)) ∙ meant_roll (Expr-F.Chain level first links)

  pub meant_compare : (a : Expr) → (op : CompareOp) → (b : Expr) → meant setting call (e.Compare a op b) ≡ step setting call (map-Expr Expr (Meant C) (meant setting call) (Expr-F.Compare a op b))
  meant_compare a op b = ap (meant setting call) (sym (e.rolls-Compare a op b)) ∙ meant_roll (Expr-F.Compare a op b)

  pub meant_not : (count : ℕ) → (x : Expr) → meant setting call (e.Not count x) ≡ step setting call (map-Expr Expr (Meant C) (meant setting call) (Expr-F.Not count x))
  meant_not count x = ap (meant setting call) (sym (e.rolls-Not count x)) ∙ meant_roll (Expr-F.Not count x)

  pub meant_conditional : (arms : List (Arm Expr)) → (last : Expr) → meant setting call (e.Conditional arms last) ≡ step setting call (map-Expr Expr (Meant C) (meant setting call) (Expr-F.Conditional arms last))
  meant_conditional arms last = ap (meant setting call) (sym (e.rolls-Conditional arms last)) ∙ meant_roll (Expr-F.Conditional arms last)

  statement_roll : (x : Statement-F Statement) → statement_of setting call (roll-Statement x) ≡ layer_of setting call (map-Statement Statement (Doing C) (statement_of setting call) x)
  unfolding statement_of
  statement_roll x = fold-roll-Statement (Doing C) (layer_of setting call) x

  pub statement_line : (line : Line) → (last : Bool) (number : Option ℕ) (w : World C) → statement_of setting call (s.Line line) last number w ≡ layer_of setting call (map-Statement Statement (Doing C) (statement_of setting call) (Statement-F.Line line)) last number w
  statement_line line last number w = ap (λ doing. doing last number w) (ap (statement_of setting call) (sym (s.rolls-Line line)) ∙ statement_roll (Statement-F.Line line))

  pub statement_if : (at : ℕ) → (first : Branch Statement) → (more : List (Branch Statement)) → (other : Option (Block Statement)) → (last : Bool) (number : Option ℕ) (w : World C) → statement_of setting call (s.If at first more other) last number w ≡ layer_of setting call (map-Statement Statement (Doing C) (statement_of setting call) (Statement-F.If at first more other)) last number w
  statement_if at first more other last number w = ap (λ doing. doing last number w) (ap (statement_of setting call) (sym (s.rolls-If at first more other)) ∙ statement_roll (Statement-F.If at first more other))

  pub statement_for : (at : ℕ) → (targets : List Expr) → (over : List Expr) → (body : Block Statement) → (last : Bool) (number : Option ℕ) (w : World C) → statement_of setting call (s.For at targets over body) last number w ≡ layer_of setting call (map-Statement Statement (Doing C) (statement_of setting call) (Statement-F.For at targets over body)) last number w
  statement_for at targets over body last number w = ap (λ doing. doing last number w) (ap (statement_of setting call) (sym (s.rolls-For at targets over body)) ∙ statement_roll (Statement-F.For at targets over body))

  pub statement_def : (at : ℕ) → (def : Definition Statement) → (last : Bool) (number : Option ℕ) (w : World C) → statement_of setting call (s.Def at def) last number w ≡ layer_of setting call (map-Statement Statement (Doing C) (statement_of setting call) (Statement-F.Def at def)) last number w
  statement_def at def last number w = ap (λ doing. doing last number w) (ap (statement_of setting call) (sym (s.rolls-Def at def)) ∙ statement_roll (Statement-F.Def at def))

-- ---- the names that trees bind, and the function that a statement defines

pub names_name : (name : List ℕ) → target_names (e.Name name) ≡ expressions.layer_names (map-Expr Expr (List (List ℕ)) target_names (Expr-F.Name name))
unfolding target_names
names_name name = ap target_names (sym (e.rolls-Name name)) ∙ fold-roll-Expr (List (List ℕ)) expressions.layer_names (Expr-F.Name name)

pub names_int : (z : ℤ) → target_names (e.Int z) ≡ expressions.layer_names (map-Expr Expr (List (List ℕ)) target_names (Expr-F.Int z))
unfolding target_names
names_int z = ap target_names (sym (e.rolls-Int z)) ∙ fold-roll-Expr (List (List ℕ)) expressions.layer_names (Expr-F.Int z)

pub names_text : (points : List ℕ) → target_names (e.Text points) ≡ expressions.layer_names (map-Expr Expr (List (List ℕ)) target_names (Expr-F.Text points))
unfolding target_names
names_text points = ap target_names (sym (e.rolls-Text points)) ∙ fold-roll-Expr (List (List ℕ)) expressions.layer_names (Expr-F.Text points)

pub names_none : target_names e.None ≡ expressions.layer_names (map-Expr Expr (List (List ℕ)) target_names Expr-F.None)
unfolding target_names
names_none = ap target_names (sym e.rolls-None) ∙ fold-roll-Expr (List (List ℕ)) expressions.layer_names Expr-F.None

pub names_true : target_names e.True ≡ expressions.layer_names (map-Expr Expr (List (List ℕ)) target_names Expr-F.True)
unfolding target_names
names_true = ap target_names (sym e.rolls-True) ∙ fold-roll-Expr (List (List ℕ)) expressions.layer_names Expr-F.True

pub names_false : target_names e.False ≡ expressions.layer_names (map-Expr Expr (List (List ℕ)) target_names Expr-F.False)
unfolding target_names
names_false = ap target_names (sym e.rolls-False) ∙ fold-roll-Expr (List (List ℕ)) expressions.layer_names Expr-F.False

pub names_paren : (x : Expr) → target_names (e.Paren x) ≡ expressions.layer_names (map-Expr Expr (List (List ℕ)) target_names (Expr-F.Paren x))
unfolding target_names
names_paren x = ap target_names (sym (e.rolls-Paren x)) ∙ fold-roll-Expr (List (List ℕ)) expressions.layer_names (Expr-F.Paren x)

pub names_tuple : (xs : List Expr) → (comma : Bool) → target_names (e.Tuple xs comma) ≡ expressions.layer_names (map-Expr Expr (List (List ℕ)) target_names (Expr-F.Tuple xs comma))
unfolding target_names
names_tuple xs comma = ap target_names (sym (e.rolls-Tuple xs comma)) ∙ fold-roll-Expr (List (List ℕ)) expressions.layer_names (Expr-F.Tuple xs comma)

pub names_list : (xs : List Expr) → (comma : Bool) → target_names (e.List xs comma) ≡ expressions.layer_names (map-Expr Expr (List (List ℕ)) target_names (Expr-F.List xs comma))
unfolding target_names
names_list xs comma = ap target_names (sym (e.rolls-List xs comma)) ∙ fold-roll-Expr (List (List ℕ)) expressions.layer_names (Expr-F.List xs comma)

pub names_listover : (x : Expr) → (clauses : List (Clause Expr)) → target_names (e.ListOver x clauses) ≡ expressions.layer_names (map-Expr Expr (List (List ℕ)) target_names (Expr-F.ListOver x clauses))
unfolding target_names
names_listover x clauses = ap target_names (sym (e.rolls-ListOver x clauses)) ∙ fold-roll-Expr (List (List ℕ)) expressions.layer_names (Expr-F.ListOver x clauses)

pub names_dict : (pairs : List (Pair Expr)) → (comma : Bool) → target_names (e.Dict pairs comma) ≡ expressions.layer_names (map-Expr Expr (List (List ℕ)) target_names (Expr-F.Dict pairs comma))
unfolding target_names
names_dict pairs comma = ap target_names (sym (e.rolls-Dict pairs comma)) ∙ fold-roll-Expr (List (List ℕ)) expressions.layer_names (Expr-F.Dict pairs comma)

pub names_dictover : (k : Expr) → (v : Expr) → (clauses : List (Clause Expr)) → target_names (e.DictOver k v clauses) ≡ expressions.layer_names (map-Expr Expr (List (List ℕ)) target_names (Expr-F.DictOver k v clauses))
unfolding target_names
names_dictover k v clauses = ap target_names (sym (e.rolls-DictOver k v clauses)) ∙ fold-roll-Expr (List (List ℕ)) expressions.layer_names (Expr-F.DictOver k v clauses)

pub names_primary : (head : Expr) → (suffixes : List (Suffix Expr)) → target_names (e.Primary head suffixes) ≡ expressions.layer_names (map-Expr Expr (List (List ℕ)) target_names (Expr-F.Primary head suffixes))
unfolding target_names
names_primary head suffixes = ap target_names (sym (e.rolls-Primary head suffixes)) ∙ fold-roll-Expr (List (List ℕ)) expressions.layer_names (Expr-F.Primary head suffixes)

pub names_signed : (signs : List UnaryOp) → (x : Expr) → target_names (e.Signed signs x) ≡ expressions.layer_names (map-Expr Expr (List (List ℕ)) target_names (Expr-F.Signed signs x))
unfolding target_names
names_signed signs x = ap target_names (sym (e.rolls-Signed signs x)) ∙ fold-roll-Expr (List (List ℕ)) expressions.layer_names (Expr-F.Signed signs x)

pub names_chain : (level : ChainLevel) → (first : Expr) → (links : List (Link Expr)) → target_names (e.Chain level first links) ≡ expressions.layer_names (map-Expr Expr (List (List ℕ)) target_names (Expr-F.Chain level first links))
unfolding target_names
names_chain level first links = ap target_names (sym (e.rolls-Chain level first links)) ∙ fold-roll-Expr (List (List ℕ)) expressions.layer_names (Expr-F.Chain level first links)

pub names_compare : (a : Expr) → (op : CompareOp) → (b : Expr) → target_names (e.Compare a op b) ≡ expressions.layer_names (map-Expr Expr (List (List ℕ)) target_names (Expr-F.Compare a op b))
unfolding target_names
names_compare a op b = ap target_names (sym (e.rolls-Compare a op b)) ∙ fold-roll-Expr (List (List ℕ)) expressions.layer_names (Expr-F.Compare a op b)

pub names_not : (count : ℕ) → (x : Expr) → target_names (e.Not count x) ≡ expressions.layer_names (map-Expr Expr (List (List ℕ)) target_names (Expr-F.Not count x))
unfolding target_names
names_not count x = ap target_names (sym (e.rolls-Not count x)) ∙ fold-roll-Expr (List (List ℕ)) expressions.layer_names (Expr-F.Not count x)

pub names_conditional : (arms : List (Arm Expr)) → (last : Expr) → target_names (e.Conditional arms last) ≡ expressions.layer_names (map-Expr Expr (List (List ℕ)) target_names (Expr-F.Conditional arms last))
unfolding target_names
names_conditional arms last = ap target_names (sym (e.rolls-Conditional arms last)) ∙ fold-roll-Expr (List (List ℕ)) expressions.layer_names (Expr-F.Conditional arms last)

pub bound_line : (line : Line) → statement_names (s.Line line) ≡ layer_names (map-Statement Statement (List (List ℕ)) statement_names (Statement-F.Line line))
unfolding statement_names
bound_line line = ap statement_names (sym (s.rolls-Line line)) ∙ fold-roll-Statement (List (List ℕ)) layer_names (Statement-F.Line line)

pub bound_if : (at : ℕ) → (first : Branch Statement) → (more : List (Branch Statement)) → (other : Option (Block Statement)) → statement_names (s.If at first more other) ≡ layer_names (map-Statement Statement (List (List ℕ)) statement_names (Statement-F.If at first more other))
unfolding statement_names
bound_if at first more other = ap statement_names (sym (s.rolls-If at first more other)) ∙ fold-roll-Statement (List (List ℕ)) layer_names (Statement-F.If at first more other)

pub bound_for : (at : ℕ) → (targets : List Expr) → (over : List Expr) → (body : Block Statement) → statement_names (s.For at targets over body) ≡ layer_names (map-Statement Statement (List (List ℕ)) statement_names (Statement-F.For at targets over body))
unfolding statement_names
bound_for at targets over body = ap statement_names (sym (s.rolls-For at targets over body)) ∙ fold-roll-Statement (List (List ℕ)) layer_names (Statement-F.For at targets over body)

pub bound_def : (at : ℕ) → (def : Definition Statement) → statement_names (s.Def at def) ≡ layer_names (map-Statement Statement (List (List ℕ)) statement_names (Statement-F.Def at def))
unfolding statement_names
bound_def at def = ap statement_names (sym (s.rolls-Def at def)) ∙ fold-roll-Statement (List (List ℕ)) layer_names (Statement-F.Def at def)

pub def_line : (line : Line) → def_of (s.Line line) ≡ layer_def (Statement-F.Line line)
unfolding def_of
def_line line = ap def_of (sym (s.rolls-Line line)) ∙ ap layer_def (out-roll-Statement (Statement-F.Line line))

pub def_if : (at : ℕ) → (first : Branch Statement) → (more : List (Branch Statement)) → (other : Option (Block Statement)) → def_of (s.If at first more other) ≡ layer_def (Statement-F.If at first more other)
unfolding def_of
def_if at first more other = ap def_of (sym (s.rolls-If at first more other)) ∙ ap layer_def (out-roll-Statement (Statement-F.If at first more other))

pub def_for : (at : ℕ) → (targets : List Expr) → (over : List Expr) → (body : Block Statement) → def_of (s.For at targets over body) ≡ layer_def (Statement-F.For at targets over body)
unfolding def_of
def_for at targets over body = ap def_of (sym (s.rolls-For at targets over body)) ∙ ap layer_def (out-roll-Statement (Statement-F.For at targets over body))

pub def_def : (at : ℕ) → (def : Definition Statement) → def_of (s.Def at def) ≡ layer_def (Statement-F.Def at def)
unfolding def_of
def_def at def = ap def_of (sym (s.rolls-Def at def)) ∙ ap layer_def (out-roll-Statement (Statement-F.Def at def))

-- ---- what may nest so deep: one level less inside

quoted_step : {C : Type 0} (naming : Naming C) (n : ℕ) (v : Value) (s : Store C) → quoted_in naming (suc n) v s ≡ quoted_at naming (Some (quoted_in naming n)) (out-Value v) s
unfolding quoted_in
quoted_step naming n v s = refl

compared_step : {C : Type 0} (by_length : Bool) (n : ℕ) (a b : Value) (s : Store C) → compared by_length (suc n) a b s ≡ (charge (own_part a b) >> look by_length (Some (compared by_length n)) (out-Value a) (out-Value b)) s
unfolding compared
compared_step by_length n a b s = refl

call_step : {C : Type 0} (setting : Setting C) (n id : ℕ) (vs : List Value) (named : ByName) (w : World C) → call_to setting (suc n) id vs named w ≡ (reading (λ s. function s id) >>= (λ parts. run_function setting (call_to setting n) id parts vs named)) w
unfolding call_to
call_step setting n id vs named w = refl

pub quoted_64 : {C : Type 0} (naming : Naming C) (v : Value) (s : Store C) → quoted_in naming 64 v s ≡ quoted_at naming (Some (quoted_in naming 63)) (out-Value v) s
quoted_64 naming v s = quoted_step naming 63 v s

pub compared_64 : {C : Type 0} (by_length : Bool) (a b : Value) (s : Store C) → compared by_length 64 a b s ≡ (charge (own_part a b) >> look by_length (Some (compared by_length 63)) (out-Value a) (out-Value b)) s
compared_64 by_length a b s = compared_step by_length 63 a b s

pub quoted_63 : {C : Type 0} (naming : Naming C) (v : Value) (s : Store C) → quoted_in naming 63 v s ≡ quoted_at naming (Some (quoted_in naming 62)) (out-Value v) s
quoted_63 naming v s = quoted_step naming 62 v s

pub compared_63 : {C : Type 0} (by_length : Bool) (a b : Value) (s : Store C) → compared by_length 63 a b s ≡ (charge (own_part a b) >> look by_length (Some (compared by_length 62)) (out-Value a) (out-Value b)) s
compared_63 by_length a b s = compared_step by_length 62 a b s

pub quoted_62 : {C : Type 0} (naming : Naming C) (v : Value) (s : Store C) → quoted_in naming 62 v s ≡ quoted_at naming (Some (quoted_in naming 61)) (out-Value v) s
quoted_62 naming v s = quoted_step naming 61 v s

pub compared_62 : {C : Type 0} (by_length : Bool) (a b : Value) (s : Store C) → compared by_length 62 a b s ≡ (charge (own_part a b) >> look by_length (Some (compared by_length 61)) (out-Value a) (out-Value b)) s
compared_62 by_length a b s = compared_step by_length 61 a b s

pub call_32 : {C : Type 0} (setting : Setting C) (id : ℕ) (vs : List Value) (named : ByName) (w : World C) → call_to setting 32 id vs named w ≡ (reading (λ s. function s id) >>= (λ parts. run_function setting (call_to setting 31) id parts vs named)) w
call_32 setting id vs named w = call_step setting 31 id vs named w

pub call_31 : {C : Type 0} (setting : Setting C) (id : ℕ) (vs : List Value) (named : ByName) (w : World C) → call_to setting 31 id vs named w ≡ (reading (λ s. function s id) >>= (λ parts. run_function setting (call_to setting 30) id parts vs named)) w
call_31 setting id vs named w = call_step setting 30 id vs named w

pub ruleset layers = (quoted_64, compared_64, quoted_63, compared_63, quoted_62, compared_62, call_32, call_31, out_key_none, out_key_bool, out_key_int, out_key_text, out_key_tuple, same_none, same_bool, same_int, same_text, same_tuple, out_none, out_bool, out_int, out_text, out_tuple, out_range, out_list, out_dict, out_function, out_builtin, weight_none, weight_bool, weight_int, weight_text, weight_tuple, weight_range, weight_list, weight_dict, weight_function, weight_builtin, depth_none, depth_bool, depth_int, depth_text, depth_tuple, depth_range, depth_list, depth_dict, depth_function, depth_builtin, key_none, key_bool, key_int, key_text, key_tuple, key_range, key_list, key_dict, key_function, key_builtin, value_none, value_bool, value_int, value_text, value_tuple, meant_name, meant_int, meant_text, meant_none, meant_true, meant_false, meant_paren, meant_tuple, meant_list, meant_listover, meant_dict, meant_dictover, meant_primary, meant_signed, meant_chain, meant_compare, meant_not, meant_conditional, statement_line, statement_if, statement_for, statement_def, names_name, names_int, names_text, names_none, names_true, names_false, names_paren, names_tuple, names_list, names_listover, names_dict, names_dictover, names_primary, names_signed, names_chain, names_compare, names_not, names_conditional, bound_line, bound_if, bound_for, bound_def, def_line, def_if, def_for, def_def)

-- what is written of values whose parts are known
pub ruleset values_shown = (out_none, out_bool, out_int, out_text, out_tuple, out_range, out_list, out_dict, out_function, out_builtin, weight_none, weight_bool, weight_int, weight_text, weight_tuple, weight_range, weight_list, weight_dict, weight_function, weight_builtin, value_none, value_bool, value_int, value_text, value_tuple, quoted_64, quoted_63, quoted_62)
