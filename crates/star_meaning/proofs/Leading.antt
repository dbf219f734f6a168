-- What holds of each part of a cell by itself: steps are only spent, what is iterated over stays what it was, and the same functions
-- are active again where steps do not fail.
use Rattle.std.proofs.Common.{ℕ, List, [], ◌∷◌, map, Bool, refl}
use Rattle.std.specs.Prelude.{Option, Some, None, option_map}
use Rattle.std.specs.List.{flat_map}
use Rattle.star_syntax.specs.Placement.{all_findings, expr_findings, in_cell, kind_findings, line_findings, seen, small_findings, statement_findings}
use Rattle.star_syntax.specs.declared.expression.Arm.{Arm}
use Rattle.star_syntax.specs.declared.expression.Clause.{Clause}
use Rattle.star_syntax.specs.declared.expression.Clause.TheVariants as clause
use Rattle.star_syntax.specs.declared.expression.Expr.{Expr}
use Rattle.star_syntax.specs.declared.expression.Link.{Link}
use Rattle.star_syntax.specs.declared.expression.Named.{Named}
use Rattle.star_syntax.specs.declared.expression.Pair.{Pair}
use Rattle.star_syntax.specs.declared.expression.Suffix.{Suffix}
use Rattle.star_syntax.specs.declared.expression.Suffix.TheVariants as suffix
use Rattle.star_syntax.specs.declared.operator.BinaryOp.{BinaryOp}
use Rattle.star_syntax.specs.declared.statement.Block.{Block}
use Rattle.star_syntax.specs.declared.statement.Definition.{Definition}
use Rattle.star_syntax.specs.declared.statement.Line.{Line}
use Rattle.star_syntax.specs.declared.statement.Small.{Small}
use Rattle.star_syntax.specs.declared.statement.SmallKind.{SmallKind}
use Rattle.star_syntax.specs.declared.statement.Statement.{Statement}
use Rattle.star_value.specs.declared.key.Key.{Key}
use Rattle.star_value.specs.declared.value.Value.{Value}
use Rattle.star_meaning.specs.declared.flow.Flow.{Flow}
use Rattle.star_meaning.specs.Steps.{Steps}
use Rattle.star_meaning.specs.Builtins.{ByName}
use Rattle.star_meaning.specs.World.{Course, Work, World}
use Rattle.star_meaning.specs.Expressions.{Callee, Setting, called, chained, chosen, clauses_from, comprehension, display_pairs, primary, loop_over, meant, method_called, named_values, next_item, parts, place, read_input, store_at, store_in, suffix_value, suffixed, tests_value, values}
use Rattle.star_meaning.specs.Statements.{Filled, body_of, call_to, condition_of, echo_if, for_turns, in_sequence, iterated, kind_of, line_of, operator, run_body, small_of, statement_of}
use Rattle.star_meaning.specs.Cells.{statements_from}
use Rattle.star_meaning.specs.Reading.{body_findings}
use Rattle.star_meaning.specs.Renaming.{Names, SameCallee, SameMeant}
use Rattle.star_meaning.proofs.Alone.{LeadsOn, itself, leads_alone, leads_of, own}
use Rattle.star_meaning.proofs.ReadingLemmas.{all_findings_in, all_uses_in, may_read_all}
use Rattle.star_meaning.proofs.Equations.{clause_meant}
use Rattle.star_meaning.proofs.Forms.{arm_meant, link_meant, named_meant, pair_meant, suffix_meant}
use Rattle.star_meaning.proofs.RenamedExpressions.{Each, Both, Alike, AlikeClause, AlikeNamed, AlikePair, same_clauses_from, same_comprehension, same_display_pairs, same_loop_over, same_method_called, same_next_item, same_store_at, same_store_in, same_tests_value, same_values}
use Rattle.star_meaning.proofs.RenamedForms.{AlikeArm, AlikeLink, AlikeSuffix, front_alike, same_called, same_chained, same_chosen, same_meant, same_named_values, same_parts, same_place, same_read_input, same_suffix_value, same_suffixed}
use Rattle.star_meaning.proofs.RenamedStatements.{same_body, same_call_to, same_condition, same_echo_if, same_for_turns, same_in_sequence, same_iterated, same_kind_of, same_line_of, same_operator, same_run_body, same_small_of, same_statement}
use Rattle.star_meaning.proofs.RenamedCells.{same_statements_from}

module _ {C : Type 0} (setting : Setting C) (n : ℕ) where
  -- steps in this setting, while so many more functions may become active
  abbrev pub Leading : {E A : Type 0} → Steps (World C) E A → Type 0
  Leading p = LeadsOn setting.cell p

  abbrev call : Callee C
  call = call_to setting n

  abbrev ours : Names C C
  ours = own setting.cell

  calls : SameCallee ours call call
  calls = same_call_to ours setting setting (itself setting) n

  of : (e : Expr) → SameMeant ours (meant setting call e) (meant setting call e)
  of e = same_meant ours setting setting (itself setting) call call calls e (all_uses_in (seen e).uses)

  all_of : (es : List Expr) → Each (Alike ours) (map (meant setting call) es) (map (meant setting call) es)
  all_of [] = tt
  all_of (e ∷ es) = (of e, all_of es)

  both_of : (o : Option Expr) → Both (Alike ours) (option_map (meant setting call) o) (option_map (meant setting call) o)
  both_of None = tt
  both_of (Some e) = of e

  step_of : (o : Option (Option Expr)) → Both (Both (Alike ours)) (option_map (option_map (meant setting call)) o) (option_map (option_map (meant setting call)) o)
  step_of None = tt
  step_of (Some o) = both_of o

  links_of : (xs : List (Link Expr)) → Each (AlikeLink ours setting setting (itself setting) call call calls) (map (link_meant setting call) xs) (map (link_meant setting call) xs)
  links_of [] = tt
  links_of (x ∷ xs) = (record { op_is = refl; operand_is = of x.operand }, links_of xs)

  pairs_of : (xs : List (Pair Expr)) → Each (AlikePair ours) (map (pair_meant setting call) xs) (map (pair_meant setting call) xs)
  pairs_of [] = tt
  pairs_of (x ∷ xs) = (record { key_is = of x.key; value_is = of x.value }, pairs_of xs)

  named_of : (xs : List (Named Expr)) → Each (AlikeNamed ours) (map (named_meant setting call) xs) (map (named_meant setting call) xs)
  named_of [] = tt
  named_of (x ∷ xs) = (record { name_is = refl; value_is = of x.value }, named_of xs)

  arms_of : (xs : List (Arm Expr)) → Each (AlikeArm ours setting setting (itself setting) call call calls) (map (arm_meant setting call) xs) (map (arm_meant setting call) xs)
  arms_of [] = tt
  arms_of (x ∷ xs) = (record { value_is = of x.value; condition_is = of x.condition }, arms_of xs)

  clause_of : (x : Clause Expr) → AlikeClause ours (clause_meant setting call x) (clause_meant setting call x)
  clause_of (clause.For targets over) = (all_of targets, of over)
  clause_of (clause.If condition) = of condition

  clauses_of : (xs : List (Clause Expr)) → Each (AlikeClause ours) (map (clause_meant setting call) xs) (map (clause_meant setting call) xs)
  clauses_of [] = tt
  clauses_of (x ∷ xs) = (clause_of x, clauses_of xs)

  suffix_of : (x : Suffix Expr) → AlikeSuffix ours setting setting (itself setting) call call calls (suffix_meant setting call x) (suffix_meant setting call x)
  suffix_of (suffix.Index at) = of at
  suffix_of (suffix.Slice start stop by) = (both_of start, both_of stop, step_of by)
  suffix_of (suffix.Call given) = (all_of given.positional, named_of given.named, refl)
  suffix_of (suffix.Method name given) = (refl, (all_of given.positional, named_of given.named, refl))

  suffixes_of : (xs : List (Suffix Expr)) → Each (AlikeSuffix ours setting setting (itself setting) call call calls) (map (suffix_meant setting call) xs) (map (suffix_meant setting call) xs)
  suffixes_of [] = tt
  suffixes_of (x ∷ xs) = (suffix_of x, suffixes_of xs)

  -- ---- expressions

  pub value_leads : (e : Expr) → Leading (meant setting call e).value
  value_leads e = leads_of setting.cell _ _ (of e).value

  pub store_leads : (e : Expr) (v : Value) → Leading ((meant setting call e).store v)
  store_leads e v = leads_of setting.cell _ _ ((of e).store v)

  pub update_leads : (e : Expr) (f : Value → Work C Value) → ((v : Value) → Leading (f v)) → Leading ((meant setting call e).update f)
  update_leads e f h = leads_of setting.cell _ _ ((of e).update f f (λ v. leads_alone setting.cell (f v) (h v)))

  pub values_leads : (es : List Expr) → Leading (values (map (meant setting call) es))
  values_leads es = leads_of setting.cell _ _ (same_values ours _ _ (all_of es))

  pub named_leads : (xs : List (Named Expr)) → Leading (named_values (map (named_meant setting call) xs))
  named_leads xs = leads_of setting.cell _ _ (same_named_values ours setting setting (itself setting) call call calls _ _ (named_of xs))

  pub tests_leads : (es : List Expr) → Leading (tests_value (map (meant setting call) es))
  tests_leads es = leads_of setting.cell _ _ (same_tests_value ours _ _ (all_of es))

  pub pairs_leads : (done : List (Key × Value)) (xs : List (Pair Expr)) → Leading (display_pairs done (map (pair_meant setting call) xs))
  pairs_leads done xs = leads_of setting.cell _ _ (same_display_pairs ours done _ _ (pairs_of xs))

  pub chained_leads : (xs : List (Link Expr)) (v : Value) → Leading (chained setting call (map (link_meant setting call) xs) v)
  chained_leads xs v = leads_of setting.cell _ _ (same_chained ours setting setting (itself setting) call call calls _ _ (links_of xs) v)

  pub chosen_leads : (xs : List (Arm Expr)) (e : Expr) → Leading (chosen setting call (map (arm_meant setting call) xs) (meant setting call e))
  chosen_leads xs e = leads_of setting.cell _ _ (same_chosen ours setting setting (itself setting) call call calls _ _ _ _ (arms_of xs) (of e))

  pub suffix_leads : (x : Suffix Expr) (v : Value) → Leading (suffix_value setting call (suffix_meant setting call x) v)
  suffix_leads x v = leads_of setting.cell _ _ (same_suffix_value ours setting setting (itself setting) call call calls _ _ (suffix_of x) v)

  pub suffixed_leads : (xs : List (Suffix Expr)) (v : Value) → Leading (suffixed setting call (map (suffix_meant setting call) xs) v)
  suffixed_leads xs v = leads_of setting.cell _ _ (same_suffixed ours setting setting (itself setting) call call calls _ _ (suffixes_of xs) v)

  pub front_leads : (e : Expr) (xs : List (Suffix Expr)) → Leading (primary setting call (meant setting call e) (map (suffix_meant setting call) xs)).0
  front_leads e xs = leads_of setting.cell _ _ (front_alike ours setting setting (itself setting) call call calls _ _ _ _ (of e) (suffixes_of xs) (may_read_all _)).0

  pub place_leads : (e : Expr) (xs : List (Suffix Expr)) → Leading (place setting call (meant setting call e) (map (suffix_meant setting call) xs))
  place_leads e xs = leads_of setting.cell _ _ (same_place ours setting setting (itself setting) call call calls _ _ _ _ (of e) (suffixes_of xs) (may_read_all _))

  pub parts_leads : (xs : List (Suffix Expr)) (v : Value) → Leading (parts setting call (map (suffix_meant setting call) xs) v)
  parts_leads xs v = leads_of setting.cell _ _ (same_parts ours setting setting (itself setting) call call calls _ _ (suffixes_of xs) v)

  pub input_leads : (name : List ℕ) → Leading (read_input setting name)
  input_leads name = leads_of setting.cell _ _ (same_read_input ours setting setting (itself setting) call call calls name refl)

  -- a call of a value, and of a method
  pub called_leads : (f : Value) (vs : List Value) (named : ByName) → Leading (called setting call f vs named)
  called_leads f vs named = leads_of setting.cell _ _ (same_called ours setting setting (itself setting) call call calls f vs named)

  pub method_leads : (name : List ℕ) (x : Value) (vs : List Value) (named : ByName) → Leading (method_called name x vs named)
  method_leads name x vs named = leads_of setting.cell _ _ (same_method_called ours name x vs named)

  pub store_at_leads : (x at v : Value) → Leading (store_at x at v)
  store_at_leads x at v = leads_of setting.cell _ _ (same_store_at ours x at v)

  -- ---- targets and turns

  pub store_in_leads : (es : List Expr) (v : Value) → Leading (store_in (map (meant setting call) es) v)
  store_in_leads es v = leads_of setting.cell _ _ (same_store_in ours _ _ (all_of es) v)

  pub next_item_leads : (es : List Expr) (v : Value) → Leading (next_item (map (meant setting call) es) v)
  next_item_leads es v = leads_of setting.cell _ _ (same_next_item ours _ _ (all_of es) v)

  module _ {A : Type 0} (inner : A → Work C A) (inner_leads : (a : A) → Leading (inner a)) where
    pub clauses_leads : (xs : List (Clause Expr)) (a : A) → Leading (clauses_from (map (clause_meant setting call) xs) inner a)
    clauses_leads xs a = leads_of setting.cell _ _ (same_clauses_from ours inner inner (λ b. leads_alone setting.cell (inner b) (inner_leads b)) _ _ (clauses_of xs) a)

    pub comprehension_leads : (xs : List (Clause Expr)) (a : A) → Leading (comprehension (map (clause_meant setting call) xs) inner a)
    comprehension_leads xs a = leads_of setting.cell _ _ (same_comprehension ours inner inner (λ b. leads_alone setting.cell (inner b) (inner_leads b)) _ _ (clauses_of xs) a)

  pub loop_leads : {A : Type 0} (turn : Value → A → Work C A) → ((v : Value) (a : A) → Leading (turn v a)) → (v : Value) (a : A) → Leading (loop_over turn v a)
  loop_leads turn h v a = leads_of setting.cell _ _ (same_loop_over ours turn turn (λ x b. leads_alone setting.cell (turn x b) (h x b)) v a)

  -- ---- statements

  pub operator_leads : (op : BinaryOp) (x y : Value) → Leading (operator setting call op x y)
  operator_leads op x y = leads_of setting.cell _ _ (same_operator ours setting setting (itself setting) call call calls op x y)

  pub echo_leads : (b : Bool) (v : Value) → Leading (echo_if setting call b v)
  echo_leads b v = leads_of setting.cell _ _ (same_echo_if ours setting setting (itself setting) call call calls b v)

  pub kind_leads : (last : Bool) (k : SmallKind) → Leading (kind_of setting call last k)
  kind_leads last k = leads_of setting.cell _ _ (same_kind_of ours setting setting (itself setting) call call calls in_cell 0 last k (all_findings_in (kind_findings in_cell 0 k)))

  pub small_leads : (last : Bool) (s : Small) → Leading (small_of setting call last s)
  small_leads last s = leads_of setting.cell _ _ (same_small_of ours setting setting (itself setting) call call calls in_cell last s (all_findings_in (small_findings in_cell s)))

  pub line_leads : (last : Bool) (line : Line) → Leading (line_of setting call last line)
  line_leads last line = leads_of setting.cell _ _ (same_line_of ours setting setting (itself setting) call call calls in_cell last line (all_findings_in (line_findings in_cell line)))

  pub condition_leads : (at : ℕ) (e : Expr) → Leading (condition_of setting call at e)
  condition_leads at e = leads_of setting.cell _ _ (same_condition ours setting setting (itself setting) call call calls at e (all_findings_in (expr_findings at e)))

  pub iterated_leads : (over : List Expr) → Leading (iterated setting call over)
  iterated_leads over = leads_of setting.cell _ _ (same_iterated ours setting setting (itself setting) call call calls 0 over (all_findings_in (all_findings 0 over)))

  pub statement_leads : (s : Statement) (last : Bool) (number : Option ℕ) → Leading (statement_of setting call s last number)
  statement_leads s last number = leads_of setting.cell _ _ (same_statement ours setting setting (itself setting) call call calls s in_cell (all_findings_in (statement_findings s in_cell)) last number)

  pub body_leads : (body : Block Statement) → Leading (body_of setting call body)
  body_leads body = leads_of setting.cell _ _ (same_body ours setting setting (itself setting) call call calls body (all_findings_in (body_findings body)))

  pub statements_leads : (number : ℕ) (ss : List Statement) → Leading (statements_from setting call number ss)
  statements_leads number ss = leads_of setting.cell _ _ (same_statements_from ours setting setting (itself setting) call call calls number ss (all_findings_in (flat_map (λ s. statement_findings s in_cell) ss)))

  pub turns_of_for_leads : (next : Value → Course C (Unit {0})) (body : Course C Flow) → ((v : Value) → Leading (next v)) → Leading body → (xs : List Value) → Leading (for_turns next body xs)
  turns_of_for_leads next body h k xs = leads_of setting.cell _ _ (same_for_turns ours next next body body (λ v. leads_alone setting.cell (next v) (h v)) (leads_alone setting.cell body k) xs)

  pub in_sequence_leads : {S : Type 0} (f : Bool → S → Course C Flow) → ((last : Bool) (s : S) → Leading (f last s)) → (last : Bool) (ss : List S) → Leading (in_sequence f last ss)
  in_sequence_leads f h last ss = leads_of setting.cell _ _ (same_in_sequence ours f f (λ b s. leads_alone setting.cell (f b s) (h b s)) last ss)

  -- ---- calls of functions

  pub call_leads : (id : ℕ) (vs : List Value) (named : ByName) → Leading (call id vs named)
  call_leads id vs named = leads_of setting.cell _ _ (calls id vs named)

  pub run_body_leads : (def : Definition Statement) (id : ℕ) (all : List Filled) → Leading (run_body setting call def id all)
  run_body_leads def id all = leads_of setting.cell _ _ (same_run_body ours setting setting (itself setting) call call calls def (all_findings_in (body_findings def.body)) id all)
