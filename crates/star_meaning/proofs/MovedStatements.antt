-- Statements and calls do the same with other numbers of objects.
use Rattle.std.proofs.Common.{◌≡◌, ◌≤◌, ℕ, zero, suc, List, [], ◌∷◌, ◌++◌, map, Bool, true, false, refl, sym, ap, arith, subst, ◌∙◌}
use Rattle.std.proofs.lemmas.List.{map-append}
use Rattle.std.specs.Prelude.{Option, Some, None, option_map, ◌&&◌, not, sum, if◌then◌else◌, bytes_eq}
use Rattle.std.specs.List.{cons_option, filter, list_all}
use Rattle.star_syntax.specs.declared.expression.Expr.{Expr}
use Rattle.star_syntax.specs.declared.expression.Named.{Named}
use Rattle.star_syntax.specs.declared.operator.BinaryOp.{BinaryOp}
use Rattle.star_syntax.specs.declared.statement.Block.{Block}
use Rattle.star_syntax.specs.declared.statement.Block.TheVariants as blocks
use Rattle.star_syntax.specs.declared.statement.Branch.{Branch}
use Rattle.star_syntax.specs.declared.statement.Definition.{Definition}
use Rattle.star_syntax.specs.declared.statement.Line.{Line}
use Rattle.star_syntax.specs.declared.statement.Small.{Small}
use Rattle.star_syntax.specs.declared.statement.SmallKind.{SmallKind}
use Rattle.star_syntax.specs.declared.statement.SmallKind.TheVariants as small
use Rattle.star_syntax.specs.declared.statement.Statement.{Statement, fold-roll-Statement, ind-Statement, map-Statement, roll-Statement}
use Rattle.star_syntax.specs.declared.statement.Statement.TheOpen.{Statement-F}
use Rattle.star_value.specs.declared.failure.Failure.{Failure}
use Rattle.star_value.specs.declared.value.Value.{Value}
use Rattle.star_value.specs.declared.value.Value.TheOpen.{Value-F}
use Rattle.star_value.specs.declared.value.Value.TheVariants as value
use Rattle.star_meaning.specs.declared.flow.Flow.{Flow}
use Rattle.star_meaning.specs.declared.flow.Flow.TheVariants as flow
use Rattle.star_meaning.specs.Steps.{Outcome, Went, Failed, ◌>>=◌}
use Rattle.star_meaning.specs.Values.{is_empty}
use Rattle.star_meaning.specs.Showing.{made, quoted, ◌<+>◌}
use Rattle.star_meaning.specs.Operators as operators
use Rattle.star_meaning.specs.Builtins.{ByName}
use Rattle.star_meaning.specs.World.{World, Work, Fault, Course, acting, distinct, is_among, lock_of, locking, operate, unbound, write}
use Rattle.star_meaning.specs.World as world
use Rattle.star_meaning.specs.Expressions.{Setting, Callee, meant, naming, next_item, tests_value}
use Rattle.star_meaning.specs.Statements.{Doing, Filled, Parameter, after_turn, all_meant, block_of, body_names, body_of, branches_of, call_to, condition_of, cons_some, default_names, default_weight, defined, echo, echo_at, echo_if, else_of, ended, filled, filled_by_name, filled_from, for_turns, given_by, go_on, in_sequence, iterated, kind_of, layer_of, line_of, local_block, operator, parameters_of, repeated, result_of, returned, run_body, run_defined, run_filled, run_function, small_of, statement_of, then_on}
use Rattle.star_meaning.proofs.MovedValues.{Moving, by_out, layer, moved, moved_none, weight_moved}
use Rattle.star_meaning.proofs.MovedLists.{cons_map}
use Rattle.star_meaning.proofs.Moved.{Lands, act_charge_is, act_new_function, reaches}
use Rattle.star_meaning.proofs.MovedComparing.{act_items_of, act_joined, act_made, act_quoted, function_moved, parts_to}
use Rattle.star_meaning.proofs.MovedOperators.{act_augmented}
use Rattle.star_meaning.proofs.MovedBuiltins.{named_to}
use Rattle.star_meaning.proofs.MovedWorld.{Goes, Goes_same, Goes_value, block_to, go_acting, go_bind, go_by_frame, go_charging, go_fail, go_if, go_in_function, go_located, go_locking, go_operate, go_pure, go_reading, go_then, go_write, lock_moved, of_world, slot_to, unbound_moved}
use Rattle.star_meaning.proofs.MovedExpressions.{Every, GoesCallee, GoesMeant, go_next_item, go_store_in, go_tests_value, go_truth, go_values}
use Rattle.star_meaning.proofs.MovedForms.{go_meant}

module _ (mv : Moving) where
  -- how a statement ends, with a moved result
  abbrev pub flow_to : Flow → Flow
  flow_to (flow.Return v) = flow.Return (moved mv v)
  flow_to flow.On = flow.On
  flow_to flow.Break = flow.Break
  flow_to flow.Continue = flow.Continue

  abbrev over_to : Value × List Value → Value × List Value
  over_to over = (moved mv over.0, map (moved mv) over.1)

  -- ---- parameters

  abbrev parameter_to : Parameter → Parameter
  parameter_to p = (p.0, option_map (moved mv) p.1)

  abbrev filled_to : Filled → Filled
  filled_to f = (f.0, moved mv f.1, option_map (moved mv) f.2)

  abbrev each : List Value → List Value
  each vs = map (moved mv) vs

  given_if : (b : Bool) (v : Value) → (if b then Some (moved mv v) else None) ≡ option_map (moved mv) (if b then Some v else None)
  given_if true v = refl
  given_if false v = refl

  given_moved : (n : ByName) (name : List ℕ) → given_by (named_to mv n) name ≡ each (given_by n name)
  given_moved [] name = refl
  given_moved (entry ∷ n) name =
      (λ j. cons_option (given_if (bytes_eq name entry.0) entry.1 j) (given_moved n name j)) ∙ cons_map (moved mv) (if bytes_eq name entry.0 then Some entry.1 else None) (given_by n name)

  default_moved : (name : List ℕ) (o : Option Value) → option_map (λ v. (name, v, Some v)) (option_map (moved mv) o) ≡ option_map filled_to (option_map (λ v. (name, v, Some v)) o)
  default_moved name None = refl
  default_moved name (Some v) = refl

  by_name_moved : (p : Parameter) (vs : List Value) → filled_by_name (parameter_to p) (each vs) ≡ option_map filled_to (filled_by_name p vs)
  by_name_moved p [] = default_moved p.0 p.1
  by_name_moved p (v ∷ []) = refl
  by_name_moved p (v ∷ u ∷ vs) = refl

  cons_moved : (o : Option Filled) (p : Option (List Filled)) → cons_some (option_map filled_to o) (option_map (map filled_to) p) ≡ option_map (map filled_to) (cons_some o p)
  cons_moved None None = refl
  cons_moved None (Some all) = refl
  cons_moved (Some f) None = refl
  cons_moved (Some f) (Some all) = refl

  placed_if : (b c : Bool) → c ≡ b → (o p : Option (List Filled)) → p ≡ option_map (map filled_to) o → (if c then p else None) ≡ option_map (map filled_to) (if b then o else None)
  placed_if b c e o p h = ap (λ d. if d then p else None) e ∙ by b
    where
      by : (b : Bool) → (if b then p else None) ≡ option_map (map filled_to) (if b then o else None)
      by true = h
      by false = refl

  no_given : (n : ByName) (name : List ℕ) → is_empty (given_by (named_to mv n) name) ≡ is_empty (given_by n name)
  no_given n name = ap is_empty (given_moved n name) ∙ by (given_by n name)
    where
      by : (vs : List Value) → is_empty (each vs) ≡ is_empty vs
      by [] = refl
      by (v ∷ vs) = refl

  from_moved : (ps : List Parameter) (vs : List Value) (n : ByName) → filled_from (map parameter_to ps) (each vs) (named_to mv n) ≡ option_map (map filled_to) (filled_from ps vs n)
  from_moved [] [] n = refl
  from_moved [] (v ∷ vs) n = refl
  from_moved (p ∷ ps) [] n =
      (λ j. cons_some (ap (filled_by_name (parameter_to p)) (given_moved n p.0) j) (from_moved ps [] n j))
      ∙ ap (λ o. cons_some o (option_map (map filled_to) (filled_from ps [] n))) (by_name_moved p (given_by n p.0)) ∙ cons_moved (filled_by_name p (given_by n p.0)) (filled_from ps [] n)
  from_moved (p ∷ ps) (v ∷ vs) n =
      placed_if (is_empty (given_by n p.0)) (is_empty (given_by (named_to mv n) p.0)) (no_given n p.0) (cons_some (Some (p.0, v, None)) (filled_from ps vs n)) _
      (ap (cons_some (Some (p.0, moved mv v, None))) (from_moved ps vs n) ∙ cons_moved (Some (p.0, v, None)) (filled_from ps vs n))

  names_moved : (ps : List Parameter) → map (λ p. p.0) (map parameter_to ps) ≡ map (λ p. p.0) ps
  names_moved [] = refl
  names_moved (p ∷ ps) = ap (λ r. p.0 ∷ r) (names_moved ps)

  known_moved : (names : List (List ℕ)) (n : ByName) → list_all (λ entry. is_among names entry.0) (named_to mv n) ≡ list_all (λ entry. is_among names entry.0) n
  known_moved names [] = refl
  known_moved names (entry ∷ n) = ap (λ b. is_among names entry.0 && b) (known_moved names n)

  filled_moved : (ps : List Parameter) (vs : List Value) (n : ByName) → filled (map parameter_to ps) (each vs) (named_to mv n) ≡ option_map (map filled_to) (filled ps vs n)
  unfolding filled
  filled_moved ps vs n =
      placed_if (list_all (λ entry. is_among (map (λ p. p.0) ps) entry.0) n) (list_all (λ entry. is_among (map (λ p. p.0) (map parameter_to ps)) entry.0) (named_to mv n))
      (ap (λ names. list_all (λ entry. is_among names entry.0) (named_to mv n)) (names_moved ps) ∙ known_moved (map (λ p. p.0) ps) n) (filled_from ps vs n) _ (from_moved ps vs n)

  weight_of_default : (f : Filled) → default_weight (filled_to f) ≡ default_weight f
  weight_of_default (name, v, None) = refl
  weight_of_default (name, v, Some d) = weight_moved mv d

  weights_of_defaults : (all : List Filled) → map default_weight (map filled_to all) ≡ map default_weight all
  weights_of_defaults [] = refl
  weights_of_defaults (f ∷ all) = λ j. weight_of_default f j ∷ weights_of_defaults all j

  filled_names : (all : List Filled) → map (λ f. f.0) (map filled_to all) ≡ map (λ f. f.0) all
  filled_names [] = refl
  filled_names (f ∷ all) = ap (λ r. f.0 ∷ r) (filled_names all)

  filled_slots : (all : List Filled) → map (λ f. (f.0, Some f.1)) (map filled_to all) ≡ block_to mv (map (λ f. (f.0, Some f.1)) all)
  filled_slots [] = refl
  filled_slots (f ∷ all) = ap (λ r. (f.0, Some (moved mv f.1)) ∷ r) (filled_slots all)

  abbrev others_of : Definition Statement → List (List ℕ) → world.Block
  others_of def names = unbound (filter (λ name. not (is_among names name)) (distinct (body_names def.body)))

  local_moved : (def : Definition Statement) (all : List Filled) → local_block def (map filled_to all) ≡ block_to mv (local_block def all)
  unfolding local_block
  local_moved def all =
      ap (λ names. map (λ f. (f.0, Some f.1)) (map filled_to all) ++ others_of def names) (filled_names all)
      ∙ ap (λ slots. slots ++ others_of def (map (λ f. f.0) all)) (filled_slots all)
      ∙ ap (λ rest. block_to mv (map (λ f. (f.0, Some f.1)) all) ++ rest) (sym (unbound_moved mv (filter (λ name. not (is_among (map (λ f. f.0) all) name)) (distinct (body_names def.body)))))
      ∙ sym (map-append (slot_to mv) (map (λ f. (f.0, Some f.1)) all) (others_of def (map (λ f. f.0) all)))

  defaults_moved : (ns : List (Named Expr)) (vs : List Value) → default_names ns (each vs) ≡ map parameter_to (default_names ns vs)
  defaults_moved [] vs = refl
  defaults_moved (n ∷ ns) [] = refl
  defaults_moved (n ∷ ns) (v ∷ vs) = ap (λ r. (n.name, Some (moved mv v)) ∷ r) (defaults_moved ns vs)

  required_moved : (names : List (List ℕ)) → map (λ name. (name, None)) names ≡ map parameter_to (map (λ name. (name, None)) names)
  required_moved [] = refl
  required_moved (n ∷ names) = ap (λ r. (n, None) ∷ r) (required_moved names)

  parameters_moved : (def : Definition Statement) (defaults : List Value) → parameters_of def (each defaults) ≡ map parameter_to (parameters_of def defaults)
  parameters_moved def defaults =
      (λ j. required_moved def.required j ++ defaults_moved def.defaults defaults j) ∙ sym (map-append parameter_to (map (λ name. (name, None)) def.required) (default_names def.defaults defaults))

module _ {C : Type 0} (mv : Moving) where
  -- a statement does the same with other numbers
  abbrev pub Flows : Course C Flow → Course C Flow → Type 0
  Flows p q = Goes {C = C} mv (flow_to mv) p q

  -- ---- one after another

  pub go_go_on : (p q : Course C Flow) → Flows p q → (f : Flow) → Flows (go_on p f) (go_on q (flow_to mv f))
  go_go_on p q h flow.On = h
  go_go_on p q h flow.Break = go_pure mv refl
  go_go_on p q h flow.Continue = go_pure mv refl
  go_go_on p q h (flow.Return v) = go_pure mv refl

  go_after_turn : (p q : Course C Flow) → Flows p q → (f : Flow) → Flows (after_turn p f) (after_turn q (flow_to mv f))
  go_after_turn p q h flow.On = h
  go_after_turn p q h flow.Continue = h
  go_after_turn p q h flow.Break = go_pure mv refl
  go_after_turn p q h (flow.Return v) = go_pure mv refl

  go_for_turns : (f : Value → Course C (Unit {0})) (p : Course C Flow) → ((v : Value) → Goes_same {C = C} mv (f v) (f (moved mv v))) → Flows p p → (xs : List Value) → Flows (for_turns f p xs) (for_turns f p (map (moved mv) xs))
  go_for_turns f p h k [] = go_pure mv refl
  go_for_turns f p h k (x ∷ xs) = go_then mv _ (go_then mv _ (h x) (λ _. k)) (go_after_turn _ _ (go_for_turns f p h k xs))

  abbrev pub GoesDoing : Doing C → Type 0
  GoesDoing d = (last : Bool) (number : Option ℕ) → Flows (d last number) (d last number)

  -- statements in a block
  go_block : (ds : List (Doing C)) → Every GoesDoing ds → Flows (in_sequence (λ last s. s false None) false ds) (in_sequence (λ last s. s false None) false ds)
  go_block [] h = go_pure mv refl
  go_block (d ∷ ds) h = go_then mv _ (h.0 false None) (go_go_on _ _ (go_block ds h.1))

  ended_reaches : (o : Outcome (World C) Fault Flow) → reaches (of_world mv) (ended o) ≡ reaches (of_world mv) o
  ended_reaches (Went flow.On w) = refl
  ended_reaches (Went flow.Break w) = refl
  ended_reaches (Went flow.Continue w) = refl
  ended_reaches (Went (flow.Return v) w) = refl
  ended_reaches (Failed fault w) = refl

  none_went : (w : World C) → ◌≡◌ {A = Outcome (World C) Failure Value} (Went value.None w) (Went (moved mv value.None) w)
  none_went w = ap (λ v. Went v w) (sym (moved_none mv))

  ended_lands : (o q : Outcome (World C) Fault Flow) → Lands (of_world mv) mv (flow_to mv) o q → Lands (of_world mv) mv (moved mv) (ended o) (ended q)
  ended_lands (Went flow.On w) q r = record { to = r.to; within = r.within; is = ap ended r.is ∙ none_went _ }
  ended_lands (Went flow.Break w) q r = record { to = r.to; within = r.within; is = ap ended r.is ∙ none_went _ }
  ended_lands (Went flow.Continue w) q r = record { to = r.to; within = r.within; is = ap ended r.is ∙ none_went _ }
  ended_lands (Went (flow.Return v) w) q r = record { to = r.to; within = r.within; is = ap ended r.is }
  ended_lands (Failed fault w) q r = record { to = r.to; within = r.within; is = ap ended r.is }

  go_result_of : (p q : Course C Flow) → Flows p q → Goes_value {C = C} mv (result_of p) (result_of q)
  go_result_of p q h = record {
    grows = λ w. let same = ended_reaches (p w) in let more = h.grows w in omega (arith, same, more);
    at = λ w t i b.
        let room : reaches (of_world mv) (p w) ≤ mv.bound = omega (arith, ended_reaches (p w)) in ended_lands (p w) _ (h.at w t i room);
  }

  module _ (st : Setting C) (c : Callee C) (calls : GoesCallee mv c) where
    go_of : (e : Expr) → GoesMeant mv (meant st c e)
    go_of e = go_meant mv st c calls e

    each_meant : (es : List Expr) → Every (GoesMeant mv) (all_meant st c es)
    each_meant [] = tt
    each_meant (e ∷ es) = (go_of e, each_meant es)

    go_tests : (es : List Expr) → Goes_value {C = C} mv (tests_value (all_meant st c es)) (tests_value (all_meant st c es))
    go_tests es = go_tests_value mv _ (each_meant es)

    -- ---- small statements

    go_written : (v : Value) → Goes_same {C = C} mv (acting (quoted (naming st) v <+> made (10 ∷ [])) >>= write) (acting (quoted (naming st) (moved mv v) <+> made (10 ∷ [])) >>= write)
    go_written v = go_then mv _ (go_acting mv (act_joined mv (act_quoted mv (naming st) v) (act_made mv (10 ∷ [])))) (go_write mv)

    go_echo_at : (v : Value) (x : Value-F Value) → Goes_same {C = C} mv (echo_at st c x v) (echo_at st c (layer mv x) (moved mv v))
    go_echo_at v Value-F.None = go_pure mv refl
    go_echo_at v _ = go_written v

    go_echo_if : (b : Bool) (v : Value) → Goes_same {C = C} mv (echo_if st c b v) (echo_if st c b (moved mv v))
    unfolding echo
    go_echo_if true v = by_out mv (λ x y. Goes_same {C = C} mv (echo_at st c x v) (echo_at st c y (moved mv v))) (go_echo_at v) v
    go_echo_if false v = go_pure mv refl

    go_returned : (es : List Expr) → Goes_value {C = C} mv (returned st c (all_meant st c es)) (returned st c (all_meant st c es))
    go_returned [] = go_pure mv (sym (moved_none mv))
    go_returned (e ∷ es) = go_tests (e ∷ es)

    go_operator : (o : BinaryOp) (x y : Value) → Goes_value {C = C} mv (operator st c o x y) (operator st c o (moved mv x) (moved mv y))
    go_operator o x y =
        go_by_frame mv (moved mv) (λ frame. operate (operators.augmented (naming st) frame.locked o x y)) (λ frame. operate (operators.augmented (naming st) frame.locked o (moved mv x) (moved mv y)))
        (λ frame. go_operate mv (act_augmented mv (naming st) frame.locked o x y))

    go_then_on : {A : Type 0} (f : A → A) (p q : Work C A) → Goes {C = C} mv f p q → Goes {C = C} mv (flow_to mv) (then_on st c p) (then_on st c q)
    go_then_on f p q h = go_then mv _ h (λ _. go_pure mv refl)

    go_kind_of : (last : Bool) (k : SmallKind) → Goes {C = C} mv (flow_to mv) (kind_of st c last k) (kind_of st c last k)
    unfolding kind_of
    go_kind_of last (small.Return tests) = go_then mv _ (go_returned tests) (λ v. go_pure mv refl)
    go_kind_of last small.Break = go_pure mv refl
    go_kind_of last small.Continue = go_pure mv refl
    go_kind_of last small.Pass = go_pure mv refl
    go_kind_of last (small.Assign targets tests) = go_then_on (λ a. a) _ _ (go_then mv _ (go_tests tests) (go_store_in mv _ (each_meant targets)))
    go_kind_of last (small.Augmented target o tests) = go_then_on (λ a. a) _ _ ((go_of target).update _ _ (λ old. go_then mv _ (go_tests tests) (go_operator o old)))
    go_kind_of last (small.Tests tests) = go_then_on (λ a. a) _ _ (go_then mv _ (go_tests tests) (go_echo_if last))

    go_small_of : (last : Bool) (s : Small) → Flows (small_of st c last s) (small_of st c last s)
    unfolding small_of
    go_small_of last s = go_located mv _ (go_then mv _ (go_charging mv 1) (λ _. go_kind_of last s.kind))

    go_smalls : (last : Bool) (smalls : List Small) → Flows (in_sequence (small_of st c) last smalls) (in_sequence (small_of st c) last smalls)
    go_smalls last [] = go_pure mv refl
    go_smalls last (s ∷ smalls) = go_then mv _ (go_small_of (last && is_empty smalls) s) (go_go_on _ _ (go_smalls last smalls))

    go_line_of : (last : Bool) (line : Line) → Flows (line_of st c last line) (line_of st c last line)
    go_line_of last line = go_smalls last line.smalls

    -- ---- statements with blocks

    go_condition : (at : ℕ) (e : Expr) → Goes_same {C = C} mv (condition_of st c at e) (condition_of st c at e)
    go_condition at e = go_located mv _ (go_then mv _ (go_of e).value (go_truth mv))

    go_iterated : (over : List Expr) → Goes {C = C} mv (over_to mv) (iterated st c over) (iterated st c over)
    go_iterated over = go_then mv _ (go_tests over) (λ v. go_then mv _ (go_acting mv (act_items_of mv v)) (λ items. go_pure mv refl))

    go_repeated : (at : ℕ) (targets : List Expr) (p : Course C Flow) → Flows p p → (over : Value × List Value) → Flows (repeated st c at targets p over) (repeated st c at targets p (over_to mv over))
    unfolding repeated
    go_repeated at targets p h over =
        subst (λ ids. Flows (repeated st c at targets p over) (locking ids (for_turns (λ x. world.located at (next_item (all_meant st c targets) x)) p (map (moved mv) over.1)))) (sym (lock_moved mv over.0))
        (go_locking mv (flow_to mv) (lock_of over.0) _ _ (go_for_turns _ p (λ x. go_located mv _ (go_next_item mv _ (each_meant targets) x)) h over.1))

    go_defined : (def : Definition (Doing C)) (number : ℕ) → Goes_same {C = C} mv (defined st c def number) (defined st c def number)
    unfolding defined
    go_defined def number =
        go_then mv _ (go_values mv _ (defaults_meant def.defaults)) (λ vs. go_then mv _ (go_acting mv (act_new_function mv st.cell number vs)) (go_bind mv def.name))
      where
        defaults_meant : (ns : List (Named Expr)) → Every (GoesMeant mv) (map (λ named. meant st c named.value) ns)
        defaults_meant [] = tt
        defaults_meant (n ∷ ns) = (go_of n.value, defaults_meant ns)

    -- ---- trees of statements

    -- a statement, with what is shown of it
    abbrev Shown : Type 0
    Shown = (s : Statement) × GoesDoing (statement_of st c s)

    abbrev lower : Statement-F Shown → Statement-F (Doing C)
    lower y = map-Statement Statement (Doing C) (statement_of st c) (map-Statement Shown Statement (λ s. s.0) y)

    all_shown : (ss : List Shown) → Every GoesDoing (map (statement_of st c) (map (λ s. s.0) ss))
    all_shown [] = tt
    all_shown (s ∷ ss) = (s.1, all_shown ss)

    -- a body, as that of a loop over nothing
    body_in : {X : Type 0} → Statement-F X → Block X
    body_in (Statement-F.For at targets over body) = body
    body_in _ = blocks.Inline (record { smalls = []; semicolon = false })

    go_block_of : (b : Block Shown) → Flows (block_of st c (body_in (lower (Statement-F.For 0 [] [] b)))) (block_of st c (body_in (lower (Statement-F.For 0 [] [] b))))
    unfolding body_in
    go_block_of (blocks.Inline line) = go_line_of false line
    go_block_of (blocks.Indented ss) = go_block _ (all_shown ss)

    branches_in : {X : Type 0} → Statement-F X → List (Branch X)
    branches_in (Statement-F.If at first more other) = more
    branches_in _ = []

    else_in : {X : Type 0} → Statement-F X → Option (Block X)
    else_in (Statement-F.If at first more other) = other
    else_in _ = None

    go_else_of : (at : ℕ) (first : Branch Shown) (more : List (Branch Shown)) (other : Option (Block Shown))
        → Flows (else_of st c (else_in (lower (Statement-F.If at first more other)))) (else_of st c (else_in (lower (Statement-F.If at first more other))))
    unfolding else_in body_in
    go_else_of at first more None = go_pure mv refl
    go_else_of at first more (Some (blocks.Inline line)) = go_block_of (blocks.Inline line)
    go_else_of at first more (Some (blocks.Indented ss)) = go_block_of (blocks.Indented ss)

    go_branch : (at : ℕ) (e : Expr) (p x : Course C Flow) → Flows p p → Flows x x → Flows (condition_of st c at e >>= (λ t. if t then p else x)) (condition_of st c at e >>= (λ t. if t then p else x))
    go_branch at e p x h k = go_then mv _ (go_condition at e) (λ t. go_if mv {b = t} {c = t} refl h k)

    go_branches : (at : ℕ) (first : Branch Shown) (more : List (Branch Shown)) (p : Option (Block (Doing C))) → Flows (else_of st c p) (else_of st c p)
        → Flows (branches_of st c at (branches_in (lower (Statement-F.If at first more None))) p) (branches_of st c at (branches_in (lower (Statement-F.If at first more None))) p)
    unfolding branches_in body_in
    go_branches at first [] p h = h
    go_branches at first (b ∷ more) p h = go_branch at b.condition _ _ (go_block_of b.body) (go_branches at first more p h)

    layer_goes : (y : Statement-F Shown) → GoesDoing (layer_of st c (lower y))
    unfolding branches_in else_in body_in
    layer_goes (Statement-F.Line line) last number = go_line_of last line
    layer_goes (Statement-F.If at first more other) last number =
        go_then mv _ (go_located mv _ (go_charging mv 1)) (λ _. go_branch at first.condition _ _ (go_block_of first.body) (go_branches at first more _ (go_else_of at first more other)))
    layer_goes (Statement-F.For at targets over body) last number =
        go_then mv _ (go_located mv _ (go_then mv _ (go_charging mv 1) (λ _. go_iterated over))) (go_repeated at targets _ (go_block_of body))
    layer_goes (Statement-F.Def at def) last None = go_located mv _ (go_then_on (λ a. a) _ _ (go_charging mv 1))
    layer_goes (Statement-F.Def at def) last (Some number) = go_located mv _ (go_then_on (λ a. a) _ _ (go_then mv _ (go_charging mv 1) (λ _. go_defined _ number)))

    rolled_goes : (x : Statement-F Statement) → GoesDoing (layer_of st c (map-Statement Statement (Doing C) (statement_of st c) x)) → GoesDoing (statement_of st c (roll-Statement x))
    unfolding statement_of
    rolled_goes x h = subst GoesDoing (sym (fold-roll-Statement (Doing C) (layer_of st c) x)) h

    -- each statement does the same with other numbers of objects
    pub go_statement : (s : Statement) → GoesDoing (statement_of st c s)
    go_statement = ind-Statement (λ s. GoesDoing (statement_of st c s)) (λ x y is. subst (λ z. GoesDoing (statement_of st c (roll-Statement z))) is (rolled_goes _ (layer_goes y)))

    go_statements : (ss : List Statement) → Flows (in_sequence (λ last s. statement_of st c s false None) false ss) (in_sequence (λ last s. statement_of st c s false None) false ss)
    go_statements [] = go_pure mv refl
    go_statements (s ∷ ss) = go_then mv _ (go_statement s false None) (go_go_on _ _ (go_statements ss))

    pub go_body : (b : Block Statement) → Flows (body_of st c b) (body_of st c b)
    go_body (blocks.Inline line) = go_line_of false line
    go_body (blocks.Indented ss) = go_statements ss

    -- ---- calls of functions

    go_run_body : (def : Definition Statement) (id : ℕ) (all : List Filled) → Goes_value {C = C} mv (run_body st c def id all) (run_body st c def (mv.to id) (map (filled_to mv) all))
    unfolding run_body
    go_run_body def id all =
        go_then mv _ (go_acting mv (act_charge_is mv (ap sum (weights_of_defaults mv all)))) (λ _.
        subst (λ block. Goes_value {C = C} mv (world.in_function id (local_block def all) (result_of (body_of st c def.body))) (world.in_function (mv.to id) block (result_of (body_of st c def.body)))) (sym (local_moved mv def all))
        (go_in_function mv (moved mv) id (local_block def all) _ _ (go_result_of _ _ (go_body def.body))))

    go_run_filled : (def : Definition Statement) (id : ℕ) (o : Option (List Filled)) → Goes_value {C = C} mv (run_filled st c def id o) (run_filled st c def (mv.to id) (option_map (map (filled_to mv)) o))
    go_run_filled def id None = go_fail mv
    go_run_filled def id (Some all) = go_run_body def id all

    go_run_defined : (id : ℕ) (defaults : List Value) (o : Option (Definition Statement)) (vs : List Value) (n : ByName)
        → Goes_value {C = C} mv (run_defined st c id defaults o vs n) (run_defined st c (mv.to id) (map (moved mv) defaults) o (map (moved mv) vs) (named_to mv n))
    go_run_defined id defaults None vs n = go_fail mv
    go_run_defined id defaults (Some def) vs n =
        subst (λ o. Goes_value {C = C} mv (run_filled st c def id (filled (parameters_of def defaults) vs n)) (run_filled st c def (mv.to id) o))
        (sym (ap (λ ps. filled ps (map (moved mv) vs) (named_to mv n)) (parameters_moved mv def defaults) ∙ filled_moved mv (parameters_of def defaults) vs n)) (go_run_filled def id (filled (parameters_of def defaults) vs n))

    go_run_function : (id : ℕ) (vs : List Value) (n : ByName) (o : Option (C × ℕ × List Value))
        → Goes_value {C = C} mv (run_function st c id o vs n) (run_function st c (mv.to id) (option_map (parts_to mv) o) (map (moved mv) vs) (named_to mv n))
    go_run_function id vs n None = go_fail mv
    go_run_function id vs n (Some parts) = go_run_defined id parts.2 (st.define parts.0 parts.1) vs n

  -- calls of functions do the same, while so many more may become active
  pub go_call_to : (st : Setting C) (n : ℕ) → GoesCallee mv (call_to st n)
  unfolding call_to
  go_call_to st zero id vs by = go_fail mv
  go_call_to st (suc n) id vs by =
      go_then mv (λ parts. run_function st (call_to st n) (mv.to id) parts (map (moved mv) vs) (named_to mv by)) (go_reading mv (option_map (parts_to mv)) _ _ (λ s t i. function_moved mv s t i id)) (go_run_function st (call_to st n) (go_call_to st n) id vs by)
