-- Expressions mean the same with other numbers of objects: each form, and each tree.
use Rattle.std.proofs.Common.{◌≡◌, ℕ, List, [], ◌∷◌, map, Bool, true, false, refl, sym, subst}
use Rattle.std.specs.Prelude.{Option, Some, None}
use Rattle.chex_base.specs.Inputs as inputs
use Rattle.star_syntax.specs.declared.expression.Arm.{Arm}
use Rattle.star_syntax.specs.declared.expression.Expr.{Expr, fold-roll-Expr, ind-Expr, map-Expr, roll-Expr}
use Rattle.star_syntax.specs.declared.expression.Expr.TheOpen.{Expr-F}
use Rattle.star_syntax.specs.declared.expression.ChainLevel.{ChainLevel}
use Rattle.star_syntax.specs.declared.expression.Link.{Link}
use Rattle.star_syntax.specs.declared.expression.Suffix.{Suffix}
use Rattle.star_syntax.specs.declared.expression.Suffix.TheVariants as suffix
use Rattle.star_syntax.specs.declared.expression.Arguments.{Arguments}
use Rattle.star_syntax.specs.declared.expression.Clause.{Clause}
use Rattle.star_syntax.specs.declared.expression.Clause.TheVariants as clause
use Rattle.star_syntax.specs.declared.expression.Named.{Named}
use Rattle.star_syntax.specs.declared.expression.Pair.{Pair}
use Rattle.star_syntax.specs.declared.expression.ChainOp.{ChainOp}
use Rattle.star_syntax.specs.declared.expression.ChainOp.TheVariants as chain
use Rattle.star_value.specs.declared.failure.Failure.TheVariants as failure
use Rattle.star_value.specs.declared.value.Value.{Value}
use Rattle.star_value.specs.declared.value.Value.TheOpen.{Value-F}
use Rattle.star_meaning.specs.Steps.{Action, pure}
use Rattle.star_meaning.specs.Builtins.{ByName}
use Rattle.star_meaning.specs.World.{Work, operation, without_first}
use Rattle.star_meaning.specs.Expressions.{Callee, Meant, Setting, call_written, called, called_at, chained, chosen, primary, headed, input_name, linked, meant, naming, parts, place, read_input, step, suffix_value, suffixed, turned}
use Rattle.star_meaning.proofs.MovedValues.{Moving, by_out, layer, moved, moved_bool, moved_int, moved_none, moved_text}
use Rattle.star_meaning.proofs.Moved.{Acts, act_then}
use Rattle.star_meaning.proofs.MovedComparing.{act_given, act_new_tuple}
use Rattle.star_meaning.proofs.Moved.{act_new_dict, act_new_list}
use Rattle.star_meaning.proofs.MovedOperators.{act_binary, act_index, act_slice}
use Rattle.star_meaning.proofs.MovedBuiltins.{act_call_builtin, answer_to, named_to}
use Rattle.star_meaning.proofs.MovedWorld.{Goes, Goes_value, go_acting, go_bind, go_charging, go_fail, go_if, go_look_up, go_operate, go_operation, go_pure, go_then, go_write}
use Rattle.star_meaning.proofs.MovedExpressions.{Every, IfThere, GoesCallee, GoesMeant, MeansClause, MeansNamed, MeansPair, act_compared, act_input_value, go_call_function, go_comprehension, go_dict_turn, go_display_pairs, go_list_turn, go_method_called, go_named_values, go_optional_value, go_signed, go_step_value, go_store_at, go_store_items, go_truth, go_values}

module _ (mv : Moving) where
  abbrev each : List Value → List Value
  each vs = map (moved mv) vs

  abbrev both_to : Value × Value → Value × Value
  both_to p = (moved mv p.0, moved mv p.1)

module _ {C : Type 0} (mv : Moving) (st : Setting C) (c : Callee C) (calls : GoesCallee mv c) where
  abbrev GM : Meant C → Type 0
  GM m = GoesMeant mv m

  go_read_input : (n : List ℕ) → Goes_value {C = C} mv (read_input st n) (read_input st n)
  unfolding read_input
  go_read_input n = go_operate mv (act_then mv _ (act_given mv failure.NoInput {o = inputs.value_of st.inputs n} {p = inputs.value_of st.inputs n} refl) (act_input_value mv))

  go_written : (p q : Action C (Value × List ℕ)) → Acts {C = C} mv (answer_to mv) p q → Goes_value {C = C} mv (call_written p) (call_written q)
  go_written p q h = go_then mv _ (go_acting mv h) (λ a. go_then mv _ (go_write mv a.1) (λ _. go_pure mv refl))

  go_called_at : (vs : List Value) (n : ByName) (f : Value-F Value) → Goes_value {C = C} mv (called_at st c f vs n) (called_at st c (layer mv f) (each mv vs) (named_to mv n))
  go_called_at vs n (Value-F.Function id) = go_call_function mv c calls id vs n
  go_called_at vs n (Value-F.Builtin which) = go_written _ _ (act_call_builtin mv (naming st) which vs n)
  go_called_at vs n _ = go_fail mv

  go_called : (f : Value) (vs : List Value) (n : ByName) → Goes_value {C = C} mv (called st c f vs n) (called st c (moved mv f) (each mv vs) (named_to mv n))
  unfolding called
  go_called f vs n = go_operation mv (by_out mv (λ x y. Goes_value {C = C} mv (called_at st c x vs n) (called_at st c y (each mv vs) (named_to mv n))) (go_called_at vs n) f)

  -- ---- chains

  go_linked : (o : ChainOp) (x : Value) (p : Work C Value) (f : Value → Work C Value) → Goes_value {C = C} mv p p → ((v : Value) → Goes_value {C = C} mv (f v) (f (moved mv v))) → Goes_value {C = C} mv (linked st c o x p f) (linked st c o (moved mv x) p f)
  go_linked chain.Or x p f h k = go_then mv _ (go_truth mv x) (λ t. go_if mv {b = t} {c = t} refl (go_pure mv {a = x} {b = moved mv x} refl) (go_then mv f (go_then mv (λ _. p) (go_charging mv 1) (λ _. h)) k))
  go_linked chain.And x p f h k = go_then mv _ (go_truth mv x) (λ t. go_if mv {b = t} {c = t} refl (go_then mv f (go_then mv (λ _. p) (go_charging mv 1) (λ _. h)) k) (go_pure mv {a = x} {b = moved mv x} refl))
  go_linked (chain.Binary op) x p f h k = go_then mv _ (go_then mv _ h (λ y. go_operate mv (act_binary mv (naming st) op x y))) k

  abbrev MeansLink : Link (Meant C) → Type 0
  MeansLink link = GM link.operand

  go_chained : (links : List (Link (Meant C))) → Every MeansLink links → (v : Value) → Goes_value {C = C} mv (chained st c links v) (chained st c links (moved mv v))
  go_chained [] h v = go_pure mv refl
  go_chained (link ∷ links) h v = go_linked link.op v _ _ h.0.value (go_chained links h.1)

  -- ---- suffixes

  abbrev MeansArguments : Arguments (Meant C) → Type 0
  MeansArguments given = Every GM given.positional × Every (MeansNamed mv) given.named

  abbrev MeansSuffix : Suffix (Meant C) → Type 0
  MeansSuffix (suffix.Index at) = GM at
  MeansSuffix (suffix.Slice i j k) = IfThere GM i × IfThere GM j × IfThere (IfThere GM) k
  MeansSuffix (suffix.Call given) = MeansArguments given
  MeansSuffix (suffix.Method n given) = MeansArguments given

  go_suffix_value : (s : Suffix (Meant C)) → MeansSuffix s → (x : Value) → Goes_value {C = C} mv (suffix_value st c s x) (suffix_value st c s (moved mv x))
  go_suffix_value (suffix.Index at) h x = go_then mv _ h.value (λ i. go_operate mv (act_index mv x i))
  go_suffix_value (suffix.Slice i j k) h x =
      go_then mv _ (go_optional_value mv i h.0) (λ u. go_then mv _ (go_optional_value mv j h.1) (λ v. go_then mv _ (go_step_value mv k h.2) (λ w. go_operate mv (act_slice mv x (record { start = u; stop = v; step = w })))))
  go_suffix_value (suffix.Call given) h x = go_then mv _ (go_values mv given.positional h.0) (λ vs. go_then mv _ (go_named_values mv given.named h.1) (λ n. go_called x vs n))
  go_suffix_value (suffix.Method m given) h x = go_then mv _ (go_values mv given.positional h.0) (λ vs. go_then mv _ (go_named_values mv given.named h.1) (λ n. go_method_called mv m x vs n))

  go_suffixed : (ss : List (Suffix (Meant C))) → Every MeansSuffix ss → (v : Value) → Goes_value {C = C} mv (suffixed st c ss v) (suffixed st c ss (moved mv v))
  go_suffixed [] h v = go_pure mv refl
  go_suffixed (s ∷ ss) h v = go_then mv _ (go_suffix_value s h.0 v) (go_suffixed ss h.1)

  -- ---- what is indexed or called, and places

  abbrev MeansFront : Work C Value × List (Suffix (Meant C)) → Type 0
  MeansFront p = Goes_value {C = C} mv p.0 p.0 × Every MeansSuffix p.1

  rest_means : (ss : List (Suffix (Meant C))) → Every MeansSuffix ss → Every MeansSuffix (without_first ss)
  rest_means [] h = tt
  rest_means (s ∷ ss) h = h.1

  headed_means : (m : Meant C) (ss : List (Suffix (Meant C))) → GM m → Every MeansSuffix ss → (o : Option (List ℕ)) → MeansFront (headed st c m ss o)
  headed_means m ss h k None = (h.value, k)
  headed_means m ss h k (Some i) = (go_read_input i, rest_means ss k)

  front_means : (m : Meant C) (ss : List (Suffix (Meant C))) → GM m → Every MeansSuffix ss → MeansFront (primary st c m ss)
  front_means m ss h k = headed_means m ss h k (input_name st c m.is_input ss)

  go_parts : (ss : List (Suffix (Meant C))) → Every MeansSuffix ss → (v : Value) → Goes {C = C} mv (both_to mv) (parts st c ss v) (parts st c ss (moved mv v))
  go_parts [] h v = go_fail mv
  go_parts (suffix.Index at ∷ []) h v = go_then mv _ h.0.value (λ i. go_pure mv refl)
  go_parts (suffix.Index at ∷ s ∷ ss) h v = go_then mv _ (go_suffix_value (suffix.Index at) h.0 v) (go_parts (s ∷ ss) h.1)
  go_parts (suffix.Slice i j k ∷ ss) h v = go_then mv _ (go_suffix_value (suffix.Slice i j k) h.0 v) (go_parts ss h.1)
  go_parts (suffix.Call given ∷ ss) h v = go_then mv _ (go_suffix_value (suffix.Call given) h.0 v) (go_parts ss h.1)
  go_parts (suffix.Method n given ∷ ss) h v = go_then mv _ (go_suffix_value (suffix.Method n given) h.0 v) (go_parts ss h.1)

  go_place : (m : Meant C) (ss : List (Suffix (Meant C))) → GM m → Every MeansSuffix ss → Goes {C = C} mv (both_to mv) (place st c m ss) (place st c m ss)
  go_place m ss h k = let f = front_means m ss h k in go_then mv _ f.0 (go_parts (primary st c m ss).1 f.1)

  -- ---- each form, over parts of which it holds

  abbrev Forms : Expr-F (Meant C) → Type 0
  Forms x = GoesMeant mv (step st c x)

  constant : {v : Value} → v ≡ moved mv v → Goes_value {C = C} mv (operation (pure v)) (operation (pure v))
  constant e = go_operation mv (go_pure mv e)

  name_form : (n : List ℕ) → Forms (Expr-F.Name n)
  name_form n = record {
    value = go_operation mv (go_look_up mv n);
    store = λ v. go_bind mv n v;
    update = λ f g h. go_then mv _ (go_then mv _ (go_operation mv (go_look_up mv n)) h) (go_bind mv n);
  }

  primary_form : (m : Meant C) (ss : List (Suffix (Meant C))) → GM m → Every MeansSuffix ss → Forms (Expr-F.Primary m ss)
  primary_form m ss h k = let f = front_means m ss h k in record {
    value = go_then mv _ f.0 (go_suffixed (primary st c m ss).1 f.1);
    store = λ v. go_then mv _ (go_place m ss h k) (λ at. go_store_at mv at.0 at.1 v);
    update = λ f g l. go_then mv _ (go_place m ss h k) (λ at. go_then mv _ (go_operate mv (act_index mv at.0 at.1)) (λ old. go_then mv _ (l old) (λ new. go_store_at mv at.0 at.1 new)));
  }

  abbrev MeansArm : Arm (Meant C) → Type 0
  MeansArm arm = GM arm.value × GM arm.condition

  go_chosen : (arms : List (Arm (Meant C))) (m : Meant C) → Every MeansArm arms → GM m → Goes_value {C = C} mv (chosen st c arms m) (chosen st c arms m)
  go_chosen [] m h k = k.value
  go_chosen (arm ∷ arms) m h k = go_then mv _ h.0.1.value (λ v. go_then mv _ (go_charging mv 1) (λ _. go_then mv _ (go_truth mv v) (λ t. go_if mv {b = t} {c = t} refl h.0.0.value (go_chosen arms m h.1 k))))

  -- ---- trees

  -- a tree, with what is shown of it
  abbrev Known : Type 0
  Known = (e : Expr) × GM (meant st c e)

  abbrev bare : Expr-F Known → Expr-F Expr
  bare = map-Expr Known Expr (λ e. e.0)

  abbrev lower : Expr-F Known → Expr-F (Meant C)
  lower y = map-Expr Expr (Meant C) (meant st c) (bare y)

  all_known : (es : List Known) → Every GM (map (meant st c) (map (λ e. e.0) es))
  all_known [] = tt
  all_known (e ∷ es) = (e.1, all_known es)

  links_of : {X : Type 0} → Expr-F X → List (Link X)
  links_of (Expr-F.Chain level first xs) = xs
  links_of _ = []

  arms_of : {X : Type 0} → Expr-F X → List (Arm X)
  arms_of (Expr-F.Conditional xs last) = xs
  arms_of _ = []

  suffixes_of : {X : Type 0} → Expr-F X → List (Suffix X)
  suffixes_of (Expr-F.Primary head xs) = xs
  suffixes_of _ = []

  pairs_in : {X : Type 0} → Expr-F X → List (Pair X)
  pairs_in (Expr-F.Dict xs comma) = xs
  pairs_in _ = []

  clauses_of : {X : Type 0} → Expr-F X → List (Clause X)
  clauses_of (Expr-F.ListOver x xs) = xs
  clauses_of (Expr-F.DictOver k v xs) = xs
  clauses_of _ = []

  links_known : (level : ChainLevel) (e : Known) (xs : List (Link Known)) → Every MeansLink (links_of (lower (Expr-F.Chain level e xs)))
  unfolding links_of
  links_known level e [] = tt
  links_known level e (x ∷ xs) = (x.operand.1, links_known level e xs)

  arms_known : (e : Known) (xs : List (Arm Known)) → Every MeansArm (arms_of (lower (Expr-F.Conditional xs e)))
  unfolding arms_of
  arms_known e [] = tt
  arms_known e (x ∷ xs) = ((x.value.1, x.condition.1), arms_known e xs)

  pairs_known : (b : Bool) (xs : List (Pair Known)) → Every (MeansPair mv) (pairs_in (lower (Expr-F.Dict xs b)))
  unfolding pairs_in
  pairs_known b [] = tt
  pairs_known b (x ∷ xs) = ((x.key.1, x.value.1), pairs_known b xs)

  list_clauses_known : (e : Known) (xs : List (Clause Known)) → Every (MeansClause mv) (clauses_of (lower (Expr-F.ListOver e xs)))
  unfolding clauses_of
  list_clauses_known e [] = tt
  list_clauses_known e (clause.For targets over ∷ xs) = ((all_known targets, over.1), list_clauses_known e xs)
  list_clauses_known e (clause.If condition ∷ xs) = (condition.1, list_clauses_known e xs)

  dict_clauses_known : (k v : Known) (xs : List (Clause Known)) → Every (MeansClause mv) (clauses_of (lower (Expr-F.DictOver k v xs)))
  unfolding clauses_of
  dict_clauses_known k v [] = tt
  dict_clauses_known k v (clause.For targets over ∷ xs) = ((all_known targets, over.1), dict_clauses_known k v xs)
  dict_clauses_known k v (clause.If condition ∷ xs) = (condition.1, dict_clauses_known k v xs)

  abbrev KnownSlice : Known → Option Known → Option Known → Option (Option Known) → List (Suffix Known) → Type 0
  KnownSlice e i j k xs = Every MeansSuffix (suffixes_of (lower (Expr-F.Primary e (suffix.Slice i j k ∷ xs))))

  slice_known : (e : Known) (i j : Option Known) (k : Option (Option Known)) (xs : List (Suffix Known)) → Every MeansSuffix (suffixes_of (lower (Expr-F.Primary e xs))) → KnownSlice e i j k xs
  unfolding suffixes_of
  slice_known e None None None xs h = ((tt, tt, tt), h)
  slice_known e None None (Some None) xs h = ((tt, tt, tt), h)
  slice_known e None None (Some (Some k)) xs h = ((tt, tt, k.1), h)
  slice_known e None (Some j) None xs h = ((tt, j.1, tt), h)
  slice_known e None (Some j) (Some None) xs h = ((tt, j.1, tt), h)
  slice_known e None (Some j) (Some (Some k)) xs h = ((tt, j.1, k.1), h)
  slice_known e (Some i) None None xs h = ((i.1, tt, tt), h)
  slice_known e (Some i) None (Some None) xs h = ((i.1, tt, tt), h)
  slice_known e (Some i) None (Some (Some k)) xs h = ((i.1, tt, k.1), h)
  slice_known e (Some i) (Some j) None xs h = ((i.1, j.1, tt), h)
  slice_known e (Some i) (Some j) (Some None) xs h = ((i.1, j.1, tt), h)
  slice_known e (Some i) (Some j) (Some (Some k)) xs h = ((i.1, j.1, k.1), h)

  named_of : {X : Type 0} → Expr-F X → List (Named X)
  named_of (Expr-F.Primary head (suffix.Call given ∷ xs)) = given.named
  named_of (Expr-F.Primary head (suffix.Method n given ∷ xs)) = given.named
  named_of _ = []

  call_named : (e : Known) (ps : List Known) (b : Bool) (ns : List (Named Known)) (xs : List (Suffix Known))
      → Every (MeansNamed mv) (named_of (lower (Expr-F.Primary e (suffix.Call (record { positional = ps; named = ns; comma = b }) ∷ xs))))
  unfolding named_of
  call_named e ps b [] xs = tt
  call_named e ps b (n ∷ ns) xs = (n.value.1, call_named e ps b ns xs)

  method_named : (e : Known) (m : List ℕ) (ps : List Known) (b : Bool) (ns : List (Named Known)) (xs : List (Suffix Known))
      → Every (MeansNamed mv) (named_of (lower (Expr-F.Primary e (suffix.Method m (record { positional = ps; named = ns; comma = b }) ∷ xs))))
  unfolding named_of
  method_named e m ps b [] xs = tt
  method_named e m ps b (n ∷ ns) xs = (n.value.1, method_named e m ps b ns xs)

  suffixes_known : (e : Known) (xs : List (Suffix Known)) → Every MeansSuffix (suffixes_of (lower (Expr-F.Primary e xs)))
  unfolding suffixes_of named_of
  suffixes_known e [] = tt
  suffixes_known e (suffix.Index at ∷ xs) = (at.1, suffixes_known e xs)
  suffixes_known e (suffix.Slice i j k ∷ xs) = slice_known e i j k xs (suffixes_known e xs)
  suffixes_known e (suffix.Call given ∷ xs) = ((all_known given.positional, call_named e given.positional given.comma given.named xs), suffixes_known e xs)
  suffixes_known e (suffix.Method m given ∷ xs) = ((all_known given.positional, method_named e m given.positional given.comma given.named xs), suffixes_known e xs)

  layer_goes : (y : Expr-F Known) → Forms (lower y)
  unfolding links_of arms_of suffixes_of pairs_in clauses_of
  layer_goes (Expr-F.Name n) = name_form n
  layer_goes (Expr-F.Int z) = record { value = constant (sym (moved_int mv z)); store = λ v. go_fail mv; update = λ f g h. go_fail mv }
  layer_goes (Expr-F.Text t) = record { value = constant (sym (moved_text mv t)); store = λ v. go_fail mv; update = λ f g h. go_fail mv }
  layer_goes Expr-F.None = record { value = constant (sym (moved_none mv)); store = λ v. go_fail mv; update = λ f g h. go_fail mv }
  layer_goes Expr-F.True = record { value = constant (sym (moved_bool mv true)); store = λ v. go_fail mv; update = λ f g h. go_fail mv }
  layer_goes Expr-F.False = record { value = constant (sym (moved_bool mv false)); store = λ v. go_fail mv; update = λ f g h. go_fail mv }
  layer_goes (Expr-F.Paren e) = record { value = e.1.value; store = e.1.store; update = λ f g h. go_fail mv }
  layer_goes (Expr-F.Tuple es b) = record {
    value = go_then mv _ (go_values mv _ (all_known es)) (λ vs. go_operate mv (act_new_tuple mv vs));
    store = go_store_items mv _ (all_known es);
    update = λ f g h. go_fail mv;
  }
  layer_goes (Expr-F.List es b) = record {
    value = go_then mv _ (go_values mv _ (all_known es)) (λ vs. go_operate mv (act_new_list mv _ refl));
    store = go_store_items mv _ (all_known es);
    update = λ f g h. go_fail mv;
  }
  layer_goes (Expr-F.ListOver e xs) = record {
    value = go_then mv _ (go_comprehension mv (each mv) _ _ (go_list_turn mv _ e.1) _ (list_clauses_known e xs) []) (λ vs. go_acting mv (act_new_list mv _ refl));
    store = λ v. go_fail mv;
    update = λ f g h. go_fail mv;
  }
  layer_goes (Expr-F.Dict xs b) = record {
    value = go_then mv _ (go_display_pairs mv [] _ (pairs_known b xs)) (λ done. go_operate mv (act_new_dict mv _ refl));
    store = λ v. go_fail mv;
    update = λ f g h. go_fail mv;
  }
  layer_goes (Expr-F.DictOver k v xs) = record {
    value = go_then mv _ (go_comprehension mv _ _ _ (go_dict_turn mv _ _ k.1 v.1) _ (dict_clauses_known k v xs) []) (λ done. go_acting mv (act_new_dict mv _ refl));
    store = λ v. go_fail mv;
    update = λ f g h. go_fail mv;
  }
  layer_goes (Expr-F.Primary e xs) = primary_form _ _ e.1 (suffixes_known e xs)
  layer_goes (Expr-F.Signed ss e) = record { value = go_then mv _ e.1.value (go_signed mv ss); store = λ v. go_fail mv; update = λ f g h. go_fail mv }
  layer_goes (Expr-F.Chain level e xs) = record { value = go_then mv _ e.1.value (go_chained _ (links_known level e xs)); store = λ v. go_fail mv; update = λ f g h. go_fail mv }
  layer_goes (Expr-F.Compare a o b) = record {
    value = go_then mv _ a.1.value (λ x. go_then mv _ b.1.value (λ y. go_operate mv (act_compared mv o x y)));
    store = λ v. go_fail mv;
    update = λ f g h. go_fail mv;
  }
  layer_goes (Expr-F.Not n e) = record {
    value = go_then mv _ e.1.value (λ v. go_then mv _ (go_charging mv n) (λ _. go_then mv _ (go_truth mv v) (λ t. go_pure mv (sym (moved_bool mv (turned n t))))));
    store = λ v. go_fail mv;
    update = λ f g h. go_fail mv;
  }
  layer_goes (Expr-F.Conditional xs e) = record { value = go_chosen _ _ (arms_known e xs) e.1; store = λ v. go_fail mv; update = λ f g h. go_fail mv }

  rolled_goes : (x : Expr-F Expr) → Forms (map-Expr Expr (Meant C) (meant st c) x) → GM (meant st c (roll-Expr x))
  unfolding meant
  rolled_goes x h = subst GM (sym (fold-roll-Expr (Meant C) (step st c) x)) h

  -- each tree means the same with other numbers of objects
  pub go_meant : (e : Expr) → GM (meant st c e)
  go_meant = ind-Expr (λ e. GM (meant st c e)) (λ x y is. subst (λ z. GM (meant st c (roll-Expr z))) is (rolled_goes _ (layer_goes y)))
