-- Expressions mean the same whatever the names of cells: each form.
use Rattle.std.proofs.Common.{◌≡◌, ℕ, suc, List, [], ◌∷◌, ◌++◌, map, length, Bool, true, false, IsTrue, refl, sym, ap, arith, subst, ◌∙◌}
use Rattle.std.specs.Prelude.{Option, Some, None}
use Rattle.std.specs.List.{flat_map}
use Rattle.chex_base.specs.Inputs as inputs
use Rattle.star_syntax.specs.Placement.{Seen, Use, all_uses, clause_uses, first_literal, head_uses, layer_seen, lone_literal, seen, suffix_uses}
use Rattle.star_syntax.specs.declared.expression.Arm.{Arm}
use Rattle.star_syntax.specs.declared.expression.Expr.{Expr, fold-roll-Expr, ind-Expr, map-Expr, roll-Expr}
use Rattle.star_syntax.specs.declared.expression.Expr.TheOpen.{Expr-F}
use Rattle.star_syntax.specs.declared.expression.ChainLevel.{ChainLevel}
use Rattle.star_syntax.specs.declared.expression.Link.{Link}
use Rattle.star_syntax.specs.declared.expression.Suffix.{Suffix}
use Rattle.star_syntax.specs.declared.expression.Suffix.TheVariants as suffix
use Rattle.star_syntax.specs.declared.expression.Arguments.{Arguments}
use Rattle.star_syntax.specs.declared.expression.Clause.{Clause}
use Rattle.star_syntax.specs.declared.expression.Clause.TheVariants as clause
use Rattle.star_syntax.specs.declared.expression.Named.{Named}
use Rattle.star_syntax.specs.declared.expression.Pair.{Pair}
use Rattle.star_syntax.specs.declared.expression.ChainOp.{ChainOp}
use Rattle.star_syntax.specs.declared.expression.ChainOp.TheVariants as chain
use Rattle.star_syntax.specs.declared.operator.CompareOp.{CompareOp}
use Rattle.star_syntax.specs.declared.operator.UnaryOp.{UnaryOp}
use Rattle.star_value.specs.declared.failure.Failure.TheVariants as failure
use Rattle.star_value.specs.declared.value.Value.{Value, out-Value}
use Rattle.star_value.specs.declared.value.Value.TheOpen.{Value-F}
use Rattle.star_value.specs.declared.value.Value.TheVariants as value
use Rattle.star_meaning.specs.Steps.{Action, ◌>>=◌, pure, fail, given_or}
use Rattle.star_meaning.specs.Builtins.{ByName}
use Rattle.star_meaning.specs.World.{Work, operate, operation, without_first}
use Rattle.star_meaning.specs.Expressions.{Callee, Meant, Setting, call_written, called, called_at, chained, chosen, primary, headed, input_name, input_value, linked, meant, name_of, named_values, naming, parts, place, read_input, step, suffix_value, suffixed, turned}
use Rattle.star_meaning.specs.Renaming.{Names, under, Same, SameSteps, SameSetting, SameCallee, SameMeant}
use Rattle.star_meaning.specs.Reading.{UsesIn, use_in}
use Rattle.star_meaning.proofs.ReadingLemmas.{MayRead, halves, head_part, head_reads, if_input, sees}
use Rattle.star_meaning.proofs.Renamed.{same_then, same_given_or}
use Rattle.star_meaning.proofs.RenamedShowing.{same_new_dict, same_new_list, same_new_tuple}
use Rattle.star_meaning.proofs.RenamedOperators.{same_binary, same_index, same_slice}
use Rattle.star_meaning.proofs.RenamedBuiltins.{same_call_builtin}
use Rattle.star_meaning.proofs.RenamedWorld.{same_acting, same_bind, same_charging, same_failing, same_going, same_look_up, same_next, same_operate, same_operation, same_write}
use Rattle.star_meaning.proofs.RenamedExpressions.{Each, Both, AlikeNamed, AlikePair, AlikeClause, Alike, same_call_function, same_choose, same_compared, same_comprehension, same_dict_turn, same_display_pairs, same_input_value, same_list_turn, same_method_called, same_named_from, same_optional_value, same_signed, same_step_value, same_store_at, same_store_items, same_truth, same_values}

module _ {C D : Type 0} (name : Names C D) (st : Setting C) (su : Setting D) (same_st : SameSetting name st su) (c : Callee C) (d : Callee D) (same_callee : SameCallee name c d) where
  pub naming_as : (x : C) (n : ℕ) → naming su (name.to x) n ≡ naming st x n
  naming_as x n = ap name_of (same_st.define x n)

  pub same_read_input : (n : List ℕ) → IsTrue (name.reads n) → SameSteps name (read_input st n) (read_input su n)
  unfolding read_input
  same_read_input n r =
      subst (λ o. SameSteps name (operate (given_or failure.NoInput (inputs.value_of st.inputs n) >>= input_value)) (operate (given_or failure.NoInput o >>= input_value))) (sym (same_st.inputs n r))
      (same_operate name _ _ (λ locked. same_then (under name locked) _ _ _ _ (same_given_or (under name locked) failure.NoInput (inputs.value_of st.inputs n)) (same_input_value (under name locked))))

  same_written : (p : Action C (Value × List ℕ)) (q : Action D (Value × List ℕ)) → ((locked : List ℕ) → Same (under name locked) p q) → SameSteps name (call_written p) (call_written q)
  same_written p q h = same_next name _ _ _ _ (same_acting name p q h) (λ a. same_next name _ _ _ _ (same_write name a.1) (λ _. same_going name a.0))

  same_called_at : (f : Value-F Value) (vs : List Value) (n : ByName) → SameSteps name (called_at st c f vs n) (called_at su d f vs n)
  same_called_at (Value-F.Function id) vs n = same_call_function name c d same_callee id vs n
  same_called_at (Value-F.Builtin which) vs n = same_written _ _ (λ locked. same_call_builtin (under name locked) (naming st) (naming su) naming_as which vs n)
  same_called_at _ vs n = same_failing name failure.WrongType

  pub same_called : (f : Value) (vs : List Value) (n : ByName) → SameSteps name (called st c f vs n) (called su d f vs n)
  unfolding called
  same_called f vs n = same_operation name _ _ (same_called_at (out-Value f) vs n)

  -- ---- chains

  same_linked : (o : ChainOp) (x : Value) (p : Work C Value) (q : Work D Value) (f : Value → Work C Value) (g : Value → Work D Value)
      → SameSteps name p q → ((v : Value) → SameSteps name (f v) (g v)) → SameSteps name (linked st c o x p f) (linked su d o x q g)
  same_linked chain.Or x p q f g h k =
      same_next name _ _ _ _ (same_truth name x) (λ t. same_choose name t _ _ _ _ (same_going name x) (same_next name _ _ _ _ (same_next name _ _ _ _ (same_charging name 1) (λ _. h)) k))
  same_linked chain.And x p q f g h k =
      same_next name _ _ _ _ (same_truth name x) (λ t. same_choose name t _ _ _ _ (same_next name _ _ _ _ (same_next name _ _ _ _ (same_charging name 1) (λ _. h)) k) (same_going name x))
  same_linked (chain.Binary op) x p q f g h k =
      same_next name _ _ _ _ (same_next name _ _ _ _ h (λ y. same_operate name _ _ (λ locked. same_binary (under name locked) (naming st) (naming su) naming_as op x y))) k

  pub record AlikeLink (x : Link (Meant C)) (y : Link (Meant D)) : Type 0 where
    pub op_is : y.op ≡ x.op
    pub operand_is : Alike name x.operand y.operand

  pub same_chained : (xs : List (Link (Meant C))) (ys : List (Link (Meant D))) → Each AlikeLink xs ys → (v : Value) → SameSteps name (chained st c xs v) (chained su d ys v)
  same_chained [] [] h v = same_going name v
  same_chained (x ∷ xs) (y ∷ ys) h v =
      subst (λ o. SameSteps name (linked st c x.op v x.operand.value (chained st c xs)) (linked su d o v y.operand.value (chained su d ys))) (sym h.0.op_is)
      (same_linked x.op v _ _ _ _ h.0.operand_is.value (same_chained xs ys h.1))
  same_chained [] (y ∷ ys) h v = absurd h
  same_chained (x ∷ xs) [] h v = absurd h

  -- ---- suffixes

  abbrev pub AlikeArguments : Arguments (Meant C) → Arguments (Meant D) → Type 0
  AlikeArguments x y = Each (Alike name) x.positional y.positional × Each (AlikeNamed name) x.named y.named × (y.comma ≡ x.comma)

  abbrev pub AlikeSuffix : Suffix (Meant C) → Suffix (Meant D) → Type 0
  AlikeSuffix (suffix.Index at) (suffix.Index to) = Alike name at to
  AlikeSuffix (suffix.Slice i j k) (suffix.Slice x y z) = Both (Alike name) i x × Both (Alike name) j y × Both (Both (Alike name)) k z
  AlikeSuffix (suffix.Call x) (suffix.Call y) = AlikeArguments x y
  AlikeSuffix (suffix.Method n x) (suffix.Method m y) = (m ≡ n) × AlikeArguments x y
  AlikeSuffix _ _ = ⊥

  pub same_named_values : (xs : List (Named (Meant C))) (ys : List (Named (Meant D))) → Each (AlikeNamed name) xs ys → SameSteps name (named_values xs) (named_values ys)
  unfolding named_values
  same_named_values xs ys h = same_named_from name [] xs ys h

  pub same_suffix_value : (s : Suffix (Meant C)) (t : Suffix (Meant D)) → AlikeSuffix s t → (x : Value) → SameSteps name (suffix_value st c s x) (suffix_value su d t x)
  same_suffix_value (suffix.Index at) (suffix.Index to) h x = same_next name _ _ _ _ h.value (λ i. same_operate name _ _ (λ locked. same_index (under name locked) x i))
  same_suffix_value (suffix.Slice i j k) (suffix.Slice a b e) h x =
      same_next name _ _ _ _ (same_optional_value name i a h.0) (λ u. same_next name _ _ _ _ (same_optional_value name j b h.1) (λ v. same_next name _ _ _ _ (same_step_value name k e h.2) (λ w.
      same_operate name _ _ (λ locked. same_slice (under name locked) x (record { start = u; stop = v; step = w })))))
  same_suffix_value (suffix.Call g) (suffix.Call f) h x =
      same_next name _ _ _ _ (same_values name g.positional f.positional h.0) (λ vs. same_next name _ _ _ _ (same_named_values g.named f.named h.1) (λ n. same_called x vs n))
  same_suffix_value (suffix.Method n g) (suffix.Method m f) h x =
      subst (λ k. SameSteps name (suffix_value st c (suffix.Method n g) x) (suffix_value su d (suffix.Method k f) x)) (sym h.0)
      (same_next name _ _ _ _ (same_values name g.positional f.positional h.1.0) (λ vs. same_next name _ _ _ _ (same_named_values g.named f.named h.1.1) (λ by. same_method_called name n x vs by)))
  same_suffix_value (suffix.Index at) (suffix.Slice a b e) h x = absurd h
  same_suffix_value (suffix.Index at) (suffix.Call f) h x = absurd h
  same_suffix_value (suffix.Index at) (suffix.Method m f) h x = absurd h
  same_suffix_value (suffix.Slice i j k) (suffix.Index to) h x = absurd h
  same_suffix_value (suffix.Slice i j k) (suffix.Call f) h x = absurd h
  same_suffix_value (suffix.Slice i j k) (suffix.Method m f) h x = absurd h
  same_suffix_value (suffix.Call g) (suffix.Index to) h x = absurd h
  same_suffix_value (suffix.Call g) (suffix.Slice a b e) h x = absurd h
  same_suffix_value (suffix.Call g) (suffix.Method m f) h x = absurd h
  same_suffix_value (suffix.Method n g) (suffix.Index to) h x = absurd h
  same_suffix_value (suffix.Method n g) (suffix.Slice a b e) h x = absurd h
  same_suffix_value (suffix.Method n g) (suffix.Call f) h x = absurd h

  pub same_suffixed : (xs : List (Suffix (Meant C))) (ys : List (Suffix (Meant D))) → Each AlikeSuffix xs ys → (v : Value) → SameSteps name (suffixed st c xs v) (suffixed su d ys v)
  same_suffixed [] [] h v = same_going name v
  same_suffixed (x ∷ xs) (y ∷ ys) h v = same_next name _ _ _ _ (same_suffix_value x y h.0 v) (same_suffixed xs ys h.1)
  same_suffixed [] (y ∷ ys) h v = absurd h
  same_suffixed (x ∷ xs) [] h v = absurd h

  -- ---- what is indexed or called, and places

  lone_as : (ms : List (Meant C)) (ns : List (Meant D)) (xs : List (Named (Meant C))) (ys : List (Named (Meant D))) (a : Bool) → Each (Alike name) ms ns → Each (AlikeNamed name) xs ys
      → lone_literal (λ n. n.literal) ns ys a ≡ lone_literal (λ m. m.literal) ms xs a
  lone_as [] [] xs ys a h k = refl
  lone_as (m ∷ []) (n ∷ []) [] [] false h k = h.0.literal
  lone_as (m ∷ []) (n ∷ []) [] [] true h k = refl
  lone_as (m ∷ []) (n ∷ []) (x ∷ xs) (y ∷ ys) a h k = refl
  lone_as (m ∷ []) (n ∷ []) [] (y ∷ ys) a h k = absurd k
  lone_as (m ∷ []) (n ∷ []) (x ∷ xs) [] a h k = absurd k
  lone_as (m ∷ l ∷ ms) (n ∷ o ∷ ns) xs ys a h k = refl
  lone_as [] (n ∷ ns) xs ys a h k = absurd h
  lone_as (m ∷ ms) [] xs ys a h k = absurd h
  lone_as (m ∷ []) (n ∷ o ∷ ns) xs ys a h k = absurd h.1
  lone_as (m ∷ l ∷ ms) (n ∷ []) xs ys a h k = absurd h.1

  first_as : (xs : List (Suffix (Meant C))) (ys : List (Suffix (Meant D))) → Each AlikeSuffix xs ys → first_literal (λ n. n.literal) ys ≡ first_literal (λ m. m.literal) xs
  first_as [] [] h = refl
  first_as (suffix.Call x ∷ xs) (suffix.Call y ∷ ys) h =
      ap (λ b. lone_literal (λ n. n.literal) y.positional y.named b) h.0.2 ∙ lone_as x.positional y.positional x.named y.named x.comma h.0.0 h.0.1
  first_as (suffix.Index at ∷ xs) (suffix.Index to ∷ ys) h = refl
  first_as (suffix.Index at ∷ xs) (suffix.Slice a b e ∷ ys) h = absurd h.0
  first_as (suffix.Index at ∷ xs) (suffix.Call y ∷ ys) h = absurd h.0
  first_as (suffix.Index at ∷ xs) (suffix.Method m y ∷ ys) h = absurd h.0
  first_as (suffix.Slice i j k ∷ xs) (suffix.Index to ∷ ys) h = absurd h.0
  first_as (suffix.Slice i j k ∷ xs) (suffix.Slice a b e ∷ ys) h = refl
  first_as (suffix.Slice i j k ∷ xs) (suffix.Call y ∷ ys) h = absurd h.0
  first_as (suffix.Slice i j k ∷ xs) (suffix.Method m y ∷ ys) h = absurd h.0
  first_as (suffix.Call x ∷ xs) (suffix.Index to ∷ ys) h = absurd h.0
  first_as (suffix.Call x ∷ xs) (suffix.Slice a b e ∷ ys) h = absurd h.0
  first_as (suffix.Call x ∷ xs) (suffix.Method m y ∷ ys) h = absurd h.0
  first_as (suffix.Method n x ∷ xs) (suffix.Index to ∷ ys) h = absurd h.0
  first_as (suffix.Method n x ∷ xs) (suffix.Slice a b e ∷ ys) h = absurd h.0
  first_as (suffix.Method n x ∷ xs) (suffix.Call y ∷ ys) h = absurd h.0
  first_as (suffix.Method n x ∷ xs) (suffix.Method m y ∷ ys) h = refl
  first_as [] (y ∷ ys) h = absurd h
  first_as (x ∷ xs) [] h = absurd h

  input_as : (b : Bool) (xs : List (Suffix (Meant C))) (ys : List (Suffix (Meant D))) → Each AlikeSuffix xs ys → input_name su d b ys ≡ input_name st c b xs
  input_as false xs ys h = refl
  input_as true xs ys h = first_as xs ys h

  rest_alike : (xs : List (Suffix (Meant C))) (ys : List (Suffix (Meant D))) → Each AlikeSuffix xs ys → Each AlikeSuffix (without_first xs) (without_first ys)
  rest_alike [] [] h = tt
  rest_alike (x ∷ xs) (y ∷ ys) h = h.1
  rest_alike [] (y ∷ ys) h = absurd h
  rest_alike (x ∷ xs) [] h = absurd h

  abbrev AlikeFront : Work C Value × List (Suffix (Meant C)) → Work D Value × List (Suffix (Meant D)) → Type 0
  AlikeFront p q = SameSteps name p.0 q.0 × Each AlikeSuffix p.1 q.1

  headed_alike : (m : Meant C) (n : Meant D) (xs : List (Suffix (Meant C))) (ys : List (Suffix (Meant D))) → Alike name m n → Each AlikeSuffix xs ys → (o : Option (List ℕ)) → MayRead name.reads o
      → AlikeFront (headed st c m xs o) (headed su d n ys o)
  headed_alike m n xs ys h k None r = (h.value, k)
  headed_alike m n xs ys h k (Some i) r = (same_read_input i r, rest_alike xs ys k)

  -- what is read where something is indexed or called
  abbrev pub FrontReads : Meant C → List (Suffix (Meant C)) → Type 0
  FrontReads m xs = MayRead name.reads (input_name st c m.is_input xs)

  pub front_alike : (m : Meant C) (n : Meant D) (xs : List (Suffix (Meant C))) (ys : List (Suffix (Meant D))) → Alike name m n → Each AlikeSuffix xs ys → FrontReads m xs → AlikeFront (primary st c m xs) (primary su d n ys)
  front_alike m n xs ys h k r =
      subst (λ o. AlikeFront (primary st c m xs) (headed su d n ys o)) (sym (ap (λ b. input_name su d b ys) h.is_input ∙ input_as m.is_input xs ys k))
      (headed_alike m n xs ys h k (input_name st c m.is_input xs) r)

  pub same_parts : (xs : List (Suffix (Meant C))) (ys : List (Suffix (Meant D))) → Each AlikeSuffix xs ys → (v : Value) → SameSteps name (parts st c xs v) (parts su d ys v)
  same_parts [] [] h v = same_failing name failure.WrongType
  same_parts (suffix.Index at ∷ []) (suffix.Index to ∷ []) h v = same_next name _ _ _ _ h.0.value (λ i. same_going name (v, i))
  same_parts (suffix.Index at ∷ x ∷ xs) (suffix.Index to ∷ y ∷ ys) h v = same_next name _ _ _ _ (same_suffix_value (suffix.Index at) (suffix.Index to) h.0 v) (same_parts (x ∷ xs) (y ∷ ys) h.1)
  same_parts (suffix.Slice i j k ∷ xs) (suffix.Slice a b e ∷ ys) h v = same_next name _ _ _ _ (same_suffix_value (suffix.Slice i j k) (suffix.Slice a b e) h.0 v) (same_parts xs ys h.1)
  same_parts (suffix.Call x ∷ xs) (suffix.Call y ∷ ys) h v = same_next name _ _ _ _ (same_suffix_value (suffix.Call x) (suffix.Call y) h.0 v) (same_parts xs ys h.1)
  same_parts (suffix.Method n x ∷ xs) (suffix.Method m y ∷ ys) h v = same_next name _ _ _ _ (same_suffix_value (suffix.Method n x) (suffix.Method m y) h.0 v) (same_parts xs ys h.1)
  same_parts [] (y ∷ ys) h v = absurd h
  same_parts (x ∷ xs) [] h v = absurd h
  same_parts (suffix.Index at ∷ []) (suffix.Index to ∷ y ∷ ys) h v = absurd h.1
  same_parts (suffix.Index at ∷ x ∷ xs) (suffix.Index to ∷ []) h v = absurd h.1
  same_parts (suffix.Index at ∷ xs) (suffix.Slice a b e ∷ ys) h v = absurd h.0
  same_parts (suffix.Index at ∷ xs) (suffix.Call y ∷ ys) h v = absurd h.0
  same_parts (suffix.Index at ∷ xs) (suffix.Method m y ∷ ys) h v = absurd h.0
  same_parts (suffix.Slice i j k ∷ xs) (suffix.Index to ∷ ys) h v = absurd h.0
  same_parts (suffix.Slice i j k ∷ xs) (suffix.Call y ∷ ys) h v = absurd h.0
  same_parts (suffix.Slice i j k ∷ xs) (suffix.Method m y ∷ ys) h v = absurd h.0
  same_parts (suffix.Call x ∷ xs) (suffix.Index to ∷ ys) h v = absurd h.0
  same_parts (suffix.Call x ∷ xs) (suffix.Slice a b e ∷ ys) h v = absurd h.0
  same_parts (suffix.Call x ∷ xs) (suffix.Method m y ∷ ys) h v = absurd h.0
  same_parts (suffix.Method n x ∷ xs) (suffix.Index to ∷ ys) h v = absurd h.0
  same_parts (suffix.Method n x ∷ xs) (suffix.Slice a b e ∷ ys) h v = absurd h.0
  same_parts (suffix.Method n x ∷ xs) (suffix.Call y ∷ ys) h v = absurd h.0

  pub same_place : (m : Meant C) (n : Meant D) (xs : List (Suffix (Meant C))) (ys : List (Suffix (Meant D))) → Alike name m n → Each AlikeSuffix xs ys → FrontReads m xs → SameSteps name (place st c m xs) (place su d n ys)
  same_place m n xs ys h k r = let f = front_alike m n xs ys h k r in same_next name _ _ _ _ f.0 (same_parts (primary st c m xs).1 (primary su d n ys).1 f.1)

  -- ---- each form, over parts that mean the same

  names_alike : (ms : List (Meant C)) (ns : List (Meant D)) → Each (Alike name) ms ns → flat_map (λ x. x) (map (λ n. n.names) ns) ≡ flat_map (λ x. x) (map (λ m. m.names) ms)
  names_alike [] [] h = refl
  names_alike (m ∷ ms) (n ∷ ns) h = ap (λ xs. xs ++ flat_map (λ x. x) (map (λ o. o.names) ns)) h.0.names ∙ ap (λ xs. m.names ++ xs) (names_alike ms ns h.1)
  names_alike [] (n ∷ ns) h = absurd h
  names_alike (m ∷ ms) [] h = absurd h

  -- a form that is no target
  abbrev Forms : Expr-F (Meant C) → Expr-F (Meant D) → Type 0
  Forms x y = SameMeant name (step st c x) (step su d y)

  name_form : (n : List ℕ) → Forms (Expr-F.Name n) (Expr-F.Name n)
  name_form n = record {
    value = same_operation name _ _ (same_look_up name n);
    store = λ v. same_bind name n v;
    update = λ f g h. same_next name _ _ _ _ (same_next name _ _ _ _ (same_operation name _ _ (same_look_up name n)) h) (same_bind name n);
    names = refl;
    is_input = refl;
    literal = refl;
  }

  -- a literal
  constant : (v : Value) → SameSteps name (operation (pure v)) (operation (pure v))
  constant v = same_operation name _ _ (same_going name v)

  never : {A : Type 0} → SameSteps {A = A} name (fail failure.WrongType) (fail failure.WrongType)
  never = same_failing name failure.WrongType

  paren_form : (m : Meant C) (n : Meant D) → Alike name m n → Forms (Expr-F.Paren m) (Expr-F.Paren n)
  paren_form m n h = record { value = h.value; store = h.store; update = λ f g k. never; names = h.names; is_input = refl; literal = refl }

  tuple_form : (ms : List (Meant C)) (ns : List (Meant D)) (b : Bool) → Each (Alike name) ms ns → Forms (Expr-F.Tuple ms b) (Expr-F.Tuple ns b)
  tuple_form ms ns b h = record {
    value = same_next name _ _ _ _ (same_values name ms ns h) (λ vs. same_operate name _ _ (λ locked. same_new_tuple (under name locked) vs));
    store = same_store_items name ms ns h;
    update = λ f g k. never;
    names = names_alike ms ns h;
    is_input = refl;
    literal = refl;
  }

  list_form : (ms : List (Meant C)) (ns : List (Meant D)) (b : Bool) → Each (Alike name) ms ns → Forms (Expr-F.List ms b) (Expr-F.List ns b)
  list_form ms ns b h = record {
    value = same_next name _ _ _ _ (same_values name ms ns h) (λ vs. same_operate name _ _ (λ locked. same_new_list (under name locked) vs));
    store = same_store_items name ms ns h;
    update = λ f g k. never;
    names = names_alike ms ns h;
    is_input = refl;
    literal = refl;
  }

  list_over_form : (m : Meant C) (n : Meant D) (xs : List (Clause (Meant C))) (ys : List (Clause (Meant D))) → Alike name m n → Each (AlikeClause name) xs ys → Forms (Expr-F.ListOver m xs) (Expr-F.ListOver n ys)
  list_over_form m n xs ys h k = record {
    value = same_next name _ _ _ _ (same_comprehension name _ _ (same_list_turn name m n h) xs ys k []) (λ vs. same_acting name _ _ (λ locked. same_new_list (under name locked) vs));
    store = λ v. never;
    update = λ f g l. never;
    names = refl;
    is_input = refl;
    literal = refl;
  }

  dict_form : (xs : List (Pair (Meant C))) (ys : List (Pair (Meant D))) (b : Bool) → Each (AlikePair name) xs ys → Forms (Expr-F.Dict xs b) (Expr-F.Dict ys b)
  dict_form xs ys b h = record {
    value = same_next name _ _ _ _ (same_display_pairs name [] xs ys h) (λ done. same_operate name _ _ (λ locked. same_new_dict (under name locked) done));
    store = λ v. never;
    update = λ f g k. never;
    names = refl;
    is_input = refl;
    literal = refl;
  }

  dict_over_form : (k v : Meant C) (l w : Meant D) (xs : List (Clause (Meant C))) (ys : List (Clause (Meant D))) → Alike name k l → Alike name v w → Each (AlikeClause name) xs ys
      → Forms (Expr-F.DictOver k v xs) (Expr-F.DictOver l w ys)
  dict_over_form k v l w xs ys h g e = record {
    value = same_next name _ _ _ _ (same_comprehension name _ _ (same_dict_turn name k v l w h g) xs ys e []) (λ done. same_acting name _ _ (λ locked. same_new_dict (under name locked) done));
    store = λ x. never;
    update = λ f x y. never;
    names = refl;
    is_input = refl;
    literal = refl;
  }

  primary_form : (m : Meant C) (n : Meant D) (xs : List (Suffix (Meant C))) (ys : List (Suffix (Meant D))) → Alike name m n → Each AlikeSuffix xs ys → FrontReads m xs → Forms (Expr-F.Primary m xs) (Expr-F.Primary n ys)
  primary_form m n xs ys h k r = let front_is = front_alike m n xs ys h k r in record {
    value = same_next name _ _ _ _ front_is.0 (same_suffixed (primary st c m xs).1 (primary su d n ys).1 front_is.1);
    store = λ v. same_next name _ _ _ _ (same_place m n xs ys h k r) (λ at. same_store_at name at.0 at.1 v);
    update = λ f g l. same_next name _ _ _ _ (same_place m n xs ys h k r) (λ at. same_next name _ _ _ _ (same_operate name _ _ (λ locked. same_index (under name locked) at.0 at.1)) (λ old.
        same_next name _ _ _ _ (l old) (λ new. same_store_at name at.0 at.1 new)));
    names = refl;
    is_input = refl;
    literal = refl;
  }

  signed_form : (ss : List UnaryOp) (m : Meant C) (n : Meant D) → Alike name m n → Forms (Expr-F.Signed ss m) (Expr-F.Signed ss n)
  signed_form ss m n h = record { value = same_next name _ _ _ _ h.value (same_signed name ss); store = λ v. never; update = λ f g k. never; names = refl; is_input = refl; literal = refl }

  chain_form : (level : ChainLevel) (m : Meant C) (n : Meant D) (xs : List (Link (Meant C))) (ys : List (Link (Meant D))) → Alike name m n → Each AlikeLink xs ys → Forms (Expr-F.Chain level m xs) (Expr-F.Chain level n ys)
  chain_form level m n xs ys h k = record { value = same_next name _ _ _ _ h.value (same_chained xs ys k); store = λ v. never; update = λ f g l. never; names = refl; is_input = refl; literal = refl }

  compare_form : (a b : Meant C) (x y : Meant D) (o : CompareOp) → Alike name a x → Alike name b y → Forms (Expr-F.Compare a o b) (Expr-F.Compare x o y)
  compare_form a b x y o h k = record {
    value = same_next name _ _ _ _ h.value (λ u. same_next name _ _ _ _ k.value (λ v. same_operate name _ _ (λ locked. same_compared (under name locked) o u v)));
    store = λ v. never;
    update = λ f g l. never;
    names = refl;
    is_input = refl;
    literal = refl;
  }

  not_form : (count : ℕ) (m : Meant C) (n : Meant D) → Alike name m n → Forms (Expr-F.Not count m) (Expr-F.Not count n)
  not_form count m n h = record {
    value = same_next name _ _ _ _ h.value (λ v. same_next name _ _ _ _ (same_charging name count) (λ _. same_next name _ _ _ _ (same_truth name v) (λ t. same_going name (value.Bool (turned count t)))));
    store = λ v. never;
    update = λ f g k. never;
    names = refl;
    is_input = refl;
    literal = refl;
  }

  pub record AlikeArm (x : Arm (Meant C)) (y : Arm (Meant D)) : Type 0 where
    pub value_is : Alike name x.value y.value
    pub condition_is : Alike name x.condition y.condition

  pub same_chosen : (xs : List (Arm (Meant C))) (ys : List (Arm (Meant D))) (m : Meant C) (n : Meant D) → Each AlikeArm xs ys → Alike name m n → SameSteps name (chosen st c xs m) (chosen su d ys n)
  same_chosen [] [] m n h k = k.value
  same_chosen (x ∷ xs) (y ∷ ys) m n h k =
      same_next name _ _ _ _ h.0.condition_is.value (λ v. same_next name _ _ _ _ (same_charging name 1) (λ _. same_next name _ _ _ _ (same_truth name v) (λ t.
      same_choose name t _ _ _ _ h.0.value_is.value (same_chosen xs ys m n h.1 k))))
  same_chosen [] (y ∷ ys) m n h k = absurd h
  same_chosen (x ∷ xs) [] m n h k = absurd h

  conditional_form : (xs : List (Arm (Meant C))) (ys : List (Arm (Meant D))) (m : Meant C) (n : Meant D) → Each AlikeArm xs ys → Alike name m n → Forms (Expr-F.Conditional xs m) (Expr-F.Conditional ys n)
  conditional_form xs ys m n h k = record { value = same_chosen xs ys m n h k; store = λ v. never; update = λ f g l. never; names = refl; is_input = refl; literal = refl }

  -- ---- trees

  -- uses of the name `input` that may be read
  abbrev pub Allowed : List Use → Type 0
  Allowed uses = UsesIn name.reads uses

  -- a tree, with what is shown of its parts
  abbrev Known : Type 0
  Known = (e : Expr) × (Allowed (seen e).uses → SameMeant name (meant st c e) (meant su d e))

  abbrev bare : Expr-F Known → Expr-F Expr
  bare = map-Expr Known Expr (λ e. e.0)

  split : (xs ys : List Use) → Allowed (xs ++ ys) → Allowed xs × Allowed ys
  split xs ys h = halves (use_in name.reads) xs ys h

  all_known : (es : List Known) → Allowed (all_uses (map seen (map (λ e. e.0) es))) → Each (Alike name) (map (meant st c) (map (λ e. e.0) es)) (map (meant su d) (map (λ e. e.0) es))
  all_known [] h = tt
  all_known (e ∷ es) h = let parts = split (seen e.0).uses (all_uses (map seen (map (λ o. o.0) es))) h in (e.1 parts.0, all_known es parts.1)

  -- the two meanings of a layer whose parts are known
  abbrev lower : Expr-F Known → Expr-F (Meant C)
  lower y = map-Expr Expr (Meant C) (meant st c) (bare y)

  abbrev upper : Expr-F Known → Expr-F (Meant D)
  upper y = map-Expr Expr (Meant D) (meant su d) (bare y)

  -- what the rules of placement see of it
  abbrev seen_of : Expr-F Known → Expr-F Seen
  seen_of y = map-Expr Expr Seen seen (bare y)

  links_of : {X : Type 0} → Expr-F X → List (Link X)
  links_of (Expr-F.Chain level first xs) = xs
  links_of _ = []

  arms_of : {X : Type 0} → Expr-F X → List (Arm X)
  arms_of (Expr-F.Conditional xs last) = xs
  arms_of _ = []

  suffixes_of : {X : Type 0} → Expr-F X → List (Suffix X)
  suffixes_of (Expr-F.Primary head xs) = xs
  suffixes_of _ = []

  pairs_in : {X : Type 0} → Expr-F X → List (Pair X)
  pairs_in (Expr-F.Dict xs comma) = xs
  pairs_in _ = []

  clauses_of : {X : Type 0} → Expr-F X → List (Clause X)
  clauses_of (Expr-F.ListOver x xs) = xs
  clauses_of (Expr-F.DictOver k v xs) = xs
  clauses_of _ = []

  abbrev link_uses : List (Link Seen) → List Use
  link_uses xs = flat_map (λ link. link.operand.uses) xs

  links_known : (level : ChainLevel) (e : Known) (xs : List (Link Known)) → Allowed (link_uses (links_of (seen_of (Expr-F.Chain level e xs))))
      → Each AlikeLink (links_of (lower (Expr-F.Chain level e xs))) (links_of (upper (Expr-F.Chain level e xs)))
  unfolding links_of
  links_known level e [] h = tt
  links_known level e (x ∷ xs) h =
      let parts = split (seen x.operand.0).uses (link_uses (links_of (seen_of (Expr-F.Chain level e xs)))) h in (record { op_is = refl; operand_is = x.operand.1 parts.0 }, links_known level e xs parts.1)

  abbrev arm_uses : List (Arm Seen) → List Use
  arm_uses xs = flat_map (λ arm. arm.value.uses ++ arm.condition.uses) xs

  arms_known : (e : Known) (xs : List (Arm Known)) → Allowed (arm_uses (arms_of (seen_of (Expr-F.Conditional xs e)))) → Each AlikeArm (arms_of (lower (Expr-F.Conditional xs e))) (arms_of (upper (Expr-F.Conditional xs e)))
  unfolding arms_of
  arms_known e [] h = tt
  arms_known e (x ∷ xs) h =
      let parts = split ((seen x.value.0).uses ++ (seen x.condition.0).uses) (arm_uses (arms_of (seen_of (Expr-F.Conditional xs e)))) h in
      let arm = split (seen x.value.0).uses (seen x.condition.0).uses parts.0 in (record { value_is = x.value.1 arm.0; condition_is = x.condition.1 arm.1 }, arms_known e xs parts.1)

  abbrev pair_uses : List (Pair Seen) → List Use
  pair_uses xs = flat_map (λ pair. pair.key.uses ++ pair.value.uses) xs

  pairs_known : (b : Bool) (xs : List (Pair Known)) → Allowed (pair_uses (pairs_in (seen_of (Expr-F.Dict xs b)))) → Each (AlikePair name) (pairs_in (lower (Expr-F.Dict xs b))) (pairs_in (upper (Expr-F.Dict xs b)))
  unfolding pairs_in
  pairs_known b [] h = tt
  pairs_known b (x ∷ xs) h =
      let parts = split ((seen x.key.0).uses ++ (seen x.value.0).uses) (pair_uses (pairs_in (seen_of (Expr-F.Dict xs b)))) h in
      let pair = split (seen x.key.0).uses (seen x.value.0).uses parts.0 in (record { key_is = x.key.1 pair.0; value_is = x.value.1 pair.1 }, pairs_known b xs parts.1)

  abbrev clauses_uses : List (Clause Seen) → List Use
  clauses_uses xs = flat_map clause_uses xs

  list_clauses_known : (e : Known) (xs : List (Clause Known)) → Allowed (clauses_uses (clauses_of (seen_of (Expr-F.ListOver e xs)))) → Each (AlikeClause name) (clauses_of (lower (Expr-F.ListOver e xs))) (clauses_of (upper (Expr-F.ListOver e xs)))
  unfolding clauses_of
  list_clauses_known e [] h = tt
  list_clauses_known e (clause.For targets over ∷ xs) h =
      let parts = split (all_uses (map seen (map (λ o. o.0) targets)) ++ (seen over.0).uses) (clauses_uses (clauses_of (seen_of (Expr-F.ListOver e xs)))) h in
      let for = split (all_uses (map seen (map (λ o. o.0) targets))) (seen over.0).uses parts.0 in ((all_known targets for.0, over.1 for.1), list_clauses_known e xs parts.1)
  list_clauses_known e (clause.If condition ∷ xs) h =
      let parts = split (seen condition.0).uses (clauses_uses (clauses_of (seen_of (Expr-F.ListOver e xs)))) h in (condition.1 parts.0, list_clauses_known e xs parts.1)

  dict_clauses_known : (k v : Known) (xs : List (Clause Known)) → Allowed (clauses_uses (clauses_of (seen_of (Expr-F.DictOver k v xs)))) → Each (AlikeClause name) (clauses_of (lower (Expr-F.DictOver k v xs))) (clauses_of (upper (Expr-F.DictOver k v xs)))
  unfolding clauses_of
  dict_clauses_known k v [] h = tt
  dict_clauses_known k v (clause.For targets over ∷ xs) h =
      let parts = split (all_uses (map seen (map (λ o. o.0) targets)) ++ (seen over.0).uses) (clauses_uses (clauses_of (seen_of (Expr-F.DictOver k v xs)))) h in
      let for = split (all_uses (map seen (map (λ o. o.0) targets))) (seen over.0).uses parts.0 in ((all_known targets for.0, over.1 for.1), dict_clauses_known k v xs parts.1)
  dict_clauses_known k v (clause.If condition ∷ xs) h =
      let parts = split (seen condition.0).uses (clauses_uses (clauses_of (seen_of (Expr-F.DictOver k v xs)))) h in (condition.1 parts.0, dict_clauses_known k v xs parts.1)

  abbrev suffixes_uses : List (Suffix Seen) → List Use
  suffixes_uses xs = flat_map suffix_uses xs

  -- what the bounds of a slice read
  abbrev AllowedSlice : Known → Option Known → Option Known → Option (Option Known) → List (Suffix Known) → Type 0
  AllowedSlice e i j k xs = Allowed (suffixes_uses (suffixes_of (seen_of (Expr-F.Primary e (suffix.Slice i j k ∷ xs)))))

  abbrev more_uses : Known → List (Suffix Known) → List Use
  more_uses e xs = suffixes_uses (suffixes_of (seen_of (Expr-F.Primary e xs)))

  abbrev KnownSlice : Known → Option Known → Option Known → Option (Option Known) → List (Suffix Known) → Type 0
  KnownSlice e i j k xs = Each AlikeSuffix (suffixes_of (lower (Expr-F.Primary e (suffix.Slice i j k ∷ xs)))) (suffixes_of (upper (Expr-F.Primary e (suffix.Slice i j k ∷ xs))))

  slice_known : (e : Known) (i j : Option Known) (k : Option (Option Known)) (xs : List (Suffix Known)) → AllowedSlice e i j k xs
      → (Allowed (more_uses e xs) → Each AlikeSuffix (suffixes_of (lower (Expr-F.Primary e xs))) (suffixes_of (upper (Expr-F.Primary e xs)))) → KnownSlice e i j k xs
  unfolding suffixes_of
  slice_known e None None None xs r h = ((tt, tt, tt), h r)
  slice_known e None None (Some None) xs r h = ((tt, tt, tt), h r)
  slice_known e None None (Some (Some k)) xs r h = let parts = split (seen k.0).uses (more_uses e xs) r in ((tt, tt, k.1 parts.0), h parts.1)
  slice_known e None (Some j) None xs r h =
      let parts = split ((seen j.0).uses ++ []) (more_uses e xs) r in let bounds = split (seen j.0).uses [] parts.0 in ((tt, j.1 bounds.0, tt), h parts.1)
  slice_known e None (Some j) (Some None) xs r h =
      let parts = split ((seen j.0).uses ++ []) (more_uses e xs) r in let bounds = split (seen j.0).uses [] parts.0 in ((tt, j.1 bounds.0, tt), h parts.1)
  slice_known e None (Some j) (Some (Some k)) xs r h =
      let parts = split ((seen j.0).uses ++ (seen k.0).uses) (more_uses e xs) r in let bounds = split (seen j.0).uses (seen k.0).uses parts.0 in ((tt, j.1 bounds.0, k.1 bounds.1), h parts.1)
  slice_known e (Some i) None None xs r h =
      let parts = split ((seen i.0).uses ++ []) (more_uses e xs) r in let bounds = split (seen i.0).uses [] parts.0 in ((i.1 bounds.0, tt, tt), h parts.1)
  slice_known e (Some i) None (Some None) xs r h =
      let parts = split ((seen i.0).uses ++ []) (more_uses e xs) r in let bounds = split (seen i.0).uses [] parts.0 in ((i.1 bounds.0, tt, tt), h parts.1)
  slice_known e (Some i) None (Some (Some k)) xs r h =
      let parts = split ((seen i.0).uses ++ (seen k.0).uses) (more_uses e xs) r in let bounds = split (seen i.0).uses (seen k.0).uses parts.0 in ((i.1 bounds.0, tt, k.1 bounds.1), h parts.1)
  slice_known e (Some i) (Some j) None xs r h =
      let parts = split ((seen i.0).uses ++ ((seen j.0).uses ++ [])) (more_uses e xs) r in let bounds = split (seen i.0).uses ((seen j.0).uses ++ []) parts.0 in
      let rest = split (seen j.0).uses [] bounds.1 in ((i.1 bounds.0, j.1 rest.0, tt), h parts.1)
  slice_known e (Some i) (Some j) (Some None) xs r h =
      let parts = split ((seen i.0).uses ++ ((seen j.0).uses ++ [])) (more_uses e xs) r in let bounds = split (seen i.0).uses ((seen j.0).uses ++ []) parts.0 in
      let rest = split (seen j.0).uses [] bounds.1 in ((i.1 bounds.0, j.1 rest.0, tt), h parts.1)
  slice_known e (Some i) (Some j) (Some (Some k)) xs r h =
      let parts = split ((seen i.0).uses ++ ((seen j.0).uses ++ (seen k.0).uses)) (more_uses e xs) r in let bounds = split (seen i.0).uses ((seen j.0).uses ++ (seen k.0).uses) parts.0 in
      let rest = split (seen j.0).uses (seen k.0).uses bounds.1 in ((i.1 bounds.0, j.1 rest.0, k.1 rest.1), h parts.1)

  named_of : {X : Type 0} → Expr-F X → List (Named X)
  named_of (Expr-F.Primary head (suffix.Call given ∷ xs)) = given.named
  named_of (Expr-F.Primary head (suffix.Method n given ∷ xs)) = given.named
  named_of _ = []

  abbrev named_uses : List (Named Seen) → List Use
  named_uses xs = flat_map (λ named. named.value.uses) xs

  abbrev call_layer : Known → List Known → Bool → List (Named Known) → List (Suffix Known) → Expr-F Known
  call_layer e ps b ns xs = Expr-F.Primary e (suffix.Call (record { positional = ps; named = ns; comma = b }) ∷ xs)

  abbrev method_layer : Known → List ℕ → List Known → Bool → List (Named Known) → List (Suffix Known) → Expr-F Known
  method_layer e m ps b ns xs = Expr-F.Primary e (suffix.Method m (record { positional = ps; named = ns; comma = b }) ∷ xs)

  call_named : (e : Known) (ps : List Known) (b : Bool) (ns : List (Named Known)) (xs : List (Suffix Known)) → Allowed (named_uses (named_of (seen_of (call_layer e ps b ns xs))))
      → Each (AlikeNamed name) (named_of (lower (call_layer e ps b ns xs))) (named_of (upper (call_layer e ps b ns xs)))
  unfolding named_of
  call_named e ps b [] xs h = tt
  call_named e ps b (n ∷ ns) xs h =
      let parts = split (seen n.value.0).uses (named_uses (named_of (seen_of (call_layer e ps b ns xs)))) h in (record { name_is = refl; value_is = n.value.1 parts.0 }, call_named e ps b ns xs parts.1)

  method_named : (e : Known) (m : List ℕ) (ps : List Known) (b : Bool) (ns : List (Named Known)) (xs : List (Suffix Known)) → Allowed (named_uses (named_of (seen_of (method_layer e m ps b ns xs))))
      → Each (AlikeNamed name) (named_of (lower (method_layer e m ps b ns xs))) (named_of (upper (method_layer e m ps b ns xs)))
  unfolding named_of
  method_named e m ps b [] xs h = tt
  method_named e m ps b (n ∷ ns) xs h =
      let parts = split (seen n.value.0).uses (named_uses (named_of (seen_of (method_layer e m ps b ns xs)))) h in (record { name_is = refl; value_is = n.value.1 parts.0 }, method_named e m ps b ns xs parts.1)

  suffixes_known : (e : Known) (xs : List (Suffix Known)) → Allowed (more_uses e xs) → Each AlikeSuffix (suffixes_of (lower (Expr-F.Primary e xs))) (suffixes_of (upper (Expr-F.Primary e xs)))
  unfolding suffixes_of named_of
  suffixes_known e [] h = tt
  suffixes_known e (suffix.Index at ∷ xs) h = let parts = split (seen at.0).uses (more_uses e xs) h in (at.1 parts.0, suffixes_known e xs parts.1)
  suffixes_known e (suffix.Slice i j k ∷ xs) h = slice_known e i j k xs h (suffixes_known e xs)
  suffixes_known e (suffix.Call given ∷ xs) h =
      let named = named_uses (named_of (seen_of (call_layer e given.positional given.comma given.named xs))) in
      let parts = split (all_uses (map seen (map (λ o. o.0) given.positional)) ++ named) (more_uses e xs) h in
      let arguments = split (all_uses (map seen (map (λ o. o.0) given.positional))) named parts.0 in
      ((all_known given.positional arguments.0, call_named e given.positional given.comma given.named xs arguments.1, refl), suffixes_known e xs parts.1)
  suffixes_known e (suffix.Method m given ∷ xs) h =
      let named = named_uses (named_of (seen_of (method_layer e m given.positional given.comma given.named xs))) in
      let parts = split (all_uses (map seen (map (λ o. o.0) given.positional)) ++ named) (more_uses e xs) h in
      let arguments = split (all_uses (map seen (map (λ o. o.0) given.positional))) named parts.0 in
      ((refl, (all_known given.positional arguments.0, method_named e m given.positional given.comma given.named xs arguments.1, refl)), suffixes_known e xs parts.1)

  -- ---- the head of what is indexed or called

  literals_are : (es : List Known) (ns : List (Named (Meant C))) (os : List (Named Seen)) (b : Bool) → length ns ≡ length os
      → lone_literal (λ m. m.literal) (map (meant st c) (map (λ e. e.0) es)) ns b ≡ lone_literal (λ s. s.literal) (map seen (map (λ e. e.0) es)) os b
  literals_are [] ns os b h = refl
  literals_are (e ∷ []) [] [] false h = (sees st c e.0).literal
  literals_are (e ∷ []) [] [] true h = refl
  literals_are (e ∷ []) (n ∷ ns) (o ∷ os) b h = refl
  literals_are (e ∷ []) [] (o ∷ os) b h = absurd (grind (arith, h))
  literals_are (e ∷ []) (n ∷ ns) [] b h = absurd (grind (arith, h))
  literals_are (e ∷ o ∷ es) ns os b h = refl

  named_long : (e : Known) (ps : List Known) (b : Bool) (ns : List (Named Known)) (xs : List (Suffix Known))
      → length (named_of (lower (call_layer e ps b ns xs))) ≡ length (named_of (seen_of (call_layer e ps b ns xs)))
  unfolding named_of
  named_long e ps b [] xs = refl
  named_long e ps b (n ∷ ns) xs = ap suc (named_long e ps b ns xs)

  first_is : (e : Known) (xs : List (Suffix Known)) → first_literal (λ m. m.literal) (suffixes_of (lower (Expr-F.Primary e xs))) ≡ first_literal (λ s. s.literal) (suffixes_of (seen_of (Expr-F.Primary e xs)))
  unfolding suffixes_of named_of
  first_is e [] = refl
  first_is e (suffix.Index at ∷ xs) = refl
  first_is e (suffix.Slice i j k ∷ xs) = refl
  first_is e (suffix.Call given ∷ xs) =
      literals_are given.positional (named_of (lower (call_layer e given.positional given.comma given.named xs))) (named_of (seen_of (call_layer e given.positional given.comma given.named xs))) given.comma
      (named_long e given.positional given.comma given.named xs)
  first_is e (suffix.Method m given ∷ xs) = refl

  named_if : (b : Bool) (xs : List (Suffix (Meant C))) → input_name st c b xs ≡ if_input name.reads b (first_literal (λ m. m.literal) xs)
  named_if true xs = refl
  named_if false xs = refl

  front_reads : (e : Known) (xs : List (Suffix Known)) → Allowed (head_uses (seen e.0) (first_literal (λ s. s.literal) (suffixes_of (seen_of (Expr-F.Primary e xs)))))
      → FrontReads (meant st c e.0) (suffixes_of (lower (Expr-F.Primary e xs)))
  front_reads e xs h =
      subst (MayRead name.reads)
      (sym (named_if (meant st c e.0).is_input (suffixes_of (lower (Expr-F.Primary e xs)))
      ∙ ap (λ b. if_input name.reads b (first_literal (λ m. m.literal) (suffixes_of (lower (Expr-F.Primary e xs))))) (sees st c e.0).input
      ∙ ap (λ o. if_input name.reads (seen e.0).names_input o) (first_is e xs)))
      (head_reads name.reads (seen e.0) (first_literal (λ s. s.literal) (suffixes_of (seen_of (Expr-F.Primary e xs)))) h)

  layer_same : (y : Expr-F Known) → Allowed (layer_seen (seen_of y)).uses → Forms (lower y) (upper y)
  unfolding links_of arms_of suffixes_of pairs_in clauses_of
  layer_same (Expr-F.Name n) h = name_form n
  layer_same (Expr-F.Int z) h = record { value = constant (value.Int z); store = λ v. never; update = λ f g h. never; names = refl; is_input = refl; literal = refl }
  layer_same (Expr-F.Text t) h = record { value = constant (value.Text t); store = λ v. never; update = λ f g h. never; names = refl; is_input = refl; literal = refl }
  layer_same Expr-F.None h = record { value = constant value.None; store = λ v. never; update = λ f g h. never; names = refl; is_input = refl; literal = refl }
  layer_same Expr-F.True h = record { value = constant (value.Bool true); store = λ v. never; update = λ f g h. never; names = refl; is_input = refl; literal = refl }
  layer_same Expr-F.False h = record { value = constant (value.Bool false); store = λ v. never; update = λ f g h. never; names = refl; is_input = refl; literal = refl }
  layer_same (Expr-F.Paren e) h = paren_form _ _ (e.1 h)
  layer_same (Expr-F.Tuple es b) h = tuple_form _ _ b (all_known es h)
  layer_same (Expr-F.List es b) h = list_form _ _ b (all_known es h)
  layer_same (Expr-F.ListOver e xs) h =
      let parts = split (seen e.0).uses (clauses_uses (clauses_of (seen_of (Expr-F.ListOver e xs)))) h in list_over_form _ _ _ _ (e.1 parts.0) (list_clauses_known e xs parts.1)
  layer_same (Expr-F.Dict xs b) h = dict_form _ _ b (pairs_known b xs h)
  layer_same (Expr-F.DictOver k v xs) h =
      let parts = split (seen k.0).uses ((seen v.0).uses ++ clauses_uses (clauses_of (seen_of (Expr-F.DictOver k v xs)))) h in
      let rest = split (seen v.0).uses (clauses_uses (clauses_of (seen_of (Expr-F.DictOver k v xs)))) parts.1 in dict_over_form _ _ _ _ _ _ (k.1 parts.0) (v.1 rest.0) (dict_clauses_known k v xs rest.1)
  layer_same (Expr-F.Primary e xs) h =
      let first = first_literal (λ s. s.literal) (suffixes_of (seen_of (Expr-F.Primary e xs))) in
      let parts = split (head_uses (seen e.0) first) (more_uses e xs) h in
      primary_form _ _ _ _ (e.1 (head_part name.reads (seen e.0) first (sees st c e.0).uses parts.0)) (suffixes_known e xs parts.1) (front_reads e xs parts.0)
  layer_same (Expr-F.Signed ss e) h = signed_form ss _ _ (e.1 h)
  layer_same (Expr-F.Chain level e xs) h =
      let parts = split (seen e.0).uses (link_uses (links_of (seen_of (Expr-F.Chain level e xs)))) h in chain_form level _ _ _ _ (e.1 parts.0) (links_known level e xs parts.1)
  layer_same (Expr-F.Compare a o b) h = let parts = split (seen a.0).uses (seen b.0).uses h in compare_form _ _ _ _ o (a.1 parts.0) (b.1 parts.1)
  layer_same (Expr-F.Not count e) h = not_form count _ _ (e.1 h)
  layer_same (Expr-F.Conditional xs e) h =
      let parts = split (arm_uses (arms_of (seen_of (Expr-F.Conditional xs e)))) (seen e.0).uses h in conditional_form _ _ _ _ (arms_known e xs parts.0) (e.1 parts.1)

  rolled_same : (x : Expr-F Expr) → Forms (map-Expr Expr (Meant C) (meant st c) x) (map-Expr Expr (Meant D) (meant su d) x) → SameMeant name (meant st c (roll-Expr x)) (meant su d (roll-Expr x))
  unfolding meant
  rolled_same x h =
      subst (λ m. SameMeant name m (meant su d (roll-Expr x))) (sym (fold-roll-Expr (Meant C) (step st c) x))
      (subst (λ n. SameMeant name (step st c (map-Expr Expr (Meant C) (meant st c) x)) n) (sym (fold-roll-Expr (Meant D) (step su d) x)) h)

  rolled_uses : (x : Expr-F Expr) → Allowed (seen (roll-Expr x)).uses → Allowed (layer_seen (map-Expr Expr Seen seen x)).uses
  unfolding seen
  rolled_uses x h = subst (λ s. Allowed s.uses) (fold-roll-Expr Seen layer_seen x) h

  -- each tree that reads no other inputs means the same whatever the names of cells
  pub same_meant : (e : Expr) → Allowed (seen e).uses → SameMeant name (meant st c e) (meant su d e)
  same_meant =
      ind-Expr (λ e. Allowed (seen e).uses → SameMeant name (meant st c e) (meant su d e))
      (λ x y is. subst (λ z. Allowed (seen (roll-Expr z)).uses → SameMeant name (meant st c (roll-Expr z)) (meant su d (roll-Expr z))) is (λ h. rolled_same _ (layer_same y (rolled_uses _ h))))
