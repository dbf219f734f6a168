-- Statements and calls do the same whatever the names of cells.
use Rattle.std.proofs.Common.{◌≡◌, ℕ, zero, suc, List, [], ◌∷◌, ◌++◌, map, Bool, true, false, IsTrue, refl, sym, ap, subst, ◌∙◌}
use Rattle.std.specs.Prelude.{Option, Some, None, option_map, slice_get, ◌&&◌, sum, if◌then◌else◌}
use Rattle.std.specs.FinSet as set
use Rattle.std.specs.List.{flat_map}
use Rattle.chex_base.specs.TextOrder.{text_cmp}
use Rattle.star_syntax.specs.Placement.{MisplacedReturn, NestedDef, Place, RepeatedParameter, Shows, Finding, all_findings, block_findings, branch_findings, default_parameter, else_findings, expr_findings, header_findings, in_body, in_branch, in_turn, kind_findings, layer_findings, line_findings, name_findings, parameter_findings, parameters, small_findings, statement_findings, unless, where_broken}
use Rattle.star_syntax.specs.declared.expression.Expr.{Expr}
use Rattle.star_syntax.specs.declared.expression.Named.{Named}
use Rattle.star_syntax.specs.declared.operator.BinaryOp.{BinaryOp}
use Rattle.star_syntax.specs.declared.statement.Block.{Block}
use Rattle.star_syntax.specs.declared.statement.Block.TheVariants as blocks
use Rattle.star_syntax.specs.declared.statement.Branch.{Branch}
use Rattle.star_syntax.specs.declared.statement.Definition.{Definition}
use Rattle.star_syntax.specs.declared.statement.Line.{Line}
use Rattle.star_syntax.specs.declared.statement.Small.{Small}
use Rattle.star_syntax.specs.declared.statement.SmallKind.{SmallKind}
use Rattle.star_syntax.specs.declared.statement.SmallKind.TheVariants as small
use Rattle.star_syntax.specs.declared.statement.Statement.{Statement, fold-roll-Statement, ind-Statement, map-Statement, roll-Statement}
use Rattle.star_syntax.specs.declared.statement.Statement.TheOpen.{Statement-F}
use Rattle.star_value.specs.declared.failure.Failure.TheVariants as failure
use Rattle.star_value.specs.declared.value.Value.{Value, out-Value}
use Rattle.star_value.specs.declared.value.Value.TheOpen.{Value-F}
use Rattle.star_value.specs.declared.value.Value.TheVariants as value
use Rattle.star_meaning.specs.declared.flow.Flow.{Flow}
use Rattle.star_meaning.specs.declared.flow.Flow.TheVariants as flow
use Rattle.star_meaning.specs.State.{Object, AList, ADict, AFunction, function, object, function_held}
use Rattle.star_meaning.specs.Steps.{Outcome, Went, Failed, ◌>>=◌}
use Rattle.star_meaning.specs.Values.{is_empty, new_function}
use Rattle.star_meaning.specs.Showing.{made, quoted, ◌<+>◌}
use Rattle.star_meaning.specs.Builtins.{ByName}
use Rattle.star_meaning.specs.World.{World, Work, Fault, Course, acting, write, bind, lock_of}
use Rattle.star_meaning.specs.Expressions.{Setting, Callee, meant, naming, tests_value, values}
use Rattle.star_meaning.specs.Statements.{Doing, Filled, after_turn, all_meant, block_of, body_of, branches_of, call_to, condition_of, default_weight, defined, echo, echo_at, echo_if, else_of, ended, filled, for_turns, go_on, in_sequence, iterated, kind_of, layer_of, line_of, local_block, operator, parameters_of, repeated, result_of, returned, run_body, run_defined, run_filled, run_function, small_of, statement_of, then_on}
use Rattle.star_meaning.specs.Validity.{renamed}
use Rattle.star_meaning.specs.Renaming.{Names, under, world_as, outcome_as, SameSteps, SameSetting, SameCallee, SameMeant}
use Rattle.star_meaning.specs.Growing.{Leads}
use Rattle.star_meaning.specs.Reading.{FindingsIn, body_findings, finding_in}
use Rattle.star_meaning.proofs.GrownLemmas.{good_found, good_if}
use Rattle.star_meaning.proofs.ReadingLemmas.{expr_part, halves}
use Rattle.star_meaning.proofs.Renamed.{get_same}
use Rattle.star_meaning.proofs.RenamedShowing.{same_items_of, same_joined, same_made, same_new_function, same_quoted}
use Rattle.star_meaning.proofs.RenamedOperators.{same_augmented}
use Rattle.star_meaning.proofs.RenamedWorld.{same_acting, same_bind, same_charging, same_failing, same_going, same_in_function, same_located, same_locking, same_next, same_operate_at, same_write}
use Rattle.star_meaning.proofs.RenamedExpressions.{Each, Alike, same_choose, same_next_item, same_store_in, same_tests_value, same_truth, same_values}
use Rattle.star_meaning.proofs.RenamedForms.{naming_as, same_meant}

leads_ended : {C : Type 0} (here : C) (w : World C) (o : Outcome (World C) Fault Flow) → Leads here w o → Leads here w (ended o)
leads_ended here w (Went flow.On v) h = record { later = h.later; back = h.back }
leads_ended here w (Went flow.Break v) h = record { later = h.later; back = h.back }
leads_ended here w (Went flow.Continue v) h = record { later = h.later; back = h.back }
leads_ended here w (Went (flow.Return x) v) h = record { later = h.later; back = h.back }
leads_ended here w (Failed fault v) h = record { later = h.later; back = tt }

module _ {C D : Type 0} (name : Names C D) where
  -- ---- one after another

  pub same_go_on : (p : Course C Flow) (q : Course D Flow) → SameSteps name p q → (f : Flow) → SameSteps name (go_on p f) (go_on q f)
  same_go_on p q h flow.On = h
  same_go_on p q h flow.Break = same_going name flow.Break
  same_go_on p q h flow.Continue = same_going name flow.Continue
  same_go_on p q h (flow.Return v) = same_going name (flow.Return v)

  pub same_in_sequence : {S : Type 0} (f : Bool → S → Course C Flow) (g : Bool → S → Course D Flow) → ((b : Bool) (s : S) → SameSteps name (f b s) (g b s)) → (last : Bool) (xs : List S)
      → SameSteps name (in_sequence f last xs) (in_sequence g last xs)
  same_in_sequence f g h last [] = same_going name flow.On
  same_in_sequence f g h last (x ∷ xs) = same_next name _ _ _ _ (h (last && is_empty xs) x) (same_go_on _ _ (same_in_sequence f g h last xs))

  same_after_turn : (p : Course C Flow) (q : Course D Flow) → SameSteps name p q → (f : Flow) → SameSteps name (after_turn p f) (after_turn q f)
  same_after_turn p q h flow.On = h
  same_after_turn p q h flow.Continue = h
  same_after_turn p q h flow.Break = same_going name flow.On
  same_after_turn p q h (flow.Return v) = same_going name (flow.Return v)

  pub same_for_turns : (f : Value → Course C (Unit {0})) (g : Value → Course D (Unit {0})) (p : Course C Flow) (q : Course D Flow) → ((v : Value) → SameSteps name (f v) (g v)) → SameSteps name p q → (xs : List Value)
      → SameSteps name (for_turns f p xs) (for_turns g q xs)
  same_for_turns f g p q h k [] = same_going name flow.On
  same_for_turns f g p q h k (x ∷ xs) = same_next name _ _ _ _ (same_next name _ _ _ _ (h x) (λ _. k)) (same_after_turn _ _ (same_for_turns f g p q h k xs))

  abbrev pub SameDoing : Doing C → Doing D → Type 0
  SameDoing p q = (last : Bool) (number : Option ℕ) → SameSteps name (p last number) (q last number)

  -- statements in a block
  same_block : (ps : List (Doing C)) (qs : List (Doing D)) → Each SameDoing ps qs → SameSteps name (in_sequence (λ last s. s false None) false ps) (in_sequence (λ last s. s false None) false qs)
  same_block [] [] h = same_going name flow.On
  same_block (p ∷ ps) (q ∷ qs) h = same_next name _ _ _ _ (h.0 false None) (same_go_on _ _ (same_block ps qs h.1))
  same_block [] (q ∷ qs) h = absurd h
  same_block (p ∷ ps) [] h = absurd h

  same_ended : (o : Outcome (World C) Fault Flow) → ended (outcome_as (world_as name.to) o) ≡ outcome_as (world_as name.to) (ended o)
  same_ended (Went flow.On w) = refl
  same_ended (Went flow.Break w) = refl
  same_ended (Went flow.Continue w) = refl
  same_ended (Went (flow.Return v) w) = refl
  same_ended (Failed fault w) = refl

  same_result_of : (p : Course C Flow) (q : Course D Flow) → SameSteps name p q → SameSteps name (result_of p) (result_of q)
  same_result_of p q h = record { at = λ w good. record { holds = ap ended (h.at w good).holds ∙ same_ended (p w); leads = leads_ended name.here w (p w) (h.at w good).leads } }

  module _ (st : Setting C) (su : Setting D) (same_st : SameSetting name st su) (c : Callee C) (d : Callee D) (same_callee : SameCallee name c d) where
    -- what statements show, where they read no other inputs
    abbrev pub Allowed : List Finding → Type 0
    Allowed findings = FindingsIn name.reads findings

    split : (xs ys : List Finding) → Allowed (xs ++ ys) → Allowed xs × Allowed ys
    split xs ys h = halves (finding_in name.reads) xs ys h

    same_of : (line : ℕ) (e : Expr) → Allowed (expr_findings line e) → SameMeant name (meant st c e) (meant su d e)
    same_of line e h = same_meant name st su same_st c d same_callee e (expr_part name.reads line e h)

    pub each_meant : (line : ℕ) (es : List Expr) → Allowed (all_findings line es) → Each (Alike name) (all_meant st c es) (all_meant su d es)
    each_meant line [] h = tt
    each_meant line (e ∷ es) h = let parts = split (expr_findings line e) (all_findings line es) h in (same_of line e parts.0, each_meant line es parts.1)

    pub same_tests : (line : ℕ) (es : List Expr) → Allowed (all_findings line es) → SameSteps name (tests_value (all_meant st c es)) (tests_value (all_meant su d es))
    same_tests line es h = same_tests_value name _ _ (each_meant line es h)

    -- ---- small statements

    same_written : (v : Value) → SameSteps name (acting (quoted (naming st) v <+> made (10 ∷ [])) >>= write) (acting (quoted (naming su) v <+> made (10 ∷ [])) >>= write)
    same_written v =
        same_next name _ _ _ _ (same_acting name _ _ (λ locked. same_joined (under name locked) _ _ _ _ (same_quoted (under name locked) (naming st) (naming su) (naming_as name st su same_st c d same_callee) v) (same_made (under name locked) (10 ∷ [])))) (same_write name)

    same_echo_at : (x : Value-F Value) (v : Value) → SameSteps name (echo_at st c x v) (echo_at su d x v)
    same_echo_at Value-F.None v = same_going name tt
    same_echo_at (Value-F.Bool b) v = same_written v
    same_echo_at (Value-F.Int z) v = same_written v
    same_echo_at (Value-F.Text points) v = same_written v
    same_echo_at (Value-F.Tuple items) v = same_written v
    same_echo_at (Value-F.Range r) v = same_written v
    same_echo_at (Value-F.List id) v = same_written v
    same_echo_at (Value-F.Dict id) v = same_written v
    same_echo_at (Value-F.Function id) v = same_written v
    same_echo_at (Value-F.Builtin which) v = same_written v

    pub same_echo_if : (b : Bool) (v : Value) → SameSteps name (echo_if st c b v) (echo_if su d b v)
    unfolding echo
    same_echo_if true v = same_echo_at (out-Value v) v
    same_echo_if false v = same_going name tt

    pub same_returned : (line : ℕ) (es : List Expr) → Allowed (all_findings line es) → SameSteps name (returned st c (all_meant st c es)) (returned su d (all_meant su d es))
    same_returned line [] h = same_going name value.None
    same_returned line (e ∷ es) h = same_tests line (e ∷ es) h

    pub same_operator : (o : BinaryOp) (x y : Value) → SameSteps name (operator st c o x y) (operator su d o x y)
    same_operator o x y = record {
      at = λ w good.
          let same = same_operate_at name _ _ w good (same_augmented (under name w.frame.locked) (naming st) (naming su) (naming_as name st su same_st c d same_callee) o x y) in record { holds = same.holds; leads = same.leads };
    }

    same_then_on : {A : Type 0} (p : Work C A) (q : Work D A) → SameSteps name p q → SameSteps name (then_on st c p) (then_on su d q)
    same_then_on p q h = same_next name _ _ _ _ h (λ _. same_going name flow.On)

    pub same_kind_of : (place : Place) (line : ℕ) (last : Bool) (k : SmallKind) → Allowed (kind_findings place line k) → SameSteps name (kind_of st c last k) (kind_of su d last k)
    unfolding kind_of
    same_kind_of place line last (small.Return tests) h =
        let parts = split (unless place.in_function MisplacedReturn line) (all_findings line tests) h in same_next name _ _ _ _ (same_returned line tests parts.1) (λ v. same_going name (flow.Return v))
    same_kind_of place line last small.Break h = same_going name flow.Break
    same_kind_of place line last small.Continue h = same_going name flow.Continue
    same_kind_of place line last small.Pass h = same_going name flow.On
    same_kind_of place line last (small.Assign targets tests) h =
        let parts = split (all_findings line targets) (all_findings line tests) h in same_then_on _ _ (same_next name _ _ _ _ (same_tests line tests parts.1) (same_store_in name _ _ (each_meant line targets parts.0)))
    same_kind_of place line last (small.Augmented target o tests) h =
        let parts = split (expr_findings line target) (all_findings line tests) h in
        same_then_on _ _ ((same_of line target parts.0).update _ _ (λ old. same_next name _ _ _ _ (same_tests line tests parts.1) (same_operator o old)))
    same_kind_of place line last (small.Tests tests) h = same_then_on _ _ (same_next name _ _ _ _ (same_tests line tests h) (same_echo_if last))

    pub same_small_of : (place : Place) (last : Bool) (s : Small) → Allowed (small_findings place s) → SameSteps name (small_of st c last s) (small_of su d last s)
    unfolding small_of
    same_small_of place last s h = same_located name s.line _ _ (same_next name _ _ _ _ (same_charging name 1) (λ _. same_kind_of place s.line last s.kind h))

    same_smalls : (place : Place) (last : Bool) (smalls : List Small) → Allowed (flat_map (small_findings place) smalls) → SameSteps name (in_sequence (small_of st c) last smalls) (in_sequence (small_of su d) last smalls)
    same_smalls place last [] h = same_going name flow.On
    same_smalls place last (s ∷ smalls) h =
        let parts = split (small_findings place s) (flat_map (small_findings place) smalls) h in
        same_next name _ _ _ _ (same_small_of place (last && is_empty smalls) s parts.0) (same_go_on _ _ (same_smalls place last smalls parts.1))

    pub same_line_of : (place : Place) (last : Bool) (line : Line) → Allowed (line_findings place line) → SameSteps name (line_of st c last line) (line_of su d last line)
    unfolding line_findings
    same_line_of place last line h = same_smalls place last line.smalls h

    -- ---- statements with blocks

    pub same_condition : (at : ℕ) (e : Expr) → Allowed (expr_findings at e) → SameSteps name (condition_of st c at e) (condition_of su d at e)
    same_condition at e h = same_located name at _ _ (same_next name _ _ _ _ (same_of at e h).value (same_truth name))

    pub same_iterated : (at : ℕ) (over : List Expr) → Allowed (all_findings at over) → SameSteps name (iterated st c over) (iterated su d over)
    same_iterated at over h =
        same_next name _ _ _ _ (same_tests at over h) (λ v. same_next name _ _ _ _ (same_acting name _ _ (λ locked. same_items_of (under name locked) v)) (λ items. same_going name (v, items)))

    pub same_repeated : (at : ℕ) (targets : List Expr) → Allowed (all_findings at targets) → (p : Course C Flow) (q : Course D Flow) → SameSteps name p q → (over : Value × List Value)
        → SameSteps name (repeated st c at targets p over) (repeated su d at targets q over)
    unfolding repeated
    same_repeated at targets r p q h over =
        same_locking name (lock_of over.0) _ _ (same_for_turns _ _ p q (λ x. same_located name at _ _ (same_next_item name _ _ (each_meant at targets r) x)) h over.1)

    defaults_from : (at : ℕ) (before : set.FinSet text_cmp) (ns : List (Named Expr)) → Allowed (parameter_findings at before (map default_parameter ns))
        → Each (Alike name) (map (λ n. meant st c n.value) ns) (map (λ n. meant su d n.value) ns)
    defaults_from at before [] h = tt
    defaults_from at before (n ∷ ns) h =
        let more = parameter_findings at (set.insert before n.name) (map default_parameter ns) in
        let repeated = where_broken (set.contains before n.name) RepeatedParameter at in
        let named = split (name_findings at n.name) (repeated ++ (expr_findings at n.value ++ more)) h in
        let broken = split repeated (expr_findings at n.value ++ more) named.1 in
        let rest = split (expr_findings at n.value) more broken.1 in (same_of at n.value rest.0, defaults_from at (set.insert before n.name) ns rest.1)

    defaults_after : (at : ℕ) (before : set.FinSet text_cmp) (required : List (List ℕ)) (ns : List (Named Expr)) → Allowed (parameter_findings at before (parameters required ns))
        → Each (Alike name) (map (λ n. meant st c n.value) ns) (map (λ n. meant su d n.value) ns)
    defaults_after at before [] ns h = defaults_from at before ns h
    defaults_after at before (n ∷ required) ns h =
        let more = parameter_findings at (set.insert before n) (parameters required ns) in
        let repeated = where_broken (set.contains before n) RepeatedParameter at in
        let named = split (name_findings at n) (repeated ++ more) h in
        let broken = split repeated more named.1 in defaults_after at (set.insert before n) required ns broken.1

    defaults_same : (at : ℕ) (n : List ℕ) (required : List (List ℕ)) (ns : List (Named Expr)) → Allowed (header_findings at n (parameters required ns))
        → Each (Alike name) (map (λ o. meant st c o.value) ns) (map (λ o. meant su d o.value) ns)
    defaults_same at n required ns h = defaults_after at set.empty required ns (split (name_findings at n) (parameter_findings at set.empty (parameters required ns)) h).1

    abbrev defined_in : {X : Type 0} → Setting X → Callee X → X → List ℕ → List (Named Expr) → ℕ → Work X (Unit {0})
    defined_in sx x cell n ns number = values (map (λ o. meant sx x o.value) ns) >>= (λ vs. acting (new_function cell number vs) >>= bind n)

    abbrev defined_by : {X : Type 0} → Setting X → Callee X → List ℕ → List (Named Expr) → ℕ → Work X (Unit {0})
    defined_by sx x n ns number = values (map (λ o. meant sx x o.value) ns) >>= (λ vs. acting (new_function sx.cell number vs) >>= bind n)

    pub same_defined : (at : ℕ) (x : Definition (Doing C)) (y : Definition (Doing D)) (number : ℕ) → y.name ≡ x.name → y.defaults ≡ x.defaults → Allowed (header_findings at x.name (parameters x.required x.defaults)) → SameSteps name (defined st c x number) (defined su d y number)
    unfolding defined
    same_defined at x y number h k r =
        subst (λ n. SameSteps name (defined_by st c x.name x.defaults number) (defined_by su d n y.defaults number)) (sym h)
        (subst (λ ns. SameSteps name (defined_by st c x.name x.defaults number) (defined_by su d x.name ns number)) (sym k)
        (subst (λ cell. SameSteps name (defined_in st c st.cell x.name x.defaults number) (defined_in su d cell x.name x.defaults number)) (sym same_st.cell)
        (subst (λ cell. SameSteps name (defined_in st c cell x.name x.defaults number) (defined_in su d (name.to cell) x.name x.defaults number)) (sym same_st.here)
        (same_next name _ _ _ _ (same_values name _ _ (defaults_same at x.name x.required x.defaults r)) (λ vs. same_next name _ _ _ _ (same_acting name _ _ (λ locked. same_new_function (under name locked) number vs)) (same_bind name x.name))))))

    -- ---- trees of statements

    -- a statement, with what is shown of it
    abbrev Shown : Type 0
    Shown = (s : Statement) × ((place : Place) → Allowed (statement_findings s place) → SameDoing (statement_of st c s) (statement_of su d s))

    abbrev shows : Statement-F Shown → Statement-F Shows
    shows y = map-Statement Statement Shows statement_findings (map-Statement Shown Statement (λ s. s.0) y)

    abbrev lower : Statement-F Shown → Statement-F (Doing C)
    lower y = map-Statement Statement (Doing C) (statement_of st c) (map-Statement Shown Statement (λ s. s.0) y)

    abbrev upper : Statement-F Shown → Statement-F (Doing D)
    upper y = map-Statement Statement (Doing D) (statement_of su d) (map-Statement Shown Statement (λ s. s.0) y)

    abbrev all_shows : Place → List Shown → List Finding
    all_shows place ss = flat_map (λ f. f place) (map statement_findings (map (λ s. s.0) ss))

    all_shown : (place : Place) (ss : List Shown) → Allowed (all_shows place ss) → Each SameDoing (map (statement_of st c) (map (λ s. s.0) ss)) (map (statement_of su d) (map (λ s. s.0) ss))
    all_shown place [] h = tt
    all_shown place (s ∷ ss) h = let parts = split (statement_findings s.0 place) (all_shows place ss) h in (s.1 place parts.0, all_shown place ss parts.1)

    -- a body, as that of a loop over nothing
    body_in : {X : Type 0} → Statement-F X → Block X
    body_in (Statement-F.For at targets over body) = body
    body_in _ = blocks.Inline (record { smalls = []; semicolon = false })

    -- what a block shows
    abbrev block_shows : Place → Block Shown → List Finding
    block_shows place b = block_findings (body_in (shows (Statement-F.For 0 [] [] b))) place

    same_block_of : (place : Place) (b : Block Shown) → Allowed (block_shows place b) → SameSteps name (block_of st c (body_in (lower (Statement-F.For 0 [] [] b)))) (block_of su d (body_in (upper (Statement-F.For 0 [] [] b))))
    unfolding body_in
    same_block_of place (blocks.Inline line) h = same_line_of place false line h
    same_block_of place (blocks.Indented ss) h = same_block _ _ (all_shown place ss h)

    branches_in : {X : Type 0} → Statement-F X → List (Branch X)
    branches_in (Statement-F.If at first more other) = more
    branches_in _ = []

    else_in : {X : Type 0} → Statement-F X → Option (Block X)
    else_in (Statement-F.If at first more other) = other
    else_in _ = None

    same_else_of : (place : Place) (at : ℕ) (first : Branch Shown) (more : List (Branch Shown)) (other : Option (Block Shown)) → Allowed (else_findings (else_in (shows (Statement-F.If at first more other))) place)
        → SameSteps name (else_of st c (else_in (lower (Statement-F.If at first more other)))) (else_of su d (else_in (upper (Statement-F.If at first more other))))
    unfolding else_in body_in
    same_else_of place at first more None h = same_going name flow.On
    same_else_of place at first more (Some (blocks.Inline line)) h = same_block_of place (blocks.Inline line) h
    same_else_of place at first more (Some (blocks.Indented ss)) h = same_block_of place (blocks.Indented ss) h

    same_branch : (at : ℕ) (e : Expr) → Allowed (expr_findings at e) → (p x : Course C Flow) (q y : Course D Flow) → SameSteps name p q → SameSteps name x y
        → SameSteps name (condition_of st c at e >>= (λ t. if t then p else x)) (condition_of su d at e >>= (λ t. if t then q else y))
    same_branch at e r p x q y h k = same_next name _ _ _ _ (same_condition at e r) (λ t. same_choose name t p x q y h k)

    abbrev branches_show : Place → ℕ → Branch Shown → List (Branch Shown) → List Finding
    branches_show place at first more = flat_map (branch_findings at place) (branches_in (shows (Statement-F.If at first more None)))

    same_branches : (place : Place) (at : ℕ) (first : Branch Shown) (more : List (Branch Shown)) (p : Option (Block (Doing C))) (q : Option (Block (Doing D))) → Allowed (branches_show place at first more)
        → SameSteps name (else_of st c p) (else_of su d q)
        → SameSteps name (branches_of st c at (branches_in (lower (Statement-F.If at first more None))) p) (branches_of su d at (branches_in (upper (Statement-F.If at first more None))) q)
    unfolding branches_in body_in
    same_branches place at first [] p q r h = h
    same_branches place at first (b ∷ more) p q r h =
        let parts = split (expr_findings at b.condition ++ block_shows place b.body) (branches_show place at first more) r in
        let branch = split (expr_findings at b.condition) (block_shows place b.body) parts.0 in
        same_branch at b.condition branch.0 _ _ _ _ (same_block_of place b.body branch.1) (same_branches place at first more p q parts.1 h)

    layer_same : (y : Statement-F Shown) (place : Place) → Allowed (layer_findings (shows y) place) → SameDoing (layer_of st c (lower y)) (layer_of su d (upper y))
    unfolding branches_in else_in body_in
    layer_same (Statement-F.Line line) place h last number = same_line_of place last line h
    layer_same (Statement-F.If at first more other) place h last number =
        let inside = in_branch place in
        let elses = else_findings (else_in (shows (Statement-F.If at first more other))) inside in
        let parts = split (expr_findings at first.condition ++ block_shows inside first.body) (branches_show inside at first more ++ elses) h in
        let branch = split (expr_findings at first.condition) (block_shows inside first.body) parts.0 in
        let rest = split (branches_show inside at first more) elses parts.1 in
        same_next name _ _ _ _ (same_located name at _ _ (same_charging name 1)) (λ _. same_branch at first.condition branch.0 _ _ _ _ (same_block_of inside first.body branch.1)
        (same_branches inside at first more _ _ rest.0 (same_else_of inside at first more other rest.1)))
    layer_same (Statement-F.For at targets over body) place h last number =
        let parts = split (all_findings at targets) (all_findings at over ++ block_shows (in_turn place) body) h in
        let rest = split (all_findings at over) (block_shows (in_turn place) body) parts.1 in
        same_next name _ _ _ _ (same_located name at _ _ (same_next name _ _ _ _ (same_charging name 1) (λ _. same_iterated at over rest.0))) (same_repeated at targets parts.0 _ _ (same_block_of (in_turn place) body rest.1))
    layer_same (Statement-F.Def at def) place h last None = same_located name at _ _ (same_then_on _ _ (same_charging name 1))
    layer_same (Statement-F.Def at def) place h last (Some number) =
        let header = header_findings at def.name (parameters def.required def.defaults) in
        let parts = split (unless place.is_direct NestedDef at) (header ++ block_shows in_body def.body) h in
        let rest = split header (block_shows in_body def.body) parts.1 in
        same_located name at _ _ (same_then_on _ _ (same_next name _ _ _ _ (same_charging name 1) (λ _. same_defined at _ _ number refl refl rest.0)))

    rolled_same : (x : Statement-F Statement) → SameDoing (layer_of st c (map-Statement Statement (Doing C) (statement_of st c) x)) (layer_of su d (map-Statement Statement (Doing D) (statement_of su d) x))
        → SameDoing (statement_of st c (roll-Statement x)) (statement_of su d (roll-Statement x))
    unfolding statement_of
    rolled_same x h =
        subst (λ m. SameDoing m (statement_of su d (roll-Statement x))) (sym (fold-roll-Statement (Doing C) (layer_of st c) x))
        (subst (λ n. SameDoing (layer_of st c (map-Statement Statement (Doing C) (statement_of st c) x)) n) (sym (fold-roll-Statement (Doing D) (layer_of su d) x)) h)

    rolled_findings : (x : Statement-F Statement) (place : Place) → Allowed (statement_findings (roll-Statement x) place) → Allowed (layer_findings (map-Statement Statement Shows statement_findings x) place)
    unfolding statement_findings
    rolled_findings x place h = subst (λ f. Allowed (f place)) (fold-roll-Statement Shows layer_findings x) h

    -- each statement that reads no other inputs does the same whatever the names of cells
    pub same_statement : (s : Statement) (place : Place) → Allowed (statement_findings s place) → SameDoing (statement_of st c s) (statement_of su d s)
    same_statement =
        ind-Statement (λ s. (place : Place) → Allowed (statement_findings s place) → SameDoing (statement_of st c s) (statement_of su d s))
        (λ x y is. subst (λ z. (place : Place) → Allowed (statement_findings (roll-Statement z) place) → SameDoing (statement_of st c (roll-Statement z)) (statement_of su d (roll-Statement z))) is
        (λ place h. rolled_same _ (layer_same y place (rolled_findings _ place h))))

    same_statements : (ss : List Statement) → Allowed (flat_map (λ s. statement_findings s in_body) ss)
        → SameSteps name (in_sequence (λ last s. statement_of st c s false None) false ss) (in_sequence (λ last s. statement_of su d s false None) false ss)
    same_statements [] h = same_going name flow.On
    same_statements (s ∷ ss) h =
        let parts = split (statement_findings s in_body) (flat_map (λ x. statement_findings x in_body) ss) h in
        same_next name _ _ _ _ (same_statement s in_body parts.0 false None) (same_go_on _ _ (same_statements ss parts.1))

    pub same_body : (b : Block Statement) → Allowed (body_findings b) → SameSteps name (body_of st c b) (body_of su d b)
    same_body (blocks.Inline line) h = same_line_of in_body false line h
    same_body (blocks.Indented ss) h = same_statements ss h

    -- ---- calls of functions

    pub same_run_body : (def : Definition Statement) → Allowed (body_findings def.body) → (id : ℕ) (all : List Filled) → SameSteps name (run_body st c def id all) (run_body su d def id all)
    unfolding run_body
    same_run_body def h id all =
        same_next name _ _ _ _ (same_charging name (sum (map default_weight all))) (λ _. same_in_function name id (local_block def all) _ _ (same_result_of _ _ (same_body def.body h)))

    same_run_filled : (def : Definition Statement) → Allowed (body_findings def.body) → (id : ℕ) (o : Option (List Filled)) → SameSteps name (run_filled st c def id o) (run_filled su d def id o)
    same_run_filled def h id None = same_failing name failure.WrongArguments
    same_run_filled def h id (Some all) = same_run_body def h id all

    pub same_run_defined : (id : ℕ) (defaults : List Value) (o : Option (Definition Statement)) → ((def : Definition Statement) → o ≡ Some def → Allowed (body_findings def.body)) → (vs : List Value) (n : ByName)
        → SameSteps name (run_defined st c id defaults o vs n) (run_defined su d id defaults o vs n)
    same_run_defined id defaults None h vs n = same_failing name failure.WrongType
    same_run_defined id defaults (Some def) h vs n = same_run_filled def (h def refl) id (filled (parameters_of def defaults) vs n)

    pub same_run_function : (id : ℕ) (o : Option (Object C)) → IsTrue (good_if name.good o) → (vs : List Value) (n : ByName)
        → SameSteps name (run_function st c id (function_held o) vs n) (run_function su d id (function_held (option_map (renamed name.to) o)) vs n)
    same_run_function id None h vs n = same_failing name failure.WrongType
    same_run_function id (Some (AList items)) h vs n = same_failing name failure.WrongType
    same_run_function id (Some (ADict pairs)) h vs n = same_failing name failure.WrongType
    same_run_function id (Some (AFunction cell number defaults)) h vs n =
        subst (λ o. SameSteps name (run_defined st c id defaults (st.define cell number) vs n) (run_defined su d id defaults o vs n)) (sym (same_st.define cell number))
        (same_run_defined id defaults (st.define cell number) (λ def e. same_st.bodies cell number def h e) vs n)

  -- calls of functions do the same whatever the names of cells, while so many more may become active
  pub same_call_to : (st : Setting C) (su : Setting D) → SameSetting name st su → (n : ℕ) → SameCallee name (call_to st n) (call_to su n)
  unfolding call_to function object
  same_call_to st su h zero id vs by = same_failing name failure.TooManyCalls
  same_call_to st su h (suc n) id vs by = record {
    at = λ w good.
        let found = good_found name.good w.store.state.objects id good in
        let same = (same_run_function st su h (call_to st n) (call_to su n) (same_call_to st su h n) id (slice_get w.store.state.objects id) found vs by).at w good in record {
          holds = ap (λ o. run_function su (call_to su n) id (function_held o) vs by (world_as name.to w)) (get_same name.to w.store.state.objects id) ∙ same.holds;
          leads = same.leads;
        };
  }
