-- The statements of a cell, one after another.
use Rattle.std.proofs.Common.{◌≡◌, ℕ, zero, suc, ◌+◌, ◌-◌, ◌<◌, ◌≤◌, ◌==◌, Bool, true, false, List, [], ◌∷◌, ◌++◌, map, length, get_or, drop, length-drop, refl, sym, ap, subst, ◌∙◌, arith, IsTrue, Option, Some, None, slice_get}
use Rattle.std.specs.Prelude.{Result, Ok, Err}
use Rattle.std.specs.List.{list_any}
use Rattle.std.proofs.lemmas.Bool.Decides.{nat_tests}
use Rattle.heap_store.proofs.Tested.{and_both}
use Rattle.star_syntax.specs.declared.cell.Program.{Program}
use Rattle.star_syntax.specs.declared.expression.Expr.{Expr}
use Rattle.star_syntax.specs.declared.expression.Named.{Named}
use Rattle.star_syntax.specs.declared.statement.Block.{Block}
use Rattle.star_syntax.specs.declared.statement.Branch.{Branch}
use Rattle.star_syntax.specs.declared.statement.Definition.{Definition}
use Rattle.star_syntax.specs.declared.statement.Line.{Line}
use Rattle.star_syntax.specs.declared.statement.Statement.{Statement}
use Rattle.star_syntax.specs.declared.statement.Statement.TheVariants as s
use Rattle.star_syntax.specs.Cells.{def_of, functions_of}
use Rattle.star_value.specs.declared.failure.Failure.{Failure}
use Rattle.star_value.specs.declared.stop.Stop.{Stop}
use Rattle.star_value.specs.declared.stop.Stop.TheVariants as stop
use Rattle.star_value.specs.declared.value.Value.{Value}
use Rattle.star_meaning.specs.declared.flow.Flow.{Flow}
use Rattle.star_meaning.specs.declared.flow.Flow.TheVariants as flow
use Rattle.star_meaning.specs.Cells.{is_def, statements_from}
use Rattle.star_meaning.specs.Expressions.{values, values_from}
use Rattle.star_meaning.specs.State.{AFunction}
use Rattle.star_meaning.specs.Statements.{defined, go_on, line_of, statement_of}
use Rattle.star_meaning.specs.Steps.{Gives, Outcome, Went, Failed, and_then, charge, pure, ◌>>=◌}
use Rattle.star_meaning.specs.Validity.{function_at, has_defaults, is_defined}
use Rattle.star_meaning.specs.Values.{is_empty, new_function}
use Rattle.star_meaning.specs.World.{Fault, World, acting, bind, located, located_at}
use Rattle.star_meaning.proofs.Equations.{def_def, def_for, def_if, def_line, statement_def}
use Rattle.star_run.specs.declared.halt.Halt.{Halt}
use Rattle.star_run.specs.declared.halt.Halt.TheVariants as halt
use Rattle.star_run.specs.Fixed.{Fixed, callee, meaning, setting}
use Rattle.star_run.specs.Halts.{Halts}
use Rattle.star_run.specs.Own.{Defines, Entered, MakesFunction, NumbersFrom, OwnGoes, defined_here}
use Rattle.star_run.specs.Running.{Goes, IsPaid, Running}
use Rattle.star_run.proofs.LoopLemmas.{left_here}
use Rattle.star_run.proofs.StatementCases.{exec_for, exec_if, exec_line}

-- ---- what is left

pub own_goes : (program : Program) (a b : Running) → Goes a b → OwnGoes program a b
own_goes program a b h = record { ran = h.ran; fit = h.fit; valid = h.valid program; few = h.few }

pub own_same : (program : Program) (a : Running) → OwnGoes program a a
own_same program a = record { ran = refl; fit = λ v h. h; valid = λ h. h; few = omega arith }

pub own_then : (program : Program) (a b c : Running) → OwnGoes program a b → OwnGoes program b c → OwnGoes program a c
own_then program a b c h k = record {
  ran = k.ran ∙ h.ran;
  fit = λ v f. k.fit v (h.fit v f);
  valid = λ v. k.valid (h.valid v);
  few = omega (arith, h.few, k.few);
}

pub entered_later : (program : Program) (node : ℕ) (a b : Running) → OwnGoes program a b → Entered node a.machine.ran → Entered node b.machine.ran
entered_later program node a b h entered = subst (λ (ran : List ℕ). Entered node ran) (sym h.ran) entered

-- ---- the functions of a cell

same_count : (n m : ℕ) → n ≡ m → IsTrue (n == m)
same_count n m is = grind (arith, nat_tests)

pub defined_in : (program : Program) (node number : ℕ) (ran : List ℕ) (def : Definition Statement) (defaults : List Value) → Entered node ran → function_at program node number ≡ Some def
    → length defaults ≡ length def.defaults → IsTrue (is_defined program ran (AFunction node number defaults))
defined_in program node number ran def defaults entered is count =
    and_both (list_any (λ n. n == node) ran) (has_defaults defaults (function_at program node number)) entered
    (subst (λ (o : Option (Definition Statement)). IsTrue (has_defaults defaults o)) (sym is) (same_count (length defaults) (length def.defaults) count))

functions_with : (st : Statement) (more : List Statement) (def : Definition Statement) → def_of st ≡ Some def → functions_of (st ∷ more) ≡ def ∷ functions_of more
functions_with st more def is = rw is refl

functions_without : (st : Statement) (more : List Statement) → def_of st ≡ None → functions_of (st ∷ more) ≡ functions_of more
functions_without st more is = rw is refl

count_with : (st : Statement) (def : Definition Statement) → def_of st ≡ Some def → is_def st ≡ 1
count_with st def is = rw is refl

count_without : (st : Statement) → def_of st ≡ None → is_def st ≡ 0
count_without st is = rw is refl

module _ (program : Program) (node number : ℕ) (st : Statement) (more : List Statement) (numbers : NumbersFrom program node number (st ∷ more)) where
  defines_at : (o : Option (Definition Statement)) → def_of st ≡ o → Defines program node number st
  defines_at None is = rw is tt
  defines_at (Some def) is =
      let none : number + 0 ≡ number = omega arith in
      rw is (ap (function_at program node) (sym none) ∙ numbers.each 0 ∙ ap (λ (ds : List (Definition Statement)). slice_get ds 0) (functions_with st more def is))

  later_at : (o : Option (Definition Statement)) → def_of st ≡ o → NumbersFrom program node (number + is_def st) more
  later_at None is = record {
    each = λ n.
        let same : number + is_def st + n ≡ number + n = ap (λ k. number + k + n) (count_without st is) ∙ omega arith in
        ap (function_at program node) same ∙ numbers.each n ∙ ap (λ (ds : List (Definition Statement)). slice_get ds n) (functions_without st more is);
  }
  later_at (Some def) is = record {
    each = λ n.
        let same : number + is_def st + n ≡ number + suc n = ap (λ k. number + k + n) (count_with st def is) ∙ omega arith in
        ap (function_at program node) same ∙ numbers.each (suc n) ∙ ap (λ (ds : List (Definition Statement)). slice_get ds (suc n)) (functions_with st more def is);
  }

  defines_first : Defines program node number st
  defines_first = defines_at (def_of st) refl

  numbers_more : NumbersFrom program node (number + is_def st) more
  numbers_more = later_at (def_of st) refl

-- the statement at a place, and those behind it
pub defines_here : (program : Program) (node number : ℕ) (all : List Statement) (i : ℕ) (st : Statement) → i < length all → st ≡ get_or all i st → NumbersFrom program node number (drop i all) → Defines program node number st
defines_here program node number all i st within here numbers =
    defines_first program node number st (drop (i + 1) all) (subst (NumbersFrom program node number) (left_here all i st within here) numbers)

pub numbers_later : (program : Program) (node number : ℕ) (all : List Statement) (i : ℕ) (st : Statement) → i < length all → st ≡ get_or all i st → NumbersFrom program node number (drop i all)
    → NumbersFrom program node (number + is_def st) (drop (i + 1) all)
numbers_later program node number all i st within here numbers =
    numbers_more program node number st (drop (i + 1) all) (subst (NumbersFrom program node number) (left_here all i st within here) numbers)

pub is_def_line : (line : Line) → is_def (s.Line line) ≡ 0
is_def_line line = count_without (s.Line line) (def_line line)

pub is_def_if : (at : ℕ) (first : Branch Statement) (more : List (Branch Statement)) (other : Option (Block Statement)) → is_def (s.If at first more other) ≡ 0
is_def_if at first more other = count_without (s.If at first more other) (def_if at first more other)

pub is_def_for : (at : ℕ) (targets over : List Expr) (body : Block Statement) → is_def (s.For at targets over body) ≡ 0
is_def_for at targets over body = count_without (s.For at targets over body) (def_for at targets over body)

pub is_def_def : (at : ℕ) (def : Definition Statement) → is_def (s.Def at def) ≡ 1
is_def_def at def = count_with (s.Def at def) def (def_def at def)

pub ruleset counts_of_forms = (is_def_line, is_def_if, is_def_for, is_def_def)

at_def : (program : Program) (node number : ℕ) (st : Statement) (def : Definition Statement) → def_of st ≡ Some def → Defines program node number st → function_at program node number ≡ Some def
at_def program node number st def is h = rw is at h

-- what a `def` defines
pub defines_def : (program : Program) (node number at : ℕ) (def : Definition Statement) → Defines program node number (s.Def at def) → function_at program node number ≡ Some def
defines_def program node number at def h = at_def program node number (s.Def at def) def (def_def at def) h

-- what a `def` leaves
module _ (program : Program) (node number : ℕ) (def : Definition Statement) (defaults : List Value) (a b c : Running) (paid : IsPaid a b) (first : Goes a b) (middle : Goes b c) where
  pub function_goes : (d : Running) → MakesFunction node number defaults c d → Entered node a.machine.ran → function_at program node number ≡ Some def → length defaults ≡ length def.defaults → OwnGoes program a d
  function_goes d made entered is count =
      let ran : c.machine.ran ≡ a.machine.ran = middle.ran ∙ first.ran in
      record {
        ran = made.ran ∙ ran;
        fit = λ v f. made.fit v (middle.fit v (first.fit v f));
        valid = λ v. made.valid program (defined_in program node number c.machine.ran def defaults (subst (Entered node) (sym ran) entered) is count) (middle.valid program (first.valid program v));
        few = omega (arith, paid, middle.few, made.few);
      }

pub both_go : (program : Program) (a b c : Running) → Goes a b → Goes b c → OwnGoes program a c
both_go program a b c h k = own_then program a b c (own_goes program a b h) (own_goes program b c k)

-- ---- defaults

module _ (g : Fixed) (depth : ℕ) where
  pub default_step : (ns : List (Named Expr)) (i : ℕ) (n : Named Expr) (done after : List Value) (v : Value) (w next : World ℕ) → i < length ns → n ≡ get_or ns i n → (meaning g depth n.value).value w ≡ Went v next
      → after ≡ done ++ v ∷ [] → values_from done (map (λ named. meaning g depth named.value) (drop i ns)) w ≡ values_from after (map (λ named. meaning g depth named.value) (drop (i + 1) ns)) next
  default_step ns i n done after v w next within here gave pushed =
      let more : drop i ns ≡ n ∷ drop (i + 1) ns = left_here ns i n within here in
      rw (more, gave, pushed) refl

-- ---- a `def`

module _ (g : Fixed) (depth : ℕ) (def : Definition Statement) (number : ℕ) (w u : World ℕ) (paid : acting (charge 1) w ≡ Went tt u) (ds : List (Named Expr)) (is : ds ≡ def.defaults) where
  define_left : defined_here g depth def number w
      ≡ and_then (values (map (λ named. meaning g depth named.value) ds) u) (λ vs. acting (new_function g.node number vs) >>= (λ v. bind def.name v))
  define_left =
      ap (λ o. and_then o (λ done. values (map (λ named. meaning g depth named.value) def.defaults) >>= (λ vs. acting (new_function g.node number vs) >>= (λ v. bind def.name v)))) paid
      ∙ ap (λ (ns : List (Named Expr)). and_then (values (map (λ named. meaning g depth named.value) ns) u) (λ vs. acting (new_function g.node number vs) >>= (λ v. bind def.name v))) (sym is)

  -- a default fails
  pub default_stops : (v : World ℕ) (e : Stop) → Gives (values (map (λ named. meaning g depth named.value) ds) u) (Err e) v → Gives (defined_here g depth def number w) (Err e) v
  default_stops v (stop.Failure f) h = define_left ∙ ap (λ o. and_then o (λ vs. acting (new_function g.node number vs) >>= (λ x. bind def.name x))) h
  default_stops v stop.NoMemory h = tt

  module _ (v : World ℕ) (vs : List Value) (gave : values (map (λ named. meaning g depth named.value) ds) u ≡ Went vs v) (n : ℕ) (same : n ≡ number) where
    define_after : defined_here g depth def number w ≡ and_then (acting (new_function g.node n vs) v) (λ x. bind def.name x)
    define_after =
        define_left ∙ ap (λ o. and_then o (λ xs. acting (new_function g.node number xs) >>= (λ x. bind def.name x))) gave
        ∙ ap (λ k. and_then (acting (new_function g.node k vs) v) (λ x. bind def.name x)) (sym same)

    pub function_stops : (t : World ℕ) (e : Stop) → Gives (acting (new_function g.node n vs) v) (Err e) t → Gives (defined_here g depth def number w) (Err e) t
    function_stops t (stop.Failure f) h = define_after ∙ ap (λ o. and_then o (λ x. bind def.name x)) h
    function_stops t stop.NoMemory h = tt

    pub function_bound : (t after : World ℕ) (x : Value) (r : Result (Unit {0}) Stop) → acting (new_function g.node n vs) v ≡ Went x t → Gives (bind def.name x t) r after → Gives (defined_here g depth def number w) r after
    function_bound t after x r made gives =
        let all : defined_here g depth def number w ≡ bind def.name x t = define_after ∙ ap (λ o. and_then o (λ y. bind def.name y)) made in
        subst (λ o. Gives o r after) (sym all) gives

-- ---- statements

located_on : (line : ℕ) (o : Outcome (World ℕ) Failure (Unit {0})) → located_at line (and_then o (λ done. pure flow.On)) ≡ and_then (located_at line o) (λ done. pure flow.On)
located_on line (Went done w) = refl
located_on line (Failed e w) = refl

all_passed : (k n : ℕ) → k ≡ n → (k == n) ≡ true
all_passed k n is = grind (arith, nat_tests)

more_stand : (k n : ℕ) → k < n → (k == n) ≡ false
more_stand k n less = grind (arith, nat_tests)

ended_by : {X : Type 0} (more : List X) (k n : ℕ) → length more ≡ n - k → k ≤ n → (k == n) ≡ is_empty more
ended_by [] k n is within = all_passed k n (omega (arith, is))
ended_by (x ∷ more) k n is within = more_stand k n (omega (arith, is))

is_last : {X : Type 0} (xs : List X) (i : ℕ) → i < length xs → (i + 1 == length xs) ≡ is_empty (drop (i + 1) xs)
is_last xs i within = ended_by (drop (i + 1) xs) (i + 1) (length xs) (length-drop (i + 1) xs) (omega arith)

module _ (g : Fixed) (depth : ℕ) where
  -- forms that have no number
  pub own_line : (line : Line) (last : Bool) (number : ℕ) (w : World ℕ)
      → statement_of (setting g) (callee g depth) (s.Line line) last (Some number) w ≡ line_of (setting g) (callee g depth) last line w
  own_line line last number w = exec_line (setting g) (callee g depth) line last (Some number) w

  pub own_if : (at : ℕ) (first : Branch Statement) (more : List (Branch Statement)) (other : Option (Block Statement)) (last : Bool) (number : ℕ) (w : World ℕ)
      → statement_of (setting g) (callee g depth) (s.If at first more other) last (Some number) w ≡ statement_of (setting g) (callee g depth) (s.If at first more other) last None w
  own_if at first more other last number w = exec_if (setting g) (callee g depth) at first more other last (Some number) w ∙ sym (exec_if (setting g) (callee g depth) at first more other last None w)

  pub own_for : (at : ℕ) (targets over : List Expr) (body : Block Statement) (last : Bool) (number : ℕ) (w : World ℕ)
      → statement_of (setting g) (callee g depth) (s.For at targets over body) last (Some number) w ≡ statement_of (setting g) (callee g depth) (s.For at targets over body) last None w
  own_for at targets over body last number w = exec_for (setting g) (callee g depth) at targets over body last (Some number) w ∙ sym (exec_for (setting g) (callee g depth) at targets over body last None w)

  pub own_def : (at : ℕ) (def : Definition Statement) (last : Bool) (number : ℕ) (w : World ℕ)
      → statement_of (setting g) (callee g depth) (s.Def at def) last (Some number) w ≡ and_then (located at (defined_here g depth def number) w) (λ done. pure flow.On)
  unfolding located defined
  own_def at def last number w = statement_def (setting g) (callee g depth) at def last (Some number) w ∙ located_on at (defined_here g depth def number w)

  module _ (st : Statement) (last : Bool) (number : ℕ) (w v : World ℕ) (r : Result Flow Halt) where
    pub line_gives : (line : Line) → st ≡ s.Line line → Halts (line_of (setting g) (callee g depth) last line w) r v → Halts (statement_of (setting g) (callee g depth) st last (Some number) w) r v
    line_gives line is gave =
        let all : line_of (setting g) (callee g depth) last line w ≡ statement_of (setting g) (callee g depth) st last (Some number) w =
        sym (own_line line last number w) ∙ ap (λ (x : Statement). statement_of (setting g) (callee g depth) x last (Some number) w) (sym is) in
        subst (λ (o : Outcome (World ℕ) Fault Flow). Halts o r v) all gave

    pub if_gives : (at : ℕ) (first : Branch Statement) (more : List (Branch Statement)) (other : Option (Block Statement)) → st ≡ s.If at first more other
        → Halts (statement_of (setting g) (callee g depth) st last None w) r v → Halts (statement_of (setting g) (callee g depth) st last (Some number) w) r v
    if_gives at first more other is gave =
        let all : statement_of (setting g) (callee g depth) st last None w ≡ statement_of (setting g) (callee g depth) st last (Some number) w =
        ap (λ (x : Statement). statement_of (setting g) (callee g depth) x last None w) is ∙ sym (own_if at first more other last number w)
        ∙ ap (λ (x : Statement). statement_of (setting g) (callee g depth) x last (Some number) w) (sym is) in
        subst (λ (o : Outcome (World ℕ) Fault Flow). Halts o r v) all gave

    pub for_gives : (at : ℕ) (targets over : List Expr) (body : Block Statement) → st ≡ s.For at targets over body
        → Halts (statement_of (setting g) (callee g depth) st last None w) r v → Halts (statement_of (setting g) (callee g depth) st last (Some number) w) r v
    for_gives at targets over body is gave =
        let all : statement_of (setting g) (callee g depth) st last None w ≡ statement_of (setting g) (callee g depth) st last (Some number) w =
        ap (λ (x : Statement). statement_of (setting g) (callee g depth) x last None w) is ∙ sym (own_for at targets over body last number w)
        ∙ ap (λ (x : Statement). statement_of (setting g) (callee g depth) x last (Some number) w) (sym is) in
        subst (λ (o : Outcome (World ℕ) Fault Flow). Halts o r v) all gave

    pub def_gives : (at : ℕ) (def : Definition Statement) → st ≡ s.Def at def → Halts (and_then (located at (defined_here g depth def number) w) (λ done. pure flow.On)) r v
        → Halts (statement_of (setting g) (callee g depth) st last (Some number) w) r v
    def_gives at def is gave =
        let all : and_then (located at (defined_here g depth def number) w) (λ done. pure flow.On) ≡ statement_of (setting g) (callee g depth) st last (Some number) w =
        sym (own_def at def last number w) ∙ ap (λ (x : Statement). statement_of (setting g) (callee g depth) x last (Some number) w) (sym is) in
        subst (λ (o : Outcome (World ℕ) Fault Flow). Halts o r v) all gave

  module _ (all : List Statement) (i n : ℕ) (st : Statement) (last : Bool) (w v : World ℕ) (within : i < length all) (here : st ≡ get_or all i st) (is : last ≡ (i + 1 == length all)) where
    own_left : statements_from (setting g) (callee g depth) n (drop i all) w
        ≡ and_then (statement_of (setting g) (callee g depth) st last (Some n) w) (go_on (statements_from (setting g) (callee g depth) (n + is_def st) (drop (i + 1) all)))
    own_left =
        ap (λ xs. statements_from (setting g) (callee g depth) n xs w) (left_here all i st within here)
        ∙ ap (λ b. and_then (statement_of (setting g) (callee g depth) st b (Some n) w) (go_on (statements_from (setting g) (callee g depth) (n + is_def st) (drop (i + 1) all)))) (sym (is ∙ is_last all i within))

    pub own_step : (m : ℕ) → m ≡ n + is_def st → (end : Flow) → statement_of (setting g) (callee g depth) st last (Some n) w ≡ Went end v → end ≡ flow.On
        → statements_from (setting g) (callee g depth) n (drop i all) w ≡ statements_from (setting g) (callee g depth) m (drop (i + 1) all) v
    own_step m same end gave on =
        own_left ∙ ap (λ o. and_then o (go_on (statements_from (setting g) (callee g depth) (n + is_def st) (drop (i + 1) all)))) (gave ∙ ap (λ (x : Flow). Went x v) on)
        ∙ ap (λ k. statements_from (setting g) (callee g depth) k (drop (i + 1) all) v) (sym same)
