-- What a call of a function needs: how its steps are those of the meaning, and what its body leaves of the frame.
use Rattle.std.proofs.Common.{◌≡◌, ℕ, Bool, suc, ◌+◌, ◌-◌, ◌<◌, List, [], ◌∷◌, ◌++◌, map, Option, Some, None, refl, sym, ap, subst, ◌∙◌, IsTrue, arith, slice_get}
use Rattle.std.specs.Prelude.{Result, Ok, Err, IfOk, sum, ◌&&◌}
use Rattle.std.specs.Borrow.{Bor}
use Rattle.std.specs.List.{list_all}
use Rattle.std.specs.Option.{option_copied}
use Rattle.heap_store.proofs.Tested.{and_right, one_passes}
use Rattle.star_syntax.specs.declared.statement.Definition.{Definition}
use Rattle.star_syntax.specs.declared.statement.Statement.{Statement}
use Rattle.star_value.specs.declared.failure.Failure.{Failure}
use Rattle.star_value.specs.declared.failure.Failure.TheVariants as failure
use Rattle.star_value.specs.declared.stop.Stop.{Stop}
use Rattle.star_value.specs.declared.stop.Stop.TheVariants as stop
use Rattle.star_value.specs.declared.value.Value.{Value, fold-roll-Value}
use Rattle.star_value.specs.declared.value.Value.TheVariants as value
use Rattle.star_meaning.specs.declared.flow.Flow.{Flow}
use Rattle.star_meaning.specs.declared.flow.Flow.TheVariants as flow
use Rattle.star_meaning.specs.Builtins.{ByName}
use Rattle.star_meaning.specs.Growing.{IfWent, IsBack}
use Rattle.star_meaning.specs.State.{AFunction, AList, ADict, Object, function, function_held, object}
use Rattle.star_meaning.specs.Statements.{Filled, body_of, call_to, default_weight, ended, filled, local_block, parameters_of, result_of, run_body, run_defined, run_filled, run_function}
use Rattle.star_meaning.specs.Steps.{Outcome, Went, Failed, Gives, and_then, charge}
use Rattle.star_meaning.specs.Validity.{IsMachine, MachineState, all_in, all_in_object, fits, fits_step, function_at, is_function, is_proper}
use Rattle.star_meaning.specs.World.{Block, Fault, Frame, World, acting, entered, in_function, put_back, with_frame}
use Rattle.star_meaning.proofs.Leading.{body_leads}
use Rattle.star_builtins.specs.Reached.{AllFit, Fits}
use Rattle.star_run.specs.declared.filling.Filling.{Filling}
use Rattle.star_run.specs.Filling.{Fills, IsFilling}
use Rattle.star_run.specs.Fixed.{Fixed, callee, setting}
use Rattle.star_run.specs.Running.{Goes, Makes, Running, blocks_fit, world}
use Rattle.star_run.proofs.RunLemmas.{blocks_stay}

-- ---- what is called

-- steps that pay for what they make
pub makes_goes : (a b : Running) → Goes a b → Makes a b
makes_goes a b h = record { ran = h.ran; fit = h.fit; valid = h.valid; few = omega (arith, h.few) }

function_is : (os : List (Object ℕ)) (id : ℕ) → IsTrue (fits os (value.Function id)) → IsTrue (is_function (slice_get os id))
unfolding fits
function_is os id h = rw (← value.rolls-Function id, fold-roll-Value Bool (fits_step os)) at h

-- a function that a value names is there
pub function_there : (m : MachineState) (v : Value) (id : ℕ) → v ≡ value.Function id → Fits m v → IsTrue (is_function (slice_get m.state.objects id))
function_there m v id is h = function_is m.state.objects id (subst (λ x. IsTrue (fits m.state.objects x)) is h.references)

held_is : (o : Option (Object ℕ)) (cell number : ℕ) (defaults : List Value) → function_held o ≡ Some (cell, number, defaults) → o ≡ Some (AFunction cell number defaults)
held_is (Some (AFunction c n ds)) cell number defaults h =
    let same : (c, n, ds) ≡ (cell, number, defaults) = cc in
    ap (λ (p : ℕ × ℕ × List Value). Some (AFunction p.0 p.1 p.2)) same
held_is (Some (AList items)) cell number defaults h = absurd (cc)
held_is (Some (ADict pairs)) cell number defaults h = absurd (cc)
held_is None cell number defaults h = absurd (cc)

-- the values of a function's defaults may stand in the machine
pub defaults_fit : (m : MachineState) (id cell number : ℕ) (defaults : List Value) → IsMachine m → IsTrue (all_in is_proper m.state) → function m.state id ≡ Some (cell, number, defaults) → AllFit m defaults
unfolding function object
defaults_fit m id cell number defaults kept proper is =
    let there = held_is (slice_get m.state.objects id) cell number defaults is in
    record {
      references = one_passes (all_in_object (fits m.state.objects)) m.state.objects id (AFunction cell number defaults)
          (and_right (list_all (λ global. fits m.state.objects global.1) m.state.globals) (list_all (all_in_object (fits m.state.objects)) m.state.objects) kept.references) there;
      proper = one_passes (all_in_object is_proper) m.state.objects id (AFunction cell number defaults)
          (and_right (list_all (λ global. is_proper global.1) m.state.globals) (list_all (all_in_object is_proper) m.state.objects) proper) there;
    }

-- what a function holds is one thing
pub parts_are : (o : Option (ℕ × ℕ × List Value)) (parts : ℕ × ℕ × List Value) (cell number : ℕ) (defaults : List Value) → o ≡ Some (cell, number, defaults) → o ≡ Some parts → defaults ≡ parts.2
parts_are o parts cell number defaults h k =
    let same : (cell, number, defaults) ≡ parts = cc in ap (λ (p : ℕ × ℕ × List Value). p.2) same

pub copied_none : {A : Type 0} (x : Option (Bor A)) (o : Option A) → x ≡ None → option_copied x ≡ o → o ≡ None
copied_none x o h k = sym k ∙ ap option_copied h

pub copied_some : {A : Type 0} (x : Option (Bor A)) (o : Option A) (d : Bor A) → x ≡ Some d → option_copied x ≡ o → o ≡ Some d.now
copied_some x o d h k = sym k ∙ ap option_copied h

-- ---- a call, as far as its body

deeper : {X : Type 0} (f : ℕ → X) (n : ℕ) → 0 < n → f n ≡ f (suc (n - 1))
deeper f n some = let e : n ≡ suc (n - 1) = omega arith in ap f e

module _ (g : Fixed) where
  pub call_is : (depth id : ℕ) (vs : List Value) (named : ByName) (w : World ℕ) → 0 < depth
      → callee g depth id vs named w ≡ run_function (setting g) (callee g (depth - 1)) id (function w.store.state id) vs named w
  unfolding call_to
  call_is depth id vs named w some = deeper (λ n. call_to (setting g) n id vs named w) depth some

  pub call_none : (depth id : ℕ) (vs : List Value) (named : ByName) (w : World ℕ) → depth ≡ 0 → callee g depth id vs named w ≡ Failed failure.TooManyCalls w
  unfolding call_to
  call_none depth id vs named w none = ap (λ n. call_to (setting g) n id vs named w) none

module _ (g : Fixed) (depth id : ℕ) (o : Option (ℕ × ℕ × List Value)) (cell number : ℕ) (defaults vs : List Value) (named : ByName) (w : World ℕ) (is : o ≡ Some (cell, number, defaults)) where
  defined_is : run_function (setting g) (callee g depth) id o vs named w ≡ run_defined (setting g) (callee g depth) id defaults (function_at g.program cell number) vs named w
  defined_is = ap (λ x. run_function (setting g) (callee g depth) id x vs named w) is

  filled_as : (def : Definition Statement) → function_at g.program cell number ≡ Some def
      → run_function (setting g) (callee g depth) id o vs named w ≡ run_filled (setting g) (callee g depth) def id (filled (parameters_of def defaults) vs named) w
  filled_as def there = defined_is ∙ ap (λ d. run_defined (setting g) (callee g depth) id defaults d vs named w) there

  -- a function that its cell does not have
  pub runs_nothing : function_at g.program cell number ≡ None → run_function (setting g) (callee g depth) id o vs named w ≡ Failed failure.WrongType w
  runs_nothing none = defined_is ∙ ap (λ d. run_defined (setting g) (callee g depth) id defaults d vs named w) none

  -- arguments that are none of the function
  pub runs_unfilled : (def : Definition Statement) → function_at g.program cell number ≡ Some def → filled (parameters_of def defaults) vs named ≡ None
      → run_function (setting g) (callee g depth) id o vs named w ≡ Failed failure.WrongArguments w
  runs_unfilled def there none = filled_as def there ∙ ap (λ f. run_filled (setting g) (callee g depth) def id f w) none

  -- the body with parameters that are filled
  pub runs_body : (def : Definition Statement) (filling : Filling) (r : Result Value Stop) (after : World ℕ) → function_at g.program cell number ≡ Some def → Fills (filled (parameters_of def defaults) vs named) def (Some filling)
      → ((all : List Filled) → IsFilling def all filling → Gives (run_body (setting g) (callee g depth) def id all w) r after) → Gives (run_function (setting g) (callee g depth) id o vs named w) r after
  runs_body def filling r after there fills gives =
      subst (λ x. Gives x r after) (sym (filled_as def there ∙ ap (λ f. run_filled (setting g) (callee g depth) def id f w) fills.1)) (gives fills.0 fills.2)

-- ---- the body

-- the frame is the one that the body met
result_back : (before : Frame) (o : Outcome (World ℕ) Fault Flow) (v : Value) (u : World ℕ) → ended o ≡ Went v u → IfWent o (λ after. IsBack before after.frame) → IsBack before u.frame
result_back before (Went flow.On w) v u is h = let same : w ≡ u = cc in subst (λ (x : World ℕ). IsBack before x.frame) same h
result_back before (Went flow.Break w) v u is h = let same : w ≡ u = cc in subst (λ (x : World ℕ). IsBack before x.frame) same h
result_back before (Went flow.Continue w) v u is h = let same : w ≡ u = cc in subst (λ (x : World ℕ). IsBack before x.frame) same h
result_back before (Went (flow.Return x) w) v u is h = let same : w ≡ u = cc in subst (λ (y : World ℕ). IsBack before y.frame) same h
result_back before (Failed fault w) v u is h = absurd (cc)

module _ (g : Fixed) (depth : ℕ) (def : Definition Statement) (id : ℕ) (all : List Filled) (before paid inside : Running) (slots : Block)
    (charged : acting (charge (sum (map default_weight all))) (world before) ≡ Went tt (world paid)) (in_it : inside ≡ record paid { frame = entered id slots paid.frame }) (block : slots ≡ local_block def all) where
  body_is : run_body (setting g) (callee g depth) def id all (world before) ≡ put_back paid.frame (result_of (body_of (setting g) (callee g depth) def.body) (world inside))
  unfolding run_body in_function
  body_is =
      ap (λ x. and_then x (λ done. in_function id (local_block def all) (result_of (body_of (setting g) (callee g depth) def.body)))) charged
      ∙ ap (λ b. put_back paid.frame (result_of (body_of (setting g) (callee g depth) def.body) (with_frame (entered id b paid.frame) (world paid)))) (sym block)
      ∙ ap (λ r. put_back paid.frame (result_of (body_of (setting g) (callee g depth) def.body) (world r))) (sym in_it)

  body_fails : (e : Stop) (after : Running) → Gives (result_of (body_of (setting g) (callee g depth) def.body) (world inside)) (Err e) (world after)
      → Gives (run_body (setting g) (callee g depth) def id all (world before)) (Err e) (world after)
  body_fails (stop.Failure e) after is = body_is ∙ ap (put_back paid.frame) is
  body_fails stop.NoMemory after is = tt

  pub body_stops : (r : Result Value Stop) (e : Stop) (after : Running) → r ≡ Err e → Gives (result_of (body_of (setting g) (callee g depth) def.body) (world inside)) (Err e) (world after)
      → Gives (run_body (setting g) (callee g depth) def id all (world before)) r (world after)
  body_stops r e after same gives = subst (λ x. Gives (run_body (setting g) (callee g depth) def id all (world before)) x (world after)) (sym same) (body_fails e after gives)

  pub body_ends : (v : Value) (after left : Running) (blocks : List Block) → result_of (body_of (setting g) (callee g depth) def.body) (world inside) ≡ Went v (world after) → blocks ≡ paid.frame.blocks
      → ((other : ℕ) (active : List ℕ) → after.frame.active ≡ active ++ other ∷ [] → left ≡ record after { frame = record { blocks = blocks; active = active; locked = after.frame.locked } })
      → run_body (setting g) (callee g depth) def id all (world before) ≡ Went v (world left)
  body_ends v after left blocks is same leaves =
      let back = result_back inside.frame (body_of (setting g) (callee g depth) def.body (world inside)) v (world after) is ((body_leads (setting g) depth def.body (world inside)).back) in
      let met : inside.frame ≡ entered id slots paid.frame = ap (λ (r : Running). r.frame) in_it in
      let active : after.frame.active ≡ paid.frame.active ++ id ∷ [] = back.active ∙ ap (λ (f : Frame). f.active) met in
      let locked : after.frame.locked ≡ paid.frame.locked = back.locked ∙ ap (λ (f : Frame). f.locked) met in
      body_is ∙ ap (put_back paid.frame) is
      ∙ ap (λ bs. Went v (with_frame (record { blocks = bs; active = paid.frame.active; locked = paid.frame.locked }) (world after))) (sym same)
      ∙ ap (λ ids. Went v (with_frame (record { blocks = blocks; active = paid.frame.active; locked = ids }) (world after))) (sym locked)
      ∙ ap (λ r. Went v (world r)) (sym (leaves id paid.frame.active active))

-- the charge of the defaults fails
defaults_fail : (g : Fixed) (depth : ℕ) (def : Definition Statement) (id : ℕ) (all : List Filled) (e : Stop) (before after : Running)
    → Gives (acting (charge (sum (map default_weight all))) (world before)) (Err e) (world after) → Gives (run_body (setting g) (callee g depth) def id all (world before)) (Err e) (world after)
unfolding run_body
defaults_fail g depth def id all (stop.Failure e) before after is =
    ap (λ x. and_then x (λ done. in_function id (local_block def all) (result_of (body_of (setting g) (callee g depth) def.body)))) is
defaults_fail g depth def id all stop.NoMemory before after is = tt

pub defaults_stop : (g : Fixed) (depth : ℕ) (def : Definition Statement) (id : ℕ) (all : List Filled) (r : Result Value Stop) (e : Stop) (before after : Running) → r ≡ Err e
    → Gives (acting (charge (sum (map default_weight all))) (world before)) (Err e) (world after) → Gives (run_body (setting g) (callee g depth) def id all (world before)) r (world after)
defaults_stop g depth def id all r e before after same is =
    subst (λ x. Gives (run_body (setting g) (callee g depth) def id all (world before)) x (world after)) (sym same) (defaults_fail g depth def id all e before after is)

-- the blocks that were there still fit
pub blocks_later : (a b c : Running) (f : Frame) (blocks : List Block) → b ≡ record a { frame = f } → Goes b c → IsTrue (blocks_fit a.machine blocks) → IsTrue (blocks_fit c.machine blocks)
blocks_later a b c f blocks is goes h = blocks_stay b.machine c.machine goes.fit blocks (subst (λ (r : Running). IsTrue (blocks_fit r.machine blocks)) (sym is) h)
