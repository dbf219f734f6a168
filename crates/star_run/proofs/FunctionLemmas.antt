-- A new function of a machine.
use Rattle.std.proofs.Common.{◌≡◌, ℕ, ◌+◌, ◌<◌, ◌≤◌, Bool, List, [], ◌∷◌, ◌++◌, length, length-append, refl, sym, subst, ap, ◌∙◌, arith, Some, slice_get, IsTrue}
use Rattle.std.specs.List.{list_all}
use Rattle.heap_store.proofs.References.{fits_stays, stay_new}
use Rattle.heap_store.proofs.Tested.{and_left, and_right, and_both, all_push}
use Rattle.star_syntax.specs.declared.cell.Program.{Program}
use Rattle.star_value.specs.declared.value.Value.{Value, fold-roll-Value}
use Rattle.star_value.specs.declared.value.Value.TheVariants as value
use Rattle.star_value.specs.Weight.{depth_step}
use Rattle.star_meaning.specs.State.{Object, AFunction, next_id, with_new}
use Rattle.star_meaning.specs.Steps.{Gives, Went}
use Rattle.star_meaning.specs.Validity.{IsMachine, IsValid, MachineState, all_in, all_in_object, fits, fits_step, is_defined, is_function, is_proper, proper_step}
use Rattle.star_meaning.specs.Values.{new_function}
use Rattle.star_meaning.specs.World.{acting}
use Rattle.star_builtins.specs.Reached.{AllFit, Fits}
use Rattle.star_run.specs.Own.{MakesFunction}
use Rattle.star_run.specs.Running.{HasCredit, IsSound, Running, world}
use Rattle.star_run.proofs.RunLemmas.{acting_is, blocks_stay}

-- the machine with one more function
abbrev pub with_function : MachineState → ℕ → ℕ → List Value → MachineState
with_function m cell number defaults = record m { state = with_new m.state (AFunction cell number defaults) }

stands_last : (os : List (Object ℕ)) (o : Object ℕ) → slice_get (os ++ o ∷ []) (length os) ≡ Some o
stands_last [] o = refl
stands_last (x ∷ os) o = stands_last os o

references_function : (os : List (Object ℕ)) (id : ℕ) → IsTrue (is_function (slice_get os id)) → IsTrue (fits os (value.Function id))
unfolding fits
references_function os id is = rw (← value.rolls-Function id, fold-roll-Value Bool (fits_step os)) is

proper_function : (id : ℕ) → IsTrue (is_proper (value.Function id))
unfolding is_proper
proper_function id = rw (← value.rolls-Function id, fold-roll-Value ℕ depth_step, fold-roll-Value Bool proper_step) refl

module _ (m : MachineState) (cell number : ℕ) (defaults : List Value) where
  new_fits : Fits (with_function m cell number defaults) (value.Function (length m.state.objects))
  unfolding with_new
  new_fits = record {
    references = references_function (m.state.objects ++ AFunction cell number defaults ∷ []) (length m.state.objects) (ap is_function (stands_last m.state.objects (AFunction cell number defaults)));
    proper = proper_function (length m.state.objects);
  }

  fit_later : (v : Value) → Fits m v → Fits (with_function m cell number defaults) v
  unfolding with_new
  fit_later v fit = record {
    references = fits_stays m.state.objects (m.state.objects ++ AFunction cell number defaults ∷ []) (stay_new m.state.objects (AFunction cell number defaults)) v fit.references;
    proper = fit.proper;
  }

  proper_later : IsTrue (list_all is_proper defaults) → IsTrue (all_in is_proper m.state) → IsTrue (all_in is_proper (with_function m cell number defaults).state)
  unfolding with_new
  proper_later fit proper =
      and_both (list_all (λ global. is_proper global.1) m.state.globals) (list_all (all_in_object is_proper) (m.state.objects ++ AFunction cell number defaults ∷ []))
      (and_left (list_all (λ global. is_proper global.1) m.state.globals) (list_all (all_in_object is_proper) m.state.objects) proper)
      (all_push (all_in_object is_proper) m.state.objects (AFunction cell number defaults)
      (and_right (list_all (λ global. is_proper global.1) m.state.globals) (list_all (all_in_object is_proper) m.state.objects) proper) fit)

  valid_later : (program : Program) → IsMachine (with_function m cell number defaults) → IsTrue (list_all is_proper defaults) → IsTrue (is_defined program m.ran (AFunction cell number defaults))
      → IsValid program m → IsValid program (with_function m cell number defaults)
  unfolding with_new
  valid_later program kept fit defined valid = record {
    kept = kept;
    values = proper_later fit valid.values;
    nodes = valid.nodes;
    functions = all_push (is_defined program m.ran) m.state.objects (AFunction cell number defaults) valid.functions defined;
  }

  one_more : length (with_function m cell number defaults).state.objects ≡ length m.state.objects + 1
  unfolding with_new
  one_more = simp length-append (omega arith)

module _ (b v : Running) (after : MachineState) (cell number : ℕ) (defaults : List Value) (is : b ≡ v) (same : after ≡ with_function b.machine cell number defaults) (fit : AllFit v.machine defaults) where
  here : AllFit b.machine defaults
  here = subst (λ (x : Running). AllFit x.machine defaults) (sym is) fit

  pub sound_function : IsSound b → HasCredit v → IsSound (record b { machine = after })
  sound_function sound credit =
      let paid : HasCredit b = subst HasCredit (sym is) credit in
      subst (λ (m : MachineState). IsSound (record b { machine = m })) (sym same) (record {
        proper = proper_later b.machine cell number defaults here.proper sound.proper;
        slots = blocks_stay b.machine (with_function b.machine cell number defaults) (fit_later b.machine cell number defaults) b.frame.blocks sound.slots;
        room = omega (arith, one_more b.machine cell number defaults, paid);
      })

  pub function_made : IsMachine after → MakesFunction cell number defaults v (record b { machine = after })
  function_made kept =
      subst (λ (x : Running). MakesFunction cell number defaults x (record b { machine = after })) is
      (subst (λ (m : MachineState). MakesFunction cell number defaults b (record b { machine = m })) (sym same) (record {
        ran = refl;
        fit = fit_later b.machine cell number defaults;
        valid = λ program defined valid. valid_later b.machine cell number defaults program (subst IsMachine same kept) here.proper defined valid;
        few = omega (arith, one_more b.machine cell number defaults);
      }))

pub function_not_made : (b v : Running) (after : MachineState) (cell number : ℕ) (defaults : List Value) → b ≡ v → after ≡ b.machine → MakesFunction cell number defaults v (record b { machine = after })
function_not_made b v after cell number defaults is same =
    subst (λ (x : Running). MakesFunction cell number defaults x (record b { machine = after })) is
    (subst (λ (m : MachineState). MakesFunction cell number defaults b (record b { machine = m })) (sym same) (record {
      ran = refl;
      fit = λ v h. h;
      valid = λ program defined valid. valid;
      few = omega arith;
    }))

pub function_fits : (m after : MachineState) (cell number id : ℕ) (defaults : List Value) → id ≡ next_id m.state → after ≡ with_function m cell number defaults → Fits after (value.Function id)
unfolding next_id
function_fits m after cell number id defaults at same =
    subst (λ (x : MachineState). Fits x (value.Function id)) (sym same)
    (subst (λ (n : ℕ). Fits (with_function m cell number defaults) (value.Function n)) (sym at) (new_fits m cell number defaults))

pub function_gives : (b v : Running) (after : MachineState) (cell number id : ℕ) (defaults : List Value) → b ≡ v → id ≡ next_id b.machine.state → after ≡ with_function b.machine cell number defaults
    → acting (new_function cell number defaults) (world v) ≡ Went (value.Function id) (world (record b { machine = after }))
unfolding acting new_function
function_gives b v after cell number id defaults is at same =
    ap (λ (x : Running). acting (new_function cell number defaults) (world x)) (sym is)
    ∙ ap (λ (n : ℕ). Went (value.Function n) (world (record b { machine = with_function b.machine cell number defaults }))) (sym at)
    ∙ ap (λ (m : MachineState). Went (value.Function id) (world (record b { machine = m }))) (sym same)
