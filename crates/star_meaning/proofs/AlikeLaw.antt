-- Alike states run alike.
use Rattle.std.proofs.Common.{◌≡◌, ◌+◌, ◌-◌, ◌++◌, ℕ, List, [], ◌∷◌, refl, sym, ap, subst, ◌∙◌}
use Rattle.std.specs.Prelude.{Some}
use Rattle.star_syntax.specs.declared.statement.Module.{Module}
use Rattle.star_syntax.specs.declared.statement.Statement.{Statement}
use Rattle.star_meaning.specs.declared.flow.Flow.{Flow}
use Rattle.star_meaning.specs.declared.ran.End.TheVariants as end
use Rattle.star_meaning.specs.State.{State}
use Rattle.star_meaning.specs.Steps.{Outcome, Went, Failed}
use Rattle.star_meaning.specs.World.{Course, Fault, World, start}
use Rattle.star_meaning.specs.Expressions.{Callee, Setting}
use Rattle.star_meaning.specs.Statements.{call_to}
use Rattle.star_meaning.specs.Cells.{is_def, ran, ran_of, run, shown_setting, statements_from}
use Rattle.star_meaning.specs.Validity.{after, cell_of, numbered_setting, run_at}
use Rattle.star_meaning.specs.Alike.{AlikeMachines, EndAlike, Extends, IsAlike, IsAlikeWorld, LikeOutcomes, Pairs}
use Rattle.star_meaning.specs.Laws.{AlikeMachinesRunAlike, AlikeStatesRunAlike}
use Rattle.star_meaning.proofs.MovedValues.{Moving}
use Rattle.star_meaning.proofs.MovedWorld.{go_pure, go_then}
use Rattle.star_meaning.proofs.MovedExpressions.{GoesCallee}
use Rattle.star_meaning.proofs.MovedStatements.{Flows, flow_to, go_call_to, go_go_on, go_statement}
use Rattle.star_meaning.proofs.AlikeSteps.{one, steps_end_alike, two}
use Rattle.star_meaning.proofs.RenamedCells.{after_by_numbers, ran_at_by_numbers}

module _ {C : Type 0} (st : Setting C) where
  go_statements_from : (mv : Moving) (c : Callee C) → GoesCallee mv c → (n : ℕ) (ss : List Statement) → Flows mv (statements_from st c n ss) (statements_from st c n ss)
  go_statements_from mv c h n [] = go_pure mv refl
  go_statements_from mv c h n (s ∷ ss) = go_then mv _ (go_statement mv st c h s _ (Some n)) (go_go_on mv _ _ (go_statements_from mv c h (n + is_def s) ss))

  -- what a cell gives where its statements end alike
  abbrev Given : Pairs → ℕ → Outcome (World C) Fault Flow → Outcome (World C) Fault Flow → Type 0
  Given more allowance o q = ((ran_of allowance q).0 ≡ (ran_of allowance o).0) × IsAlike more (ran_of allowance o).1 (ran_of allowance q).1

  abbrev Any : Pairs → Flow → Flow → Type 0
  Any pairs f g = Unit {0}

  given : (more : Pairs) (allowance : ℕ) (o q : Outcome (World C) Fault Flow) → LikeOutcomes Any more o q → Given more allowance o q
  given more allowance (Went f w) (Went g v) h = (λ j. record { end = end.Done; out = h.1.out j; steps = allowance - h.1.left j }, h.1.state)
  given more allowance (Failed e w) (Failed f v) h = (λ j. record { end = end.Failed (h.0 j).0 (h.0 j).1; out = h.1.out j; steps = allowance - h.1.left j }, h.1.state)
  given more allowance (Went f w) (Failed e v) h = absurd h
  given more allowance (Failed e w) (Went f v) h = absurd h

  module _ (tree : Module) (allowance : ℕ) (pairs : Pairs) (s t : State C) (h : IsAlike pairs s t) where
    abbrev statements : Course C Flow
    statements = statements_from st (call_to st 32) 0 tree.statements

    abbrev w : World C
    w = start s (allowance - 1)

    abbrev v : World C
    v = start t (allowance - 1)

    alike_start : IsAlikeWorld pairs w v
    alike_start = record { state = h; left = refl; frame = record { blocks = refl; active = refl; locked = refl }; out = refl }

    goes : (mv : Moving) → Flows mv statements statements
    goes mv = go_statements_from mv (call_to st 32) (go_call_to mv st 32) 0 tree.statements

    ends : EndAlike Any pairs (statements w) (statements v)
    ends =
        steps_end_alike pairs w v alike_start statements (λ mv. flow_to mv) statements statements (λ far l. goes (one pairs w v alike_start statements far l)) (goes (two pairs w v alike_start statements)) Any (λ a e. tt)

    abbrev RunsAlike : Type 0
    RunsAlike = ((run st tree allowance t).0 ≡ (run st tree allowance s).0) × ((more : Pairs) × Extends pairs more × IsAlike more (run st tree allowance s).1 (run st tree allowance t).1)

    -- alike states run alike
    pub runs_alike : RunsAlike
    unfolding run
    runs_alike = let all = given ends.0 allowance (statements w) (statements v) ends.2 in (all.0, (ends.0, ends.1, all.1))

-- ---- the laws

pub alike_states : AlikeStatesRunAlike
unfolding ran
alike_states pairs s t cell inputs allowance h = runs_alike (shown_setting cell inputs) cell.«module» allowance pairs s t h

pub alike_machines : AlikeMachinesRunAlike
unfolding run_at
alike_machines program m n node inputs allowance h =
    let result = runs_alike (numbered_setting program node inputs) (cell_of program node).«module» allowance h.state.0 m.state n.state h.state.1 in (
      ran_at_by_numbers program n node inputs allowance ∙ result.0 ∙ sym (ran_at_by_numbers program m node inputs allowance),
      subst (λ x. AlikeMachines x (after program n node inputs allowance)) (sym (after_by_numbers program m node inputs allowance))
          (subst (λ x. AlikeMachines (record { state = (run_at program m node inputs allowance).1; ran = m.ran ++ node ∷ [] }) x) (sym (after_by_numbers program n node inputs allowance))
          (record { ran = ap (λ nodes. nodes ++ node ∷ []) h.ran; state = (result.1.0, result.1.2) })),
    )
