-- How a cell ended, and the row of one that ran.
use Rattle.std.proofs.Common.{◌≡◌, ℕ, Bool, true, false, Option, Some, None, IfSome, refl, sym, ap, ◌∙◌}
use Rattle.std.proofs.lemmas.Bool.{false≢true}
use Rattle.star_syntax.specs.declared.cell.Program.{Program}
use Rattle.star_meaning.specs.Validity.{MachineState, after, ran_at}
use Rattle.plan_type.specs.declared.row.Reach.{Reach}
use Rattle.plan_type.specs.declared.row.Reach.TheVariants as reach
use Rattle.node_rows.specs.declared.running.Measured.{Measured}
use Rattle.node_rows.specs.Measures.{IsMeasured}
use Rattle.node_rows.specs.Rows.{HasResult}
use Rattle.exec_tree.specs.Keys.{InputMap}
use Rattle.audit_run.specs.Rows.{is_done}

pub done_is : (e : Reach) → is_done e ≡ true → e ≡ reach.Done
done_is reach.Done h = refl
done_is reach.Failed h = absurd (false≢true h)
done_is reach.Unreached h = absurd (false≢true h)

pub not_done : (e : Reach) → is_done e ≡ false → e ≡ reach.Done → ⊥
not_done e h is = false≢true (sym h ∙ ap is_done is)

-- the row of what was measured
pub row_of_measured : (program : Program) (live : Option MachineState) (node number parent allowance : ℕ) (inputs : InputMap) (made : Measured)
    → IfSome live (λ m. IsMeasured parent number (ran_at program m node inputs allowance) (after program m node inputs allowance) made)
    → IfSome live (λ m. (made.row.parent ≡ parent) × HasResult number (Some (ran_at program m node inputs allowance)) (after program m node inputs allowance) made.row)
row_of_measured program None node number parent allowance inputs made h = tt
row_of_measured program (Some m) node number parent allowance inputs made h = (h.parent_is, h.result)
