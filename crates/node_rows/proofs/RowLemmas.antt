-- A node that ran is measured.
use Rattle.std.proofs.Common.{◌≡◌, ℕ, List, Option, Some, None, refl, sym, subst}
use Rattle.std.specs.Prelude.{IfSome, option_map, encode_utf8_all}
use Rattle.sha2.specs.Sha256.{sha256}
use Rattle.chex_base.specs.declared.input.Input.{Input}
use Rattle.star_syntax.specs.declared.cell.Program.{Program}
use Rattle.star_value.specs.declared.failure.Failure.{Failure}
use Rattle.star_meaning.specs.declared.ran.End.{End}
use Rattle.star_meaning.specs.declared.ran.End.TheVariants as end
use Rattle.star_meaning.specs.declared.ran.Ran.{Ran}
use Rattle.star_meaning.specs.Cells.{cell_text}
use Rattle.star_meaning.specs.Validity.{MachineState, after, ran_at}
use Rattle.kernel_api.specs.Live.{IsSizeOf}
use Rattle.plan_type.specs.declared.row.Row.{Row}
use Rattle.plan_type.specs.declared.row.Reach.TheVariants as reach
use Rattle.node_rows.specs.Rows.{HasEnd, HasResult}
use Rattle.node_rows.specs.Measures.{IsMeasured}
use Rattle.node_rows.specs.declared.running.Measured.{Measured}

module _ (program : Program) (node : ℕ) (inputs : List (List ℕ × Input)) (allowance parent number : ℕ) where
  -- the cell ran to its end
  pub measured_done : (before now : Option MachineState) (r : Ran) (size : ℕ) (text printed : List ℕ) → IfSome before (λ m. r ≡ ran_at program m node inputs allowance)
      → now ≡ option_map (λ m. after program m node inputs allowance) before → r.end ≡ end.Done → IfSome now (λ m. IsSizeOf m size)
      → printed ≡ cell_text number r → text ≡ sha256 (encode_utf8_all printed)
      → IfSome before (λ m. IsMeasured parent number (ran_at program m node inputs allowance) (after program m node inputs allowance)
      (record { row = record { parent = parent; end = reach.Done; steps = r.steps; bytes = size; text = text }; text = printed }))
  measured_done None now r size text printed is next done sized prints digest = tt
  measured_done (Some m) now r size text printed is next done sized prints digest =
      let made : Measured = record { row = record { parent = parent; end = reach.Done; steps = r.steps; bytes = size; text = text }; text = printed } in
      let state = after program m node inputs allowance in
      let here : IsSizeOf state size = subst (λ o. IfSome o (λ m. IsSizeOf m size)) next sized in
      let ended : HasEnd r.end state made.row = subst (λ e. HasEnd e state made.row) (sym done) (refl, here) in
      subst (λ x. IsMeasured parent number x state made) is
      (record { parent_is = refl; result = (ended, refl, subst (λ t. text ≡ sha256 (encode_utf8_all t)) prints digest); text = prints })

  -- the cell failed
  pub measured_failed : (before : Option MachineState) (r : Ran) (failure : Failure) (line : ℕ) (text printed : List ℕ) → IfSome before (λ m. r ≡ ran_at program m node inputs allowance)
      → r.end ≡ end.Failed failure line
      → printed ≡ cell_text number r → text ≡ sha256 (encode_utf8_all printed)
      → IfSome before (λ m. IsMeasured parent number (ran_at program m node inputs allowance) (after program m node inputs allowance)
      (record { row = record { parent = parent; end = reach.Failed; steps = r.steps; bytes = 0; text = text }; text = printed }))
  measured_failed None r failure line text printed is failed prints digest = tt
  measured_failed (Some m) r failure line text printed is failed prints digest =
      let made : Measured = record { row = record { parent = parent; end = reach.Failed; steps = r.steps; bytes = 0; text = text }; text = printed } in
      let state = after program m node inputs allowance in
      let ended : HasEnd r.end state made.row = subst (λ e. HasEnd e state made.row) (sym failed) (refl, refl) in
      subst (λ x. IsMeasured parent number x state made) is
      (record { parent_is = refl; result = (ended, refl, subst (λ t. text ≡ sha256 (encode_utf8_all t)) prints digest); text = prints })
