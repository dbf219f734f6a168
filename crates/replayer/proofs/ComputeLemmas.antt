-- A node that ran, beside its recorded row.
use Rattle.std.proofs.Common.{◌≡◌, ◌<◌, ℕ, ◌+◌, List, Option, Some, None, refl, sym, ap, ap₂, ◌∙◌, subst, arith}
use Rattle.std.specs.Prelude.{IfSome, MatchOption, option_map, length}
use Rattle.star_syntax.specs.declared.cell.Program.{Program}
use Rattle.chex_base.specs.declared.input.Input.{Input}
use Rattle.star_meaning.specs.declared.ran.Ran.{Ran}
use Rattle.star_meaning.specs.Validity.{MachineState, after, ran_at}
use Rattle.kernel_api.specs.Live.{depth_of}
use Rattle.exec_tree.specs.Forests.{ForestParts}
use Rattle.plan_type.specs.declared.costs.Costs.{Costs}
use Rattle.plan_type.specs.declared.row.Row.{Row}
use Rattle.plan_type.specs.Costs.{IsReached, is_reached_in, row_of, steps_of}
use Rattle.node_rows.specs.Measures.{IsMeasured}
use Rattle.node_rows.specs.declared.running.Measured.{Measured}
use Rattle.replayer.specs.declared.difference.Difference.{Difference}
use Rattle.replayer.specs.Nodes.{inputs_at, program_of}
use Rattle.replayer.specs.Differences.{AreSame, IsDifference}
use Rattle.replayer.specs.Machines.{DiffersBy, IsRowIn, RanSo, ran_in, state_in}
use Rattle.replayer.proofs.RowLemmas.{result_same, row_there, steps_there}

-- ---- the recorded row

pub no_row : (costs : Costs) (v : ℕ) → IsReached costs v → row_of costs v ≡ None → ⊥
no_row costs v reached none = let (row, at) = row_there costs v reached in let never : None ≡ Some row = sym none ∙ at in cc

one_row : (a b : Row) → Some a ≡ Some b → a ≡ b
one_row a b is = cc

pub compared : (r : Option Difference) (costs : Costs) (v : ℕ) (row measured : Row) → row_of costs v ≡ Some row → MatchOption r (AreSame row measured) (IsDifference row measured)
    → MatchOption r ((other : Row) → row_of costs v ≡ Some other → AreSame other measured) (λ d. DiffersBy costs v d (λ x. x ≡ measured))
compared None costs v row measured is same = λ other at. subst (λ x. AreSame x measured) (one_row row other (sym is ∙ at)) same
compared (Some d) costs v row measured is differs = (row, measured, is, differs, refl)

-- ---- what was measured

pub is_live : (live : Option MachineState) → (s : MachineState) × (live ≡ Some s) × (length s.ran < 64) → depth_of live < 64
is_live live (s, is, few) = subst (λ o. depth_of o < 64) (sym is) few

module _ (forest : ForestParts) (allowance v : ℕ) (program : Program) (inputs : List (List ℕ × Input)) (parent number : ℕ) (live : Option MachineState) (made : Measured)
    (loaded : program ≡ program_of forest) (read : inputs_at forest v ≡ inputs) (counts : number ≡ depth_of live + 1)
    (measured : IfSome live (λ m. IsMeasured parent number (ran_at program m v inputs allowance) (after program m v inputs allowance) made)) where
  ran_is : (s : MachineState) → ran_at program s v inputs allowance ≡ ran_in forest allowance v s
  ran_is s = ap₂ (λ p i. ran_at p s v i allowance) loaded (sym read)

  state_is : (s : MachineState) → after program s v inputs allowance ≡ state_in forest allowance v s
  state_is s = ap₂ (λ p i. after p s v i allowance) loaded (sym read)

  made_in : (s : MachineState) → live ≡ Some s → IsMeasured parent (length s.ran + 1) (ran_in forest allowance v s) (state_in forest allowance v s) made
  made_in s is =
      let here : IsMeasured parent number (ran_at program s v inputs allowance) (after program s v inputs allowance) made =
      subst (λ o. IfSome o (λ m. IsMeasured parent number (ran_at program m v inputs allowance) (after program m v inputs allowance) made)) is measured in
      subst (λ n. IsMeasured parent n (ran_in forest allowance v s) (state_in forest allowance v s) made) (counts ∙ ap (λ o. depth_of o + 1) is)
      (subst (λ x. IsMeasured parent number (ran_in forest allowance v s) x made) (state_is s)
      (subst (λ r. IsMeasured parent number r (after program s v inputs allowance) made) (ran_is s) here))

  pub row_in : (s : MachineState) → live ≡ Some s → IsRowIn forest allowance v s made.row
  row_in s is = (made_in s is).result

  pub ran_so : (costs : Costs) (now : Option MachineState) → now ≡ option_map (λ m. after program m v inputs allowance) live → ((row : Row) → row_of costs v ≡ Some row → AreSame row made.row)
      → (s : MachineState) → live ≡ Some s → RanSo forest costs allowance v s now made.text
  ran_so costs now next same s is = record {
    live_is = next ∙ ap (option_map (λ m. after program m v inputs allowance)) is ∙ ap Some (state_is s);
    text_is = (made_in s is).text;
    row_is = λ row at. result_same (length s.ran + 1) (ran_in forest allowance v s) (state_in forest allowance v s) row made.row (same row at) (row_in s is);
  }

  pub differs_so : (costs : Costs) (d : Difference) → DiffersBy costs v d (λ row. row ≡ made.row)
      → DiffersBy costs v d (λ row. (s : MachineState) → live ≡ Some s → IsRowIn forest allowance v s row)
  differs_so costs d h = (h.0, h.1, h.2, h.3, λ s is. subst (IsRowIn forest allowance v s) (sym h.4) (row_in s is))

pub steps_so : (costs : Costs) (v before now : ℕ) (measured : Row) → IsReached costs v → ((row : Row) → row_of costs v ≡ Some row → AreSame row measured) → now ≡ before + measured.steps → now ≡ before + steps_of costs v
steps_so costs v before now measured reached same rose =
    let (row, at) = row_there costs v reached in
    let own = steps_there costs v row at in
    let e = (same row at).steps in
    omega (arith, own, e, rose)
