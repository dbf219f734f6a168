-- A machine before any cell is valid over every program.
use Rattle.std.proofs.Common.{◌≡◌, IsTrue, refl, subst, sym}
use Rattle.std.specs.Prelude.{is_some}
use Rattle.std.specs.List.{list_all}
use Rattle.star_syntax.specs.declared.cell.Program.{Program}
use Rattle.star_syntax.specs.Cells.{numbered}
use Rattle.star_meaning.specs.Validity.{IsMachine, IsValid, MachineState, all_in, is_defined, is_proper, nothing_ran}

pub nothing_valid : (program : Program) (m : MachineState) → m ≡ nothing_ran → IsMachine m → IsValid program m
nothing_valid program m is kept = record {
  kept = kept;
  values = subst (λ (x : MachineState). IsTrue (all_in is_proper x.state)) (sym is) refl;
  nodes = subst (λ (x : MachineState). IsTrue (list_all (λ node. is_some (numbered program.cells node)) x.ran)) (sym is) refl;
  functions = subst (λ (x : MachineState). IsTrue (list_all (is_defined program x.ran) x.state.objects)) (sym is) refl;
}
