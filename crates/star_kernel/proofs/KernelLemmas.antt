-- The state in which nothing has run, and how many steps a cell takes.
use Rattle.std.proofs.Common.{◌≡◌, ℕ, ◌-◌, ◌≤◌, ◌^◌, List, length, min, refl, sym, ap, ◌∙◌, arith}
use Rattle.std.specs.List.Sorted.{IsStrictlySortedBy}
use Rattle.chex_base.specs.declared.input.Input.{Input}
use Rattle.star_syntax.specs.declared.cell.Program.{Program}
use Rattle.star_meaning.specs.Snapshot.{state_bytes}
use Rattle.star_meaning.specs.Validity.{IsMachine, IsValid, MachineState, cell_of, nothing_ran, ran_at, shown}
use Rattle.star_meaning.proofs.LeadingLaws.{cells_take_steps}
use Rattle.kernel_api.specs.Live.{IsSizeOf}
use Rattle.star_kernel.proofs.SnapshotLemmas.{own_bytes, same_bytes}

nothing_kept : IsMachine nothing_ran
unfolding IsStrictlySortedBy
nothing_kept = record {
  names = tt;
  characters = refl;
  nodes = refl;
  numbers = refl;
  keys = refl;
  references = refl;
  few = omega arith;
  room = omega arith;
}

-- it is valid over each program
pub nothing_valid : (program : Program) → IsValid program nothing_ran
nothing_valid program = record { kept = nothing_kept; values = refl; nodes = refl; functions = refl }

-- four bytes and three counts of eight
nothing_length : length (state_bytes nothing_ran) ≡ 28
unfolding state_bytes
nothing_length = refl

pub nothing_size : IsSizeOf nothing_ran 28
nothing_size bytes told =
    let same : bytes ≡ state_bytes nothing_ran = same_bytes nothing_ran bytes (state_bytes nothing_ran) nothing_kept told (own_bytes nothing_ran (state_bytes nothing_ran) nothing_kept refl refl) in
    let long : length bytes ≡ 28 = ap length same ∙ nothing_length in
    ap (λ n. min n (2 ^ 64 - 1)) (sym long)

-- a cell takes no more steps than are allowed
pub steps_within : (program : Program) (m : MachineState) (node : ℕ) (inputs : List (List ℕ × Input)) (allowance : ℕ) → 1 ≤ allowance → (ran_at program m node inputs allowance).steps ≤ allowance
unfolding ran_at
steps_within program m node inputs allowance few = (cells_take_steps (shown program m) (cell_of program node) inputs allowance few).1
