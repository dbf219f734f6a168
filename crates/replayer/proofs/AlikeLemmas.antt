-- Alike states have the same snapshots, and run alike.
use Rattle.std.proofs.Common.{◌≡◌, ℕ, ◌+◌, ◌^◌, ◌<◌, List, [], length, Option, Some, refl, sym, ap, ◌∙◌, subst}
use Rattle.std.proofs.lemmas.Bool.{false≢true}
use Rattle.chex_base.specs.declared.input.Input.{Input}
use Rattle.star_syntax.specs.declared.cell.Program.{Program}
use Rattle.star_meaning.specs.declared.ran.End.{End}
use Rattle.star_meaning.specs.declared.ran.End.TheVariants as end
use Rattle.star_meaning.specs.declared.ran.Ran.{Ran}
use Rattle.star_meaning.specs.Alike.{AlikeMachines}
use Rattle.star_meaning.specs.Snapshot.{IsBytesOf, IsCanon}
use Rattle.star_meaning.specs.Validity.{IsValid, MachineState, after, nothing_ran, ran_at}
use Rattle.star_meaning.proofs.AlikeLaw.{alike_machines}
use Rattle.star_meaning.proofs.AlikeTurned.{alike_is_an_equivalence}
use Rattle.star_meaning.proofs.ToldMachines.{snapshots_tell}
use Rattle.kernel_api.specs.Live.{IsSizeOf}
use Rattle.plan_type.specs.declared.row.Row.{Row}
use Rattle.node_rows.specs.Rows.{HasEnd, HasResult}

pub turned : (a b : MachineState) → AlikeMachines a b → AlikeMachines b a
turned a b h = alike_is_an_equivalence.both_ways a b h

pub over : (a b c : MachineState) → AlikeMachines a b → AlikeMachines b c → AlikeMachines a c
over a b c h k = alike_is_an_equivalence.over a b c h k

-- the state in which nothing has run is alike to itself
pub nothing_alike : AlikeMachines nothing_ran nothing_ran
nothing_alike = record {
  ran = refl;
  state = ([], record { first_once = refl; second_once = refl; globals = refl; objects = λ a b never. absurd (false≢true never) });
}

-- ---- snapshots

bytes_alike : (a b : MachineState) (bytes : List ℕ) → AlikeMachines a b → IsBytesOf b bytes → IsBytesOf a bytes
bytes_alike a b bytes h (canon, is, told) = (canon, record { alike = over a b canon h is.alike; canonical = is.canonical }, told)

size_alike : (a b : MachineState) (size : ℕ) → AlikeMachines a b → IsSizeOf a size → IsSizeOf b size
size_alike a b size h sized bytes told = sized bytes (bytes_alike a b bytes h told)

-- valid states with one snapshot are alike
pub told_alike : (program : Program) (a b : MachineState) (bytes : List ℕ) → IsValid program a → IsValid program b → length bytes < 2 ^ 64 → IsBytesOf a bytes → IsBytesOf b bytes → AlikeMachines a b
told_alike program a b bytes valid valid_b small told told_b =
    (snapshots_tell a b bytes bytes valid.kept valid.values valid_b.kept valid_b.values small told told_b).0 refl

-- ---- running

pub runs_alike : (program : Program) (a b : MachineState) (v : ℕ) (inputs : List (List ℕ × Input)) (allowance : ℕ) → AlikeMachines a b
    → (ran_at program b v inputs allowance ≡ ran_at program a v inputs allowance) × AlikeMachines (after program a v inputs allowance) (after program b v inputs allowance)
runs_alike program a b v inputs allowance h = alike_machines program a b v inputs allowance h

-- ---- rows

end_alike : (e : End) (a b : MachineState) (row : Row) → AlikeMachines a b → HasEnd e a row → HasEnd e b row
end_alike end.Done a b row h k = (k.0, size_alike a b row.bytes h k.1)
end_alike (end.Failed failure line) a b row h k = k

-- what a row says of one result and state it says of an equal result and an alike state
pub result_alike : (number other : ℕ) (r q : Ran) (a b : MachineState) (row : Row) → number ≡ other → r ≡ q → AlikeMachines a b → HasResult number (Some r) a row → HasResult other (Some q) b row
result_alike number other r q a b row same is h k =
    subst (λ n. HasResult n (Some q) b row) same
    (subst (λ x. HasResult number (Some x) b row) is (end_alike r.end a b row h k.0, k.1, k.2))
