-- A version that runs alone, cell after cell, in the numbers of the tree.
use Rattle.std.proofs.Common.{◌≡◌, ℕ, zero, suc, ◌+◌, ◌-◌, ◌<◌, ◌≤◌, List, [], ◌∷◌, ◌++◌, length, get_or, take, drop, map, Option, Some, None, slice_get, sum, refl, sym, ap, ◌∙◌, arith, add-one, fold, length-append}
use Rattle.star_syntax.specs.CellParts.{CellParts}
use Rattle.star_syntax.specs.Cells.{numbered}
use Rattle.star_syntax.specs.declared.cell.Program.{Program}
use Rattle.star_value.specs.declared.failure.Failure.{Failure}
use Rattle.star_meaning.specs.declared.ran.End.{End}
use Rattle.star_meaning.specs.declared.ran.End.TheVariants as end
use Rattle.star_meaning.specs.declared.ran.Ran.{Ran}
use Rattle.star_meaning.specs.Cells.{Shown, if_done, ran, runs, runs_after, runs_from}
use Rattle.star_meaning.specs.Validity.{MachineState, after, cell_of, cell_or_none, nothing_ran, ran_at, shown}
use Rattle.star_meaning.proofs.LeadingLaws.{cells_take_steps}
use Rattle.star_meaning.proofs.RenamedCells.{after_shows}
use Rattle.exec_tree.specs.Keys.{InputMap}
use Rattle.audit_run.specs.Visits.{state_after}

-- a list with a first item is not empty
not_empty : {X : Type 0} (x : X) (xs : List X) → x ∷ xs ≡ [] → ⊥
not_empty x xs is = cc

-- what stands at a place, and behind it
pub at_place : {X : Type 0} (xs : List X) (k : ℕ) (x : X) (ys : List X) → drop k xs ≡ x ∷ ys → (slice_get xs k ≡ Some x) × (drop (suc k) xs ≡ ys) × (k < length xs)
at_place [] zero x ys is = absurd (not_empty x ys (sym is))
at_place [] (suc k) x ys is = absurd (not_empty x ys (sym is))
at_place (a ∷ xs) zero x ys is = (ap (λ l. slice_get l 0) is, ap (drop 1) is, omega arith)
at_place (a ∷ xs) (suc k) x ys is = let rest = at_place xs k x ys is in (rest.0, rest.1, let less : k < length xs = rest.2 in omega (arith, less))

-- nothing stands at a place behind the end
pub no_place : {X : Type 0} (xs : List X) (k : ℕ) → drop k xs ≡ [] → (slice_get xs k ≡ None) × (drop (suc k) xs ≡ [])
no_place [] zero is = (refl, refl)
no_place [] (suc k) is = (refl, refl)
no_place (a ∷ xs) zero is = absurd (not_empty a xs is)
no_place (a ∷ xs) (suc k) is = no_place xs k is

module _ (program : Program) (inputs : InputMap) (allowance : ℕ) where
  -- what the cells do from what a state shows
  abbrev pub results : MachineState → List CellParts → List Ran
  results m cells = runs_from (shown program m) cells inputs allowance

  pub from_nothing : (cells : List CellParts) → results nothing_ran cells ≡ runs cells inputs allowance
  unfolding runs shown
  from_nothing cells = refl

  cell_there : (node : ℕ) (cell : CellParts) → numbered program.cells node ≡ Some cell → cell_of program node ≡ cell
  unfolding cell_of
  cell_there node cell is = ap cell_or_none is

  -- the cell of a node, and then the others
  pub one_cell : (m : MachineState) (node : ℕ) (cell : CellParts) (cells : List CellParts) → numbered program.cells node ≡ Some cell
      → results m (cell ∷ cells)
      ≡ ran_at program m node inputs allowance
      ∷ if_done (ran_at program m node inputs allowance).end (λ s. runs_from s cells inputs allowance) (shown program (after program m node inputs allowance))
  unfolding ran_at
  one_cell m node cell cells is =
      let here = ran (shown program m) (cell_of program node) inputs allowance in
      ap (λ (c : CellParts). runs_after (ran (shown program m) c inputs allowance) (λ s. runs_from s cells inputs allowance)) (sym (cell_there node cell is))
      ∙ ap (λ (s : Shown). here.0 ∷ if_done here.0.end (λ t. runs_from t cells inputs allowance) s) (sym (after_shows program m node inputs allowance))

  -- a cell takes no more steps than are allowed
  pub steps_within : (m : MachineState) (node : ℕ) → 1 ≤ allowance → (ran_at program m node inputs allowance).steps ≤ allowance
  unfolding ran_at
  steps_within m node few = (cells_take_steps (shown program m) (cell_of program node) inputs allowance few).1

  -- where a version stands after its first cells: what is left of its results is what the cells that are left give
  abbrev pub Stands : List Ran → List CellParts → ℕ → MachineState → Type 0
  Stands all cells k m = drop k all ≡ results m (drop k cells)

  -- one more cell: it is the next of the results; where it is done the version stands behind it, and where it fails nothing is left
  pub record Goes (all : List Ran) (cells : List CellParts) (k : ℕ) (m : MachineState) (node : ℕ) : Type 0 where
    pub here : slice_get all k ≡ Some (ran_at program m node inputs allowance)
    pub done : (ran_at program m node inputs allowance).end ≡ end.Done → Stands all cells (suc k) (after program m node inputs allowance)
    pub failed : (f : Failure) (line : ℕ) → (ran_at program m node inputs allowance).end ≡ end.Failed f line → drop (suc k) all ≡ []

  pub goes : (all : List Ran) (cells more : List CellParts) (k : ℕ) (m : MachineState) (node : ℕ) (cell : CellParts) → Stands all cells k m
      → drop k cells ≡ cell ∷ more → numbered program.cells node ≡ Some cell → Goes all cells k m node
  goes all cells more k m node cell stands left is =
      let r = ran_at program m node inputs allowance in
      let rest = if_done r.end (λ s. runs_from s more inputs allowance) (shown program (after program m node inputs allowance)) in
      let next = at_place all k r rest (stands ∙ (ap (results m) left ∙ one_cell m node cell more is)) in
      let behind = at_place cells k cell more left in
      record {
        here = next.0;
        done = λ over. next.1 ∙ (ap (λ (e : End). if_done e (λ s. runs_from s more inputs allowance) (shown program (after program m node inputs allowance))) over
            ∙ ap (results (after program m node inputs allowance)) (sym behind.1));
        failed = λ f line over. next.1 ∙ ap (λ (e : End). if_done e (λ s. runs_from s more inputs allowance) (shown program (after program m node inputs allowance))) over;
      }

-- the state after one more node
pub state_more : (program : Program) (inputs : InputMap) (allowance : ℕ) (nodes : List ℕ) (k : ℕ) (d : ℕ) → k < length nodes
    → state_after program inputs allowance (take (suc k) nodes) ≡ after program (state_after program inputs allowance (take k nodes)) (get_or nodes k d) inputs allowance
state_more program inputs allowance nodes k d less = from nothing_ran nodes k less
  where
    from : (m : MachineState) (ns : List ℕ) (j : ℕ) → j < length ns
        → fold (λ s n. after program s n inputs allowance) m (take (suc j) ns) ≡ after program (fold (λ s n. after program s n inputs allowance) m (take j ns)) (get_or ns j d) inputs allowance
    from m [] j short = absurd (omega (arith, short))
    from m (n ∷ ns) zero short = refl
    from m (n ∷ ns) (suc j) short = from (after program m n inputs allowance) ns j (omega (arith, short))

ran_more : (program : Program) (inputs : InputMap) (allowance : ℕ) (m : MachineState) (n : ℕ) → length (after program m n inputs allowance).ran ≡ suc (length m.ran)
unfolding after
ran_more program inputs allowance m n = length-append m.ran (n ∷ []) ∙ omega arith

-- as many cells have run as there are nodes
pub depth_after : (program : Program) (inputs : InputMap) (allowance : ℕ) (nodes : List ℕ) → length (state_after program inputs allowance nodes).ran ≡ length nodes
depth_after program inputs allowance nodes = from nothing_ran nodes ∙ omega arith
  where
    from : (m : MachineState) (ns : List ℕ) → length (fold (λ s n. after program s n inputs allowance) m ns).ran ≡ length m.ran + length ns
    from m [] = omega arith
    from m (n ∷ ns) = let rest = from (after program m n inputs allowance) ns in let one = ran_more program inputs allowance m n in omega (arith, rest, one)
