-- A version that runs alone, cell after cell.
use Rattle.std.proofs.Common.{◌≡◌, ℕ, zero, suc, ◌+◌, ◌*◌, ◌<◌, ◌≤◌, ◌^◌, List, [], ◌∷◌, ◌++◌, length, get_or, drop, map, Option, Some, IfSome, IsSome, is_some, option_map, sum, refl, sym, ap, ◌∙◌, subst, arith, append_assoc, append-nil, length-append}
use Rattle.std.specs.List.{slice_get}
use Rattle.std.proofs.lemmas.List.{drop_more, drop_all}
use Rattle.std.proofs.lemmas.Option.{slice_get-get_or}
use Rattle.std.proofs.lemmas.List.Sums.{sum_by-append}
use Rattle.star_syntax.specs.CellParts.{CellParts}
use Rattle.star_syntax.specs.Cells.{numbered}
use Rattle.star_syntax.specs.declared.cell.Program.{Program}
use Rattle.star_meaning.specs.declared.ran.End.{End}
use Rattle.star_meaning.specs.declared.ran.End.TheVariants as end
use Rattle.star_meaning.specs.declared.ran.Ran.{Ran}
use Rattle.star_meaning.specs.Cells.{Shown, cell_text, if_done, runs, runs_from, steps, text, texts_from}
use Rattle.star_meaning.specs.Validity.{MachineState, after, no_cell, nothing_ran, ran_at, shown}
use Rattle.kernel_api.specs.Live.{depth_of}
use Rattle.plan_type.specs.declared.row.Reach.TheVariants as reach
use Rattle.node_rows.specs.declared.running.Measured.{Measured}
use Rattle.node_rows.specs.Measures.{IsMeasured}
use Rattle.node_rows.specs.Rows.{HasEnd}
use Rattle.exec_tree.specs.Keys.{InputMap}
use Rattle.audit_run.proofs.RunLemmas.{one_cell, results, steps_within}

-- ---- the steps of what ran

abbrev pub steps_in : List Ran → ℕ
steps_in all = sum (map (λ (r : Ran). r.steps) all)

steps_cons : (r : Ran) (more : List Ran) → steps_in (r ∷ more) ≡ r.steps + steps_in more
steps_cons r more = sum_by-append (λ (x : ℕ). x) (r.steps ∷ []) (map (λ (x : Ran). x.steps) more) ∙ ap (λ (n : ℕ). n + steps_in more) (omega arith)

-- ---- nodes

numbered_at : {X : Type 0} (items : List X) (place n : ℕ) → n ≡ place + 1 → numbered items n ≡ slice_get items place
numbered_at items place zero is = absurd (omega arith)
numbered_at items place (suc i) is = ap (slice_get items) (omega arith)

cell_there : (cells : List CellParts) (place : ℕ) → place < length cells → numbered cells (place + 1) ≡ Some (get_or cells place no_cell)
cell_there cells place inside = numbered_at cells place (place + 1) refl ∙ slice_get-get_or cells place no_cell inside

-- as many cells have run as before, and this one
ran_more : (program : Program) (m : MachineState) (node : ℕ) (inputs : InputMap) (allowance : ℕ) → length (after program m node inputs allowance).ran ≡ length m.ran + 1
unfolding after
ran_more program m node inputs allowance = length-append m.ran (node ∷ [])

-- ---- how a cell's row says that it ended

-- one that is done runs on, and after any other nothing is left
done_goes : (e : End) (m : MachineState) (made : Measured) → HasEnd e m made.row → made.row.end ≡ reach.Done → (rest : Shown → List Ran) (s : Shown) → if_done e rest s ≡ rest s
done_goes end.Done m made has is rest s = refl
done_goes (end.Failed why line) m made has is rest s = absurd (let failed : made.row.end ≡ reach.Failed = has.0 in cc)

other_stops : (e : End) (m : MachineState) (made : Measured) → HasEnd e m made.row → (made.row.end ≡ reach.Done → ⊥) → (rest : Shown → List Ran) (s : Shown) → if_done e rest s ≡ []
other_stops end.Done m made has other rest s = absurd (other has.0)
other_stops (end.Failed why line) m made has other rest s = refl

-- ---- a version

module _ (cells : List CellParts) (inputs : InputMap) (allowance : ℕ) where
  abbrev pub program_of : Program
  program_of = record { cells = cells }

  -- what the cells from this place on do
  abbrev pub left_from : MachineState → ℕ → List Ran
  left_from m place = results program_of inputs allowance m (drop place cells)

  -- A version of which so many cells are behind: the state, what was written, and the kernel's steps. What is left from here makes
  -- up the whole.
  pub record Running (before now place : ℕ) (written : List ℕ) (live : Option MachineState) : Type 0 where
    pub state : MachineState
    pub live_is : live ≡ Some state
    pub deep : length state.ran ≡ place
    pub whole : written ++ texts_from (place + 1) (left_from state place) ≡ text cells inputs allowance
    pub counted : now + steps_in (left_from state place) ≡ before + steps cells inputs allowance
    pub few : now ≤ before + place * 1000000

  pub starts : (before now : ℕ) (written : List ℕ) (live : Option MachineState) → now ≡ before → live ≡ Some nothing_ran → written ≡ [] → Running before now 0 written live
  unfolding text steps runs shown
  starts before now written live same is none = record {
    state = nothing_ran;
    live_is = is;
    deep = refl;
    whole = ap (λ (t : List ℕ). t ++ texts_from (0 + 1) (left_from nothing_ran 0)) none;
    counted = ap (λ (n : ℕ). n + steps_in (left_from nothing_ran 0)) same;
    few = omega (arith, same);
  }

  -- what the next cell needs
  pub record MayRun (program : Program) (now place : ℕ) (live : Option MachineState) : Type 0 where
    pub ready : IsSome live
    pub node_there : IsSome (numbered program.cells (place + 1))
    pub few : depth_of live < 64
    pub room : now + allowance < 2 ^ 64

  pub may_run : (program : Program) (before now place : ℕ) (written : List ℕ) (live : Option MachineState) → place < length cells → length cells ≤ 64 → allowance ≤ 1000000 → before ≤ 2 ^ 63
      → program ≡ program_of → Running before now place written live → MayRun program now place live
  may_run program before now place written live inside short most low loaded at =
      let deep : depth_of live ≡ place = ap depth_of at.live_is ∙ at.deep in
      record {
        ready = ap is_some at.live_is;
        node_there = ap is_some (ap (λ (p : Program). numbered p.cells (place + 1)) loaded ∙ cell_there cells place inside);
        few = omega (arith, deep, inside, short);
        room = omega (arith, at.few, inside, short, most, low);
      }

  -- what a cell did, and what is left after it
  pub record Cell (m : MachineState) (place now total : ℕ) (made : Measured) : Type 0 where
    pub here : Ran
    pub rest : List Ran
    pub is_next : left_from m place ≡ here ∷ rest
    pub text : made.text ≡ cell_text (place + 1) here
    pub spent : total ≡ now + here.steps
    pub low : here.steps ≤ 1000000
    pub goes : made.row.end ≡ reach.Done → rest ≡ left_from (after program_of m (place + 1) inputs allowance) (place + 1)
    pub stops : (made.row.end ≡ reach.Done → ⊥) → rest ≡ []

  cell_done : (m : MachineState) (place now total parent : ℕ) (made : Measured) → place < length cells → 1 ≤ allowance → allowance ≤ 1000000
      → IsMeasured parent (place + 1) (ran_at program_of m (place + 1) inputs allowance) (after program_of m (place + 1) inputs allowance) made
      → total ≡ now + made.row.steps → Cell m place now total made
  cell_done m place now total parent made inside least most is spent =
      let r = ran_at program_of m (place + 1) inputs allowance in
      let then = after program_of m (place + 1) inputs allowance in
      let go = λ (s : Shown). runs_from s (drop (place + 1) cells) inputs allowance in
      let steps_are : made.row.steps ≡ r.steps = is.result.1 in
      let within : r.steps ≤ allowance = steps_within program_of inputs allowance m (place + 1) least in
      record {
        here = r;
        rest = if_done r.end go (shown program_of then);
        is_next = ap (results program_of inputs allowance m) (drop_more cells place no_cell inside)
            ∙ one_cell program_of inputs allowance m (place + 1) (get_or cells place no_cell) (drop (place + 1) cells) (cell_there cells place inside);
        text = is.text;
        spent = omega (arith, spent, steps_are);
        low = omega (arith, within, most);
        goes = λ done. done_goes r.end then made is.result.0 done go (shown program_of then);
        stops = λ other. other_stops r.end then made is.result.0 other go (shown program_of then);
      }

  -- the same of a kernel in this state that has this program
  pub ran_here : (m : MachineState) (live : Option MachineState) (place now total parent : ℕ) (program : Program) (made : Measured) → live ≡ Some m → program ≡ program_of → place < length cells
      → 1 ≤ allowance → allowance ≤ 1000000
      → IfSome live (λ m. IsMeasured parent (place + 1) (ran_at program m (place + 1) inputs allowance) (after program m (place + 1) inputs allowance) made)
      → total ≡ now + made.row.steps → Cell m place now total made
  ran_here m live place now total parent program made is loaded inside least most measured spent =
      cell_done m place now total parent made inside least most
      (subst (λ (p : Program). IsMeasured parent (place + 1) (ran_at p m (place + 1) inputs allowance) (after p m (place + 1) inputs allowance) made) loaded
      (subst (λ (l : Option MachineState). IfSome l (λ m. IsMeasured parent (place + 1) (ran_at program m (place + 1) inputs allowance) (after program m (place + 1) inputs allowance) made)) is measured))
      spent

  -- one more cell that is done
  pub one_more : (before now total place : ℕ) (written more : List ℕ) (live later : Option MachineState) (program : Program) (made : Measured) (at : Running before now place written live)
      → Cell at.state place now total made → made.row.end ≡ reach.Done → program ≡ program_of → later ≡ option_map (λ m. after program m (place + 1) inputs allowance) live
      → more ≡ written ++ made.text → Running before total (place + 1) more later
  one_more before now total place written more live later program made at cell done loaded moved pushed =
      let m = at.state in
      let then = after program_of m (place + 1) inputs allowance in
      let left = left_from then (place + 1) in
      let next : left_from m place ≡ cell.here ∷ left = cell.is_next ∙ ap (λ (rs : List Ran). cell.here ∷ rs) (cell.goes done) in
      record {
        state = then;
        live_is = moved ∙ (ap (option_map (λ (s : MachineState). after program s (place + 1) inputs allowance)) at.live_is ∙ ap (λ (p : Program). Some (after p m (place + 1) inputs allowance)) loaded);
        deep = ran_more program_of m (place + 1) inputs allowance ∙ ap (λ (n : ℕ). n + 1) at.deep;
        whole = ap (λ (t : List ℕ). t ++ texts_from (place + 1 + 1) left) (pushed ∙ ap (λ (t : List ℕ). written ++ t) cell.text)
            ∙ (append_assoc written (cell_text (place + 1) cell.here) (texts_from (place + 1 + 1) left)
            ∙ (ap (λ (rs : List Ran). written ++ texts_from (place + 1) rs) (sym next) ∙ at.whole));
        counted =
            let parts : steps_in (left_from m place) ≡ cell.here.steps + steps_in left = ap steps_in next ∙ steps_cons cell.here left in
            omega (arith, parts, cell.spent, at.counted);
        few = omega (arith, cell.spent, cell.low, at.few);
      }

  -- the whole text and the steps of the version
  pub record Ran_all (before total : ℕ) (written : List ℕ) : Type 0 where
    pub text_is : written ≡ text cells inputs allowance
    pub counted : total ≡ before + steps cells inputs allowance

  -- a cell that is not done is the last
  pub stopped : (before now total place : ℕ) (written more : List ℕ) (live : Option MachineState) (made : Measured) (at : Running before now place written live)
      → Cell at.state place now total made → (made.row.end ≡ reach.Done → ⊥) → more ≡ written ++ made.text → Ran_all before total more
  stopped before now total place written more live made at cell other pushed =
      let next : left_from at.state place ≡ cell.here ∷ [] = cell.is_next ∙ ap (λ (rs : List Ran). cell.here ∷ rs) (cell.stops other) in
      record {
        text_is = pushed ∙ (ap (λ (t : List ℕ). written ++ t) (cell.text ∙ sym (append-nil (cell_text (place + 1) cell.here)))
            ∙ (ap (λ (rs : List Ran). written ++ texts_from (place + 1) rs) (sym next) ∙ at.whole));
        counted =
            let parts : steps_in (left_from at.state place) ≡ cell.here.steps + steps_in [] = ap steps_in next ∙ steps_cons cell.here [] in
            let none : steps_in [] ≡ 0 = refl in
            omega (arith, parts, none, cell.spent, at.counted);
      }

  -- at the end nothing is left
  pub ended : (before now place : ℕ) (written : List ℕ) (live : Option MachineState) → length cells ≤ place → Running before now place written live → Ran_all before now written
  ended before now place written live past at =
      let none : left_from at.state place ≡ [] = ap (results program_of inputs allowance at.state) (drop_all place cells past) in
      record {
        text_is = sym (append-nil written) ∙ (ap (λ (rs : List Ran). written ++ texts_from (place + 1) rs) (sym none) ∙ at.whole);
        counted = let parts : steps_in (left_from at.state place) ≡ 0 = ap steps_in none in omega (arith, parts, at.counted);
      }
