-- The rows of a version that runs alone, cell after cell.
use Rattle.std.proofs.Common.{◌≡◌, ℕ, zero, suc, ◌+◌, ◌*◌, ◌<◌, ◌≤◌, ◌^◌, Bool, true, false, List, [], ◌∷◌, ◌++◌, length, get_or, take, drop, map, Option, Some, None, slice_get, IfSome, IsSome, is_some, option_map, refl, sym, ap, ◌∙◌, subst, arith}
use Rattle.std.specs.List.{All, AllZip, Contains, enumerate_from, sum, sum_by}
use Rattle.std.proofs.Math.Seq.{take-suc}
use Rattle.std.proofs.lemmas.Bool.{false≢true}
use Rattle.std.proofs.lemmas.List.{get_or-map, length-map, length-take-le}
use Rattle.std.proofs.lemmas.List.Sums.{sum_by-append}
use Rattle.star_syntax.specs.CellParts.{CellParts}
use Rattle.star_syntax.specs.Cells.{numbered}
use Rattle.star_syntax.specs.declared.cell.Program.{Program}
use Rattle.star_value.specs.declared.failure.Failure.{Failure}
use Rattle.star_meaning.specs.declared.ran.End.{End}
use Rattle.star_meaning.specs.declared.ran.End.TheVariants as end
use Rattle.star_meaning.specs.declared.ran.Ran.{Ran}
use Rattle.star_meaning.specs.Cells.{runs, steps}
use Rattle.star_meaning.specs.Validity.{MachineState, after, no_cell, nothing_ran, ran_at}
use Rattle.kernel_api.specs.Live.{depth_of}
use Rattle.plan_type.specs.declared.row.Row.{Row}
use Rattle.plan_type.specs.declared.row.Reach.{Reach}
use Rattle.plan_type.specs.declared.row.Reach.TheVariants as reach
use Rattle.exec_tree.specs.declared.checked.Checked.{Checked}
use Rattle.exec_tree.specs.Keys.{InputMap}
use Rattle.exec_tree.specs.Prefixes.{Prefix, number_of, prefixes, prefixes_of}
use Rattle.node_rows.specs.Rows.{HasEnd, HasResult}
use Rattle.audit_run.specs.Rows.{IsRow, is_done, no_row}
use Rattle.audit_run.specs.Sources.{HaveTheirSources}
use Rattle.audit_run.specs.Visits.{Visit, nodes_of, program_of, state_after, visit_at, visits_of}
use Rattle.audit_run.proofs.RowLemmas.{done_is, not_done}
use Rattle.audit_run.proofs.RunLemmas.{Goes, Stands, at_place, depth_after, from_nothing, goes, no_place, results, state_more, steps_within}
use Rattle.audit_run.proofs.TreeLemmas.{above_of, cell_there, length-nodes_of, length-prefixes_of}
use Rattle.audit_run.proofs.VisitLemmas.{zip_push}
use Rattle.audit_run.proofs.WayLemmas.{no_prefix}

-- ---- lists

pub enum_at : (n : ℕ) (ps : List Prefix) (k : ℕ) (d : ℕ × Prefix) (p : Prefix) → k < length ps → get_or (enumerate_from n ps) k d ≡ (n + k, get_or ps k p)
enum_at n [] k d p less = absurd (omega (arith, less))
enum_at n (q ∷ ps) zero d p less = let same : n ≡ n + 0 = omega arith in ap {B = ℕ × Prefix} (λ (m : ℕ). (m, q)) same
enum_at n (q ∷ ps) (suc k) d p less =
    let same : n + 1 + k ≡ n + suc k = omega arith in
    enum_at (n + 1) ps k d p (omega (arith, less)) ∙ ap {B = ℕ × Prefix} (λ (m : ℕ). (m, get_or ps k p)) same

pub enum_long : (n : ℕ) (ps : List Prefix) → length (enumerate_from n ps) ≡ length ps
enum_long n [] = refl
enum_long n (p ∷ ps) = ap suc (enum_long (n + 1) ps)

pub take_all : {X : Type 0} (xs : List X) (n : ℕ) → length xs ≤ n → take n xs ≡ xs
take_all [] zero short = refl
take_all [] (suc n) short = refl
take_all (x ∷ xs) zero short = absurd (omega (arith, short))
take_all (x ∷ xs) (suc n) short = ap (λ l. x ∷ l) (take_all xs n (omega (arith, short)))

-- where nothing is left the first ones are all
take_whole : {X : Type 0} (xs : List X) (n : ℕ) → drop n xs ≡ [] → take n xs ≡ xs
take_whole [] zero is = refl
take_whole [] (suc n) is = refl
take_whole (x ∷ xs) zero is = sym is
take_whole (x ∷ xs) (suc n) is = ap (λ l. x ∷ l) (take_whole xs n is)

drop_gone : {X : Type 0} (xs : List X) (n : ℕ) → length xs ≤ n → drop n xs ≡ []
drop_gone [] zero short = refl
drop_gone [] (suc n) short = refl
drop_gone (x ∷ xs) zero short = absurd (omega (arith, short))
drop_gone (x ∷ xs) (suc n) short = drop_gone xs n (omega (arith, short))

pub drop_next : {X : Type 0} (xs : List X) (k : ℕ) (d : X) → k < length xs → drop k xs ≡ get_or xs k d ∷ drop (suc k) xs
drop_next [] k d less = absurd (omega (arith, less))
drop_next (x ∷ xs) zero d less = refl
drop_next (x ∷ xs) (suc k) d less = drop_next xs k d (omega (arith, less))

any_default : (xs : List ℕ) (k d e : ℕ) → k < length xs → get_or xs k d ≡ get_or xs k e
any_default [] k d e less = absurd (omega (arith, less))
any_default (x ∷ xs) zero d e less = refl
any_default (x ∷ xs) (suc k) d e less = any_default xs k d e (omega (arith, less))

-- ---- steps

-- the steps of the first results
abbrev pub steps_in : List Ran → ℕ → ℕ
steps_in all k = sum (map (λ (r : Ran). r.steps) (take k all))

-- no result stands at this place, so none is counted
steps_none : (all : List Ran) (k : ℕ) → drop k all ≡ [] → steps_in all (suc k) ≡ steps_in all k
steps_none all k none = ap (λ (rs : List Ran). sum (map (λ (r : Ran). r.steps) rs)) (take_whole all (suc k) (no_place all k none).1 ∙ sym (take_whole all k none))

steps_first : (a : Ran) (all : List Ran) (j : ℕ) → steps_in (a ∷ all) (suc j) ≡ a.steps + steps_in all j
steps_first a all j =
    let apart : steps_in (a ∷ all) (suc j) ≡ sum (a.steps ∷ []) + steps_in all j = sum_by-append (λ (x : ℕ). x) (a.steps ∷ []) (map (λ (x : Ran). x.steps) (take j all)) in
    let one : sum (a.steps ∷ []) ≡ a.steps = omega arith in
    omega (arith, apart, one)

steps_one : (all : List Ran) (k : ℕ) (r : Ran) → slice_get all k ≡ Some r → steps_in all (suc k) ≡ steps_in all k + r.steps
steps_one [] k r is = cc
steps_one (a ∷ all) zero r is = let same : a ≡ r = cc in ap (λ (x : Ran). 0 + x.steps) same
steps_one (a ∷ all) (suc k) r is =
    let rest : steps_in all (suc k) ≡ steps_in all k + r.steps = steps_one all k r is in
    omega (arith, rest, steps_first a all (suc k), steps_first a all k)

-- ---- a version

module _ (versions : List Checked) (allowance : ℕ) (v : Checked) where
  abbrev pub all_ran : List Ran
  all_ran = runs v.cells v.inputs allowance

  abbrev pub state_at : ℕ → MachineState
  state_at k = state_after (program_of versions) v.inputs allowance (take k (nodes_of (prefixes versions) v))

  -- A version of which so many cells are behind: the node before the next one, whether it goes on, the kernel's live state and
  -- its steps, and the rows so far.
  pub record Measuring (k parent : ℕ) (reached : Bool) (live : Option MachineState) (before now : ℕ) (rows : List Row) : Type 0 where
    pub within : k ≤ length v.cells
    pub parent_is : parent ≡ get_or (0 ∷ nodes_of (prefixes versions) v) k 0
    pub on : reached ≡ true → live ≡ Some (state_at k)
    pub stands : reached ≡ true → Stands (program_of versions) v.inputs allowance all_ran v.cells k (state_at k)
    pub over : reached ≡ false → drop k all_ran ≡ []
    pub counted : now ≡ before + steps_in all_ran k
    pub few : now ≤ before + k * 1000000
    pub rows_are : AllZip (IsRow (prefixes versions)) (take k (visits_of versions allowance v)) rows

  pub starts : (parent before now : ℕ) (live : Option MachineState) (rows : List Row) → parent ≡ 0 → live ≡ Some nothing_ran → now ≡ before → rows ≡ []
      → Measuring 0 parent true live before now rows
  starts parent before now live rows first is same none = record {
    within = omega arith;
    parent_is = first;
    on = λ going. is;
    stands = λ going. sym (from_nothing (program_of versions) v.inputs allowance v.cells);
    over = λ never. absurd (false≢true (sym never));
    counted = omega (arith, same);
    few = omega (arith, same);
    rows_are = subst (λ (rs : List Row). AllZip (IsRow (prefixes versions)) (take 0 (visits_of versions allowance v)) rs) (sym none) tt;
  }

  -- the visit of a cell
  pub visit_there : (k : ℕ) (d : Visit) (p : Prefix) → k < length v.cells → get_or (visits_of versions allowance v) k d ≡ visit_at versions allowance v (k, get_or (prefixes_of v) k p)
  visit_there k d p less =
      let long : length (prefixes_of v) ≡ length v.cells = length-prefixes_of v.inputs [] v.cells in
      let placed = enumerate_from 0 (prefixes_of v) in
      let many : length placed ≡ length (prefixes_of v) = enum_long 0 (prefixes_of v) in
      let zero_less : 0 + k ≡ k = omega arith in
      get_or-map (visit_at versions allowance v) placed k (0, p) d (omega (arith, less, long, many))
      ∙ ap (visit_at versions allowance v) (enum_at 0 (prefixes_of v) k (0, p) p (omega (arith, less, long)) ∙ ap {B = ℕ × Prefix} (λ (m : ℕ). (m, get_or (prefixes_of v) k p)) zero_less)

  pub visits_long : length (visits_of versions allowance v) ≡ length v.cells
  visits_long =
      length-map (enumerate_from 0 (prefixes_of v)) (visit_at versions allowance v) ∙ (enum_long 0 (prefixes_of v) ∙ length-prefixes_of v.inputs [] v.cells)

  -- one more row
  row_more : (k : ℕ) (p : Prefix) (rows : List Row) (row : Row) → k < length v.cells → AllZip (IsRow (prefixes versions)) (take k (visits_of versions allowance v)) rows
      → IsRow (prefixes versions) (visit_at versions allowance v (k, get_or (prefixes_of v) k p)) row
      → AllZip (IsRow (prefixes versions)) (take (suc k) (visits_of versions allowance v)) (rows ++ row ∷ [])
  row_more k p rows row less done is =
      let visit : Visit = visit_at versions allowance v (k, get_or (prefixes_of v) k p) in
      subst (λ (vs : List Visit). AllZip (IsRow (prefixes versions)) vs (rows ++ row ∷ []))
      (sym (take-suc (visits_of versions allowance v) k visit (omega (arith, less, visits_long)) ∙ ap (λ (x : Visit). take k (visits_of versions allowance v) ++ x ∷ []) (visit_there k visit p less)))
      (zip_push (IsRow (prefixes versions)) (take k (visits_of versions allowance v)) rows visit row done is)

  is_done_end : (e : End) (m : MachineState) (row : Row) → HasEnd e m row → row.end ≡ reach.Done → e ≡ end.Done
  is_done_end end.Done m row h is = refl
  is_done_end (end.Failed f line) m row h is = let never : reach.Done ≡ reach.Failed = sym is ∙ h.0 in absurd (false≢true (sym (ap is_done never)))

  is_failed_end : (e : End) (m : MachineState) (row : Row) → HasEnd e m row → (row.end ≡ reach.Done → ⊥) → (f : Failure) × (line : ℕ) × (e ≡ end.Failed f line)
  is_failed_end end.Done m row h never = absurd (never h.0)
  is_failed_end (end.Failed f line) m row h never = (f, line, refl)

  -- a cell that the version comes to
  goes_on : (k parent node : ℕ) (reached : Bool) (live later : Option MachineState) (before now total : ℕ) (rows : List Row) (row : Row)
      → Contains versions v → HaveTheirSources versions → k < length v.cells → 1 ≤ allowance → allowance ≤ 1000000
      → Measuring k parent true live before now rows
      → node ≡ get_or (nodes_of (prefixes versions) v) k 0
      → IfSome live (λ m. (row.parent ≡ parent) × HasResult (k + 1) (Some (ran_at (program_of versions) m node v.inputs allowance)) (after (program_of versions) m node v.inputs allowance) row)
      → later ≡ option_map (λ m. after (program_of versions) m node v.inputs allowance) live
      → total ≡ now + row.steps
      → reached ≡ is_done row.end
      → Measuring (suc k) node reached later before total (rows ++ row ∷ [])
  goes_on k parent node reached live later before now total rows row there sources less least most m node_is fact moved spent going_is =
      let program : Program = program_of versions in
      let nodes : List ℕ = nodes_of (prefixes versions) v in
      let state : MachineState = state_at k in
      let after_it : MachineState = after program state node v.inputs allowance in
      let r : Ran = ran_at program state node v.inputs allowance in
      let on : live ≡ Some state = m.on refl in
      let told : (row.parent ≡ parent) × HasResult (k + 1) (Some r) after_it row =
      subst (λ (o : Option MachineState). IfSome o (λ (s : MachineState). (row.parent ≡ parent) × HasResult (k + 1) (Some (ran_at program s node v.inputs allowance)) (after program s node v.inputs allowance) row)) on fact in
      let cell : numbered program.cells node ≡ Some (get_or v.cells k no_cell) = ap (numbered program.cells) node_is ∙ cell_there versions v there k no_prefix no_cell sources less in
      let g : Goes program v.inputs allowance all_ran v.cells k state node =
      goes program v.inputs allowance all_ran v.cells (drop (suc k) v.cells) k state node (get_or v.cells k no_cell) (m.stands refl) (drop_next v.cells k no_cell less) cell in
      let long : length nodes ≡ length v.cells = length-nodes_of versions v there in
      let next : state_at (suc k) ≡ after_it =
      state_more program v.inputs allowance nodes k 0 (omega (arith, less, long)) ∙ ap (λ (n : ℕ). after program state n v.inputs allowance) (sym node_is) in
      let plus : k + 1 ≡ suc k = omega arith in
      let steps_are : row.steps ≡ r.steps = told.1.1 in
      let bounded : r.steps ≤ allowance = steps_within program v.inputs allowance state node least in
      record {
        within = omega (arith, less);
        parent_is = node_is;
        on = λ going. moved ∙ (ap (option_map (λ (s : MachineState). after program s node v.inputs allowance)) on ∙ ap Some (sym next));
        stands = λ going. subst (Stands program v.inputs allowance all_ran v.cells (suc k)) (sym next)
            (g.done (is_done_end r.end after_it row told.1.0 (done_is row.end (sym going_is ∙ going))));
        over = λ gone. let f = is_failed_end r.end after_it row told.1.0 (not_done row.end (sym going_is ∙ gone)) in g.failed f.0 f.1 f.2;
        counted = let one = steps_one all_ran k r g.here in omega (arith, one, steps_are, spent, m.counted);
        few = omega (arith, steps_are, bounded, most, spent, m.few);
        rows_are = row_more k no_prefix rows row less m.rows_are (record {
          parent = told.0 ∙ (m.parent_is ∙ sym (above_of versions v there k no_prefix less));
          result =
              subst (λ (s : MachineState). HasResult (k + 1) (slice_get all_ran k) s row) (sym next ∙ ap state_at (sym plus))
              (subst (λ (o : Option Ran). HasResult (k + 1) o after_it row) (sym g.here) told.1);
        });
      }

  -- a cell that it does not come to
  stays_over : (k parent node : ℕ) (reached : Bool) (live later : Option MachineState) (before now total : ℕ) (rows : List Row) (row : Row)
      → Contains versions v → k < length v.cells
      → Measuring k parent false live before now rows
      → node ≡ get_or (nodes_of (prefixes versions) v) k 0
      → row ≡ no_row parent
      → total ≡ now + row.steps
      → reached ≡ is_done row.end
      → Measuring (suc k) node reached later before total (rows ++ row ∷ [])
  stays_over k parent node reached live later before now total rows row there less m node_is missed spent going_is =
      let left : drop k all_ran ≡ [] = m.over refl in
      let nowhere = no_place all_ran k left in
      let bare : HasResult (k + 1) None (state_at (k + 1)) (no_row parent) = (refl, refl, refl, refl) in
      let none : HasResult (k + 1) None (state_at (k + 1)) row = subst (λ (x : Row). HasResult (k + 1) None (state_at (k + 1)) x) (sym missed) bare in
      let none_taken : row.steps ≡ 0 = none.1 in
      let stopped : reached ≡ false = going_is ∙ ap is_done none.0 in
      let never : reached ≡ true → ⊥ = λ going. false≢true (sym stopped ∙ going) in
      record {
        within = omega (arith, less);
        parent_is = node_is;
        on = λ going. absurd (never going);
        stands = λ going. absurd (never going);
        over = λ gone. nowhere.1;
        counted = let same = steps_none all_ran k left in omega (arith, same, none_taken, spent, m.counted);
        few = omega (arith, none_taken, spent, m.few);
        rows_are = row_more k no_prefix rows row less m.rows_are (record {
          parent = ap (λ (x : Row). x.parent) missed ∙ (m.parent_is ∙ sym (above_of versions v there k no_prefix less));
          result = subst (λ (o : Option Ran). HasResult (k + 1) o (state_at (k + 1)) row) (sym nowhere.0) none;
        });
      }

  -- one more cell
  one_more : (k parent node : ℕ) (was reached : Bool) (live later : Option MachineState) (before now total : ℕ) (rows : List Row) (row : Row)
      → Contains versions v → HaveTheirSources versions → k < length v.cells → 1 ≤ allowance → allowance ≤ 1000000
      → Measuring k parent was live before now rows
      → node ≡ get_or (nodes_of (prefixes versions) v) k 0
      → (was ≡ true → IfSome live (λ m. (row.parent ≡ parent) × HasResult (k + 1) (Some (ran_at (program_of versions) m node v.inputs allowance)) (after (program_of versions) m node v.inputs allowance) row))
      → (was ≡ false → row ≡ no_row parent)
      → (was ≡ true → later ≡ option_map (λ m. after (program_of versions) m node v.inputs allowance) live)
      → total ≡ now + row.steps
      → reached ≡ is_done row.end
      → Measuring (suc k) node reached later before total (rows ++ row ∷ [])
  one_more k parent node true reached live later before now total rows row there sources less least most m node_is came missed moved spent going_is =
      goes_on k parent node reached live later before now total rows row there sources less least most m node_is (came refl) (moved refl) spent going_is
  one_more k parent node false reached live later before now total rows row there sources less least most m node_is came missed moved spent going_is =
      stays_over k parent node reached live later before now total rows row there less m node_is (missed refl) spent going_is

  -- the same of a kernel with this program, for nodes that are handed in
  pub measured_more : (program : Program) (inputs : InputMap) (ns : List ℕ) (k parent node : ℕ) (was reached : Bool) (live later : Option MachineState) (before now total : ℕ) (rows more : List Row) (row : Row)
      → Contains versions v → HaveTheirSources versions → 1 ≤ allowance → allowance ≤ 1000000
      → program ≡ program_of versions → inputs ≡ v.inputs → ns ≡ nodes_of (prefixes versions) v → k < length ns → node ≡ get_or ns k node
      → Measuring k parent was live before now rows
      → (was ≡ true → IfSome live (λ m. (row.parent ≡ parent) × HasResult (k + 1) (Some (ran_at program m node inputs allowance)) (after program m node inputs allowance) row))
      → (was ≡ false → row ≡ no_row parent)
      → (was ≡ true → later ≡ option_map (λ m. after program m node inputs allowance) live)
      → total ≡ now + row.steps
      → reached ≡ is_done row.end
      → more ≡ rows ++ row ∷ []
      → Measuring (k + 1) node reached later before total more
  measured_more program inputs ns k parent node was reached live later before now total rows more row there sources least most loaded given nodes less read m came missed moved spent going_is pushed =
      let long : length ns ≡ length v.cells = ap length nodes ∙ length-nodes_of versions v there in
      let node_is : node ≡ get_or (nodes_of (prefixes versions) v) k 0 = read ∙ (any_default ns k node 0 less ∙ ap (λ (l : List ℕ). get_or l k 0) nodes) in
      let came_own : was ≡ true → IfSome live (λ m. (row.parent ≡ parent) × HasResult (k + 1) (Some (ran_at (program_of versions) m node v.inputs allowance)) (after (program_of versions) m node v.inputs allowance) row) =
      λ going. subst (λ (i : InputMap). IfSome live (λ (m : MachineState). (row.parent ≡ parent) × HasResult (k + 1) (Some (ran_at (program_of versions) m node i allowance)) (after (program_of versions) m node i allowance) row)) given
      (subst (λ (p : Program). IfSome live (λ (m : MachineState). (row.parent ≡ parent) × HasResult (k + 1) (Some (ran_at p m node inputs allowance)) (after p m node inputs allowance) row)) loaded (came going)) in
      let moved_own : was ≡ true → later ≡ option_map (λ m. after (program_of versions) m node v.inputs allowance) live =
      λ going. subst (λ (i : InputMap). later ≡ option_map (λ (m : MachineState). after (program_of versions) m node i allowance) live) given
      (subst (λ (p : Program). later ≡ option_map (λ (m : MachineState). after p m node inputs allowance) live) loaded (moved going)) in
      let plus : suc k ≡ k + 1 = omega arith in
      subst (λ (rs : List Row). Measuring (k + 1) node reached later before total rs) (sym pushed)
      (subst (λ (n : ℕ). Measuring n node reached later before total (rows ++ row ∷ [])) plus
      (one_more k parent node was reached live later before now total rows row there sources (omega (arith, long, less)) least most m node_is came_own missed moved_own spent going_is))

  -- what the next cell needs
  pub record MayRun (program : Program) (node : ℕ) (reached : Bool) (live : Option MachineState) (now : ℕ) : Type 0 where
    pub ready : reached ≡ true → IsSome live
    pub node_there : IsSome (numbered program.cells node)
    pub few : reached ≡ true → depth_of live < 64
    pub room : now + allowance < 2 ^ 64

  pub may_run : (program : Program) (ns : List ℕ) (k parent node : ℕ) (reached : Bool) (live : Option MachineState) (before now : ℕ) (rows : List Row)
      → Contains versions v → HaveTheirSources versions → allowance ≤ 1000000 → length v.cells ≤ 64 → before + 64000000 < 2 ^ 64
      → program ≡ program_of versions → ns ≡ nodes_of (prefixes versions) v → k < length ns → node ≡ get_or ns k node
      → Measuring k parent reached live before now rows → MayRun program node reached live now
  may_run program ns k parent node reached live before now rows there sources most short wide loaded nodes less read m =
      let long : length ns ≡ length v.cells = ap length nodes ∙ length-nodes_of versions v there in
      let own : length (nodes_of (prefixes versions) v) ≡ length v.cells = length-nodes_of versions v there in
      let node_is : node ≡ get_or (nodes_of (prefixes versions) v) k 0 = read ∙ (any_default ns k node 0 less ∙ ap (λ (l : List ℕ). get_or l k 0) nodes) in
      let within : k < length v.cells = omega (arith, long, less) in
      let cell : numbered program.cells node ≡ Some (get_or v.cells k no_cell) =
      ap (λ (p : Program). numbered p.cells node) loaded
      ∙ (ap (numbered (program_of versions).cells) node_is ∙ cell_there versions v there k no_prefix no_cell sources within) in
      let deep : length (state_at k).ran ≡ k =
      depth_after (program_of versions) v.inputs allowance (take k (nodes_of (prefixes versions) v)) ∙ length-take-le k (nodes_of (prefixes versions) v) (omega (arith, own, within)) in
      record {
        ready = λ going. ap is_some (m.on going);
        node_there = ap is_some cell;
        few = λ going. let same : depth_of live ≡ k = ap depth_of (m.on going) ∙ deep in omega (arith, same, within, short);
        room = omega (arith, m.few, within, short, most, wide);
      }

  -- at the end all cells are behind
  over_at_end : (k parent : ℕ) (reached : Bool) (live : Option MachineState) (before now : ℕ) (rows : List Row) → length v.cells ≤ k → Measuring k parent reached live before now rows → drop k all_ran ≡ []
  over_at_end k parent true live before now rows long m =
      m.stands refl ∙ ap (results (program_of versions) v.inputs allowance (state_at k)) (drop_gone v.cells k long)
  over_at_end k parent false live before now rows long m = m.over refl

  pub record Measured (before now : ℕ) (rows : List Row) : Type 0 where
    pub rows_are : AllZip (IsRow (prefixes versions)) (visits_of versions allowance v) rows
    pub counted : now ≡ before + steps v.cells v.inputs allowance

  pub ends : (ns : List ℕ) (k parent : ℕ) (reached : Bool) (live : Option MachineState) (before now : ℕ) (rows : List Row)
      → Contains versions v → ns ≡ nodes_of (prefixes versions) v → length ns ≤ k → Measuring k parent reached live before now rows → Measured before now rows
  unfolding steps
  ends ns k parent reached live before now rows there nodes past m =
      let long : length ns ≡ length v.cells = ap length nodes ∙ length-nodes_of versions v there in
      record {
        rows_are = subst (λ (vs : List Visit). AllZip (IsRow (prefixes versions)) vs rows) (take_all (visits_of versions allowance v) k (omega (arith, visits_long, long, past))) m.rows_are;
        counted = m.counted ∙ ap (λ (rs : List Ran). before + sum (map (λ (r : Ran). r.steps) rs)) (take_whole all_ran k (over_at_end k parent reached live before now rows (omega (arith, long, past)) m));
      }

  -- few steps
  pub few_steps : (k parent : ℕ) (reached : Bool) (live : Option MachineState) (before now : ℕ) (rows : List Row) → length v.cells ≤ 64 → Measuring k parent reached live before now rows → now ≤ before + 64000000
  few_steps k parent reached live before now rows short m = omega (arith, short, m.within, m.few)
