-- A cell whose meaning does not hang on its setting.
use Rattle.std.proofs.Common.{◌≡◌, [], ◌∷◌, refl, ap, ◌∙◌}
use Rattle.star_syntax.specs.CellParts.{CellParts}
use Rattle.star_meaning.specs.declared.ran.End.{End}
use Rattle.star_meaning.specs.declared.ran.End.TheVariants as end
use Rattle.star_meaning.specs.declared.ran.Ran.{Ran}
use Rattle.star_meaning.specs.State.{empty}
use Rattle.star_meaning.specs.World.{start}
use Rattle.star_meaning.specs.Expressions.{Setting, Callee}
use Rattle.star_meaning.specs.Statements.{call_to}
use Rattle.star_meaning.specs.Trees.{Give}
use Rattle.star_meaning.specs.Cells.{Shown, if_done, ran, ran_of, run, runs, shown_setting, statements_from}

nothing_after : (e : End) (s : Shown) → if_done e (λ after. []) s ≡ []
nothing_after end.Done s = refl
nothing_after (end.Failed kind line) s = refl

-- what such a cell does, by itself, from the empty state
pub one_cell : {cell : CellParts} {r : Ran}
    → ((st : Setting CellParts) (call : Callee CellParts) → (ran_of 1000000 (statements_from st call 0 cell.«module».statements (start empty 999999))).0 ≡ r)
    → Give (cell ∷ []) (r ∷ [])
unfolding ran run runs
one_cell {cell} {r} h =
    let st = shown_setting cell [] in
    let all = ran_of 1000000 (statements_from st (call_to st 32) 0 cell.«module».statements (start empty 999999)) in
    record { hold = ap (λ rest. all.0 ∷ rest) (nothing_after all.0.end all.1) ∙ ap (λ x. x ∷ []) (h st (call_to st 32)) }
