-- What a well-levelled statement holds, and how one is made.
use Rattle.std.proofs.Common.{◌≡◌, ◌∙◌, List, [], ◌∷◌, map, Option, Some, None, refl, ap, subst}
use Rattle.std.specs.List.{AllByRecursion}
use Rattle.star_syntax.specs.declared.statement.Block.{Block}
use Rattle.star_syntax.specs.declared.statement.Block.TheVariants.{Inline, Indented}
use Rattle.star_syntax.specs.declared.statement.Branch.{Branch}
use Rattle.star_syntax.specs.declared.statement.Definition.{Definition}
use Rattle.star_syntax.specs.declared.statement.Statement.{Statement, out-Statement, roll-Statement, out-roll-Statement, map-Statement, every-Statement, every_here-Statement, every_held-Statement, every_made-Statement, ind-Statement}
use Rattle.star_syntax.specs.declared.statement.Statement.TheOpen.{Statement-F}
use Rattle.star_syntax.specs.Levels.{IsStatement, StatementFits}

abbrev pub EachBlock : (Statement → Type 0) → Block Statement → Type 0
EachBlock P (Inline line) = Unit {0}
EachBlock P (Indented statements) = AllByRecursion P statements

abbrev pub EachBranch : (Statement → Type 0) → Branch Statement → Type 0
EachBranch P branch = EachBlock P branch.body

abbrev pub EachElse : (Statement → Type 0) → Option (Block Statement) → Type 0
EachElse P None = Unit {0}
EachElse P (Some body) = EachBlock P body

-- P holds of each statement in the blocks of one
abbrev pub EachPart : (Statement → Type 0) → Statement-F Statement → Type 0
EachPart P (Statement-F.Line line) = Unit {0}
EachPart P (Statement-F.If at first more other) = EachBranch P first × AllByRecursion (EachBranch P) more × EachElse P other
EachPart P (Statement-F.For at targets over body) = EachBlock P body
EachPart P (Statement-F.Def at def) = EachBlock P def.body

-- ---- parts, by what holds them

unfoldable pub block_in : {X : Type 0} → Statement-F X → Block X
block_in (Statement-F.For at targets over body) = body
block_in _ = Indented []

unfoldable pub branches_in : {X : Type 0} → Statement-F X → List (Branch X)
branches_in (Statement-F.If at first more other) = more
branches_in _ = []

unfoldable pub else_in : {X : Type 0} → Statement-F X → Option (Block X)
else_in (Statement-F.If at first more other) = other
else_in _ = None

module _ (P : Statement → Type 0) where
  abbrev Held : Type 0
  Held = (z : Statement) × P z

  bare : Statement-F Held → Statement-F Statement
  bare = map-Statement Held Statement (λ h. h.0)

  -- ---- what it holds

  all_held : (xs : List Held) → AllByRecursion P (map (λ h. h.0) xs)
  all_held [] = tt
  all_held (x ∷ xs) = (x.1, all_held xs)

  block_held : (body : Block Held) → EachBlock P (block_in (bare (Statement-F.For 0 [] [] body)))
  unfolding bare block_in
  block_held (Inline line) = tt
  block_held (Indented xs) = all_held xs

  branches_held : (first : Branch Held) (other : Option (Block Held)) (xs : List (Branch Held)) → AllByRecursion (EachBranch P) (branches_in (bare (Statement-F.If 0 first xs other)))
  unfolding bare block_in branches_in
  branches_held first other [] = tt
  branches_held first other (x ∷ xs) = (block_held x.body, branches_held first other xs)

  else_held : (first : Branch Held) (other : Option (Block Held)) → EachElse P (else_in (bare (Statement-F.If 0 first [] other)))
  unfolding bare block_in else_in
  else_held first None = tt
  else_held first (Some body) = block_held body

  held : (y : Statement-F Held) → EachPart P (bare y)
  unfolding bare block_in branches_in else_in
  held (Statement-F.Line line) = tt
  held (Statement-F.If at first more other) = (block_held first.body, branches_held first other more, else_held first other)
  held (Statement-F.For at targets over body) = block_held body
  held (Statement-F.Def at def) = block_held def.body

  -- ---- how it is made

  all_made : (xs : List Statement) → AllByRecursion P xs → (ys : List Held) × (map (λ h. h.0) ys ≡ xs)
  all_made [] h = ([], refl)
  all_made (x ∷ xs) h = let (ys, is) = all_made xs h.1 in ((x, h.0) ∷ ys, ap (λ l. x ∷ l) is)

  block_made : (body : Block Statement) → EachBlock P body → (b : Block Held) × (block_in (bare (Statement-F.For 0 [] [] b)) ≡ body)
  unfolding bare block_in
  block_made (Inline line) h = (Inline line, refl)
  block_made (Indented xs) h = let (ys, is) = all_made xs h in (Indented ys, ap (λ l. Indented l) is)

  branch_with : Branch Statement → Block Statement → Branch Statement
  branch_with branch body = record { condition = branch.condition; body = body }

  branches_made : (first : Branch Held) (other : Option (Block Held)) (xs : List (Branch Statement)) → AllByRecursion (EachBranch P) xs
      → (ys : List (Branch Held)) × (branches_in (bare (Statement-F.If 0 first ys other)) ≡ xs)
  unfolding bare block_in branches_in branch_with
  branches_made first other [] h = ([], refl)
  branches_made first other (x ∷ xs) h =
      let (b, is) = block_made x.body h.0 in
      let (ys, are) = branches_made first other xs h.1 in (
        record { condition = x.condition; body = b } ∷ ys,
        ap (λ v. branch_with x v ∷ branches_in (bare (Statement-F.If 0 first ys other))) is ∙ ap (λ l. x ∷ l) are,
      )

  else_made : (first : Branch Held) (other : Option (Block Statement)) → EachElse P other → (o : Option (Block Held)) × (else_in (bare (Statement-F.If 0 first [] o)) ≡ other)
  unfolding bare block_in else_in
  else_made first None h = (None, refl)
  else_made first (Some body) h = let (b, is) = block_made body h in (Some b, ap (λ v. Some v) is)

  def_with : Definition Statement → Block Statement → Definition Statement
  def_with def body = record { name = def.name; required = def.required; defaults = def.defaults; comma = def.comma; body = body }

  made : (d : Statement-F Statement) → EachPart P d → (y : Statement-F Held) × (bare y ≡ d)
  unfolding bare block_in branches_in else_in branch_with def_with
  made (Statement-F.Line line) h = (Statement-F.Line line, refl)
  made (Statement-F.If at first more other) h =
      let (b, is) = block_made first.body h.0 in
      let f : Branch Held = record { condition = first.condition; body = b } in
      let (o, other_is) = else_made f other h.2 in
      let (ys, are) = branches_made f o more h.1 in (
        Statement-F.If at f ys o,
        ap (λ v. Statement-F.If at (branch_with first v) (branches_in (bare (Statement-F.If 0 f ys o))) (else_in (bare (Statement-F.If 0 f [] o)))) is
            ∙ ap (λ v. Statement-F.If at first v (else_in (bare (Statement-F.If 0 f [] o)))) are
            ∙ ap (λ v. Statement-F.If at first more v) other_is,
      )
  made (Statement-F.For at targets over body) h = let (b, is) = block_made body h in (Statement-F.For at targets over b, ap (λ v. Statement-F.For at targets over v) is)
  made (Statement-F.Def at def) h =
      let (b, is) = block_made def.body h in
      (Statement-F.Def at (record { name = def.name; required = def.required; defaults = def.defaults; comma = def.comma; body = b }), ap (λ v. Statement-F.Def at (def_with def v)) is)

-- induction over a statement, where each one in its blocks has the property
pub induct_statement : (P : Statement → Type 0) → ((d : Statement-F Statement) → EachPart P d → P (roll-Statement d)) → (x : Statement) → P x
unfolding bare
induct_statement P step = ind-Statement P (λ d y is. subst (λ v. P (roll-Statement v)) is (step (bare P y) (held P y)))

-- a levelled statement's node fits, and those in its blocks are levelled
pub statement_parts : (d : Statement-F Statement) → IsStatement (roll-Statement d) → StatementFits d × EachPart IsStatement d
unfolding IsStatement bare
statement_parts d h =
    let fits : StatementFits (out-Statement (roll-Statement d)) = every_here-Statement StatementFits (roll-Statement d) h in
    let each : EachPart IsStatement (out-Statement (roll-Statement d)) =
    (let (y, is) = every_held-Statement StatementFits (roll-Statement d) h in subst (λ v. EachPart (every-Statement StatementFits) v) is (held (every-Statement StatementFits) y)) in
    (subst StatementFits (out-roll-Statement d) fits, subst (EachPart IsStatement) (out-roll-Statement d) each)

-- a node that fits, of levelled statements
pub statement_made : (d : Statement-F Statement) → StatementFits d → EachPart IsStatement d → IsStatement (roll-Statement d)
unfolding IsStatement bare
statement_made d fits each = let (y, is) = made (every-Statement StatementFits) d each in every_made-Statement StatementFits d y is fits
