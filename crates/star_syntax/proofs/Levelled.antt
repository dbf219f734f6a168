-- What a well-levelled node holds, and how one is made.
use Rattle.std.proofs.Common.{◌≡◌, ◌∙◌, Bool, false, List, [], ◌∷◌, map, Option, Some, None, refl, ap, subst}
use Rattle.std.specs.List.{AllByRecursion}
use Rattle.star_syntax.specs.declared.expression.ChainLevel.{ChainLevel}
use Rattle.star_syntax.specs.declared.expression.Link.{Link}
use Rattle.star_syntax.specs.declared.expression.Arm.{Arm}
use Rattle.star_syntax.specs.declared.expression.Named.{Named}
use Rattle.star_syntax.specs.declared.expression.Pair.{Pair}
use Rattle.star_syntax.specs.declared.expression.Arguments.{Arguments}
use Rattle.star_syntax.specs.declared.expression.Suffix.{Suffix}
use Rattle.star_syntax.specs.declared.expression.Suffix.TheVariants.{Index, Slice, Call, Method}
use Rattle.star_syntax.specs.declared.expression.Clause.{Clause}
use Rattle.star_syntax.specs.declared.expression.Clause.TheVariants.{For, If}
use Rattle.star_syntax.specs.declared.expression.Expr.{Expr, out-Expr, roll-Expr, out-roll-Expr, map-Expr, every-Expr, every_here-Expr, every_held-Expr, every_made-Expr, ind-Expr}
use Rattle.star_syntax.specs.declared.expression.Expr.TheOpen.{Expr-F}
use Rattle.star_syntax.specs.Levels.{IsLevelled, Fits, rank, layer_rank}

abbrev pub EachOption : (Expr → Type 0) → Option Expr → Type 0
EachOption P None = Unit {0}
EachOption P (Some x) = P x

abbrev pub EachStep : (Expr → Type 0) → Option (Option Expr) → Type 0
EachStep P None = Unit {0}
EachStep P (Some step) = EachOption P step

abbrev pub EachArgument : (Expr → Type 0) → Arguments Expr → Type 0
EachArgument P given = AllByRecursion P given.positional × AllByRecursion (λ named. P named.value) given.named

abbrev pub EachSuffix : (Expr → Type 0) → Suffix Expr → Type 0
EachSuffix P (Index at) = P at
EachSuffix P (Slice start stop step) = EachOption P start × EachOption P stop × EachStep P step
EachSuffix P (Call given) = EachArgument P given
EachSuffix P (Method name given) = EachArgument P given

abbrev pub EachClause : (Expr → Type 0) → Clause Expr → Type 0
EachClause P (For targets over) = AllByRecursion P targets × P over
EachClause P (If condition) = P condition

abbrev pub EachPair : (Expr → Type 0) → Pair Expr → Type 0
EachPair P pair = P pair.key × P pair.value

abbrev pub EachLink : (Expr → Type 0) → Link Expr → Type 0
EachLink P link = P link.operand

abbrev pub EachArm : (Expr → Type 0) → Arm Expr → Type 0
EachArm P arm = P arm.value × P arm.condition

-- P holds of each part of a node
abbrev pub Each : (Expr → Type 0) → Expr-F Expr → Type 0
Each P (Expr-F.Name _) = Unit {0}
Each P (Expr-F.Int _) = Unit {0}
Each P (Expr-F.Text _) = Unit {0}
Each P Expr-F.None = Unit {0}
Each P Expr-F.True = Unit {0}
Each P Expr-F.False = Unit {0}
Each P (Expr-F.Paren inner) = P inner
Each P (Expr-F.Tuple items comma) = AllByRecursion P items
Each P (Expr-F.List items comma) = AllByRecursion P items
Each P (Expr-F.ListOver item clauses) = P item × AllByRecursion (EachClause P) clauses
Each P (Expr-F.Dict pairs comma) = AllByRecursion (EachPair P) pairs
Each P (Expr-F.DictOver key value clauses) = P key × P value × AllByRecursion (EachClause P) clauses
Each P (Expr-F.Primary head suffixes) = P head × AllByRecursion (EachSuffix P) suffixes
Each P (Expr-F.Signed signs operand) = P operand
Each P (Expr-F.Chain l first links) = P first × AllByRecursion (EachLink P) links
Each P (Expr-F.Compare left o right) = P left × P right
Each P (Expr-F.Not count operand) = P operand
Each P (Expr-F.Conditional arms last) = AllByRecursion (EachArm P) arms × P last

suffixes_in : {X : Type 0} → Expr-F X → List (Suffix X)
suffixes_in (Expr-F.Primary head xs) = xs
suffixes_in _ = []

links_in : {X : Type 0} → Expr-F X → List (Link X)
links_in (Expr-F.Chain l first xs) = xs
links_in _ = []

arms_in : {X : Type 0} → Expr-F X → List (Arm X)
arms_in (Expr-F.Conditional xs last) = xs
arms_in _ = []

clauses_in : {X : Type 0} → Expr-F X → List (Clause X)
clauses_in (Expr-F.ListOver item xs) = xs
clauses_in _ = []

pairs_in : {X : Type 0} → Expr-F X → List (Pair X)
pairs_in (Expr-F.Dict xs comma) = xs
pairs_in _ = []

-- the named arguments of the first suffix
named_in : {X : Type 0} → List (Suffix X) → List (Named X)
named_in (Call given ∷ xs) = given.named
named_in _ = []

module _ (P : Expr → Type 0) where
  abbrev Held : Type 0
  Held = (z : Expr) × P z

  bare : Expr-F Held → Expr-F Expr
  bare = map-Expr Held Expr (λ h. h.0)

  named_bare : Held → List (Named Held) → List (Named Expr)
  named_bare head ns = named_in (suffixes_in (bare (Expr-F.Primary head (Call (record { positional = []; named = ns; comma = false }) ∷ []))))

  clauses_bare : Held → List (Clause Held) → List (Clause Expr)
  clauses_bare item cs = clauses_in (bare (Expr-F.ListOver item cs))

  -- ---- what it holds

  exprs_held : (xs : List Held) → AllByRecursion P (map (λ h. h.0) xs)
  exprs_held [] = tt
  exprs_held (x ∷ xs) = (x.1, exprs_held xs)

  named_held : (head : Held) (ns : List (Named Held)) → AllByRecursion (λ named. P named.value) (named_bare head ns)
  unfolding bare suffixes_in named_in named_bare
  named_held head [] = tt
  named_held head (n ∷ ns) = (n.value.1, named_held head ns)

  suffixes_held : (head : Held) (xs : List (Suffix Held)) → AllByRecursion (EachSuffix P) (suffixes_in (bare (Expr-F.Primary head xs)))
  unfolding bare suffixes_in named_in named_bare
  suffixes_held head [] = tt
  suffixes_held head (Index at ∷ xs) = (at.1, suffixes_held head xs)
  suffixes_held head (Slice None None None ∷ xs) = ((tt, tt, tt), suffixes_held head xs)
  suffixes_held head (Slice None None (Some None) ∷ xs) = ((tt, tt, tt), suffixes_held head xs)
  suffixes_held head (Slice None None (Some (Some c)) ∷ xs) = ((tt, tt, c.1), suffixes_held head xs)
  suffixes_held head (Slice None (Some b) None ∷ xs) = ((tt, b.1, tt), suffixes_held head xs)
  suffixes_held head (Slice None (Some b) (Some None) ∷ xs) = ((tt, b.1, tt), suffixes_held head xs)
  suffixes_held head (Slice None (Some b) (Some (Some c)) ∷ xs) = ((tt, b.1, c.1), suffixes_held head xs)
  suffixes_held head (Slice (Some a) None None ∷ xs) = ((a.1, tt, tt), suffixes_held head xs)
  suffixes_held head (Slice (Some a) None (Some None) ∷ xs) = ((a.1, tt, tt), suffixes_held head xs)
  suffixes_held head (Slice (Some a) None (Some (Some c)) ∷ xs) = ((a.1, tt, c.1), suffixes_held head xs)
  suffixes_held head (Slice (Some a) (Some b) None ∷ xs) = ((a.1, b.1, tt), suffixes_held head xs)
  suffixes_held head (Slice (Some a) (Some b) (Some None) ∷ xs) = ((a.1, b.1, tt), suffixes_held head xs)
  suffixes_held head (Slice (Some a) (Some b) (Some (Some c)) ∷ xs) = ((a.1, b.1, c.1), suffixes_held head xs)
  suffixes_held head (Call given ∷ xs) = ((exprs_held given.positional, named_held head given.named), suffixes_held head xs)
  suffixes_held head (Method name given ∷ xs) = ((exprs_held given.positional, named_held head given.named), suffixes_held head xs)

  clauses_held : (item : Held) (xs : List (Clause Held)) → AllByRecursion (EachClause P) (clauses_bare item xs)
  unfolding bare clauses_in clauses_bare
  clauses_held item [] = tt
  clauses_held item (For targets over ∷ xs) = ((exprs_held targets, over.1), clauses_held item xs)
  clauses_held item (If condition ∷ xs) = (condition.1, clauses_held item xs)

  pairs_held : (comma : Bool) (xs : List (Pair Held)) → AllByRecursion (EachPair P) (pairs_in (bare (Expr-F.Dict xs comma)))
  unfolding bare pairs_in
  pairs_held comma [] = tt
  pairs_held comma (x ∷ xs) = ((x.key.1, x.value.1), pairs_held comma xs)

  links_held : (l : ChainLevel) (first : Held) (xs : List (Link Held)) → AllByRecursion (EachLink P) (links_in (bare (Expr-F.Chain l first xs)))
  unfolding bare links_in
  links_held l first [] = tt
  links_held l first (x ∷ xs) = (x.operand.1, links_held l first xs)

  arms_held : (last : Held) (xs : List (Arm Held)) → AllByRecursion (EachArm P) (arms_in (bare (Expr-F.Conditional xs last)))
  unfolding bare arms_in
  arms_held last [] = tt
  arms_held last (x ∷ xs) = ((x.value.1, x.condition.1), arms_held last xs)

  held : (y : Expr-F Held) → Each P (bare y)
  unfolding bare suffixes_in links_in arms_in clauses_in pairs_in clauses_bare
  held (Expr-F.Name _) = tt
  held (Expr-F.Int _) = tt
  held (Expr-F.Text _) = tt
  held Expr-F.None = tt
  held Expr-F.True = tt
  held Expr-F.False = tt
  held (Expr-F.Paren inner) = inner.1
  held (Expr-F.Tuple items comma) = exprs_held items
  held (Expr-F.List items comma) = exprs_held items
  held (Expr-F.ListOver item clauses) = (item.1, clauses_held item clauses)
  held (Expr-F.Dict pairs comma) = pairs_held comma pairs
  held (Expr-F.DictOver key value clauses) = (key.1, value.1, clauses_held key clauses)
  held (Expr-F.Primary head suffixes) = (head.1, suffixes_held head suffixes)
  held (Expr-F.Signed signs operand) = operand.1
  held (Expr-F.Chain l first links) = (first.1, links_held l first links)
  held (Expr-F.Compare left o right) = (left.1, right.1)
  held (Expr-F.Not count operand) = operand.1
  held (Expr-F.Conditional arms last) = (arms_held last arms, last.1)

  -- ---- how it is made

  exprs_made : (xs : List Expr) → AllByRecursion P xs → (ys : List Held) × (map (λ h. h.0) ys ≡ xs)
  exprs_made [] h = ([], refl)
  exprs_made (x ∷ xs) h = let (ys, is) = exprs_made xs h.1 in ((x, h.0) ∷ ys, ap (λ l. x ∷ l) is)

  named_made : (head : Held) (xs : List (Named Expr)) → AllByRecursion (λ named. P named.value) xs → (ns : List (Named Held)) × (named_bare head ns ≡ xs)
  unfolding bare suffixes_in named_in named_bare
  named_made head [] h = ([], refl)
  named_made head (x ∷ xs) h =
      let (ns, is) = named_made head xs h.1 in
      (record { name = x.name; value = (x.value, h.0) } ∷ ns, ap (λ l. x ∷ l) is)

  arguments_made : (head : Held) (given : Arguments Expr) → EachArgument P given
      → (g : Arguments Held) × (record { positional = map (λ h. h.0) g.positional; named = named_bare head g.named; comma = g.comma } ≡ given)
  arguments_made head given h =
      let (zs, are) = exprs_made given.positional h.0 in
      let (ns, is) = named_made head given.named h.1 in (
        record { positional = zs; named = ns; comma = given.comma },
        ap (λ l. let r : Arguments Expr = record { positional = l; named = named_bare head ns; comma = given.comma } in r) are
            ∙ ap (λ l. let r : Arguments Expr = record { positional = given.positional; named = l; comma = given.comma } in r) is,
      )

  suffixes_made : (head : Held) (xs : List (Suffix Expr)) → AllByRecursion (EachSuffix P) xs
      → (ys : List (Suffix Held)) × (bare (Expr-F.Primary head ys) ≡ Expr-F.Primary head.0 xs)
  unfolding bare suffixes_in named_in named_bare
  suffixes_made head [] h = ([], refl)
  suffixes_made head (Index at ∷ xs) h =
      let (ys, is) = suffixes_made head xs h.1 in
      (Index (at, h.0) ∷ ys, ap (λ d. Expr-F.Primary head.0 (Index at ∷ suffixes_in d)) is)
  suffixes_made head (Slice None None None ∷ xs) h =
      let (ys, is) = suffixes_made head xs h.1 in
      (Slice None None None ∷ ys, ap (λ d. Expr-F.Primary head.0 (Slice None None None ∷ suffixes_in d)) is)
  suffixes_made head (Slice None None (Some None) ∷ xs) h =
      let (ys, is) = suffixes_made head xs h.1 in
      (Slice None None (Some None) ∷ ys, ap (λ d. Expr-F.Primary head.0 (Slice None None (Some None) ∷ suffixes_in d)) is)
  suffixes_made head (Slice None None (Some (Some c)) ∷ xs) h =
      let (ys, is) = suffixes_made head xs h.1 in
      (Slice None None (Some (Some (c, h.0.2))) ∷ ys, ap (λ d. Expr-F.Primary head.0 (Slice None None (Some (Some c)) ∷ suffixes_in d)) is)
  suffixes_made head (Slice None (Some b) None ∷ xs) h =
      let (ys, is) = suffixes_made head xs h.1 in
      (Slice None (Some (b, h.0.1)) None ∷ ys, ap (λ d. Expr-F.Primary head.0 (Slice None (Some b) None ∷ suffixes_in d)) is)
  suffixes_made head (Slice None (Some b) (Some None) ∷ xs) h =
      let (ys, is) = suffixes_made head xs h.1 in
      (Slice None (Some (b, h.0.1)) (Some None) ∷ ys, ap (λ d. Expr-F.Primary head.0 (Slice None (Some b) (Some None) ∷ suffixes_in d)) is)
  suffixes_made head (Slice None (Some b) (Some (Some c)) ∷ xs) h =
      let (ys, is) = suffixes_made head xs h.1 in
      (Slice None (Some (b, h.0.1)) (Some (Some (c, h.0.2))) ∷ ys, ap (λ d. Expr-F.Primary head.0 (Slice None (Some b) (Some (Some c)) ∷ suffixes_in d)) is)
  suffixes_made head (Slice (Some a) None None ∷ xs) h =
      let (ys, is) = suffixes_made head xs h.1 in
      (Slice (Some (a, h.0.0)) None None ∷ ys, ap (λ d. Expr-F.Primary head.0 (Slice (Some a) None None ∷ suffixes_in d)) is)
  suffixes_made head (Slice (Some a) None (Some None) ∷ xs) h =
      let (ys, is) = suffixes_made head xs h.1 in
      (Slice (Some (a, h.0.0)) None (Some None) ∷ ys, ap (λ d. Expr-F.Primary head.0 (Slice (Some a) None (Some None) ∷ suffixes_in d)) is)
  suffixes_made head (Slice (Some a) None (Some (Some c)) ∷ xs) h =
      let (ys, is) = suffixes_made head xs h.1 in
      (Slice (Some (a, h.0.0)) None (Some (Some (c, h.0.2))) ∷ ys, ap (λ d. Expr-F.Primary head.0 (Slice (Some a) None (Some (Some c)) ∷ suffixes_in d)) is)
  suffixes_made head (Slice (Some a) (Some b) None ∷ xs) h =
      let (ys, is) = suffixes_made head xs h.1 in
      (Slice (Some (a, h.0.0)) (Some (b, h.0.1)) None ∷ ys, ap (λ d. Expr-F.Primary head.0 (Slice (Some a) (Some b) None ∷ suffixes_in d)) is)
  suffixes_made head (Slice (Some a) (Some b) (Some None) ∷ xs) h =
      let (ys, is) = suffixes_made head xs h.1 in
      (Slice (Some (a, h.0.0)) (Some (b, h.0.1)) (Some None) ∷ ys, ap (λ d. Expr-F.Primary head.0 (Slice (Some a) (Some b) (Some None) ∷ suffixes_in d)) is)
  suffixes_made head (Slice (Some a) (Some b) (Some (Some c)) ∷ xs) h =
      let (ys, is) = suffixes_made head xs h.1 in
      (Slice (Some (a, h.0.0)) (Some (b, h.0.1)) (Some (Some (c, h.0.2))) ∷ ys, ap (λ d. Expr-F.Primary head.0 (Slice (Some a) (Some b) (Some (Some c)) ∷ suffixes_in d)) is)
  suffixes_made head (Call given ∷ xs) h =
      let (ys, is) = suffixes_made head xs h.1 in
      let (g, are) = arguments_made head given h.0 in (
        Call g ∷ ys,
        ap (λ d. Expr-F.Primary head.0 (Call (record { positional = map (λ h. h.0) g.positional; named = named_bare head g.named; comma = g.comma }) ∷ suffixes_in d)) is
            ∙ ap (λ a. Expr-F.Primary head.0 (Call a ∷ xs)) are,
      )
  suffixes_made head (Method name given ∷ xs) h =
      let (ys, is) = suffixes_made head xs h.1 in
      let (g, are) = arguments_made head given h.0 in (
        Method name g ∷ ys,
        ap (λ d. Expr-F.Primary head.0 (Method name (record { positional = map (λ h. h.0) g.positional; named = named_bare head g.named; comma = g.comma }) ∷ suffixes_in d)) is
            ∙ ap (λ a. Expr-F.Primary head.0 (Method name a ∷ xs)) are,
      )

  clauses_made : (item : Held) (xs : List (Clause Expr)) → AllByRecursion (EachClause P) xs → (ys : List (Clause Held)) × (clauses_bare item ys ≡ xs)
  unfolding bare clauses_in clauses_bare
  clauses_made item [] h = ([], refl)
  clauses_made item (For targets over ∷ xs) h =
      let (ys, is) = clauses_made item xs h.1 in
      let (ts, are) = exprs_made targets h.0.0 in
      (For ts (over, h.0.1) ∷ ys, ap (λ l. For (map (λ h. h.0) ts) over ∷ l) is ∙ ap (λ l. For l over ∷ xs) are)
  clauses_made item (If condition ∷ xs) h =
      let (ys, is) = clauses_made item xs h.1 in
      (If (condition, h.0) ∷ ys, ap (λ l. If condition ∷ l) is)

  pairs_made : (comma : Bool) (xs : List (Pair Expr)) → AllByRecursion (EachPair P) xs → (ys : List (Pair Held)) × (bare (Expr-F.Dict ys comma) ≡ Expr-F.Dict xs comma)
  unfolding bare pairs_in
  pairs_made comma [] h = ([], refl)
  pairs_made comma (x ∷ xs) h =
      let (ys, is) = pairs_made comma xs h.1 in
      (record { key = (x.key, h.0.0); value = (x.value, h.0.1) } ∷ ys, ap (λ d. Expr-F.Dict (x ∷ pairs_in d) comma) is)

  links_made : (l : ChainLevel) (first : Held) (xs : List (Link Expr)) → AllByRecursion (EachLink P) xs
      → (ys : List (Link Held)) × (bare (Expr-F.Chain l first ys) ≡ Expr-F.Chain l first.0 xs)
  unfolding bare links_in
  links_made l first [] h = ([], refl)
  links_made l first (x ∷ xs) h =
      let (ys, is) = links_made l first xs h.1 in
      (record { op = x.op; operand = (x.operand, h.0) } ∷ ys, ap (λ d. Expr-F.Chain l first.0 (x ∷ links_in d)) is)

  arms_made : (last : Held) (xs : List (Arm Expr)) → AllByRecursion (EachArm P) xs
      → (ys : List (Arm Held)) × (bare (Expr-F.Conditional ys last) ≡ Expr-F.Conditional xs last.0)
  unfolding bare arms_in
  arms_made last [] h = ([], refl)
  arms_made last (x ∷ xs) h =
      let (ys, is) = arms_made last xs h.1 in
      (record { value = (x.value, h.0.0); condition = (x.condition, h.0.1) } ∷ ys, ap (λ d. Expr-F.Conditional (x ∷ arms_in d) last.0) is)

  made : (d : Expr-F Expr) → Each P d → (y : Expr-F Held) × (bare y ≡ d)
  unfolding bare clauses_bare clauses_in
  made (Expr-F.Name n) h = (Expr-F.Name n, refl)
  made (Expr-F.Int n) h = (Expr-F.Int n, refl)
  made (Expr-F.Text n) h = (Expr-F.Text n, refl)
  made Expr-F.None h = (Expr-F.None, refl)
  made Expr-F.True h = (Expr-F.True, refl)
  made Expr-F.False h = (Expr-F.False, refl)
  made (Expr-F.Paren inner) h = (Expr-F.Paren (inner, h), refl)
  made (Expr-F.Tuple items comma) h = let (ys, is) = exprs_made items h in (Expr-F.Tuple ys comma, ap (λ l. Expr-F.Tuple l comma) is)
  made (Expr-F.List items comma) h = let (ys, is) = exprs_made items h in (Expr-F.List ys comma, ap (λ l. Expr-F.List l comma) is)
  made (Expr-F.ListOver item clauses) h =
      let (ys, is) = clauses_made (item, h.0) clauses h.1 in (Expr-F.ListOver (item, h.0) ys, ap (λ l. Expr-F.ListOver item l) is)
  made (Expr-F.Dict pairs comma) h = let (ys, is) = pairs_made comma pairs h in (Expr-F.Dict ys comma, is)
  made (Expr-F.DictOver key value clauses) h =
      let (ys, is) = clauses_made (key, h.0) clauses h.2 in (Expr-F.DictOver (key, h.0) (value, h.1) ys, ap (λ l. Expr-F.DictOver key value l) is)
  made (Expr-F.Primary head suffixes) h = let (ys, is) = suffixes_made (head, h.0) suffixes h.1 in (Expr-F.Primary (head, h.0) ys, is)
  made (Expr-F.Signed signs operand) h = (Expr-F.Signed signs (operand, h), refl)
  made (Expr-F.Chain l first links) h = let (ys, is) = links_made l (first, h.0) links h.1 in (Expr-F.Chain l (first, h.0) ys, is)
  made (Expr-F.Compare left o right) h = (Expr-F.Compare (left, h.0) o (right, h.1), refl)
  made (Expr-F.Not count operand) h = (Expr-F.Not count (operand, h), refl)
  made (Expr-F.Conditional arms last) h = let (ys, is) = arms_made (last, h.1) arms h.0 in (Expr-F.Conditional ys (last, h.1), is)

-- induction over a tree, where each part of a node has the property
pub induct : (P : Expr → Type 0) → ((d : Expr-F Expr) → Each P d → P (roll-Expr d)) → (x : Expr) → P x
unfolding bare
induct P step = ind-Expr P (λ d y is. subst (λ v. P (roll-Expr v)) is (step (bare P y) (held P y)))

-- a levelled tree's node fits, and its parts are levelled
pub levelled_parts : (x : Expr) → IsLevelled x → Fits (out-Expr x) × Each IsLevelled (out-Expr x)
unfolding IsLevelled bare
levelled_parts x h =
    (every_here-Expr Fits x h, (let (y, is) = every_held-Expr Fits x h in subst (λ d. Each (every-Expr Fits) d) is (held (every-Expr Fits) y)))

-- a node that fits, of levelled parts
pub levelled_made : (d : Expr-F Expr) → Fits d → Each IsLevelled d → IsLevelled (roll-Expr d)
unfolding IsLevelled bare
levelled_made d fits each = let (y, is) = made (every-Expr Fits) d each in every_made-Expr Fits d y is fits

pub rank_made : (d : Expr-F Expr) → rank (roll-Expr d) ≡ layer_rank d
unfolding rank
rank_made d = ap layer_rank (out-roll-Expr d)

pub rank_parts : (x : Expr) → rank x ≡ layer_rank (out-Expr x)
unfolding rank
rank_parts x = refl
