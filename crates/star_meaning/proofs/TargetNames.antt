-- The names that a meaning binds as a target are those of its tree.
use Rattle.std.proofs.Common.{◌≡◌, ℕ, List, [], ◌∷◌, ◌++◌, map, refl, sym, ap, subst, ◌∙◌}
use Rattle.std.specs.List.{flat_map}
use Rattle.star_syntax.specs.declared.expression.Clause.{Clause}
use Rattle.star_syntax.specs.declared.expression.Clause.TheVariants as clause
use Rattle.star_syntax.specs.declared.expression.Expr.{Expr, fold-roll-Expr, ind-Expr, map-Expr, roll-Expr}
use Rattle.star_syntax.specs.declared.expression.Expr.TheOpen.{Expr-F}
use Rattle.star_meaning.specs.Laws.{TargetsBindTheirNames}
use Rattle.star_meaning.specs.Expressions.{Callee, Meant, Setting, clause_names, layer_names, meant, step, target_names}
use Rattle.star_meaning.proofs.Equations.{clause_meant}

abbrev Names : Type 0
Names = List (List ℕ)

module _ {C : Type 0} (setting : Setting C) (call : Callee C) where
  -- a tree, with what is shown of it
  abbrev Known : Type 0
  Known = (e : Expr) × ((meant setting call e).names ≡ target_names e)

  abbrev bare : Expr-F Known → Expr-F Expr
  bare = map-Expr Known Expr (λ e. e.0)

  abbrev meant_layer : Expr-F Expr → Names
  meant_layer x = layer_names (map-Expr (Meant C) Names (λ m. m.names) (map-Expr Expr (Meant C) (meant setting call) x))

  abbrev tree_layer : Expr-F Expr → Names
  tree_layer x = layer_names (map-Expr Expr Names target_names x)

  all_names : (es : List Known) → flat_map (λ names. names) (map (λ m. m.names) (map (meant setting call) (map (λ e. e.0) es))) ≡ flat_map (λ names. names) (map target_names (map (λ e. e.0) es))
  all_names [] = refl
  all_names (e ∷ es) =
      ap (λ names. names ++ flat_map (λ n. n) (map (λ m. m.names) (map (meant setting call) (map (λ o. o.0) es)))) e.1
      ∙ ap (λ names. target_names e.0 ++ names) (all_names es)

  layer_is : (y : Expr-F Known) → meant_layer (bare y) ≡ tree_layer (bare y)
  layer_is (Expr-F.Name name) = refl
  layer_is (Expr-F.Paren e) = e.1
  layer_is (Expr-F.Tuple es comma) = all_names es
  layer_is (Expr-F.List es comma) = all_names es
  layer_is _ = refl

  rolled_is : (x : Expr-F Expr) → meant_layer x ≡ tree_layer x → (meant setting call (roll-Expr x)).names ≡ target_names (roll-Expr x)
  unfolding meant target_names
  rolled_is x h = ap (λ m. m.names) (fold-roll-Expr (Meant C) (step setting call) x) ∙ h ∙ sym (fold-roll-Expr Names layer_names x)

  -- the names that a tree's meaning binds
  pub names_are : (e : Expr) → (meant setting call e).names ≡ target_names e
  names_are = ind-Expr (λ e. (meant setting call e).names ≡ target_names e) (λ x y is. subst (λ z. (meant setting call (roll-Expr z)).names ≡ target_names (roll-Expr z)) is (rolled_is _ (layer_is y)))

  pub targets_are : (es : List Expr) → flat_map (λ m. m.names) (map (meant setting call) es) ≡ flat_map target_names es
  targets_are [] = refl
  targets_are (e ∷ es) = ap (λ names. names ++ flat_map (λ m. m.names) (map (meant setting call) es)) (names_are e) ∙ ap (λ names. target_names e ++ names) (targets_are es)

-- the names that a clause of a comprehension binds
abbrev pub bound_by : Clause Expr → Names
bound_by (clause.For targets over) = flat_map target_names targets
bound_by (clause.If condition) = []

module _ {C : Type 0} (setting : Setting C) (call : Callee C) where
  clause_is : (x : Clause Expr) → clause_names (clause_meant setting call x) ≡ bound_by x
  clause_is (clause.For targets over) = targets_are setting call targets
  clause_is (clause.If condition) = refl

  pub clauses_are : (xs : List (Clause Expr)) → flat_map clause_names (map (clause_meant setting call) xs) ≡ flat_map bound_by xs
  clauses_are [] = refl
  clauses_are (x ∷ xs) = ap (λ names. names ++ flat_map clause_names (map (clause_meant setting call) xs)) (clause_is x) ∙ ap (λ names. bound_by x ++ names) (clauses_are xs)

pub shown_names : TargetsBindTheirNames
shown_names = names_are
