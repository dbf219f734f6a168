-- The meaning of a tree that is of a form, from that of its parts: its lists are slices, and what it holds in a box is lent.
use Rattle.std.proofs.Common.{◌≡◌, ℕ, Bool, List, sym, ap, subst, ◌∙◌}
use Rattle.std.specs.Prelude.{Result}
use Rattle.star_syntax.specs.declared.expression.Arm.{Arm}
use Rattle.star_syntax.specs.declared.expression.ChainLevel.{ChainLevel}
use Rattle.star_syntax.specs.declared.expression.Clause.{Clause}
use Rattle.star_syntax.specs.declared.expression.Expr.{Expr}
use Rattle.star_syntax.specs.declared.expression.Expr.TheVariants as e
use Rattle.star_syntax.specs.declared.expression.Link.{Link}
use Rattle.star_syntax.specs.declared.expression.Pair.{Pair}
use Rattle.star_value.specs.declared.stop.Stop.{Stop}
use Rattle.star_value.specs.declared.value.Value.{Value}
use Rattle.star_meaning.specs.Steps.{Gives, and_then}
use Rattle.star_meaning.specs.Values.{new_dict}
use Rattle.star_meaning.specs.World.{World, acting, operate}
use Rattle.star_run.specs.Fixed.{Fixed, callee, meaning, setting}
use Rattle.star_run.specs.Parts as parts
use Rattle.star_run.proofs.ExpressionCases.{value_chain, value_conditional, value_dict, value_dictover}

module _ (g : Fixed) (depth : ℕ) (tree : Expr) (w v : World ℕ) (r : Result Value Stop) where
  pub dict_at : (all xs : List (Pair Expr)) (comma : Bool) → tree ≡ e.Dict all comma → xs ≡ all
      → Gives {A = Value} (and_then (parts.pairs g depth xs w) (λ done. operate (new_dict done))) r v → Gives {A = Value} ((meaning g depth tree).value w) r v
  dict_at all xs comma is same gave =
      let there : tree ≡ e.Dict xs comma = is ∙ ap (λ ys. e.Dict ys comma) (sym same) in
      subst (λ y. Gives {A = Value} ((meaning g depth y).value w) r v) (sym there)
      (subst (λ o. Gives {A = Value} o r v) (sym (value_dict (setting g) (callee g depth) xs comma w)) gave)

  pub chain_at : (level : ChainLevel) (first x : Expr) (links xs : List (Link Expr)) → tree ≡ e.Chain level first links → x ≡ first → xs ≡ links
      → Gives {A = Value} (and_then ((meaning g depth x).value w) (parts.linked g depth xs)) r v → Gives {A = Value} ((meaning g depth tree).value w) r v
  chain_at level first x links xs is lent same gave =
      let there : tree ≡ e.Chain level x xs = is ∙ ap (λ y. e.Chain level y links) (sym lent) ∙ ap (e.Chain level x) (sym same) in
      subst (λ y. Gives {A = Value} ((meaning g depth y).value w) r v) (sym there)
      (subst (λ o. Gives {A = Value} o r v) (sym (value_chain (setting g) (callee g depth) level x xs w)) gave)

  pub conditional_at : (all xs : List (Arm Expr)) (last x : Expr) → tree ≡ e.Conditional all last → xs ≡ all → x ≡ last
      → Gives {A = Value} (parts.arms g depth xs x w) r v → Gives {A = Value} ((meaning g depth tree).value w) r v
  conditional_at all xs last x is same lent gave =
      let there : tree ≡ e.Conditional xs x = is ∙ ap (λ ys. e.Conditional ys last) (sym same) ∙ ap (e.Conditional xs) (sym lent) in
      subst (λ y. Gives {A = Value} ((meaning g depth y).value w) r v) (sym there)
      (subst (λ o. Gives {A = Value} o r v) (sym (value_conditional (setting g) (callee g depth) xs x w)) gave)

  pub dictover_at : (key x value y : Expr) (all xs : List (Clause Expr)) → tree ≡ e.DictOver key value all → x ≡ key → y ≡ value → xs ≡ all
      → Gives {A = Value} (and_then (parts.paired g depth xs x y w) (λ done. acting (new_dict done))) r v → Gives {A = Value} ((meaning g depth tree).value w) r v
  dictover_at key x value y all xs is lent lent_too same gave =
      let there : tree ≡ e.DictOver x y xs = is ∙ ap (λ z. e.DictOver z value all) (sym lent) ∙ ap (λ z. e.DictOver x z all) (sym lent_too) ∙ ap (e.DictOver x y) (sym same) in
      subst (λ z. Gives {A = Value} ((meaning g depth z).value w) r v) (sym there)
      (subst (λ o. Gives {A = Value} o r v) (sym (value_dictover (setting g) (callee g depth) x y xs w)) gave)
