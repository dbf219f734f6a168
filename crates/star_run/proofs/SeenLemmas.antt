-- What each form of an expression is to the node above it.
use Rattle.std.proofs.Common.{◌≡◌, ◌∙◌, ℕ, ℤ, Bool, false, List, Some, None, ap, sym}
use Rattle.star_syntax.specs.declared.operator.UnaryOp.{UnaryOp}
use Rattle.star_syntax.specs.declared.operator.CompareOp.{CompareOp}
use Rattle.star_syntax.specs.declared.expression.ChainLevel.{ChainLevel}
use Rattle.star_syntax.specs.declared.expression.Link.{Link}
use Rattle.star_syntax.specs.declared.expression.Arm.{Arm}
use Rattle.star_syntax.specs.declared.expression.Pair.{Pair}
use Rattle.star_syntax.specs.declared.expression.Suffix.{Suffix}
use Rattle.star_syntax.specs.declared.expression.Clause.{Clause}
use Rattle.star_syntax.specs.declared.expression.Expr.{Expr, roll-Expr, map-Expr, fold-roll-Expr}
use Rattle.star_syntax.specs.declared.expression.Expr.TheOpen.{Expr-F}
use Rattle.star_syntax.specs.declared.expression.Expr.TheVariants as e
use Rattle.star_syntax.specs.Placement.{Seen, is_input, seen, layer_seen}
use Rattle.star_run.specs.Reads.{names_input, literal}

at_layer : (d : Expr-F Expr) → seen (roll-Expr d) ≡ layer_seen (map-Expr Expr Seen seen d)
unfolding seen
at_layer d = fold-roll-Expr Seen layer_seen d

-- ---- whether a tree is the name `input`, and the literal that it is

pub names_input-Name : (name : List ℕ) → names_input (e.Name name) ≡ is_input name
unfolding names_input
names_input-Name name = ap (λ x. (seen x).names_input) (sym (e.rolls-Name name)) ∙ ap (λ s. s.names_input) (at_layer (Expr-F.Name name))

pub literal-Name : (name : List ℕ) → literal (e.Name name) ≡ None
unfolding literal
literal-Name name = ap (λ x. (seen x).literal) (sym (e.rolls-Name name)) ∙ ap (λ s. s.literal) (at_layer (Expr-F.Name name))

pub names_input-Int : (number : ℤ) → names_input (e.Int number) ≡ false
unfolding names_input
names_input-Int number = ap (λ x. (seen x).names_input) (sym (e.rolls-Int number)) ∙ ap (λ s. s.names_input) (at_layer (Expr-F.Int number))

pub literal-Int : (number : ℤ) → literal (e.Int number) ≡ None
unfolding literal
literal-Int number = ap (λ x. (seen x).literal) (sym (e.rolls-Int number)) ∙ ap (λ s. s.literal) (at_layer (Expr-F.Int number))

pub names_input-Text : (text : List ℕ) → names_input (e.Text text) ≡ false
unfolding names_input
names_input-Text text = ap (λ x. (seen x).names_input) (sym (e.rolls-Text text)) ∙ ap (λ s. s.names_input) (at_layer (Expr-F.Text text))

pub literal-Text : (text : List ℕ) → literal (e.Text text) ≡ Some text
unfolding literal
literal-Text text = ap (λ x. (seen x).literal) (sym (e.rolls-Text text)) ∙ ap (λ s. s.literal) (at_layer (Expr-F.Text text))

pub names_input-None : names_input e.None ≡ false
unfolding names_input
names_input-None = ap (λ x. (seen x).names_input) (sym e.rolls-None) ∙ ap (λ s. s.names_input) (at_layer Expr-F.None)

pub literal-None : literal e.None ≡ None
unfolding literal
literal-None = ap (λ x. (seen x).literal) (sym e.rolls-None) ∙ ap (λ s. s.literal) (at_layer Expr-F.None)

pub names_input-True : names_input e.True ≡ false
unfolding names_input
names_input-True = ap (λ x. (seen x).names_input) (sym e.rolls-True) ∙ ap (λ s. s.names_input) (at_layer Expr-F.True)

pub literal-True : literal e.True ≡ None
unfolding literal
literal-True = ap (λ x. (seen x).literal) (sym e.rolls-True) ∙ ap (λ s. s.literal) (at_layer Expr-F.True)

pub names_input-False : names_input e.False ≡ false
unfolding names_input
names_input-False = ap (λ x. (seen x).names_input) (sym e.rolls-False) ∙ ap (λ s. s.names_input) (at_layer Expr-F.False)

pub literal-False : literal e.False ≡ None
unfolding literal
literal-False = ap (λ x. (seen x).literal) (sym e.rolls-False) ∙ ap (λ s. s.literal) (at_layer Expr-F.False)

pub names_input-Paren : (x : Expr) → names_input (e.Paren x) ≡ false
unfolding names_input
names_input-Paren x = ap (λ x. (seen x).names_input) (sym (e.rolls-Paren x)) ∙ ap (λ s. s.names_input) (at_layer (Expr-F.Paren x))

pub literal-Paren : (x : Expr) → literal (e.Paren x) ≡ None
unfolding literal
literal-Paren x = ap (λ x. (seen x).literal) (sym (e.rolls-Paren x)) ∙ ap (λ s. s.literal) (at_layer (Expr-F.Paren x))

pub names_input-Tuple : (xs : List Expr) (comma : Bool) → names_input (e.Tuple xs comma) ≡ false
unfolding names_input
names_input-Tuple xs comma = ap (λ x. (seen x).names_input) (sym (e.rolls-Tuple xs comma)) ∙ ap (λ s. s.names_input) (at_layer (Expr-F.Tuple xs comma))

pub literal-Tuple : (xs : List Expr) (comma : Bool) → literal (e.Tuple xs comma) ≡ None
unfolding literal
literal-Tuple xs comma = ap (λ x. (seen x).literal) (sym (e.rolls-Tuple xs comma)) ∙ ap (λ s. s.literal) (at_layer (Expr-F.Tuple xs comma))

pub names_input-List : (xs : List Expr) (comma : Bool) → names_input (e.List xs comma) ≡ false
unfolding names_input
names_input-List xs comma = ap (λ x. (seen x).names_input) (sym (e.rolls-List xs comma)) ∙ ap (λ s. s.names_input) (at_layer (Expr-F.List xs comma))

pub literal-List : (xs : List Expr) (comma : Bool) → literal (e.List xs comma) ≡ None
unfolding literal
literal-List xs comma = ap (λ x. (seen x).literal) (sym (e.rolls-List xs comma)) ∙ ap (λ s. s.literal) (at_layer (Expr-F.List xs comma))

pub names_input-ListOver : (x : Expr) (clauses : List (Clause Expr)) → names_input (e.ListOver x clauses) ≡ false
unfolding names_input
names_input-ListOver x clauses = ap (λ x. (seen x).names_input) (sym (e.rolls-ListOver x clauses)) ∙ ap (λ s. s.names_input) (at_layer (Expr-F.ListOver x clauses))

pub literal-ListOver : (x : Expr) (clauses : List (Clause Expr)) → literal (e.ListOver x clauses) ≡ None
unfolding literal
literal-ListOver x clauses = ap (λ x. (seen x).literal) (sym (e.rolls-ListOver x clauses)) ∙ ap (λ s. s.literal) (at_layer (Expr-F.ListOver x clauses))

pub names_input-Dict : (pairs : List (Pair Expr)) (comma : Bool) → names_input (e.Dict pairs comma) ≡ false
unfolding names_input
names_input-Dict pairs comma = ap (λ x. (seen x).names_input) (sym (e.rolls-Dict pairs comma)) ∙ ap (λ s. s.names_input) (at_layer (Expr-F.Dict pairs comma))

pub literal-Dict : (pairs : List (Pair Expr)) (comma : Bool) → literal (e.Dict pairs comma) ≡ None
unfolding literal
literal-Dict pairs comma = ap (λ x. (seen x).literal) (sym (e.rolls-Dict pairs comma)) ∙ ap (λ s. s.literal) (at_layer (Expr-F.Dict pairs comma))

pub names_input-DictOver : (key value : Expr) (clauses : List (Clause Expr)) → names_input (e.DictOver key value clauses) ≡ false
unfolding names_input
names_input-DictOver key value clauses = ap (λ x. (seen x).names_input) (sym (e.rolls-DictOver key value clauses)) ∙ ap (λ s. s.names_input) (at_layer (Expr-F.DictOver key value clauses))

pub literal-DictOver : (key value : Expr) (clauses : List (Clause Expr)) → literal (e.DictOver key value clauses) ≡ None
unfolding literal
literal-DictOver key value clauses = ap (λ x. (seen x).literal) (sym (e.rolls-DictOver key value clauses)) ∙ ap (λ s. s.literal) (at_layer (Expr-F.DictOver key value clauses))

pub names_input-Primary : (head : Expr) (suffixes : List (Suffix Expr)) → names_input (e.Primary head suffixes) ≡ false
unfolding names_input
names_input-Primary head suffixes = ap (λ x. (seen x).names_input) (sym (e.rolls-Primary head suffixes)) ∙ ap (λ s. s.names_input) (at_layer (Expr-F.Primary head suffixes))

pub literal-Primary : (head : Expr) (suffixes : List (Suffix Expr)) → literal (e.Primary head suffixes) ≡ None
unfolding literal
literal-Primary head suffixes = ap (λ x. (seen x).literal) (sym (e.rolls-Primary head suffixes)) ∙ ap (λ s. s.literal) (at_layer (Expr-F.Primary head suffixes))

pub names_input-Signed : (ops : List UnaryOp) (x : Expr) → names_input (e.Signed ops x) ≡ false
unfolding names_input
names_input-Signed ops x = ap (λ x. (seen x).names_input) (sym (e.rolls-Signed ops x)) ∙ ap (λ s. s.names_input) (at_layer (Expr-F.Signed ops x))

pub literal-Signed : (ops : List UnaryOp) (x : Expr) → literal (e.Signed ops x) ≡ None
unfolding literal
literal-Signed ops x = ap (λ x. (seen x).literal) (sym (e.rolls-Signed ops x)) ∙ ap (λ s. s.literal) (at_layer (Expr-F.Signed ops x))

pub names_input-Chain : (level : ChainLevel) (first : Expr) (links : List (Link Expr)) → names_input (e.Chain level first links) ≡ false
unfolding names_input
names_input-Chain level first links = ap (λ x. (seen x).names_input) (sym (e.rolls-Chain level first links)) ∙ ap (λ s. s.names_input) (at_layer (Expr-F.Chain level first links))

pub literal-Chain : (level : ChainLevel) (first : Expr) (links : List (Link Expr)) → literal (e.Chain level first links) ≡ None
unfolding literal
literal-Chain level first links = ap (λ x. (seen x).literal) (sym (e.rolls-Chain level first links)) ∙ ap (λ s. s.literal) (at_layer (Expr-F.Chain level first links))

pub names_input-Compare : (x : Expr) (op : CompareOp) (y : Expr) → names_input (e.Compare x op y) ≡ false
unfolding names_input
names_input-Compare x op y = ap (λ x. (seen x).names_input) (sym (e.rolls-Compare x op y)) ∙ ap (λ s. s.names_input) (at_layer (Expr-F.Compare x op y))

pub literal-Compare : (x : Expr) (op : CompareOp) (y : Expr) → literal (e.Compare x op y) ≡ None
unfolding literal
literal-Compare x op y = ap (λ x. (seen x).literal) (sym (e.rolls-Compare x op y)) ∙ ap (λ s. s.literal) (at_layer (Expr-F.Compare x op y))

pub names_input-Not : (count : ℕ) (x : Expr) → names_input (e.Not count x) ≡ false
unfolding names_input
names_input-Not count x = ap (λ x. (seen x).names_input) (sym (e.rolls-Not count x)) ∙ ap (λ s. s.names_input) (at_layer (Expr-F.Not count x))

pub literal-Not : (count : ℕ) (x : Expr) → literal (e.Not count x) ≡ None
unfolding literal
literal-Not count x = ap (λ x. (seen x).literal) (sym (e.rolls-Not count x)) ∙ ap (λ s. s.literal) (at_layer (Expr-F.Not count x))

pub names_input-Conditional : (arms : List (Arm Expr)) (last : Expr) → names_input (e.Conditional arms last) ≡ false
unfolding names_input
names_input-Conditional arms last = ap (λ x. (seen x).names_input) (sym (e.rolls-Conditional arms last)) ∙ ap (λ s. s.names_input) (at_layer (Expr-F.Conditional arms last))

pub literal-Conditional : (arms : List (Arm Expr)) (last : Expr) → literal (e.Conditional arms last) ≡ None
unfolding literal
literal-Conditional arms last = ap (λ x. (seen x).literal) (sym (e.rolls-Conditional arms last)) ∙ ap (λ s. s.literal) (at_layer (Expr-F.Conditional arms last))

pub ruleset looks = (names_input-Name, literal-Name, names_input-Int, literal-Int, names_input-Text, literal-Text, names_input-None, literal-None, names_input-True, literal-True, names_input-False, literal-False, names_input-Paren, literal-Paren, names_input-Tuple, literal-Tuple, names_input-List, literal-List, names_input-ListOver, literal-ListOver, names_input-Dict, literal-Dict, names_input-DictOver, literal-DictOver, names_input-Primary, literal-Primary, names_input-Signed, literal-Signed, names_input-Chain, literal-Chain, names_input-Compare, literal-Compare, names_input-Not, literal-Not, names_input-Conditional, literal-Conditional)
