-- What each form of an expression is where a target, a place or a name may stand.
use Rattle.std.proofs.Common.{◌≡◌, ◌∙◌, ℕ, ◌-◌, zero, suc, ℤ, Bool, true, false, List, [], ◌∷◌, map, length, Option, Some, None, refl, ap, sym, arith}
use Rattle.std.specs.Prelude.{slice_get}
use Rattle.star_syntax.specs.declared.operator.UnaryOp.{UnaryOp}
use Rattle.star_syntax.specs.declared.operator.CompareOp.{CompareOp}
use Rattle.star_syntax.specs.declared.expression.ChainLevel.{ChainLevel}
use Rattle.star_syntax.specs.declared.expression.Link.{Link}
use Rattle.star_syntax.specs.declared.expression.Arm.{Arm}
use Rattle.star_syntax.specs.declared.expression.Pair.{Pair}
use Rattle.star_syntax.specs.declared.expression.Clause.{Clause}
use Rattle.star_syntax.specs.declared.expression.Suffix.{Suffix}
use Rattle.star_syntax.specs.declared.expression.Suffix.TheVariants.{Index, Slice, Call, Method}
use Rattle.star_syntax.specs.declared.expression.Expr.{Expr, roll-Expr, map-Expr, fold-roll-Expr, out-roll-Expr}
use Rattle.star_syntax.specs.declared.expression.Expr.TheOpen.{Expr-F}
use Rattle.star_syntax.specs.declared.expression.Expr.TheVariants as e
use Rattle.star_syntax.specs.Levels.{is_target, is_place, layer_is_target, layer_is_place, ends_in_index, both}
use Rattle.star_parser.specs.Readers.{name_of, layer_name}

-- at least one, and each a target
abbrev pub all_targets : List Expr → Bool
all_targets [] = false
all_targets (x ∷ more) = both (map is_target (x ∷ more))

at_layer : (d : Expr-F Expr) → is_target (roll-Expr d) ≡ layer_is_target (map-Expr Expr Bool is_target d)
unfolding is_target
at_layer d = fold-roll-Expr Bool layer_is_target d

suffixes_in : {X : Type 0} → Expr-F X → List (Suffix X)
suffixes_in (Expr-F.Primary head xs) = xs
suffixes_in _ = []

-- an index stays one, whatever its operands become
ends_again : (head : Expr) (xs : List (Suffix Expr)) → ends_in_index (suffixes_in (map-Expr Expr Bool is_target (Expr-F.Primary head xs))) ≡ ends_in_index xs
unfolding suffixes_in
ends_again head [] = refl
ends_again head (Index at ∷ []) = refl
ends_again head (Slice start stop step ∷ []) = refl
ends_again head (Call given ∷ []) = refl
ends_again head (Method name given ∷ []) = refl
ends_again head (Index at ∷ y ∷ more) = ends_again head (y ∷ more)
ends_again head (Slice start stop step ∷ y ∷ more) = ends_again head (y ∷ more)
ends_again head (Call given ∷ y ∷ more) = ends_again head (y ∷ more)
ends_again head (Method name given ∷ y ∷ more) = ends_again head (y ∷ more)

-- ---- targets

pub target-Name : (name : List ℕ) → is_target (e.Name name) ≡ true
target-Name name = ap is_target (sym (e.rolls-Name name)) ∙ at_layer (Expr-F.Name name)

pub target-Int : (number : ℤ) → is_target (e.Int number) ≡ false
target-Int number = ap is_target (sym (e.rolls-Int number)) ∙ at_layer (Expr-F.Int number)

pub target-Text : (text : List ℕ) → is_target (e.Text text) ≡ false
target-Text text = ap is_target (sym (e.rolls-Text text)) ∙ at_layer (Expr-F.Text text)

pub target-None : is_target e.None ≡ false
target-None = ap is_target (sym e.rolls-None) ∙ at_layer Expr-F.None

pub target-True : is_target e.True ≡ false
target-True = ap is_target (sym e.rolls-True) ∙ at_layer Expr-F.True

pub target-False : is_target e.False ≡ false
target-False = ap is_target (sym e.rolls-False) ∙ at_layer Expr-F.False

pub target-Paren : (inner : Expr) → is_target (e.Paren inner) ≡ is_target inner
target-Paren inner = ap is_target (sym (e.rolls-Paren inner)) ∙ at_layer (Expr-F.Paren inner)

pub target-Tuple : (items : List Expr) (comma : Bool) → is_target (e.Tuple items comma) ≡ all_targets items
target-Tuple [] comma = ap is_target (sym (e.rolls-Tuple [] comma)) ∙ at_layer (Expr-F.Tuple [] comma)
target-Tuple (x ∷ more) comma = ap is_target (sym (e.rolls-Tuple (x ∷ more) comma)) ∙ at_layer (Expr-F.Tuple (x ∷ more) comma)

pub target-List : (items : List Expr) (comma : Bool) → is_target (e.List items comma) ≡ all_targets items
target-List [] comma = ap is_target (sym (e.rolls-List [] comma)) ∙ at_layer (Expr-F.List [] comma)
target-List (x ∷ more) comma = ap is_target (sym (e.rolls-List (x ∷ more) comma)) ∙ at_layer (Expr-F.List (x ∷ more) comma)

pub target-ListOver : (item : Expr) (clauses : List (Clause Expr)) → is_target (e.ListOver item clauses) ≡ false
target-ListOver item clauses = ap is_target (sym (e.rolls-ListOver item clauses)) ∙ at_layer (Expr-F.ListOver item clauses)

pub target-Dict : (pairs : List (Pair Expr)) (comma : Bool) → is_target (e.Dict pairs comma) ≡ false
target-Dict pairs comma = ap is_target (sym (e.rolls-Dict pairs comma)) ∙ at_layer (Expr-F.Dict pairs comma)

pub target-DictOver : (key value : Expr) (clauses : List (Clause Expr)) → is_target (e.DictOver key value clauses) ≡ false
target-DictOver key value clauses = ap is_target (sym (e.rolls-DictOver key value clauses)) ∙ at_layer (Expr-F.DictOver key value clauses)

pub target-Primary : (head : Expr) (suffixes : List (Suffix Expr)) → is_target (e.Primary head suffixes) ≡ ends_in_index suffixes
unfolding suffixes_in
target-Primary head suffixes = ap is_target (sym (e.rolls-Primary head suffixes)) ∙ at_layer (Expr-F.Primary head suffixes) ∙ ends_again head suffixes

pub target-Signed : (signs : List UnaryOp) (operand : Expr) → is_target (e.Signed signs operand) ≡ false
target-Signed signs operand = ap is_target (sym (e.rolls-Signed signs operand)) ∙ at_layer (Expr-F.Signed signs operand)

pub target-Chain : (level : ChainLevel) (first : Expr) (links : List (Link Expr)) → is_target (e.Chain level first links) ≡ false
target-Chain level first links = ap is_target (sym (e.rolls-Chain level first links)) ∙ at_layer (Expr-F.Chain level first links)

pub target-Compare : (left : Expr) (o : CompareOp) (right : Expr) → is_target (e.Compare left o right) ≡ false
target-Compare left o right = ap is_target (sym (e.rolls-Compare left o right)) ∙ at_layer (Expr-F.Compare left o right)

pub target-Not : (count : ℕ) (operand : Expr) → is_target (e.Not count operand) ≡ false
target-Not count operand = ap is_target (sym (e.rolls-Not count operand)) ∙ at_layer (Expr-F.Not count operand)

pub target-Conditional : (arms : List (Arm Expr)) (last : Expr) → is_target (e.Conditional arms last) ≡ false
target-Conditional arms last = ap is_target (sym (e.rolls-Conditional arms last)) ∙ at_layer (Expr-F.Conditional arms last)

pub ruleset targets = (target-Name, target-Int, target-Text, target-None, target-True, target-False, target-Paren, target-Tuple, target-List, target-ListOver, target-Dict, target-DictOver, target-Primary, target-Signed, target-Chain, target-Compare, target-Not, target-Conditional)

-- ---- places

pub place-Name : (name : List ℕ) → is_place (e.Name name) ≡ true
unfolding is_place
place-Name name = ap is_place (sym (e.rolls-Name name)) ∙ ap layer_is_place (out-roll-Expr (Expr-F.Name name))

pub place-Int : (number : ℤ) → is_place (e.Int number) ≡ false
unfolding is_place
place-Int number = ap is_place (sym (e.rolls-Int number)) ∙ ap layer_is_place (out-roll-Expr (Expr-F.Int number))

pub place-Text : (text : List ℕ) → is_place (e.Text text) ≡ false
unfolding is_place
place-Text text = ap is_place (sym (e.rolls-Text text)) ∙ ap layer_is_place (out-roll-Expr (Expr-F.Text text))

pub place-None : is_place e.None ≡ false
unfolding is_place
place-None = ap is_place (sym e.rolls-None) ∙ ap layer_is_place (out-roll-Expr Expr-F.None)

pub place-True : is_place e.True ≡ false
unfolding is_place
place-True = ap is_place (sym e.rolls-True) ∙ ap layer_is_place (out-roll-Expr Expr-F.True)

pub place-False : is_place e.False ≡ false
unfolding is_place
place-False = ap is_place (sym e.rolls-False) ∙ ap layer_is_place (out-roll-Expr Expr-F.False)

pub place-Paren : (inner : Expr) → is_place (e.Paren inner) ≡ false
unfolding is_place
place-Paren inner = ap is_place (sym (e.rolls-Paren inner)) ∙ ap layer_is_place (out-roll-Expr (Expr-F.Paren inner))

pub place-Tuple : (items : List Expr) (comma : Bool) → is_place (e.Tuple items comma) ≡ false
unfolding is_place
place-Tuple items comma = ap is_place (sym (e.rolls-Tuple items comma)) ∙ ap layer_is_place (out-roll-Expr (Expr-F.Tuple items comma))

pub place-List : (items : List Expr) (comma : Bool) → is_place (e.List items comma) ≡ false
unfolding is_place
place-List items comma = ap is_place (sym (e.rolls-List items comma)) ∙ ap layer_is_place (out-roll-Expr (Expr-F.List items comma))

pub place-ListOver : (item : Expr) (clauses : List (Clause Expr)) → is_place (e.ListOver item clauses) ≡ false
unfolding is_place
place-ListOver item clauses = ap is_place (sym (e.rolls-ListOver item clauses)) ∙ ap layer_is_place (out-roll-Expr (Expr-F.ListOver item clauses))

pub place-Dict : (pairs : List (Pair Expr)) (comma : Bool) → is_place (e.Dict pairs comma) ≡ false
unfolding is_place
place-Dict pairs comma = ap is_place (sym (e.rolls-Dict pairs comma)) ∙ ap layer_is_place (out-roll-Expr (Expr-F.Dict pairs comma))

pub place-DictOver : (key value : Expr) (clauses : List (Clause Expr)) → is_place (e.DictOver key value clauses) ≡ false
unfolding is_place
place-DictOver key value clauses = ap is_place (sym (e.rolls-DictOver key value clauses)) ∙ ap layer_is_place (out-roll-Expr (Expr-F.DictOver key value clauses))

pub place-Primary : (head : Expr) (suffixes : List (Suffix Expr)) → is_place (e.Primary head suffixes) ≡ ends_in_index suffixes
unfolding is_place
place-Primary head suffixes = ap is_place (sym (e.rolls-Primary head suffixes)) ∙ ap layer_is_place (out-roll-Expr (Expr-F.Primary head suffixes))

pub place-Signed : (signs : List UnaryOp) (operand : Expr) → is_place (e.Signed signs operand) ≡ false
unfolding is_place
place-Signed signs operand = ap is_place (sym (e.rolls-Signed signs operand)) ∙ ap layer_is_place (out-roll-Expr (Expr-F.Signed signs operand))

pub place-Chain : (level : ChainLevel) (first : Expr) (links : List (Link Expr)) → is_place (e.Chain level first links) ≡ false
unfolding is_place
place-Chain level first links = ap is_place (sym (e.rolls-Chain level first links)) ∙ ap layer_is_place (out-roll-Expr (Expr-F.Chain level first links))

pub place-Compare : (left : Expr) (o : CompareOp) (right : Expr) → is_place (e.Compare left o right) ≡ false
unfolding is_place
place-Compare left o right = ap is_place (sym (e.rolls-Compare left o right)) ∙ ap layer_is_place (out-roll-Expr (Expr-F.Compare left o right))

pub place-Not : (count : ℕ) (operand : Expr) → is_place (e.Not count operand) ≡ false
unfolding is_place
place-Not count operand = ap is_place (sym (e.rolls-Not count operand)) ∙ ap layer_is_place (out-roll-Expr (Expr-F.Not count operand))

pub place-Conditional : (arms : List (Arm Expr)) (last : Expr) → is_place (e.Conditional arms last) ≡ false
unfolding is_place
place-Conditional arms last = ap is_place (sym (e.rolls-Conditional arms last)) ∙ ap layer_is_place (out-roll-Expr (Expr-F.Conditional arms last))

pub ruleset places = (place-Name, place-Int, place-Text, place-None, place-True, place-False, place-Paren, place-Tuple, place-List, place-ListOver, place-Dict, place-DictOver, place-Primary, place-Signed, place-Chain, place-Compare, place-Not, place-Conditional)

-- ---- names

pub name-Name : (name : List ℕ) → name_of (e.Name name) ≡ Some name
unfolding name_of
name-Name name = ap name_of (sym (e.rolls-Name name)) ∙ ap layer_name (out-roll-Expr (Expr-F.Name name))

pub name-Int : (number : ℤ) → name_of (e.Int number) ≡ None
unfolding name_of
name-Int number = ap name_of (sym (e.rolls-Int number)) ∙ ap layer_name (out-roll-Expr (Expr-F.Int number))

pub name-Text : (text : List ℕ) → name_of (e.Text text) ≡ None
unfolding name_of
name-Text text = ap name_of (sym (e.rolls-Text text)) ∙ ap layer_name (out-roll-Expr (Expr-F.Text text))

pub name-None : name_of e.None ≡ None
unfolding name_of
name-None = ap name_of (sym e.rolls-None) ∙ ap layer_name (out-roll-Expr Expr-F.None)

pub name-True : name_of e.True ≡ None
unfolding name_of
name-True = ap name_of (sym e.rolls-True) ∙ ap layer_name (out-roll-Expr Expr-F.True)

pub name-False : name_of e.False ≡ None
unfolding name_of
name-False = ap name_of (sym e.rolls-False) ∙ ap layer_name (out-roll-Expr Expr-F.False)

pub name-Paren : (inner : Expr) → name_of (e.Paren inner) ≡ None
unfolding name_of
name-Paren inner = ap name_of (sym (e.rolls-Paren inner)) ∙ ap layer_name (out-roll-Expr (Expr-F.Paren inner))

pub name-Tuple : (items : List Expr) (comma : Bool) → name_of (e.Tuple items comma) ≡ None
unfolding name_of
name-Tuple items comma = ap name_of (sym (e.rolls-Tuple items comma)) ∙ ap layer_name (out-roll-Expr (Expr-F.Tuple items comma))

pub name-List : (items : List Expr) (comma : Bool) → name_of (e.List items comma) ≡ None
unfolding name_of
name-List items comma = ap name_of (sym (e.rolls-List items comma)) ∙ ap layer_name (out-roll-Expr (Expr-F.List items comma))

pub name-ListOver : (item : Expr) (clauses : List (Clause Expr)) → name_of (e.ListOver item clauses) ≡ None
unfolding name_of
name-ListOver item clauses = ap name_of (sym (e.rolls-ListOver item clauses)) ∙ ap layer_name (out-roll-Expr (Expr-F.ListOver item clauses))

pub name-Dict : (pairs : List (Pair Expr)) (comma : Bool) → name_of (e.Dict pairs comma) ≡ None
unfolding name_of
name-Dict pairs comma = ap name_of (sym (e.rolls-Dict pairs comma)) ∙ ap layer_name (out-roll-Expr (Expr-F.Dict pairs comma))

pub name-DictOver : (key value : Expr) (clauses : List (Clause Expr)) → name_of (e.DictOver key value clauses) ≡ None
unfolding name_of
name-DictOver key value clauses = ap name_of (sym (e.rolls-DictOver key value clauses)) ∙ ap layer_name (out-roll-Expr (Expr-F.DictOver key value clauses))

pub name-Primary : (head : Expr) (suffixes : List (Suffix Expr)) → name_of (e.Primary head suffixes) ≡ None
unfolding name_of
name-Primary head suffixes = ap name_of (sym (e.rolls-Primary head suffixes)) ∙ ap layer_name (out-roll-Expr (Expr-F.Primary head suffixes))

pub name-Signed : (signs : List UnaryOp) (operand : Expr) → name_of (e.Signed signs operand) ≡ None
unfolding name_of
name-Signed signs operand = ap name_of (sym (e.rolls-Signed signs operand)) ∙ ap layer_name (out-roll-Expr (Expr-F.Signed signs operand))

pub name-Chain : (level : ChainLevel) (first : Expr) (links : List (Link Expr)) → name_of (e.Chain level first links) ≡ None
unfolding name_of
name-Chain level first links = ap name_of (sym (e.rolls-Chain level first links)) ∙ ap layer_name (out-roll-Expr (Expr-F.Chain level first links))

pub name-Compare : (left : Expr) (o : CompareOp) (right : Expr) → name_of (e.Compare left o right) ≡ None
unfolding name_of
name-Compare left o right = ap name_of (sym (e.rolls-Compare left o right)) ∙ ap layer_name (out-roll-Expr (Expr-F.Compare left o right))

pub name-Not : (count : ℕ) (operand : Expr) → name_of (e.Not count operand) ≡ None
unfolding name_of
name-Not count operand = ap name_of (sym (e.rolls-Not count operand)) ∙ ap layer_name (out-roll-Expr (Expr-F.Not count operand))

pub name-Conditional : (arms : List (Arm Expr)) (last : Expr) → name_of (e.Conditional arms last) ≡ None
unfolding name_of
name-Conditional arms last = ap name_of (sym (e.rolls-Conditional arms last)) ∙ ap layer_name (out-roll-Expr (Expr-F.Conditional arms last))

pub ruleset names = (name-Name, name-Int, name-Text, name-None, name-True, name-False, name-Paren, name-Tuple, name-List, name-ListOver, name-Dict, name-DictOver, name-Primary, name-Signed, name-Chain, name-Compare, name-Not, name-Conditional)

-- ---- the last suffix

abbrev pub is_index : Option (Suffix Expr) → Bool
is_index (Some (Index at)) = true
is_index _ = false

ends_at : (xs : List (Suffix Expr)) (n : ℕ) → length xs ≡ suc n → ends_in_index xs ≡ is_index (slice_get xs n)
ends_at [] n none = absurd (omega arith)
ends_at (Index at ∷ []) zero one = refl
ends_at (Slice start stop step ∷ []) zero one = refl
ends_at (Call given ∷ []) zero one = refl
ends_at (Method name given ∷ []) zero one = refl
ends_at (x ∷ []) (suc n) one = absurd (omega arith)
ends_at (x ∷ y ∷ more) zero two = absurd (omega arith)
ends_at (Index at ∷ y ∷ more) (suc n) two = ends_at (y ∷ more) n (omega arith)
ends_at (Slice start stop step ∷ y ∷ more) (suc n) two = ends_at (y ∷ more) n (omega arith)
ends_at (Call given ∷ y ∷ more) (suc n) two = ends_at (y ∷ more) n (omega arith)
ends_at (Method name given ∷ y ∷ more) (suc n) two = ends_at (y ∷ more) n (omega arith)

pub ends_last : (xs : List (Suffix Expr)) → ends_in_index xs ≡ is_index (slice_get xs (length xs - 1))
ends_last [] = refl
ends_last (x ∷ more) = ends_at (x ∷ more) (length (x ∷ more) - 1) (omega arith)
