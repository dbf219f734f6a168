-- The spelling of each kind of expression.
use Rattle.std.proofs.Common.{append_assoc, ◌-◌, get_or, drop, ◌≤◌, ◌≡◌, ◌∙◌, ℕ, Bool, List, [], ◌∷◌, ◌++◌, map, replicate, Option, Some, None, refl, sym, ap, arith, rules, length, take}
use Rattle.std.specs.List.{flat_map}
use Rattle.std.proofs.lemmas.List.{length-map}
use Rattle.star_syntax.specs.declared.token.Token.{Token}
use Rattle.star_syntax.specs.declared.token.Token.TheVariants as t
use Rattle.star_syntax.specs.declared.token.Keyword.TheVariants as w
use Rattle.star_syntax.specs.declared.token.Mark.TheVariants as m
use Rattle.star_syntax.specs.declared.operator.CompareOp.{CompareOp}
use Rattle.star_syntax.specs.declared.operator.UnaryOp.{UnaryOp}
use Rattle.star_syntax.specs.declared.expression.ChainLevel.{ChainLevel}
use Rattle.star_syntax.specs.declared.expression.Link.{Link}
use Rattle.star_syntax.specs.declared.expression.Arm.{Arm}
use Rattle.star_syntax.specs.declared.expression.Named.{Named}
use Rattle.star_syntax.specs.declared.expression.Pair.{Pair}
use Rattle.star_syntax.specs.declared.expression.Arguments.{Arguments}
use Rattle.star_syntax.specs.declared.expression.Suffix.{Suffix}
use Rattle.star_syntax.specs.declared.expression.Suffix.TheVariants.{Index, Slice, Call, Method}
use Rattle.star_syntax.specs.declared.expression.Clause.{Clause}
use Rattle.star_syntax.specs.declared.expression.Clause.TheVariants.{For, If}
use Rattle.star_syntax.specs.declared.expression.Expr.{Expr, roll-Expr, map-Expr, fold-roll-Expr}
use Rattle.star_syntax.specs.declared.expression.Expr.TheOpen.{Expr-F}
use Rattle.star_syntax.specs.declared.expression.Expr.TheVariants as e
use Rattle.star_syntax.specs.Spelling.{Tokens, expr_spelling, layer_spelling, tests_spelling, suffix_spelling, clause_spelling, pair_spelling, named_spelling, link_spelling, arm_spelling, default_spelling, listed, compare_tokens, if_written}
use Rattle.star_syntax.specs.SpellingOfParts.{expr_suffix_spelling, expr_clause_spelling, expr_pair_spelling, expr_link_spelling, expr_arm_spelling, expr_arguments_spelling, listed_arguments, listed_after, parts_spelling}
use Rattle.star_syntax.proofs.ListLemmas.{listed_parts}

-- ---- one layer, over the spellings of whole parts

at_layer : (d : Expr-F Expr) → expr_spelling (roll-Expr d) ≡ layer_spelling (map-Expr Expr Tokens expr_spelling d)
unfolding expr_spelling
at_layer d = fold-roll-Expr Tokens layer_spelling d

suffixes_in : {X : Type 0} → Expr-F X → List (Suffix X)
suffixes_in (Expr-F.Primary head xs) = xs
suffixes_in _ = []

links_in : {X : Type 0} → Expr-F X → List (Link X)
links_in (Expr-F.Chain level first xs) = xs
links_in _ = []

arms_in : {X : Type 0} → Expr-F X → List (Arm X)
arms_in (Expr-F.Conditional xs last) = xs
arms_in _ = []

clauses_in : {X : Type 0} → Expr-F X → List (Clause X)
clauses_in (Expr-F.ListOver item xs) = xs
clauses_in _ = []

pairs_in : {X : Type 0} → Expr-F X → List (Pair X)
pairs_in (Expr-F.Dict xs comma) = xs
pairs_in _ = []

-- right and left grouping of `(open ∷ a) ++ b ++ c`
three : (x : Token) (a b c : Tokens) → x ∷ a ++ b ++ c ≡ x ∷ (a ++ (b ++ c))
three x a b c = ap (λ l. x ∷ l) (append_assoc a b c)

-- the named arguments of the first suffix
named_in : {X : Type 0} → List (Suffix X) → List (Named X)
named_in (Call given ∷ xs) = given.named
named_in (Method name given ∷ xs) = given.named
named_in _ = []

named_again : (head : Expr) (positional : List Expr) (comma : Bool) (xs : List (Named Expr)) →
    map named_spelling (named_in (suffixes_in (map-Expr Expr Tokens expr_spelling (Expr-F.Primary head (Call (record { positional = positional; named = xs; comma = comma }) ∷ [])))))
    ≡ map default_spelling xs
unfolding suffixes_in named_in
named_again head positional comma [] = refl
named_again head positional comma (x ∷ xs) = ap (λ r. default_spelling x ∷ r) (named_again head positional comma xs)

arguments_again : (ns ms : List Tokens) (positional : List Tokens) (comma : Bool) → ns ≡ ms →
    (t.Mark m.OpenRound ∷ listed (positional ++ ns) ++ if_written comma m.Comma ++ t.Mark m.CloseRound ∷ [])
    ≡ t.Mark m.OpenRound ∷ (listed (positional ++ ms) ++ (if_written comma m.Comma ++ t.Mark m.CloseRound ∷ []))
arguments_again ns ms positional comma same =
    three (t.Mark m.OpenRound) (listed (positional ++ ns)) (if_written comma m.Comma) (t.Mark m.CloseRound ∷ [])
    ∙ ap (λ l. t.Mark m.OpenRound ∷ (listed (positional ++ l) ++ (if_written comma m.Comma ++ t.Mark m.CloseRound ∷ []))) same

-- two phrases that are equal, one after the other
joined : (x y xs ys : Tokens) → x ≡ y → xs ≡ ys → x ++ xs ≡ y ++ ys
joined x y xs ys is are = ap (λ l. l ++ xs) is ∙ ap (λ l. y ++ l) are

-- right and left grouping of a slice
slice_again : (a b c : Tokens) →
    (t.Mark m.OpenSquare ∷ a ++ t.Mark m.Colon ∷ b ++ c ++ t.Mark m.CloseSquare ∷ [])
    ≡ t.Mark m.OpenSquare ∷ (a ++ t.Mark m.Colon ∷ (b ++ (c ++ t.Mark m.CloseSquare ∷ [])))
slice_again a b c = simp append_assoc

-- the spellings of the suffixes one after another
suffixes_again : (head : Expr) (xs : List (Suffix Expr)) →
    flat_map suffix_spelling (suffixes_in (map-Expr Expr Tokens expr_spelling (Expr-F.Primary head xs))) ≡ flat_map expr_suffix_spelling xs
unfolding suffixes_in named_in
suffixes_again head [] = refl
suffixes_again head (Index at ∷ xs) = ap (λ r. expr_suffix_spelling (Index at) ++ r) (suffixes_again head xs)
suffixes_again head (Slice None None None ∷ xs) = joined _ _ _ _ (slice_again [] [] []) (suffixes_again head xs)
suffixes_again head (Slice None None (Some None) ∷ xs) = joined _ _ _ _ (slice_again [] [] (t.Mark m.Colon ∷ [])) (suffixes_again head xs)
suffixes_again head (Slice None None (Some (Some c)) ∷ xs) = joined _ _ _ _ (slice_again [] [] (t.Mark m.Colon ∷ expr_spelling c)) (suffixes_again head xs)
suffixes_again head (Slice None (Some b) None ∷ xs) = joined _ _ _ _ (slice_again [] (expr_spelling b) []) (suffixes_again head xs)
suffixes_again head (Slice None (Some b) (Some None) ∷ xs) = joined _ _ _ _ (slice_again [] (expr_spelling b) (t.Mark m.Colon ∷ [])) (suffixes_again head xs)
suffixes_again head (Slice None (Some b) (Some (Some c)) ∷ xs) = joined _ _ _ _ (slice_again [] (expr_spelling b) (t.Mark m.Colon ∷ expr_spelling c)) (suffixes_again head xs)
suffixes_again head (Slice (Some a) None None ∷ xs) = joined _ _ _ _ (slice_again (expr_spelling a) [] []) (suffixes_again head xs)
suffixes_again head (Slice (Some a) None (Some None) ∷ xs) = joined _ _ _ _ (slice_again (expr_spelling a) [] (t.Mark m.Colon ∷ [])) (suffixes_again head xs)
suffixes_again head (Slice (Some a) None (Some (Some c)) ∷ xs) = joined _ _ _ _ (slice_again (expr_spelling a) [] (t.Mark m.Colon ∷ expr_spelling c)) (suffixes_again head xs)
suffixes_again head (Slice (Some a) (Some b) None ∷ xs) = joined _ _ _ _ (slice_again (expr_spelling a) (expr_spelling b) []) (suffixes_again head xs)
suffixes_again head (Slice (Some a) (Some b) (Some None) ∷ xs) = joined _ _ _ _ (slice_again (expr_spelling a) (expr_spelling b) (t.Mark m.Colon ∷ [])) (suffixes_again head xs)
suffixes_again head (Slice (Some a) (Some b) (Some (Some c)) ∷ xs) = joined _ _ _ _ (slice_again (expr_spelling a) (expr_spelling b) (t.Mark m.Colon ∷ expr_spelling c)) (suffixes_again head xs)
suffixes_again head (Call given ∷ xs) =
    joined _ _ _ _ (arguments_again _ _ (map expr_spelling given.positional) given.comma (named_again head given.positional given.comma given.named)) (suffixes_again head xs)
suffixes_again head (Method name given ∷ xs) =
    ap (λ l. t.Mark m.Dot ∷ t.Name name ∷ l)
    (joined _ _ _ _ (arguments_again _ _ (map expr_spelling given.positional) given.comma (named_again head given.positional given.comma given.named)) (suffixes_again head xs))

clauses_again : (item : Expr) (xs : List (Clause Expr)) →
    flat_map clause_spelling (clauses_in (map-Expr Expr Tokens expr_spelling (Expr-F.ListOver item xs))) ≡ flat_map expr_clause_spelling xs
unfolding clauses_in
clauses_again item [] = refl
clauses_again item (For targets over ∷ xs) = ap (λ r. expr_clause_spelling (For targets over) ++ r) (clauses_again item xs)
clauses_again item (If condition ∷ xs) = ap (λ r. expr_clause_spelling (If condition) ++ r) (clauses_again item xs)

pairs_again : (comma : Bool) (xs : List (Pair Expr)) →
    map pair_spelling (pairs_in (map-Expr Expr Tokens expr_spelling (Expr-F.Dict xs comma))) ≡ map expr_pair_spelling xs
unfolding pairs_in
pairs_again comma [] = refl
pairs_again comma (x ∷ xs) = ap (λ r. expr_pair_spelling x ∷ r) (pairs_again comma xs)

links_again : (level : ChainLevel) (first : Expr) (xs : List (Link Expr)) →
    flat_map link_spelling (links_in (map-Expr Expr Tokens expr_spelling (Expr-F.Chain level first xs))) ≡ flat_map expr_link_spelling xs
unfolding links_in
links_again level first [] = refl
links_again level first (x ∷ xs) = ap (λ r. expr_link_spelling x ++ r) (links_again level first xs)

arms_again : (last : Expr) (xs : List (Arm Expr)) →
    flat_map arm_spelling (arms_in (map-Expr Expr Tokens expr_spelling (Expr-F.Conditional xs last))) ≡ flat_map expr_arm_spelling xs
unfolding arms_in
arms_again last [] = refl
arms_again last (x ∷ xs) =
    joined _ _ _ _ (append_assoc (expr_spelling x.value) (t.Word w.If ∷ expr_spelling x.condition) (t.Word w.Else ∷ [])) (arms_again last xs)

-- ---- the node

-- what a node spells, over its parts
pub spells_parts : (d : Expr-F Expr) → expr_spelling (roll-Expr d) ≡ parts_spelling d
unfolding suffixes_in links_in arms_in clauses_in pairs_in
spells_parts (Expr-F.Name name) = at_layer (Expr-F.Name name)
spells_parts (Expr-F.Int number) = at_layer (Expr-F.Int number)
spells_parts (Expr-F.Text text) = at_layer (Expr-F.Text text)
spells_parts Expr-F.None = at_layer Expr-F.None
spells_parts Expr-F.True = at_layer Expr-F.True
spells_parts Expr-F.False = at_layer Expr-F.False
spells_parts (Expr-F.Paren inner) = at_layer (Expr-F.Paren inner)
spells_parts (Expr-F.Tuple items comma) =
    at_layer (Expr-F.Tuple items comma) ∙ three (t.Mark m.OpenRound) (tests_spelling items) (if_written comma m.Comma) (t.Mark m.CloseRound ∷ [])
spells_parts (Expr-F.List items comma) =
    at_layer (Expr-F.List items comma) ∙ three (t.Mark m.OpenSquare) (tests_spelling items) (if_written comma m.Comma) (t.Mark m.CloseSquare ∷ [])
spells_parts (Expr-F.ListOver item clauses) =
    at_layer (Expr-F.ListOver item clauses)
    ∙ ap (λ l. t.Mark m.OpenSquare ∷ expr_spelling item ++ l ++ t.Mark m.CloseSquare ∷ []) (clauses_again item clauses)
    ∙ three (t.Mark m.OpenSquare) (expr_spelling item) (flat_map expr_clause_spelling clauses) (t.Mark m.CloseSquare ∷ [])
spells_parts (Expr-F.Dict pairs comma) =
    at_layer (Expr-F.Dict pairs comma)
    ∙ ap (λ l. t.Mark m.OpenCurly ∷ listed l ++ if_written comma m.Comma ++ t.Mark m.CloseCurly ∷ []) (pairs_again comma pairs)
    ∙ three (t.Mark m.OpenCurly) (listed (map expr_pair_spelling pairs)) (if_written comma m.Comma) (t.Mark m.CloseCurly ∷ [])
spells_parts (Expr-F.DictOver key value clauses) =
    at_layer (Expr-F.DictOver key value clauses)
    ∙ ap (λ l. t.Mark m.OpenCurly ∷ expr_spelling key ++ t.Mark m.Colon ∷ expr_spelling value ++ l ++ t.Mark m.CloseCurly ∷ []) (clauses_again key clauses)
    ∙ regroup (expr_spelling key) (expr_spelling value) (flat_map expr_clause_spelling clauses)
  where
    regroup : (a b c : Tokens) → (t.Mark m.OpenCurly ∷ a ++ t.Mark m.Colon ∷ b ++ c ++ t.Mark m.CloseCurly ∷ [])
        ≡ t.Mark m.OpenCurly ∷ (a ++ t.Mark m.Colon ∷ (b ++ (c ++ t.Mark m.CloseCurly ∷ [])))
    regroup a b c = simp append_assoc
spells_parts (Expr-F.Primary head suffixes) = at_layer (Expr-F.Primary head suffixes) ∙ ap (λ r. expr_spelling head ++ r) (suffixes_again head suffixes)
spells_parts (Expr-F.Signed signs operand) = at_layer (Expr-F.Signed signs operand)
spells_parts (Expr-F.Chain level first links) = at_layer (Expr-F.Chain level first links) ∙ ap (λ r. expr_spelling first ++ r) (links_again level first links)
spells_parts (Expr-F.Compare left o right) = at_layer (Expr-F.Compare left o right) ∙ append_assoc (expr_spelling left) (compare_tokens o) (expr_spelling right)
spells_parts (Expr-F.Not count operand) = at_layer (Expr-F.Not count operand)
spells_parts (Expr-F.Conditional arms last) = at_layer (Expr-F.Conditional arms last) ∙ ap (λ r. r ++ expr_spelling last) (arms_again last arms)

-- ---- each variant, as code makes it

pub spells-Name : (name : List ℕ) → expr_spelling (e.Name name) ≡ parts_spelling (Expr-F.Name name)
spells-Name name = ap expr_spelling (sym (e.rolls-Name name)) ∙ spells_parts (Expr-F.Name name)

pub spells-Int : (number : _) → expr_spelling (e.Int number) ≡ parts_spelling (Expr-F.Int number)
spells-Int number = ap expr_spelling (sym (e.rolls-Int number)) ∙ spells_parts (Expr-F.Int number)

pub spells-Text : (text : List ℕ) → expr_spelling (e.Text text) ≡ parts_spelling (Expr-F.Text text)
spells-Text text = ap expr_spelling (sym (e.rolls-Text text)) ∙ spells_parts (Expr-F.Text text)

pub spells-None : expr_spelling e.None ≡ parts_spelling Expr-F.None
spells-None = ap expr_spelling (sym e.rolls-None) ∙ spells_parts Expr-F.None

pub spells-True : expr_spelling e.True ≡ parts_spelling Expr-F.True
spells-True = ap expr_spelling (sym e.rolls-True) ∙ spells_parts Expr-F.True

pub spells-False : expr_spelling e.False ≡ parts_spelling Expr-F.False
spells-False = ap expr_spelling (sym e.rolls-False) ∙ spells_parts Expr-F.False

pub spells-Paren : (inner : Expr) → expr_spelling (e.Paren inner) ≡ parts_spelling (Expr-F.Paren inner)
spells-Paren inner = ap expr_spelling (sym (e.rolls-Paren inner)) ∙ spells_parts (Expr-F.Paren inner)

pub spells-Tuple : (items : List Expr) (comma : Bool) → expr_spelling (e.Tuple items comma) ≡ parts_spelling (Expr-F.Tuple items comma)
spells-Tuple items comma = ap expr_spelling (sym (e.rolls-Tuple items comma)) ∙ spells_parts (Expr-F.Tuple items comma)

pub spells-List : (items : List Expr) (comma : Bool) → expr_spelling (e.List items comma) ≡ parts_spelling (Expr-F.List items comma)
spells-List items comma = ap expr_spelling (sym (e.rolls-List items comma)) ∙ spells_parts (Expr-F.List items comma)

pub spells-ListOver : (item : Expr) (clauses : List (Clause Expr)) → expr_spelling (e.ListOver item clauses) ≡ parts_spelling (Expr-F.ListOver item clauses)
spells-ListOver item clauses = ap expr_spelling (sym (e.rolls-ListOver item clauses)) ∙ spells_parts (Expr-F.ListOver item clauses)

pub spells-Dict : (pairs : List (Pair Expr)) (comma : Bool) → expr_spelling (e.Dict pairs comma) ≡ parts_spelling (Expr-F.Dict pairs comma)
spells-Dict pairs comma = ap expr_spelling (sym (e.rolls-Dict pairs comma)) ∙ spells_parts (Expr-F.Dict pairs comma)

pub spells-DictOver : (key value : Expr) (clauses : List (Clause Expr)) → expr_spelling (e.DictOver key value clauses) ≡ parts_spelling (Expr-F.DictOver key value clauses)
spells-DictOver key value clauses = ap expr_spelling (sym (e.rolls-DictOver key value clauses)) ∙ spells_parts (Expr-F.DictOver key value clauses)

pub spells-Primary : (head : Expr) (suffixes : List (Suffix Expr)) → expr_spelling (e.Primary head suffixes) ≡ parts_spelling (Expr-F.Primary head suffixes)
spells-Primary head suffixes = ap expr_spelling (sym (e.rolls-Primary head suffixes)) ∙ spells_parts (Expr-F.Primary head suffixes)

pub spells-Signed : (signs : List UnaryOp) (operand : Expr) → expr_spelling (e.Signed signs operand) ≡ parts_spelling (Expr-F.Signed signs operand)
spells-Signed signs operand = ap expr_spelling (sym (e.rolls-Signed signs operand)) ∙ spells_parts (Expr-F.Signed signs operand)

pub spells-Chain : (level : ChainLevel) (first : Expr) (links : List (Link Expr)) → expr_spelling (e.Chain level first links) ≡ parts_spelling (Expr-F.Chain level first links)
spells-Chain level first links = ap expr_spelling (sym (e.rolls-Chain level first links)) ∙ spells_parts (Expr-F.Chain level first links)

pub spells-Compare : (left : Expr) (o : CompareOp) (right : Expr) → expr_spelling (e.Compare left o right) ≡ parts_spelling (Expr-F.Compare left o right)
spells-Compare left o right = ap expr_spelling (sym (e.rolls-Compare left o right)) ∙ spells_parts (Expr-F.Compare left o right)

pub spells-Not : (count : ℕ) (operand : Expr) → expr_spelling (e.Not count operand) ≡ parts_spelling (Expr-F.Not count operand)
spells-Not count operand = ap expr_spelling (sym (e.rolls-Not count operand)) ∙ spells_parts (Expr-F.Not count operand)

pub spells-Conditional : (arms : List (Arm Expr)) (last : Expr) → expr_spelling (e.Conditional arms last) ≡ parts_spelling (Expr-F.Conditional arms last)
spells-Conditional arms last = ap expr_spelling (sym (e.rolls-Conditional arms last)) ∙ spells_parts (Expr-F.Conditional arms last)

-- arguments, and then those that are named
pub arguments_parts : (given : Arguments Expr) → expr_arguments_spelling given
    ≡ t.Mark m.OpenRound ∷ (tests_spelling given.positional
    ++ (listed_after (length given.positional) (map default_spelling given.named) ++ (if_written given.comma m.Comma ++ t.Mark m.CloseRound ∷ [])))
arguments_parts given =
    let parts : listed_arguments given.positional given.named ≡ tests_spelling given.positional ++ listed_after (length given.positional) (map default_spelling given.named) =
    listed_parts (map expr_spelling given.positional) (map default_spelling given.named)
    ∙ ap (λ n. tests_spelling given.positional ++ listed_after n (map default_spelling given.named)) (length-map given.positional expr_spelling) in
    ap (λ l. t.Mark m.OpenRound ∷ (l ++ (if_written given.comma m.Comma ++ t.Mark m.CloseRound ∷ []))) parts
    ∙ ap (λ l. t.Mark m.OpenRound ∷ l) (append_assoc (tests_spelling given.positional) (listed_after (length given.positional) (map default_spelling given.named))
    (if_written given.comma m.Comma ++ t.Mark m.CloseRound ∷ []))

pub ruleset spelling_laws = (spells-Name, spells-Int, spells-Text, spells-None, spells-True, spells-False, spells-Paren, spells-Tuple, spells-List, spells-ListOver, spells-Dict, spells-DictOver, spells-Primary, spells-Signed, spells-Chain, spells-Compare, spells-Not, spells-Conditional, append_assoc)
