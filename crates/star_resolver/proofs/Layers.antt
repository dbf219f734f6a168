-- What each form of an expression is to the node above it, and the walk over it.
use Rattle.std.proofs.Common.{◌≡◌, ◌∙◌, ℕ, ℤ, Bool, true, false, List, [], ◌∷◌, ◌++◌, map, Option, Some, None, Ok, Err, refl, ap, sym}
use Rattle.std.specs.Prelude.{if◌then◌else◌}
use Rattle.std.specs.List.{flat_map}
use Rattle.star_syntax.specs.declared.operator.UnaryOp.{UnaryOp}
use Rattle.star_syntax.specs.declared.operator.CompareOp.{CompareOp}
use Rattle.star_syntax.specs.declared.expression.ChainLevel.{ChainLevel}
use Rattle.star_syntax.specs.declared.expression.Link.{Link}
use Rattle.star_syntax.specs.declared.expression.Arm.{Arm}
use Rattle.star_syntax.specs.declared.expression.Named.{Named}
use Rattle.star_syntax.specs.declared.expression.Pair.{Pair}
use Rattle.star_syntax.specs.declared.expression.Suffix.{Suffix}
use Rattle.star_syntax.specs.declared.expression.Suffix.TheVariants.{Index, Slice, Call, Method}
use Rattle.star_syntax.specs.declared.expression.Clause.{Clause}
use Rattle.star_syntax.specs.declared.expression.Clause.TheVariants.{For, If}
use Rattle.star_syntax.specs.declared.expression.Expr.{Expr, roll-Expr, map-Expr, fold-roll-Expr}
use Rattle.star_syntax.specs.declared.expression.Expr.TheOpen.{Expr-F}
use Rattle.star_syntax.specs.declared.expression.Expr.TheVariants as e
use Rattle.star_syntax.specs.Placement as rules
use Rattle.star_syntax.specs.Placement.{Breach, InputNotLiteral, Use, Literal, Other, Seen, is_input, seen, layer_seen, suffix_uses, clause_uses, arguments_uses, optional_uses, step_uses, all_uses, head_uses, expr_findings}
use Rattle.star_resolver.specs.Outcomes.{Names, Work, and_then, each}
use Rattle.star_resolver.specs.Scans.{scan, names_input, literal, name_read, scan_head, scan_optional, scan_step, scan_named, scan_suffix, scan_clause, scan_pair, scan_link, scan_arm}
use Rattle.star_resolver.proofs.Walks.{same_then, each-map, run, run-append, run-three, run-flat_map}

at_layer : (d : Expr-F Expr) → seen (roll-Expr d) ≡ layer_seen (map-Expr Expr Seen seen d)
unfolding seen
at_layer d = fold-roll-Expr Seen layer_seen d

-- ---- whether a tree is the name `input`, and the literal that it is

pub names_input-Name : (name : List ℕ) → names_input (e.Name name) ≡ is_input name
unfolding names_input
names_input-Name name = ap (λ x. (seen x).names_input) (sym (e.rolls-Name name)) ∙ ap (λ s. s.names_input) (at_layer (Expr-F.Name name))

pub literal-Name : (name : List ℕ) → literal (e.Name name) ≡ None
unfolding literal
literal-Name name = ap (λ x. (seen x).literal) (sym (e.rolls-Name name)) ∙ ap (λ s. s.literal) (at_layer (Expr-F.Name name))

pub names_input-Int : (number : ℤ) → names_input (e.Int number) ≡ false
unfolding names_input
names_input-Int number = ap (λ x. (seen x).names_input) (sym (e.rolls-Int number)) ∙ ap (λ s. s.names_input) (at_layer (Expr-F.Int number))

pub literal-Int : (number : ℤ) → literal (e.Int number) ≡ None
unfolding literal
literal-Int number = ap (λ x. (seen x).literal) (sym (e.rolls-Int number)) ∙ ap (λ s. s.literal) (at_layer (Expr-F.Int number))

pub names_input-Text : (text : List ℕ) → names_input (e.Text text) ≡ false
unfolding names_input
names_input-Text text = ap (λ x. (seen x).names_input) (sym (e.rolls-Text text)) ∙ ap (λ s. s.names_input) (at_layer (Expr-F.Text text))

pub literal-Text : (text : List ℕ) → literal (e.Text text) ≡ Some text
unfolding literal
literal-Text text = ap (λ x. (seen x).literal) (sym (e.rolls-Text text)) ∙ ap (λ s. s.literal) (at_layer (Expr-F.Text text))

pub names_input-None : names_input e.None ≡ false
unfolding names_input
names_input-None = ap (λ x. (seen x).names_input) (sym e.rolls-None) ∙ ap (λ s. s.names_input) (at_layer Expr-F.None)

pub literal-None : literal e.None ≡ None
unfolding literal
literal-None = ap (λ x. (seen x).literal) (sym e.rolls-None) ∙ ap (λ s. s.literal) (at_layer Expr-F.None)

pub names_input-True : names_input e.True ≡ false
unfolding names_input
names_input-True = ap (λ x. (seen x).names_input) (sym e.rolls-True) ∙ ap (λ s. s.names_input) (at_layer Expr-F.True)

pub literal-True : literal e.True ≡ None
unfolding literal
literal-True = ap (λ x. (seen x).literal) (sym e.rolls-True) ∙ ap (λ s. s.literal) (at_layer Expr-F.True)

pub names_input-False : names_input e.False ≡ false
unfolding names_input
names_input-False = ap (λ x. (seen x).names_input) (sym e.rolls-False) ∙ ap (λ s. s.names_input) (at_layer Expr-F.False)

pub literal-False : literal e.False ≡ None
unfolding literal
literal-False = ap (λ x. (seen x).literal) (sym e.rolls-False) ∙ ap (λ s. s.literal) (at_layer Expr-F.False)

pub names_input-Paren : (x : Expr) → names_input (e.Paren x) ≡ false
unfolding names_input
names_input-Paren x = ap (λ x. (seen x).names_input) (sym (e.rolls-Paren x)) ∙ ap (λ s. s.names_input) (at_layer (Expr-F.Paren x))

pub literal-Paren : (x : Expr) → literal (e.Paren x) ≡ None
unfolding literal
literal-Paren x = ap (λ x. (seen x).literal) (sym (e.rolls-Paren x)) ∙ ap (λ s. s.literal) (at_layer (Expr-F.Paren x))

pub names_input-Tuple : (xs : List Expr) (comma : Bool) → names_input (e.Tuple xs comma) ≡ false
unfolding names_input
names_input-Tuple xs comma = ap (λ x. (seen x).names_input) (sym (e.rolls-Tuple xs comma)) ∙ ap (λ s. s.names_input) (at_layer (Expr-F.Tuple xs comma))

pub literal-Tuple : (xs : List Expr) (comma : Bool) → literal (e.Tuple xs comma) ≡ None
unfolding literal
literal-Tuple xs comma = ap (λ x. (seen x).literal) (sym (e.rolls-Tuple xs comma)) ∙ ap (λ s. s.literal) (at_layer (Expr-F.Tuple xs comma))

pub names_input-List : (xs : List Expr) (comma : Bool) → names_input (e.List xs comma) ≡ false
unfolding names_input
names_input-List xs comma = ap (λ x. (seen x).names_input) (sym (e.rolls-List xs comma)) ∙ ap (λ s. s.names_input) (at_layer (Expr-F.List xs comma))

pub literal-List : (xs : List Expr) (comma : Bool) → literal (e.List xs comma) ≡ None
unfolding literal
literal-List xs comma = ap (λ x. (seen x).literal) (sym (e.rolls-List xs comma)) ∙ ap (λ s. s.literal) (at_layer (Expr-F.List xs comma))

pub names_input-ListOver : (x : Expr) (clauses : List (Clause Expr)) → names_input (e.ListOver x clauses) ≡ false
unfolding names_input
names_input-ListOver x clauses = ap (λ x. (seen x).names_input) (sym (e.rolls-ListOver x clauses)) ∙ ap (λ s. s.names_input) (at_layer (Expr-F.ListOver x clauses))

pub literal-ListOver : (x : Expr) (clauses : List (Clause Expr)) → literal (e.ListOver x clauses) ≡ None
unfolding literal
literal-ListOver x clauses = ap (λ x. (seen x).literal) (sym (e.rolls-ListOver x clauses)) ∙ ap (λ s. s.literal) (at_layer (Expr-F.ListOver x clauses))

pub names_input-Dict : (pairs : List (Pair Expr)) (comma : Bool) → names_input (e.Dict pairs comma) ≡ false
unfolding names_input
names_input-Dict pairs comma = ap (λ x. (seen x).names_input) (sym (e.rolls-Dict pairs comma)) ∙ ap (λ s. s.names_input) (at_layer (Expr-F.Dict pairs comma))

pub literal-Dict : (pairs : List (Pair Expr)) (comma : Bool) → literal (e.Dict pairs comma) ≡ None
unfolding literal
literal-Dict pairs comma = ap (λ x. (seen x).literal) (sym (e.rolls-Dict pairs comma)) ∙ ap (λ s. s.literal) (at_layer (Expr-F.Dict pairs comma))

pub names_input-DictOver : (key value : Expr) (clauses : List (Clause Expr)) → names_input (e.DictOver key value clauses) ≡ false
unfolding names_input
names_input-DictOver key value clauses = ap (λ x. (seen x).names_input) (sym (e.rolls-DictOver key value clauses)) ∙ ap (λ s. s.names_input) (at_layer (Expr-F.DictOver key value clauses))

pub literal-DictOver : (key value : Expr) (clauses : List (Clause Expr)) → literal (e.DictOver key value clauses) ≡ None
unfolding literal
literal-DictOver key value clauses = ap (λ x. (seen x).literal) (sym (e.rolls-DictOver key value clauses)) ∙ ap (λ s. s.literal) (at_layer (Expr-F.DictOver key value clauses))

pub names_input-Primary : (head : Expr) (suffixes : List (Suffix Expr)) → names_input (e.Primary head suffixes) ≡ false
unfolding names_input
names_input-Primary head suffixes = ap (λ x. (seen x).names_input) (sym (e.rolls-Primary head suffixes)) ∙ ap (λ s. s.names_input) (at_layer (Expr-F.Primary head suffixes))

pub literal-Primary : (head : Expr) (suffixes : List (Suffix Expr)) → literal (e.Primary head suffixes) ≡ None
unfolding literal
literal-Primary head suffixes = ap (λ x. (seen x).literal) (sym (e.rolls-Primary head suffixes)) ∙ ap (λ s. s.literal) (at_layer (Expr-F.Primary head suffixes))

pub names_input-Signed : (ops : List UnaryOp) (x : Expr) → names_input (e.Signed ops x) ≡ false
unfolding names_input
names_input-Signed ops x = ap (λ x. (seen x).names_input) (sym (e.rolls-Signed ops x)) ∙ ap (λ s. s.names_input) (at_layer (Expr-F.Signed ops x))

pub literal-Signed : (ops : List UnaryOp) (x : Expr) → literal (e.Signed ops x) ≡ None
unfolding literal
literal-Signed ops x = ap (λ x. (seen x).literal) (sym (e.rolls-Signed ops x)) ∙ ap (λ s. s.literal) (at_layer (Expr-F.Signed ops x))

pub names_input-Chain : (level : ChainLevel) (first : Expr) (links : List (Link Expr)) → names_input (e.Chain level first links) ≡ false
unfolding names_input
names_input-Chain level first links = ap (λ x. (seen x).names_input) (sym (e.rolls-Chain level first links)) ∙ ap (λ s. s.names_input) (at_layer (Expr-F.Chain level first links))

pub literal-Chain : (level : ChainLevel) (first : Expr) (links : List (Link Expr)) → literal (e.Chain level first links) ≡ None
unfolding literal
literal-Chain level first links = ap (λ x. (seen x).literal) (sym (e.rolls-Chain level first links)) ∙ ap (λ s. s.literal) (at_layer (Expr-F.Chain level first links))

pub names_input-Compare : (x : Expr) (op : CompareOp) (y : Expr) → names_input (e.Compare x op y) ≡ false
unfolding names_input
names_input-Compare x op y = ap (λ x. (seen x).names_input) (sym (e.rolls-Compare x op y)) ∙ ap (λ s. s.names_input) (at_layer (Expr-F.Compare x op y))

pub literal-Compare : (x : Expr) (op : CompareOp) (y : Expr) → literal (e.Compare x op y) ≡ None
unfolding literal
literal-Compare x op y = ap (λ x. (seen x).literal) (sym (e.rolls-Compare x op y)) ∙ ap (λ s. s.literal) (at_layer (Expr-F.Compare x op y))

pub names_input-Not : (count : ℕ) (x : Expr) → names_input (e.Not count x) ≡ false
unfolding names_input
names_input-Not count x = ap (λ x. (seen x).names_input) (sym (e.rolls-Not count x)) ∙ ap (λ s. s.names_input) (at_layer (Expr-F.Not count x))

pub literal-Not : (count : ℕ) (x : Expr) → literal (e.Not count x) ≡ None
unfolding literal
literal-Not count x = ap (λ x. (seen x).literal) (sym (e.rolls-Not count x)) ∙ ap (λ s. s.literal) (at_layer (Expr-F.Not count x))

pub names_input-Conditional : (arms : List (Arm Expr)) (last : Expr) → names_input (e.Conditional arms last) ≡ false
unfolding names_input
names_input-Conditional arms last = ap (λ x. (seen x).names_input) (sym (e.rolls-Conditional arms last)) ∙ ap (λ s. s.names_input) (at_layer (Expr-F.Conditional arms last))

pub literal-Conditional : (arms : List (Arm Expr)) (last : Expr) → literal (e.Conditional arms last) ≡ None
unfolding literal
literal-Conditional arms last = ap (λ x. (seen x).literal) (sym (e.rolls-Conditional arms last)) ∙ ap (λ s. s.literal) (at_layer (Expr-F.Conditional arms last))

pub ruleset looks = (names_input-Name, literal-Name, names_input-Int, literal-Int, names_input-Text, literal-Text, names_input-None, literal-None, names_input-True, literal-True, names_input-False, literal-False, names_input-Paren, literal-Paren, names_input-Tuple, literal-Tuple, names_input-List, literal-List, names_input-ListOver, literal-ListOver, names_input-Dict, literal-Dict, names_input-DictOver, literal-DictOver, names_input-Primary, literal-Primary, names_input-Signed, literal-Signed, names_input-Chain, literal-Chain, names_input-Compare, literal-Compare, names_input-Not, literal-Not, names_input-Conditional, literal-Conditional)

-- ---- what stands in the lists of a node, with what its operands show

suffixes_in : {X : Type 0} → Expr-F X → List (Suffix X)
suffixes_in (Expr-F.Primary head xs) = xs
suffixes_in _ = []

links_in : {X : Type 0} → Expr-F X → List (Link X)
links_in (Expr-F.Chain level first xs) = xs
links_in _ = []

arms_in : {X : Type 0} → Expr-F X → List (Arm X)
arms_in (Expr-F.Conditional xs last) = xs
arms_in _ = []

clauses_in : {X : Type 0} → Expr-F X → List (Clause X)
clauses_in (Expr-F.ListOver item xs) = xs
clauses_in _ = []

pairs_in : {X : Type 0} → Expr-F X → List (Pair X)
pairs_in (Expr-F.Dict xs comma) = xs
pairs_in _ = []

-- the named arguments of the first suffix
named_in : {X : Type 0} → List (Suffix X) → List (Named X)
named_in (Call given ∷ xs) = given.named
named_in (Method name given ∷ xs) = given.named
named_in _ = []

seen_in : Expr-F Expr → Expr-F Seen
seen_in = map-Expr Expr Seen seen

all_again : (line : ℕ) (xs : List Expr) (n : Names) → run line (all_uses (map seen xs)) n ≡ each (scan line) xs n
unfolding scan expr_findings
all_again line xs n = run-flat_map line (λ x. x.uses) (map seen xs) n ∙ each-map (λ x. run line x.uses) seen xs n

named_again : (line : ℕ) (head : Expr) (positional : List Expr) (comma : Bool) (xs : List (Named Expr)) (n : Names) →
    run line (flat_map (λ named. named.value.uses) (named_in (suffixes_in (seen_in (Expr-F.Primary head (Call (record { positional = positional; named = xs; comma = comma }) ∷ [])))))) n
    ≡ each (scan_named line) xs n
unfolding suffixes_in named_in seen_in scan expr_findings
named_again line head positional comma [] n = refl
named_again line head positional comma (x ∷ xs) n = run-append line (seen x.value).uses _ n ∙ same_then _ _ _ _ refl (named_again line head positional comma xs)

arguments_again : (line : ℕ) (head : Expr) (positional : List Expr) (comma : Bool) (xs : List (Named Expr)) (n : Names) →
    run line (all_uses (map seen positional) ++ flat_map (λ named. named.value.uses) (named_in (suffixes_in (seen_in (Expr-F.Primary head (Call (record { positional = positional; named = xs; comma = comma }) ∷ [])))))) n
    ≡ and_then (each (scan line) positional n) (each (scan_named line) xs)
arguments_again line head positional comma xs n =
    run-append line (all_uses (map seen positional)) _ n ∙ same_then _ _ _ _ (all_again line positional n) (named_again line head positional comma xs)

slice_again : (line : ℕ) (a b c : List Use) (n : Names) (f g h : Work) → ((m : Names) → run line a m ≡ f m) → ((m : Names) → run line b m ≡ g m) → ((m : Names) → run line c m ≡ h m)
    → run line (a ++ (b ++ c)) n ≡ and_then (f n) (λ m. and_then (g m) h)
slice_again line a b c n f g h x y z = run-three line a b c n ∙ same_then _ _ _ _ (x n) (λ m. same_then _ _ _ _ (y m) z)

one_again : (line : ℕ) (x : Expr) (n : Names) → run line (seen x).uses n ≡ scan line x n
unfolding scan expr_findings
one_again line x n = refl

-- the first suffix, and then the others
suffixes_step : (line : ℕ) (x : Suffix Expr) (xs : List (Suffix Expr)) (us vs : List Use) (n : Names) → run line us n ≡ scan_suffix line x n
    → ((m : Names) → run line vs m ≡ each (scan_suffix line) xs m) → run line (us ++ vs) n ≡ each (scan_suffix line) (x ∷ xs) n
suffixes_step line x xs us vs n is are = run-append line us vs n ∙ same_then _ _ _ _ is are

suffixes_again : (line : ℕ) (head : Expr) (xs : List (Suffix Expr)) (n : Names) →
    run line (flat_map suffix_uses (suffixes_in (seen_in (Expr-F.Primary head xs)))) n ≡ each (scan_suffix line) xs n
unfolding suffixes_in named_in seen_in
suffixes_again line head [] n = refl
suffixes_again line head (Index at ∷ xs) n = suffixes_step line (Index at) xs (seen at).uses (flat_map suffix_uses (suffixes_in (seen_in (Expr-F.Primary head xs)))) n (one_again line at n) (suffixes_again line head xs)
suffixes_again line head (Slice None None None ∷ xs) n = suffixes_step line (Slice None None None) xs ([] ++ ([] ++ []))
    (flat_map suffix_uses (suffixes_in (seen_in (Expr-F.Primary head xs)))) n
    (slice_again line [] [] [] n (scan_optional line None) (scan_optional line None) (scan_step line None) (λ m. refl) (λ m. refl) (λ m. refl)) (suffixes_again line head xs)
suffixes_again line head (Slice None None (Some None) ∷ xs) n = suffixes_step line (Slice None None (Some None)) xs ([] ++ ([] ++ []))
    (flat_map suffix_uses (suffixes_in (seen_in (Expr-F.Primary head xs)))) n
    (slice_again line [] [] [] n (scan_optional line None) (scan_optional line None) (scan_step line (Some None)) (λ m. refl) (λ m. refl) (λ m. refl)) (suffixes_again line head xs)
suffixes_again line head (Slice None None (Some (Some c)) ∷ xs) n = suffixes_step line (Slice None None (Some (Some c))) xs ([] ++ ([] ++ (seen c).uses))
    (flat_map suffix_uses (suffixes_in (seen_in (Expr-F.Primary head xs)))) n
    (slice_again line [] [] (seen c).uses n (scan_optional line None) (scan_optional line None) (scan_step line (Some (Some c))) (λ m. refl) (λ m. refl) (one_again line c)) (suffixes_again line head xs)
suffixes_again line head (Slice None (Some b) None ∷ xs) n = suffixes_step line (Slice None (Some b) None) xs ([] ++ ((seen b).uses ++ []))
    (flat_map suffix_uses (suffixes_in (seen_in (Expr-F.Primary head xs)))) n
    (slice_again line [] (seen b).uses [] n (scan_optional line None) (scan_optional line (Some b)) (scan_step line None) (λ m. refl) (one_again line b) (λ m. refl)) (suffixes_again line head xs)
suffixes_again line head (Slice None (Some b) (Some None) ∷ xs) n = suffixes_step line (Slice None (Some b) (Some None)) xs ([] ++ ((seen b).uses ++ []))
    (flat_map suffix_uses (suffixes_in (seen_in (Expr-F.Primary head xs)))) n
    (slice_again line [] (seen b).uses [] n (scan_optional line None) (scan_optional line (Some b)) (scan_step line (Some None)) (λ m. refl) (one_again line b) (λ m. refl)) (suffixes_again line head xs)
suffixes_again line head (Slice None (Some b) (Some (Some c)) ∷ xs) n = suffixes_step line (Slice None (Some b) (Some (Some c))) xs ([] ++ ((seen b).uses ++ (seen c).uses))
    (flat_map suffix_uses (suffixes_in (seen_in (Expr-F.Primary head xs)))) n
    (slice_again line [] (seen b).uses (seen c).uses n (scan_optional line None) (scan_optional line (Some b)) (scan_step line (Some (Some c))) (λ m. refl) (one_again line b) (one_again line c)) (suffixes_again line head xs)
suffixes_again line head (Slice (Some a) None None ∷ xs) n = suffixes_step line (Slice (Some a) None None) xs ((seen a).uses ++ ([] ++ []))
    (flat_map suffix_uses (suffixes_in (seen_in (Expr-F.Primary head xs)))) n
    (slice_again line (seen a).uses [] [] n (scan_optional line (Some a)) (scan_optional line None) (scan_step line None) (one_again line a) (λ m. refl) (λ m. refl)) (suffixes_again line head xs)
suffixes_again line head (Slice (Some a) None (Some None) ∷ xs) n = suffixes_step line (Slice (Some a) None (Some None)) xs ((seen a).uses ++ ([] ++ []))
    (flat_map suffix_uses (suffixes_in (seen_in (Expr-F.Primary head xs)))) n
    (slice_again line (seen a).uses [] [] n (scan_optional line (Some a)) (scan_optional line None) (scan_step line (Some None)) (one_again line a) (λ m. refl) (λ m. refl)) (suffixes_again line head xs)
suffixes_again line head (Slice (Some a) None (Some (Some c)) ∷ xs) n = suffixes_step line (Slice (Some a) None (Some (Some c))) xs ((seen a).uses ++ ([] ++ (seen c).uses))
    (flat_map suffix_uses (suffixes_in (seen_in (Expr-F.Primary head xs)))) n
    (slice_again line (seen a).uses [] (seen c).uses n (scan_optional line (Some a)) (scan_optional line None) (scan_step line (Some (Some c))) (one_again line a) (λ m. refl) (one_again line c)) (suffixes_again line head xs)
suffixes_again line head (Slice (Some a) (Some b) None ∷ xs) n = suffixes_step line (Slice (Some a) (Some b) None) xs ((seen a).uses ++ ((seen b).uses ++ []))
    (flat_map suffix_uses (suffixes_in (seen_in (Expr-F.Primary head xs)))) n
    (slice_again line (seen a).uses (seen b).uses [] n (scan_optional line (Some a)) (scan_optional line (Some b)) (scan_step line None) (one_again line a) (one_again line b) (λ m. refl)) (suffixes_again line head xs)
suffixes_again line head (Slice (Some a) (Some b) (Some None) ∷ xs) n = suffixes_step line (Slice (Some a) (Some b) (Some None)) xs ((seen a).uses ++ ((seen b).uses ++ []))
    (flat_map suffix_uses (suffixes_in (seen_in (Expr-F.Primary head xs)))) n
    (slice_again line (seen a).uses (seen b).uses [] n (scan_optional line (Some a)) (scan_optional line (Some b)) (scan_step line (Some None)) (one_again line a) (one_again line b) (λ m. refl)) (suffixes_again line head xs)
suffixes_again line head (Slice (Some a) (Some b) (Some (Some c)) ∷ xs) n = suffixes_step line (Slice (Some a) (Some b) (Some (Some c))) xs ((seen a).uses ++ ((seen b).uses ++ (seen c).uses))
    (flat_map suffix_uses (suffixes_in (seen_in (Expr-F.Primary head xs)))) n
    (slice_again line (seen a).uses (seen b).uses (seen c).uses n (scan_optional line (Some a)) (scan_optional line (Some b)) (scan_step line (Some (Some c))) (one_again line a) (one_again line b) (one_again line c)) (suffixes_again line head xs)
suffixes_again line head (Call given ∷ xs) n = suffixes_step line (Call given) xs
    (all_uses (map seen given.positional) ++ flat_map (λ named. named.value.uses) (named_in (suffixes_in (seen_in (Expr-F.Primary head (Call given ∷ []))))))
    (flat_map suffix_uses (suffixes_in (seen_in (Expr-F.Primary head xs)))) n
    (arguments_again line head given.positional given.comma given.named n) (suffixes_again line head xs)
suffixes_again line head (Method name given ∷ xs) n = suffixes_step line (Method name given) xs
    (all_uses (map seen given.positional) ++ flat_map (λ named. named.value.uses) (named_in (suffixes_in (seen_in (Expr-F.Primary head (Call given ∷ []))))))
    (flat_map suffix_uses (suffixes_in (seen_in (Expr-F.Primary head xs)))) n
    (arguments_again line head given.positional given.comma given.named n) (suffixes_again line head xs)

clauses_again : (line : ℕ) (item : Expr) (xs : List (Clause Expr)) (n : Names) →
    run line (flat_map clause_uses (clauses_in (seen_in (Expr-F.ListOver item xs)))) n ≡ each (scan_clause line) xs n
unfolding clauses_in seen_in
clauses_again line item [] n = refl
clauses_again line item (For targets over ∷ xs) n =
    run-append line (all_uses (map seen targets) ++ (seen over).uses) _ n
    ∙ same_then _ _ _ _ (run-append line (all_uses (map seen targets)) (seen over).uses n ∙ same_then _ _ _ _ (all_again line targets n) (one_again line over)) (clauses_again line item xs)
clauses_again line item (If condition ∷ xs) n = run-append line (seen condition).uses _ n ∙ same_then _ _ _ _ (one_again line condition n) (clauses_again line item xs)

pairs_again : (line : ℕ) (comma : Bool) (xs : List (Pair Expr)) (n : Names) →
    run line (flat_map (λ pair. pair.key.uses ++ pair.value.uses) (pairs_in (seen_in (Expr-F.Dict xs comma)))) n ≡ each (scan_pair line) xs n
unfolding pairs_in seen_in
pairs_again line comma [] n = refl
pairs_again line comma (x ∷ xs) n =
    run-append line ((seen x.key).uses ++ (seen x.value).uses) _ n
    ∙ same_then _ _ _ _ (run-append line (seen x.key).uses (seen x.value).uses n ∙ same_then _ _ _ _ (one_again line x.key n) (one_again line x.value)) (pairs_again line comma xs)

links_again : (line : ℕ) (level : ChainLevel) (first : Expr) (xs : List (Link Expr)) (n : Names) →
    run line (flat_map (λ link. link.operand.uses) (links_in (seen_in (Expr-F.Chain level first xs)))) n ≡ each (scan_link line) xs n
unfolding links_in seen_in
links_again line level first [] n = refl
links_again line level first (x ∷ xs) n = run-append line (seen x.operand).uses _ n ∙ same_then _ _ _ _ (one_again line x.operand n) (links_again line level first xs)

arms_again : (line : ℕ) (last : Expr) (xs : List (Arm Expr)) (n : Names) →
    run line (flat_map (λ arm. arm.value.uses ++ arm.condition.uses) (arms_in (seen_in (Expr-F.Conditional xs last)))) n ≡ each (scan_arm line) xs n
unfolding arms_in seen_in
arms_again line last [] n = refl
arms_again line last (x ∷ xs) n =
    run-append line ((seen x.value).uses ++ (seen x.condition).uses) _ n
    ∙ same_then _ _ _ _ (run-append line (seen x.value).uses (seen x.condition).uses n ∙ same_then _ _ _ _ (one_again line x.value n) (one_again line x.condition)) (arms_again line last xs)

-- ---- `input(TEXT)`

lone_again : (head : Expr) (positional : List Expr) (named : List (Named Expr)) (comma : Bool) →
    rules.first_literal (λ x. x.literal) (suffixes_in (seen_in (Expr-F.Primary head (Call (record { positional = positional; named = named; comma = comma }) ∷ []))))
    ≡ rules.lone_literal literal positional named comma
unfolding suffixes_in seen_in literal
lone_again head [] named comma = refl
lone_again head (x ∷ []) [] true = refl
lone_again head (x ∷ []) [] false = refl
lone_again head (x ∷ []) (y ∷ ys) comma = refl
lone_again head (x ∷ z ∷ zs) named comma = refl

first_again : (head : Expr) (xs : List (Suffix Expr)) → rules.first_literal (λ x. x.literal) (suffixes_in (seen_in (Expr-F.Primary head xs))) ≡ rules.first_literal literal xs
unfolding suffixes_in seen_in
first_again head [] = refl
first_again head (Index at ∷ xs) = refl
first_again head (Slice a b c ∷ xs) = refl
first_again head (Call given ∷ xs) = lone_again head given.positional given.named given.comma
first_again head (Method name given ∷ xs) = refl

head_again : (line : ℕ) (head : Expr) (o : Option (List ℕ)) (n : Names) →
    run line (head_uses (seen head) o) n ≡ scan_head line head (if names_input head then o else None) n
unfolding names_input scan expr_findings
head_again line head None n = by (seen head).names_input
  where
    by : (b : Bool) → scan line head n ≡ scan_head line head (if b then None else None) n
    by true = refl
    by false = refl
head_again line head (Some text) n = by (seen head).names_input
  where
    by : (b : Bool) → run line (if b then Literal text ∷ [] else (seen head).uses) n ≡ scan_head line head (if b then Some text else None) n
    by true = refl
    by false = refl

-- ---- the walk over each form

from_layer : (line : ℕ) (d : Expr-F Expr) (n : Names) → scan line (roll-Expr d) n ≡ run line (layer_seen (seen_in d)).uses n
unfolding scan expr_findings seen_in
from_layer line d n = ap (λ s. run line s.uses n) (at_layer d)

name_again : (line : ℕ) (name : List ℕ) (n : Names) → run line (rules.name_uses name) n ≡ (if is_input name then Err (InputNotLiteral, line) else Ok n)
name_again line name n = by (is_input name)
  where
    by : (b : Bool) → run line (if b then Other ∷ [] else []) n ≡ (if b then Err (InputNotLiteral, line) else Ok n)
    by true = refl
    by false = refl

pub scan-Name : (line : ℕ) (name : List ℕ) (n : Names) → scan line (e.Name name) n ≡ (if is_input name then Err (InputNotLiteral, line) else Ok n)
unfolding seen_in
scan-Name line name n = ap (λ tree. scan line tree n) (sym (e.rolls-Name name)) ∙ from_layer line (Expr-F.Name name) n
    ∙ name_again line name n

pub scan-Int : (line : ℕ) (number : ℤ) (n : Names) → scan line (e.Int number) n ≡ (Ok n)
unfolding seen_in
scan-Int line number n = ap (λ tree. scan line tree n) (sym (e.rolls-Int number)) ∙ from_layer line (Expr-F.Int number) n

pub scan-Text : (line : ℕ) (text : List ℕ) (n : Names) → scan line (e.Text text) n ≡ (Ok n)
unfolding seen_in
scan-Text line text n = ap (λ tree. scan line tree n) (sym (e.rolls-Text text)) ∙ from_layer line (Expr-F.Text text) n

pub scan-None : (line : ℕ) (n : Names) → scan line e.None n ≡ (Ok n)
unfolding seen_in
scan-None line n = ap (λ tree. scan line tree n) (sym e.rolls-None) ∙ from_layer line Expr-F.None n

pub scan-True : (line : ℕ) (n : Names) → scan line e.True n ≡ (Ok n)
unfolding seen_in
scan-True line n = ap (λ tree. scan line tree n) (sym e.rolls-True) ∙ from_layer line Expr-F.True n

pub scan-False : (line : ℕ) (n : Names) → scan line e.False n ≡ (Ok n)
unfolding seen_in
scan-False line n = ap (λ tree. scan line tree n) (sym e.rolls-False) ∙ from_layer line Expr-F.False n

pub scan-Paren : (line : ℕ) (x : Expr) (n : Names) → scan line (e.Paren x) n ≡ (scan line x n)
unfolding seen_in
scan-Paren line x n = ap (λ tree. scan line tree n) (sym (e.rolls-Paren x)) ∙ from_layer line (Expr-F.Paren x) n
    ∙ one_again line x n

pub scan-Tuple : (line : ℕ) (xs : List Expr) (comma : Bool) (n : Names) → scan line (e.Tuple xs comma) n ≡ (each (scan line) xs n)
unfolding seen_in
scan-Tuple line xs comma n = ap (λ tree. scan line tree n) (sym (e.rolls-Tuple xs comma)) ∙ from_layer line (Expr-F.Tuple xs comma) n
    ∙ all_again line xs n

pub scan-List : (line : ℕ) (xs : List Expr) (comma : Bool) (n : Names) → scan line (e.List xs comma) n ≡ (each (scan line) xs n)
unfolding seen_in
scan-List line xs comma n = ap (λ tree. scan line tree n) (sym (e.rolls-List xs comma)) ∙ from_layer line (Expr-F.List xs comma) n
    ∙ all_again line xs n

pub scan-ListOver : (line : ℕ) (x : Expr) (clauses : List (Clause Expr)) (n : Names) → scan line (e.ListOver x clauses) n ≡ (and_then (scan line x n) (each (scan_clause line) clauses))
unfolding clauses_in seen_in
scan-ListOver line x clauses n = ap (λ tree. scan line tree n) (sym (e.rolls-ListOver x clauses)) ∙ from_layer line (Expr-F.ListOver x clauses) n
    ∙ run-append line (seen x).uses _ n ∙ same_then _ _ _ _ (one_again line x n) (clauses_again line x clauses)

pub scan-Dict : (line : ℕ) (pairs : List (Pair Expr)) (comma : Bool) (n : Names) → scan line (e.Dict pairs comma) n ≡ (each (scan_pair line) pairs n)
unfolding pairs_in seen_in
scan-Dict line pairs comma n = ap (λ tree. scan line tree n) (sym (e.rolls-Dict pairs comma)) ∙ from_layer line (Expr-F.Dict pairs comma) n
    ∙ pairs_again line comma pairs n

pub scan-DictOver : (line : ℕ) (key value : Expr) (clauses : List (Clause Expr)) (n : Names) → scan line (e.DictOver key value clauses) n ≡ (and_then (scan line key n) (λ m. and_then (scan line value m) (each (scan_clause line) clauses)))
unfolding clauses_in seen_in
scan-DictOver line key value clauses n = ap (λ tree. scan line tree n) (sym (e.rolls-DictOver key value clauses)) ∙ from_layer line (Expr-F.DictOver key value clauses) n
    ∙ slice_again line (seen key).uses (seen value).uses _ n (scan line key) (scan line value) (each (scan_clause line) clauses) (one_again line key) (one_again line value) (clauses_again line key clauses)

pub scan-Primary : (line : ℕ) (head : Expr) (suffixes : List (Suffix Expr)) (n : Names) → scan line (e.Primary head suffixes) n ≡ (and_then (scan_head line head (name_read head suffixes) n) (each (scan_suffix line) suffixes))
unfolding suffixes_in seen_in
scan-Primary line head suffixes n = ap (λ tree. scan line tree n) (sym (e.rolls-Primary head suffixes)) ∙ from_layer line (Expr-F.Primary head suffixes) n
    ∙ run-append line (head_uses (seen head) (rules.first_literal (λ x. x.literal) (suffixes_in (seen_in (Expr-F.Primary head suffixes))))) _ n
    ∙ same_then _ _ _ _ (ap (λ o. run line (head_uses (seen head) o) n) (first_again head suffixes) ∙ head_again line head (rules.first_literal literal suffixes) n) (suffixes_again line head suffixes)

pub scan-Signed : (line : ℕ) (ops : List UnaryOp) (x : Expr) (n : Names) → scan line (e.Signed ops x) n ≡ (scan line x n)
unfolding seen_in
scan-Signed line ops x n = ap (λ tree. scan line tree n) (sym (e.rolls-Signed ops x)) ∙ from_layer line (Expr-F.Signed ops x) n
    ∙ one_again line x n

pub scan-Chain : (line : ℕ) (level : ChainLevel) (first : Expr) (links : List (Link Expr)) (n : Names) → scan line (e.Chain level first links) n ≡ (and_then (scan line first n) (each (scan_link line) links))
unfolding links_in seen_in
scan-Chain line level first links n = ap (λ tree. scan line tree n) (sym (e.rolls-Chain level first links)) ∙ from_layer line (Expr-F.Chain level first links) n
    ∙ run-append line (seen first).uses _ n ∙ same_then _ _ _ _ (one_again line first n) (links_again line level first links)

pub scan-Compare : (line : ℕ) (x : Expr) (op : CompareOp) (y : Expr) (n : Names) → scan line (e.Compare x op y) n ≡ (and_then (scan line x n) (scan line y))
unfolding seen_in
scan-Compare line x op y n = ap (λ tree. scan line tree n) (sym (e.rolls-Compare x op y)) ∙ from_layer line (Expr-F.Compare x op y) n
    ∙ run-append line (seen x).uses (seen y).uses n ∙ same_then _ _ _ _ (one_again line x n) (one_again line y)

pub scan-Not : (line : ℕ) (count : ℕ) (x : Expr) (n : Names) → scan line (e.Not count x) n ≡ (scan line x n)
unfolding seen_in
scan-Not line count x n = ap (λ tree. scan line tree n) (sym (e.rolls-Not count x)) ∙ from_layer line (Expr-F.Not count x) n
    ∙ one_again line x n

pub scan-Conditional : (line : ℕ) (arms : List (Arm Expr)) (last : Expr) (n : Names) → scan line (e.Conditional arms last) n ≡ (and_then (each (scan_arm line) arms n) (scan line last))
unfolding arms_in seen_in
scan-Conditional line arms last n = ap (λ tree. scan line tree n) (sym (e.rolls-Conditional arms last)) ∙ from_layer line (Expr-F.Conditional arms last) n
    ∙ run-append line (flat_map (λ arm. arm.value.uses ++ arm.condition.uses) (arms_in (seen_in (Expr-F.Conditional arms last)))) (seen last).uses n
    ∙ same_then _ _ _ _ (arms_again line last arms n) (one_again line last)

pub ruleset layers = (scan-Name, scan-Int, scan-Text, scan-None, scan-True, scan-False, scan-Paren, scan-Tuple, scan-List, scan-ListOver, scan-Dict, scan-DictOver, scan-Primary, scan-Signed, scan-Chain, scan-Compare, scan-Not, scan-Conditional)
