-- The names that blocks have, one after the other.
use Rattle.std.proofs.Common.{◌≡◌, ℕ, ◌+◌, Bool, true, false, cond, List, [], ◌∷◌, ◌++◌, map, Option, Some, None, refl, sym, ap, ◌∙◌, append_assoc, append-nil, add-one, get_or, length, take, take-suc, ◌<◌}
use Rattle.std.specs.Prelude.{if◌then◌else◌, ◌||◌, not, bytes_eq, option_map, OnOk, Result, Ok, Err}
use Rattle.std.proofs.lemmas.Slice.Eq.{bytes_eq-Decides}
use Rattle.std.specs.List.{filter, flat_map, list_any}
use Rattle.star_syntax.specs.declared.expression.Clause.{Clause}
use Rattle.star_syntax.specs.declared.expression.Expr.{Expr}
use Rattle.star_syntax.specs.declared.expression.Expr.TheVariants as e
use Rattle.star_syntax.specs.declared.statement.Block.{Block as Body}
use Rattle.star_syntax.specs.declared.statement.Block.TheVariants as blocks
use Rattle.star_syntax.specs.declared.statement.Branch.{Branch}
use Rattle.star_syntax.specs.declared.statement.Definition.{Definition}
use Rattle.star_syntax.specs.declared.statement.Line.{Line}
use Rattle.star_syntax.specs.declared.statement.Statement.{Statement, map-Statement}
use Rattle.star_syntax.specs.declared.statement.Statement.TheOpen.{Statement-F}
use Rattle.star_syntax.specs.declared.statement.Statement.TheVariants as s
use Rattle.star_meaning.specs.World.{distinct, distinct_after, is_among}
use Rattle.star_meaning.specs.Expressions.{target_names}
use Rattle.star_meaning.specs.Statements.{block_names, body_names, branch_names, else_names, layer_names, small_names, statement_names}
use Rattle.star_meaning.proofs.Equations.{names_name, names_int, names_text, names_none, names_true, names_false, names_paren, names_tuple, names_list, names_listover, names_dict, names_dictover, names_primary, names_signed, names_chain, names_compare, names_not, names_conditional, bound_line, bound_if, bound_for, bound_def}
use Rattle.star_run.specs.Locals.{branch_bound, clause_bound, else_bound, with_name, with_names}

abbrev Names : Type 0
Names = List (List ℕ)

-- ---- names after names

pub with_none : (found : Names) → with_names found [] ≡ found
unfolding with_names
with_none found = refl

pub with_one : (found : Names) (name : List ℕ) → with_names found (name ∷ []) ≡ with_name found name
unfolding with_names
with_one found name = refl

pub with_more : (found a b : Names) → with_names found (a ++ b) ≡ with_names (with_names found a) b
unfolding with_names
with_more found [] b = refl
with_more found (name ∷ a) b = with_more (with_name found name) a b

flat_push : {A : Type 0} (f : A → Names) (xs : List A) (x : A) → flat_map f (xs ++ x ∷ []) ≡ flat_map f xs ++ f x
flat_push f [] x = append-nil (f x)
flat_push f (y ∷ xs) x = ap (λ l. f y ++ l) (flat_push f xs x) ∙ sym (append_assoc (f y) (flat_map f xs) (f x))

-- the names of one more
pub names_step : {A : Type 0} (f : A → List (List ℕ)) (xs : List A) (i : ℕ) (x : A) (start found after : List (List ℕ)) → i < length xs → x ≡ get_or xs i x
    → found ≡ with_names start (flat_map f (take i xs)) → after ≡ with_names found (f x) → after ≡ with_names start (flat_map f (take (i + 1) xs))
names_step f xs i x start found after within at before now =
    now ∙ ap (λ l. with_names l (f x)) before ∙ sym (with_more start (flat_map f (take i xs)) (f x)) ∙ ap (with_names start) (sym (flat_push f (take i xs) x))
    ∙ ap (λ y. with_names start (flat_map f (take i xs ++ y ∷ []))) at ∙ ap (λ l. with_names start (flat_map f l)) (sym (take-suc xs i x within))
    ∙ ap (λ n. with_names start (flat_map f (take n xs))) (sym (add-one i))

-- ---- the names of a comprehension's block

or_true : (a : Bool) → (a || true) ≡ true
or_true true = refl
or_true false = refl

or_false : (a : Bool) → (a || false) ≡ a
or_false true = refl
or_false false = refl

or_swapped : (a b c : Bool) → (a || (b || c)) ≡ (b || (a || c))
or_swapped true true c = refl
or_swapped true false c = refl
or_swapped false b c = refl

any_push : {A : Type 0} (p : A → Bool) (xs : List A) (x : A) → list_any p (xs ++ x ∷ []) ≡ (p x || list_any p xs)
any_push p [] x = refl
any_push p (y ∷ xs) x = ap (λ b. p y || b) (any_push p xs x) ∙ or_swapped (p y) (p x) (list_any p xs)

-- one more name, where the rest is known
with_step : (found before : Names) (name : List ℕ) (names : Names) (b c : Bool) → b ≡ c
    → with_names found names ≡ found ++ distinct_after before names
    → with_names (found ++ name ∷ []) names ≡ (found ++ name ∷ []) ++ distinct_after (name ∷ before) names
    → with_names (if b then found else found ++ name ∷ []) names ≡ found ++ (if c then distinct_after before names else name ∷ distinct_after (name ∷ before) names)
with_step found before name names true true is known new = known
with_step found before name names false false is known new = new ∙ append_assoc found (name ∷ []) (distinct_after (name ∷ before) names)
with_step found before name names true false is known new = absurd (cc)
with_step found before name names false true is known new = absurd (cc)

with_names_at : (found before : Names) → ((name : List ℕ) → is_among found name ≡ is_among before name) → (names : Names) → with_names found names ≡ found ++ distinct_after before names
unfolding with_names
with_names_at found before alike [] = sym (append-nil found)
with_names_at found before alike (name ∷ names) =
    with_step found before name names (is_among found name) (is_among before name) (alike name) (with_names_at found before alike names)
    (with_names_at (found ++ name ∷ []) (name ∷ before) (λ other. any_push (λ held. bytes_eq other held) found name ∙ ap (λ b. bytes_eq other name || b) (alike other)) names)

pub names_of_clauses : (names : Names) → with_names [] names ≡ distinct names
unfolding distinct
names_of_clauses names = with_names_at [] [] (λ name. refl) names

-- ---- the names of a call's block

bytes_same : (xs ys : List ℕ) → bytes_eq xs ys ≡ true → xs ≡ ys
bytes_same xs ys h = (bytes_eq-Decides xs ys).0 h

-- a name among others does not matter among those before
known_too : (others before : Names) (name other : List ℕ) → is_among others name ≡ true → (b : Bool) → bytes_eq other name ≡ b
    → (is_among others other || is_among before other) ≡ (is_among others other || (b || is_among before other))
known_too others before name other known false same = refl
known_too others before name other known true same =
    let there : is_among others other ≡ true = ap (is_among others) (bytes_same other name same) ∙ known in
    ap (λ b. b || is_among before other) there ∙ sym (ap (λ b. b || true) there)

step_out : (others before both : Names) (name : List ℕ) (names : Names)
    → ((before both : Names) → ((n : List ℕ) → is_among both n ≡ (is_among others n || is_among before n)) → distinct_after both names ≡ filter (λ n. not (is_among others n)) (distinct_after before names))
    → ((n : List ℕ) → is_among both n ≡ (is_among others n || is_among before n)) → (a b c : Bool) → c ≡ (a || b) → is_among others name ≡ a
    → (if c then distinct_after both names else name ∷ distinct_after (name ∷ both) names) ≡ filter (λ n. not (is_among others n)) (if b then distinct_after before names else name ∷ distinct_after (name ∷ before) names)
step_out others before both name names rest is true true true h known = rest before both is
step_out others before both name names rest is false true true h known = rest before both is
step_out others before both name names rest is true false true h known =
    rest (name ∷ before) both (λ other. is other ∙ known_too others before name other known (bytes_eq other name) refl)
    ∙ sym (ap (λ b. cond (not b) (name ∷ filter (λ n. not (is_among others n)) (distinct_after (name ∷ before) names)) (filter (λ n. not (is_among others n)) (distinct_after (name ∷ before) names))) known)
step_out others before both name names rest is false false false h known =
    ap (λ l. name ∷ l) (rest (name ∷ before) (name ∷ both) (λ other. ap (λ b. bytes_eq other name || b) (is other) ∙ or_swapped (bytes_eq other name) (is_among others other) (is_among before other)))
    ∙ sym (ap (λ b. cond (not b) (name ∷ filter (λ n. not (is_among others n)) (distinct_after (name ∷ before) names)) (filter (λ n. not (is_among others n)) (distinct_after (name ∷ before) names))) known)
step_out others before both name names rest is true true false h known = absurd (cc)
step_out others before both name names rest is false true false h known = absurd (cc)
step_out others before both name names rest is true false false h known = absurd (cc)
step_out others before both name names rest is false false true h known = absurd (cc)

both_out : (names others before both : Names) → ((n : List ℕ) → is_among both n ≡ (is_among others n || is_among before n))
    → distinct_after both names ≡ filter (λ n. not (is_among others n)) (distinct_after before names)
both_out [] others before both is = refl
both_out (name ∷ names) others before both is =
    step_out others before both name names (λ before' both' is'. both_out names others before' both' is') is (is_among others name) (is_among before name) (is_among both name) (is name) refl

-- names after others: the others, and those that do not stand among them
pub with_names_is : (others names : Names) → with_names others names ≡ others ++ filter (λ n. not (is_among others n)) (distinct names)
unfolding distinct
with_names_is others names =
    with_names_at others others (λ name. refl) names ∙ ap (λ l. others ++ l) (both_out names others [] others (λ name. sym (or_false (is_among others name))))

-- ---- targets

flat_ids : {A : Type 0} (f : A → Names) (xs : List A) → flat_map (λ names. names) (map f xs) ≡ flat_map f xs
flat_ids f [] = refl
flat_ids f (x ∷ xs) = ap (λ names. f x ++ names) (flat_ids f xs)

pub target_name : (name : List ℕ) → target_names (e.Name name) ≡ name ∷ []
target_name name = names_name name

pub target_paren : (x : Expr) → target_names (e.Paren x) ≡ target_names x
target_paren x = names_paren x

pub target_tuple : (xs : List Expr) (comma : Bool) → target_names (e.Tuple xs comma) ≡ flat_map target_names xs
target_tuple xs comma = names_tuple xs comma ∙ flat_ids target_names xs

pub target_list : (xs : List Expr) (comma : Bool) → target_names (e.List xs comma) ≡ flat_map target_names xs
target_list xs comma = names_list xs comma ∙ flat_ids target_names xs

-- ---- statements

block_seen : Body Statement → Body Names
block_seen (blocks.Inline line) = blocks.Inline line
block_seen (blocks.Indented all) = blocks.Indented (map statement_names all)

branch_seen : Branch Statement → Branch Names
branch_seen branch = record { condition = branch.condition; body = block_seen branch.body }

block_seen_names : (body : Body Statement) → block_names (block_seen body) ≡ body_names body
unfolding block_seen
block_seen_names (blocks.Inline line) = refl
block_seen_names (blocks.Indented all) = flat_ids statement_names all

first_in_if : Branch Names → Statement-F Names → Branch Names
first_in_if given (Statement-F.If at first more other) = first
first_in_if given _ = given

more_in_if : Statement-F Names → List (Branch Names)
more_in_if (Statement-F.If at first more other) = more
more_in_if _ = []

else_in_if : Statement-F Names → Option (Body Names)
else_in_if (Statement-F.If at first more other) = other
else_in_if _ = None

first_again : (at : ℕ) (x : Expr) (body : Body Statement) (more : List (Branch Statement)) (other : Option (Body Statement)) (given : Branch Names)
    → first_in_if given (map-Statement Statement Names statement_names (Statement-F.If at (record { condition = x; body = body }) more other)) ≡ branch_seen (record { condition = x; body = body })
unfolding first_in_if branch_seen block_seen
first_again at x (blocks.Inline line) more other given = refl
first_again at x (blocks.Indented all) more other given = refl

more_again : (at : ℕ) (first : Branch Statement) (more : List (Branch Statement)) (other : Option (Body Statement))
    → more_in_if (map-Statement Statement Names statement_names (Statement-F.If at first more other)) ≡ map branch_seen more
unfolding more_in_if first_in_if
more_again at first [] other = refl
more_again at first (b ∷ more) other =
    ap (λ x. x ∷ more_in_if (map-Statement Statement Names statement_names (Statement-F.If at first more other))) (first_again at b.condition b.body more other (branch_seen b))
    ∙ ap (λ xs. branch_seen b ∷ xs) (more_again at first more other)

else_again : (at : ℕ) (first : Branch Statement) (more : List (Branch Statement)) (other : Option (Body Statement))
    → else_in_if (map-Statement Statement Names statement_names (Statement-F.If at first more other)) ≡ option_map block_seen other
unfolding else_in_if block_seen
else_again at first more None = refl
else_again at first more (Some (blocks.Inline line)) = refl
else_again at first more (Some (blocks.Indented all)) = refl

branches_names : (more : List (Branch Statement)) → flat_map branch_names (map branch_seen more) ≡ flat_map branch_bound more
unfolding branch_seen
branches_names [] = refl
branches_names (b ∷ more) = ap (λ names. names ++ flat_map branch_names (map branch_seen more)) (block_seen_names b.body) ∙ ap (λ names. branch_bound b ++ names) (branches_names more)

else_seen_names : (other : Option (Body Statement)) → else_names (option_map block_seen other) ≡ else_bound other
else_seen_names None = refl
else_seen_names (Some body) = block_seen_names body

pub statement_if : (at : ℕ) (first : Branch Statement) (more : List (Branch Statement)) (other : Option (Body Statement))
    → statement_names (s.If at first more other) ≡ body_names first.body ++ flat_map branch_bound more ++ else_bound other
unfolding first_in_if more_in_if else_in_if branch_seen
statement_if at first more other =
    bound_if at first more other
    ∙ ap (λ x. layer_names (Statement-F.If at x (more_in_if (map-Statement Statement Names statement_names (Statement-F.If at first more other))) (else_in_if (map-Statement Statement Names statement_names (Statement-F.If at first more other))))) (first_again at first.condition first.body more other (branch_seen first))
    ∙ ap (λ xs. layer_names (Statement-F.If at (branch_seen first) xs (else_in_if (map-Statement Statement Names statement_names (Statement-F.If at first more other))))) (more_again at first more other)
    ∙ ap (λ o. layer_names (Statement-F.If at (branch_seen first) (map branch_seen more) o)) (else_again at first more other)
    ∙ ap (λ names. names ++ flat_map branch_names (map branch_seen more) ++ else_names (option_map block_seen other)) (block_seen_names first.body)
    ∙ ap (λ names. body_names first.body ++ names ++ else_names (option_map block_seen other)) (branches_names more)
    ∙ ap (λ names. body_names first.body ++ flat_map branch_bound more ++ names) (else_seen_names other)

pub if_names : (at : ℕ) (first : Branch Statement) (more : List (Branch Statement)) (other : Option (Body Statement)) (found : Names)
    → with_names found (statement_names (s.If at first more other)) ≡ with_names (with_names (with_names found (body_names first.body)) (flat_map branch_bound more)) (else_bound other)
if_names at first more other found = ap (with_names found) (statement_if at first more other) ∙ simp with_more

-- the names of an `if`, branch after branch
pub if_step : (whole : Statement) (at : ℕ) (first : Branch Statement) (more bs : List (Branch Statement)) (other : Option (Body Statement)) (start n1 n2 after : List (List ℕ)) → whole ≡ s.If at first more other
    → n1 ≡ with_names start (body_names first.body) → n2 ≡ with_names n1 (flat_map branch_bound bs) → bs ≡ more → after ≡ with_names n2 (else_bound other) → after ≡ with_names start (statement_names whole)
if_step whole at first more bs other start n1 n2 after is one two same now =
    now ∙ ap (λ n. with_names n (else_bound other)) (two ∙ ap (λ b. with_names n1 (flat_map branch_bound b)) same ∙ ap (λ n. with_names n (flat_map branch_bound more)) one)
    ∙ sym (if_names at first more other start) ∙ ap (λ x. with_names start (statement_names x)) (sym is)

-- no `else`
pub if_alone : (n : List (List ℕ)) (other : Option (Body Statement)) → other ≡ None → n ≡ with_names n (else_bound other)
if_alone n other is = sym (with_none n) ∙ ap (λ o. with_names n (else_bound o)) (sym is)

pub if_other : (n2 after : List (List ℕ)) (body : Body Statement) (other : Option (Body Statement)) → other ≡ Some body → after ≡ with_names n2 (body_names body) → after ≡ with_names n2 (else_bound other)
if_other n2 after body other is now = now ∙ ap (λ o. with_names n2 (else_bound o)) (sym is)

pub on_ok : {A E : Type 0} (r : Result A E) (P Q : Type 0) → (P → Q) → OnOk r P → OnOk r Q
on_ok (Ok a) P Q f h = f h
on_ok (Err e) P Q f h = tt

loop_names : Statement-F Names → Names
loop_names (Statement-F.For at targets over body) = branch_names (record { condition = e.None; body = body })
loop_names _ = []

loop_again : (at : ℕ) (targets over : List Expr) (body : Body Statement) → loop_names (map-Statement Statement Names statement_names (Statement-F.For at targets over body)) ≡ body_names body
unfolding loop_names
loop_again at targets over (blocks.Inline line) = refl
loop_again at targets over (blocks.Indented all) = flat_ids statement_names all

pub statement_for : (at : ℕ) (targets over : List Expr) (body : Body Statement) → statement_names (s.For at targets over body) ≡ flat_map target_names targets ++ body_names body
unfolding loop_names
statement_for at targets over body = bound_for at targets over body ∙ ap (λ names. flat_map target_names targets ++ names) (loop_again at targets over body)

pub statement_line : (line : Line) → statement_names (s.Line line) ≡ flat_map small_names line.smalls
statement_line line = bound_line line

pub ruleset more = (with_none, with_more)

pub ruleset one = (with_none, with_one)

pub ruleset targets = (with_none, with_one, target_name, target_paren, target_tuple, target_list, names_int, names_text, names_none, names_true, names_false, names_listover, names_dict, names_dictover, names_primary, names_signed, names_chain, names_compare, names_not, names_conditional)

pub ruleset bodies = (with_none, with_more)

pub ruleset statements = (with_none, with_more, statement_line, if_names, statement_for, bound_def)
