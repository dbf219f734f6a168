-- The parameters of a function, the values that are given by a name, and the whole of a call's block.
use Rattle.std.proofs.Common.{◌≡◌, ℕ, suc, zero, ◌+◌, ◌-◌, ◌^◌, ◌<◌, ◌≤◌, Bool, true, false, cond, List, [], ◌∷◌, ◌++◌, map, length, get_or, take, drop, Option, Some, None, refl, sym, ap, subst, ◌∙◌, IsTrue, arith, append_assoc, append-nil, add-one, take-suc, min, slice_get, length-drop, reverse}
use Rattle.std.specs.Prelude.{if◌then◌else◌, not, bytes_eq, MatchOption}
use Rattle.std.specs.Option.{option_to_list}
use Rattle.std.specs.List.{filter, filter_map, cons_option, list_all}
use Rattle.std.proofs.lemmas.List.{drop_more, get_or_default, length-map, length-reverse}
use Rattle.std.specs.Borrow.{Bor}
use Rattle.star_syntax.specs.declared.expression.Expr.{Expr}
use Rattle.star_syntax.specs.declared.expression.Named.{Named}
use Rattle.star_syntax.specs.declared.statement.Definition.{Definition}
use Rattle.star_syntax.specs.declared.statement.Statement.{Statement}
use Rattle.star_value.specs.declared.value.Value.{Value}
use Rattle.star_value.specs.Weight.{weight}
use Rattle.star_meaning.specs.Builtins.{ByName}
use Rattle.star_meaning.specs.Statements.{Filled, Parameter, body_names, default_names, default_weight, filled, filled_by_name, filled_from, given_by, local_block, parameters_of}
use Rattle.star_meaning.specs.Validity.{MachineState}
use Rattle.star_meaning.specs.Values.{is_empty}
use Rattle.star_meaning.specs.World.{Block, distinct, is_among, unbound}
use Rattle.star_builtins.specs.Reached.{AllFit}
use Rattle.star_run.specs.declared.filling.Filling.{Filling}
use Rattle.star_run.specs.declared.filling.Given.{Given}
use Rattle.star_run.specs.declared.filling.Given.TheVariants.{Never, Once, Often}
use Rattle.star_run.specs.declared.filling.Parameter.{Parameter as Held}
use Rattle.star_run.specs.Filling.{AreFilled, Fills, FillsOne, FillsSlots, IsFilling, IsGiven, filled_one, seen}
use Rattle.star_run.specs.Locals.{with_names}
use Rattle.star_run.specs.Running.{block_fits}
use Rattle.star_run.proofs.FillLemmas.{Progress, block_is, block_stands, filled_is, not_filled, progress_done, progress_fails, progress_over, progress_start, progress_step, step_popped}
use Rattle.star_run.proofs.LocalLemmas.{with_names_is}

at_place : {X : Type 0} (xs : List X) (i : ℕ) (x : X) → i < length xs → x ≡ get_or xs i x → drop i xs ≡ x ∷ drop (i + 1) xs
at_place xs i x within here = drop_more xs i x within ∙ ap (λ y. y ∷ drop (i + 1) xs) (sym here)

pub from_start : {X : Type 0} (xs : List X) → drop 0 xs ≡ xs
from_start [] = refl
from_start (x ∷ xs) = refl

past_end : {X : Type 0} (xs : List X) (i : ℕ) → length xs ≤ i → drop i xs ≡ []
past_end [] zero h = refl
past_end [] (suc i) h = refl
past_end (x ∷ xs) zero h = absurd (omega (arith, h))
past_end (x ∷ xs) (suc i) h = past_end xs i (omega (arith, h))

-- ---- what is given by a name

-- an entry of a name, before what is given further on
given_at : (name : List ℕ) (named : ByName) (i : ℕ) (entry : List ℕ × Value) → i < length named → entry ≡ get_or named i entry
    → given_by (drop i named) name ≡ cons_option (if bytes_eq name entry.0 then Some entry.1 else None) (given_by (drop (i + 1) named) name)
given_at name named i entry within here = ap (λ l. given_by l name) (at_place named i entry within here)

-- an entry of another name
pub given_passed : (name : List ℕ) (named : ByName) (i : ℕ) (entry : List ℕ × Value) → i < length named → entry ≡ get_or named i entry → bytes_eq name entry.0 ≡ false
    → given_by named name ≡ given_by (drop i named) name → given_by named name ≡ given_by (drop (i + 1) named) name
given_passed name named i entry within here other before =
    before ∙ given_at name named i entry within here ∙ ap (λ b. cons_option (if b then Some entry.1 else None) (given_by (drop (i + 1) named) name)) other

-- an entry of this name
pub given_here : (name : List ℕ) (named : ByName) (i : ℕ) (entry : List ℕ × Value) → i < length named → entry ≡ get_or named i entry → bytes_eq name entry.0 ≡ true
    → given_by named name ≡ given_by (drop i named) name → given_by named name ≡ entry.1 ∷ given_by (drop (i + 1) named) name
given_here name named i entry within here same before =
    before ∙ given_at name named i entry within here ∙ ap (λ b. cons_option (if b then Some entry.1 else None) (given_by (drop (i + 1) named) name)) same

pub given_some : (name : List ℕ) (named : ByName) (i : ℕ) (entry : List ℕ × Value) → i < length named → entry ≡ get_or named i entry → bytes_eq name entry.0 ≡ true
    → given_by named name ≡ given_by (drop i named) name → not (is_empty (given_by named name)) ≡ true
given_some name named i entry within here same before = ap (λ l. not (is_empty l)) (given_here name named i entry within here same before)

pub given_end : (name : List ℕ) (named : ByName) (i : ℕ) → length named ≤ i → given_by named name ≡ given_by (drop i named) name → given_by named name ≡ []
given_end name named i past before = before ∙ ap (λ l. given_by l name) (past_end named i past)

pub given_none : (name : List ℕ) (named : ByName) (i : ℕ) → length named ≤ i → given_by named name ≡ given_by (drop i named) name → not (is_empty (given_by named name)) ≡ false
given_none name named i past before = ap (λ l. not (is_empty l)) (given_end name named i past before)

nothing_more : {X : Type 0} (xs : List X) → not (is_empty xs) ≡ false → xs ≡ []
nothing_more [] h = refl
nothing_more (x ∷ xs) h = absurd (cc)

something_more : (values : List Value) (v : Value) (rest : List Value) → values ≡ v ∷ rest → not (is_empty rest) ≡ true → IsGiven values Often
something_more values v [] is h = absurd (cc)
something_more values v (u ∷ more) is h = (v, u, more, is)

pub given_once : (name : List ℕ) (named rest : ByName) (i : ℕ) (entry : List ℕ × Value) → i < length named → entry ≡ get_or named i entry → bytes_eq name entry.0 ≡ true
    → given_by named name ≡ given_by (drop i named) name → rest ≡ drop (i + 1) named → not (is_empty (given_by rest name)) ≡ false → given_by named name ≡ entry.1 ∷ []
given_once name named rest i entry within here same before left none =
    given_here name named i entry within here same before ∙ ap (λ l. entry.1 ∷ l) (ap (λ l. given_by l name) (sym left) ∙ nothing_more (given_by rest name) none)

pub given_often : (name : List ℕ) (named rest : ByName) (i : ℕ) (entry : List ℕ × Value) → i < length named → entry ≡ get_or named i entry → bytes_eq name entry.0 ≡ true
    → given_by named name ≡ given_by (drop i named) name → rest ≡ drop (i + 1) named → not (is_empty (given_by rest name)) ≡ true → IsGiven (given_by named name) Often
given_often name named rest i entry within here same before left some =
    something_more (given_by named name) entry.1 (given_by rest name) (given_here name named i entry within here same before ∙ ap (λ l. entry.1 ∷ given_by l name) (sym left)) some

whole : {X : Type 0} (xs : List X) (j : ℕ) → length xs ≤ j → take j xs ≡ xs
whole [] zero h = refl
whole [] (suc j) h = refl
whole (x ∷ xs) zero h = absurd (omega (arith, h))
whole (x ∷ xs) (suc j) h = ap (λ l. x ∷ l) (whole xs j (omega (arith, h)))

-- what stands from a place on
pub rest_from : {X : Type 0} (xs : List X) (i : ℕ) → take (length xs - i) (drop i xs) ≡ drop i xs
rest_from xs i = whole (drop i xs) (length xs - i) (omega (arith, length-drop i xs))

-- ---- one parameter

not_empty : (b : Bool) → not b ≡ true → b ≡ false
not_empty true h = absurd (cc)
not_empty false h = refl

is_empty_too : (b : Bool) → not b ≡ false → b ≡ true
is_empty_too true h = refl
is_empty_too false h = absurd (cc)

-- a value by place alone
pub fills_place : (p : Parameter) (v : Value) (named : ByName) → not (is_empty (given_by named p.0)) ≡ false → FillsOne (filled_one p (Some v) named) (Some (v, 0))
fills_place p v named none =
    subst (λ b. FillsOne (if b then Some (p.0, v, None) else None) (Some (v, 0))) (sym (is_empty_too (is_empty (given_by named p.0)) none)) (refl, refl)

-- and one by name too
pub fills_twice : (p : Parameter) (v : Value) (named : ByName) → not (is_empty (given_by named p.0)) ≡ true → FillsOne (filled_one p (Some v) named) None
fills_twice p v named some =
    subst (λ b. FillsOne (if b then Some (p.0, v, None) else None) None) (sym (not_empty (is_empty (given_by named p.0)) some)) tt

-- a value by name
pub fills_named : (p : Parameter) (v : Bor Value) (u : Value) (named : ByName) → IsGiven (given_by named p.0) (Once v) → u ≡ v.now → FillsOne (filled_one p None named) (Some (u, 0))
fills_named p v u named once same = subst (λ values. FillsOne (filled_by_name p values) (Some (u, 0))) (sym once) (same, refl)

-- several
pub fills_often : (p : Parameter) (named : ByName) → IsGiven (given_by named p.0) Often → FillsOne (filled_one p None named) None
fills_often p named (first, second, more, is) = subst (λ values. FillsOne (filled_by_name p values) None) (sym is) tt

-- none, and a default
pub fills_default : (p : Held) (v : Bor Value) (u : Value) (n : ℕ) (named : ByName) → IsGiven (given_by named (seen p).0) Never → p.default ≡ Some v → u ≡ v.now → n ≡ min (weight v.now) (2 ^ 64 - 1)
    → FillsOne (filled_one (seen p) None named) (Some (u, n))
fills_default p v u n named never there same paid =
    subst (λ values. FillsOne (filled_by_name (seen p) values) (Some (u, n))) (sym never)
    (subst (λ o. FillsOne (filled_by_name (seen (record { name = p.name; default = o })) []) (Some (u, n))) (sym there) (same, paid))

-- none, and no default
pub fills_nothing : (p : Held) (named : ByName) → IsGiven (given_by named (seen p).0) Never → p.default ≡ None → FillsOne (filled_one (seen p) None named) None
fills_nothing p named never there =
    subst (λ values. FillsOne (filled_by_name (seen p) values) None) (sym never)
    (subst (λ o. FillsOne (filled_by_name (seen (record { name = p.name; default = o })) []) None) (sym there) tt)

-- ---- all parameters

map_push : {X Y : Type 0} (f : X → Y) (xs : List X) (x : X) → map f (xs ++ x ∷ []) ≡ map f xs ++ f x ∷ []
map_push f [] x = refl
map_push f (y ∷ xs) x = ap (λ l. f y ∷ l) (map_push f xs x)

-- a parameter without a default
abbrev pub bare : List ℕ → Parameter
bare name = (name, None)

pub required_step : (names : List (List ℕ)) (i : ℕ) (name : List ℕ) (done after : List Held) (p : Held) → i < length names → name ≡ get_or names i name → after ≡ done ++ p ∷ [] → seen p ≡ bare name
    → map seen done ≡ map bare (take i names) → map seen after ≡ map bare (take (i + 1) names)
required_step names i name done after p within here pushed this before =
    ap (map seen) pushed ∙ map_push seen done p ∙ ap (λ l. l ++ seen p ∷ []) before ∙ ap (λ x. map bare (take i names) ++ x ∷ []) this
    ∙ sym (map_push bare (take i names) name) ∙ ap (λ n. map bare (take i names ++ n ∷ [])) here
    ∙ ap (map bare) (sym (take-suc names i name within)) ∙ ap (λ j. map bare (take j names)) (sym (add-one i))

default_at : (ns : List (Named Expr)) (vs : List Value) (i : ℕ) (n : Named Expr) (v : Value) → drop i ns ≡ n ∷ drop (i + 1) ns → drop i vs ≡ v ∷ drop (i + 1) vs
    → default_names (drop i ns) (drop i vs) ≡ (n.name, Some v) ∷ default_names (drop (i + 1) ns) (drop (i + 1) vs)
default_at ns vs i n v first second = ap (λ l. default_names l (drop i vs)) first ∙ ap (default_names (n ∷ drop (i + 1) ns)) second

got_at : {X : Type 0} (xs : List X) (i : ℕ) (x : X) → slice_get xs i ≡ Some x → drop i xs ≡ x ∷ drop (i + 1) xs
got_at xs i x h = got xs i x h ∙ ap (λ j. x ∷ drop j xs) (sym (add-one i))
  where
    got : {Y : Type 0} (ys : List Y) (j : ℕ) (y : Y) → slice_get ys j ≡ Some y → drop j ys ≡ y ∷ drop (suc j) ys
    got [] j y h = absurd (cc)
    got (z ∷ ys) zero y h = let same : z ≡ y = cc in ap (λ u. u ∷ ys) same
    got (z ∷ ys) (suc j) y h = got ys j y h

got_none : {X : Type 0} (xs : List X) (i : ℕ) → slice_get xs i ≡ None → drop i xs ≡ []
got_none [] zero h = refl
got_none [] (suc i) h = refl
got_none (x ∷ xs) zero h = absurd (cc)
got_none (x ∷ xs) (suc i) h = got_none xs i h

-- the defaults that are left stand behind
pub defaults_step : (ns : List (Named Expr)) (vs : List Value) (all : List Parameter) (i : ℕ) (n : Named Expr) (v : Value) (done after : List Held) (p : Held) → slice_get ns i ≡ Some n → i < length vs → v ≡ get_or vs i v
    → after ≡ done ++ p ∷ [] → seen p ≡ (n.name, Some v) → map seen done ++ default_names (drop i ns) (drop i vs) ≡ all → map seen after ++ default_names (drop (i + 1) ns) (drop (i + 1) vs) ≡ all
defaults_step ns vs all i n v done after p first within here pushed this before =
    ap (λ l. map seen l ++ default_names (drop (i + 1) ns) (drop (i + 1) vs)) pushed
    ∙ ap (λ l. l ++ default_names (drop (i + 1) ns) (drop (i + 1) vs)) (map_push seen done p)
    ∙ append_assoc (map seen done) (seen p ∷ []) (default_names (drop (i + 1) ns) (drop (i + 1) vs))
    ∙ ap (λ x. map seen done ++ x ∷ default_names (drop (i + 1) ns) (drop (i + 1) vs)) this
    ∙ sym (ap (λ l. map seen done ++ l) (default_at ns vs i n v (got_at ns i n first) (at_place vs i v within here)))
    ∙ before

-- no name is left
pub no_name_left : (ns : List (Named Expr)) (vs : List Value) (done : List Held) (all : List Parameter) (i : ℕ) → slice_get ns i ≡ None → map seen done ++ default_names (drop i ns) (drop i vs) ≡ all → map seen done ≡ all
no_name_left ns vs done all i none before = sym (append-nil (map seen done)) ∙ sym (ap (λ l. map seen done ++ default_names l (drop i vs)) (got_none ns i none)) ∙ before

no_defaults : (ns : List (Named Expr)) → default_names ns [] ≡ []
no_defaults [] = refl
no_defaults (n ∷ ns) = refl

-- no default is left
pub no_default_left : (ns : List (Named Expr)) (vs : List Value) (done : List Held) (all : List Parameter) (i : ℕ) → length vs ≤ i → map seen done ++ default_names (drop i ns) (drop i vs) ≡ all → map seen done ≡ all
no_default_left ns vs done all i past before =
    sym (append-nil (map seen done)) ∙ sym (ap (λ l. map seen done ++ l) (ap (default_names (drop i ns)) (past_end vs i past) ∙ no_defaults (drop i ns))) ∙ before

-- all names are there, and the defaults follow
pub defaults_start : (def : Definition Statement) (defaults : List Value) (names : List (List ℕ)) (done : List Held) (i : ℕ) → names ≡ def.required → length names ≤ i → map seen done ≡ map bare (take i names)
    → map seen done ++ default_names (drop 0 def.defaults) (drop 0 defaults) ≡ parameters_of def defaults
defaults_start def defaults names done i same past before =
    ap (λ l. l ++ default_names (drop 0 def.defaults) (drop 0 defaults)) (before ∙ ap (map bare) (whole names i past ∙ same))
    ∙ ap (λ l. map bare def.required ++ default_names l (drop 0 defaults)) (from_start def.defaults)
    ∙ ap (λ l. map bare def.required ++ default_names def.defaults l) (from_start defaults)

-- ---- one parameter after the other

pub progress_init : (ps : List Held) (vs waiting : List Value) (named : ByName) (slots : Block) → reverse waiting ≡ vs → slots ≡ [] → Progress (map seen ps) (map seen (drop 0 ps)) vs (reverse waiting) named slots 0
progress_init ps vs waiting named slots same none =
    subst (λ b. Progress (map seen ps) (map seen (drop 0 ps)) vs (reverse waiting) named b 0) (sym none)
    (subst (λ l. Progress (map seen ps) (map seen (drop 0 ps)) vs l named [] 0) (sym same)
    (subst (λ l. Progress (map seen ps) (map seen l) vs vs named [] 0) (sym (from_start ps)) (progress_start (map seen ps) vs named)))

module _ (ps : List Held) (i : ℕ) (p : Held) (vs items rest : List Value) (named : ByName) (slots : Block) (weight : ℕ) (given : Option Value) (within : i < length ps) (here : p ≡ get_or ps i p)
    (popped : items ≡ rest ++ option_to_list given) (cases : MatchOption given ((length items ≡ 0) × (length rest ≡ 0)) (λ v. length rest + 1 ≡ length items))
    (before : Progress (map seen ps) (map seen (drop i ps)) vs (reverse items) named slots weight) where
  left : Progress (map seen ps) (seen p ∷ map seen (drop (i + 1) ps)) vs (reverse items) named slots weight
  left = subst (λ l. Progress (map seen ps) (map seen l) vs (reverse items) named slots weight) (at_place ps i p within here) before

  pub progress_next : (after : Block) (v : Value) (n total : ℕ) → total ≡ min (weight + n) (2 ^ 64 - 1) → FillsOne (filled_one (seen p) given named) (Some (v, n)) → after ≡ slots ++ (p.name.value, Some v) ∷ []
      → Progress (map seen ps) (map seen (drop (i + 1) ps)) vs (reverse rest) named after total
  progress_next after v n total summed fills pushed =
      subst (λ b. Progress (map seen ps) (map seen (drop (i + 1) ps)) vs (reverse rest) named b total) (sym pushed)
      (subst (Progress (map seen ps) (map seen (drop (i + 1) ps)) vs (reverse rest) named (slots ++ (p.name.value, Some v) ∷ [])) (sym summed)
      (progress_step (map seen ps) (map seen (drop (i + 1) ps)) (seen p) vs (reverse items) (reverse rest) named slots weight given v n (step_popped (seen p) (map seen (drop (i + 1) ps)) items rest given named popped cases) left fills))

  pub progress_stop : FillsOne (filled_one (seen p) given named) None → filled_from (map seen ps) vs named ≡ None
  progress_stop fills =
      progress_fails (map seen ps) (map seen (drop (i + 1) ps)) (seen p) vs (reverse items) (reverse rest) named slots weight given (step_popped (seen p) (map seen (drop (i + 1) ps)) items rest given named popped cases) left fills

module _ (ps : List Held) (i : ℕ) (vs items : List Value) (named : ByName) (slots : Block) (weight : ℕ) (past : length ps ≤ i) (before : Progress (map seen ps) (map seen (drop i ps)) vs (reverse items) named slots weight) where
  at_end : Progress (map seen ps) [] vs (reverse items) named slots weight
  at_end = subst (λ l. Progress (map seen ps) (map seen l) vs (reverse items) named slots weight) (past_end ps i past) before

  some_left : (waiting : List Value) → 0 < length waiting → Progress (map seen ps) [] vs waiting named slots weight → filled_from (map seen ps) vs named ≡ None
  some_left [] some h = absurd (omega (arith, some))
  some_left (v ∷ more) some h = progress_over (map seen ps) vs v more named slots weight h

  pub progress_left : 0 < length items → filled_from (map seen ps) vs named ≡ None
  progress_left some = some_left (reverse items) (omega (arith, length-reverse items, some)) at_end

  pub progress_all : length items ≡ 0 → FillsSlots (filled_from (map seen ps) vs named) (Some (record { slots = slots; weight = weight }))
  progress_all none =
      let done = subst (λ l. Progress (map seen ps) [] vs (reverse l) named slots weight) (nothing_in items none) at_end in
      (done.done, progress_done (map seen ps) vs named slots weight done, record { slots = done.slots_are; weight = done.weight_is })
    where
      nothing_in : {X : Type 0} (xs : List X) → length xs ≡ 0 → xs ≡ []
      nothing_in [] h = refl
      nothing_in (x ∷ xs) h = absurd (omega (arith, h))

-- ---- the names of the body

after_all : {X : Type 0} (xs ys : List X) → drop (length xs) (xs ++ ys) ≡ ys
after_all [] ys = from_start ys
after_all (x ∷ xs) ys = after_all xs ys

names_count : (ps : List Held) → length ps ≡ length (map (λ p. p.0) (map seen ps))
names_count [] = refl
names_count (p ∷ ps) = ap suc (names_count ps)

pub names_pushed : (ps : List Held) (i : ℕ) (p : Held) (name : List ℕ) (found after : List (List ℕ)) → i < length ps → p ≡ get_or ps i p → name ≡ p.name.value → after ≡ found ++ name ∷ []
    → found ≡ map (λ q. q.0) (map seen (take i ps)) → after ≡ map (λ q. q.0) (map seen (take (i + 1) ps))
names_pushed ps i p name found after within here called pushed before =
    pushed ∙ ap (λ l. l ++ name ∷ []) before ∙ ap (λ n. map (λ q. q.0) (map seen (take i ps)) ++ n ∷ []) called
    ∙ sym (map_push (λ (q : Parameter). q.0) (map seen (take i ps)) (seen p)) ∙ ap (map (λ (q : Parameter). q.0)) (sym (map_push seen (take i ps) p))
    ∙ ap (λ q. map (λ (r : Parameter). r.0) (map seen (take i ps ++ q ∷ []))) here ∙ ap (λ l. map (λ (r : Parameter). r.0) (map seen l)) (sym (take-suc ps i p within))
    ∙ ap (λ j. map (λ (r : Parameter). r.0) (map seen (take j ps))) (sym (add-one i))

pub names_all : (ps : List Held) (i : ℕ) (found : List (List ℕ)) → length ps ≤ i → found ≡ map (λ q. q.0) (map seen (take i ps)) → found ≡ map (λ q. q.0) (map seen ps)
names_all ps i found past before = before ∙ ap (λ l. map (λ (q : Parameter). q.0) (map seen l)) (whole ps i past)

pub body_added : (ps : List Held) (slots after : Block) (start found names : List (List ℕ)) → start ≡ map (λ p. p.0) (map seen ps) → found ≡ with_names start names
    → after ≡ slots ++ unbound (drop (length ps) found) → after ≡ slots ++ unbound (filter (λ name. not (is_among (map (λ p. p.0) (map seen ps)) name)) (distinct names))
body_added ps slots after start found names here with_body is =
    let others = map (λ p. p.0) (map seen ps) in
    let more = filter (λ name. not (is_among others name)) (distinct names) in
    let all : found ≡ others ++ more = with_body ∙ ap (λ l. with_names l names) here ∙ with_names_is others names in
    is ∙ ap (λ l. slots ++ unbound (drop (length ps) l)) all ∙ ap (λ n. slots ++ unbound (drop n (others ++ more))) (names_count ps) ∙ ap (λ l. slots ++ unbound l) (after_all others more)

-- ---- the whole

module _ (def : Definition Statement) (defaults : List Value) (items shown : List Held) (vs : List Value) (named given : ByName) (b : Bool) (are : map seen items ≡ parameters_of def defaults)
    (is : shown ≡ items) (given_is : given ≡ named) (tested : b ≡ list_all (λ (entry : List ℕ × Value). is_among (map (λ (p : Parameter). p.0) (map seen shown)) entry.0) given) where
  known : list_all (λ (entry : List ℕ × Value). is_among (map (λ (p : Parameter). p.0) (map seen items)) entry.0) named ≡ b
  known =
      sym (tested ∙ ap (λ l. list_all (λ (entry : List ℕ × Value). is_among (map (λ (p : Parameter). p.0) (map seen l)) entry.0) given) is
      ∙ ap (list_all (λ (entry : List ℕ × Value). is_among (map (λ (p : Parameter). p.0) (map seen items)) entry.0)) given_is)

  -- a name that is no parameter's
  pub fill_unknown : b ≡ false → filled (parameters_of def defaults) vs named ≡ None
  fill_unknown other = ap (λ l. filled l vs named) (sym are) ∙ not_filled (map seen items) vs named (known ∙ other)

  filled_as : b ≡ true → filled (parameters_of def defaults) vs named ≡ filled_from (map seen items) vs named
  filled_as all = ap (λ l. filled l vs named) (sym are) ∙ filled_is (map seen items) vs named (known ∙ all)

  module _ (again : List Held) (other : ByName) (o : Option Filling) (again_is : again ≡ items) (other_is : other ≡ named) (fills : FillsSlots (filled_from (map seen again) vs other) o) where
    here : FillsSlots (filled_from (map seen items) vs named) o
    here = subst (λ ns. FillsSlots (filled_from (map seen items) vs ns) o) other_is (subst (λ l. FillsSlots (filled_from (map seen l) vs other) o) again_is fills)

    -- a parameter that is not filled, or too many arguments
    pub fill_none : b ≡ true → o ≡ None → filled (parameters_of def defaults) vs named ≡ None
    fill_none all none = filled_as all ∙ subst (FillsSlots (filled_from (map seen items) vs named)) none here

    module _ (last : List Held) (part : Filling) (slots : Block) (found : o ≡ Some part) (last_is : last ≡ items)
        (slots_is : slots ≡ part.slots ++ unbound (filter (λ name. not (is_among (map (λ (p : Parameter). p.0) (map seen last)) name)) (distinct (body_names def.body)))) where
      those : FillsSlots (filled_from (map seen items) vs named) (Some part)
      those = subst (FillsSlots (filled_from (map seen items) vs named)) found here

      slots_are : slots ≡ local_block def those.0
      slots_are =
          slots_is ∙ ap (λ l. part.slots ++ unbound (filter (λ name. not (is_among (map (λ (p : Parameter). p.0) (map seen l)) name)) (distinct (body_names def.body)))) last_is
          ∙ ap (λ x. x ++ unbound (filter (λ name. not (is_among (map (λ (p : Parameter). p.0) (map seen items)) name)) (distinct (body_names def.body)))) those.2.slots
          ∙ block_is def (map seen items) vs named those.0 those.1

      pub fill_some : b ≡ true → Fills (filled (parameters_of def defaults) vs named) def (Some (record { slots = slots; weight = part.weight }))
      fill_some all = (those.0, filled_as all ∙ those.1, record { slots = slots_are; weight = those.2.weight })

      pub fill_stands : (m : MachineState) → AllFit m defaults → AllFit m vs → AllFit m (map (λ entry. entry.1) named) → IsTrue (block_fits m slots)
      fill_stands m h k l =
          subst (λ x. IsTrue (block_fits m x)) (sym slots_are) (block_stands m def defaults vs named those.0 h k l (ap (λ x. filled_from x vs named) (sym are) ∙ those.1))

-- ---- names that are added one by one

pub unbound_step : (names : List (List ℕ)) (i : ℕ) (name : List ℕ) (done after whole : Block) → i < length names → name ≡ get_or names i name → after ≡ done ++ (name, None) ∷ []
    → done ++ unbound (drop i names) ≡ whole → after ++ unbound (drop (i + 1) names) ≡ whole
unbound_step names i name done after whole within here pushed before =
    ap (λ b. b ++ unbound (drop (i + 1) names)) pushed ∙ append_assoc done ((name, None) ∷ []) (unbound (drop (i + 1) names))
    ∙ sym (ap (λ l. done ++ unbound l) (at_place names i name within here)) ∙ before

pub unbound_end : (names : List (List ℕ)) (i : ℕ) (done whole : Block) → length names ≤ i → done ++ unbound (drop i names) ≡ whole → done ≡ whole
unbound_end names i done whole past before = sym (append-nil done) ∙ sym (ap (λ l. done ++ unbound l) (past_end names i past)) ∙ before

name_at : {P : Type 0} (name_of : P → List ℕ) (ps : List P) (i : ℕ) (d : P) → get_or (map name_of ps) i (name_of d) ≡ name_of (get_or ps i d)
name_at name_of [] zero d = refl
name_at name_of [] (suc i) d = refl
name_at name_of (p ∷ ps) zero d = refl
name_at name_of (p ∷ ps) (suc i) d = name_at name_of ps i d

-- the same of names that are seen through a pointer
pub unbound_at : {P : Type 0} (name_of : P → List ℕ) (ps : List P) (i : ℕ) (d : P) (names : List (List ℕ)) (name : List ℕ) (done after whole : Block) → map name_of ps ≡ names → i < length ps → name ≡ name_of (get_or ps i d)
    → after ≡ done ++ (name, None) ∷ [] → done ++ unbound (drop i names) ≡ whole → after ++ unbound (drop (i + 1) names) ≡ whole
unbound_at name_of ps i d names name done after whole are within here pushed before =
    let counted : length names ≡ length ps = ap length (sym are) ∙ length-map ps name_of in
    let inside : i < length names = omega (arith, counted, within) in
    unbound_step names i name done after whole inside
    (here ∙ sym (name_at name_of ps i d) ∙ ap (λ l. get_or l i (name_of d)) are ∙ get_or_default names i (name_of d) name inside) pushed before

-- what a pop says of the counts
pub popped_counts : (given : Option Value) (n m : ℕ) (items rest : List Value) → n ≡ length items → m ≡ length rest → MatchOption given ((n ≡ 0) × (m ≡ 0)) (λ v. m + 1 ≡ n)
    → MatchOption given ((length items ≡ 0) × (length rest ≡ 0)) (λ v. length rest + 1 ≡ length items)
popped_counts None n m items rest first second h = (sym first ∙ h.0, sym second ∙ h.1)
popped_counts (Some v) n m items rest first second h = omega (arith, first, second, h)
