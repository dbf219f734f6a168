-- How a call fills the parameters of a function, one after the other.
use Rattle.std.proofs.Common.{◌≡◌, ℕ, ◌+◌, ◌-◌, ◌^◌, ◌≤◌, suc, zero, Bool, true, false, cond, List, [], ◌∷◌, ◌++◌, map, length, drop, reverse, Option, Some, None, refl, sym, ap, subst, ◌∙◌, IsTrue, arith, append_assoc, append-nil, min}
use Rattle.std.specs.Prelude.{if◌then◌else◌, ◌&&◌, not, option_map, sum, bytes_eq, MatchOption}
use Rattle.std.specs.Option.{option_to_list}
use Rattle.std.proofs.lemmas.List.{reverse-append}
use Rattle.std.proofs.lemmas.List.Sums.{sum-map, sum_by_push}
use Rattle.std.specs.List.{filter, filter_map, cons_option, list_all}
use Rattle.std.proofs.lemmas.Bool.Decides.{nat_tests}
use Rattle.heap_store.proofs.Tested.{and_left, and_right, and_both}
use Rattle.star_syntax.specs.declared.expression.Expr.{Expr}
use Rattle.star_syntax.specs.declared.expression.Named.{Named}
use Rattle.star_syntax.specs.declared.statement.Definition.{Definition}
use Rattle.star_syntax.specs.declared.statement.Statement.{Statement}
use Rattle.star_value.specs.declared.value.Value.{Value}
use Rattle.star_meaning.specs.Builtins.{ByName}
use Rattle.star_meaning.specs.Statements.{Filled, Parameter, body_names, cons_some, default_names, default_weight, filled, filled_by_name, filled_from, given_by, local_block, parameters_of}
use Rattle.star_meaning.specs.Validity.{MachineState, fits, is_proper}
use Rattle.star_meaning.specs.Values.{is_empty}
use Rattle.star_meaning.specs.World.{Block, distinct, is_among, unbound}
use Rattle.star_builtins.specs.Reached.{AllFit}
use Rattle.star_run.specs.Filling.{AreFilled, FillsOne, after_filled, filled_one}
use Rattle.star_run.specs.Running.{block_fits, slot_fits}

-- ---- one parameter

pub step_given : (p : Parameter) (ps : List Parameter) (v : Value) (vs : List Value) (named : ByName)
    → filled_from (p ∷ ps) (v ∷ vs) named ≡ cons_some (filled_one p (Some v) named) (filled_from ps vs named)
step_given p ps v vs named = chosen (is_empty (given_by named p.0)) (Some (p.0, v, None)) (filled_from ps vs named)
  where
    chosen : (b : Bool) (f : Option Filled) (rest : Option (List Filled)) → (if b then cons_some f rest else None) ≡ cons_some (if b then f else None) rest
    chosen true f rest = refl
    chosen false f rest = refl

pub step_left : (p : Parameter) (ps : List Parameter) (named : ByName) → filled_from (p ∷ ps) [] named ≡ cons_some (filled_one p None named) (filled_from ps [] named)
step_left p ps named = refl

by_name_is : (p : Parameter) (values : List Value) (f : Filled) → filled_by_name p values ≡ Some f → f.0 ≡ p.0
by_name_is p [] f h = defaulted p.1 h
  where
    defaulted : (o : Option Value) → option_map (λ v. (p.0, v, Some v)) o ≡ Some f → f.0 ≡ p.0
    defaulted None h = absurd (cc)
    defaulted (Some v) h = cc
by_name_is p (v ∷ []) f h = cc
by_name_is p (v ∷ u ∷ vs) f h = absurd (cc)

one_named : (b : Bool) (p : Parameter) (v : Value) (f : Filled) → (if b then Some (p.0, v, None) else None) ≡ Some f → f.0 ≡ p.0
one_named true p v f h = cc
one_named false p v f h = absurd (cc)

-- a parameter that is filled keeps its name
pub filled_name : (p : Parameter) (given : Option Value) (named : ByName) (f : Filled) → filled_one p given named ≡ Some f → f.0 ≡ p.0
filled_name p None named f h = by_name_is p (given_by named p.0) f h
filled_name p (Some v) named f h = one_named (is_empty (given_by named p.0)) p v f h

-- ---- all of them

-- what is filled at one parameter, and what is known of it
pub fills_some : (o : Option Filled) (given : Value × ℕ) → FillsOne o (Some given) → (f : Filled) × (o ≡ Some f) × (given.0 ≡ f.1) × (given.1 ≡ min (default_weight f) (2 ^ 64 - 1))
fills_some None given h = absurd h
fills_some (Some f) given h = (f, refl, h.0, h.1)

pub fills_none : (o : Option Filled) → FillsOne o None → o ≡ None
fills_none None h = refl
fills_none (Some f) h = absurd h

pub after_one : (done : List Filled) (f : Filled) (rest : Option (List Filled)) → after_filled done (cons_some (Some f) rest) ≡ after_filled (done ++ f ∷ []) rest
after_one done f None = refl
after_one done f (Some more) = ap Some (sym (append_assoc done (f ∷ []) more))

pub after_none : (rest : Option (List Filled)) → cons_some {A = Filled} None rest ≡ None
after_none None = refl
after_none (Some more) = refl

slots_push : (done : List Filled) (f : Filled) → map {B = List ℕ × Option Value} (λ g. (g.0, Some g.1)) (done ++ f ∷ []) ≡ map {B = List ℕ × Option Value} (λ g. (g.0, Some g.1)) done ++ (f.0, Some f.1) ∷ []
slots_push [] f = refl
slots_push (d ∷ done) f = ap (λ l. (d.0, Some d.1) ∷ l) (slots_push done f)

sum_push : (done : List Filled) (f : Filled) → sum (map default_weight (done ++ f ∷ [])) ≡ sum (map default_weight done) + default_weight f
sum_push done f = sum-map default_weight (done ++ f ∷ []) ∙ sum_by_push default_weight done f ∙ ap (λ n. n + default_weight f) (sym (sum-map default_weight done))

cut_sum : (n m : ℕ) → min (min n (2 ^ 64 - 1) + min m (2 ^ 64 - 1)) (2 ^ 64 - 1) ≡ min (n + m) (2 ^ 64 - 1)
cut_sum n m = omega arith

-- how far the parameters are filled
pub record Progress (all left : List Parameter) (vs waiting : List Value) (named : ByName) (slots : Block) (weight : ℕ) : Type 0 where
  pub done : List Filled
  pub is : filled_from all vs named ≡ after_filled done (filled_from left waiting named)
  pub slots_are : slots ≡ map (λ f. (f.0, Some f.1)) done
  pub weight_is : weight ≡ min (sum (map default_weight done)) (2 ^ 64 - 1)

after_empty : (o : Option (List Filled)) → after_filled [] o ≡ o
after_empty None = refl
after_empty (Some more) = refl

pub progress_start : (all : List Parameter) (vs : List Value) (named : ByName) → Progress all all vs vs named [] 0
progress_start all vs named = record { done = []; is = sym (after_empty (filled_from all vs named)); slots_are = refl; weight_is = omega arith }

-- one more is filled
pub progress_step : (all left : List Parameter) (p : Parameter) (vs waiting rest : List Value) (named : ByName) (slots : Block) (weight : ℕ) (given : Option Value) (v : Value) (n : ℕ)
    → filled_from (p ∷ left) waiting named ≡ cons_some (filled_one p given named) (filled_from left rest named)
    → Progress all (p ∷ left) vs waiting named slots weight → FillsOne (filled_one p given named) (Some (v, n))
    → Progress all left vs rest named (slots ++ (p.0, Some v) ∷ []) (min (weight + n) (2 ^ 64 - 1))
progress_step all left p vs waiting rest named slots weight given v n step h fills =
    let found = fills_some (filled_one p given named) (v, n) fills in
    let f = found.0 in
    let name : f.0 ≡ p.0 = filled_name p given named f found.1 in
    record {
      done = h.done ++ f ∷ [];
      is = h.is ∙ ap (after_filled h.done) (step ∙ ap (λ o. cons_some o (filled_from left rest named)) found.1) ∙ after_one h.done f (filled_from left rest named);
      slots_are = ap (λ b. b ++ (p.0, Some v) ∷ []) h.slots_are ∙ ap (λ x. map {B = List ℕ × Option Value} (λ g. (g.0, Some g.1)) h.done ++ (x, Some v) ∷ []) (sym name)
          ∙ ap (λ x. map {B = List ℕ × Option Value} (λ g. (g.0, Some g.1)) h.done ++ (f.0, Some x) ∷ []) found.2 ∙ sym (slots_push h.done f);
      weight_is = ap (λ x. min (x + n) (2 ^ 64 - 1)) h.weight_is ∙ ap (λ x. min (min (sum (map default_weight h.done)) (2 ^ 64 - 1) + x) (2 ^ 64 - 1)) found.3
          ∙ cut_sum (sum (map default_weight h.done)) (default_weight f) ∙ ap (λ x. min x (2 ^ 64 - 1)) (sym (sum_push h.done f));
    }

-- one is not filled
pub progress_fails : (all left : List Parameter) (p : Parameter) (vs waiting rest : List Value) (named : ByName) (slots : Block) (weight : ℕ) (given : Option Value)
    → filled_from (p ∷ left) waiting named ≡ cons_some (filled_one p given named) (filled_from left rest named)
    → Progress all (p ∷ left) vs waiting named slots weight → FillsOne (filled_one p given named) None → filled_from all vs named ≡ None
progress_fails all left p vs waiting rest named slots weight given step h fills =
    h.is ∙ ap (after_filled h.done) (step ∙ ap (λ o. cons_some o (filled_from left rest named)) (fills_none (filled_one p given named) fills) ∙ after_none (filled_from left rest named))

nothing_in : {A : Type 0} (xs : List A) → length xs ≡ 0 → xs ≡ []
nothing_in [] h = refl
nothing_in (x ∷ xs) h = absurd (omega (arith, h))

-- the value that is given to a parameter is the next one that waits
pub step_popped : (p : Parameter) (ps : List Parameter) (items rest : List Value) (given : Option Value) (named : ByName)
    → items ≡ rest ++ option_to_list given → MatchOption given ((length items ≡ 0) × (length rest ≡ 0)) (λ v. length rest + 1 ≡ length items)
    → filled_from (p ∷ ps) (reverse items) named ≡ cons_some (filled_one p given named) (filled_from ps (reverse rest) named)
step_popped p ps items rest None named is none =
    ap (λ l. filled_from (p ∷ ps) (reverse l) named) (nothing_in items none.0) ∙ ap (λ l. cons_some (filled_one p None named) (filled_from ps (reverse l) named)) (sym (nothing_in rest none.1))
step_popped p ps items rest (Some v) named is some =
    ap (λ l. filled_from (p ∷ ps) l named) (ap reverse is ∙ reverse-append rest (v ∷ [])) ∙ step_given p ps v (reverse rest) named

-- values that are left
pub progress_over : (all : List Parameter) (vs : List Value) (v : Value) (more : List Value) (named : ByName) (slots : Block) (weight : ℕ)
    → Progress all [] vs (v ∷ more) named slots weight → filled_from all vs named ≡ None
progress_over all vs v more named slots weight h = h.is

-- none is left
pub progress_done : (all : List Parameter) (vs : List Value) (named : ByName) (slots : Block) (weight : ℕ) (h : Progress all [] vs [] named slots weight) → filled_from all vs named ≡ Some h.done
progress_done all vs named slots weight h = h.is ∙ ap Some (append-nil h.done)

-- ---- the names of what is filled

cons_names : (ps : List Parameter) (p : Parameter) (o : Option Filled) (rest : Option (List Filled)) (all : List Filled)
    → ((f : Filled) → o ≡ Some f → f.0 ≡ p.0) → ((more : List Filled) → rest ≡ Some more → map (λ f. f.0) more ≡ map (λ q. q.0) ps)
    → cons_some o rest ≡ Some all → map (λ f. f.0) all ≡ map (λ q. q.0) (p ∷ ps)
cons_names ps p (Some f) (Some more) all one others h =
    let same : f ∷ more ≡ all = cc in
    ap (map (λ g. g.0)) (sym same) ∙ ap (λ n. n ∷ map (λ g. g.0) more) (one f refl) ∙ ap (λ ns. p.0 ∷ ns) (others more refl)
cons_names ps p None (Some more) all one others h = absurd (cc)
cons_names ps p (Some f) None all one others h = absurd (cc)
cons_names ps p None None all one others h = absurd (cc)

pub filled_names : (ps : List Parameter) (vs : List Value) (named : ByName) (all : List Filled) → filled_from ps vs named ≡ Some all → map (λ f. f.0) all ≡ map (λ p. p.0) ps
filled_names [] [] named all h = let same : [] ≡ all = cc in ap (map (λ f. f.0)) (sym same)
filled_names [] (v ∷ vs) named all h = absurd (cc)
filled_names (p ∷ ps) [] named all h = cons_names ps p (filled_one p None named) (filled_from ps [] named) all (λ f is. filled_name p None named f is) (λ more is. filled_names ps [] named more is) h
filled_names (p ∷ ps) (v ∷ vs) named all h =
    cons_names ps p (filled_one p (Some v) named) (filled_from ps vs named) all (λ f is. filled_name p (Some v) named f is) (λ more is. filled_names ps vs named more is) (sym (step_given p ps v vs named) ∙ h)

-- the block of a call, from its parameters and the further names
pub block_is : (def : Definition Statement) (ps : List Parameter) (vs : List Value) (named : ByName) (all : List Filled) → filled_from ps vs named ≡ Some all
    → map (λ f. (f.0, Some f.1)) all ++ unbound (filter (λ name. not (is_among (map (λ p. p.0) ps) name)) (distinct (body_names def.body))) ≡ local_block def all
unfolding local_block
block_is def ps vs named all h =
    ap (λ names. map (λ f. (f.0, Some f.1)) all ++ unbound (filter (λ name. not (is_among names name)) (distinct (body_names def.body)))) (sym (filled_names ps vs named all h))

-- ---- what is filled passes a test that all values pass

pick_passes : {B : Type 0} (test : B → Bool) (o : Option B) (more : List B) → ((y : B) → o ≡ Some y → IsTrue (test y)) → IsTrue (list_all test more) → IsTrue (list_all test (cons_option o more))
pick_passes test None more h k = k
pick_passes test (Some y) more h k = and_both (test y) (list_all test more) (h y refl) k

module _ (test : Value → Bool) where
  abbrev pub default_passes : Option Value → Bool
  default_passes None = true
  default_passes (Some v) = test v

  abbrev pub passes : Parameter → Bool
  passes p = default_passes p.1

  entry_passes : (b : Bool) (x y : Value) → IsTrue (test x) → (if b then Some x else None) ≡ Some y → IsTrue (test y)
  entry_passes true x y h is = let same : x ≡ y = cc in subst (λ v. IsTrue (test v)) same h
  entry_passes false x y h is = absurd (cc)

  given_pass : (named : ByName) (name : List ℕ) → IsTrue (list_all (λ entry. test entry.1) named) → IsTrue (list_all test (given_by named name))
  given_pass [] name h = refl
  given_pass (entry ∷ named) name h =
      pick_passes test (if bytes_eq name entry.0 then Some entry.1 else None) (given_by named name)
      (λ y is. entry_passes (bytes_eq name entry.0) entry.1 y (and_left (test entry.1) (list_all (λ e. test e.1) named) h) is)
      (given_pass named name (and_right (test entry.1) (list_all (λ e. test e.1) named) h))

  named_passes : (p : Parameter) (values : List Value) (f : Filled) → IsTrue (passes p) → IsTrue (list_all test values) → filled_by_name p values ≡ Some f → IsTrue (test f.1)
  named_passes p [] f h k is = default_is p.1 h is
    where
      default_is : (o : Option Value) → IsTrue (default_passes o) → option_map (λ v. (p.0, v, Some v)) o ≡ Some f → IsTrue (test f.1)
      default_is None h is = absurd (cc)
      default_is (Some v) h is = let same : v ≡ f.1 = cc in subst (λ x. IsTrue (test x)) same h
  named_passes p (v ∷ []) f h k is = let same : v ≡ f.1 = cc in subst (λ x. IsTrue (test x)) same (and_left (test v) true k)
  named_passes p (v ∷ u ∷ vs) f h k is = absurd (cc)

  place_passes : (b : Bool) (p : Parameter) (v : Value) (f : Filled) → IsTrue (test v) → (if b then Some (p.0, v, None) else None) ≡ Some f → IsTrue (test f.1)
  place_passes true p v f h is = let same : v ≡ f.1 = cc in subst (λ x. IsTrue (test x)) same h
  place_passes false p v f h is = absurd (cc)

  cons_passes : (o : Option Filled) (rest : Option (List Filled)) (all : List Filled) → ((f : Filled) → o ≡ Some f → IsTrue (test f.1)) → ((more : List Filled) → rest ≡ Some more → IsTrue (list_all (λ f. test f.1) more))
      → cons_some o rest ≡ Some all → IsTrue (list_all (λ f. test f.1) all)
  cons_passes (Some f) (Some more) all one others h =
      let same : f ∷ more ≡ all = cc in subst (λ l. IsTrue (list_all (λ g. test g.1) l)) same (and_both (test f.1) (list_all (λ g. test g.1) more) (one f refl) (others more refl))
  cons_passes None (Some more) all one others h = absurd (cc)
  cons_passes (Some f) None all one others h = absurd (cc)
  cons_passes None None all one others h = absurd (cc)

  pub filled_pass : (ps : List Parameter) (vs : List Value) (named : ByName) (all : List Filled) → IsTrue (list_all passes ps) → IsTrue (list_all test vs) → IsTrue (list_all (λ entry. test entry.1) named)
      → filled_from ps vs named ≡ Some all → IsTrue (list_all (λ f. test f.1) all)
  filled_pass [] [] named all h k l is = let same : [] ≡ all = cc in subst (λ x. IsTrue (list_all (λ f. test f.1) x)) same refl
  filled_pass [] (v ∷ vs) named all h k l is = absurd (cc)
  filled_pass (p ∷ ps) [] named all h k l is =
      cons_passes (filled_one p None named) (filled_from ps [] named) all
      (λ f at. named_passes p (given_by named p.0) f (and_left (passes p) (list_all passes ps) h) (given_pass named p.0 l) at)
      (λ more at. filled_pass ps [] named more (and_right (passes p) (list_all passes ps) h) k l at) is
  filled_pass (p ∷ ps) (v ∷ vs) named all h k l is =
      cons_passes (filled_one p (Some v) named) (filled_from ps vs named) all
      (λ f at. place_passes (is_empty (given_by named p.0)) p v f (and_left (test v) (list_all test vs) k) at)
      (λ more at. filled_pass ps vs named more (and_right (passes p) (list_all passes ps) h) (and_right (test v) (list_all test vs) k) l at)
      (sym (step_given p ps v vs named) ∙ is)

  required_pass : (names : List (List ℕ)) (more : List Parameter) → IsTrue (list_all passes more) → IsTrue (list_all passes (map (λ name. (name, None)) names ++ more))
  required_pass [] more h = h
  required_pass (name ∷ names) more h = required_pass names more h

  defaults_pass : (ns : List (Named Expr)) (vs : List Value) → IsTrue (list_all test vs) → IsTrue (list_all passes (default_names ns vs))
  defaults_pass [] vs h = refl
  defaults_pass (n ∷ ns) [] h = refl
  defaults_pass (n ∷ ns) (v ∷ vs) h = and_both (test v) (list_all passes (default_names ns vs)) (and_left (test v) (list_all test vs) h) (defaults_pass ns vs (and_right (test v) (list_all test vs) h))

  pub parameters_pass : (def : Definition Statement) (defaults : List Value) → IsTrue (list_all test defaults) → IsTrue (list_all passes (parameters_of def defaults))
  parameters_pass def defaults h = required_pass def.required (default_names def.defaults defaults) (defaults_pass def.defaults defaults h)

-- a value that may stand in a machine
abbrev pub stands : MachineState → Value → Bool
stands m v = fits m.state.objects v && is_proper v

pub all_stand : (m : MachineState) (vs : List Value) → AllFit m vs → IsTrue (list_all (stands m) vs)
all_stand m vs h = both_all vs h.references h.proper
  where
    both_all : (vs : List Value) → IsTrue (list_all (fits m.state.objects) vs) → IsTrue (list_all is_proper vs) → IsTrue (list_all (stands m) vs)
    both_all [] h k = refl
    both_all (v ∷ vs) h k =
        and_both (stands m v) (list_all (stands m) vs)
        (and_both (fits m.state.objects v) (is_proper v) (and_left (fits m.state.objects v) (list_all (fits m.state.objects) vs) h) (and_left (is_proper v) (list_all is_proper vs) k))
        (both_all vs (and_right (fits m.state.objects v) (list_all (fits m.state.objects) vs) h) (and_right (is_proper v) (list_all is_proper vs) k))

named_stand : (m : MachineState) (named : ByName) → IsTrue (list_all (stands m) (map (λ entry. entry.1) named)) → IsTrue (list_all (λ entry. stands m entry.1) named)
named_stand m [] h = refl
named_stand m (e ∷ es) h = and_both (stands m e.1) (list_all (λ entry. stands m entry.1) es) (and_left (stands m e.1) (list_all (stands m) (map (λ entry. entry.1) es)) h) (named_stand m es (and_right (stands m e.1) (list_all (stands m) (map (λ entry. entry.1) es)) h))

unbound_fit : (m : MachineState) (names : List (List ℕ)) → IsTrue (list_all (slot_fits m) (unbound names))
unbound_fit m [] = refl
unbound_fit m (name ∷ names) = unbound_fit m names

local_fit : (m : MachineState) (all : List Filled) (names : List (List ℕ)) → IsTrue (list_all (λ f. stands m f.1) all) → IsTrue (list_all (slot_fits m) (map (λ f. (f.0, Some f.1)) all ++ unbound names))
local_fit m [] names h = unbound_fit m names
local_fit m (f ∷ all) names h =
    and_both (stands m f.1) (list_all (slot_fits m) (map (λ g. (g.0, Some g.1)) all ++ unbound names)) (and_left (stands m f.1) (list_all (λ g. stands m g.1) all) h)
    (local_fit m all names (and_right (stands m f.1) (list_all (λ g. stands m g.1) all) h))

-- the block of a call may stand in the machine
pub block_stands : (m : MachineState) (def : Definition Statement) (defaults vs : List Value) (named : ByName) (all : List Filled)
    → AllFit m defaults → AllFit m vs → AllFit m (map (λ entry. entry.1) named) → filled_from (parameters_of def defaults) vs named ≡ Some all → IsTrue (block_fits m (local_block def all))
unfolding block_fits local_block
block_stands m def defaults vs named all h k l is =
    local_fit m all (filter (λ name. not (is_among (map (λ f. f.0) all) name)) (distinct (body_names def.body)))
    (filled_pass (stands m) (parameters_of def defaults) vs named all (parameters_pass (stands m) def defaults (all_stand m defaults h)) (all_stand m vs k) (named_stand m named (all_stand m (map (λ entry. entry.1) named) l)) is)

-- where each name that is given is a parameter's, the parameters are filled one after the other
pub filled_is : (ps : List Parameter) (vs : List Value) (named : ByName) → list_all (λ entry. is_among (map (λ p. p.0) ps) entry.0) named ≡ true → filled ps vs named ≡ filled_from ps vs named
unfolding filled
filled_is ps vs named h = ap (λ b. if b then filled_from ps vs named else None) h

pub not_filled : (ps : List Parameter) (vs : List Value) (named : ByName) → list_all (λ entry. is_among (map (λ p. p.0) ps) entry.0) named ≡ false → filled ps vs named ≡ None
unfolding filled
not_filled ps vs named h = ap (λ b. if b then filled_from ps vs named else None) h
