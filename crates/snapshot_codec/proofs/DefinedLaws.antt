-- What the tests of references say of the parts that were read, and that the tables say which functions are defined.
use Rattle.std.proofs.Common.{◌≡◌, ◌<◌, ◌≤◌, ◌+◌, ℕ, Bool, true, false, ◌||◌, List, [], ◌∷◌, ◌++◌, length, map, drop, get_or, Option, Some, None, slice_get, refl, sym, ap, ◌∙◌, append_assoc, append-nil}
use Rattle.std.specs.Prelude.{◌==◌, ◌&&◌, is_some, option_map, option_and_then}
use Rattle.std.specs.List.{cons_option, list_all, list_any}
use Rattle.std.proofs.lemmas.Bool.{eqb-true}
use Rattle.std.proofs.lemmas.List.{at_drop_all, drop_more, map_push}
use Rattle.std.proofs.lemmas.Option.{get_or_from_slice_get, slice_get-map, slice_get_within}
use Rattle.heap_store.proofs.References.{key_fits}
use Rattle.star_syntax.specs.declared.cell.Program.{Program}
use Rattle.star_syntax.specs.declared.statement.Definition.{Definition}
use Rattle.star_syntax.specs.declared.statement.Statement.{Statement}
use Rattle.star_syntax.specs.CellParts.{CellParts}
use Rattle.star_syntax.specs.Cells.{def_of, functions_of, numbered}
use Rattle.star_value.specs.declared.key.Key.{Key}
use Rattle.star_value.specs.declared.value.Value.{Value}
use Rattle.star_meaning.specs.Cells.{function_in}
use Rattle.star_meaning.specs.State.{Object, AList, ADict, AFunction}
use Rattle.star_meaning.specs.Validity.{MachineState, all_in, all_in_object, all_in_pair, fits, function_at, has_defaults, is_defined}
use Rattle.snapshot_codec.specs.declared.content.Content.{Content}
use Rattle.snapshot_codec.specs.declared.content.Content.TheVariants as content
use Rattle.snapshot_codec.specs.declared.refers.Defined.{Defined}
use Rattle.snapshot_codec.specs.Contents.{object_of}
use Rattle.snapshot_codec.specs.Defined.{counts_at, counts_in, has_count, has_function, is_defined_in, table, table_of, tables_of}
use Rattle.snapshot_codec.specs.Reading.{refers}

-- ---- tables

count_of : (n : ℕ) (defaults : List Value) (o : Option (Definition Statement)) → length defaults ≡ n → has_count n (option_map (λ (def : Definition Statement). length def.defaults) o) ≡ has_defaults defaults o
count_of n defaults None e = refl
count_of n defaults (Some def) e = ap (λ (k : ℕ). k == length def.defaults) (sym e)

cell_has : (number : ℕ) (defaults : List Value) (o : Option CellParts) → has_count (length defaults) (slice_get (counts_in o) number) ≡ has_defaults defaults (option_and_then (λ cell. function_in cell number) o)
cell_has number defaults None = refl
cell_has number defaults (Some cell) =
    ap (has_count (length defaults)) (slice_get-map (λ (def : Definition Statement). length def.defaults) (functions_of cell.«module».statements) number)
    ∙ count_of (length defaults) defaults (slice_get (functions_of cell.«module».statements) number) refl

node_has : (program : Program) (node number : ℕ) (defaults : List Value) → has_count (length defaults) (slice_get (counts_at program node) number) ≡ has_defaults defaults (function_at program node number)
unfolding counts_at function_at
node_has program node number defaults = cell_has number defaults (numbered program.cells node)

-- where a test is of one cell, some node that ran passes it where that cell ran and passes it
some_node : (cell : ℕ) (test : ℕ → Bool) (here : Bool) → test cell ≡ here → (ran : List ℕ) → list_any (λ node. (node == cell) && test node) ran ≡ (list_any (λ node. node == cell) ran && here)
some_node cell test here is [] = refl
some_node cell test here is (node ∷ ran) = by (node == cell) refl here is (list_any (λ n. (n == cell) && test n) ran) (list_any (λ n. n == cell) ran) (some_node cell test here is ran)
  where
    by : (t : Bool) → (node == cell) ≡ t → (h : Bool) → test cell ≡ h → (a b : Bool) → a ≡ (b && h) → ((t && test node) || a) ≡ ((t || b) && h)
    by true e true f a b g = let same = eqb-true node cell e in ap (λ (k : Bool). k || a) (ap test same ∙ f)
    by true e false f a true g = let same = eqb-true node cell e in ap (λ (k : Bool). k || a) (ap test same ∙ f) ∙ g
    by true e false f a false g = let same = eqb-true node cell e in ap (λ (k : Bool). k || a) (ap test same ∙ f) ∙ g
    by false e h f a b g = g

any_of_map : {X Y : Type 0} (test : Y → Bool) (f : X → Y) (xs : List X) → list_any test (map f xs) ≡ list_any (λ x. test (f x)) xs
any_of_map test f [] = refl
any_of_map test f (x ∷ xs) = ap (λ (t : Bool). test (f x) || t) (any_of_map test f xs)

pub defined_in : (program : Program) (ran : List ℕ) (o : Object ℕ) → is_defined_in (tables_of program ran) o ≡ is_defined program ran o
defined_in program ran (AList items) = refl
defined_in program ran (ADict pairs) = refl
defined_in program ran (AFunction cell number defaults) =
    any_of_map (has_function cell number (length defaults)) (λ node. table node (counts_at program node)) ran
    ∙ some_node cell (λ node. has_count (length defaults) (slice_get (counts_at program node) number)) (has_defaults defaults (function_at program cell number)) (node_has program cell number defaults) ran

all_same : {X : Type 0} (p q : X → Bool) → ((x : X) → p x ≡ q x) → (xs : List X) → list_all p xs ≡ list_all q xs
all_same p q same [] = refl
all_same p q same (x ∷ xs) = λ i. same x i && all_same p q same xs i

pub all_defined : (program : Program) (ran : List ℕ) (os : List (Object ℕ)) → list_all (is_defined_in (tables_of program ran)) os ≡ list_all (is_defined program ran) os
all_defined program ran os = all_same (is_defined_in (tables_of program ran)) (is_defined program ran) (defined_in program ran) os

-- ---- one more item of a loop

next_is : {X : Type 0} (xs : List X) (i : ℕ) (x : X) → slice_get xs i ≡ Some x → drop i xs ≡ x ∷ drop (i + 1) xs
next_is xs i x e = drop_more xs i x (slice_get_within xs i x e) ∙ ap (λ y. y ∷ drop (i + 1) xs) (get_or_from_slice_get xs i x x e)

item_is : {X : Type 0} (xs : List X) (i : ℕ) (x : X) → i < length xs → x ≡ get_or xs i x → drop i xs ≡ x ∷ drop (i + 1) xs
item_is xs i x lt e = drop_more xs i x lt ∙ ap (λ y. y ∷ drop (i + 1) xs) (sym e)

-- ---- references

-- a test of the object of a number
pub held_some : (test : Option (Object ℕ) → Bool) (os : List Content) (id place : ℕ) (x : Content) (r : Bool) → place ≡ id → Some x ≡ slice_get os place → r ≡ test (Some (object_of x)) → r ≡ test (slice_get (map object_of os) id)
held_some test os id place x r same is q =
    q ∙ ap (λ (o : Option Content). test (option_map object_of o)) (is ∙ ap (slice_get os) same) ∙ ap test (sym (slice_get-map object_of os id))

pub held_none : (test : Option (Object ℕ) → Bool) (os : List Content) (id place : ℕ) → place ≡ id → None ≡ slice_get os place → test None ≡ test (slice_get (map object_of os) id)
held_none test os id place same is = ap (λ (o : Option Content). test (option_map object_of o)) (is ∙ ap (slice_get os) same) ∙ ap test (sym (slice_get-map object_of os id))

-- a key refers to nothing
one_pair : (os : List (Object ℕ)) (pair : Key × Value) → all_in_pair (fits os) pair ≡ fits os pair.1
one_pair os pair = ap (λ (t : Bool). t && fits os pair.1) (key_fits os pair.0)

module _ (os : List (Object ℕ)) (pairs : List (Key × Value)) (place : ℕ) where
  abbrev test : Key × Value → Bool
  test = all_in_pair (fits os)

  pub pair_fails : (pair : Key × Value) → slice_get pairs place ≡ Some pair → fits os pair.1 ≡ false → list_all test (drop place pairs) ≡ list_all test pairs → false ≡ list_all test pairs
  pair_fails pair e not_so so_far =
      let first : list_all test (drop place pairs) ≡ (test pair && list_all test (drop (place + 1) pairs)) = ap (list_all test) (next_is pairs place pair e) in
      sym (sym so_far ∙ first ∙ ap (λ (b : Bool). b && list_all test (drop (place + 1) pairs)) (one_pair os pair ∙ not_so))

  pub pair_passes : (pair : Key × Value) → slice_get pairs place ≡ Some pair → fits os pair.1 ≡ true → list_all test (drop place pairs) ≡ list_all test pairs → list_all test (drop (place + 1) pairs) ≡ list_all test pairs
  pair_passes pair e so so_far =
      let first : list_all test (drop place pairs) ≡ (test pair && list_all test (drop (place + 1) pairs)) = ap (list_all test) (next_is pairs place pair e) in
      sym (first ∙ ap (λ (b : Bool). b && list_all test (drop (place + 1) pairs)) (one_pair os pair ∙ so)) ∙ so_far

  pub pairs_end : length pairs ≤ place → list_all test (drop place pairs) ≡ list_all test pairs → true ≡ list_all test pairs
  pairs_end past so_far = sym (at_drop_all (list_all test) pairs place past) ∙ so_far

module _ (os S : List Content) (gs G : List (List ℕ × Value)) where
  pub numbers_first : S ≡ os → G ≡ gs → false ≡ list_all (λ g. fits (map object_of S) g.1) G
      → false ≡ (list_all (λ g. fits (map object_of os) g.1) gs && list_all (all_in_object (fits (map object_of os))) (map object_of os))
  numbers_first so sg h =
      let moved : false ≡ list_all (λ g. fits (map object_of os) g.1) gs = h ∙ (λ i. list_all (λ g. fits (map object_of (so i)) g.1) (sg i)) in
      ap (λ (t : Bool). t && list_all (all_in_object (fits (map object_of os))) (map object_of os)) moved

  pub numbers_both : (r : Bool) → S ≡ os → G ≡ gs → true ≡ list_all (λ g. fits (map object_of S) g.1) G → r ≡ list_all (all_in_object (fits (map object_of S))) (map object_of S)
      → r ≡ (list_all (λ g. fits (map object_of os) g.1) gs && list_all (all_in_object (fits (map object_of os))) (map object_of os))
  numbers_both r so sg first second =
      let moved : true ≡ list_all (λ g. fits (map object_of os) g.1) gs = first ∙ (λ i. list_all (λ g. fits (map object_of (so i)) g.1) (sg i)) in
      let others : r ≡ list_all (all_in_object (fits (map object_of os))) (map object_of os) = second ∙ (λ i. list_all (all_in_object (fits (map object_of (so i)))) (map object_of (so i))) in
      others ∙ ap (λ (t : Bool). t && list_all (all_in_object (fits (map object_of os))) (map object_of os)) moved

-- ---- counts of a cell's functions

abbrev pub defaults_of : Definition Statement → ℕ
defaults_of def = length def.defaults

abbrev pub counted_in : List Statement → List ℕ
counted_in xs = map defaults_of (functions_of xs)

map_cons : (o : Option (Definition Statement)) (rest : List (Definition Statement)) → map defaults_of (cons_option o rest) ≡ cons_option (option_map defaults_of o) (map defaults_of rest)
map_cons None rest = refl
map_cons (Some def) rest = refl

module _ (xs : List Statement) (i : ℕ) (s : Statement) where
  counts_step : i < length xs → s ≡ get_or xs i s → counted_in (drop i xs) ≡ cons_option (option_map defaults_of (def_of s)) (counted_in (drop (i + 1) xs))
  counts_step lt e = ap counted_in (item_is xs i s lt e) ∙ map_cons (def_of s) (functions_of (drop (i + 1) xs))

  pub counts_pass : (counts : List ℕ) → i < length xs → s ≡ get_or xs i s → option_map defaults_of (def_of s) ≡ None → counts ++ counted_in (drop i xs) ≡ counted_in xs → counts ++ counted_in (drop (i + 1) xs) ≡ counted_in xs
  counts_pass counts lt e none so_far =
      let step : counted_in (drop i xs) ≡ counted_in (drop (i + 1) xs) = counts_step lt e ∙ ap (λ (o : Option ℕ). cons_option o (counted_in (drop (i + 1) xs))) none in
      ap (λ (ys : List ℕ). counts ++ ys) (sym step) ∙ so_far

  pub counts_more : (count : ℕ) (counts new : List ℕ) → i < length xs → s ≡ get_or xs i s → Some count ≡ option_map defaults_of (def_of s) → new ≡ counts ++ count ∷ [] → counts ++ counted_in (drop i xs) ≡ counted_in xs
      → new ++ counted_in (drop (i + 1) xs) ≡ counted_in xs
  counts_more count counts new lt e some push so_far =
      let step : counted_in (drop i xs) ≡ count ∷ counted_in (drop (i + 1) xs) = counts_step lt e ∙ ap (λ (o : Option ℕ). cons_option o (counted_in (drop (i + 1) xs))) (sym some) in
      ap (λ (ys : List ℕ). ys ++ counted_in (drop (i + 1) xs)) push ∙ append_assoc counts (count ∷ []) (counted_in (drop (i + 1) xs)) ∙ ap (λ (ys : List ℕ). counts ++ ys) (sym step) ∙ so_far

pub counts_end : (xs : List Statement) (i : ℕ) (counts : List ℕ) → length xs ≤ i → counts ++ counted_in (drop i xs) ≡ counted_in xs → counts ≡ counted_in xs
counts_end xs i counts past so_far = sym (append-nil counts) ∙ ap (λ (ys : List ℕ). counts ++ ys) (sym (at_drop_all counted_in xs i past)) ∙ so_far

-- ---- tables of the cells that ran

module _ (program : Program) (ran : List ℕ) (i : ℕ) where
  pub tables_more : (node : ℕ) (before after : List Defined) (d : Defined) → i < length ran → node ≡ get_or ran i node → table_of d ≡ table node (counts_at program node) → after ≡ before ++ d ∷ []
      → map table_of before ++ tables_of program (drop i ran) ≡ tables_of program ran → map table_of after ++ tables_of program (drop (i + 1) ran) ≡ tables_of program ran
  tables_more node before after d lt e made push so_far =
      let T : List (ℕ × List ℕ) = tables_of program (drop (i + 1) ran) in
      let step : tables_of program (drop i ran) ≡ table node (counts_at program node) ∷ T = ap (tables_of program) (item_is ran i node lt e) in
      ap (λ (ds : List Defined). map table_of ds ++ T) push ∙ ap (λ (ts : List (ℕ × List ℕ)). ts ++ T) (map_push table_of before d) ∙ append_assoc (map table_of before) (table_of d ∷ []) T
      ∙ ap (λ (t : ℕ × List ℕ). map table_of before ++ (t ∷ T)) made ∙ ap (λ (ts : List (ℕ × List ℕ)). map table_of before ++ ts) (sym step) ∙ so_far

  pub tables_end : (made : List Defined) → length ran ≤ i → map table_of made ++ tables_of program (drop i ran) ≡ tables_of program ran → map table_of made ≡ tables_of program ran
  tables_end made past so_far =
      sym (append-nil (map table_of made)) ∙ ap (λ (ts : List (ℕ × List ℕ)). map table_of made ++ ts) (sym (at_drop_all (tables_of program) ran i past)) ∙ so_far

pub function_defined : (tables : List (ℕ × List ℕ)) (o : Content) (cell number : ℕ) (defaults : List Value) (n : ℕ) (r : Bool) → o ≡ content.Function cell number defaults → n ≡ length defaults → r ≡ list_any (has_function cell number n) tables
    → r ≡ is_defined_in tables (object_of o)
function_defined tables o cell number defaults n r is count any =
    any ∙ ap (λ (k : ℕ). list_any (has_function cell number k) tables) count ∙ ap (λ (x : Content). is_defined_in tables (object_of x)) (sym is)

pub defined_all : (program : Program) (ran R : List ℕ) (os S : List Content) (ts T : List Defined) (r : Bool) → R ≡ ran → S ≡ os → T ≡ ts → map table_of ts ≡ tables_of program R → r ≡ list_all (is_defined_in (map table_of T)) (map object_of S)
    → r ≡ list_all (is_defined program ran) (map object_of os)
defined_all program ran R os S ts T r sr so st made all =
    all ∙ (λ i. list_all (is_defined_in (map table_of (st i))) (map object_of (so i)))
    ∙ ap (λ (tables : List (ℕ × List ℕ)). list_all (is_defined_in tables) (map object_of os)) (made ∙ ap (tables_of program) sr) ∙ all_defined program ran (map object_of os)

-- ---- the whole

module _ (program : Program) (m : MachineState) where
  abbrev known : Bool
  known = list_all (λ node. is_some (numbered program.cells node)) m.ran

  abbrev defined : Bool
  defined = list_all (is_defined program m.ran) m.state.objects

  pub refers_first : false ≡ all_in (fits m.state.objects) m.state → false ≡ refers program m
  unfolding refers
  refers_first not_so = ap (λ (t : Bool). t && (known && defined)) not_so

  pub refers_second : true ≡ all_in (fits m.state.objects) m.state → false ≡ known → false ≡ refers program m
  unfolding refers
  refers_second so not_so = λ i. so i && (not_so i && defined)

  pub refers_all : (r : Bool) → true ≡ all_in (fits m.state.objects) m.state → true ≡ known → r ≡ defined → r ≡ refers program m
  unfolding refers
  refers_all r so both all = all ∙ (λ i. so i && (both i && defined))
