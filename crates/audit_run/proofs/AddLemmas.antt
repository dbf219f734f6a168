-- The rows of versions, one version after the other: each cell adds a row where its node has none.
use Rattle.std.proofs.Common.{◌≡◌, ℕ, zero, suc, ◌+◌, ◌*◌, ◌<◌, ◌≤◌, ◌==◌, Bool, true, false, cond, List, [], ◌∷◌, ◌++◌, length, get_or, take, drop, map, Some, slice_get, refl, sym, ap, ◌∙◌, subst, arith, append_assoc, append-nil}
use Rattle.std.specs.List.{AllZip, Contains, enumerate_from, flat_map, list_any, sum}
use Rattle.std.proofs.lemmas.Bool.Decides.{Decides-eqb}
use Rattle.std.proofs.lemmas.Grind.{flat_map-append}
use Rattle.std.proofs.lemmas.List.{length-map, map-append, take-append-drop, take_more}
use Rattle.std.proofs.lemmas.List.Sums.{sum_by-append}
use Rattle.std.proofs.lemmas.Option.{slice_get_within}
use Rattle.star_syntax.specs.declared.cell.Program.{Program}
use Rattle.star_syntax.specs.CellParts.{CellParts}
use Rattle.star_meaning.specs.Cells.{steps}
use Rattle.plan_type.specs.declared.row.Row.{Row}
use Rattle.exec_tree.specs.declared.checked.Checked.{Checked}
use Rattle.exec_tree.specs.Prefixes.{Prefix, firsts, keys, number_of, prefixes, prefixes_of, same_prefix}
use Rattle.exec_tree.specs.Forests.{ForestParts, cells_of, forest_of, node_of}
use Rattle.audit_run.specs.Rows.{AreRows, IsRow}
use Rattle.audit_run.specs.Visits.{Visit, nodes_of, program_of, same_node, steps_of_all, visit_at, visits, visits_of}
use Rattle.audit_run.proofs.MeasuringLemmas.{drop_next, take_all, visit_there, visits_long}
use Rattle.audit_run.proofs.TreeLemmas.{has, length-nodes_of, node_at, number_is, place}
use Rattle.audit_run.proofs.VisitLemmas.{IsNext, beginnings, firsts_beginnings, is_next, met_beginning, visits_push, zip_long, zip_push}
use Rattle.audit_run.proofs.WayLemmas.{element, no_prefix, read_at}

-- ---- lists

pub zip_at : {A B : Type 0} (R : A → B → Type 0) (xs : List A) (ys : List B) (k : ℕ) (x : A) (y : B) → AllZip R xs ys → k < length ys → R (get_or xs k x) (get_or ys k y)
zip_at R [] [] k x y h less = absurd (omega (arith, less))
zip_at R [] (b ∷ ys) k x y h less = absurd h
zip_at R (a ∷ xs) [] k x y h less = absurd h
zip_at R (a ∷ xs) (b ∷ ys) zero x y h less = h.0
zip_at R (a ∷ xs) (b ∷ ys) (suc k) x y h less = zip_at R xs ys k x y h.1 (omega (arith, less))

default_at : (xs : List ℕ) (k d e : ℕ) → k < length xs → get_or xs k d ≡ get_or xs k e
default_at [] k d e less = absurd (omega (arith, less))
default_at (x ∷ xs) zero d e less = refl
default_at (x ∷ xs) (suc k) d e less = default_at xs k d e (omega (arith, less))

differ : (a b : ℕ) (t : Bool) → t ≡ (a == b) → (a ≡ b → ⊥) → t ≡ false
differ a b true is h = absurd (h ((Decides-eqb a b).0 (sym is)))
differ a b false is h = refl

-- an item that is one of these stays, and another is added
one_added : {A B : Type 0} (R : A → B → Type 0) (xs : List A) (x : A) (t wanted : Bool) (ys more : List B) (y : B) → AllZip R xs ys → R x y
    → (t ≡ true → wanted ≡ false) → (t ≡ false → wanted ≡ true) → more ≡ ys ++ cond wanted (y ∷ []) [] → AllZip R (cond t xs (xs ++ x ∷ [])) more
one_added {A} {B} R xs x true wanted ys more y done is known new pushed =
    subst (λ (l : List B). AllZip R xs l) (sym (pushed ∙ (ap (λ (w : Bool). ys ++ cond w (y ∷ []) []) (known refl) ∙ append-nil ys))) done
one_added {A} {B} R xs x false wanted ys more y done is known new pushed =
    subst (λ (l : List B). AllZip R (xs ++ x ∷ []) l) (sym (pushed ∙ ap (λ (w : Bool). ys ++ cond w (y ∷ []) []) (new refl))) (zip_push R xs ys x y done is)

-- ---- all visits, and their beginnings

begin_from : (versions : List Checked) (allowance : ℕ) (v : Checked) (n : ℕ) (ps : List Prefix) → beginnings (map (visit_at versions allowance v) (enumerate_from n ps)) ≡ ps
begin_from versions allowance v n [] = refl
begin_from versions allowance v n (p ∷ ps) = ap (λ (l : List Prefix). p ∷ l) (begin_from versions allowance v (n + 1) ps)

begin_all : (versions : List Checked) (allowance : ℕ) (vs : List Checked) → beginnings (flat_map (visits_of versions allowance) vs) ≡ flat_map prefixes_of vs
begin_all versions allowance [] = refl
begin_all versions allowance (v ∷ vs) =
    map-append (λ (x : Visit). x.prefix) (visits_of versions allowance v) (flat_map (visits_of versions allowance) vs)
    ∙ (ap (λ (l : List Prefix). l ++ beginnings (flat_map (visits_of versions allowance) vs)) (begin_from versions allowance v 0 (prefixes_of v))
    ∙ ap (λ (l : List Prefix). prefixes_of v ++ l) (begin_all versions allowance vs))

-- the beginnings of the rows' visits are the tree's
pub visits_prefixes : (versions : List Checked) (allowance : ℕ) → beginnings (visits versions allowance) ≡ prefixes versions
unfolding prefixes
visits_prefixes versions allowance = firsts_beginnings (flat_map (visits_of versions allowance) versions) ∙ ap (firsts same_prefix) (begin_all versions allowance versions)

-- so there are as many rows as nodes
pub rows_long : (versions : List Checked) (allowance : ℕ) (rows : List Row) → AreRows versions allowance rows → length rows ≡ length (prefixes versions)
rows_long versions allowance rows h =
    sym (zip_long (IsRow (prefixes versions)) (visits versions allowance) rows h)
    ∙ (sym (length-map (visits versions allowance) (λ (x : Visit). x.prefix)) ∙ ap length (visits_prefixes versions allowance))

pub nodes_long : (versions : List Checked) → length (forest_of versions).nodes ≡ length (prefixes versions)
unfolding forest_of
nodes_long versions = length-map (prefixes versions) (node_of (prefixes versions))

-- ---- a version after others

-- what the versions before this place visit, and then the first cells of the version at it
abbrev pub done_at : List Checked → ℕ → ℕ → Checked → ℕ → List Visit
done_at versions allowance i v k = flat_map (visits_of versions allowance) (take i versions) ++ take k (visits_of versions allowance v)

pub adding_starts : (versions : List Checked) (allowance i : ℕ) (v : Checked) (rows : List Row)
    → AllZip (IsRow (prefixes versions)) (firsts same_node (flat_map (visits_of versions allowance) (take i versions))) rows
    → AllZip (IsRow (prefixes versions)) (firsts same_node (done_at versions allowance i v 0)) rows
adding_starts versions allowance i v rows h =
    subst (λ (vs : List Visit). AllZip (IsRow (prefixes versions)) (firsts same_node vs) rows) (sym (append-nil (flat_map (visits_of versions allowance) (take i versions)))) h

-- the versions up to this one
taken : (versions : List Checked) (i : ℕ) (v : Checked) → slice_get versions i ≡ Some v → take (i + 1) versions ≡ take i versions ++ v ∷ []
taken versions i v here =
    take_more versions i v (slice_get_within versions i v here) ∙ ap (λ (w : Checked). take i versions ++ w ∷ []) (read_at versions i v v here)

version_added : (versions : List Checked) (allowance i : ℕ) (v : Checked) → slice_get versions i ≡ Some v
    → flat_map (visits_of versions allowance) (take (i + 1) versions) ≡ flat_map (visits_of versions allowance) (take i versions) ++ visits_of versions allowance v
version_added versions allowance i v here =
    ap (flat_map (visits_of versions allowance)) (taken versions i v here)
    ∙ (flat_map-append (visits_of versions allowance) (take i versions) (v ∷ [])
    ∙ ap (λ (l : List Visit). flat_map (visits_of versions allowance) (take i versions) ++ l) (append-nil (visits_of versions allowance v)))

pub adding_ends : (versions : List Checked) (allowance i : ℕ) (v : Checked) (fresh got : List Row) (k : ℕ) (rows : List Row) → slice_get versions i ≡ Some v
    → got ≡ fresh → AllZip (IsRow (prefixes versions)) (visits_of versions allowance v) fresh → length got ≤ k
    → AllZip (IsRow (prefixes versions)) (firsts same_node (done_at versions allowance i v k)) rows
    → AllZip (IsRow (prefixes versions)) (firsts same_node (flat_map (visits_of versions allowance) (take (i + 1) versions))) rows
adding_ends versions allowance i v fresh got k rows here same zipped past h =
    let long : length (visits_of versions allowance v) ≡ length got = zip_long (IsRow (prefixes versions)) (visits_of versions allowance v) fresh zipped ∙ ap length (sym same) in
    let whole : take k (visits_of versions allowance v) ≡ visits_of versions allowance v = take_all (visits_of versions allowance v) k (omega (arith, long, past)) in
    subst (λ (vs : List Visit). AllZip (IsRow (prefixes versions)) (firsts same_node vs) rows)
    (ap (λ (l : List Visit). flat_map (visits_of versions allowance) (take i versions) ++ l) whole ∙ sym (version_added versions allowance i v here)) h

-- a cell of the version
abbrev cell_visit : List Checked → ℕ → Checked → ℕ → Visit
cell_visit versions allowance v k = visit_at versions allowance v (k, get_or (prefixes_of v) k no_prefix)

cell_added : (versions : List Checked) (allowance i : ℕ) (v : Checked) (k : ℕ) → k < length v.cells
    → done_at versions allowance i v (k + 1) ≡ done_at versions allowance i v k ++ cell_visit versions allowance v k ∷ []
cell_added versions allowance i v k less =
    let vs : List Visit = visits_of versions allowance v in
    let x : Visit = cell_visit versions allowance v k in
    let before : List Visit = flat_map (visits_of versions allowance) (take i versions) in
    let more : take (k + 1) vs ≡ take k vs ++ x ∷ [] =
    take_more vs k x (omega (arith, less, visits_long versions allowance v)) ∙ ap (λ (y : Visit). take k vs ++ y ∷ []) (visit_there versions allowance v k x no_prefix less) in
    ap (λ (l : List Visit). before ++ l) more ∙ sym (append_assoc before (take k vs) (x ∷ []))

-- all visits: those before the cell, the cell's, and those after it
after_cell : List Checked → ℕ → ℕ → Checked → ℕ → List Visit
after_cell versions allowance i v k = drop (suc k) (visits_of versions allowance v) ++ flat_map (visits_of versions allowance) (drop (suc i) versions)

cell_among : (versions : List Checked) (allowance i : ℕ) (v : Checked) (k : ℕ) → slice_get versions i ≡ Some v → k < length v.cells
    → flat_map (visits_of versions allowance) versions ≡ done_at versions allowance i v k ++ cell_visit versions allowance v k ∷ after_cell versions allowance i v k
unfolding after_cell
cell_among versions allowance i v k here less =
    let f = visits_of versions allowance in
    let vs : List Visit = f v in
    let x : Visit = cell_visit versions allowance v k in
    let before : List Visit = flat_map f (take i versions) in
    let behind : List Visit = flat_map f (drop (suc i) versions) in
    let rest : drop i versions ≡ v ∷ drop (suc i) versions =
    drop_next versions i v (slice_get_within versions i v here) ∙ ap (λ (w : Checked). w ∷ drop (suc i) versions) (read_at versions i v v here) in
    let cut : flat_map f versions ≡ before ++ flat_map f (drop i versions) =
    ap (flat_map f) (sym (take-append-drop i versions)) ∙ flat_map-append f (take i versions) (drop i versions) in
    let here_on : drop k vs ≡ x ∷ drop (suc k) vs =
    drop_next vs k x (omega (arith, less, visits_long versions allowance v)) ∙ ap (λ (y : Visit). y ∷ drop (suc k) vs) (visit_there versions allowance v k x no_prefix less) in
    let own : vs ≡ take k vs ++ x ∷ drop (suc k) vs = sym (take-append-drop k vs) ∙ ap (λ (l : List Visit). take k vs ++ l) here_on in
    let both : flat_map f (drop i versions) ≡ take k vs ++ (x ∷ (drop (suc k) vs ++ behind)) =
    ap (flat_map f) rest ∙ (ap (λ (l : List Visit). l ++ behind) own ∙ append_assoc (take k vs) (x ∷ drop (suc k) vs) behind) in
    cut ∙ (ap (λ (l : List Visit). before ++ l) both ∙ sym (append_assoc before (take k vs) (x ∷ (drop (suc k) vs ++ behind))))

prefixes_are : (versions : List Checked) → firsts same_prefix (flat_map prefixes_of versions) ≡ prefixes versions
unfolding prefixes
prefixes_are versions = refl

-- where the cell's beginning stands among all
next_at : (versions : List Checked) (allowance i : ℕ) (v : Checked) (k : ℕ) → slice_get versions i ≡ Some v → k < length v.cells
    → IsNext (beginnings (firsts same_node (done_at versions allowance i v k))) (prefixes versions) (cell_visit versions allowance v k).prefix
next_at versions allowance i v k here less =
    let done : List Visit = done_at versions allowance i v k in
    let x : Visit = cell_visit versions allowance v k in
    let more : List Visit = after_cell versions allowance i v k in
    let all : beginnings done ++ x.prefix ∷ beginnings more ≡ flat_map prefixes_of versions =
    sym (map-append (λ (w : Visit). w.prefix) done (x ∷ more)) ∙ (ap beginnings (sym (cell_among versions allowance i v k here less)) ∙ begin_all versions allowance versions) in
    subst (λ (known : List Prefix). IsNext known (prefixes versions) x.prefix) (sym (firsts_beginnings done))
    (subst (λ (ps : List Prefix). IsNext (firsts same_prefix (beginnings done)) ps x.prefix) (ap (firsts same_prefix) all ∙ prefixes_are versions)
    (is_next (beginnings done) (beginnings more) x.prefix))

-- a cell's row is added where its node has none
pub adding_more : (versions : List Checked) (allowance i : ℕ) (v : Checked) (ns : List ℕ) (fresh got : List Row) (k node count : ℕ) (wanted : Bool) (rows more : List Row) (row : Row)
    → slice_get versions i ≡ Some v → ns ≡ nodes_of (prefixes versions) v → got ≡ fresh → AllZip (IsRow (prefixes versions)) (visits_of versions allowance v) fresh
    → k < length got → node ≡ get_or ns k node → row ≡ get_or got k row → count ≡ length rows → wanted ≡ (node == (count + 1)) → more ≡ rows ++ cond wanted (row ∷ []) []
    → AllZip (IsRow (prefixes versions)) (firsts same_node (done_at versions allowance i v k)) rows
    → AllZip (IsRow (prefixes versions)) (firsts same_node (done_at versions allowance i v (k + 1))) more
adding_more versions allowance i v ns fresh got k node count wanted rows more row here nodes same zipped less read row_is counted wanted_is pushed h =
    let vs : List Visit = visits_of versions allowance v in
    let there : Contains versions v = element versions i v here in
    let long : length vs ≡ length got = zip_long (IsRow (prefixes versions)) vs fresh zipped ∙ ap length (sym same) in
    let within : k < length v.cells = omega (arith, long, less, visits_long versions allowance v) in
    let x : Visit = cell_visit versions allowance v k in
    let done : List Visit = done_at versions allowance i v k in
    let known : List Visit = firsts same_node done in
    let at : node ≡ 1 + place (prefixes versions) x.prefix =
    read ∙ (ap (λ (l : List ℕ). get_or l k node) nodes
    ∙ (default_at (nodes_of (prefixes versions) v) k node 0 (omega (arith, within, length-nodes_of versions v there))
    ∙ (node_at versions v there k no_prefix within ∙ number_is (prefixes versions) x.prefix))) in
    let is_row : IsRow (prefixes versions) x row =
    subst (λ (y : Visit). IsRow (prefixes versions) y row) (visit_there versions allowance v k x no_prefix within)
    (subst (λ (y : Row). IsRow (prefixes versions) (get_or vs k x) y) (ap (λ (l : List Row). get_or l k row) (sym same) ∙ sym row_is)
    (zip_at (IsRow (prefixes versions)) vs fresh k x row zipped (omega (arith, less, ap length same)))) in
    let next : IsNext (beginnings known) (prefixes versions) x.prefix = next_at versions allowance i v k here within in
    let size : length (beginnings known) ≡ count = length-map known (λ (w : Visit). w.prefix) ∙ (zip_long (IsRow (prefixes versions)) known rows h ∙ sym counted) in
    let met : Bool = list_any (λ y. same_node y x) known in
    let before : met ≡ true → wanted ≡ false = λ is. differ node (count + 1) wanted wanted_is
    (λ e. let low : place (prefixes versions) x.prefix < length (beginnings known) = next.known_before (sym (met_beginning x known) ∙ is) in omega (arith, low, size, at, e)) in
    let fits : met ≡ false → wanted ≡ true = λ is.
    let last : place (prefixes versions) x.prefix ≡ length (beginnings known) = next.next (sym (met_beginning x known) ∙ is) in
    wanted_is ∙ (Decides-eqb node (count + 1)).1 (omega (arith, last, size, at)) in
    subst (λ (ws : List Visit). AllZip (IsRow (prefixes versions)) ws more)
    (sym (ap (firsts same_node) (cell_added versions allowance i v k within) ∙ visits_push done x))
    (one_added (IsRow (prefixes versions)) known x met wanted rows more row h is_row before fits pushed)

-- the version has a node for each of its rows
pub nodes_reach : (versions : List Checked) (allowance : ℕ) (v : Checked) (ns : List ℕ) (fresh got : List Row) (k : ℕ) → Contains versions v
    → ns ≡ nodes_of (prefixes versions) v → got ≡ fresh → AllZip (IsRow (prefixes versions)) (visits_of versions allowance v) fresh → k < length got → k < length ns
nodes_reach versions allowance v ns fresh got k there nodes same zipped less =
    let long : length (visits_of versions allowance v) ≡ length got = zip_long (IsRow (prefixes versions)) (visits_of versions allowance v) fresh zipped ∙ ap length (sym same) in
    let many : length ns ≡ length v.cells = ap length nodes ∙ length-nodes_of versions v there in
    omega (arith, long, many, less, visits_long versions allowance v)

-- ---- all versions

pub none_added : (versions : List Checked) (allowance : ℕ) (rows : List Row) → rows ≡ []
    → AllZip (IsRow (prefixes versions)) (firsts same_node (flat_map (visits_of versions allowance) (take 0 versions))) rows
unfolding firsts
none_added versions allowance rows is = subst (λ (l : List Row). AllZip (IsRow (prefixes versions)) (firsts same_node []) l) (sym is) tt

pub all_added : (versions : List Checked) (allowance n : ℕ) (rows : List Row) → length versions ≤ n
    → AllZip (IsRow (prefixes versions)) (firsts same_node (flat_map (visits_of versions allowance) (take n versions))) rows → AreRows versions allowance rows
all_added versions allowance n rows past h =
    subst (λ (vs : List Checked). AllZip (IsRow (prefixes versions)) (firsts same_node (flat_map (visits_of versions allowance) vs)) rows) (take_all versions n past) h

pub steps_more : (versions : List Checked) (allowance i : ℕ) (v : Checked) (before now later : ℕ) → slice_get versions i ≡ Some v
    → now ≡ before + steps_of_all (take i versions) allowance → later ≡ now + steps v.cells v.inputs allowance → later ≡ before + steps_of_all (take (i + 1) versions) allowance
steps_more versions allowance i v before now later here counted spent =
    let f = λ (w : Checked). steps w.cells w.inputs allowance in
    let split : sum (map f (take i versions ++ v ∷ [])) ≡ sum (map f (take i versions)) + sum (f v ∷ []) =
    ap sum (map-append f (take i versions) (v ∷ [])) ∙ sum_by-append (λ (n : ℕ). n) (map f (take i versions)) (f v ∷ []) in
    let all : sum (map f (take (i + 1) versions)) ≡ sum (map f (take i versions ++ v ∷ [])) = ap (λ (vs : List Checked). sum (map f vs)) (taken versions i v here) in
    let one : sum (f v ∷ []) ≡ f v = omega arith in
    omega (arith, all, split, one, counted, spent)

pub steps_all : (versions : List Checked) (allowance n before now : ℕ) → length versions ≤ n → now ≡ before + steps_of_all (take n versions) allowance → now ≡ before + steps_of_all versions allowance
steps_all versions allowance n before now past counted = counted ∙ ap (λ (vs : List Checked). before + steps_of_all vs allowance) (take_all versions n past)

-- ---- the program

abbrev with_cells : List CellParts → Program
with_cells cells = record { cells = cells }

pub loaded_is : (versions : List Checked) (forest : ForestParts) (program : Program) → forest ≡ forest_of versions → program.cells ≡ cells_of forest → program ≡ program_of versions
loaded_is versions forest program is cells = ap with_cells (cells ∙ ap cells_of is)
