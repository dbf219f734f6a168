-- Inputs that agree on the names that are read give equal results.
use Rattle.std.proofs.Common.{◌≡◌, ℕ, zero, suc, List, [], ◌∷◌, ◌++◌, map, Bool, true, false, IsTrue, refl, sym, ap, arith, subst, ◌∙◌}
use Rattle.std.proofs.lemmas.List.Elements.{All-head, All-tail}
use Rattle.std.proofs.lemmas.Option.{none-some}
use Rattle.std.proofs.lemmas.Cmp.{nat_list_cmp_total}
use Rattle.std.proofs.lemmas.Map.Text.{is_eq-slice_cmp}
use Rattle.std.proofs.lemmas.Slice.Eq.{bytes_eq-Decides}
use Rattle.std.specs.FinSet as set
use Rattle.std.specs.FinSet.{contains-from_list}
use Rattle.std.specs.Ordering.{eq_by_cmp}
use Rattle.std.specs.Prelude.{◌&&◌, ◌||◌, Option, Some, None, bytes_eq, slice_get}
use Rattle.std.specs.List.{cons_option, filter_map, flat_map, list_all, list_any}
use Rattle.chex_base.specs.declared.input.Input.{Input}
use Rattle.chex_base.specs.Inputs.{value_of}
use Rattle.chex_base.specs.TextOrder.{text_cmp}
use Rattle.star_syntax.specs.declared.statement.Block.{Block}
use Rattle.star_syntax.specs.declared.statement.Block.TheVariants as blocks
use Rattle.star_syntax.specs.declared.statement.Definition.{Definition}
use Rattle.star_syntax.specs.declared.statement.Statement.{Statement, fold-roll-Statement, ind-Statement, map-Statement, out-roll-Statement, roll-Statement}
use Rattle.star_syntax.specs.declared.statement.Statement.TheOpen.{Statement-F}
use Rattle.star_syntax.specs.CellParts.{CellParts}
use Rattle.star_syntax.specs.Cells.{def_of, layer_def}
use Rattle.star_syntax.specs.Placement.{NestedDef, Shows, Finding, Breaks, Reads, block_findings, header_findings, in_body, in_cell, layer_findings, name_of, names_read, parameters, findings, statement_findings, unless}
use Rattle.star_meaning.specs.State.{Object, AList, ADict, AFunction}
use Rattle.star_meaning.specs.World.{is_among}
use Rattle.star_meaning.specs.Cells.{Shown, function_in, ran, run, shown_setting}
use Rattle.star_meaning.specs.Agreement.{Agree}
use Rattle.star_meaning.specs.Laws.{HasItsNames, HaveTheirNames, OnlyNamedInputsMatter, OnlyReadInputsMatter, names_in_functions}
use Rattle.star_meaning.specs.Reading.{FindingsIn, body_findings, finding_in}
use Rattle.star_meaning.specs.Renaming.{Names, SameSetting, has_good}
use Rattle.star_meaning.proofs.Alone.{state_itself}
use Rattle.star_meaning.proofs.ReadingLemmas.{and_both, halves, joined}
use Rattle.star_meaning.proofs.RenamedCells.{run_as}

-- ---- names among others

or_first : (b c : Bool) → IsTrue b → IsTrue (b || c)
or_first true c h = refl
or_first false c h = absurd (grind (arith, h))

or_second : (b c : Bool) → IsTrue c → IsTrue (b || c)
or_second true c h = refl
or_second false c h = h

all_mono : {X : Type 0} (p q : X → Bool) → ((x : X) → IsTrue (p x) → IsTrue (q x)) → (xs : List X) → IsTrue (list_all p xs) → IsTrue (list_all q xs)
all_mono p q imp [] h = refl
all_mono p q imp (x ∷ xs) h = let parts = halves p (x ∷ []) xs h in and_both (q x) (list_all q xs) (imp x (one parts.0)) (all_mono p q imp xs parts.1)
  where
    one : IsTrue (p x && true) → IsTrue (p x)
    one k = grind (arith, k)

among_first : (xs ys : List (List ℕ)) (n : List ℕ) → IsTrue (is_among xs n) → IsTrue (is_among (xs ++ ys) n)
among_first [] ys n h = absurd (grind (arith, h))
among_first (x ∷ xs) ys n h = either (bytes_eq n x) (is_among xs n) (is_among (xs ++ ys) n) (among_first xs ys n) h
  where
    either : (b c d : Bool) → (IsTrue c → IsTrue d) → IsTrue (b || c) → IsTrue (b || d)
    either true c d imp k = refl
    either false c d imp k = imp k

among_second : (xs ys : List (List ℕ)) (n : List ℕ) → IsTrue (is_among ys n) → IsTrue (is_among (xs ++ ys) n)
among_second [] ys n h = h
among_second (x ∷ xs) ys n h = or_second (bytes_eq n x) (is_among (xs ++ ys) n) (among_second xs ys n h)

among_itself : (xs : List (List ℕ)) → IsTrue (list_all (is_among xs) xs)
among_itself [] = refl
among_itself (x ∷ xs) =
    and_both (is_among (x ∷ xs) x) (list_all (is_among (x ∷ xs)) xs) (or_first (bytes_eq x x) (is_among xs x) ((bytes_eq-Decides x x).1 refl))
    (all_mono (is_among xs) (is_among (x ∷ xs)) (λ n h. or_second (bytes_eq n x) (is_among xs n) h) xs (among_itself xs))

module _ (one other : List (List ℕ × Input)) where
  agree_or : (names : List (List ℕ)) (m n : List ℕ) (b : Bool) → bytes_eq n m ≡ b → value_of one m ≡ value_of other m → (IsTrue (is_among names n) → value_of one n ≡ value_of other n)
      → IsTrue (b || is_among names n) → value_of one n ≡ value_of other n
  agree_or names m n true e h k l = subst (λ x. value_of one x ≡ value_of other x) (sym ((bytes_eq-Decides n m).0 e)) h
  agree_or names m n false e h k l = k l

  agree_at : (names : List (List ℕ)) → Agree names one other → (n : List ℕ) → IsTrue (is_among names n) → value_of one n ≡ value_of other n
  agree_at [] h n k = absurd (grind (arith, k))
  agree_at (m ∷ names) h n k =
      agree_or names m n (bytes_eq n m) refl (All-head (λ x. value_of one x ≡ value_of other x) m names h) (agree_at names (All-tail (λ x. value_of one x ≡ value_of other x) m names h) n) k

-- ---- what a cell shows, and its names

names_shown : (p : List ℕ → Bool) (all : List Finding) → list_all p (filter_map name_of all) ≡ list_all (finding_in p) all
names_shown p [] = refl
names_shown p (Reads name ∷ all) = ap (λ b. p name && b) (names_shown p all)
names_shown p (Breaks breach line ∷ all) = names_shown p all

module _ (reads : List ℕ → Bool) where
  -- ---- the body of a function of the cell

  abbrev Reading : Statement → Type 0
  Reading s = (def : Definition Statement) → def_of s ≡ Some def → FindingsIn reads (statement_findings s in_cell) → FindingsIn reads (body_findings def.body)

  abbrev Part : Type 0
  Part = (s : Statement) × Reading s

  abbrev bare : Statement-F Part → Statement-F Statement
  bare = map-Statement Part Statement (λ s. s.0)

  abbrev shows : Statement-F Part → Statement-F Shows
  shows y = map-Statement Statement Shows statement_findings (bare y)

  abbrev trees : List Part → List Statement
  trees ss = map (λ s. s.0) ss

  all_shows : (ss : List Part) → FindingsIn reads (flat_map (λ f. f in_body) (map statement_findings (trees ss))) → FindingsIn reads (flat_map (λ s. statement_findings s in_body) (trees ss))
  all_shows [] h = refl
  all_shows (s ∷ ss) h =
      let parts = halves (finding_in reads) (statement_findings s.0 in_body) (flat_map (λ f. f in_body) (map statement_findings (trees ss))) h in
      joined (finding_in reads) (statement_findings s.0 in_body) (flat_map (λ x. statement_findings x in_body) (trees ss)) parts.0 (all_shows ss parts.1)

  -- a block, as that of a loop over nothing
  body_in : {X : Type 0} → Statement-F X → Block X
  body_in (Statement-F.For at targets over body) = body
  body_in _ = blocks.Inline (record { smalls = []; semicolon = false })

  block_part : (b : Block Part) → FindingsIn reads (block_findings (body_in (shows (Statement-F.For 0 [] [] b))) in_body) → FindingsIn reads (body_findings (body_in (bare (Statement-F.For 0 [] [] b))))
  unfolding body_in
  block_part (blocks.Inline line) h = h
  block_part (blocks.Indented ss) h = all_shows ss h

  abbrev BodyReads : Option (Definition Statement) → Type 0
  BodyReads None = Unit {0}
  BodyReads (Some def) = FindingsIn reads (body_findings def.body)

  layer_reads : (y : Statement-F Part) (def : Definition Statement) → layer_def (bare y) ≡ Some def → FindingsIn reads (layer_findings (shows y) in_cell) → FindingsIn reads (body_findings def.body)
  unfolding body_in
  layer_reads (Statement-F.Line line) def e h = absurd (none-some def e)
  layer_reads (Statement-F.If at first more other) def e h = absurd (none-some def e)
  layer_reads (Statement-F.For at targets over body) def e h = absurd (none-some def e)
  layer_reads (Statement-F.Def at d) def e h =
      let header = header_findings at d.name (parameters d.required d.defaults) in
      let block = block_findings (body_in (shows (Statement-F.For 0 [] [] d.body))) in_body in
      let parts = halves (finding_in reads) header block (halves (finding_in reads) (unless true NestedDef at) (header ++ block) h).1 in
      subst BodyReads e (block_part d.body parts.1)

  rolled_def : (x : Statement-F Statement) → def_of (roll-Statement x) ≡ layer_def x
  unfolding def_of
  rolled_def x = ap layer_def (out-roll-Statement x)

  rolled_findings : (x : Statement-F Statement) → FindingsIn reads (statement_findings (roll-Statement x) in_cell) → FindingsIn reads (layer_findings (map-Statement Statement Shows statement_findings x) in_cell)
  unfolding statement_findings
  rolled_findings x h = subst (λ f. FindingsIn reads (f in_cell)) (fold-roll-Statement Shows layer_findings x) h

  def_reads : (s : Statement) → Reading s
  def_reads = ind-Statement Reading (λ x y is. subst (λ z. Reading (roll-Statement z)) is (λ def e h. layer_reads y def (sym (rolled_def (bare y)) ∙ e) (rolled_findings (bare y) h)))

  found : (s : Statement) (fs : List (Definition Statement)) (o : Option (Definition Statement)) (n : ℕ) (def : Definition Statement) → def_of s ≡ o → slice_get (cons_option o fs) n ≡ Some def
      → FindingsIn reads (statement_findings s in_cell) → ((m : ℕ) → slice_get fs m ≡ Some def → FindingsIn reads (body_findings def.body)) → FindingsIn reads (body_findings def.body)
  found s fs None n def e k h rest = rest n k
  found s fs (Some d) zero def e k h rest = def_reads s def (e ∙ k) h
  found s fs (Some d) (suc n) def e k h rest = rest n k

  bodies_in : (ss : List Statement) (n : ℕ) (def : Definition Statement) → slice_get (filter_map def_of ss) n ≡ Some def → FindingsIn reads (flat_map (λ s. statement_findings s in_cell) ss) → FindingsIn reads (body_findings def.body)
  bodies_in [] n def e h = absurd (none-some def e)
  bodies_in (s ∷ ss) n def e h =
      let parts = halves (finding_in reads) (statement_findings s in_cell) (flat_map (λ x. statement_findings x in_cell) ss) h in
      found s (filter_map def_of ss) (def_of s) n def refl e parts.0 (λ m k. bodies_in ss m def k parts.1)

  abbrev is_good : CellParts → Bool
  is_good c = list_all reads (names_read c.«module»)

  findings_of : (c : CellParts) → IsTrue (is_good c) → FindingsIn reads (findings c.«module»)
  unfolding names_read
  findings_of c h = subst (λ b. IsTrue b) (names_shown reads (findings c.«module»)) h

  bodies : (c : CellParts) (n : ℕ) (def : Definition Statement) → IsTrue (is_good c) → function_in c n ≡ Some def → FindingsIn reads (body_findings def.body)
  unfolding findings
  bodies c n def h e = bodies_in c.«module».statements n def e (findings_of c h)

-- ---- results

-- inputs that agree on some names give equal results where the cell and each function's cell read no others
module _ (names : List (List ℕ)) where
  abbrev reads : List ℕ → Bool
  reads = is_among names

  agreeing : (s : Shown) (cell : CellParts) (one other : List (List ℕ × Input)) (allowance : ℕ) → IsTrue (is_good reads cell) → IsTrue (list_all (has_good (is_good reads)) s.objects) → Agree names one other
      → ran s cell one allowance ≡ ran s cell other allowance
  unfolding ran
  agreeing s cell one other allowance here_good good h =
      let same : Names CellParts CellParts = record { to = λ c. c; here = cell; locked = []; reads = reads; good = is_good reads; here_good = here_good } in
      let settings : SameSetting same (shown_setting cell one) (shown_setting cell other) = record {
        define = λ c n. refl;
        here = refl;
        cell = refl;
        inputs = λ n r. sym (agree_at one other names h n r);
        bodies = λ c n def g e. bodies reads c n def g e;
      } in
      let result = run (shown_setting cell one) cell.«module» allowance s in
      sym (ap (run (shown_setting cell other) cell.«module» allowance) (sym (state_itself s))
      ∙ run_as same (shown_setting cell one) (shown_setting cell other) settings cell.«module» (findings_of reads cell here_good) allowance s good
      ∙ ap (λ t. (result.0, t)) (state_itself result.1))

  good_cell : (c : CellParts) → ((n : List ℕ) → IsTrue (is_among (names_read c.«module») n) → IsTrue (reads n)) → IsTrue (is_good reads c)
  good_cell c h = all_mono (is_among (names_read c.«module»)) reads h (names_read c.«module») (among_itself (names_read c.«module»))

  functions_good : (os : List (Object CellParts)) → ((n : List ℕ) → IsTrue (is_among (names_in_functions (λ c. names_read c.«module») os) n) → IsTrue (reads n)) → IsTrue (list_all (has_good (is_good reads)) os)
  functions_good [] h = refl
  functions_good (AList items ∷ os) h = functions_good os h
  functions_good (ADict pairs ∷ os) h = functions_good os h
  functions_good (AFunction c number defaults ∷ os) h =
      let rest = names_in_functions (λ x. names_read x.«module») os in
      and_both (is_good reads c) (list_all (has_good (is_good reads)) os) (good_cell c (λ n k. h n (among_first (names_read c.«module») rest n k))) (functions_good os (λ n k. h n (among_second (names_read c.«module») rest n k)))

pub only_read_inputs_matter : OnlyReadInputsMatter
only_read_inputs_matter s cell one other allowance h =
    let here = names_read cell.«module» in
    let others = names_in_functions (λ c. names_read c.«module») s.objects in
    agreeing (here ++ others) s cell one other allowance (good_cell (here ++ others) cell (λ n k. among_first here others n k)) (functions_good (here ++ others) s.objects (λ n k. among_second here others n k)) h

-- ---- the names that cells have

any_is : (n : List ℕ) (xs : List (List ℕ)) → list_any (eq_by_cmp text_cmp n) xs ≡ is_among xs n
any_is n xs = ap (λ f. list_any f xs) (λ i other. is_eq-slice_cmp n other i)

-- what a tree reads is among the cell's names
named : (c : CellParts) → HasItsNames c → (n : List ℕ) → is_among (names_read c.«module») n ≡ is_among c.inputs n
named c h n =
    sym (any_is n (names_read c.«module»)) ∙ sym (contains-from_list nat_list_cmp_total (names_read c.«module») n) ∙ ap (λ t. set.contains t n) (sym h.same) ∙ contains-from_list nat_list_cmp_total c.inputs n ∙ any_is n c.inputs

among_named : (c : CellParts) → HasItsNames c → (n : List ℕ) → IsTrue (is_among (names_read c.«module») n) → IsTrue (is_among c.inputs n)
among_named c h n k = subst (λ b. IsTrue b) (named c h n) k

all_named : (names : List (List ℕ)) (os : List (Object CellParts)) → HaveTheirNames os → ((n : List ℕ) → IsTrue (is_among (names_in_functions (λ c. c.inputs) os) n) → IsTrue (is_among names n)) → IsTrue (list_all (has_good (is_good (is_among names))) os)
all_named names [] h imp = refl
all_named names (AList items ∷ os) h imp = all_named names os h imp
all_named names (ADict pairs ∷ os) h imp = all_named names os h imp
all_named names (AFunction c number defaults ∷ os) h imp =
    let rest = names_in_functions (λ x. x.inputs) os in
    and_both (is_good (is_among names) c) (list_all (has_good (is_good (is_among names))) os) (good_cell names c (λ n k. imp n (among_first c.inputs rest n (among_named c h.0 n k)))) (all_named names os h.1 (λ n k. imp n (among_second c.inputs rest n k)))

pub only_named_inputs_matter : OnlyNamedInputsMatter
only_named_inputs_matter s cell one other allowance has have h =
    let others = names_in_functions (λ c. c.inputs) s.objects in
    let names = cell.inputs ++ others in
    agreeing names s cell one other allowance (good_cell names cell (λ n k. among_first cell.inputs others n (among_named cell has n k))) (all_named names s.objects have (λ n k. among_second cell.inputs others n k)) h
