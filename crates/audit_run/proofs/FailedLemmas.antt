-- The nodes that failed.
use Rattle.std.proofs.Common.{◌≡◌, ℕ, zero, suc, ◌+◌, ◌-◌, ◌<◌, ◌≤◌, Bool, cond, List, [], ◌∷◌, ◌++◌, length, get_or, Some, slice_get, refl, sym, ap, ◌∙◌, subst, arith}
use Rattle.std.specs.List.{All, filter, range_with_len}
use Rattle.std.proofs.lemmas.List.Elements.{All-cons, All-filter, All-nil, All-weaker}
use Rattle.star_syntax.specs.Cells.{numbered}
use Rattle.plan_type.specs.declared.row.Row.{Row}
use Rattle.plan_type.proofs.Children.{more}
use Rattle.exec_tree.specs.declared.checked.Checked.{Checked}
use Rattle.exec_tree.specs.Forests.{ForestParts, IsNode, forest_of}
use Rattle.audit_run.specs.Rows.{AreRows, failed_nodes, has_failed, is_failed}
use Rattle.audit_run.proofs.AddLemmas.{nodes_long, rows_long}
use Rattle.audit_run.proofs.WayLemmas.{there_at}

-- the row of a number is at the place before it
numbered_next : (rows : List Row) (k n : ℕ) → n ≡ k + 1 → numbered rows n ≡ slice_get rows k
numbered_next rows k zero is = absurd (omega (arith, is))
numbered_next rows k (suc i) is = let same : i ≡ k = omega (arith, is) in ap (slice_get rows) same

abbrev pub fails : List Row → ℕ → Bool
fails rows = λ n. has_failed (numbered rows n)

-- one more row
pub failed_more : (rows : List Row) (k n : ℕ) (row : Row) (wanted : Bool) (done later : List ℕ) → k < length rows → row ≡ get_or rows k row → n ≡ k + 1
    → wanted ≡ is_failed row.end → later ≡ done ++ cond wanted (n ∷ []) [] → done ≡ filter (fails rows) (range_with_len 1 k) → later ≡ filter (fails rows) (range_with_len 1 (k + 1))
failed_more rows k n row wanted done later less read number wanted_is pushed done_is =
    let front : n - 1 ≡ k = omega (arith, number) in
    let whole : n + 1 - 1 ≡ k + 1 = omega (arith, number) in
    let test : wanted ≡ fails rows n = wanted_is ∙ ap has_failed (sym (numbered_next rows k n number ∙ there_at rows k row less read)) in
    pushed
    ∙ (ap (λ (l : List ℕ). l ++ cond wanted (n ∷ []) []) done_is
    ∙ (ap (λ (t : Bool). filter (fails rows) (range_with_len 1 k) ++ cond t (n ∷ []) []) test
    ∙ (ap (λ (m : ℕ). filter (fails rows) (range_with_len 1 m) ++ cond (fails rows n) (n ∷ []) []) (sym front)
    ∙ (sym (more (fails rows) n (omega (arith, number)))
    ∙ ap (λ (m : ℕ). filter (fails rows) (range_with_len 1 m)) whole))))

pub failed_all : (rows : List Row) (k : ℕ) (nodes : List ℕ) → k ≡ length rows → nodes ≡ filter (fails rows) (range_with_len 1 k) → nodes ≡ failed_nodes rows
failed_all rows k nodes all is = is ∙ ap (λ (n : ℕ). filter (fails rows) (range_with_len 1 n)) all

-- they are nodes
in_range : (a n : ℕ) → All (λ m. (a ≤ m) × (m < a + n)) (range_with_len a n)
in_range a zero = All-nil (λ m. (a ≤ m) × (m < a + 0))
in_range a (suc n) =
    All-cons (λ m. (a ≤ m) × (m < a + suc n)) a (range_with_len (a + 1) n) (omega arith, omega arith)
    (All-weaker (λ m. (a + 1 ≤ m) × (m < a + 1 + n)) (λ m. (a ≤ m) × (m < a + suc n)) (λ m h. let low : a + 1 ≤ m = h.0 in let high : m < a + 1 + n = h.1 in (omega (arith, low), omega (arith, high)))
    (range_with_len (a + 1) n) (in_range (a + 1) n))

pub failed_within : (versions : List Checked) (allowance : ℕ) (forest : ForestParts) (rows : List Row) (nodes got : List ℕ) → forest ≡ forest_of versions → AreRows versions allowance rows
    → nodes ≡ failed_nodes rows → got ≡ nodes → All (IsNode forest) got
failed_within versions allowance forest rows nodes got is rows_are nodes_are same =
    let long : length rows ≡ length (forest_of versions).nodes = rows_long versions allowance rows rows_are ∙ sym (nodes_long versions) in
    subst (λ (f : ForestParts). All (IsNode f) got) (sym is)
    (subst (λ (ns : List ℕ). All (IsNode (forest_of versions)) ns) (sym (same ∙ nodes_are))
    (All-weaker (λ m. (1 ≤ m) × (m < 1 + length rows)) (IsNode (forest_of versions)) (λ m h. let low : 1 ≤ m = h.0 in let high : m < 1 + length rows = h.1 in (low, omega (arith, high, long))) (failed_nodes rows)
    (All-filter (fails rows) (λ m. (1 ≤ m) × (m < 1 + length rows)) (range_with_len 1 (length rows)) (in_range 1 (length rows)))))

-- there are few
pub few_rows : (versions : List Checked) (allowance count : ℕ) (forest : ForestParts) (rows : List Row) → forest ≡ forest_of versions → count ≡ length forest.nodes → count ≤ 512
    → AreRows versions allowance rows → length rows ≤ 512
few_rows versions allowance count forest rows is counted few rows_are =
    let nodes : length forest.nodes ≡ length (forest_of versions).nodes = ap (λ (f : ForestParts). length f.nodes) is in
    omega (arith, nodes, counted, few, rows_long versions allowance rows rows_are, nodes_long versions)
