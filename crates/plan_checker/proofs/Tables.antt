-- Tables by depth and by node hold what the entries so far say.
use Rattle.std.proofs.Common.{◌≡◌, ◌≢◌, ◌∙◌, ℕ, zero, suc, ◌+◌, ◌-◌, ◌<◌, ◌≤◌, List, [], ◌∷◌, ◌++◌, take, drop, get_or, set, length, Bool, true, false, not, ◌&&◌, ◌||◌, Option, Some, None, refl, sym, ap, subst, arith, inl, inr, ◌⊎◌}
use Rattle.std.specs.Prelude.{◌==◌, if◌then◌else◌, nat_lt}
use Rattle.std.specs.List.{find, range_with_len}
use Rattle.std.proofs.lemmas.List.{get_or-set_same, get_or-set_other, length-set, drop_more, take_more, take_all, drop_all}
use Rattle.std.proofs.lemmas.Bool.Decides.{nat_tests}
use Rattle.plan_checker.specs.declared.line.Line.{Line}
use Rattle.plan_checker.specs.Lines.{IsSmall, AllFollow}
use Rattle.plan_type.specs.declared.costs.Costs.{Costs}
use Rattle.plan_type.specs.Costs.{row_of, is_child_in, is_reached_in}
use Rattle.plan_checker.specs.Refusals.{last_at, parent_at, stands, is_wrong, first_wrong, least_missing, or_else, wrong_child, held_at, first_over}

-- the lines of a list, the latest first, onto others
abbrev pub onto : List Line → List Line → List Line
onto [] before = before
onto (line ∷ lines) before = onto lines (line ∷ before)

-- the first lines, the latest first
abbrev pub latest : ℕ → List Line → List Line
latest n lines = onto (take n lines) []

pub onto_more : (lines before : List Line) (line : Line) → onto (lines ++ line ∷ []) before ≡ line ∷ onto lines before
onto_more [] before line = refl
onto_more (l ∷ ls) before line = onto_more ls (l ∷ before) line

-- ---- one more line

pub last_more : (table : List ℕ) (before : List Line) (line : Line) → length table ≡ 10000 → line.depth ≤ 9999 → ((at : ℕ) → get_or table at 0 ≡ last_at at before)
    → (at : ℕ) → get_or (set table line.depth line.node) at 0 ≡ last_at at (line ∷ before)
last_more table before line room low is at = by (line.depth == at) refl
  where
    by : (b : Bool) → (line.depth == at) ≡ b → get_or (set table line.depth line.node) at 0 ≡ (if b then line.node else last_at at before)
    by true h = let e : line.depth ≡ at = grind (arith, nat_tests) in subst (λ n. get_or (set table line.depth line.node) n 0 ≡ line.node) e (get_or-set_same table line.depth line.node 0 (omega arith))
    by false h = let e : at ≢ line.depth = (λ same. absurd (let t : (line.depth == at) ≡ true = grind (arith, nat_tests) in cc)) in get_or-set_other table line.depth at line.node 0 e ∙ is at

pub stood_more : (table : List Bool) (before : List Line) (line : Line) → length table ≡ 10000 → line.node ≤ 9999 → ((at : ℕ) → get_or table at false ≡ stands at before)
    → (at : ℕ) → get_or (set table line.node true) at false ≡ stands at (line ∷ before)
stood_more table before line room low is at = by (line.node == at) refl
  where
    by : (b : Bool) → (line.node == at) ≡ b → get_or (set table line.node true) at false ≡ (b || stands at before)
    by true h = let e : line.node ≡ at = grind (arith, nat_tests) in subst (λ n. get_or (set table line.node true) n false ≡ true) e (get_or-set_same table line.node true false (omega arith))
    by false h = let e : at ≢ line.node = (λ same. absurd (let t : (line.node == at) ≡ true = grind (arith, nat_tests) in cc)) in get_or-set_other table line.node at true false e ∙ is at

pub held_more : (blocks : ℕ → ℕ) (table : List ℕ) (before : List Line) (line : Line) (sum : ℕ) → length table ≡ 10000 → line.depth ≤ 9999 → sum ≡ (if line.hold then blocks (parent_at line before) else 0) + held_at blocks (line.depth - 1) before
    → ((at : ℕ) → get_or table at 0 ≡ held_at blocks at before) → (at : ℕ) → get_or (set table line.depth sum) at 0 ≡ held_at blocks at (line ∷ before)
held_more blocks table before line sum room low new is at = by (line.depth == at) refl
  where
    by : (b : Bool) → (line.depth == at) ≡ b → get_or (set table line.depth sum) at 0 ≡ (if b then (if line.hold then blocks (parent_at line before) else 0) + held_at blocks (at - 1) before else held_at blocks at before)
    by true h =
        let e : line.depth ≡ at = grind (arith, nat_tests) in
        subst (λ n. get_or (set table line.depth sum) n 0 ≡ (if line.hold then blocks (parent_at line before) else 0) + held_at blocks (n - 1) before) e (get_or-set_same table line.depth sum 0 (omega arith) ∙ new)
    by false h = let e : at ≢ line.depth = (λ same. absurd (let t : (line.depth == at) ≡ true = grind (arith, nat_tests) in cc)) in get_or-set_other table line.depth at sum 0 e ∙ is at

-- ---- a line among those that follow one another

pub follows_at : (before : ℕ) (lines : List Line) (i : ℕ) (line : Line) → AllFollow before lines → i < length lines → line ≡ get_or lines i line → (1 ≤ line.depth) × IsSmall line
follows_at before [] i line all lt at = absurd (omega arith)
follows_at before (l ∷ ls) zero line all lt at = subst (λ x. (1 ≤ x.depth) × IsSmall x) (sym at) (all.0.some, all.0.small)
follows_at before (l ∷ ls) (suc i) line all lt at = follows_at l.depth ls i line all.1 (omega arith) at

pub stands_onto : (v : ℕ) (lines before : List Line) → stands v (onto lines before) ≡ (stands v lines || stands v before)
stands_onto v [] before = refl
stands_onto v (l ∷ ls) before = stands_onto v ls (l ∷ before) ∙ swapped (l.node == v) (stands v ls) (stands v before)
  where
    swapped : (a b c : Bool) → (b || (a || c)) ≡ ((a || b) || c)
    swapped true true c = refl
    swapped true false c = refl
    swapped false b c = refl

pub find_same : (p q : ℕ → Bool) (xs : List ℕ) → ((x : ℕ) → p x ≡ q x) → find p xs ≡ find q xs
find_same p q [] same = refl
find_same p q (x ∷ xs) same = ap (λ b. if b then Some x else find p xs) (same x) ∙ ap (λ o. if q x then Some x else o) (find_same p q xs same)

-- ---- the first wrong entry

-- the tables hold what the first lines say, and what is left of the search is the whole search
pub record WrongSo (costs : Costs) (lines : List Line) (i : ℕ) (last : List ℕ) (stood : List Bool) : Type 0 where
  pub places : length last ≡ 10000
  pub marks : length stood ≡ 10000
  pub last_is : (at : ℕ) → get_or last at 0 ≡ last_at at (latest i lines)
  pub stood_is : (at : ℕ) → get_or stood at false ≡ stands at (latest i lines)
  pub whole : first_wrong costs (latest i lines) (drop i lines) ≡ first_wrong costs [] lines

latest_more : (lines : List Line) (i : ℕ) (line : Line) → i < length lines → line ≡ get_or lines i line → latest (i + 1) lines ≡ line ∷ latest i lines
latest_more lines i line lt at = ap (λ l. onto l []) (take_more lines i line lt) ∙ onto_more (take i lines) [] (get_or lines i line) ∙ ap (λ x. x ∷ latest i lines) (sym at)

left : (lines : List Line) (i : ℕ) (line : Line) → i < length lines → line ≡ get_or lines i line → drop i lines ≡ line ∷ drop (i + 1) lines
left lines i line lt at = drop_more lines i line lt ∙ ap (λ x. x ∷ drop (i + 1) lines) (sym at)

pub wrong_begin : (costs : Costs) (lines : List Line) (last : List ℕ) (stood : List Bool) → length last ≡ 10000 → length stood ≡ 10000 → ((at : ℕ) → get_or last at 0 ≡ 0) → ((at : ℕ) → get_or stood at false ≡ false)
    → WrongSo costs lines 0 last stood
wrong_begin costs lines last stood places marks none unset = record { places = places; marks = marks; last_is = none; stood_is = unset; whole = refl }

-- the entry at this place, by the tables
pub wrong_now : (costs : Costs) (lines : List Line) (i : ℕ) (last : List ℕ) (stood : List Bool) (line : Line) → WrongSo costs lines i last stood → i < length lines → line ≡ get_or lines i line
    → (not (is_child_in (get_or last (line.depth - 1) 0) (row_of costs line.node)) || get_or stood line.node false) ≡ is_wrong costs (latest i lines) line
wrong_now costs lines i last stood line so lt at =
    ap (λ u. not (is_child_in u (row_of costs line.node)) || get_or stood line.node false) (so.last_is (line.depth - 1))
    ∙ ap (λ b. not (is_child_in (parent_at line (latest i lines)) (row_of costs line.node)) || b) (so.stood_is line.node)

pub wrong_found : (costs : Costs) (lines : List Line) (i : ℕ) (last : List ℕ) (stood : List Bool) (line : Line) → WrongSo costs lines i last stood → i < length lines → line ≡ get_or lines i line
    → (not (is_child_in (get_or last (line.depth - 1) 0) (row_of costs line.node)) || get_or stood line.node false) ≡ true → wrong_child costs lines ≡ Some line.node
unfolding wrong_child
wrong_found costs lines i last stood line so lt at bad =
    ap (λ o. or_else o (least_missing costs lines)) (sym so.whole ∙ ap (first_wrong costs (latest i lines)) (left lines i line lt at)
    ∙ ap (λ b. if b then Some line.node else first_wrong costs (line ∷ latest i lines) (drop (i + 1) lines)) (sym (wrong_now costs lines i last stood line so lt at) ∙ bad))

pub wrong_more : (costs : Costs) (lines : List Line) (i : ℕ) (last : List ℕ) (stood : List Bool) (line : Line) → WrongSo costs lines i last stood → i < length lines → line ≡ get_or lines i line → IsSmall line
    → (not (is_child_in (get_or last (line.depth - 1) 0) (row_of costs line.node)) || get_or stood line.node false) ≡ false
    → WrongSo costs lines (i + 1) (set last line.depth line.node) (set stood line.node true)
wrong_more costs lines i last stood line so lt at small good = record {
  places = length-set last line.depth line.node ∙ so.places;
  marks = length-set stood line.node true ∙ so.marks;
  last_is = λ n. last_more last (latest i lines) line so.places small.depth so.last_is n ∙ ap (last_at n) (sym (latest_more lines i line lt at));
  stood_is = λ n. stood_more stood (latest i lines) line so.marks small.node so.stood_is n ∙ ap (stands n) (sym (latest_more lines i line lt at));
  whole = ap (λ l. first_wrong costs l (drop (i + 1) lines)) (latest_more lines i line lt at)
      ∙ sym (ap (first_wrong costs (latest i lines)) (left lines i line lt at)
      ∙ ap (λ b. if b then Some line.node else first_wrong costs (line ∷ latest i lines) (drop (i + 1) lines)) (sym (wrong_now costs lines i last stood line so lt at) ∙ good))
      ∙ so.whole;
}

stands_latest : (v : ℕ) (lines : List Line) → stands v (onto lines []) ≡ stands v lines
stands_latest v lines = stands_onto v lines [] ∙ or_false (stands v lines)
  where
    or_false : (a : Bool) → (a || false) ≡ a
    or_false true = refl
    or_false false = refl

pub wrong_all : (costs : Costs) (lines : List Line) (i : ℕ) (last : List ℕ) (stood : List Bool) (r : Option ℕ) → WrongSo costs lines i last stood → length lines ≤ i
    → r ≡ find (λ v. is_reached_in (row_of costs v) && not (get_or stood v false)) (range_with_len 1 (length costs.rows)) → r ≡ wrong_child costs lines
unfolding wrong_child
wrong_all costs lines i last stood r so past is =
    is ∙ find_same _ _ (range_with_len 1 (length costs.rows)) (λ v. ap (λ b. is_reached_in (row_of costs v) && not b)
    (so.stood_is v ∙ ap (λ l. stands v (onto l [])) (take_all i lines past) ∙ stands_latest v lines))
    ∙ ap (λ o. or_else o (least_missing costs lines)) (sym (sym so.whole ∙ ap (first_wrong costs (latest i lines)) (drop_all i lines past)))

-- ---- the first entry past the budget

pub record OverSo (blocks : ℕ → ℕ) (most : ℕ) (lines : List Line) (i : ℕ) (last held : List ℕ) : Type 0 where
  pub places : length last ≡ 10000
  pub sums : length held ≡ 10000
  pub last_is : (at : ℕ) → get_or last at 0 ≡ last_at at (latest i lines)
  pub held_is : (at : ℕ) → get_or held at 0 ≡ held_at blocks at (latest i lines)
  pub fits : (at : ℕ) → get_or held at 0 ≤ most
  pub whole : first_over blocks most (latest i lines) (drop i lines) ≡ first_over blocks most [] lines

pub over_begin : (blocks : ℕ → ℕ) (most : ℕ) (lines : List Line) (last held : List ℕ) → length last ≡ 10000 → length held ≡ 10000 → ((at : ℕ) → get_or last at 0 ≡ 0) → ((at : ℕ) → get_or held at 0 ≡ 0)
    → OverSo blocks most lines 0 last held
over_begin blocks most lines last held places sums none free = record { places = places; sums = sums; last_is = none; held_is = free; fits = λ at. (let e = free at in omega (arith, e)); whole = refl }

-- the blocks held at the entry, by the tables
pub sum_now : (blocks : ℕ → ℕ) (most : ℕ) (lines : List Line) (i : ℕ) (last held : List ℕ) (line : Line) → OverSo blocks most lines i last held
    → get_or held (line.depth - 1) 0 + (if line.hold then blocks (get_or last (line.depth - 1) 0) else 0) ≡ (if line.hold then blocks (parent_at line (latest i lines)) else 0) + held_at blocks (line.depth - 1) (latest i lines)
sum_now blocks most lines i last held line so =
    let a = so.held_is (line.depth - 1) in
    let b = ap (λ u. if line.hold then blocks u else 0) (so.last_is (line.depth - 1)) in omega (arith, a, b)

held_now : (blocks : ℕ → ℕ) (before : List Line) (line : Line) → held_at blocks line.depth (line ∷ before) ≡ (if line.hold then blocks (parent_at line before) else 0) + held_at blocks (line.depth - 1) before
held_now blocks before line = ap (λ b. if b then (if line.hold then blocks (parent_at line before) else 0) + held_at blocks (line.depth - 1) before else held_at blocks line.depth before) (let t : (line.depth == line.depth) ≡ true = grind (arith, nat_tests) in t)

pub over_found : (blocks : ℕ → ℕ) (most : ℕ) (lines : List Line) (i : ℕ) (last held : List ℕ) (line : Line) (sum : ℕ) → OverSo blocks most lines i last held → i < length lines → line ≡ get_or lines i line
    → sum ≡ get_or held (line.depth - 1) 0 + (if line.hold then blocks (get_or last (line.depth - 1) 0) else 0) → (line.hold && nat_lt most sum) ≡ true
    → first_over blocks most [] lines ≡ Some (get_or last (line.depth - 1) 0, sum)
over_found blocks most lines i last held line sum so lt at is bad =
    let s : sum ≡ held_at blocks line.depth (line ∷ latest i lines) = is ∙ sum_now blocks most lines i last held line so ∙ sym (held_now blocks (latest i lines) line) in
    sym so.whole ∙ ap (first_over blocks most (latest i lines)) (left lines i line lt at)
    ∙ ap (λ b. if b then Some (parent_at line (latest i lines), held_at blocks line.depth (line ∷ latest i lines)) else first_over blocks most (line ∷ latest i lines) (drop (i + 1) lines))
    (ap (λ n. line.hold && nat_lt most n) (sym s) ∙ bad)
    ∙ ap (λ u. Some (u, held_at blocks line.depth (line ∷ latest i lines))) (sym (so.last_is (line.depth - 1))) ∙ ap (λ n. Some (get_or last (line.depth - 1) 0, n)) (sym s)

pub over_more : (blocks : ℕ → ℕ) (most : ℕ) (lines : List Line) (i : ℕ) (last held : List ℕ) (line : Line) (sum : ℕ) → OverSo blocks most lines i last held → i < length lines → line ≡ get_or lines i line → IsSmall line
    → sum ≡ get_or held (line.depth - 1) 0 + (if line.hold then blocks (get_or last (line.depth - 1) 0) else 0) → (line.hold && nat_lt most sum) ≡ false
    → OverSo blocks most lines (i + 1) (set last line.depth line.node) (set held line.depth sum)
over_more blocks most lines i last held line sum so lt at small is good =
    let s : sum ≡ held_at blocks line.depth (line ∷ latest i lines) = is ∙ sum_now blocks most lines i last held line so ∙ sym (held_now blocks (latest i lines) line) in
    record {
      places = length-set last line.depth line.node ∙ so.places;
      sums = length-set held line.depth sum ∙ so.sums;
      last_is = λ n. last_more last (latest i lines) line so.places small.depth so.last_is n ∙ ap (last_at n) (sym (latest_more lines i line lt at));
      held_is = λ n. held_more blocks held (latest i lines) line sum so.sums small.depth (is ∙ sum_now blocks most lines i last held line so) so.held_is n ∙ ap (held_at blocks n) (sym (latest_more lines i line lt at));
      fits = λ n. kept held line.depth sum so.fits (low line.hold (get_or held (line.depth - 1) 0) (blocks (get_or last (line.depth - 1) 0)) (so.fits (line.depth - 1)) is good) n;
      whole = ap (λ l. first_over blocks most l (drop (i + 1) lines)) (latest_more lines i line lt at)
          ∙ sym (ap (first_over blocks most (latest i lines)) (left lines i line lt at)
          ∙ ap (λ b. if b then Some (parent_at line (latest i lines), held_at blocks line.depth (line ∷ latest i lines)) else first_over blocks most (line ∷ latest i lines) (drop (i + 1) lines))
          (ap (λ n. line.hold && nat_lt most n) (sym s) ∙ good))
          ∙ so.whole;
    }
  where
    low : (hold : Bool) (h b : ℕ) → h ≤ most → sum ≡ h + (if hold then b else 0) → (hold && nat_lt most sum) ≡ false → sum ≤ most
    low true h b le is good = grind (arith, nat_tests)
    low false h b le is good = omega (arith, is)

    kept : (xs : List ℕ) (j x : ℕ) → ((n : ℕ) → get_or xs n 0 ≤ most) → x ≤ most → (n : ℕ) → get_or (set xs j x) n 0 ≤ most
    kept [] j x all le n = all n
    kept (y ∷ ys) zero x all le zero = le
    kept (y ∷ ys) zero x all le (suc n) = all (suc n)
    kept (y ∷ ys) (suc j) x all le zero = all 0
    kept (y ∷ ys) (suc j) x all le (suc n) = kept ys j x (λ m. all (suc m)) le n

pub over_all : (blocks : ℕ → ℕ) (most : ℕ) (lines : List Line) (i : ℕ) (last held : List ℕ) → OverSo blocks most lines i last held → length lines ≤ i → first_over blocks most [] lines ≡ None
over_all blocks most lines i last held so past = sym so.whole ∙ ap (first_over blocks most (latest i lines)) (drop_all i lines past)

-- ---- as the code has them

pub wrong_next : (costs : Costs) (lines : List Line) (i : ℕ) (last : List ℕ) (stood : List Bool) (line : Line) (d v : ℕ) → WrongSo costs lines i last stood → i < length lines → line ≡ get_or lines i line
    → IsSmall line → d ≡ line.depth → v ≡ line.node → is_child_in (get_or last (d - 1) 0) (row_of costs v) ≡ true → get_or stood v false ≡ false → WrongSo costs lines (i + 1) (set last d v) (set stood v true)
wrong_next costs lines i last stood line d v so lt at small depth node child fresh =
    let c = subst (λ n. is_child_in (get_or last (n - 1) 0) (row_of costs v) ≡ true) depth child in
    let c' = subst (λ n. is_child_in (get_or last (line.depth - 1) 0) (row_of costs n) ≡ true) node c in
    let f = subst (λ n. get_or stood n false ≡ false) node fresh in
    let good : (not (is_child_in (get_or last (line.depth - 1) 0) (row_of costs line.node)) || get_or stood line.node false) ≡ false = ap (λ b. not b || get_or stood line.node false) c' ∙ f in
    subst (λ n. WrongSo costs lines (i + 1) (set last n v) (set stood v true)) (sym depth)
    (subst (λ n. WrongSo costs lines (i + 1) (set last line.depth n) (set stood n true)) (sym node) (wrong_more costs lines i last stood line so lt at small good))

true_right : (a : Bool) → (a || true) ≡ true
true_right true = refl
true_right false = refl

pub wrong_at : (costs : Costs) (lines : List Line) (i : ℕ) (last : List ℕ) (stood : List Bool) (line : Line) (d v : ℕ) → WrongSo costs lines i last stood → i < length lines → line ≡ get_or lines i line
    → d ≡ line.depth → v ≡ line.node → (is_child_in (get_or last (d - 1) 0) (row_of costs v) ≡ false) ⊎ (get_or stood v false ≡ true) → Some v ≡ wrong_child costs lines
wrong_at costs lines i last stood line d v so lt at depth node (inl alien) =
    let c = subst (λ n. is_child_in (get_or last (n - 1) 0) (row_of costs v) ≡ false) depth alien in
    let c' = subst (λ n. is_child_in (get_or last (line.depth - 1) 0) (row_of costs n) ≡ false) node c in
    ap (λ n. Some n) node ∙ sym (wrong_found costs lines i last stood line so lt at (ap (λ b. not b || get_or stood line.node false) c'))
wrong_at costs lines i last stood line d v so lt at depth node (inr twice) =
    let f = subst (λ n. get_or stood n false ≡ true) node twice in
    ap (λ n. Some n) node ∙ sym (wrong_found costs lines i last stood line so lt at (ap (λ b. not (is_child_in (get_or last (line.depth - 1) 0) (row_of costs line.node)) || b) f ∙ true_right _))

pub wrong_end : (costs : Costs) (lines : List Line) (i : ℕ) (last : List ℕ) (stood table : List Bool) (r : Option ℕ) → WrongSo costs lines i last stood → length lines ≤ i → table ≡ stood
    → r ≡ find (λ v. is_reached_in (row_of costs v) && not (get_or table v false)) (range_with_len 1 (length costs.rows)) → r ≡ wrong_child costs lines
wrong_end costs lines i last stood table r so past same is =
    wrong_all costs lines i last stood r so past (is ∙ ap (λ t. find (λ v. is_reached_in (row_of costs v) && not (get_or t v false)) (range_with_len 1 (length costs.rows))) same)

pub over_next : (blocks : ℕ → ℕ) (most : ℕ) (lines : List Line) (i : ℕ) (last held : List ℕ) (line : Line) (d v sum : ℕ) → OverSo blocks most lines i last held → i < length lines → line ≡ get_or lines i line → IsSmall line
    → d ≡ line.depth → v ≡ line.node → sum ≡ get_or held (d - 1) 0 + (if line.hold then blocks (get_or last (d - 1) 0) else 0) → (line.hold && nat_lt most sum) ≡ false
    → OverSo blocks most lines (i + 1) (set last d v) (set held d sum)
over_next blocks most lines i last held line d v sum so lt at small depth node is good =
    let s = subst (λ n. sum ≡ get_or held (n - 1) 0 + (if line.hold then blocks (get_or last (n - 1) 0) else 0)) depth is in
    subst (λ n. OverSo blocks most lines (i + 1) (set last n v) (set held n sum)) (sym depth)
    (subst (λ n. OverSo blocks most lines (i + 1) (set last line.depth n) (set held line.depth sum)) (sym node) (over_more blocks most lines i last held line sum so lt at small s good))

pub over_at : (blocks : ℕ → ℕ) (most : ℕ) (lines : List Line) (i : ℕ) (last held : List ℕ) (line : Line) (d sum : ℕ) → OverSo blocks most lines i last held → i < length lines → line ≡ get_or lines i line
    → d ≡ line.depth → sum ≡ get_or held (d - 1) 0 + (if line.hold then blocks (get_or last (d - 1) 0) else 0) → (line.hold && nat_lt most sum) ≡ true
    → Some (get_or last (d - 1) 0, sum) ≡ first_over blocks most [] lines
over_at blocks most lines i last held line d sum so lt at depth is bad =
    let s = subst (λ n. sum ≡ get_or held (n - 1) 0 + (if line.hold then blocks (get_or last (n - 1) 0) else 0)) depth is in
    ap (λ n. Some (get_or last (n - 1) 0, sum)) depth ∙ sym (over_found blocks most lines i last held line sum so lt at s bad)
