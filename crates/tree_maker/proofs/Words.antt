-- Words after words, and the cells and versions that follow those that were made.
use Rattle.std.proofs.Common.{◌≡◌, ◌∙◌, ℕ, zero, suc, ◌+◌, ◌-◌, ◌*◌, ◌≤◌, List, [], ◌∷◌, ◌++◌, map, length, false, refl, sym, ap, arith, append_assoc}
use Rattle.std.specs.Prelude.{◌==◌}
use Rattle.std.proofs.lemmas.Bool.Decides.{nat_tests}
use Rattle.std.proofs.lemmas.List.{append-nil}
use Rattle.std.proofs.lemmas.List.FromFn.{map-range_with_len_more}
use Rattle.tree_maker.specs.declared.version.Version.{Version}
use Rattle.tree_maker.specs.Generator.{next, word_after, fresh_cell, fresh_cells, copied, kept, word_at_cells, word_before, fresh_before, sources_of, name_of, made}

-- draws after draws
pub word_after-add : (x a b : ℕ) → word_after (word_after x a) b ≡ word_after x (b + a)
unfolding word_after
word_after-add x a zero = ap (word_after x) none
  where
    none : a ≡ zero + a
    none = omega arith
word_after-add x a (suc b) = ap next (word_after-add x a b) ∙ ap (word_after x) one
  where
    one : suc (b + a) ≡ suc b + a
    one = omega arith

pub two_more : (x n : ℕ) → next (next (word_after x (2 * n))) ≡ word_after x (2 * (n + 1))
unfolding word_after
two_more x n = ap (word_after x) two
  where
    two : suc (suc (2 * n)) ≡ 2 * (n + 1)
    two = omega arith

pub no_draw : (x : ℕ) → word_after x 0 ≡ x
unfolding word_after
no_draw x = refl

pub no_cell : (x k : ℕ) (cells : List (List ℕ)) → cells ≡ cells ++ fresh_cells x k 0
unfolding fresh_cells
no_cell x k cells = sym (append-nil cells)

-- one fresh cell more
pub cell_more : (x k n : ℕ) (before now : List (List ℕ)) (cells : List (List ℕ)) (cell : List ℕ)
    → now ≡ before ++ cell ∷ [] → before ≡ cells ++ fresh_cells x k n → cell ≡ fresh_cell (word_after x (2 * n)) (k + n)
    → now ≡ cells ++ fresh_cells x k (n + 1)
unfolding fresh_cells
cell_more x k n before now cells cell grew was is =
    let all = map-range_with_len_more (λ j. fresh_cell (word_after x (2 * j)) (k + j)) 0 n n (omega arith) in
    grew ∙ ap (λ l. l ++ cell ∷ []) was ∙ ap (λ c. (cells ++ fresh_cells x k n) ++ c ∷ []) is
    ∙ append_assoc cells (fresh_cells x k n) (fresh_cell (word_after x (2 * n)) (k + n) ∷ [])
    ∙ ap (λ l. cells ++ l) (sym all)

is_later : (j : ℕ) → (suc j == 0) ≡ false
is_later j = grind (arith, nat_tests)

-- the first version draws nothing before its cells, and each other twice
pub word_on : (seed i k n : ℕ) → word_after (word_at_cells (word_before seed i k) i) (2 * n) ≡ word_before seed (i + 1) (k + n)
unfolding word_after
word_on seed zero k n = word_after-add seed (2 * (k + (0 - 1))) (2 * n) ∙ ap (word_after seed) all
  where
    all : 2 * n + 2 * (k + (0 - 1)) ≡ 2 * (k + n + (0 + 1 - 1))
    all = omega arith
word_on seed (suc j) k n = rw (is_later j) (word_after-add seed (suc (suc (2 * (k + (suc j - 1))))) (2 * n) ∙ ap (word_after seed) all)
  where
    all : 2 * n + suc (suc (2 * (k + (suc j - 1)))) ≡ 2 * (k + n + (suc j + 1 - 1))
    all = omega arith

-- a version's sources, from those that it has from an earlier one and its fresh ones
pub sources_are : (x y k cells count : ℕ) (earlier : List (List (List ℕ))) (none some all : List (List ℕ))
    → none ≡ [] → some ≡ none ++ kept x cells earlier → y ≡ word_at_cells x (length earlier) → count ≡ copied x cells (length earlier)
    → all ≡ some ++ fresh_cells y (k + 1) (cells - count) → all ≡ sources_of x k cells earlier
unfolding sources_of
sources_are x y k cells count earlier none some all begin front at few is =
    is ∙ ap (λ l. l ++ fresh_cells y (k + 1) (cells - count)) (front ∙ ap (λ l. l ++ kept x cells earlier) begin)
    ∙ ap (λ w. kept x cells earlier ++ fresh_cells w (k + 1) (cells - count)) at
    ∙ ap (λ n. kept x cells earlier ++ fresh_cells (word_at_cells x (length earlier)) (k + 1) (cells - n)) few

pub length_map : (vs : List Version) → length (map (λ v. v.sources) vs) ≡ length vs
length_map [] = refl
length_map (v ∷ vs) = ap suc (length_map vs)

-- one version more
pub version_more : (seed cells i k word : ℕ) (all earlier now : List Version) (name : List ℕ) (sources : List (List ℕ))
    → all ≡ made seed cells i → k ≡ fresh_before seed cells i → word ≡ word_before seed i k → earlier ≡ all
    → sources ≡ sources_of word k cells (map (λ v. v.sources) earlier) → name ≡ name_of i → now ≡ all ++ record { name = name; sources = sources } ∷ []
    → now ≡ made seed cells (i + 1)
unfolding made
version_more seed cells i k word all earlier now name sources was fresh at same is named grew =
    let full = same ∙ was in
    let due = is ∙ ap (λ vs. sources_of word k cells (map (λ v. v.sources) vs)) full
    ∙ ap (λ w. sources_of w k cells (map (λ v. v.sources) (made seed cells i))) at
    ∙ ap (λ n. sources_of (word_before seed i n) n cells (map (λ v. v.sources) (made seed cells i))) fresh in
    grew ∙ ap (λ l. l ++ record { name = name; sources = sources } ∷ []) was
    ∙ ap (λ n. made seed cells i ++ record { name = n; sources = sources } ∷ []) named
    ∙ ap (λ s. made seed cells i ++ record { name = name_of i; sources = s } ∷ []) due
    ∙ ap (made seed cells) one
  where
    one : suc i ≡ i + 1
    one = omega arith

pub fresh_more : (seed cells i k word n now : ℕ) → k ≡ fresh_before seed cells i → word ≡ word_before seed i k → n ≡ i
    → now ≡ k + (cells - copied word cells n) → now ≡ fresh_before seed cells (i + 1)
unfolding fresh_before
fresh_more seed cells i k word n now was at many is =
    is ∙ ap (λ m. k + (cells - copied word cells m)) many ∙ ap (λ w. k + (cells - copied w cells i)) at
    ∙ ap (λ m. m + (cells - copied (word_before seed i m) cells i)) was
    ∙ ap (fresh_before seed cells) one
  where
    one : suc i ≡ i + 1
    one = omega arith

pub word_more : (seed cells i k word n now word_now : ℕ) → word ≡ word_before seed i k → n ≡ i
    → now ≡ k + (cells - copied word cells n) → word_now ≡ word_after (word_at_cells word n) (2 * (cells - copied word cells n))
    → word_now ≡ word_before seed (i + 1) now
word_more seed cells i k word n now word_now at many count is =
    is ∙ ap (λ m. word_after (word_at_cells word m) (2 * (cells - copied word cells n))) many
    ∙ ap (λ w. word_after (word_at_cells w i) (2 * (cells - copied word cells n))) at
    ∙ word_on seed i k (cells - copied word cells n) ∙ ap (word_before seed (i + 1)) (sym count)

pub small_more : (i k cells n now : ℕ) → k ≤ i * cells → now ≡ k + (cells - n) → now ≤ (i + 1) * cells
small_more i k cells n now small is =
    let all : (i + 1) * cells ≡ i * cells + cells = grind arith in
    omega (arith, small, is, all)
