-- The nodes from one up to the top, gathered one by one.
use Rattle.std.proofs.Common.{◌≡◌, ℕ, ◌<◌, ◌≤◌, List, [], ◌∷◌, ◌++◌, length, reverse, sym, ap, ◌∙◌, subst, append_assoc, append-nil}
use Rattle.std.specs.List.{All}
use Rattle.std.proofs.lemmas.List.{reverse-append}
use Rattle.std.proofs.lemmas.List.Elements.{All-head, All-nil, All-push, All-tail}
use Rattle.exec_tree.specs.Forests.{ForestParts, parent_of, parents, path}
use Rattle.exec_tree.proofs.CutLemmas.{path_none}
use Rattle.replayer.proofs.PathLemmas.{path_step}
use Rattle.shared_run.specs.Written.{way_to}

pub all_reverse : (P : ℕ → Type 0) (xs : List ℕ) → All P xs → All P (reverse xs)
all_reverse P [] h = All-nil P
all_reverse P (x ∷ xs) h = subst (All P) (sym (reverse-append (x ∷ []) xs)) (All-push P (reverse xs) x (all_reverse P xs (All-tail P x xs h)) (All-head P x xs h))

pub way_more : (forest : ForestParts) (nodes later : List ℕ) (here up node : ℕ) → 1 ≤ here → here ≤ length forest.nodes → up ≡ parent_of forest here → up < here → later ≡ nodes ++ here ∷ []
    → nodes ++ path (parents forest) here ≡ path (parents forest) node → later ++ path (parents forest) up ≡ path (parents forest) node
way_more forest nodes later here up node least most is low pushed gathered =
    let ps : List ℕ = parents forest in
    let step : path ps here ≡ here ∷ path ps up =
    path_step forest here least most (subst (λ n. n < here) is low) ∙ ap (λ (n : ℕ). here ∷ path ps n) (sym is) in
    ap (λ (l : List ℕ). l ++ path ps up) pushed ∙ (append_assoc nodes (here ∷ []) (path ps up) ∙ (ap (λ (l : List ℕ). nodes ++ l) (sym step) ∙ gathered))

pub way_done : (forest : ForestParts) (nodes given : List ℕ) (here node : ℕ) → here ≡ 0 → nodes ++ path (parents forest) here ≡ path (parents forest) node → given ≡ reverse nodes
    → given ≡ way_to (parents forest) node
way_done forest nodes given here node none gathered turned =
    let ps : List ℕ = parents forest in
    let last : path ps here ≡ [] = ap (path ps) none ∙ path_none ps in
    turned ∙ ap reverse (sym (append-nil nodes) ∙ (ap (λ (l : List ℕ). nodes ++ l) (sym last) ∙ gathered))
