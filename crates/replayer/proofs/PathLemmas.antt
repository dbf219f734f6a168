-- The paths of nodes, the states on them, and how deep they are.
use Rattle.std.proofs.Common.{◌≡◌, ℕ, zero, suc, ◌+◌, ◌-◌, ◌<◌, ◌≤◌, List, [], ◌∷◌, ◌++◌, length, get_or, map, fold, refl, sym, ap, ◌∙◌, subst, arith, append_assoc}
use Rattle.std.proofs.lemmas.List.{append-nil, get_or_append_left, get_or_push, length_push, length-map}
use Rattle.star_syntax.specs.declared.cell.Program.{Program}
use Rattle.chex_base.specs.declared.input.Input.{Input}
use Rattle.star_meaning.specs.declared.ran.Ran.{Ran}
use Rattle.star_meaning.specs.Validity.{MachineState, after, nothing_ran, ran_at}
use Rattle.exec_tree.specs.Forests.{ForestParts, parent_of, parents, path, paths}
use Rattle.exec_tree.specs.declared.node.Node.{Node}
use Rattle.exec_tree.proofs.CutLemmas.{path_none}
use Rattle.replayer.specs.Nodes.{depth_at, inputs_at, program_of, result_at, state_at, state_over}

-- ---- paths

abbrev with_path : List (List ℕ) → ℕ → List (List ℕ)
with_path made parent = made ++ (length made ∷ get_or made parent []) ∷ []

after_made : (made : List (List ℕ)) (ps : List ℕ) → (more : List (List ℕ)) × (fold with_path made ps ≡ made ++ more)
after_made made [] = ([], sym (append-nil made))
after_made made (p ∷ ps) =
    let own = length made ∷ get_or made p [] in
    let rest = after_made (made ++ own ∷ []) ps in
    (own ∷ rest.0, rest.1 ∙ append_assoc made (own ∷ []) rest.0)

path_at : (made : List (List ℕ)) (ps : List ℕ) (k : ℕ) → k < length ps → get_or ps k 0 < length made + k
    → get_or (fold with_path made ps) (length made + k) [] ≡ (length made + k) ∷ get_or (fold with_path made ps) (get_or ps k 0) []
path_at made [] k within low = absurd (omega arith)
path_at made (p ∷ ps) zero within low =
    let own = length made ∷ get_or made p [] in
    let rest = after_made (made ++ own ∷ []) ps in
    let here : length made + 0 ≡ length made = omega arith in
    let parent : p < length made = omega (arith, low) in
    let whole : fold with_path (made ++ own ∷ []) ps ≡ made ++ (own ∷ rest.0) = rest.1 ∙ append_assoc made (own ∷ []) rest.0 in
    ap (λ n. get_or (fold with_path (made ++ own ∷ []) ps) n []) here
    ∙ ap (λ l. get_or l (length made) []) rest.1
    ∙ get_or_append_left (made ++ own ∷ []) rest.0 [] (length made) (omega (arith, length_push made own))
    ∙ get_or_push made own [] (length made) refl
    ∙ ap (λ n. n ∷ get_or made p []) (sym here)
    ∙ ap (λ l. (length made + 0) ∷ l) (sym (ap (λ l. get_or l p []) whole ∙ get_or_append_left made (own ∷ rest.0) [] p parent))
path_at made (p ∷ ps) (suc k) within low =
    let own = length made ∷ get_or made p [] in
    let long = length_push made own in
    let next : length made + suc k ≡ length (made ++ own ∷ []) + k = omega arith in
    let rest = path_at (made ++ own ∷ []) ps k (omega arith) (omega (arith, low)) in
    ap (λ n. get_or (fold with_path (made ++ own ∷ []) ps) n []) next
    ∙ rest
    ∙ ap (λ n. n ∷ get_or (fold with_path (made ++ own ∷ []) ps) (get_or ps k 0) []) (sym next)

path_above : (ps : List ℕ) (n : ℕ) → 1 ≤ n → n ≤ length ps → get_or ps (n - 1) 0 < n → path ps n ≡ n ∷ path ps (get_or ps (n - 1) 0)
unfolding paths
path_above ps n least most low =
    let is : 1 + (n - 1) ≡ n = omega arith in
    ap (λ m. get_or (fold with_path ([] ∷ []) ps) m []) (sym is)
    ∙ path_at ([] ∷ []) ps (n - 1) (omega arith) (omega arith)
    ∙ ap (λ m. m ∷ get_or (fold with_path ([] ∷ []) ps) (get_or ps (n - 1) 0) []) is

-- a node stands first on its path, before the path of its parent
pub path_step : (forest : ForestParts) (v : ℕ) → 1 ≤ v → v ≤ length forest.nodes → parent_of forest v < v → path (parents forest) v ≡ v ∷ path (parents forest) (parent_of forest v)
path_step forest v least most low =
    let many : length (parents forest) ≡ length forest.nodes = length-map forest.nodes (λ (node : Node). node.parent) in
    path_above (parents forest) v least (omega (arith, many)) low

-- ---- depths

pub depth_none : (forest : ForestParts) → depth_at forest 0 ≡ 0
unfolding depth_at
depth_none forest = ap length (path_none (parents forest))

pub depth_step : (forest : ForestParts) (v : ℕ) → 1 ≤ v → v ≤ length forest.nodes → parent_of forest v < v → depth_at forest v ≡ depth_at forest (parent_of forest v) + 1
unfolding depth_at
depth_step forest v least most low = let e = ap length (path_step forest v least most low) in omega (arith, e)

-- ---- states

pub state_none : (forest : ForestParts) (allowance : ℕ) → state_at forest allowance 0 ≡ nothing_ran
unfolding state_at
state_none forest allowance = ap (state_over forest allowance) (path_none (parents forest))

pub state_step : (forest : ForestParts) (allowance v : ℕ) → 1 ≤ v → v ≤ length forest.nodes → parent_of forest v < v
    → state_at forest allowance v ≡ after (program_of forest) (state_at forest allowance (parent_of forest v)) v (inputs_at forest v) allowance
unfolding state_at
state_step forest allowance v least most low = ap (state_over forest allowance) (path_step forest v least most low)

pub result_is : (forest : ForestParts) (allowance v : ℕ) → result_at forest allowance v ≡ ran_at (program_of forest) (state_at forest allowance (parent_of forest v)) v (inputs_at forest v) allowance
unfolding result_at
result_is forest allowance v = refl

-- the node has run
pub after_ran : (program : Program) (s : MachineState) (v : ℕ) (inputs : List (List ℕ × Input)) (allowance : ℕ) → (after program s v inputs allowance).ran ≡ s.ran ++ v ∷ []
unfolding after
after_ran program s v inputs allowance = refl

pub ran_more : (program : Program) (s : MachineState) (v : ℕ) (inputs : List (List ℕ × Input)) (allowance : ℕ) → length (after program s v inputs allowance).ran ≡ length s.ran + 1
ran_more program s v inputs allowance = let e = ap length (after_ran program s v inputs allowance) in let l = length_push s.ran v in omega (arith, e, l)

over_ran : (forest : ForestParts) (allowance : ℕ) (vs : List ℕ) → length (state_over forest allowance vs).ran ≡ length vs
over_ran forest allowance [] = refl
over_ran forest allowance (v ∷ above) =
    let i = over_ran forest allowance above in
    let m = ran_more (program_of forest) (state_over forest allowance above) v (inputs_at forest v) allowance in
    omega (arith, i, m)

-- as many cells have run after a node as stand on its path
pub state_ran : (forest : ForestParts) (allowance v : ℕ) → length (state_at forest allowance v).ran ≡ depth_at forest v
unfolding state_at depth_at
state_ran forest allowance v = over_ran forest allowance (path (parents forest) v)

-- ---- climbing

pub depth_goes : (forest : ForestParts) (depth here up node : ℕ) → 1 ≤ here → here ≤ length forest.nodes → up ≡ parent_of forest here → up < here → depth + depth_at forest here ≡ depth_at forest node
    → depth + 1 + depth_at forest up ≡ depth_at forest node
depth_goes forest depth here up node least most is low deep =
    let own : parent_of forest here < here = subst (λ n. n < here) is low in
    let step = depth_step forest here least most own in
    let same = ap (depth_at forest) is in
    omega (arith, step, same, deep)

pub depth_ends : (forest : ForestParts) (depth here node : ℕ) → here ≡ 0 → depth + depth_at forest here ≡ depth_at forest node → depth ≡ depth_at forest node
depth_ends forest depth here node none deep = let e = ap (depth_at forest) none in let z = depth_none forest in omega (arith, e, z, deep)
