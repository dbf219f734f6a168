-- What cells and nodes make of what was read.
use Rattle.std.proofs.Common.{◌≡◌, ◌≤◌, ℕ, List, [], ◌∷◌, length, Result, Ok, Err, Option, Some, None, sym, ◌∙◌, ap, subst, refl, inl, inr, arith}
use Rattle.std.specs.Prelude.{All, IfSome}
use Rattle.std.specs.List.{AllByRecursion, AllZip}
use Rattle.std.proofs.lemmas.List.Elements.{All-from_recursion}
use Rattle.star_syntax.specs.CellParts.{CellParts}
use Rattle.plan_type.specs.declared.budget.Budget.{Budget}
use Rattle.exec_tree.specs.declared.checked.Checked.{Checked}
use Rattle.exec_tree.specs.Forests.{ForestParts}
use Rattle.audit_run.specs.Sources.{HaveTheirNames, HaveTheirSources}
use Rattle.cell_reader.specs.Cells.{IsCellOf, IsRead}
use Rattle.cell_reader.proofs.ReadLemmas.{all_by_source, all_names, is_read}
use Rattle.chex_top.specs.declared.bad_cell.BadCell as bad
use Rattle.chex_top.specs.declared.refusal.Refusal.{Refusal}
use Rattle.chex_top.specs.declared.refusal.Refusal.TheVariants.{Usage, Absent, ReadFailed, BadFile, BadCell, TooManyNodes, TooManyBlocks, NoMemory}
use Rattle.chex_top.specs.declared.task.Task.{Task}
use Rattle.chex_top.specs.declared.task.Task.TheVariants as task
use Rattle.chex_top.specs.declared.version.Job.{Job}
use Rattle.chex_top.specs.declared.version.Version.{Version}
use Rattle.chex_top.specs.Files.{job_at}
use Rattle.chex_top.specs.Jobs.{AreChecked, AreSmall, IsBadIn, IsCellRefusal, IsChecked, IsFirstBad, IsSmall}
use Rattle.chex_top.specs.Nodes.{IsNodesRefusal, nodes}
use Rattle.chex_top.specs.Reads.{FileView, IsCounted, Refuses}
use Rattle.chex_top.specs.Tasks.{AreReady, alone_task, due, shared_task, task_of}
use Rattle.chex_top.proofs.NodeLemmas.{each_few, few_versions}
use Rattle.chex_top.proofs.RefusedLemmas.{zip_length}

-- ---- stages

pub alone_called : (version : Version) (steps : ℕ) (one : Checked) → IsChecked version one → alone_task version steps (Ok (task.Alone one steps))
alone_called version steps one is = inl (one, is, inl refl)

pub alone_refused : (version : Version) (steps : ℕ) (why : Refusal) → IsCellRefusal (IsBadIn version) why → alone_task version steps (Err why)
alone_refused version steps why h = inr (why, h, refl)

module _ (versions : List Version) (budget : Budget) (steps : ℕ) where
  pub shared_called : (all : List Checked) (tree : ForestParts) → AreChecked versions all → nodes all (Ok tree) → shared_task versions budget steps (Ok (task.Shared all budget steps))
  shared_called all tree h few = inl (all, h, inl (tree, few, inl refl))

  pub cells_refused : (why : Refusal) → IsCellRefusal (IsFirstBad versions) why → shared_task versions budget steps (Err why)
  cells_refused why h = inr (why, h, refl)

  pub nodes_refused : (all : List Checked) (why : Refusal) → AreChecked versions all → IsNodesRefusal all why → shared_task versions budget steps (Err why)
  nodes_refused all why h many = inl (all, h, inr (why, many, refl))

-- what the files give, and what it calls for
pub due_after : (view : Option FileView) (words : List (List ℕ)) (job : Job) (answer : Result Task Refusal) → IfSome view (λ file. (job_at file words).1 ≡ Ok job) → task_of job answer
    → IfSome view (λ file. due file words answer)
unfolding due
due_after None words job answer read h = tt
due_after (Some file) words job answer read h = inl (job, read, h)

pub due_refused : (view : Option FileView) (words : List (List ℕ)) (why : Refusal) → IfSome view (λ file. Refuses (job_at file words) why) → IfSome view (λ file. due file words (Err why))
unfolding due
due_refused None words why read = tt
due_refused (Some file) words why read = inr (why, read, refl)

-- ---- counts

-- a refusal of a cell comes with no count
pub cell_counted : (Holds : bad.BadCell → Type 0) (why : Refusal) → IsCellRefusal Holds why → (a0 a1 f0 f1 : ℕ) → IsCounted why a0 a1 f0 f1
cell_counted Holds (BadCell bad) h a0 a1 f0 f1 = tt
cell_counted Holds NoMemory h a0 a1 f0 f1 = tt
cell_counted Holds Usage h a0 a1 f0 f1 = absurd h
cell_counted Holds (Absent file) h a0 a1 f0 f1 = absurd h
cell_counted Holds (ReadFailed file) h a0 a1 f0 f1 = absurd h
cell_counted Holds (BadFile file fault) h a0 a1 f0 f1 = absurd h
cell_counted Holds (TooManyNodes count) h a0 a1 f0 f1 = absurd h
cell_counted Holds (TooManyBlocks count) h a0 a1 f0 f1 = absurd h

-- and so does one of nodes
pub nodes_counted : (versions : List Checked) (why : Refusal) → IsNodesRefusal versions why → (a0 a1 f0 f1 : ℕ) → IsCounted why a0 a1 f0 f1
nodes_counted versions (TooManyNodes count) h a0 a1 f0 f1 = tt
nodes_counted versions NoMemory h a0 a1 f0 f1 = tt
nodes_counted versions Usage h a0 a1 f0 f1 = absurd h
nodes_counted versions (Absent file) h a0 a1 f0 f1 = absurd h
nodes_counted versions (ReadFailed file) h a0 a1 f0 f1 = absurd h
nodes_counted versions (BadFile file fault) h a0 a1 f0 f1 = absurd h
nodes_counted versions (BadCell bad) h a0 a1 f0 f1 = absurd h
nodes_counted versions (TooManyBlocks count) h a0 a1 f0 f1 = absurd h

-- ---- what is known of what was accepted

pub few_cells : (version : Version) (one : Checked) → IsSmall version → IsChecked version one → length one.cells ≤ 64
few_cells version one small is = let same = zip_length IsCellOf version.sources one.cells is.2 in let few = small.1 in omega arith

cells_read : (sources : List (List ℕ)) (cells : List CellParts) → AllZip IsCellOf sources cells → AllByRecursion IsRead cells
cells_read [] [] h = tt
cells_read [] (c ∷ cs) h = absurd h
cells_read (s ∷ ss) [] h = absurd h
cells_read (s ∷ ss) (c ∷ cs) h = (is_read s c h.0, cells_read ss cs h.1)

all_read : (versions : List Version) (all : List Checked) → AreChecked versions all → AllByRecursion (λ (v : Checked). All IsRead v.cells) all
all_read [] [] h = tt
all_read [] (c ∷ cs) h = absurd h
all_read (v ∷ vs) [] h = absurd h
all_read (v ∷ vs) (c ∷ cs) h = (All-from_recursion IsRead c.cells (cells_read v.sources c.cells h.0.2), all_read vs cs h.1)

pub ready : (versions : List Version) (all : List Checked) (tree : ForestParts) → length versions ≤ 64 → AreSmall versions → AreChecked versions all → nodes all (Ok tree) → AreReady all
ready versions all tree few small h count =
    let read = All-from_recursion (λ (v : Checked). All IsRead v.cells) all (all_read versions all h) in
    record {
      many = few_versions versions all few h;
      cells = each_few versions all small h;
      sources = all_by_source (λ (v : Checked). v.cells) all read;
      names = all_names (λ (v : Checked). v.cells) all read;
      nodes = count.1;
    }

-- no answer that is something is one of these
pub never_ok : {A : Type 0} (x : A) → (◌≡◌ {A = Result A Refusal} (Ok x) (Err Usage)) → ⊥
never_ok x h = cc
