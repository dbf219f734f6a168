-- What is carried out, after the cells and the nodes of all versions were looked at.
use Rattle.std.specs.Prelude.{◌≤◌, ℕ, List, length, All}
use Rattle.plan_type.specs.Budget.{IsBudget}
use Rattle.plan_type.specs.declared.budget.Budget.{Budget}
use Rattle.exec_tree.specs.declared.checked.Checked.{Checked}
use Rattle.exec_tree.specs.Prefixes.{prefixes}
use Rattle.audit_run.specs.Sources.{HaveTheirNames, HaveTheirSources}
use Rattle.chex_top.specs.declared.task.Task.{Task}
use Rattle.chex_top.specs.declared.task.Task.TheVariants as task
use Rattle.chex_top.specs.declared.version.Job.{Job}
use Rattle.chex_top.specs.declared.version.Job.TheVariants as job
use Rattle.chex_top.specs.declared.version.Version.{Version}
use Rattle.chex_top.specs.Files.{job_at}
use Rattle.chex_top.specs.Jobs.{checked, checked_one}
use Rattle.chex_top.specs.Nodes.{nodes}
use Rattle.chex_top.specs.Reads.{FileView}
use Rattle.chex_top.specs.Stages.{Stage, pure, of, ◌>>=◌}
use Rattle.chex_top.specs.Words.{IsAllowance}

-- a version alone: it has at most 64 cells, so its nodes are never too many
abbrev pub alone_task : Version → ℕ → Stage Task
alone_task version steps = checked_one version >>= (λ one. pure (task.Alone one steps))

-- versions that share: their cells, and then the count of their nodes
abbrev pub shared_task : List Version → Budget → ℕ → Stage Task
shared_task versions budget steps = checked versions >>= (λ all. nodes all >>= (λ tree. pure (task.Shared all budget steps)))

abbrev pub task_of : Job → Stage Task
task_of (job.Alone version steps) = alone_task version steps
task_of (job.Shared versions budget steps) = shared_task versions budget steps

-- what the words and the files call for: the words, the blocks and the files in order, then all cells, and then the nodes
unfoldable pub due : FileView → List (List ℕ) → Stage Task
due file words = of (job_at file words) >>= task_of

-- ---- what is known of each task

-- at most 64 versions of at most 64 cells, each cell that of its source, and at most 512 nodes
pub record AreReady (versions : List Checked) : Type 0 where
  pub many : length versions ≤ 64
  pub cells : All (λ (version : Checked). length version.cells ≤ 64) versions
  pub sources : HaveTheirSources versions
  pub names : HaveTheirNames versions
  pub nodes : length (prefixes versions) ≤ 512

abbrev pub IsReady : Task → Type 0
IsReady (task.Alone version steps) = (length version.cells ≤ 64) × IsAllowance steps
IsReady (task.Shared versions budget steps) = AreReady versions × IsBudget budget × IsAllowance steps
