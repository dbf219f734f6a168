-- The words and the files call for one answer at most, beside a failed read and want of memory.
use Rattle.std.proofs.Common.{◌≡◌, inl, inr, ℕ, List, Result, Ok, Err, sym, ◌∙◌, ap, subst, refl}
use Rattle.cell_reader.specs.declared.cell.Reason.{Reason}
use Rattle.chex_top.specs.declared.bad_cell.BadCell.{BadCell}
use Rattle.chex_top.specs.declared.refusal.Refusal.{Refusal}
use Rattle.chex_top.specs.declared.refusal.Refusal.TheVariants.{Usage, Absent, ReadFailed, BadFile, NoMemory}
use Rattle.chex_top.specs.declared.refusal.Refusal.TheVariants as refusal
use Rattle.chex_top.specs.declared.version.Job.{Job}
use Rattle.chex_top.specs.declared.version.Job.TheVariants as job
use Rattle.chex_top.specs.declared.task.Task.{Task}
use Rattle.chex_top.specs.declared.task.Task.TheVariants as task
use Rattle.plan_type.specs.declared.budget.Budget.{Budget}
use Rattle.chex_top.specs.declared.version.Version.{Version}
use Rattle.exec_tree.specs.declared.checked.Checked.{Checked}
use Rattle.chex_top.specs.Reads.{FileView, Read, Answers}
use Rattle.chex_top.specs.Files.{job_at}
use Rattle.chex_top.specs.Stages.{Stage, pure, of, ◌>>=◌, IsCertain, IsSingle}
use Rattle.cell_reader.specs.Cells.{IsCellOf, IsWrong}
use Rattle.chex_top.specs.Jobs.{IsChecked, IsBadIn, IsFirstBad, checked, checked_one}
use Rattle.chex_top.specs.Nodes.{nodes}
use Rattle.chex_top.specs.Tasks.{alone_task, due, shared_task, task_of}
use Rattle.chex_top.proofs.FirstLemmas.{first_once}
use Rattle.cell_reader.proofs.CellLemmas.{cell_apart}
use Rattle.cell_reader.proofs.WrongLemmas.{wrong_once}
use Rattle.chex_top.proofs.CellLemmas.{version_apart, bad_apart, checked_once, all_checked_once}
use Rattle.chex_top.proofs.NodeLemmas.{nodes_single}

-- ---- the first cell that is refused

abbrev bad_cell : List ℕ → ℕ → Reason → ℕ → BadCell
bad_cell name cell why line = record { name = name; cell = cell; reason = why; line = line }

bad_same : (a b : BadCell) → a.name ≡ b.name → a.cell ≡ b.cell → a.reason ≡ b.reason → a.line ≡ b.line → a ≡ b
bad_same a b name cell why line =
    ap (λ x. bad_cell x a.cell a.reason a.line) name ∙ ap (λ x. bad_cell b.name x a.reason a.line) cell
    ∙ ap (λ x. bad_cell b.name b.cell x a.line) why ∙ ap (λ x. bad_cell b.name b.cell b.reason x) line

pair_same : (a b : Reason × ℕ) → (a.0 ≡ b.0) × (a.1 ≡ b.1) → a ≡ b
pair_same a b same =
    let left : (a.0, a.1) ≡ (b.0, a.1) = ap (λ x. (x, a.1)) same.0 in
    let right : (b.0, a.1) ≡ (b.0, b.1) = ap (λ x. (b.0, x)) same.1 in
    left ∙ right

bad_in_once : (version : Version) (a b : BadCell) → IsBadIn version a → IsBadIn version b → a ≡ b
bad_in_once version a b h k =
    let same = first_once {C = Reason × ℕ} IsCellOf (λ source p. IsWrong source p.0 p.1) (λ source cell p. cell_apart source cell p.0 p.1)
    (λ source p q left right. pair_same p q (wrong_once source p.0 q.0 p.1 q.1 left right)) version.sources a.cell b.cell (a.reason, a.line) (b.reason, b.line) h.1 k.1 in
    bad_same a b (h.0 ∙ sym k.0) same.0 (ap (λ (p : Reason × ℕ). p.0) same.1) (ap (λ (p : Reason × ℕ). p.1) same.1)

first_bad_once : (versions : List Version) (a b : BadCell) → IsFirstBad versions a → IsFirstBad versions b → a ≡ b
first_bad_once versions a b h k =
    (first_once IsChecked IsBadIn (λ version run bad. version_apart bad version run) bad_in_once versions h.0 k.0 a b h.1 k.1).1

-- ---- stages

pub pure_single : {A : Type 0} (x : A) → IsSingle (pure x)
pure_single x one other (inl h) (inl k) sure certain = h ∙ sym k
pure_single x one other (inl h) (inr k) sure certain = absurd (certain.0 k)
pure_single x one other (inr h) k sure certain = absurd (sure.0 h)

answer_is : {A : Type 0} (read : Read A) (answer : Result A Refusal) → Answers read answer → IsCertain answer → read.1 ≡ answer
answer_is read (Ok x) h sure = h
answer_is read (Err Usage) h sure = h
answer_is read (Err (Absent file)) h sure = h
answer_is read (Err (ReadFailed file)) h sure = absurd (sure.1 file refl)
answer_is read (Err (BadFile file fault)) h sure = h
answer_is read (Err (refusal.BadCell bad)) h sure = h
answer_is read (Err (refusal.TooManyNodes count)) h sure = h
answer_is read (Err (refusal.TooManyBlocks count)) h sure = h
answer_is read (Err NoMemory) h sure = absurd (sure.0 refl)

pub of_single : {A : Type 0} (read : Read A) → IsSingle (of read)
of_single read one other h k sure certain = sym (answer_is read one h sure) ∙ answer_is read other k certain

ok_certain : {A : Type 0} (x : A) → IsCertain {A = A} (Ok x)
ok_certain x = (λ h. cc, λ file h. cc)

-- a refusal is as certain as the answer that it is
err_certain : {A B : Type 0} (why : Refusal) (answer : Result B Refusal) → answer ≡ Err why → IsCertain answer → IsCertain {A = A} (Err why)
err_certain why answer is sure = (λ h. let same : why ≡ NoMemory = cc in sure.0 (is ∙ ap Err same), λ file h. let same : why ≡ ReadFailed file = cc in sure.1 file (is ∙ ap Err same))

ok_same : {A : Type 0} (x y : A) → ◌≡◌ {A = Result A Refusal} (Ok x) (Ok y) → x ≡ y
ok_same x y h = cc

err_same : {A : Type 0} (x y : Refusal) → ◌≡◌ {A = Result A Refusal} (Err x) (Err y) → x ≡ y
err_same x y h = cc

ok_err_apart : {A : Type 0} (x : A) (why : Refusal) → ◌≡◌ {A = Result A Refusal} (Ok x) (Err why) → ⊥
ok_err_apart x why h = cc

pub next_single : {A B : Type 0} (p : Stage A) (f : A → Stage B) → IsSingle p → ((x : A) → IsSingle (f x)) → IsSingle (p >>= f)
next_single p f first then one other (inl h) (inl k) sure certain =
    let same : h.0 ≡ k.0 = ok_same h.0 k.0 (first (Ok h.0) (Ok k.0) h.1 k.1 (ok_certain h.0) (ok_certain k.0)) in
    then k.0 one other (subst (λ x. f x one) same h.2) k.2 sure certain
next_single p f first then one other (inl h) (inr k) sure certain =
    absurd (ok_err_apart h.0 k.0 (first (Ok h.0) (Err k.0) h.1 k.1 (ok_certain h.0) (err_certain k.0 other k.2 certain)))
next_single p f first then one other (inr h) (inl k) sure certain =
    absurd (ok_err_apart k.0 h.0 (sym (first (Err h.0) (Ok k.0) h.1 k.1 (err_certain h.0 one h.2 sure) (ok_certain k.0))))
next_single p f first then one other (inr h) (inr k) sure certain =
    let why : h.0 ≡ k.0 = err_same h.0 k.0 (first (Err h.0) (Err k.0) h.1 k.1 (err_certain h.0 one h.2 sure) (err_certain k.0 other k.2 certain)) in
    h.2 ∙ ap Err why ∙ sym k.2

checked_single : (versions : List Version) → IsSingle (checked versions)
checked_single versions (Ok a) (Ok b) h k sure certain = ap Ok (all_checked_once versions a b h k)
checked_single versions (Ok a) (Err (refusal.BadCell bad)) h k sure certain = absurd (bad_apart versions a bad h k)
checked_single versions (Ok a) (Err NoMemory) h k sure certain = absurd (certain.0 refl)
checked_single versions (Ok a) (Err Usage) h k sure certain = absurd k
checked_single versions (Ok a) (Err (Absent file)) h k sure certain = absurd k
checked_single versions (Ok a) (Err (ReadFailed file)) h k sure certain = absurd k
checked_single versions (Ok a) (Err (BadFile file fault)) h k sure certain = absurd k
checked_single versions (Ok a) (Err (refusal.TooManyNodes count)) h k sure certain = absurd k
checked_single versions (Ok a) (Err (refusal.TooManyBlocks count)) h k sure certain = absurd k
checked_single versions (Err (refusal.BadCell a)) (Ok all) h k sure certain = absurd (bad_apart versions all a k h)
checked_single versions (Err (refusal.BadCell a)) (Err (refusal.BadCell b)) h k sure certain = ap (λ bad. Err (refusal.BadCell bad)) (first_bad_once versions a b h k)
checked_single versions (Err (refusal.BadCell a)) (Err NoMemory) h k sure certain = absurd (certain.0 refl)
checked_single versions (Err (refusal.BadCell a)) (Err Usage) h k sure certain = absurd k
checked_single versions (Err (refusal.BadCell a)) (Err (Absent file)) h k sure certain = absurd k
checked_single versions (Err (refusal.BadCell a)) (Err (ReadFailed file)) h k sure certain = absurd k
checked_single versions (Err (refusal.BadCell a)) (Err (BadFile file fault)) h k sure certain = absurd k
checked_single versions (Err (refusal.BadCell a)) (Err (refusal.TooManyNodes count)) h k sure certain = absurd k
checked_single versions (Err (refusal.BadCell a)) (Err (refusal.TooManyBlocks count)) h k sure certain = absurd k
checked_single versions (Err NoMemory) other h k sure certain = absurd (sure.0 refl)
checked_single versions (Err Usage) other h k sure certain = absurd h
checked_single versions (Err (Absent file)) other h k sure certain = absurd h
checked_single versions (Err (ReadFailed file)) other h k sure certain = absurd h
checked_single versions (Err (BadFile file fault)) other h k sure certain = absurd h
checked_single versions (Err (refusal.TooManyNodes count)) other h k sure certain = absurd h
checked_single versions (Err (refusal.TooManyBlocks count)) other h k sure certain = absurd h

one_single : (version : Version) → IsSingle (checked_one version)
one_single version (Ok a) (Ok b) h k sure certain = ap Ok (checked_once version a b h k)
one_single version (Ok a) (Err (refusal.BadCell bad)) h k sure certain = absurd (version_apart bad version a h k)
one_single version (Ok a) (Err NoMemory) h k sure certain = absurd (certain.0 refl)
one_single version (Ok a) (Err Usage) h k sure certain = absurd k
one_single version (Ok a) (Err (Absent file)) h k sure certain = absurd k
one_single version (Ok a) (Err (ReadFailed file)) h k sure certain = absurd k
one_single version (Ok a) (Err (BadFile file fault)) h k sure certain = absurd k
one_single version (Ok a) (Err (refusal.TooManyNodes count)) h k sure certain = absurd k
one_single version (Ok a) (Err (refusal.TooManyBlocks count)) h k sure certain = absurd k
one_single version (Err (refusal.BadCell a)) (Ok all) h k sure certain = absurd (version_apart a version all k h)
one_single version (Err (refusal.BadCell a)) (Err (refusal.BadCell b)) h k sure certain = ap (λ bad. Err (refusal.BadCell bad)) (bad_in_once version a b h k)
one_single version (Err (refusal.BadCell a)) (Err NoMemory) h k sure certain = absurd (certain.0 refl)
one_single version (Err (refusal.BadCell a)) (Err Usage) h k sure certain = absurd k
one_single version (Err (refusal.BadCell a)) (Err (Absent file)) h k sure certain = absurd k
one_single version (Err (refusal.BadCell a)) (Err (ReadFailed file)) h k sure certain = absurd k
one_single version (Err (refusal.BadCell a)) (Err (BadFile file fault)) h k sure certain = absurd k
one_single version (Err (refusal.BadCell a)) (Err (refusal.TooManyNodes count)) h k sure certain = absurd k
one_single version (Err (refusal.BadCell a)) (Err (refusal.TooManyBlocks count)) h k sure certain = absurd k
one_single version (Err NoMemory) other h k sure certain = absurd (sure.0 refl)
one_single version (Err Usage) other h k sure certain = absurd h
one_single version (Err (Absent file)) other h k sure certain = absurd h
one_single version (Err (ReadFailed file)) other h k sure certain = absurd h
one_single version (Err (BadFile file fault)) other h k sure certain = absurd h
one_single version (Err (refusal.TooManyNodes count)) other h k sure certain = absurd h
one_single version (Err (refusal.TooManyBlocks count)) other h k sure certain = absurd h

alone_single : (version : Version) (steps : ℕ) → IsSingle (alone_task version steps)
alone_single version steps = next_single (checked_one version) (λ one. pure (task.Alone one steps)) (one_single version) (λ one. pure_single (task.Alone one steps))

nodes_next : (budget : Budget) (steps : ℕ) (all : List Checked) → IsSingle (nodes all >>= (λ tree. pure (task.Shared all budget steps)))
nodes_next budget steps all = next_single (nodes all) (λ tree. pure (task.Shared all budget steps)) (nodes_single all) (λ tree. pure_single (task.Shared all budget steps))

shared_single : (versions : List Version) (budget : Budget) (steps : ℕ) → IsSingle (shared_task versions budget steps)
shared_single versions budget steps =
    next_single (checked versions) (λ all. nodes all >>= (λ tree. pure (task.Shared all budget steps))) (checked_single versions) (nodes_next budget steps)

task_single : (j : Job) → IsSingle (task_of j)
task_single (job.Alone version steps) = alone_single version steps
task_single (job.Shared versions budget steps) = shared_single versions budget steps

pub due_single : (file : FileView) (words : List (List ℕ)) → IsSingle (due file words)
unfolding due
due_single file words = next_single (of (job_at file words)) task_of (of_single (job_at file words)) task_single
