use Rattle.std.proofs.Common.{map, string_bytes}
use Rattle.chex_top.proofs.TaskLemmas.{due_after, due_refused}
use Rattle.chex_top.proofs.task.read_task.Goals as goal

pub returns-in-Ok-clause-due : goal.returns-in-Ok-clause-due
returns-in-Ok-clause-due g c = due_after (g.L.Library.files c.args.library.now) (map string_bytes c.args.words.now) c.in-Ok.job c.task_of.result c.in-Ok.ensures.read c.task_of.ensures.due

pub returns-in-Err-clause-due : goal.returns-in-Err-clause-due
returns-in-Err-clause-due g c = due_refused (g.L.Library.files c.args.library.now) (map string_bytes c.args.words.now) c.in-Err.refusal c.in-Err.ensures.read
