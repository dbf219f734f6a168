use Rattle.std.proofs.Common.{◌+◌, ◌==◌, ap}
use Rattle.audit_run.proofs.adding.is_next.Goals as goal

pub returns : goal.returns
returns c = ap (λ n. n == (c.args.count + 1)) c.node.view_is
