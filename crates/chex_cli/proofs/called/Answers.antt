use Rattle.std.proofs.Common.{inl, inr, refl}
use Rattle.chex_base.specs.declared.status.Status.TheVariants as ended
use Rattle.chex_cli.proofs.called.Goals as goal

pub returns-in-Err : goal.returns-in-Err
returns-in-Err c = (ended.NoMemory, c.from-in-Err.ensures, λ none. inr (inl refl))
