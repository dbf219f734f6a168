use Rattle.star_run.proofs.CallLemmas.{function_there, makes_goes}
use Rattle.star_run.proofs.RunLemmas.{goes_same}
use Rattle.star_run.proofs.level.Level.called_at.Goals as goal

pub call_function-requires-clause-callable : goal.call_function-requires-clause-callable
call_function-requires-clause-callable g c = record {
  function = function_there c.args.run.now.machine c.args.function.now c.in-Function.id c.in-Function.is c.requires.function;
  positional = c.requires.positional;
  named = c.requires.named;
}

pub returns-in-Function-clause-made : goal.returns-in-Function-clause-made
returns-in-Function-clause-made g c = makes_goes _ _ c.call_function.ensures.goes

pub returns-in_default-clause-made : goal.returns-in_default-clause-made
returns-in_default-clause-made g c = makes_goes _ _ (goes_same c.args.run.now)
