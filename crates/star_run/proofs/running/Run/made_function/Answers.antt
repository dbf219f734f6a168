use Rattle.std.proofs.Common.{◌≡◌, rules, sym, subst}
use Rattle.star_builtins.specs.Reached.{AllFit}
use Rattle.star_run.specs.RunView.{running_of}
use Rattle.star_run.specs.Running.{Running}
use Rattle.star_run.proofs.FunctionLemmas.{function_fits, function_gives, function_made, function_not_made, sound_function}
use Rattle.star_run.proofs.running.Run.made_function.Goals as goal

pub invariant_of-self-2 : goal.invariant_of-self-2
invariant_of-self-2 c =
    sound_function (running_of c.self.inside) c.args.self.now c.new_function.new.self c.args.cell c.args.number c.args.defaults c.self.view_is c.in_ok-id.ensures.ok.1 c.requires.fit c.self.invariant c.requires.credit

pub returns-in_err-id-clause-made : goal.returns-in_err-id-clause-made
returns-in_err-id-clause-made c =
    function_not_made (running_of c.self.inside) c.args.self.now c.new_function.new.self c.args.cell c.args.number c.args.defaults c.self.view_is c.in_err-id.ensures.err

pub returns-clause-gives : goal.returns-clause-gives
returns-clause-gives c =
    function_gives (running_of c.self.inside) c.args.self.now c.new_function.new.self c.args.cell c.args.number c.in_ok-id.id c.args.defaults c.self.view_is c.in_ok-id.ensures.ok.0 c.in_ok-id.ensures.ok.1

pub returns-clause-made : goal.returns-clause-made
returns-clause-made c =
    function_made (running_of c.self.inside) c.args.self.now c.new_function.new.self c.args.cell c.args.number c.args.defaults c.self.view_is c.in_ok-id.ensures.ok.1 c.requires.fit c.ran-nodes.ensures.kept

pub returns-clause-fits : goal.returns-clause-fits
returns-clause-fits c = function_fits c.self.inside.machine c.new_function.new.self c.args.cell c.args.number c.in_ok-id.id c.args.defaults c.in_ok-id.ensures.ok.0 c.in_ok-id.ensures.ok.1
