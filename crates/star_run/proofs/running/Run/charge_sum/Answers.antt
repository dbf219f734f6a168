use Rattle.std.proofs.Common.{◌≡◌, ◌≤◌, ◌∙◌, arith, rules, sym, ap, subst, lit≤, Err, refl, []}
use Rattle.star_meaning.specs.Steps.{Gives, charge}
use Rattle.star_meaning.specs.World.{acting}
use Rattle.star_run.specs.RunView.{running_of}
use Rattle.star_run.specs.Running.{Running, world}
use Rattle.star_run.proofs.RunLemmas.{charge_cut}
use Rattle.star_run.proofs.running.Run.charge_sum.Goals as goal

pub returns-clause-gives : goal.returns-clause-gives
returns-clause-gives c = λ n is.
    let same = subst (λ (x : Running). acting (charge c.args.sum) (world x) ≡ acting (charge n) (world x)) c.self.view_is (charge_cut (running_of c.self.inside) n c.args.sum c.ran-nodes.ensures.kept c.self.invariant is) in
    subst (λ o. Gives o c.charge.result (world c.charge.new.self)) same c.charge.ensures.gives
