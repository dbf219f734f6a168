use Rattle.std.proofs.Common.{◌≡◌, ◌≤◌, ◌∙◌, arith, rules, sym, ap, subst, lit≤, Err, Ok, refl, []}
use Rattle.star_meaning.specs.Showing.{quoted}
use Rattle.star_meaning.specs.Steps.{Gives}
use Rattle.star_builtins.specs.Reached.{names, store}
use Rattle.star_builtins.specs.Shows.{Shows, onto}
use Rattle.star_run.specs.Settled.{made_of}
use Rattle.star_run.proofs.RunLemmas.{shown_gives}
use Rattle.star_run.proofs.running.quoted_text.Goals as goal

pub returns-in_err-show : goal.returns-in_err-show
returns-in_err-show c =
    let r : c.from_residual.result ≡ Err c.in_err-show.field-0.0 = search rules in
    rw r (subst (λ a. Gives (quoted (names c.args.program.now) c.args.value.now (store c.args.machine.now c.args.meter.now.left)) (made_of a c.show.new.out) (store c.args.machine.now c.show.new.meter.left)) c.in_err-show.was
    (shown_gives (quoted (names c.args.program.now) c.args.value.now) (store c.args.machine.now c.args.meter.now.left) (store c.args.machine.now c.show.new.meter.left) c.show.result c.show.new.out (subst (λ b. Shows (onto b (quoted (names c.args.program.now) c.args.value.now) (store c.args.machine.now c.args.meter.now.left)) c.show.result (store c.args.machine.now c.show.new.meter.left) c.show.new.out) c.new-text.ensures c.show.ensures.gives)))

pub returns : goal.returns
returns c =
    subst (λ a. Gives (quoted (names c.args.program.now) c.args.value.now (store c.args.machine.now c.args.meter.now.left)) (made_of a c.show.new.out) (store c.args.machine.now c.show.new.meter.left)) c.in_ok-show.was
    (shown_gives (quoted (names c.args.program.now) c.args.value.now) (store c.args.machine.now c.args.meter.now.left) (store c.args.machine.now c.show.new.meter.left) c.show.result c.show.new.out (subst (λ b. Shows (onto b (quoted (names c.args.program.now) c.args.value.now) (store c.args.machine.now c.args.meter.now.left)) c.show.result (store c.args.machine.now c.show.new.meter.left) c.show.new.out) c.new-text.ensures c.show.ensures.gives))
