use Rattle.star_builtins.specs.Reached.{names}
use Rattle.star_builtins.proofs.Quoted.{shown_text}
use Rattle.star_builtins.proofs.showing.Writer.shown.Goals as goal

pub returns-in-Some-clause-gives : goal.returns-in-Some-clause-gives
returns-in-Some-clause-gives c =
    rw (shown_text (names c.args.self.now.program.now) c.args.value.now c.in-Some.text.now c.in-Some.ensures) (c.write_text.ensures.gives c.args.self.now.machine.now.state)
