use Rattle.std.proofs.Common.{◌≡◌, drop}
use Rattle.star_builtins.specs.Reached.{store}
use Rattle.star_builtins.specs.TextRows.{given_texts, texts_onto}
use Rattle.star_builtins.specs.Walks.{given}
use Rattle.star_builtins.proofs.text_methods.taken_texts.Given as goal

abbrev pub invariant-loop-place : goal.invariant-loop-place
invariant-loop-place l = texts_onto l.parts (drop l.place (given l.machine.state l.of)) (store l.machine l.meter.left) ≡ given_texts l.of (store l.machine l.fn.meter.left)
