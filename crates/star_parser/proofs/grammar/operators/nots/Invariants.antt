use Rattle.std.proofs.Common.{◌≡◌, ◌-◌, ◌≤◌, length}
use Rattle.star_parser.specs.Tables.{nots_from}
use Rattle.star_parser.proofs.grammar.operators.nots.Given as goal

abbrev pub invariant-loop-turn : goal.invariant-loop-turn
invariant-loop-turn l =
    (nots_from (length l.fn.tokens.rest.now) 0 l.fn.tokens.rest.now ≡ nots_from (l._turn-end - l._turn) l.count l.tokens.rest.now) × (l.count ≤ l._turn)
