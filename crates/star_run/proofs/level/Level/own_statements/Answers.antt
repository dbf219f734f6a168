use Rattle.std.proofs.Common.{◌≡◌, ◌∙◌, ℕ, ◌+◌, drop, sym, ap, subst, refl, arith, rules}
use Rattle.star_run.specs.Fixed.{fixed}
use Rattle.star_run.specs.Own.{NumbersFrom}
use Rattle.star_run.specs.Running.{world}
use Rattle.star_run.proofs.OwnLemmas.{defines_here, entered_later, numbers_later, own_same, own_step, own_then}
use Rattle.star_run.proofs.level.Level.own_statements.Goals as goal

pub loop-place-init : goal.loop-place-init
loop-place-init g c = record { same = refl; goes = own_same _ _; numbers = c.requires.numbers; few = omega arith }

pub own_statement-requires-clause-entered : goal.own_statement-requires-clause-entered
own_statement-requires-clause-entered g c = entered_later c.args.self.now.given.program.now c.args.self.now.given.node c.args.run.now c.loop-place.run c.loop-place.invariant.goes c.requires.entered

pub own_statement-requires-clause-defines : goal.own_statement-requires-clause-defines
own_statement-requires-clause-defines g c =
    defines_here c.args.self.now.given.program.now c.args.self.now.given.node c.loop-place.number c.args.all.now c.loop-place.place c.index-all-place.result c.loop-place-test.true c.index-all-place.is c.loop-place.invariant.numbers

pub loop-place-preserved : goal.loop-place-preserved
loop-place-preserved g c = record {
  same = sym (own_step (fixed c.args.self.now.given) c.args.self.now.depth c.args.all.now c.loop-place.place c.loop-place.number c.index-all-place.result _ (world c.loop-place.run) (world c.own_statement.new.run) c.loop-place-test.true c.index-all-place.is refl _ (ap (λ k. c.loop-place.number + k) c.definitions_in-number.ensures.count) _ c.in_ok-own_statement.ensures.gives c.in-On.is) ∙ c.loop-place.invariant.same;
  goes = own_then _ _ _ _ c.loop-place.invariant.goes c.own_statement.ensures.goes;
  numbers = subst (λ (k : ℕ). NumbersFrom c.args.self.now.given.program.now c.args.self.now.given.node (c.loop-place.number + k) (drop (c.loop-place.place + 1) c.args.all.now)) (sym c.definitions_in-number.ensures.count)
      (numbers_later c.args.self.now.given.program.now c.args.self.now.given.node c.loop-place.number c.args.all.now c.loop-place.place c.index-all-place.result c.loop-place-test.true c.index-all-place.is c.loop-place.invariant.numbers);
  few = omega (arith, c.definitions_in-number.ensures.few);
}
