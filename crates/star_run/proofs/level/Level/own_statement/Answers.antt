use Rattle.std.proofs.Common.{◌≡◌, subst}
use Rattle.star_syntax.specs.declared.statement.Statement.{Statement}
use Rattle.star_run.specs.Fixed.{fixed}
use Rattle.star_run.specs.Own.{Defines}
use Rattle.star_run.specs.Running.{world}
use Rattle.star_run.proofs.OwnLemmas.{def_gives, defines_def, for_gives, if_gives, line_gives}
use Rattle.star_run.proofs.level.Level.own_statement.Goals as goal

pub definition-requires-clause-function : goal.definition-requires-clause-function
definition-requires-clause-function g c =
    defines_def c.args.self.now.given.program.now c.args.self.now.given.node c.args.number c.in-Def.at c.in-Def.def
    (subst (λ (st : Statement). Defines c.args.self.now.given.program.now c.args.self.now.given.node c.args.number st) c.in-Def.is c.requires.defines)

pub returns-in-Line-clause-gives : goal.returns-in-Line-clause-gives
returns-in-Line-clause-gives g c =
    line_gives (fixed c.args.self.now.given) c.args.self.now.depth c.args.statement.now c.args.last c.args.number (world c.args.run.now) (world c.line.new.run) c.line.result c.in-Line.line c.in-Line.is c.line.ensures.gives

pub returns-in-If-clause-gives : goal.returns-in-If-clause-gives
returns-in-If-clause-gives g c =
    if_gives (fixed c.args.self.now.given) c.args.self.now.depth c.args.statement.now c.args.last c.args.number (world c.args.run.now) (world c.exec.new.run) c.exec.result c.in-If.field-0 c.in-If.field-1 c.in-If.field-2 c.in-If.field-3 c.in-If.is c.exec.ensures.gives

pub returns-in-For-clause-gives : goal.returns-in-For-clause-gives
returns-in-For-clause-gives g c =
    for_gives (fixed c.args.self.now.given) c.args.self.now.depth c.args.statement.now c.args.last c.args.number (world c.args.run.now) (world c.exec-in-For.new.run) c.exec-in-For.result c.in-For.field-0 c.in-For.field-1 c.in-For.field-2 c.in-For.field-3 c.in-For.is c.exec-in-For.ensures.gives

pub returns-in-Def-clause-gives : goal.returns-in-Def-clause-gives
returns-in-Def-clause-gives g c =
    def_gives (fixed c.args.self.now.given) c.args.self.now.depth c.args.statement.now c.args.last c.args.number (world c.args.run.now) (world c.definition.new.run) c.definition.result c.in-Def.at c.in-Def.def c.in-Def.is c.definition.ensures.gives
