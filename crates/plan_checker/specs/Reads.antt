-- What reading the lines of a text answers.
use Rattle.std.specs.Prelude.{ℕ, List, Result, Ok, Err, Vec}
use Rattle.std.specs.declared.alloc.Global.{Global}
use Rattle.plan_checker.specs.declared.line.Line.{Line}
use Rattle.plan_checker.specs.declared.fault.CheckFault.{CheckFault}
use Rattle.plan_checker.specs.declared.fault.CheckFault.TheVariants.{NotPlan, WrongChild, OverBudget, NoMemory}
use Rattle.plan_checker.specs.Lines.{IsRead, IsFaultyLine}

-- a text that cannot be read has a faulty line
abbrev pub IsUnread : List ℕ → CheckFault → Type 0
IsUnread text (NotPlan line) = IsFaultyLine text line
IsUnread text (WrongChild node) = ⊥
IsUnread text (OverBudget node blocks) = ⊥
IsUnread text NoMemory = Unit {0}

abbrev pub ReadsTo : List ℕ → Result (Vec Line Global) CheckFault → Type 0
ReadsTo text (Ok lines) = IsRead text lines.items
ReadsTo text (Err fault) = IsUnread text fault
