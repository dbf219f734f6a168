use Rattle.plan_checker.proofs.Numbers.{no_depth, no_node, no_flag, whole_line}
use Rattle.plan_checker.proofs.line.take_line.Goals as goal

pub returns-in_default : goal.returns-in_default
returns-in_default c = no_depth c.args.bytes.now c.in_default.ensures

pub returns-in_default-number : goal.returns-in_default-number
returns-in_default-number c = no_node c.args.bytes.now c.in-Some.after_depth.now c.in-Some.depth c.in-Some.ensures.0 c.in-Some.ensures.1 c.in_default-number.ensures

pub returns-in_default-flag : goal.returns-in_default-flag
returns-in_default-flag c =
    no_flag c.args.bytes.now c.in-Some.after_depth.now c.in-Some-number.after_node.now c.in-Some.depth c.in-Some-number.node c.in-Some.ensures.0 c.in-Some-number.ensures.0 c.in-Some.ensures.1 c.in-Some-number.ensures.1
    c.in_default-flag.ensures

pub returns : goal.returns
returns c = (
  record { depth = c.in-Some.ensures.0; node = c.in-Some-number.ensures.0 },
  whole_line c.args.bytes.now c.in-Some.after_depth.now c.in-Some-number.after_node.now c.in-Some-flag.rest.now c.in-Some.depth c.in-Some-number.node c.in-Some-flag.hold c.in-Some.ensures.1 c.in-Some-number.ensures.1 c.in-Some-flag.ensures,
)
