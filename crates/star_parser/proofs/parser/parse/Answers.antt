use Rattle.std.proofs.Common.{◌-◌, length, sym, subst, arith}
use Rattle.star_parser.specs.Reading.{kinds}
use Rattle.star_parser.specs.Trees.{IsLeast}
use Rattle.star_parser.proofs.Texts.{when_read, when_refused}
use Rattle.star_parser.proofs.parser.parse.Goals as goal

pub returns-in-Ok-clause-ok : goal.returns-in-Ok-clause-ok
returns-in-Ok-clause-ok c =
    let t = c.depth_of_terms.ensures in let b = c.depth_of_blocks.ensures in
    (when_read c.depth_of_terms.result c.depth_of_blocks.result c.args.tokens.now c.in-Ok.cell c.whole.new.tokens.rest.now (omega arith) (omega arith) c.in-Ok.ensures).0

pub returns-in-Ok-clause-only : goal.returns-in-Ok-clause-only
returns-in-Ok-clause-only c =
    let t = c.depth_of_terms.ensures in let b = c.depth_of_blocks.ensures in
    (when_read c.depth_of_terms.result c.depth_of_blocks.result c.args.tokens.now c.in-Ok.cell c.whole.new.tokens.rest.now (omega arith) (omega arith) c.in-Ok.ensures).1

pub overflow_sub-result : goal.overflow_sub-result
overflow_sub-result c =
    let i = c.in-Err-Unexpected.field-0-is in
    let t = c.depth_of_terms.ensures in let b = c.depth_of_blocks.ensures in
    let h = when_refused c.depth_of_terms.result c.depth_of_blocks.result c.args.tokens.now c.whole.new.tokens.rest.now c.requires.ended (omega arith) (omega arith) (c.in-Err-Unexpected.ensures (λ e. cc)) in
    let a = h.0 in omega arith

pub returns-in-Err-Unexpected-clause-unexpected : goal.returns-in-Err-Unexpected-clause-unexpected
returns-in-Err-Unexpected-clause-unexpected c =
    let i = c.in-Err-Unexpected.field-0-is in
    let t = c.depth_of_terms.ensures in let b = c.depth_of_blocks.ensures in
    let h = when_refused c.depth_of_terms.result c.depth_of_blocks.result c.args.tokens.now c.whole.new.tokens.rest.now c.requires.ended (omega arith) (omega arith) (c.in-Err-Unexpected.ensures (λ e. cc)) in
    subst (λ n. IsLeast (length c.args.tokens.now - n) (kinds c.args.tokens.now)) (sym c.left.ensures) h.1

pub returns-in-Err-Unexpected-clause-complete : goal.returns-in-Err-Unexpected-clause-complete
returns-in-Err-Unexpected-clause-complete c =
    let i = c.in-Err-Unexpected.field-0-is in
    let t = c.depth_of_terms.ensures in let b = c.depth_of_blocks.ensures in
    let h = when_refused c.depth_of_terms.result c.depth_of_blocks.result c.args.tokens.now c.whole.new.tokens.rest.now c.requires.ended (omega arith) (omega arith) (c.in-Err-Unexpected.ensures (λ e. cc)) in
    h.2
