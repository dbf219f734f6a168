use Rattle.std.proofs.Common.{◌≡◌, ◌<◌, ◌+◌, ◌==◌, ℕ, List, length, get_or, ap, ◌∙◌, arith}
use Rattle.exec_tree.specs.declared.checked.Checked.{Checked}
use Rattle.exec_tree.specs.Prefixes.{prefixes}
use Rattle.audit_run.specs.Visits.{nodes_of}
use Rattle.audit_run.proofs.AddLemmas.{adding_ends, adding_more, adding_starts, nodes_reach}
use Rattle.audit_run.proofs.WayLemmas.{element, some_at}
use Rattle.audit_run.proofs.adding.add_version.Goals as goal

pub measured-requires-clause-nodes : goal.measured-requires-clause-nodes
measured-requires-clause-nodes g c = λ version there. c.as_slice-nodes.ensures.value ∙ c.in_ok-found.ensures version there

pub loop-number-init : goal.loop-number-init
loop-number-init g c = λ version there. adding_starts c.args.versions.now c.args.allowance c.args.place version c.args.rows.now.items c.requires.rows

pub bounds-nodes-number : goal.bounds-nodes-number
bounds-nodes-number g c =
    let versions = c.args.versions.now in
    let some = some_at versions c.args.place c.requires.place in
    nodes_reach versions c.args.allowance some.0 c.as_slice-nodes.result.now c.in_ok-ran.ran.items c.as_slice-more.result.now c.loop-number.number
    (element versions c.args.place some.0 some.1) (c.as_slice-nodes.ensures.value ∙ c.in_ok-found.ensures some.0 some.1) c.as_slice-more.ensures.value
    (c.in_ok-ran.ensures.rows some.0 some.1) c.loop-number-test.true

pub loop-number-preserved : goal.loop-number-preserved
loop-number-preserved g c = λ version there.
    let versions = c.args.versions.now in
    let at = c.loop-number in
    let count : c.len-count.result ≡ length at.rows.items = omega (arith, c.len-count.ensures, at.rows.ok.0) in
    adding_more versions c.args.allowance c.args.place version c.as_slice-nodes.result.now c.in_ok-ran.ran.items c.as_slice-more.result.now at.number c.index-nodes-number.result c.len-count.result
    c.is_next-wanted.result at.rows.items _ c.index-more-number.result there (c.as_slice-nodes.ensures.value ∙ c.in_ok-found.ensures version there) c.as_slice-more.ensures.value
    (c.in_ok-ran.ensures.rows version there) c.loop-number-test.true c.index-nodes-number.is c.index-more-number.is count c.is_next-wanted.ensures c.in_ok-push_row_if.ensures (at.invariant version there)

pub returns-clause-rows : goal.returns-clause-rows
returns-clause-rows g c =
    let versions = c.args.versions.now in
    let some = some_at versions c.args.place c.requires.place in
    adding_ends versions c.args.allowance c.args.place some.0 c.in_ok-ran.ran.items c.as_slice-more.result.now c.loop-number.number c.loop-number.rows.items some.1
    c.as_slice-more.ensures.value (c.in_ok-ran.ensures.rows some.0 some.1) c.loop-number-test.false (c.loop-number.invariant some.0 some.1)

pub returns-clause-steps : goal.returns-clause-steps
returns-clause-steps g c = λ version there. let spent = c.in_ok-ran.ensures.steps version there in omega arith
