use Rattle.std.proofs.Common.{ap, ◌∙◌}
use Rattle.snapshot_codec.specs.Meeting.{met_with}
use Rattle.snapshot_codec.proofs.MeetingLaws.{dict_leads, function_leads, list_leads}
use Rattle.snapshot_codec.proofs.meeting.meet_object.Goals as goal

pub returns-in_ok-meet_values-in-List : goal.returns-in_ok-meet_values-in-List
returns-in_ok-meet_values-in-List c =
    c.in_ok-meet_values-in-List.ensures ∙ ap (met_with c.args.met.now.keys) (list_leads c.args.machine.now c.args.id c.list-items.result.now c.in-List.ensures.value c.list-items.ensures.value)

pub returns-in_ok-meet_pairs-in-Dict : goal.returns-in_ok-meet_pairs-in-Dict
returns-in_ok-meet_pairs-in-Dict c =
    c.in_ok-meet_pairs-in-Dict.ensures ∙ ap (met_with c.args.met.now.keys) (dict_leads c.args.machine.now c.args.id c.dict-pairs.result.now c.in-Dict.ensures.value c.dict-pairs.ensures.value)

pub returns-in_ok-meet_values-in-Function : goal.returns-in_ok-meet_values-in-Function
returns-in_ok-meet_values-in-Function c =
    c.in_ok-meet_values-in-Function.ensures ∙ ap (met_with c.args.met.now.keys) (function_leads c.args.machine.now c.args.id _ _ c.function.result.2.now c.function.ensures.value)
