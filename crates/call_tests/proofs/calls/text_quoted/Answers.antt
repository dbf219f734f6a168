use Rattle.call_tests.proofs.calls.text_quoted.Goals as goal

pub quoted-requires : goal.quoted-requires
quoted-requires c = c.text_value-text.ensures c.args.machine.now
