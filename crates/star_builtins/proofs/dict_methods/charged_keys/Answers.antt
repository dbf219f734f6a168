use Rattle.std.proofs.Common.{◌∙◌, rules}
use Rattle.star_value.specs.declared.value.Value.TheVariants as value
use Rattle.star_builtins.proofs.DictLemmas.{dict_fits, dict_count}
use Rattle.star_builtins.proofs.WalkLemmas.{given_dict, given_fit}
use Rattle.star_builtins.proofs.dict_methods.charged_keys.Goals as goal

pub charge_iterated-requires-clause-of : goal.charge_iterated-requires-clause-of
charge_iterated-requires-clause-of c = dict_fits c.args.machine.now c.args.id c.requires.kind

pub charge_iterated-requires-clause-count : goal.charge_iterated-requires-clause-count
charge_iterated-requires-clause-count c = dict_count c.args.machine.now.state c.args.id _ c.dict_len-count.ensures.value

pub collected-requires-clause-of : goal.collected-requires-clause-of
collected-requires-clause-of c = dict_fits c.args.machine.now c.args.id c.requires.kind

pub collected-requires-clause-count : goal.collected-requires-clause-count
collected-requires-clause-count c = dict_count c.args.machine.now.state c.args.id _ c.dict_len-count.ensures.value

pub returns-in_err-charge_iterated-clause-charges : goal.returns-in_err-charge_iterated-clause-charges
returns-in_err-charge_iterated-clause-charges c = let over = rw (given_dict c.args.machine.now.state c.args.id) at c.in_err-charge_iterated.ensures in search (rules, over)

pub returns-clause-charges : goal.returns-clause-charges
returns-clause-charges c =
    (rw (given_dict c.args.machine.now.state c.args.id) at c.in_ok-charge_iterated.ensures, c.from_vec.ensures ∙ c.in_ok-keys.ensures ∙ given_dict c.args.machine.now.state c.args.id)

pub returns-clause-fits : goal.returns-clause-fits
returns-clause-fits c =
    rw (c.from_vec.ensures, c.in_ok-keys.ensures) (given_fit c.args.machine.now (value.Dict c.args.id) c.dict_len-count.ensures.kept c.requires.held (dict_fits c.args.machine.now c.args.id c.requires.kind))
