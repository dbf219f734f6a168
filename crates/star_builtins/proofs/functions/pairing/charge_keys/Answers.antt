use Rattle.std.proofs.Common.{◌∙◌, ap, sym}
use Rattle.star_value.specs.Charge.{charged}
use Rattle.star_value.specs.Weight.{sum_of_weights}
use Rattle.star_builtins.proofs.FitLemmas.{is_dict_of}
use Rattle.star_builtins.proofs.Keyed.{dict_count, dict_keys}
use Rattle.star_builtins.proofs.functions.pairing.charge_keys.Goals as goal

pub dict_len-count-requires : goal.dict_len-count-requires
dict_len-count-requires c = is_dict_of c.args.machine.now c.args.id (rw c.requires.is at c.requires.of)

pub charge_iterated-requires-clause-count : goal.charge_iterated-requires-clause-count
charge_iterated-requires-clause-count c = dict_count c.args.machine.now.state c.args.of.now c.args.id c.requires.is ∙ sym c.dict_len-count.ensures.value

pub returns : goal.returns
returns c =
    ap (λ vs. charged c.args.meter.now.left (sum_of_weights vs)) (sym (dict_keys c.args.machine.now.state c.args.of.now c.args.id c.requires.is)) ∙ c.charge_iterated.ensures
