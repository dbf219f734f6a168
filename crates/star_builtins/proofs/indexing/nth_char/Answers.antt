use Rattle.std.proofs.Common.{◌∙◌, sym}
use Rattle.std.proofs.lemmas.Iterator.{YieldsList-from_chars}
use Rattle.std.proofs.lemmas.Iterator.Consumers.{nth_from_yields_List}
use Rattle.star_builtins.proofs.PlaceLemmas.{option_same}
use Rattle.star_builtins.proofs.indexing.nth_char.Goals as goal

pub returns : goal.returns
returns c = sym (option_same c.nth.result) ∙ nth_from_yields_List c.nth.result _ c.args.place c.nth.ensures.ran (YieldsList-from_chars c.args.text.now c.utf8.text c.chars.ensures.rest)
