use Rattle.std.proofs.Common.{arith}
use Rattle.plan_type.proofs.OfferLemmas.{saving_in}
use Rattle.plan_type.proofs.offer.somewhere_held.Goals as goal

pub overflow_add-result : goal.overflow_add-result
overflow_add-result c =
    let (a, b) = saving_in c.args.fees.now c.args.offers.now in let s = c.requires.save in let f = c.requires.frees in let o = c.others.ensures in omega (arith, a, b, s, f, o)
