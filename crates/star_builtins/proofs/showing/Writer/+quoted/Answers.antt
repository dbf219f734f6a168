use Rattle.std.proofs.Common.{◌≡◌, ◌∙◌, sym, rules, arith, Err, to_z, of_z}
use Rattle.std.specs.Int.{w128}
use Rattle.star_meaning.specs.Showing.{quoted_in}
use Rattle.star_meaning.specs.State.{dict}
use Rattle.star_builtins.specs.Pieces.{pair_piece}
use Rattle.star_builtins.specs.Reached.{names}
use Rattle.star_builtins.proofs.Quoted.{drop_here, drop_got, pieces_failed_first, pieces_failed_second, pieces_more, pieces_step, pieces_end, failed_first, sequence_some, pair_failed, table_failed, quoted_int}
use Rattle.star_builtins.proofs.Words.{chars_dict_open, chars_colon}
use Rattle.star_builtins.proofs.showing.Writer.+quoted.Goals as goal

pub items-returns-in_err-write_separator-clause-gives :
    goal.items-returns-in_err-write_separator-clause-gives
items-returns-in_err-write_separator-clause-gives t c =
    let f = quoted_in (names c.args.self.now.program.now) c.args.inner in
    let r : c.from_residual.result ≡ Err c.in_err-write_separator.field-0.0 = search rules in
    rw (← c.loop-place.invariant.same, r) (failed_first _ _ _ _ _ _ _ (pieces_more f c.args.items.now _ _ _ _ (drop_here _ _ _ c.loop-place-test.true c.index-items-place.is)) (c.in_err-write_separator.ensures.gives _))

pub items-returns-in_err-quoted-clause-gives : goal.items-returns-in_err-quoted-clause-gives
items-returns-in_err-quoted-clause-gives t c =
    let f = quoted_in (names c.args.self.now.program.now) c.args.inner in
    let r : c.from_residual-in_err-quoted.result ≡ Err c.in_err-quoted.field-0.0 = search rules in
    rw (← c.loop-place.invariant.same, r) (pieces_failed_second f c.args.items.now _ _ _ _ _ _ _ _ _ _ (drop_here _ _ _ c.loop-place-test.true c.index-items-place.is) (c.in_ok-write_separator.ensures.gives _) c.in_err-quoted.ensures.gives)

pub items-loop-place-preserved : goal.items-loop-place-preserved
items-loop-place-preserved t c =
    let f = quoted_in (names c.args.self.now.program.now) c.args.inner in
    record {
      same = pieces_step f c.args.items.now _ _ _ _ _ _ _ _ (drop_here _ _ _ c.loop-place-test.true c.index-items-place.is) (c.in_ok-write_separator.ensures.gives _) c.in_ok-quoted.ensures.gives ∙ c.loop-place.invariant.same;
      keeps = λ front begins. c.quoted.ensures.keeps front (c.write_separator.ensures.keeps front (c.loop-place.invariant.keeps front begins));
    }

pub items-returns-clause-gives : goal.items-returns-clause-gives
items-returns-clause-gives t c =
    let f = quoted_in (names c.args.self.now.program.now) c.args.inner in
    sym c.loop-place.invariant.same ∙ pieces_end f c.args.items.now _ _ _ c.loop-place-test.false

pub pair-returns-in_err-write_word-clause-gives : goal.pair-returns-in_err-write_word-clause-gives
pair-returns-in_err-write_word-clause-gives t c =
    let r : c.from_residual-in_err-write_word.result ≡ Err c.in_err-write_word.field-0.0 = search rules in
    let e = c.in_ok-key.ensures in
    rw r (pair_failed _ _ (c.args.key.now, c.args.value.now) _ _ _ _ _ _ _ _ _ chars_colon (rw e at c.in_ok-quoted.ensures.gives) (c.in_err-write_word.ensures.gives c.args.self.now.machine.now.state))

pub pairs-returns-in_err-write_separator-clause-gives :
    goal.pairs-returns-in_err-write_separator-clause-gives
pairs-returns-in_err-write_separator-clause-gives t c =
    let f = pair_piece (names c.args.self.now.program.now) c.args.inner in
    let r : c.from_residual.result ≡ Err c.in_err-write_separator.field-0.0 = search rules in
    rw (← c.loop-place.invariant.same, r) (pieces_failed_first f (dict c.args.self.now.machine.now.state c.args.id) _ _ _ _ _ _ _ _ (drop_got (dict c.args.self.now.machine.now.state c.args.id) c.loop-place.place _ c.dict_at.ensures.value) (c.in_err-write_separator.ensures.gives _))

pub pairs-returns-in_err-pair-clause-gives : goal.pairs-returns-in_err-pair-clause-gives
pairs-returns-in_err-pair-clause-gives t c =
    let f = pair_piece (names c.args.self.now.program.now) c.args.inner in
    let r : c.from_residual-in_err-pair.result ≡ Err c.in_err-pair.field-0.0 = search rules in
    rw (← c.loop-place.invariant.same, r) (pieces_failed_second f (dict c.args.self.now.machine.now.state c.args.id) _ _ _ _ _ _ _ _ _ _ (drop_got (dict c.args.self.now.machine.now.state c.args.id) c.loop-place.place _ c.dict_at.ensures.value) (c.in_ok-write_separator.ensures.gives _) c.in_err-pair.ensures.gives)

pub pairs-loop-place-preserved : goal.pairs-loop-place-preserved
pairs-loop-place-preserved t c =
    let f = pair_piece (names c.args.self.now.program.now) c.args.inner in
    let pairs = dict c.args.self.now.machine.now.state c.args.id in
    record {
      same = pieces_step f pairs _ _ _ _ _ _ _ _ (drop_got pairs c.loop-place.place _ c.dict_at.ensures.value) (c.in_ok-write_separator.ensures.gives _) c.in_ok-pair.ensures.gives ∙ c.loop-place.invariant.same;
      keeps = λ front begins. c.pair.ensures.keeps front (c.write_separator.ensures.keeps front (c.loop-place.invariant.keeps front begins));
    }

pub pairs-returns-clause-gives : goal.pairs-returns-clause-gives
pairs-returns-clause-gives t c =
    let f = pair_piece (names c.args.self.now.program.now) c.args.inner in
    sym c.loop-place.invariant.same ∙ pieces_end f (dict c.args.self.now.machine.now.state c.args.id) _ _ _ (let e = c.dict_len-place-end.ensures.value in omega arith)

pub quoted-returns-in-Int-clause-gives : goal.quoted-returns-in-Int-clause-gives
quoted-returns-in-Int-clause-gives t c =
    let same : to_z w128 (of_z w128 c.in-Int.number) ≡ c.in-Int.number = search rules in
    rw (c.in-Int.is, quoted_int) (rw same at (c.write_int.ensures.gives c.args.self.now.machine.now.state))

pub sequence-returns-in_err-write_word-clause-gives :
    goal.sequence-returns-in_err-write_word-clause-gives
sequence-returns-in_err-write_word-clause-gives t c =
    let r : c.from_residual.result ≡ Err c.in_err-write_word.field-0.0 = search rules in
    rw r (failed_first _ _ _ _ _ _ _ (sequence_some _ _ _ _ _ _ _ (omega arith)) (c.in_err-write_word.ensures.gives _))

pub table-returns-in_err-write_word-clause-gives :
    goal.table-returns-in_err-write_word-clause-gives
table-returns-in_err-write_word-clause-gives t c =
    let r : c.from_residual.result ≡ Err c.in_err-write_word.field-0.0 = search rules in
    rw r (table_failed _ _ _ _ _ _ _ _ _ _ (omega arith) chars_dict_open (c.in_err-write_word.ensures.gives c.args.self.now.machine.now.state))
