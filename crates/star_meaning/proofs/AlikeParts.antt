-- The parts of a cell run alike: expressions, targets, statements, bodies and calls.
use Rattle.std.proofs.Common.{◌≤◌, ℕ, List, map, Bool, IsTrue, arith, subst}
use Rattle.std.specs.Prelude.{Option}
use Rattle.star_syntax.specs.declared.expression.Expr.{Expr}
use Rattle.star_syntax.specs.declared.statement.Block.{Block}
use Rattle.star_syntax.specs.declared.statement.Statement.{Statement}
use Rattle.star_syntax.specs.CellParts.{CellParts}
use Rattle.star_value.specs.declared.value.Value.{Value}
use Rattle.star_value.specs.KeyOrder.{all_hold}
use Rattle.star_meaning.specs.Builtins.{ByName}
use Rattle.star_meaning.specs.World.{World}
use Rattle.star_meaning.specs.Expressions.{Callee, Setting, meant}
use Rattle.star_meaning.specs.Statements.{body_of, call_to, statement_of}
use Rattle.star_meaning.specs.Alike.{EndAlike, IsAlikeWorld, Pairs, is_pair, like, like_flow, like_global, like_items}
use Rattle.star_meaning.specs.Laws.{PartsRunAlike}
use Rattle.star_meaning.proofs.MovedValues.{Moving, entry_to, moved}
use Rattle.star_meaning.proofs.Moved.{count}
use Rattle.star_meaning.proofs.MovedWorld.{Goes}
use Rattle.star_meaning.proofs.MovedExpressions.{GoesMeant}
use Rattle.star_meaning.proofs.MovedForms.{go_meant}
use Rattle.star_meaning.proofs.MovedStatements.{flow_to, go_body, go_call_to, go_statement}
use Rattle.star_meaning.proofs.AlikeFrames.{flow_reach}
use Rattle.star_meaning.proofs.AlikeSteps.{farther, first, first_back, more, one, places_of, reach, second_back, steps_end_alike, two}
use Rattle.star_meaning.proofs.AlikeValues.{globals_placed, items_placed, placed, reached_like}

module _ {C : Type 0} (setting : Setting C) (n : ℕ) (pairs : Pairs) (w v : World C) (h : IsAlikeWorld pairs w v) where
  abbrev call : Callee C
  call = call_to setting n

  meant_goes : (mv : Moving) (e : Expr) → GoesMeant mv (meant setting call e)
  meant_goes mv e = go_meant mv setting call (go_call_to mv setting n) e

  value_alike : (e : Expr) → EndAlike (λ ps x y. IsTrue (like ps x y)) pairs ((meant setting call e).value w) ((meant setting call e).value v)
  value_alike e =
      let p = (meant setting call e).value in
      let goes = λ (far : ℕ) (l : count w.store.state ≤ far). (meant_goes (one pairs w v h p far l) e).value in
      let other = (meant_goes (two pairs w v h p) e).value in
      steps_end_alike pairs w v h p (λ mv. moved mv) p p goes other (λ ps x y. IsTrue (like ps x y))
      (λ a k. reached_like (more pairs w v h p) (first pairs w v h p) (farther pairs w v h p) (two pairs w v h p) (reach pairs w v h p (λ mv. moved mv) p p goes other) a k)

  statement_alike : (s : Statement) (last : Bool) (number : Option ℕ) → EndAlike (λ ps x y. IsTrue (like_flow ps x y)) pairs (statement_of setting call s last number w) (statement_of setting call s last number v)
  statement_alike s last number =
      let p = statement_of setting call s last number in
      let goes = λ (far : ℕ) (l : count w.store.state ≤ far). go_statement (one pairs w v h p far l) setting call (go_call_to (one pairs w v h p far l) setting n) s last number in
      let other = go_statement (two pairs w v h p) setting call (go_call_to (two pairs w v h p) setting n) s last number in
      steps_end_alike pairs w v h p (λ mv. flow_to mv) p p goes other (λ ps x y. IsTrue (like_flow ps x y))
      (λ a k. flow_reach (more pairs w v h p) (first pairs w v h p) (farther pairs w v h p) (two pairs w v h p) (reach pairs w v h p (λ mv. flow_to mv) p p goes other) a k)

  body_alike : (b : Block Statement) → EndAlike (λ ps x y. IsTrue (like_flow ps x y)) pairs (body_of setting call b w) (body_of setting call b v)
  body_alike b =
      let p = body_of setting call b in
      let goes = λ (far : ℕ) (l : count w.store.state ≤ far). go_body (one pairs w v h p far l) setting call (go_call_to (one pairs w v h p far l) setting n) b in
      let other = go_body (two pairs w v h p) setting call (go_call_to (two pairs w v h p) setting n) b in
      steps_end_alike pairs w v h p (λ mv. flow_to mv) p p goes other (λ ps x y. IsTrue (like_flow ps x y))
      (λ a k. flow_reach (more pairs w v h p) (first pairs w v h p) (farther pairs w v h p) (two pairs w v h p) (reach pairs w v h p (λ mv. flow_to mv) p p goes other) a k)

  store_alike : (e : Expr) (x y : Value) → IsTrue (like pairs x y) → EndAlike (λ ps a b. Unit {0}) pairs ((meant setting call e).store x w) ((meant setting call e).store y v)
  store_alike e x y k =
      let bk = places_of pairs w.store.state in
      let p = (meant setting call e).store (moved bk x) in
      let found = λ (far : ℕ) (l : count w.store.state ≤ far). placed pairs bk (one pairs w v h p far l) (two pairs w v h p) (first_back pairs w v h p far l) (second_back pairs w v h p) x y k in
      let goes = λ (far : ℕ) (l : count w.store.state ≤ far). subst (λ z. Goes (one pairs w v h p far l) (λ a. a) p ((meant setting call e).store z)) (found far l).0 ((meant_goes (one pairs w v h p far l) e).store (moved bk x)) in
      let other = subst (λ z. Goes (two pairs w v h p) (λ a. a) p ((meant setting call e).store z)) (found (count w.store.state) (omega arith)).1 ((meant_goes (two pairs w v h p) e).store (moved bk x)) in
      steps_end_alike pairs w v h p (λ mv a. a) ((meant setting call e).store x) ((meant setting call e).store y) goes other (λ ps a b. Unit {0}) (λ a l. tt)

  call_alike : (id jd : ℕ) (vs us : List Value) (by ny : ByName) → IsTrue (is_pair pairs id jd) → IsTrue (like_items pairs vs us) → IsTrue (all_hold (map (like_global pairs) by) ny)
      → EndAlike (λ ps x y. IsTrue (like ps x y)) pairs (call id vs by w) (call jd us ny v)
  call_alike id jd vs us by ny k l m =
      let bk = places_of pairs w.store.state in
      let p = call (bk.to id) (map (moved bk) vs) (map (entry_to bk) by) in
      let near : count w.store.state ≤ count w.store.state = omega arith in
      let values = λ (far : ℕ) (r : count w.store.state ≤ far). items_placed pairs bk (one pairs w v h p far r) (two pairs w v h p) (first_back pairs w v h p far r) (second_back pairs w v h p) vs us l in
      let names = λ (far : ℕ) (r : count w.store.state ≤ far). globals_placed pairs bk (one pairs w v h p far r) (two pairs w v h p) (first_back pairs w v h p far r) (second_back pairs w v h p) by ny m in
      let goes = λ (far : ℕ) (r : count w.store.state ≤ far).
      let mv = one pairs w v h p far r in
      subst (λ i. Goes mv (moved mv) p (call i vs by)) (first_back pairs w v h p far r id jd k)
      (subst (λ xs. Goes mv (moved mv) p (call (mv.to (bk.to id)) xs by)) (values far r).0
      (subst (λ ns. Goes mv (moved mv) p (call (mv.to (bk.to id)) (map (moved mv) (map (moved bk) vs)) ns)) (names far r).0 (go_call_to mv setting n (bk.to id) (map (moved bk) vs) (map (entry_to bk) by)))) in
      let mv = two pairs w v h p in
      let other =
      subst (λ i. Goes mv (moved mv) p (call i us ny)) (second_back pairs w v h p id jd k)
      (subst (λ xs. Goes mv (moved mv) p (call (mv.to (bk.to id)) xs ny)) (values (count w.store.state) near).1
      (subst (λ ns. Goes mv (moved mv) p (call (mv.to (bk.to id)) (map (moved mv) (map (moved bk) vs)) ns)) (names (count w.store.state) near).1 (go_call_to mv setting n (bk.to id) (map (moved bk) vs) (map (entry_to bk) by)))) in
      steps_end_alike pairs w v h p (λ mv. moved mv) (call id vs by) (call jd us ny) goes other (λ ps x y. IsTrue (like ps x y))
      (λ a e. reached_like (more pairs w v h p) (first pairs w v h p) (farther pairs w v h p) (two pairs w v h p) (reach pairs w v h p (λ mv. moved mv) (call id vs by) (call jd us ny) goes other) a e)

module _ {C : Type 0} where
  parts_alike : PartsRunAlike C
  parts_alike = record {
    value = λ setting n e pairs w v h. value_alike setting n pairs w v h e;
    store = λ setting n e x y pairs w v k h. store_alike setting n pairs w v h e x y k;
    statement = λ setting n s last number pairs w v h. statement_alike setting n pairs w v h s last number;
    body = λ setting n b pairs w v h. body_alike setting n pairs w v h b;
    call = λ setting n id jd vs us by ny pairs w v k l m h. call_alike setting n pairs w v h id jd vs us by ny k l m;
  }

pub shown_parts : PartsRunAlike CellParts
shown_parts = parts_alike

pub numbered_parts : PartsRunAlike ℕ
numbered_parts = parts_alike
