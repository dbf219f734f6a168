-- What may become of the state and of the steps left: nothing done, one thing after another, and the single changes.
use Rattle.std.proofs.Common.{◌≡◌, ◌≤◌, ℕ, zero, suc, List, [], ◌∷◌, ◌++◌, Bool, true, false, IsTrue, refl, ap, arith, subst, ◌∙◌}
use Rattle.std.proofs.lemmas.Option.{none-some}
use Rattle.std.specs.Prelude.{◌-◌, ◌==◌, ◌||◌, if◌then◌else◌, nat_lt, Some, slice_get, slice_set, Ok, Err}
use Rattle.star_value.specs.declared.failure.Failure.TheVariants.{StepLimit}
use Rattle.star_value.specs.declared.key.Key.{Key}
use Rattle.star_value.specs.declared.value.Value.{Value}
use Rattle.star_value.specs.Charge.{charged}
use Rattle.star_meaning.specs.State.{Object, AList, ADict, object, set_global, with_dict, with_list, with_new}
use Rattle.star_meaning.specs.Steps.{Outcome, Went, Failed, Store, paid}
use Rattle.star_meaning.specs.Values.{has}
use Rattle.star_meaning.specs.World.{Frame, World}
use Rattle.star_meaning.specs.Growing.{IsBack, IsMade, IfWent, Later, Leads, reached}
use Rattle.star_meaning.proofs.GrownLemmas.{grown_dict, grown_list, grown_new, grown_same, grown_then}

-- ---- the object of a number after a change

false_is_not : (b : Bool) → b ≡ false → IsTrue b → ⊥
false_is_not b h k = grind (arith, h, k)

get_other : {A : Type 0} (os : List A) (id at : ℕ) (o : A) → (id ≡ at → ⊥) → slice_get (slice_set os id o) at ≡ slice_get os at
get_other [] id at o h = refl
get_other (x ∷ os) zero zero o h = absurd (h refl)
get_other (x ∷ os) zero (suc at) o h = refl
get_other (x ∷ os) (suc id) zero o h = refl
get_other (x ∷ os) (suc id) (suc at) o h = get_other os id at o (λ e. h (ap suc e))

get_before : {A : Type 0} (os : List A) (o : A) (at : ℕ) (p : A) → slice_get os at ≡ Some p → slice_get (os ++ o ∷ []) at ≡ Some p
get_before [] o at p h = absurd (none-some p h)
get_before (x ∷ os) o zero p h = h
get_before (x ∷ os) o (suc at) p h = get_before os o at p h

-- what is iterated over is another object than one that is not
is_other : (locked : List ℕ) (id at : ℕ) → has locked id ≡ false → IsTrue (has locked at) → id ≡ at → ⊥
is_other locked id at h k e = false_is_not (has locked at) (subst (λ n. has locked n ≡ false) e h) k

or_more : (b c d : Bool) → (IsTrue c → IsTrue d) → IsTrue (b || c) → IsTrue (b || d)
or_more true c d h k = k
or_more false c d h k = h k

locked_more : (locked more : List ℕ) (id : ℕ) → IsTrue (has locked id) → IsTrue (has (locked ++ more) id)
locked_more [] more id h = absurd (false_is_not false refl h)
locked_more (x ∷ locked) more id h = or_more (x == id) (has locked id) (has (locked ++ more) id) (locked_more locked more id) h

module _ {C : Type 0} (here : C) where
  pub later_same : (locked : List ℕ) (s : Store C) → Later here locked s s
  later_same locked s = record { grown = grown_same here s.state.objects; spent = omega arith; held = λ id o k e. e }

  pub later_then : (locked : List ℕ) (s t u : Store C) → Later here locked s t → Later here locked t u → Later here locked s u
  later_then locked s t u h k = record {
    grown = grown_then here s.state.objects t.state.objects u.state.objects h.grown k.grown;
    spent = omega (arith, h.spent, k.spent);
    held = λ id o l e. k.held id o l (h.held id o l e);
  }

  -- while fewer lists and dicts are iterated over
  pub later_fewer : (locked more : List ℕ) (s t : Store C) → Later here (locked ++ more) s t → Later here locked s t
  later_fewer locked more s t h = record { grown = h.grown; spent = h.spent; held = λ id o l e. h.held id o (locked_more locked more id l) e }

  pub later_list : (locked : List ℕ) (s : Store C) (id : ℕ) (items : List Value) → has locked id ≡ false → Later here locked s (record { state = with_list s.state id items; left = s.left })
  unfolding with_list object
  later_list locked s id items h = record {
    grown = grown_list here s.state.objects id items;
    spent = omega arith;
    held = λ at o l e. get_other s.state.objects id at (AList items) (is_other locked id at h l) ∙ e;
  }

  pub later_dict : (locked : List ℕ) (s : Store C) (id : ℕ) (pairs : List (Key × Value)) → has locked id ≡ false → Later here locked s (record { state = with_dict s.state id pairs; left = s.left })
  unfolding with_dict object
  later_dict locked s id pairs h = record {
    grown = grown_dict here s.state.objects id pairs;
    spent = omega arith;
    held = λ at o l e. get_other s.state.objects id at (ADict pairs) (is_other locked id at h l) ∙ e;
  }

  pub later_new : (locked : List ℕ) (s : Store C) (o : Object C) → IsMade here o → Later here locked s (record { state = with_new s.state o; left = s.left })
  unfolding with_new object
  later_new locked s o h = record {
    grown = grown_new here s.state.objects o h;
    spent = omega arith;
    held = λ at p l e. get_before s.state.objects o at p e;
  }

  pub later_global : (locked : List ℕ) (s : Store C) (n : List ℕ) (v : Value) → Later here locked s (record { state = set_global s.state n v; left = s.left })
  unfolding set_global object
  later_global locked s n v = record { grown = grown_same here s.state.objects; spent = omega arith; held = λ id o l e. e }

  pub later_left : (locked : List ℕ) (s : Store C) (left : ℕ) → left ≤ s.left → Later here locked s (record { state = s.state; left = left })
  later_left locked s left h = record { grown = grown_same here s.state.objects; spent = h; held = λ id o l e. e }

  paid_at : (locked : List ℕ) (s : Store C) (n : ℕ) (b : Bool)
      → Later here locked s (reached (paid s.state (if b then (Err StepLimit, 0) else (Ok tt, s.left - n))))
  paid_at locked s n true = later_left locked s 0 (omega arith)
  paid_at locked s n false = later_left locked s (s.left - n) (omega arith)

  pub later_charged : (locked : List ℕ) (s : Store C) (n : ℕ) → Later here locked s (reached (paid s.state (charged s.left n)))
  later_charged locked s n = paid_at locked s n (nat_lt s.left n)

  -- ---- worlds

  -- nothing done to the state and the frame's lists
  pub leads_same : {E A : Type 0} (a : A) (w : World C) → Leads {E = E} here w (Went a w)
  leads_same a w = record { later = later_same w.frame.locked w.store; back = record { active = refl; locked = refl } }

  pub leads_failed : {E A : Type 0} (e : E) (w : World C) → Leads {A = A} here w (Failed e w)
  leads_failed e w = record { later = later_same w.frame.locked w.store; back = tt }

  back_again : {E A : Type 0} (f g : Frame) (o : Outcome (World C) E A) → IsBack f g → IfWent o (λ v. IsBack g v.frame) → IfWent o (λ v. IsBack f v.frame)
  back_again f g (Went a v) h k = record { active = k.active ∙ h.active; locked = k.locked ∙ h.locked }
  back_again f g (Failed e v) h k = tt

  -- steps after steps
  pub leads_on : {E F A B : Type 0} (a : A) (w v : World C) (o : Outcome (World C) F B) → Leads {E = E} here w (Went a v) → Leads here v o → Leads here w o
  leads_on a w v o h k = record {
    later = later_then w.frame.locked w.store v.store (reached o).store h.later (subst (λ locked. Later here locked v.store (reached o).store) h.back.locked k.later);
    back = back_again w.frame v.frame o h.back k.back;
  }
