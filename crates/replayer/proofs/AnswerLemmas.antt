-- What answers say.
use Rattle.std.proofs.Common.{Result, Ok, Err}
use Rattle.std.specs.Prelude.{OnOk}

pub both_ok : {T E A B C : Type 0} (r : Result T E) → (A → B → C) → OnOk r A → OnOk r B → OnOk r C
both_ok (Ok x) f a b = f a b
both_ok (Err e) f a b = tt

pub ok_with : {T E A B : Type 0} (r : Result T E) → (A → B) → OnOk r A → OnOk r B
ok_with (Ok x) f a = f a
ok_with (Err e) f a = tt

pub ok_all : {T E A : Type 0} (r : Result T E) → A → OnOk r A
ok_all (Ok x) a = a
ok_all (Err e) a = tt
