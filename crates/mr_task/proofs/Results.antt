-- What holds where a call answered, and where it did not.
use Rattle.std.proofs.Common.{Result, Ok, Err, OnOk, IfErr}

pub on-ok : {A E : Type 0} (r : Result A E) (P Q : Type 0) → (P → Q) → OnOk r P → OnOk r Q
on-ok (Ok x) P Q f h = f h
on-ok (Err e) P Q f h = h

pub if-err : {A E : Type 0} (r : Result A E) (P Q : E → Type 0) → ((e : E) → P e → Q e) → IfErr r P → IfErr r Q
if-err (Ok x) P Q f h = h
if-err (Err e) P Q f h = f e h
