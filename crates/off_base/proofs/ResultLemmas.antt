-- What a call's clauses say of an Ok, where the code asked whether it is one.
use Rattle.std.proofs.Common.{◌≡◌, true, is_ok, Result, Ok, Err, OnOk}

pub if_ok : {A E P : Type 0} (r : Result A E) → is_ok r ≡ true → OnOk r P → P
if_ok (Ok x) same p = p
if_ok (Err e) same p = cc
