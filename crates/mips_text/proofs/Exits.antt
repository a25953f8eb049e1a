-- What is returned early.
use Rattle.std.proofs.Common.{◌≡◌, sym, subst, Result, IfErr, IsErrAnd}
use Rattle.std.proofs.lemmas.Result.{err_from_is_err_and}

pub exit : {T E : Type 0} (r : Result T E) (e : E) (P : E → Type 0) → IsErrAnd r (λ y. y ≡ e) → P e → IfErr r P
exit {T} {E} r e P is p = let q = err_from_is_err_and r is in subst (λ (s : Result T E). IfErr s P) (sym q.1) (subst P (sym q.2) p)
