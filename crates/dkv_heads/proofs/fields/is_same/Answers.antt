use Rattle.std.proofs.lemmas.Slice.Eq.{bytes_eq-Decides}
use Rattle.dkv_heads.proofs.Values.{same_bool}
use Rattle.dkv_heads.proofs.fields.is_same.Goals as goal

pub returns : goal.returns
returns c = same_bool _ _ (λ t. (bytes_eq-Decides _ _).1 (c.eq_ignore_ascii_case.ensures.test.0 t)) (λ t. c.eq_ignore_ascii_case.ensures.test.1 ((bytes_eq-Decides _ _).0 t))
