use Rattle.std.proofs.Common.{◌≡◌, arith, get_or, nat_eq, below_more, ap}
use Rattle.std.specs.Bool.{Decides}
use Rattle.std.proofs.lemmas.Bool.Decides.{Decides-eqb, same_from_decides}
use Rattle.std.proofs.lemmas.List.{ext_get_or}
use Rattle.std.proofs.lemmas.Slice.Eq.{bytes_eq-Decides}
use Rattle.dkv_token.proofs.Bits.{no_difference}
use Rattle.dkv_token.proofs.token.is_same.Goals as goal

pub bytes-preserved : goal.bytes-preserved
bytes-preserved c =
    let step = no_difference c.bytes.difference (get_or c.args.text.now c.bytes.i 0) (get_or c.args.own.now c.bytes.i 0) in
    record {
      seen = λ none. let both = step.0 none in below_more _ _ (c.bytes.invariant.seen both.0) both.1;
      same = λ all. step.1 (c.bytes.invariant.same (λ k below. all k (omega arith)), all c.bytes.i (omega arith));
    }

pub returns : goal.returns
returns c =
    let tests : Decides (nat_eq c.bytes.difference 0) (c.args.text.now ≡ c.args.own.now) = (
      λ t. ext_get_or 0 c.args.text.now c.args.own.now (omega arith) (λ k below. c.bytes.invariant.seen ((Decides-eqb c.bytes.difference 0).0 t) k (omega arith)),
      λ same. (Decides-eqb c.bytes.difference 0).1 (c.bytes.invariant.same (λ k below. ap (λ xs. get_or xs k 0) same)),
    ) in
    same_from_decides _ _ tests (bytes_eq-Decides c.args.text.now c.args.own.now)
