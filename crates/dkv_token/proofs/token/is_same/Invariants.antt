use Rattle.std.proofs.Common.{◌≡◌, ℕ, ◌<◌, get_or}
use Rattle.dkv_token.proofs.token.is_same.Given as goal

-- no difference is found exactly where the bytes so far are the same
abbrev pub invariant-bytes : goal.invariant-bytes
invariant-bytes l = record {
  seen : l.difference ≡ 0 → (k : ℕ) → k < l.i → get_or l.text k 0 ≡ get_or l.own k 0;
  same : ((k : ℕ) → k < l.i → get_or l.text k 0 ≡ get_or l.own k 0) → l.difference ≡ 0;
}
