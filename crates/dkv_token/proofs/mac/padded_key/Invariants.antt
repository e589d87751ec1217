use Rattle.std.proofs.Common.{◌≡◌, ℕ, ◌<◌, ◌≤◌, get_or}
use Rattle.std.specs.Prelude.{bit_xor}
use Rattle.dkv_token.proofs.mac.padded_key.Given as goal

-- the bytes so far are exclusive-or the number, and the others are as they were
abbrev pub invariant-loop-byte : goal.invariant-loop-byte
invariant-loop-byte l = record {
  before : (k : ℕ) → k < l.byte-index → get_or l.byte-items k 0 ≡ bit_xor (get_or l.initial.byte-items k 0) l.with;
  others : (k : ℕ) → l.byte-index ≤ k → get_or l.byte-items k 0 ≡ get_or l.initial.byte-items k 0;
}
