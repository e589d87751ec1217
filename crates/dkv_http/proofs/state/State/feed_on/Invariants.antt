use Rattle.std.proofs.Common.{◌≡◌, ◌≤◌, ◌-◌, ◌++◌, List, ℕ, length, take}
use Rattle.dkv_http.specs.Holds.{Holds, Fits, HasRoom, Waits}
use Rattle.dkv_http.proofs.state.State.feed_on.Given as goal

abbrev pub invariant-loop-taken : goal.invariant-loop-taken
invariant-loop-taken l = record {
  within : l.taken ≤ length l.bytes;
  waits : Waits l.self.phase;
  profile : l.self.profile ≡ l.initial.self.profile;
  rooms : HasRoom l.self;
  fits : Fits l.self;
  holds : (held : List ℕ) → Holds l.initial.self held → Holds l.self (held ++ take l.taken l.bytes);
}

abbrev pub decreases-loop-taken : goal.decreases-loop-taken
decreases-loop-taken l = length l.bytes - l.taken
