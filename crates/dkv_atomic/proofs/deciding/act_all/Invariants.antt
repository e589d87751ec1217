use Rattle.std.proofs.Common.{◌≡◌, ◌≤◌, true, length, drop}
use Rattle.std.specs.List.{list_all}
use Rattle.dkv_base.specs.State.{visible, is_visible}
use Rattle.dkv_base.specs.Writes.{mutated_from}
use Rattle.dkv_atomic.specs.Overlays.{overlaid}
use Rattle.dkv_atomic.proofs.deciding.act_all.Given as goal

-- what all do is what those still to come do behind the changes so far
abbrev pub invariant-loop-mutation : goal.invariant-loop-mutation
invariant-loop-mutation g l =
    let seen = visible l.at (g.T.Table.content l.table) in
    record {
      run : mutated_from 0 l.mutations l.n l.at seen ≡ mutated_from l.mutation-index (drop l.mutation-index l.mutations) l.n l.at (overlaid l.overlay seen);
      place : l.index ≡ l.mutation-index;
      few : length l.overlay.puts ≤ l.mutation-index;
      seen : list_all (is_visible l.at) l.overlay.puts ≡ true;
    }
