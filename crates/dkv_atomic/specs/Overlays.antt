-- What the mutations of a write left so far, over the entries that can be seen.
--     Changes      what was put, and what was taken away: there an entry stands for its key alone
--     overlaid c es      the entries behind the changes
--     entry_behind c es t key      the entry under a key, behind the changes to what can be seen at t
--     with_put e c, with_gone e c      the changes after one more put, and after one more removal
--     IsStep m at n es before after went      one mutation, from the changes before it to those after it
use Rattle.std.specs.Prelude.{◌≡◌, ℕ, ◌+◌, ◌≤◌, Bool, if◌then◌else◌, List, [], length, map, fold, Option, Some, None, is_none, IsTrue}
use Rattle.std.specs.List.{list_all}
use Rattle.dkv_base.specs.declared.types.Entry.{Entry}
use Rattle.dkv_base.specs.declared.types.Mutation.{Mutation}
use Rattle.dkv_base.specs.State.{entry_at, put, without, visible, is_visible}
use Rattle.dkv_base.specs.Writes.{mutated}

-- what was put, and the removed keys
pub record Changes : Type 0 where
  pub puts : List Entry
  pub gone : List Entry

-- a new write
abbrev pub no_changes : Changes
no_changes = record { puts = []; gone = [] }

-- the entries without the removed keys, and with those that were put
abbrev pub overlaid : Changes → List Entry → List Entry
overlaid c es = fold (λ fs p. put p fs) (fold (λ fs key. without key fs) es (map (λ e. e.key) c.gone)) c.puts

-- the entry under a key, behind the changes to what can be seen at the moment
abbrev pub entry_behind : Changes → List Entry → ℕ → List ℕ → Option Entry
entry_behind c es t key = entry_at key (overlaid c (visible t es))

-- the entry is put, and its key is not removed any more
abbrev pub with_put : Entry → Changes → Changes
with_put e c = record { puts = put e c.puts; gone = without e.key c.gone }

-- the entry's key is removed, whatever was put there
abbrev pub with_gone : Entry → Changes → Changes
with_gone e c = record { puts = without e.key c.puts; gone = put e c.gone }

-- no key was both put and removed
abbrev pub is_apart : List Entry → List Entry → Bool
is_apart puts gone = list_all (λ p. is_none (entry_at p.key gone)) puts

-- one mutation over the entries behind the changes; where it does not go, it meets a value that is no LE64
pub record IsStep (m : Mutation) (at n : ℕ) (es : List Entry) (before after : Changes) (went : Bool) : Type 0 where
  pub acts : mutated m n at (overlaid before es) ≡ (if went then Some (overlaid after es) else None)
  pub few : length after.puts ≤ length before.puts + 1
  pub seen : IsTrue (list_all (is_visible at) after.puts)
