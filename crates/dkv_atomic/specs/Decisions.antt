-- What is decided of a write.
--     effected e es      the entries after the effects
--     IsEffects es w at n e      the effects are what the write does to the entries that can be seen at the moment, as commit n
--     IsDecision es w at n d      the decision on it
use Rattle.std.specs.Prelude.{◌≡◌, ◌≢◌, ℕ, ◌≤◌, List, [], ◌++◌, length, map, fold, Ok, Err, IsTrue, bytes_eq}
use Rattle.std.specs.List.{list_all, IsDistinct}
use Rattle.dkv_base.specs.declared.types.AtomicWrite.{AtomicWrite}
use Rattle.dkv_base.specs.declared.types.Entry.{Entry}
use Rattle.dkv_base.specs.State.{put, without, visible, is_visible}
use Rattle.dkv_base.specs.Writes.{failing, mutated_all}
use Rattle.dkv_atomic.specs.declared.decision.Effects.{Effects}
use Rattle.dkv_atomic.specs.declared.decision.Decision.{Decision}
use Rattle.dkv_atomic.specs.declared.decision.Decision.TheVariants.{Fails, NotU64, Goes}

-- the entries without the removed keys, and with those that are put
abbrev pub effected : Effects → List Entry → List Entry
effected e es = fold (λ fs p. put p fs) (fold (λ fs key. without key fs) es e.removed) e.puts

-- the keys that the effects change
abbrev pub changed_keys : Effects → List (List ℕ)
changed_keys e = map (λ p. p.key) e.puts ++ e.removed

-- all checks hold and all mutations act: what they leave, each changed key once
pub record IsEffects (es : List Entry) (w : AtomicWrite) (at n : ℕ) (e : Effects) : Type 0 where
  pub holds : failing w (visible at es) ≡ []
  pub entries : mutated_all w n at (visible at es) ≡ Ok (effected e (visible at es))
  pub distinct : IsDistinct bytes_eq (changed_keys e)
  pub few : length e.puts ≤ length w.mutations
  pub seen : IsTrue (list_all (is_visible at) e.puts)

-- the failing checks, where there are some; else the first mutation that meets no LE64; else the effects
abbrev pub IsDecision : List Entry → AtomicWrite → ℕ → ℕ → Decision → Type 0
IsDecision es w at n (Fails places) = (failing w (visible at es) ≡ places) × (places ≢ [])
IsDecision es w at n (NotU64 index) = (failing w (visible at es) ≡ []) × (mutated_all w n at (visible at es) ≡ Err index)
IsDecision es w at n (Goes e) = IsEffects es w at n e
