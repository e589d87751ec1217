-- Where a key stands among entries in key order.
--     marker key      an entry that stands for its key alone
--     is_below key e, is_above key e, is_from key e      the entry's key is below the key, above it, or not below it
--     IsAt key es at, IsGap key es at      the key's entry is at this place; it has none, and it would go there
--     IsStart key es at      the entries whose keys aren't below the key begin at this place
use Rattle.std.specs.Prelude.{◌≡◌, ℕ, suc, pos, ◌<◌, ◌≤◌, Bool, List, [], length, take, drop, IsTrue}
use Rattle.std.specs.List.{list_all, HoldsAt}
use Rattle.std.specs.Ordering.{is_lt, is_le}
use Rattle.dkv_base.specs.declared.types.Entry.{Entry}
use Rattle.dkv_base.specs.State.{key_cmp}

-- an entry that stands for its key alone
abbrev pub marker : List ℕ → Entry
marker key = record { key = key; bytes = []; encoding = pos 0; commit = 0; expire = 0 }

-- the entry's key is below the key
abbrev pub is_below : List ℕ → Entry → Bool
is_below key e = is_lt (key_cmp e.key key)

-- it is above it
abbrev pub is_above : List ℕ → Entry → Bool
is_above key e = is_lt (key_cmp key e.key)

-- it is the key or above it
abbrev pub is_from : List ℕ → Entry → Bool
is_from key e = is_le (key_cmp key e.key)

-- the entry at the place has the key; before it all keys are below, and behind it above
pub record IsAt (key : List ℕ) (es : List Entry) (at : ℕ) : Type 0 where
  pub in_range : at < length es
  pub below : IsTrue (list_all (is_below key) (take at es))
  pub here : HoldsAt (λ e. e.key ≡ key) es at
  pub above : IsTrue (list_all (is_above key) (drop (suc at) es))

-- before the place all keys are below the key, and from it on above
pub record IsGap (key : List ℕ) (es : List Entry) (at : ℕ) : Type 0 where
  pub in_range : at ≤ length es
  pub below : IsTrue (list_all (is_below key) (take at es))
  pub above : IsTrue (list_all (is_above key) (drop at es))

-- before the place all keys are below the key, and from it on none is
pub record IsStart (key : List ℕ) (es : List Entry) (at : ℕ) : Type 0 where
  pub in_range : at ≤ length es
  pub below : IsTrue (list_all (is_below key) (take at es))
  pub onward : IsTrue (list_all (is_from key) (drop at es))
