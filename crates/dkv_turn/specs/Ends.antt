-- What the last pass shows of the value that comes home to it.
use Rattle.std.specs.Prelude.{◌≡◌, ◌≢◌, ℕ, ◌<◌, ◌≤◌, ◌⊎◌, List, length, Some}
use mathlib.Core.Option.{some}
use mathlib.Core.List.{IsPrefix}
use lib.ListN.{get_elem?}
use Rattle.dkv_turn.specs.Histories.{mine}
use Rattle.dkv_turn.specs.declared.view.Gone.{Gone}
use Rattle.dkv_turn.specs.declared.view.View.{View}

module _ {I G V : Type 0} (carries : I → ℕ) (items : V → List I) (lent : V → ℕ) (grounds : V → G) where
  -- The value's history begins with all that was seen. Each item carries the number of the pass or of one that was joined into it, and stands in
  -- what was last seen under that number. So a number's own items are those of what was last seen under it.
  -- No two passes had one number. None was told a moment above all that were handed in.
  pub record Ends (v : View I G) (value : V) : Type 0 where
    pub same_ground : v.grounds ≡ Some (grounds value)
    pub same_loan : lent value ≡ v.loan
    pub moment : v.at ≤ v.handed
    pub apart_own : (k : ℕ) (g : Gone I) → get_elem? v.gone k ≡ some g → g.who ≢ v.who
    pub apart : (j k : ℕ) (g h : Gone I) → j ≢ k → get_elem? v.gone j ≡ some g → get_elem? v.gone k ≡ some h → g.who ≢ h.who
    pub begins : IsPrefix v.seen (items value)
    pub begins_gone : (k : ℕ) (g : Gone I) → get_elem? v.gone k ≡ some g → IsPrefix g.seen (items value)
    pub numbered : (i : ℕ) (x : I) → get_elem? (items value) i ≡ some x
        → ((carries x ≡ v.who) × (i < length v.seen)) ⊎ ((k : ℕ) × (g : Gone I) × (get_elem? v.gone k ≡ some g) × (carries x ≡ g.who) × (i < length g.seen))
    pub own : mine carries v.who (items value) ≡ mine carries v.who v.seen
    pub own_gone : (k : ℕ) (g : Gone I) → get_elem? v.gone k ≡ some g → mine carries g.who (items value) ≡ mine carries g.who g.seen
