-- What a tree holds.
use Rattle.std.specs.Prelude.{◌≡◌, ℕ, ◌+◌, ◌≤◌, List, [], ◌∷◌, ◌++◌, length, IsTrue}
use Rattle.std.specs.declared.cmp.Ordering.{Ordering}
use Rattle.dkv_index.specs.declared.tree.Tree.{Tree}
use Rattle.dkv_index.specs.declared.tree.Tree.TheVariants.{Leaf, Fork'}
use Rattle.dkv_index.specs.Contents.{Nodes}
use Rattle.dkv_base.specs.Ordered.{is_rising}

-- the items from left to right
abbrev pub items_of : {T : Type 0} → Tree T → List T
items_of Leaf = []
items_of (Fork' p left item height right) = items_of left ++ item ∷ items_of right

-- the items rise, the count is theirs, and there is room for every node
pub record IsKept {T : Type 0} (cmp : T → T → Ordering) (tree : Tree T) (count : ℕ) (pool : Nodes) : Type 0 where
  pub rising : IsTrue (is_rising cmp (items_of tree))
  pub counted : count ≡ length (items_of tree)
  pub roomy : count + pool.ready ≤ pool.places
