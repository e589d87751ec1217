-- Entries in blocks: a list of lists of entries, one behind another in key order.
--     joined bs      all entries, block behind block
--     begins_upto key b      the block's first key is the key or below it
--     IsBlock es capacity      what one block holds, and has room for
--     AreBlocks bs      in key order, and none is empty
--     IsSeat key bs at      the key's entry stands in this block, or would go there
--     AreKept bs ready count spare places      what a table of blocks keeps
use Rattle.std.specs.Prelude.{◌≡◌, ℕ, suc, ◌+◌, ◌^◌, ◌<◌, ◌≤◌, Bool, false, not, List, [], ◌∷◌, ◌++◌, length, take, drop, flat_map, IsTrue}
use Rattle.std.specs.List.{list_all, HoldsAt}
use Rattle.std.specs.Ordering.{is_le}
use Rattle.dkv_base.specs.declared.types.Entry.{Entry}
use Rattle.dkv_base.specs.State.{key_cmp, put, is_empty, is_in_key_order}
use Rattle.dkv_table.specs.declared.block.TheConstants.{MOST_ENTRIES}
use Rattle.dkv_table.specs.Places.{is_below, is_above}

-- all entries, block behind block
abbrev pub joined : List (List Entry) → List Entry
joined bs = flat_map (λ b. b) bs

-- the block has an entry
abbrev pub is_filled : List Entry → Bool
is_filled b = not (is_empty b)

-- the block's first key is the key or below it
abbrev pub begins_upto : List ℕ → List Entry → Bool
begins_upto key [] = false
begins_upto key (e ∷ es) = is_le (key_cmp e.key key)

-- entries in key order, no more than a block may have, and room for as many as it may have
pub record IsBlock (es : List Entry) (capacity : ℕ) : Type 0 where
  pub in_order : IsTrue (is_in_key_order es)
  pub at_most : length es ≤ MOST_ENTRIES
  pub room : MOST_ENTRIES ≤ capacity

-- each key is below all later ones, in its block and in those behind it, and no block is empty
pub record AreBlocks (bs : List (List Entry)) : Type 0 where
  pub in_order : IsTrue (is_in_key_order (joined bs))
  pub filled : IsTrue (list_all is_filled bs)

-- the blocks before it have keys below the key, and those behind it above
pub record IsSeat (key : List ℕ) (bs : List (List Entry)) (at : ℕ) : Type 0 where
  pub in_range : at < length bs
  pub below : IsTrue (list_all (is_below key) (joined (take at bs)))
  pub above : IsTrue (list_all (is_above key) (joined (drop (suc at) bs)))

-- the blocks and the number of their entries; for each put that has room, an empty block and a place for it
pub record AreKept (bs ready : List (List Entry)) (count spare places : ℕ) : Type 0 where
  pub blocks : AreBlocks bs
  pub ready_empty : IsTrue (list_all is_empty ready)
  pub counted : count ≡ length (joined bs)
  pub ready_enough : spare ≤ length ready
  pub places_enough : length bs + spare ≤ places
  pub countable : count + spare < 2 ^ 64

-- instead of a block that the entry goes into, two that aren't empty
pub record IsDivided (e : Entry) (at : ℕ) (bs cs : List (List Entry)) : Type 0 where
  pub lower : List Entry
  pub upper : List Entry
  pub parts : cs ≡ take at bs ++ lower ∷ upper ∷ drop (suc at) bs
  pub content : HoldsAt (λ b. lower ++ upper ≡ put e b) bs at
  pub len : HoldsAt (λ b. length lower + length upper ≡ length b + 1) bs at
  pub lower_filled : IsTrue (is_filled lower)
  pub upper_filled : IsTrue (is_filled upper)
