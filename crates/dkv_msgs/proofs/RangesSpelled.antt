-- What the database answers is spelled entry by entry and range by range.
use Rattle.std.proofs.Common.{◌≡◌, List, map, ap, ◌∙◌, sym}
use Rattle.std.specs.Borrow.{Bor}
use Rattle.std.proofs.lemmas.List.Folds.{flat_map-map}
use Rattle.dkv_base.specs.declared.types.Entry.{Entry}
use Rattle.dkv_base.specs.Protobuf.{delimited}
use Rattle.dkv_msgs.specs.Outputs.{entry_output, entries_output, told_range, told}
use Rattle.dkv_msgs.specs.Spellings.{all_delimited, spell_kv_entry, spell_range_output}

-- the entries of a range, one behind the other
pub entries_spelled : (es : List (Bor Entry)) → all_delimited 1 (λ e. spell_kv_entry (entry_output e.now)) es ≡ spell_range_output (entries_output (told_range es))
entries_spelled es =
    sym (flat_map-map (λ e. delimited 1 (spell_kv_entry (entry_output e))) (λ e. e.now) es)
    ∙ sym (flat_map-map (λ e. delimited 1 (spell_kv_entry e)) entry_output (told_range es))

-- the ranges, one behind the other
pub ranges_spelled : (ranges : List (List (Bor Entry)))
    → all_delimited 1 (λ es. spell_range_output (entries_output (told_range es))) ranges ≡ all_delimited 1 spell_range_output (map entries_output (told ranges))
ranges_spelled ranges =
    sym (flat_map-map (λ es. delimited 1 (spell_range_output (entries_output es))) told_range ranges)
    ∙ sym (flat_map-map (λ es. delimited 1 (spell_range_output es)) entries_output (told ranges))
