use Rattle.std.proofs.Common.{◌≡◌, ◌++◌, List, ℕ, ap, ◌∙◌, rules}
use Rattle.dkv_msgs.specs.Outputs.{entry_output}
use Rattle.dkv_msgs.specs.Spellings.{all_delimited, spell_kv_entry}
use Rattle.dkv_msgs.proofs.RangesSpelled.{entries_spelled}
use Rattle.dkv_msgs.proofs.replies.RunRefEntrySpelled.spell.Goals as goal

pub returns-clause-spelled : goal.returns-clause-spelled
returns-clause-spelled c =
    let is : c.add_messages.new.out.bytes ≡ c.args.out.now.bytes ++ all_delimited 1 (λ e. spell_kv_entry (entry_output e.now)) c.args.self.now = search rules in
    is ∙ ap (λ (l : List ℕ). c.args.out.now.bytes ++ l) (entries_spelled c.args.self.now)
