use Rattle.std.proofs.Common.{◌≡◌, ℕ, List, ◌++◌, ap, ◌∙◌, rules}
use Rattle.dkv_base.specs.Protobuf.{number_field}
use Rattle.dkv_msgs.specs.Outputs.{entries_output, told_range}
use Rattle.dkv_msgs.specs.Spellings.{all_delimited, spell_range_output}
use Rattle.dkv_msgs.proofs.RangesSpelled.{ranges_spelled}
use Rattle.dkv_msgs.proofs.replies.read_reply.Goals as goal

pub returns : goal.returns
returns c =
    let ranges = all_delimited 1 (λ es. spell_range_output (entries_output (told_range es))) c.args.ranges.now in
    let is : c.finish.result ≡ (ranges ++ number_field 4 1) ++ number_field 8 1 = search rules in
    is ∙ ap (λ (l : List ℕ). (l ++ number_field 4 1) ++ number_field 8 1) (ranges_spelled c.args.ranges.now) ∙ search rules
