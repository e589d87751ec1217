use Rattle.std.proofs.Common.{◌∙◌}
use Rattle.dkv_msgs.proofs.Enclosing.{enclosing}
use Rattle.dkv_msgs.proofs.write_fields.add_message.Goals as goal

pub returns-clause-bytes : goal.returns-clause-bytes
returns-clause-bytes g c =
    c.in_ok-enclose.ensures
    ∙ enclosing c.args.out.now.bytes (g.M.Spelled.spelling c.args.message.now) c.spell.new.out.bytes c.args.field c.len-from.result c.len-from.ensures c.in_ok-spell.ensures.spelled
