use Rattle.std.proofs.Common.{arith, length-append}
use Rattle.dkv_base.specs.Spelling.{record_head, spell_write}
use Rattle.dkv_record.proofs.laws.requests_fit.Goals as goal

pub returns : goal.returns
returns c = λ who at body w are short read within.
    omega (arith, short, c.spelled_short.ensures body w are read within, length-append (record_head 1 who at) (spell_write w))
