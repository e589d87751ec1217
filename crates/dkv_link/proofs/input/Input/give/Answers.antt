use Rattle.dkv_link.proofs.Given.{given_of_slice, taken_of_slice}
use Rattle.dkv_link.proofs.input.Input.give.Goals as goal

pub returns-clause-got : goal.returns-clause-got
returns-clause-got c =
    given_of_slice c.args.self.now.place c.min-count.result c.args.self.now.bytes.items c.deref.result.now c.copy_front.new.into
    c.deref.ensures.value c.copy_front.ensures

pub returns-clause-left : goal.returns-clause-left
returns-clause-left c =
    taken_of_slice c.args.self.now.place c.min-count.result c.args.self.now.bytes.items c.deref.result.now c.copy_front.new.into
    c.deref.ensures.value c.copy_front.ensures
