use Rattle.dkv_pipe.proofs.Calls.{take_faultless, take_unstopped}
use Rattle.dkv_store.specs.Stores.{effective_at}
use Rattle.dkv_store.proofs.Stopping.{take_goes_on}
use Rattle.dkv_pipe.proofs.answers.answer_take.Goals as goal

pub tell_take-requires-clause-faultless : goal.tell_take-requires-clause-faultless
tell_take-requires-clause-faultless g c =
    take_faultless c.args.store.now c.take-came.new.self c.args.who c.args.moment c.take-came.result c.take-came.ensures.steps

pub tell_take-requires-clause-unstopped : goal.tell_take-requires-clause-unstopped
tell_take-requires-clause-unstopped g c =
    take_unstopped c.args.store.now c.take-came.new.self c.args.who c.args.moment c.take-came.result c.requires.unstopped c.take-came.ensures.steps

pub returns-clause-unstopped : goal.returns-clause-unstopped
returns-clause-unstopped g c none =
    take_goes_on c.args.store.now c.take-came.new.self c.args.who (effective_at c.args.store.now c.args.moment) c.take-came.result c.take-came.ensures.taken c.take-came.ensures.refused none
