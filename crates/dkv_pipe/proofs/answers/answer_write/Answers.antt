use Rattle.dkv_store.specs.Stores.{effective_at}
use Rattle.dkv_pipe.proofs.Asked.{short_write}
use Rattle.dkv_pipe.proofs.answers.answer_write.Goals as goal

pub answer_call-requires-clause-short : goal.answer_call-requires-clause-short
answer_call-requires-clause-short g c =
    short_write c.args.store.now c.args.who (effective_at c.args.store.now c.args.moment) c.args.body.now c.in-Ok.request c.requests_fit.ensures c.are_bytes.ensures c.requires.fits c.in-Ok.ensures.request
