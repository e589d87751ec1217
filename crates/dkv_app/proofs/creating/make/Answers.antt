use Rattle.dkv_app.proofs.creating.make.Goals as goal

pub returns-in-Ok-tell_created-clause-files : goal.returns-in-Ok-tell_created-clause-files
returns-in-Ok-tell_created-clause-files g c = record {
  answers = λ fa fb a b. c.in-Ok.ensures.answer fa fb a b;
  moves = c.in-Ok.ensures.moves;
  made = c.in-Ok.ensures.done;
  unmade = tt;
}

pub returns-in-Err-clause-files : goal.returns-in-Err-clause-files
returns-in-Err-clause-files g c = record {
  answers = λ fa fb a b. c.in-Ok.ensures.answer fa fb a b;
  moves = c.in-Ok.ensures.moves;
  made = c.in-Ok.ensures.done;
  unmade = tt;
}
