use Rattle.dkv_pipe.proofs.answers.answer.Goals as goal

pub returns-in_err-answer_term-in-Term-clause-none : goal.returns-in_err-answer_term-in-Term-clause-none
returns-in_err-answer_term-in-Term-clause-none g c = λ _. c.in_err-answer_term-in-Term.ensures.none c.args.head.moment
