use Rattle.std.proofs.Common.{◌≡◌, ◌∙◌, ℕ, List, [], sym, ap}
use Rattle.dkv_base.specs.State.{State, empty_state}
use Rattle.dkv_files.specs.Crashes.{Identity}
use Rattle.dkv_app.specs.Checking.{Shown}
use Rattle.dkv_app.proofs.Checked.{printed_answers, refused_answers, refused_prints}
use Rattle.dkv_app.proofs.checking.run_check.Goals as goal

pub returns-in-Ok-clause-checks : goal.returns-in-Ok-clause-checks
returns-in-Ok-clause-checks g c =
    let s = c.in-Ok.store in
    record {
      shown = record { id = s.who.id; state = s.core.state; at = s.core.greatest };
      lines = c.tell-status.ensures.lines;
      answers = λ fa fb told_a told_b.
          let opened = c.in-Ok.ensures.opened fa fb told_a told_b in
          printed_answers _ _ _ fa fb c.tell-status.ensures.printed (record {
            database = opened.found;
            recovered = opened.recovered;
            id = ap (λ (i : Identity). i.id) opened.who;
            state = opened.state ∙ opened.base;
            at = c.in-Ok.ensures.begins ∙ ap (λ (x : State). x.moment) (sym opened.state);
            unworn = c.in-Ok.ensures.number;
          });
      moves = rw (sym c.close.ensures.a, sym c.close.ensures.b) at c.in-Ok.ensures.moves_ok;
    }

-- what is shown where nothing is
nothing_shown : Shown
nothing_shown = record { id = []; state = empty_state; at = 0 }

pub returns-in-Err-clause-checks : goal.returns-in-Err-clause-checks
returns-in-Err-clause-checks g c = record {
  shown = nothing_shown;
  lines = refused_prints c.in-Err.refused.0 _ g.K.Sink.held c.args.sink.now _ c.in-Err.ensures.cause;
  answers = λ fa fb told_a told_b.
      refused_answers c.in-Err.refused.0 _ nothing_shown fa fb c.in-Err.ensures.cause (c.in-Err.ensures.refused fa fb told_a told_b);
  moves = c.in-Err.ensures.moves_err;
}
