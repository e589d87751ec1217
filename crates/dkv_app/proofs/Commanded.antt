-- What commands do, by their words.
use Rattle.std.proofs.Common.{◌≡◌, ◌⊎◌, ⊎_elim, ℕ, Bool, true, false, List, [], Option, Some, None, refl, sym, subst, inl, inr, arith}
use Rattle.std.specs.Prelude.{IsSome}
use Rattle.std.specs.Io.KnownBytes.{Appends}
use Rattle.dkv_base.specs.State.{empty_state}
use Rattle.dkv_io.proofs.Written.{appends_nothing}
use Rattle.dkv_generate.proofs.Whole.{no_groups}
use Rattle.dkv_files.specs.declared.pair.Pair.{Pair}
use Rattle.dkv_pipe.specs.declared.pipe.PipeEnd.{PipeEnd}
use Rattle.dkv_pipe.specs.declared.pipe.PipeEnd.TheVariants as end
use Rattle.dkv_pipe.specs.Ends.{streams}
use Rattle.dkv_app.specs.declared.command.Command.{Command}
use Rattle.dkv_app.specs.declared.command.Command.TheVariants as command
use Rattle.dkv_app.specs.declared.status.Status.{Status}
use Rattle.dkv_app.specs.declared.status.Status.TheVariants as status
use Rattle.dkv_app.specs.Commands.{HasFolder, InNoForm, IsCommand, NamesFolder}
use Rattle.dkv_app.specs.Runs.{Does, Runs}
use Rattle.dkv_app.specs.Statuses.{told}
use Rattle.dkv_app.proofs.CommandWords.{one_command}
use Rattle.dkv_app.proofs.GeneratedFrames.{are_the_frames}
use Rattle.dkv_app.proofs.Idle.{nothing_written, unheard_creates}
use Rattle.dkv_app.proofs.Piped.{nothing_ran}

-- no run over frames ends with bad words
never_told : (e : PipeEnd) → status.BadWords ≡ told e → ⊥
never_told end.Ok is = cc
never_told end.ReadFault is = cc
never_told end.WriteFault is = cc
never_told (end.BadFrame at) is = cc
never_told (end.NotBuilt at) is = cc
never_told end.NoMemory is = cc

-- no files are not there
none_there : {X : Type 0} → false ≡ true → X
none_there is = absurd cc

module _ {S K R D : Type 0}
    (left : S → Option (List ℕ)) (ended : S → Bool) (read_faults : S → ℕ)
    (held : K → Option (List ℕ)) (write_faults : K → ℕ)
    (stream : R → Option (List ℕ)) (random_faults : R → ℕ)
    (seen : D → Option (List ℕ)) (images : D → List ℕ → Type 0) (faults moment : D → ℕ) (since : D → ℕ → List ℕ → Type 0) where
  -- no command ends with bad words
  heard : (c : Command) (source source_end : S) (sink sink_end : K) (random random_end : R) (files files_end : Option (Pair D))
      → Does left ended read_faults held write_faults stream random_faults seen images faults moment since c status.BadWords source source_end sink sink_end random random_end files files_end → ⊥
  heard (command.Create f) source source_end sink sink_end random random_end (Some p) (Some q) does = does.cause
  heard (command.Create f) source source_end sink sink_end random random_end (Some p) None does = does
  heard (command.Create f) source source_end sink sink_end random random_end None q does = does
  heard (command.Check f) source source_end sink sink_end random random_end (Some p) (Some q) does = does.cause
  heard (command.Check f) source source_end sink sink_end random random_end (Some p) None does = does
  heard (command.Check f) source source_end sink sink_end random random_end None q does = does
  heard (command.Pipe (Some f) t m) source source_end sink sink_end random random_end (Some p) (Some q) does =
      ⊎_elim (λ refuses. refuses.cause) (λ pipes. never_told pipes.how pipes.status_is) does.pipes
  heard (command.Pipe (Some f) t m) source source_end sink sink_end random random_end (Some p) None does = does
  heard (command.Pipe (Some f) t m) source source_end sink sink_end random random_end None q does = does
  heard (command.Pipe None t m) source source_end sink sink_end random random_end p q does = never_told does.pipes.how does.pipes.status_is
  heard (command.Generate n) source source_end sink sink_end random random_end p q does = does.generates

  -- a command whose words wanted memory did nothing
  idle : (c : Command) (source : S) (sink : K) (random : R) (files : Option (Pair D)) → (HasFolder c → IsSome files)
      → Does left ended read_faults held write_faults stream random_faults seen images faults moment since c status.NoMemory source source sink sink random random files files
  idle (command.Create f) source sink random (Some p) has = record {
    creates = unheard_creates seen images moment since held sink (stream random) (stream random) p.a p.b;
    cause = tt;
    unread = refl;
  }
  idle (command.Create f) source sink random None has = none_there (has tt)
  idle (command.Check f) source sink random (Some p) has = record {
    checks = record {
      shown = record { id = []; state = empty_state; at = 0 };
      lines = refl;
      answers = λ fa fb told_a told_b. tt;
      moves = nothing_written seen images moment since p.a p.b;
    };
    cause = tt;
    unread = refl;
    undrawn = refl;
  }
  idle (command.Check f) source sink random None has = none_there (has tt)
  idle (command.Pipe (Some f) t m) source sink random (Some p) has = record {
    pipes = inl (record {
      unopened = λ fa fb told_a told_b. tt;
      cause = tt;
      moves = nothing_written seen images moment since p.a p.b;
      unread = (refl, refl);
    });
    undrawn = refl;
  }
  idle (command.Pipe (Some f) t m) source sink random None has = none_there (has tt)
  idle (command.Pipe None t m) source sink random p has = record {
    pipes = nothing_ran status.NoMemory t m (streams (left source) (ended source) (held sink)) _ _ refl;
    unused = refl;
    undrawn = refl;
  }
  idle (command.Generate n) source sink random p has = record {
    generates = record {
      groups = 0;
      some = omega arith;
      written = subst (λ (l : List ℕ). Appends (held sink) (held sink) l) (sym (no_groups n)) (appends_nothing (held sink));
    };
    frames = are_the_frames n;
    unread = refl;
    undrawn = refl;
    unused = refl;
  }

  -- words that name this command do what it does
  pub runs_command : (texts : List (List ℕ)) (c : Command) (s : Status) (source source_end : S) (sink sink_end : K) (random random_end : R) (files files_end : Option (Pair D))
      → IsCommand c texts
      → Does left ended read_faults held write_faults stream random_faults seen images faults moment since c s source source_end sink sink_end random random_end files files_end
      → Runs left ended read_faults held write_faults stream random_faults seen images faults moment since texts s source source_end sink sink_end random random_end files files_end
  runs_command texts c s source source_end sink sink_end random random_end files files_end is does = record {
    does = λ d names. subst (λ (x : Command). Does left ended read_faults held write_faults stream random_faults seen images faults moment since x s source source_end sink sink_end random random_end files files_end)
        (one_command c d texts is names) does;
    bad = λ bad. absurd (heard c source source_end sink sink_end random random_end files files_end
        (subst (λ (x : Status). Does left ended read_faults held write_faults stream random_faults seen images faults moment since c x source source_end sink sink_end random random_end files files_end) bad does));
    refused = λ none. absurd (none c is);
  }

  -- words that name none do nothing
  pub runs_none : (texts : List (List ℕ)) (source : S) (sink : K) (random : R) (files : Option (Pair D)) → InNoForm texts
      → Runs left ended read_faults held write_faults stream random_faults seen images faults moment since texts status.BadWords source source sink sink random random files files
  runs_none texts source sink random files none = record {
    does = λ c names. absurd (none c names);
    bad = λ bad. none;
    refused = λ no. (inl refl, record { unread = refl; unwritten = refl; undrawn = refl; unused = refl });
  }

  -- and words that can't be read do nothing
  pub runs_unheard : (texts : List (List ℕ)) (source : S) (sink : K) (random : R) (files : Option (Pair D)) → (NamesFolder texts → IsSome files)
      → Runs left ended read_faults held write_faults stream random_faults seen images faults moment since texts status.NoMemory source source sink sink random random files files
  runs_unheard texts source sink random files has = record {
    does = λ c names. idle c source sink random files (λ folder. has (c, names, folder));
    bad = λ bad. absurd (cc bad);
    refused = λ no. (inr refl, record { unread = refl; unwritten = refl; undrawn = refl; unused = refl });
  }
