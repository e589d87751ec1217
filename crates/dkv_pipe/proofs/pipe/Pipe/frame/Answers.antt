use Rattle.std.proofs.Common.{ℕ, ◌+◌, List, Err, refl, sym, ap, subst}
use Rattle.dkv_pipe.specs.Ends.{Streams}
use Rattle.dkv_pipe.specs.Grants.{Answers}
use Rattle.dkv_pipe.specs.Running.{Running, frame_with, body_at}
use Rattle.dkv_pipe.proofs.Runs.{frame_on, fault_ends, memory_ends}
use Rattle.dkv_pipe.proofs.pipe.Pipe.frame.Goals as goal

pub returns-in-Ok-put-clause-run : goal.returns-in-Ok-put-clause-run
returns-in-Ok-put-clause-run g c = λ from before left ended is.
    let s = c.args.self.now in
    let h = c.args.head in
    let old : Streams = record { left = left; ended = ended; held = g.K.Sink.held c.args.sink.now } in
    let new : Streams = record { left = left; ended = ended; held = g.K.Sink.held c.put.new.sink } in
    let answered = subst (λ (l : List ℕ). Answers g.D.Disk.seen g.D.Disk.may_leave g.D.Disk.faults g.D.Disk.moment g.D.Disk.left_since s.store (frame_with h (body_at h.len l)) c.in-Ok.reply c.answer.new.store) c.as_slice.ensures c.in-Ok.ensures.ok in
    subst (λ (l : List ℕ). Running g.D.Disk.seen g.D.Disk.may_leave g.D.Disk.faults g.D.Disk.moment g.D.Disk.left_since c.args.summary from before new c.answer.new.store l (s.at + h.len) (s.frames + 1)) (sym c.skip.ensures)
    (frame_on g.D.Disk.seen g.D.Disk.may_leave g.D.Disk.faults g.D.Disk.moment g.D.Disk.left_since c.args.summary from before old s.store s.input s.at s.frames is c.answer.new.store h c.in-Ok.reply c.requires.early c.requires.whole answered new refl c.in-Ok-put.ensures.all)

pub returns-clause-run : goal.returns-clause-run
returns-clause-run g c = λ from before left ended is.
    let s = c.args.self.now in
    let h = c.args.head in
    let old : Streams = record { left = left; ended = ended; held = g.K.Sink.held c.args.sink.now } in
    let new : Streams = record { left = left; ended = ended; held = g.K.Sink.held c.put.new.sink } in
    let answered = subst (λ (l : List ℕ). Answers g.D.Disk.seen g.D.Disk.may_leave g.D.Disk.faults g.D.Disk.moment g.D.Disk.left_since s.store (frame_with h (body_at h.len l)) c.in-Ok.reply c.answer.new.store) c.as_slice.ensures c.in-Ok.ensures.ok in
    fault_ends g.D.Disk.seen g.D.Disk.may_leave g.D.Disk.faults g.D.Disk.moment g.D.Disk.left_since c.args.summary from before old s.store s.input s.at s.frames is c.answer.new.store h c.in-Ok.reply c.requires.early c.requires.whole answered new refl c.in-Err.ensures.part

pub returns-in-Err-NoMemory-clause-run : goal.returns-in-Err-NoMemory-clause-run
returns-in-Err-NoMemory-clause-run g c = λ from before left ended is.
    let s = c.args.self.now in
    let old : Streams = record { left = left; ended = ended; held = g.K.Sink.held c.args.sink.now } in
    memory_ends g.D.Disk.seen g.D.Disk.may_leave g.D.Disk.faults g.D.Disk.moment g.D.Disk.left_since c.args.summary from before old s.store s.input s.at s.frames is c.answer.new.store c.args.head c.requires.early c.requires.whole
    (c.in-Err-NoMemory.ensures.none (ap Err c.in-Err-NoMemory.field-0-is))
