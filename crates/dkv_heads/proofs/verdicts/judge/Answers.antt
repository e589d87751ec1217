use Rattle.std.proofs.Common.{subst, ◌+◌, take, ◌∙◌}
use Rattle.httparse.specs.Spans.{RequestOverflows}
use Rattle.dkv_heads.proofs.Judges.{some_open, some_never, no_whole, few_fields}
use Rattle.dkv_heads.proofs.Opens.{waits_open, never_whole}
use Rattle.dkv_heads.proofs.verdicts.judge.Goals as goal

pub returns-in-Err : goal.returns-in-Err
returns-in-Err c = some_never c.args.bytes.now c.in-Some.at c.in-Some.ensures (subst (λ n. RequestOverflows n (take (c.in-Some.at + 1) c.args.bytes.now)) c.requires.room c.in-Err.ensures.no_room)

pub returns-in-Ok-Partial : goal.returns-in-Ok-Partial
returns-in-Ok-Partial c = some_open c.args.bytes.now c.in-Some.at c.in-Some.ensures (rw c.in-Ok-Partial.field-0-is at c.in-Ok-Partial.ensures.partial) (rw c.in-Ok-Partial.field-0-is at c.in-Ok-Partial.ensures.unfinished)

pub returns-in-Ok-Complete : goal.returns-in-Ok-Complete
returns-in-Ok-Complete c =
    let x = rw c.in-Ok-Complete.field-0-is at c.in-Ok-Complete.ensures.complete in
    let w = rw c.in-Ok-Complete.field-0-is at c.in-Ok-Complete.ensures.within in
    let few = few_fields _ _ _ _ x.0 (c.parse_request.auto.headers ∙ c.requires.room) w.section x.1.fields in
    absurd (no_whole c.args.bytes.now c.in-Some.at x.0 _ c.in-Some.ensures x.1.reads few c.requires.size)

pub returns-in-Err-parse_request : goal.returns-in-Err-parse_request
returns-in-Err-parse_request c = never_whole c.args.bytes.now c.in-None.ensures (subst (λ n. RequestOverflows n c.args.bytes.now) c.requires.room c.in-Err-parse_request.ensures.no_room)

pub returns-in-Ok-Partial-parse_request : goal.returns-in-Ok-Partial-parse_request
returns-in-Ok-Partial-parse_request c = waits_open c.args.bytes.now (rw c.in-Ok-Partial-parse_request.field-0-is at c.in-Ok-Partial-parse_request.ensures.partial) (rw c.in-Ok-Partial-parse_request.field-0-is at c.in-Ok-Partial-parse_request.ensures.unfinished)
