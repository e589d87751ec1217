use Rattle.std.proofs.Common.{◌≡◌, sym, ◌∙◌, ap, subst, List, ℕ, Ok}
use Rattle.dkv_files.proofs.Resting.{one, on}
use Rattle.dkv_store.specs.Opening.{IsRead, IsHeldIn, Tells, plain}
use Rattle.dkv_store.specs.Stores.{IsUnopened}
use Rattle.dkv_store.proofs.Opened.{if_ok, if_err, if_done, is_held, told_refused}
use Rattle.dkv_store.proofs.opening.recover.Goals as goal

pub returns-in-Err-judge-clause-refused : goal.returns-in-Err-judge-clause-refused
returns-in-Err-judge-clause-refused g c fa fb told_a told_b = c.in-Err-judge.ensures.refused fa fb (c.in-Ok.ensures.seen_a fa told_a) (c.in-Ok.ensures.seen_b fb told_b)

pub returns-clause-held : goal.returns-clause-held
returns-clause-held g c file told =
    let there = c.look_at.ensures.same.0 ∙ told in
    if_ok c.answer.result (λ x. (x.0 ≡ c.in-Ok-judge.head) × (c.read_records-made.result ≡ Ok (x.1, x.2))) (λ x. IsHeldIn file x.0 x.1 x.2)
    (λ x is. is_held file c.in-Ok.seen x.0 (c.in-Ok-judge.ensures.plain ∙ ap plain (sym is.0)) (c.in-Ok.ensures.seen_a file told) x.1 x.2
    (subst (IsRead file) is.1 (c.read_records-made.ensures.read file there)))
    c.answer.ensures.ok

pub returns-clause-refused : goal.returns-clause-refused
returns-clause-refused g c fa fb told_a told_b =
    if_err c.answer.result (Tells c.read_records-made.result) (IsUnopened fa fb)
    (told_refused fa c.in-Ok.seen c.in-Ok-judge.head c.in-Ok-judge.ensures.plain (c.in-Ok.ensures.seen_a fa told_a) fb (c.in-Ok.ensures.seen_b fb told_b)
    c.read_records-made.result (c.read_records-made.ensures.read fa (c.look_at.ensures.same.0 ∙ told_a)))
    c.answer.ensures.err

pub returns-clause-rest_a : goal.returns-clause-rest_a
returns-clause-rest_a g c file told =
    let rest = c.in-Ok.ensures.rest_a file told in
    let leaves = c.read_records-made.ensures.leaves in
    let last = c.read_records-made.new.disk in
    if_done c.answer.result _ (record {
      told = c.read_records-made.ensures.seen ∙ rest.told;
      only = λ x now. rest.only x (leaves.each x (g.met.D.Disk.counts_now last (g.D.Disk.moment c.look_at.new.pair.a) x leaves.later now));
    })

pub returns-clause-moves : goal.returns-clause-moves
returns-clause-moves g c =
    let leaves = c.read_records-made.ensures.leaves in
    let mid = c.look_at.new.pair in
    let last = c.read_records-made.new.disk in
    on g.D.Disk.may_leave g.D.Disk.moment g.D.Disk.left_since c.args.pair.now.a c.args.pair.now.b mid.a mid.b last mid.b
    c.look_at.ensures.moves c.look_at.ensures.crash.0 c.look_at.ensures.crash.1
    (one g.D.Disk.may_leave g.D.Disk.moment g.D.Disk.left_since mid.a mid.b last leaves (λ x now. leaves.each x (g.met.D.Disk.counts_now last (g.D.Disk.moment mid.a) x leaves.later now)))
