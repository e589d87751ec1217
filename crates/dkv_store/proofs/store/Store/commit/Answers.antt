use Rattle.std.proofs.Common.{ap, arith}
use Rattle.dkv_io.proofs.Seen.{told_same}
use Rattle.dkv_core.specs.Decisions.{commit_of}
use Rattle.dkv_store.specs.Stores.{effective_at}
use Rattle.dkv_store.proofs.Answering.{call_answers, held_answers, held_never, held_result}
use Rattle.dkv_store.proofs.Turning.{told_both, later_both}
use Rattle.dkv_store.proofs.Leading.{commit_leads, held_leads}
use Rattle.dkv_store.proofs.store.Store.commit.Goals as goal

pub returns-clause-steps : goal.returns-clause-steps
returns-clause-steps g c =
    call_answers c.args.self.now c.commit_kept-done.new.self c.is_kept.ensures.kept.leased c.is_kept-2.ensures.kept.leased
    c.args.who c.args.at c.args.call c.commit_kept-done.result c.requires.out c.in_default.ensures.none c.commit_kept-done.ensures.answer

pub returns-clause-goes : goal.returns-clause-goes
returns-clause-goes g c =
    let old = c.args.self.now in
    let new = c.commit_kept-done.new.self in
    let came = c.commit_kept-done.ensures in
    let told = told_both g.D.Disk.seen g.D.Disk.faults old new (ap (λ u. u.second) came.in_use) came.told (told_same _ _ (ap g.D.Disk.seen came.other)) in
    commit_leads g.D.Disk.seen g.D.Disk.may_leave g.D.Disk.moment g.D.Disk.left_since old new
    c.args.who (effective_at old c.args.at) c.args.call
    came.moves told c.commit_kept-done.result came.answer came.doubted

pub returns-clause-told : goal.returns-clause-told
returns-clause-told g c =
    let came = c.commit_kept-done.ensures in
    told_both g.D.Disk.seen g.D.Disk.faults c.args.self.now c.commit_kept-done.new.self (ap (λ u. u.second) came.in_use) came.told (told_same _ _ (ap g.D.Disk.seen came.other))

pub returns-clause-later : goal.returns-clause-later
returns-clause-later g c =
    let came = c.commit_kept-done.ensures in
    later_both g.D.Disk.seen g.D.Disk.faults c.args.self.now c.commit_kept-done.new.self (ap (λ u. u.second) came.in_use) came.later (let same = ap g.D.Disk.faults came.other in omega (arith, same))

-- ---- behind a stop

pub returns-in-Some-clause-steps : goal.returns-in-Some-clause-steps
returns-in-Some-clause-steps g c = held_answers c.args.self.now c.hold_back.new.self c.args.who c.args.at c.args.call c.hold_back.result c.hold_back.ensures.answer

pub returns-in-Some-clause-answer : goal.returns-in-Some-clause-answer
returns-in-Some-clause-answer g c =
    held_result c.args.self.now c.hold_back.new.self c.args.who (effective_at c.args.self.now c.args.at) c.args.call c.hold_back.result c.hold_back.ensures.answer

pub returns-in-Some-clause-goes : goal.returns-in-Some-clause-goes
returns-in-Some-clause-goes g c =
    let t = effective_at c.args.self.now c.args.at in
    held_leads g.D.Disk.seen g.D.Disk.may_leave g.D.Disk.moment g.D.Disk.left_since c.args.self.now c.hold_back.new.self t c.args.call
    (commit_of c.args.who t c.args.call) c.hold_back.result c.hold_back.ensures.answer

pub returns-in-Some-clause-cause : goal.returns-in-Some-clause-cause
returns-in-Some-clause-cause g c is =
    absurd ((held_never c.args.self.now c.hold_back.new.self (effective_at c.args.self.now c.args.at) c.args.call c.hold_back.result c.hold_back.ensures.answer).0 is)

pub returns-in-Some-clause-doubted : goal.returns-in-Some-clause-doubted
returns-in-Some-clause-doubted g c is =
    absurd ((held_never c.args.self.now c.hold_back.new.self (effective_at c.args.self.now c.args.at) c.args.call c.hold_back.result c.hold_back.ensures.answer).0 is)

pub returns-in-Some-clause-free : goal.returns-in-Some-clause-free
returns-in-Some-clause-free g c has is =
    (held_never c.args.self.now c.hold_back.new.self (effective_at c.args.self.now c.args.at) c.args.call c.hold_back.result c.hold_back.ensures.answer).1 is
