use Rattle.std.proofs.Common.{◌≡◌, ◌∙◌, ap, subst, List, ℕ, Some}
use Rattle.std.specs.Prelude.{option_map}
use Rattle.dkv_base.specs.State.{State}
use Rattle.dkv_base.specs.declared.types.Profile.TheVariants.{Narrow}
use Rattle.dkv_files.specs.Crashes.{Identity}
use Rattle.dkv_store.specs.Held.{CommitMoves, picked}
use Rattle.dkv_store.specs.Terms.{CommitLeaves}
use Rattle.dkv_store.specs.Stores.{Contents, Keeps, IsOldOrNew, effective_at}
use Rattle.dkv_core.specs.Decisions.{commit_of}
use Rattle.dkv_store.proofs.Standing.{keeps_still}
use Rattle.dkv_store.proofs.store.Store.commit_kept.Goals as goal
use Rattle.dkv_store.proofs.store.Store.commit_kept.Goals.{in-Write-2, in-Ack-2, in-Write-3, in-Ack-3, in-Write-4, in-Ack-4}

pub returns-in_err-limit-clause-moves : goal.returns-in_err-limit-clause-moves
returns-in_err-limit-clause-moves g c =
    let i = c.self.inside in
    let kept = subst (λ (s : Contents g.row.D.Denot). Keeps g.D.Disk.seen g.D.Disk.may_leave g.D.Disk.faults i.files.journal i.files.used i.files.other s) c.self.view_is c.self.invariant in
    keeps_still g.D.Disk.seen g.D.Disk.may_leave g.D.Disk.faults i.files.journal i.files.used i.files.other c.args.self.now kept g.D.Disk.moment g.D.Disk.left_since (commit_of c.args.who (effective_at c.args.self.now c.args.at) c.args.call) (picked i.files.in_use.second i.files.used i.files.other) (picked i.files.in_use.second i.files.other i.files.used) (ap (λ s. s.a) c.self.view_is) (ap (λ s. s.b) c.self.view_is)

pub returns-in-Limit-clause-moves : goal.returns-in-Limit-clause-moves
returns-in-Limit-clause-moves g c =
    let i = c.self.inside in
    let z = c.match-call-2.self in
    let kept = subst (λ (s : Contents g.row.D.Denot). Keeps g.D.Disk.seen g.D.Disk.may_leave g.D.Disk.faults i.files.journal i.files.used i.files.other s) c.self.view_is c.self.invariant in
    let same_a : z.a ≡ c.args.self.now.a = elim c.match-call-2.branch [ in-Write-2 w ↦ ap (λ s. s.a) w.self-is ∙ ap (λ s. s.a) c.self.view_is | in-Ack-2 w ↦ ap (λ s. s.a) w.self-is ∙ ap (λ s. s.a) c.self.view_is ] in
    let same_b : z.b ≡ c.args.self.now.b = elim c.match-call-2.branch [ in-Write-2 w ↦ ap (λ s. s.b) w.self-is ∙ ap (λ s. s.b) c.self.view_is | in-Ack-2 w ↦ ap (λ s. s.b) w.self-is ∙ ap (λ s. s.b) c.self.view_is ] in
    keeps_still g.D.Disk.seen g.D.Disk.may_leave g.D.Disk.faults i.files.journal i.files.used i.files.other c.args.self.now kept g.D.Disk.moment g.D.Disk.left_since (commit_of c.args.who (effective_at c.args.self.now c.args.at) c.args.call) z.a z.b same_a same_b

pub returns-in-Fails-clause-moves : goal.returns-in-Fails-clause-moves
returns-in-Fails-clause-moves g c =
    let i = c.self.inside in
    let z = c.match-call-3.self in
    let kept = subst (λ (s : Contents g.row.D.Denot). Keeps g.D.Disk.seen g.D.Disk.may_leave g.D.Disk.faults i.files.journal i.files.used i.files.other s) c.self.view_is c.self.invariant in
    let same_a : z.a ≡ c.args.self.now.a = elim c.match-call-3.branch [ in-Write-3 w ↦ ap (λ s. s.a) w.self-is ∙ ap (λ s. s.a) c.self.view_is | in-Ack-3 w ↦ ap (λ s. s.a) w.self-is ∙ ap (λ s. s.a) c.self.view_is ] in
    let same_b : z.b ≡ c.args.self.now.b = elim c.match-call-3.branch [ in-Write-3 w ↦ ap (λ s. s.b) w.self-is ∙ ap (λ s. s.b) c.self.view_is | in-Ack-3 w ↦ ap (λ s. s.b) w.self-is ∙ ap (λ s. s.b) c.self.view_is ] in
    keeps_still g.D.Disk.seen g.D.Disk.may_leave g.D.Disk.faults i.files.journal i.files.used i.files.other c.args.self.now kept g.D.Disk.moment g.D.Disk.left_since (commit_of c.args.who (effective_at c.args.self.now c.args.at) c.args.call) z.a z.b same_a same_b

pub returns-in-NotU64-clause-moves : goal.returns-in-NotU64-clause-moves
returns-in-NotU64-clause-moves g c =
    let i = c.self.inside in
    let z = c.match-call-4.self in
    let kept = subst (λ (s : Contents g.row.D.Denot). Keeps g.D.Disk.seen g.D.Disk.may_leave g.D.Disk.faults i.files.journal i.files.used i.files.other s) c.self.view_is c.self.invariant in
    let same_a : z.a ≡ c.args.self.now.a = elim c.match-call-4.branch [ in-Write-4 w ↦ ap (λ s. s.a) w.self-is ∙ ap (λ s. s.a) c.self.view_is | in-Ack-4 w ↦ ap (λ s. s.a) w.self-is ∙ ap (λ s. s.a) c.self.view_is ] in
    let same_b : z.b ≡ c.args.self.now.b = elim c.match-call-4.branch [ in-Write-4 w ↦ ap (λ s. s.b) w.self-is ∙ ap (λ s. s.b) c.self.view_is | in-Ack-4 w ↦ ap (λ s. s.b) w.self-is ∙ ap (λ s. s.b) c.self.view_is ] in
    keeps_still g.D.Disk.seen g.D.Disk.may_leave g.D.Disk.faults i.files.journal i.files.used i.files.other c.args.self.now kept g.D.Disk.moment g.D.Disk.left_since (commit_of c.args.who (effective_at c.args.self.now c.args.at) c.args.call) z.a z.b same_a same_b

pub returns-in-Goes-clause-moves : goal.returns-in-Goes-clause-moves
returns-in-Goes-clause-moves g c =
    let i = c.self.inside in
    let n = c.make.new.self in
    let who : Identity = record { id = i.id; secret = i.secret; profile = Narrow } in
    let doubt = option_map (λ d. d.value) i.files.doubt in
    let v = i.files.in_use.second in
    let a = picked v i.files.used i.files.other in
    let b = picked v i.files.other i.files.used in
    subst (λ (s : Contents g.row.D.Denot). CommitLeaves g.D.Disk.seen g.D.Disk.may_leave g.D.Disk.moment g.D.Disk.left_since s (commit_of c.args.who (effective_at s c.args.at) c.args.call) n) c.self.view_is
    (λ file beside told told_beside.
    subst (λ (t : ℕ). CommitMoves g.D.Disk.may_leave g.D.Disk.moment g.D.Disk.left_since v who i.core.state doubt (commit_of c.args.who t c.args.call) (picked v a b) (picked v b a) (picked v n.a n.b) (picked v n.b n.a)) c.moment-at.ensures.value
    (subst (λ (x : State). CommitMoves g.D.Disk.may_leave g.D.Disk.moment g.D.Disk.left_since v who x doubt (commit_of c.args.who c.moment-at.result c.args.call) (picked v a b) (picked v b a) (picked v n.a n.b) (picked v n.b n.a)) c.in_ok-limit.ensures.kept.state
    (c.make.ensures.moves file beside told told_beside)))

pub returns-in-Goes-clause-doubted : goal.returns-in-Goes-clause-doubted
returns-in-Goes-clause-doubted g c answered =
    let n = c.make.new.self in
    subst (λ (s : Contents g.row.D.Denot). IsOldOrNew s.doubt (commit_of c.args.who (effective_at s c.args.at) c.args.call) n.doubt) c.self.view_is
    (subst (λ (t : ℕ). IsOldOrNew (option_map (λ d. d.value) c.self.inside.files.doubt) (commit_of c.args.who t c.args.call) n.doubt) c.moment-at.ensures.value
    (c.make.ensures.doubted answered))
