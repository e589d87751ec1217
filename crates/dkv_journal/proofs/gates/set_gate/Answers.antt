use Rattle.std.proofs.Common.{◌≡◌, ◌∙◌, sym, ap, ℕ, suc, ◌+◌, List, [], ◌∷◌, ◌++◌, length, take, drop, get_or, ◌<◌, arith, append_assoc, Option, Some}
use Rattle.std.specs.Prelude.{slice_set}
use Rattle.std.proofs.lemmas.List.{set-get_or, set_split}
use Rattle.dkv_io.specs.Disks.{FromStart, Holds}
use Rattle.dkv_io.proofs.Moments.{started, goes_on}
use Rattle.dkv_io.proofs.Seen.{still_told, only_seen, on_ok}
use Rattle.dkv_journal.specs.Crashes.{WithGate}
use Rattle.dkv_journal.proofs.Torn.{torn_gate}
use Rattle.dkv_journal.proofs.gates.set_gate.Goals as goal

is_set : (p g : ℕ) (file after : List ℕ) → p < length file → Holds p (g ∷ []) file after → after ≡ slice_set file p g
is_set p g file after within is =
    let next : p + 1 ≡ suc p = omega arith in
    is
    ∙ append_assoc (take p file) (g ∷ []) (drop (p + 1) file)
    ∙ ap (λ (n : ℕ). take p file ++ g ∷ drop n file) next
    ∙ sym (set_split file p g within)

pub returns-in_err-write_at-clause-leaves : goal.returns-in_err-write_at-clause-leaves
returns-in_err-write_at-clause-leaves g c file told =
    let moment = g.D.Disk.moment in
    let since = g.D.Disk.left_since in
    let old = c.args.disk.now in
    let p = c.args.place in
    let P = FromStart (g.D.Disk.may_leave old) (WithGate p) in
    let at_start = started moment since old P (λ f left. (f, g.met.D.Disk.only_now old f left, (get_or f p 0, sym (set-get_or f p 0)))) in
    goes_on moment since old old c.write_at.new.self P _ at_start c.write_at.ensures.time (λ f now.
    let from = c.write_at.ensures.crash f now in (from.0, from.1, torn_gate p from.0 f (c.requires file told from.0 from.1) from.2))

pub returns-clause-leaves : goal.returns-clause-leaves
returns-clause-leaves g c file told =
    let moment = g.D.Disk.moment in
    let since = g.D.Disk.left_since in
    let old = c.args.disk.now in
    let p = c.args.place in
    let P = FromStart (g.D.Disk.may_leave old) (WithGate p) in
    let at_start = started moment since old P (λ f left. (f, g.met.D.Disk.only_now old f left, (get_or f p 0, sym (set-get_or f p 0)))) in
    let was_written : (f : List ℕ) → g.D.Disk.may_leave c.write_at.new.self f → P f = λ f now.
    let from = c.write_at.ensures.crash f now in (from.0, from.1, torn_gate p from.0 f (c.requires file told from.0 from.1) from.2) in
    let written = goes_on moment since old old c.write_at.new.self P _ at_start c.write_at.ensures.time was_written in
    goes_on moment since old c.write_at.new.self c.sync.new.self P _ written c.sync.ensures.time (λ f now. was_written f (c.sync.ensures.crash f now))

abbrev some : List ℕ → Option (List ℕ)
some l = Some l

pub returns-clause-done : goal.returns-clause-done
returns-clause-done g c file told =
    let old = c.args.disk.now in
    let p = c.args.place in
    let within = c.requires file told file (g.met.D.Disk.reads_as old file told) in
    let w = still_told _ _ _ file told c.in_ok-write_at.ensures.written in
    let is = is_set p c.args.gate file w.file within w.is in
    on_ok c.sync.result _ _ c.sync.ensures.durable (λ only. record {
      told = c.sync.ensures.seen ∙ w.seen ∙ ap some is;
      only = λ f now. only_seen _ w.file _ w.seen only f now ∙ is;
    })
