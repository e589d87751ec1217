use Rattle.std.proofs.Common.{◌≡◌, true, Some, sym, ap, subst, ◌∙◌}
use Rattle.dkv_base.specs.State.{visible}
use Rattle.dkv_hub.specs.Frames.{are_committed, last_told, shows}
use Rattle.dkv_hub.specs.Rows.{Watch}
use Rattle.dkv_hub.proofs.Notes.{told}
use Rattle.dkv_core.specs.Cores.{Database}
use Rattle.dkv_core.proofs.machine.Core.show.Goals as goal

pub returns-in_default-clause-frame : goal.returns-in_default-clause-frame
returns-in_default-clause-frame c =
    let stored = c.table-table.ensures ∙ ap (λ (v : Database). v.state.entries) c.self.view_is in
    sym c.in_default.is ∙ c.in_ok-next.ensures.value c.args.self.now.state (sym stored)

pub returns-in_default-clause-shown : goal.returns-in_default-clause-shown
returns-in_default-clause-shown c =
    let stored = c.table-table.ensures ∙ ap (λ (v : Database). v.state.entries) c.self.view_is in
    c.in_ok-next.ensures.none c.args.self.now.state (sym stored) c.in_default.is

pub returns-clause-frame : goal.returns-clause-frame
returns-clause-frame c =
    let stored = c.table-table.ensures ∙ ap (λ (v : Database). v.state.entries) c.self.view_is in
    sym c.in-Some.is ∙ c.in_ok-next.ensures.value c.args.self.now.state (sym stored)

pub returns-clause-shown : goal.returns-clause-shown
returns-clause-shown c =
    let at = c.args.at in
    let keys = c.args.watcher.now.keys in
    let state = c.args.self.now.state in
    let stored = c.table-table.ensures ∙ ap (λ (v : Database). v.state.entries) c.self.view_is in
    let committed = subst (λ (v : Database). are_committed v.state.entries ≡ true) c.self.view_is c.self.invariant.3 in
    ap (λ (w : Watch). last_told w.shown) c.show.ensures
    ∙ ap (λ ss. last_told (Some ss)) (c.as_slice.ensures ∙ c.in_ok-shown.ensures.value ∙ ap (λ es. shows (visible at es) keys) stored)
    ∙ ap Some (told state at keys committed)
