use Rattle.std.proofs.Common.{◌≡◌, false, map, Some, sym, ap, ◌∙◌}
use Rattle.dkv_base.specs.Replies.{commit_at, key_frames, is_some_changed}
use Rattle.dkv_base.specs.State.{visible}
use Rattle.dkv_hub.specs.Frames.{commit_shown, last_told}
use Rattle.dkv_hub.proofs.Unchanged.{still}
use Rattle.dkv_hub.proofs.watcher.Watcher.frame.Goals as goal

pub returns-then-not-is_some_new-clause-none : goal.returns-then-not-is_some_new-clause-none
returns-then-not-is_some_new-clause-none g c = λ s same none.
    let es = visible c.args.at (g.T.Table.content c.args.table.now) in
    let keys = c.args.self.now.keys in
    let last = c.in-Some.last.now in
    let unchanged : is_some_changed (key_frames es keys (map commit_shown last)) ≡ false =
    ap (λ ks. is_some_changed (key_frames es ks (map commit_shown last))) (sym c.keys-keys.ensures) ∙ sym c.is_some_new.ensures ∙ c.if-not-is_some_new.true in
    ap last_told (sym c.in-Some.ensures.value)
    ∙ ap Some (still es keys last c.in-Some.ensures.one_each unchanged ∙ ap (λ fs. map (commit_at (visible c.args.at fs)) keys) (sym same))
