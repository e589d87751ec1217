use Rattle.std.proofs.Common.{◌≡◌, ap, not, nat_lt, ◌∙◌, rules}
use Rattle.std.proofs.lemmas.Fn.{filter_same}
use Rattle.dkv_base.proofs.Lists.{all-filter}
use Rattle.dkv_hub.specs.Rows.{WatchRow, is_row_of, rows_without}
use Rattle.dkv_hub.proofs.hub.Hub.leave.Goals as goal

-- what is left of the rows
left : (c : goal.After-drop-keys-inside) → c.retain.new.self.items ≡ rows_without c.args.watcher.number c.args.watcher.keys c.self.inside.rows.items
left c = filter_same _ (λ (r : WatchRow). not (is_row_of c.args.watcher.number c.args.watcher.keys r)) _ (λ x b f' k. search rules) _ _ c.retain.ensures.filtered

pub invariant_of-self : goal.invariant_of-self
invariant_of-self c = rw (left c) (all-filter (λ (r : WatchRow). nat_lt r.number c.self.inside.next) (λ (r : WatchRow). not (is_row_of c.args.watcher.number c.args.watcher.keys r)) c.self.inside.rows.items c.self.invariant)

pub returns : goal.returns
returns c = left c ∙ ap (rows_without c.args.watcher.number c.args.watcher.keys) c.self.view_is
