use Rattle.std.proofs.Common.{◌≡◌, cond, Option, Some, None, length, sym, ap, ◌∙◌}
use Rattle.std.specs.Option.{option_copied}
use Rattle.std.proofs.lemmas.Bool.{eq-eqb, ne_eqb}
use Rattle.std.proofs.lemmas.Result.{IfOk-weaker}
use Rattle.dkv_base.specs.declared.types.Message.{Message}
use Rattle.dkv_base.specs.Messages.{exhausted}
use Rattle.dkv_core.specs.Cores.{Database}
use Rattle.dkv_core.specs.Settling.{payloads}
use Rattle.dkv_core.proofs.Rows.{last-of, none-last}
use Rattle.dkv_core.proofs.machine.Core.last_payloads.Goals as goal

pub returns-then-message-len : goal.returns-then-message-len
returns-then-message-len c =
    let id = c.args.id in
    let m = c.in-Some.message.now in
    let rows = c.self.inside.queue.rows in
    let found = ap (λ (o : Option _). option_copied o) (sym c.in-Some.is) ∙ c.get.ensures.message in
    let last = last-of id rows m c.get.ensures.order found ∙ ap (λ b. cond b (Some m) None) (eq-eqb m.fails (length m.backoff) (c.if-message-len.true ∙ c.len.ensures)) in
    IfOk-weaker c.payload_entries.result (λ a. a ≡ payloads c.args.n (Some m)) (λ a. a ≡ payloads c.args.n (exhausted id c.args.self.now.state.messages))
    (λ a is. is ∙ ap (λ (o : Option Message). payloads c.args.n o) (sym last) ∙ ap (λ (w : Database). payloads c.args.n (exhausted id w.state.messages)) c.self.view_is)
    c.payload_entries.ensures

pub returns-else-message-len : goal.returns-else-message-len
returns-else-message-len c =
    let id = c.args.id in
    let m = c.in-Some.message.now in
    let rows = c.self.inside.queue.rows in
    let found = ap (λ (o : Option _). option_copied o) (sym c.in-Some.is) ∙ c.get.ensures.message in
    let other = ne_eqb m.fails (length m.backoff) (λ same. c.if-message-len.false (same ∙ sym c.len.ensures)) in
    let last = last-of id rows m c.get.ensures.order found ∙ ap (λ b. cond b (Some m) None) other in
    c.new.ensures ∙ ap (λ (o : Option Message). payloads c.args.n o) (sym last) ∙ ap (λ (w : Database). payloads c.args.n (exhausted id w.state.messages)) c.self.view_is

pub returns-in-None : goal.returns-in-None
returns-in-None c =
    let id = c.args.id in
    let rows = c.self.inside.queue.rows in
    let found = ap (λ (o : Option _). option_copied o) (sym c.in-None.is) ∙ c.get.ensures.message in
    c.new-in-None.ensures ∙ ap (λ (o : Option Message). payloads c.args.n o) (sym (none-last id rows c.get.ensures.order found)) ∙ ap (λ (w : Database). payloads c.args.n (exhausted id w.state.messages)) c.self.view_is
