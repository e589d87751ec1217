use Rattle.std.proofs.Common.{Option, sym, ap, subst, refl, ◌∙◌}
use Rattle.std.specs.Option.{option_copied}
use Rattle.dkv_core.specs.Cores.{Database}
use Rattle.dkv_core.proofs.Viewed.{HasRows, first_of_rows, none_of_rows, no_message}
use Rattle.dkv_core.proofs.machine.Core.due.Goals as goal

pub unreachable-requires : goal.unreachable-requires
unreachable-requires c =
    let rows = c.self.inside.queue.rows in
    let has : HasRows c.args.self.now rows = subst (λ (w : Database). HasRows w rows) c.self.view_is (record { messages = refl; out = refl }) in
    no_message c.args.self.now rows has c.args.at c.in-Now.id c.get.ensures.order c.in-Now.ensures (ap (λ (o : Option _). option_copied o) (sym c.in-None.is) ∙ c.get.ensures.message)

pub returns-in-Nothing : goal.returns-in-Nothing
returns-in-Nothing c =
    let rows = c.self.inside.queue.rows in
    let has : HasRows c.args.self.now rows = subst (λ (w : Database). HasRows w rows) c.self.view_is (record { messages = refl; out = refl }) in
    none_of_rows c.args.self.now rows has c.args.at c.in-Nothing.next c.in-Nothing.ensures

pub returns-in-Some : goal.returns-in-Some
returns-in-Some c =
    let rows = c.self.inside.queue.rows in
    let has : HasRows c.args.self.now rows = subst (λ (w : Database). HasRows w rows) c.self.view_is (record { messages = refl; out = refl }) in
    first_of_rows c.args.self.now rows has c.args.at c.in-Now.id c.in-Some.message.now c.get.ensures.order c.in-Now.ensures (ap (λ (o : Option _). option_copied o) (sym c.in-Some.is) ∙ c.get.ensures.message)
