use Rattle.std.proofs.Common.{◌≡◌, ℕ, List, None, sym, ap, subst, ◌∙◌}
use Rattle.dkv_core.specs.Cores.{Database}
use Rattle.dkv_core.specs.Seats.{HasBegun}
use Rattle.dkv_core.specs.declared.seats.Seat.{Seat}
use Rattle.dkv_core.proofs.Replying.{SameAt}
use Rattle.dkv_core.proofs.Watching.{watch_begun}
use Rattle.dkv_base.specs.Limits.{watch_limit}
use Rattle.dkv_core.proofs.machine.Core.answer_watch.Goals as goal

pub returns-clause-answer : goal.returns-clause-answer
returns-clause-answer c =
    let old = c.args.self.now in
    let mid = c.begin.new.self in
    let new = c.raise.new.self in
    let keys = c.args.keys.now in
    let seats : List Seat = c.args.seats.now.items in
    let after : List Seat = c.begin.new.seats.items in
    let free : watch_limit keys ≡ None = ap watch_limit (sym c.as_slice.ensures) ∙ sym c.watch_limits.ensures ∙ c.in_default.is in
    let begun : HasBegun old c.args.who c.args.at keys seats c.in_ok-told.told after =
    subst (λ (ks : List (List ℕ)). HasBegun old c.args.who c.args.at ks seats c.in_ok-told.told after) c.in_ok-copy.ensures c.in_ok-told.ensures.begun in
    let same : SameAt old c.args.at new = record {
      state = ap (λ (v : Database). v.state) c.raise.ensures ∙ c.in_ok-told.ensures.content.state;
      out = ap (λ (v : Database). v.out) c.raise.ensures ∙ c.in_ok-told.ensures.content.out;
      greatest = ap (λ (v : Database). v.greatest) c.raise.ensures;
    } in
    watch_begun old new seats after c.args.who c.args.at keys c.in_ok-told.told free begun same
