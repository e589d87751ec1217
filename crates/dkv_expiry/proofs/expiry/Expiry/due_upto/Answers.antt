use Rattle.std.proofs.Common.{◌≡◌, ℕ, List, ap, ◌∙◌, sym, Option}
use Rattle.std.specs.Prelude.{option_map}
use Rattle.std.specs.Option.{option_copied}
use Rattle.dkv_expiry.specs.declared.ending.Ending.{Ending}
use Rattle.dkv_expiry.specs.Endings.{Endings, first_upto}
use Rattle.dkv_expiry.proofs.Membership.{empty-first, early-first, late-first}
use Rattle.dkv_expiry.proofs.expiry.Expiry.due_upto.Goals as goal

-- what the fields hold is what contracts see
seen : (at : ℕ) (ps : List Ending) (e : Endings) (o : Option Ending) → ps ≡ e.pairs → first_upto at ps ≡ o → option_map (λ p. p.key) o ≡ option_map (λ p. p.key) (first_upto at e.pairs)
seen at ps e o same is = ap (option_map (λ p. p.key)) (sym is ∙ ap (first_upto at) same)

pub returns-in_err-first-clause-due : goal.returns-in_err-first-clause-due
returns-in_err-first-clause-due c =
    ap option_copied c.from_residual.ensures ∙ seen c.args.at _ c.args.self.now _ (ap (λ (e : Endings). e.pairs) c.self.view_is) (empty-first c.args.at _ (sym c.in_err-first.ensures.first))

pub returns-then-first-at-clause-due : goal.returns-then-first-at-clause-due
returns-then-first-at-clause-due c =
    seen c.args.at _ c.args.self.now _ (ap (λ (e : Endings). e.pairs) c.self.view_is) (early-first c.args.at _ c.in_ok-first.first.now (sym c.in_ok-first.ensures.first) c.if-first-at.true)

pub returns-else-first-at-clause-due : goal.returns-else-first-at-clause-due
returns-else-first-at-clause-due c =
    seen c.args.at _ c.args.self.now _ (ap (λ (e : Endings). e.pairs) c.self.view_is)
    (late-first c.args.at _ c.in_ok-first.first.now c.in_ok-first.ensures.rising (sym c.in_ok-first.ensures.first) c.if-first-at.false)
