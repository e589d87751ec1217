-- The view of a pass that got the turn, learnt the length and noted the loan.
use Rattle.std.proofs.Common.{◌≡◌, ℕ, false, List, ◌∷◌, get_or, Option, Some, None, sym, ap, ◌∙◌, subst}
use mathlib.Core.List.{IsPrefix}
use Rattle.dkv_turn.specs.declared.view.Stage.TheVariants.{Holding}
use Rattle.dkv_turn.specs.declared.view.View.{View}
use Rattle.dkv_turn.specs.Histories.{NoneSince, mine}
use Rattle.dkv_turn.specs.Views.{number_of, log_of, loan_of, with_seen, with_turn, with_note}
use Rattle.dkv_turn.proofs.Laws.{mine_after}

module _ {I G V : Type 0} (carries : I → ℕ) (items : V → List I) (lent : V → ℕ) (grounds : V → G) (base : G) where
  -- the view of a pass that got the turn, learnt and noted
  whole : (v0 va vp vn ve : View I G) (value : V) (r : ℕ) → va ≡ with_turn v0 (items value) (lent value) → vp ≡ with_seen va (log_of va.stage) → r ≡ loan_of vp.stage → vn ≡ with_note vp r → ve ≡ vn
      → ve ≡ with_note (with_seen (with_turn v0 (items value) (lent value)) (items value)) (lent value)
  whole v0 va vp vn ve value r a p rr n e = e ∙ (n ∙ (ap (with_note vp) rr ∙ ap (λ (v : View I G). with_note v (loan_of v.stage)) (p ∙ ap (λ (v : View I G). with_seen v (log_of v.stage)) a)))

  pub inside_after : (v0 va vp vn ve : View I G) (value out : V) (r : ℕ) → va ≡ with_turn v0 (items value) (lent value) → vp ≡ with_seen va (log_of va.stage) → r ≡ loan_of vp.stage → vn ≡ with_note vp r → ve ≡ vn
      → value ≡ out → v0.spent ≡ false → (ve.spent ≡ false) × (ve.stage ≡ Holding (number_of v0.stage) ve.seen (lent out) (Some (lent out)))
  inside_after v0 va vp vn ve value out r a p rr n e same live =
      let all = whole v0 va vp vn ve value r a p rr n e in (
        ap (λ (v : View I G). v.spent) all ∙ live,
        ap (λ (v : View I G). v.stage) all ∙ (ap (λ (xs : List I). Holding (number_of v0.stage) xs (lent value) (Some (lent value))) (sym (ap (λ (v : View I G). v.seen) all))
            ∙ ap (λ (y : V). Holding (number_of v0.stage) ve.seen (lent y) (Some (lent y))) same),
      )

  pub seen_after : (v0 va vp vn ve : View I G) (value : V) (r : ℕ) → va ≡ with_turn v0 (items value) (lent value) → vp ≡ with_seen va (log_of va.stage) → r ≡ loan_of vp.stage → vn ≡ with_note vp r → ve ≡ vn → ve.seen ≡ items value
  seen_after v0 va vp vn ve value r a p rr n e = ap (λ (v : View I G). v.seen) (whole v0 va vp vn ve value r a p rr n e)

  -- a pass that got the turn has no item of its own that it hadn't seen
  pub own_since : (v m : View I G) (xs : List I) (value : V) → m.seen ≡ v.seen → m.who ≡ v.who → xs ≡ items value → IsPrefix m.seen (items value) → NoneSince carries m.who m.seen (items value) → mine carries v.who xs ≡ mine carries v.who v.seen
  own_since v m xs value seen who all begins since =
      ap (mine carries v.who) all ∙ subst (λ (n : ℕ). mine carries n (items value) ≡ mine carries n v.seen) who (mine_after carries m.who m.seen (items value) begins since ∙ ap (mine carries m.who) seen)

  pub same_slot : (a b : Option V) (xs ys : List (ℕ × Option V)) → (0, a) ∷ xs ≡ (0, b) ∷ ys → a ≡ b
  same_slot a b xs ys e = ap (λ (l : List (ℕ × Option V)). (get_or l 0 (0, None)).1) e
