-- No commits change nothing.
use Rattle.std.proofs.Common.{◌≡◌, ℕ, true, false, cond, not, ◌&&◌, List, [], ◌∷◌, length, map, filter, refl, ap, ◌∙◌, add-zero}
use Rattle.std.specs.Prelude.{nat_le}
use Rattle.std.specs.List.{list_any, list_all}
use Rattle.std.proofs.lemmas.List.{append-nil}
use Rattle.std.proofs.lemmas.Bool.{and_parts}
use Rattle.dkv_base.specs.declared.types.Commit.{Commit}
use Rattle.dkv_base.specs.declared.types.Message.{Message}
use Rattle.dkv_base.specs.State.{State}
use Rattle.dkv_base.specs.Messages.{acks, as_after, is_pending}
use Rattle.dkv_base.specs.After.{after}
use Rattle.dkv_base.specs.Sound.{IsSound, is_waiting, is_payload, is_number}
use Rattle.dkv_base.specs.Laws.{AfterNothing}

-- ---- no commits

-- each message has failed at most as often as its schedule is long
abbrev pub FailsFit : List Message → Type 0
FailsFit [] = Unit {0}
FailsFit (m ∷ ms) = (nat_le m.fails (length m.backoff) ≡ true) × FailsFit ms

pub fit : (n : ℕ) (ms : List Message) → list_all (is_waiting n) ms ≡ true → FailsFit ms
fit n [] e = tt
fit n (m ∷ ms) e =
    let parts = and_parts (is_waiting n m) (list_all (is_waiting n) ms) e in
    ((and_parts (is_payload m && is_number n m.id.commit) _ parts.0).1, fit n ms parts.1)

pub fit_base : (base : State) → IsSound base → FailsFit base.messages
fit_base base sound = fit base.number base.messages sound.messages

as_after_nothing : (m : Message) → as_after m [] ≡ m
as_after_nothing m = λ i. record m { fails = add-zero m.fails i }

wait_unchanged : (ms : List Message) → FailsFit ms → map (λ m. as_after m []) (filter (is_pending []) ms) ≡ ms
wait_unchanged [] f = refl
wait_unchanged (m ∷ ms) f =
    ap (λ k. map (λ x. as_after x []) (cond (nat_le k (length m.backoff)) (m ∷ filter (is_pending []) ms) (filter (is_pending []) ms))) (add-zero m.fails)
    ∙ ap (λ b. map (λ x. as_after x []) (cond b (m ∷ filter (is_pending []) ms) (filter (is_pending []) ms))) f.0
    ∙ (λ i. as_after_nothing m i ∷ wait_unchanged ms f.1 i)

after_nothing_fit : (base : State) → FailsFit base.messages → after base [] ≡ base
after_nothing_fit base f = λ i. record base {
  number = add-zero base.number i;
  messages = (ap (λ ms. map (λ m. as_after m []) (filter (is_pending []) ms)) (append-nil base.messages) ∙ wait_unchanged base.messages f) i;
}

pub after_nothing : AfterNothing
after_nothing base sound = after_nothing_fit base (fit_base base sound)

-- what still waits fits
pub fit_filter : (cs : List Commit) (ms : List Message) → FailsFit (map (λ m. as_after m cs) (filter (is_pending cs) ms))
fit_filter cs [] = tt
fit_filter cs (m ∷ ms) =
    elim (is_pending cs m) as (λ b. is_pending cs m ≡ b → FailsFit (map (λ x. as_after x cs) (cond b (m ∷ filter (is_pending cs) ms) (filter (is_pending cs) ms)))) [
      | true ↦ λ e. ((and_parts (not (list_any (acks m.id) cs)) _ e).1, fit_filter cs ms)
      | false ↦ λ e. fit_filter cs ms
    ] refl
