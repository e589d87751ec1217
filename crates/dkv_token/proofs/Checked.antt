-- What a check answers, in terms of the tokens that the site has.
use Rattle.std.proofs.Common.{◌≡◌, ℕ, ◌<◌, ◌≤◌, true, false, refl, sym, ap, ◌∙◌, List, inl, inr, Option, Some, None, Ok, Err, arith}
use Rattle.std.specs.Prelude.{◌↔◌}
use Rattle.std.proofs.lemmas.Bool.{cases_lt, le-leb}
use Rattle.std.proofs.lemmas.Bool.Decides.{leb_tells}
use Rattle.dkv_base.specs.Moments.{capped_moment}
use Rattle.dkv_token.specs.declared.site.Site.{Site}
use Rattle.dkv_token.specs.declared.token.TokenError.TheVariants.{BadToken, Expired}
use Rattle.dkv_token.specs.Token.{IsToken, answer_at, has_ended, token_expiry}
use Rattle.dkv_token.proofs.Exact.{found_is_token, token_is_found}

-- a token that has ended, and one that has not
ended_at : (t e : ℕ) → e ≤ capped_moment t → answer_at t (Some e) ≡ Err (Expired e)
ended_at t e reached = let ended : has_ended t e ≡ true = le-leb e (capped_moment t) reached in rw ended refl

lasts_at : (t e : ℕ) → capped_moment t < e → answer_at t (Some e) ≡ Ok tt
lasts_at t e before = elim (leb_tells e (capped_moment t)) [
  | inl ended ↦ absurd (omega (arith, ended.1, before))
  | inr lasts ↦ let is : has_ended t e ≡ false = lasts.0 in rw is refl
]

-- which answer there is, by the expiry that was found
bad_of : (t : ℕ) (o : Option ℕ) → answer_at t o ≡ Err BadToken → o ≡ None
bad_of t None h = refl
bad_of t (Some e) h = elim (cases_lt (capped_moment t) e) [
  | inr reached ↦ let is = ended_at t e reached in cc
  | inl before ↦ let is = lasts_at t e before in cc
]

expired_of : (t e : ℕ) (o : Option ℕ) → answer_at t o ≡ Err (Expired e) → (o ≡ Some e) × (e ≤ capped_moment t)
expired_of t e None h = absurd (cc)
expired_of t e (Some f) h = elim (cases_lt (capped_moment t) f) [
  | inr reached ↦
      let is = ended_at t f reached in
      let same : f ≡ e = cc in
      (ap (λ n. Some n) same, rw same at reached)
  | inl before ↦ absurd (let is = lasts_at t f before in cc)
]

good_of : (t : ℕ) (o : Option ℕ) → answer_at t o ≡ Ok tt → (e : ℕ) × (o ≡ Some e) × (capped_moment t < e)
good_of t None h = absurd (cc)
good_of t (Some e) h = elim (cases_lt (capped_moment t) e) [
  | inr reached ↦ absurd (let is = ended_at t e reached in cc)
  | inl before ↦ (e, refl, before)
]

-- where nothing is found the text is no token, and the other way round
no_token : (site : Site) (text : List ℕ) → token_expiry site text ≡ None → (e : ℕ) → ¬ IsToken site text e
no_token site text none e token = let some = token_is_found site text e token in let both : None ≡ Some e = sym none ∙ some in cc

none_found : (site : Site) (text : List ℕ) (o : Option ℕ) → token_expiry site text ≡ o → ((e : ℕ) → ¬ IsToken site text e) → o ≡ None
none_found site text None h none = refl
none_found site text (Some e) h none = absurd (none e (found_is_token site text e h))

-- the three clauses of a check
pub bad : (site : Site) (text : List ℕ) (t : ℕ) → (answer_at t (token_expiry site text) ≡ Err BadToken) ↔ ((e : ℕ) → ¬ IsToken site text e)
bad site text t = (
  λ h. no_token site text (bad_of t (token_expiry site text) h),
  λ none. ap (answer_at t) (none_found site text (token_expiry site text) refl none),
)

pub expired : (site : Site) (text : List ℕ) (t e : ℕ) → (answer_at t (token_expiry site text) ≡ Err (Expired e)) ↔ (IsToken site text e × (e ≤ capped_moment t))
expired site text t e = (
  λ h. let found = expired_of t e (token_expiry site text) h in (found_is_token site text e found.0, found.1),
  λ both. ap (answer_at t) (token_is_found site text e both.0) ∙ ended_at t e both.1,
)

pub good : (site : Site) (text : List ℕ) (t : ℕ) → (answer_at t (token_expiry site text) ≡ Ok tt) ↔ ((e : ℕ) × IsToken site text e × (capped_moment t < e))
good site text t = (
  λ h. let found = good_of t (token_expiry site text) h in (found.0, found_is_token site text found.0 found.1, found.2),
  λ all. ap (answer_at t) (token_is_found site text all.0 all.1) ∙ lasts_at t all.0 all.2,
)
