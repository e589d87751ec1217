-- What stands of the bytes where a state waits, and what a piece makes of them.
use Rattle.std.proofs.Common.{ℕ, ◌≡◌, ◌<◌, refl, sym, subst, List, [], ◌∷◌, ◌++◌, length, take, arith, inl, inr}
use Rattle.std.specs.Prelude.{◌⊎◌}
use Rattle.dkv_base.specs.declared.types.Profile.{Profile}
use Rattle.dkv_http.specs.declared.phases.Feed.{Feed}
use Rattle.dkv_http.specs.declared.phases.Feed.TheVariants as feed
use Rattle.dkv_http.specs.declared.phases.HeadAt.{HeadAt}
use Rattle.dkv_http.specs.declared.phases.Phase.{Phase}
use Rattle.dkv_http.specs.declared.phases.Phase.TheVariants as phase
use Rattle.dkv_http.specs.declared.state.State.{State}
use Rattle.dkv_heads.specs.Chunks.{empty, cut}
use Rattle.dkv_heads.specs.Requests.{body_limit, IsRest, IsRefused, IsReceived, received}
use Rattle.dkv_http.specs.Feeds.{Feeds}
use Rattle.dkv_http.specs.Holds.{Holds, Fits, FitsPhase, Waits, Takes, IsHead}
use Rattle.dkv_http.proofs.Headless.{head_open, open_cut}
use Rattle.dkv_http.proofs.Holding.{sized_cut, line_cut, data_cut, end_cut, trailers_cut}
use Rattle.dkv_http.proofs.Stepping.{In, as_phase}

abbrev Stands_cut : Profile → List ℕ → Type 0
Stands_cut p held = IsRest p held empty ⊎ IsRest p held cut

head_rest : (p : Profile) (a : HeadAt) (held head : List ℕ) → held ≡ head → IsHead a head → length head < 65536 → Stands_cut p held
head_rest p a held [] e is short = inl (inl (e, refl))
head_rest p a held (b ∷ head) e is short = inr (subst (λ t. IsRest p t cut) (sym e) (open_cut p (b ∷ head) (head_open a (b ∷ head) is) (omega arith) short))

waits_by : (q : Phase) (s : State) (held : List ℕ) → Waits q → FitsPhase q (body_limit s.profile) s.head.bytes s.body.bytes s.line.bytes s.headers.items s.spans → In q s held → Stands_cut s.profile held
waits_by (phase.Head a) s held w f x = head_rest s.profile a held s.head.bytes x.0 x.1 f.0
waits_by (phase.Sized need) s held w f x = inr (sized_cut s.profile s.head.bytes s.headers.items s.spans s.close x.0 x.1 need s.body.bytes held x.2 x.3 x.4 x.5)
waits_by (phase.Size a) s held w f x = inr (line_cut s.profile s.head.bytes s.headers.items s.spans s.close x.0 x.1 a s.body.bytes held s.line.bytes x.2 x.3 x.4)
waits_by (phase.Data left) s held w f x = inr (data_cut s.profile s.head.bytes s.headers.items s.spans s.close x.0 x.1 s.body.bytes held left x.3 x.2)
waits_by (phase.End cr) s held w f x = inr (end_cut s.profile s.head.bytes s.headers.items s.spans s.close x.0 x.1 cr s.body.bytes held x.2)
waits_by (phase.Trailers a) s held w f x = inr (trailers_cut s.profile s.head.bytes s.headers.items s.spans s.close x.0 x.1 a s.body.bytes held s.line.bytes x.2 x.3 x.4 x.5 x.6 x.7 x.8)
waits_by phase.Whole s held w f x = absurd w
waits_by phase.Last s held w f x = absurd w
waits_by (phase.Failed status) s held w f x = absurd w
waits_by phase.Over s held w f x = absurd w

pub waits_rest : (s : State) (held : List ℕ) → Waits s.phase → Fits s → Holds s held → Stands_cut s.profile held
waits_rest s held w f x = waits_by s.phase s held w f x

pub takes_feeds : (s t : State) (piece : List ℕ) (a : Feed) → t.profile ≡ s.profile → Fits t → Takes s t piece a → (held : List ℕ) → Holds s held → Feeds s.profile held piece a
takes_feeds s t piece feed.More e f x held h = subst (λ p. Stands_cut p (held ++ piece)) e (waits_rest t (held ++ piece) x.0 f (x.1 held h))
takes_feeds s t piece (feed.Request taken) e f x held h =
    let y = as_phase phase.Whole t (held ++ take taken piece) x.1 (x.2 held h) in
    (x.0, received y.0 t.body.bytes, subst (λ p. IsReceived p (held ++ take taken piece) (received y.0 t.body.bytes) []) e y.2)
takes_feeds s t piece (feed.Bad status taken) e f x held h =
    (x.0, subst (λ p. IsRefused p (held ++ take taken piece) status) e (as_phase (phase.Failed status) t (held ++ take taken piece) x.1 (x.2 held h)))
