-- Feeding and taking keep what is known of the session.
use Rattle.std.proofs.Common.{ℕ, ◌≡◌, refl, sym, ap, ◌∙◌, subst, true, false, List, [], ◌∷◌, ◌++◌, length, append-nil, take, arith, inl, inr}
use Rattle.std.specs.Prelude.{◌⊎◌, IsTrue, IsFalse}
use Rattle.std.proofs.lemmas.Bool.{cases_Bool, false≢true}
use Rattle.dkv_base.specs.declared.types.Profile.{Profile}
use Rattle.dkv_http.specs.declared.phases.Feed.{Feed}
use Rattle.dkv_http.specs.declared.phases.Feed.TheVariants as feed
use Rattle.dkv_http.specs.declared.conn.Request.{Request}
use Rattle.dkv_http.specs.declared.phases.Phase.{Phase}
use Rattle.dkv_http.specs.declared.phases.Phase.TheVariants as phase
use Rattle.dkv_http.specs.declared.state.State.{State}
use Rattle.dkv_heads.specs.Chunks.{bad}
use Rattle.dkv_heads.specs.Requests.{Received, IsReceived, Begin, end_session, AreRequests, AreRefused, received}
use Rattle.dkv_http.specs.Feeds.{Feeds}
use Rattle.dkv_http.specs.Holds.{Holds, Takes, Waits, IsOver}
use Rattle.dkv_http.specs.Conns.{IsRequest, IsFresh, IsNext, IsFinal, Passes, Follows}
use Rattle.dkv_http.specs.Sessions.{Session, Answered, Serves}
use Rattle.dkv_heads.proofs.OneRequest.{stay, received-more}
use Rattle.dkv_http.proofs.Stepping.{In, as_phase}
use Rattle.dkv_http.proofs.Taking.{Copies, copied_request}

end_push : (qs : List Received) (q : Received) → end_session (qs ++ q ∷ []) ≡ q.close
end_push [] q = refl
end_push (r ∷ []) q = refl
end_push (r ∷ s ∷ qs) q = end_push (s ∷ qs) q

tail_goes : (r : Received) (qs : List Received) → IsFalse (end_session (r ∷ qs)) → IsFalse (end_session qs)
tail_goes r [] f = refl
tail_goes r (s ∷ qs) f = f

goes_on : (r : Received) (qs : List Received) → IsFalse (end_session (r ∷ qs)) → (IsFalse r.close ⊎ (qs ≡ [])) → IsFalse r.close
goes_on r [] f d = f
goes_on r (s ∷ qs) f (inl g) = g
goes_on r (s ∷ qs) f (inr e) = absurd (omega (arith, ap length e))

begin_push : (p : Profile) (bytes held rest : List ℕ) (qs : List Received) (q : Received) → IsFalse (end_session qs) → Begin p bytes qs held → IsReceived p held q rest → Begin p bytes (qs ++ q ∷ []) rest
begin_push p bytes held rest [] q f e is = (rest, subst (λ b. IsReceived p b q rest) (sym e) is, inr refl, refl)
begin_push p bytes held rest (r ∷ qs) q f b is = (b.0, b.1, inl (goes_on r qs f b.2), begin_push p b.0 held rest qs q (tail_goes r qs f) b.3 is)

session_of : (p : Profile) (t : State) (fed held : List ℕ) (qs : List Received) → t.profile ≡ p → Begin p fed qs held → IsFalse (end_session qs) → Holds t held → Session t fed qs
session_of p t fed held qs e b f h = (held, subst (λ z. Begin z fed qs held) (sym e) b, inl (f, h))

pub session_starts : (s : State) → IsFresh s → Session s [] []
session_starts s x = ([], refl, inl (refl, x.1))

stands : (q : Phase) → Waits q ⊎ (q ≡ phase.Whole) ⊎ ((status : ℕ) × (q ≡ phase.Failed status)) ⊎ IsOver q
stands (phase.Head at) = inl tt
stands (phase.Sized need) = inl tt
stands (phase.Size at) = inl tt
stands (phase.Data left) = inl tt
stands (phase.End cr) = inl tt
stands (phase.Trailers at) = inl tt
stands phase.Whole = inr (inl refl)
stands phase.Last = inr (inr (inr (inl refl)))
stands (phase.Failed status) = inr (inr (inl (status, refl)))
stands phase.Over = inr (inr (inr (inr refl)))

waits_go : (s t : State) (piece : List ℕ) (a : Feed) → t.profile ≡ s.profile → Takes s t piece a → (fed held : List ℕ) (qs : List Received)
    → Begin s.profile fed qs held → IsFalse (end_session qs) → Holds s held → Feeds s.profile held piece a → Answered s.profile t fed qs piece a
waits_go s t piece feed.More e x fed held qs b f h w = (
  session_of s.profile t (fed ++ piece) (held ++ piece) qs e (stay s.profile fed piece held qs b) f (x.1 held h),
  elim w [
    | inl none ↦ inl (held ++ piece, stay s.profile fed piece held qs b, inr (f, none))
    | inr some ↦ inr (inl (held ++ piece, stay s.profile fed piece held qs b, inr (f, some)))
  ],
)
waits_go s t piece (feed.Request taken) e x fed held qs b f h w =
    let c = stay s.profile fed (take taken piece) held qs b in (
      x.0,
      session_of s.profile t (fed ++ take taken piece) (held ++ take taken piece) qs e c f (x.2 held h),
      w.1,
      begin_push s.profile (fed ++ take taken piece) (held ++ take taken piece) [] qs w.1 f c w.2,
    )
waits_go s t piece (feed.Bad status taken) e x fed held qs b f h w =
    let c = stay s.profile fed (take taken piece) held qs b in (
      x.0,
      session_of s.profile t (fed ++ take taken piece) (held ++ take taken piece) qs e c f (x.2 held h),
      (held ++ take taken piece, c, inr (f, let refused = w.1 in refused.rest)),
      (held ++ take taken piece, c, f, w.1),
    )

whole_goes : (s : State) (piece fed held : List ℕ) (qs : List Received) → s.phase ≡ phase.Whole → Begin s.profile fed qs held → IsFalse (end_session qs) → Holds s held
    → Answered s.profile s fed qs piece (feed.Request 0)
whole_goes s piece fed held qs e b f h =
    let y = as_phase phase.Whole s held e h in
    let q = received y.0 s.body.bytes in (
      omega arith,
      subst (λ l. Session s l qs) (sym (append-nil fed)) (session_of s.profile s fed held qs refl b f h),
      q,
      subst (λ l. Begin s.profile l (qs ++ q ∷ []) []) (sym (append-nil fed)) (begin_push s.profile fed held [] qs q f b y.2),
    )

last_goes : (s : State) (piece fed held : List ℕ) (qs : List Received) → s.phase ≡ phase.Whole → s.close ≡ true → Begin s.profile fed qs held → IsFalse (end_session qs) → Holds s held
    → Answered s.profile (record s { phase = phase.Last }) fed qs piece feed.More
last_goes s piece fed held qs e t b f h =
    let y = as_phase phase.Whole s held e h in
    let q = received y.0 s.body.bytes in
    let c = stay s.profile fed piece held qs b in
    let is : IsReceived s.profile (held ++ piece) q piece = received-more s.profile held [] piece q y.2 in
    let ends : q.close ≡ true = sym y.1.ends ∙ t in (
      session_of s.profile (record s { phase = phase.Last }) (fed ++ piece) (held ++ piece) qs refl c f (y.0, y.1, t, (piece, is)),
      inr (inr (q, ends, (piece, begin_push s.profile (fed ++ piece) (held ++ piece) piece qs q f c is, inl (end_push qs q ∙ ends, refl)))),
    )

failed_goes : (s : State) (piece fed held : List ℕ) (qs : List Received) (status : ℕ) → s.phase ≡ phase.Failed status → Begin s.profile fed qs held → IsFalse (end_session qs) → Holds s held
    → Answered s.profile s fed qs piece (feed.Bad status 0)
failed_goes s piece fed held qs status e b f h = (
  omega arith,
  subst (λ l. Session s l qs) (sym (append-nil fed)) (session_of s.profile s fed held qs refl b f h),
  subst (λ l. AreRequests s.profile l qs (bad status)) (sym (append-nil fed)) (held, b, inr (f, let refused = as_phase (phase.Failed status) s held e h in refused.rest)),
  subst (λ l. AreRefused s.profile l qs status) (sym (append-nil fed)) (held, b, f, as_phase (phase.Failed status) s held e h),
)

passed_goes : (s : State) (piece fed held : List ℕ) (qs : List Received) → s.phase ≡ phase.Last → Begin s.profile fed qs held → IsFalse (end_session qs) → Holds s held
    → Answered s.profile s fed qs piece feed.More
passed_goes s piece fed held qs e b f h =
    let y = as_phase phase.Last s held e h in
    let q = received y.0 s.body.bytes in
    let c = stay s.profile fed piece held qs b in
    let is : IsReceived s.profile (held ++ piece) q (y.3.0 ++ piece) = received-more s.profile held y.3.0 piece q y.3.1 in
    let ends : q.close ≡ true = sym y.1.ends ∙ y.2 in (
      session_of s.profile s (fed ++ piece) (held ++ piece) qs refl c f (subst (λ z. In z s (held ++ piece)) (sym e) (y.0, y.1, y.2, (y.3.0 ++ piece, is))),
      inr (inr (q, ends, (y.3.0 ++ piece, begin_push s.profile (fed ++ piece) (held ++ piece) (y.3.0 ++ piece) qs q f c is, inl (end_push qs q ∙ ends, refl)))),
    )

over_goes : (s : State) (piece fed held : List ℕ) (qs : List Received) → s.phase ≡ phase.Over → Begin s.profile fed qs held → IsTrue (end_session qs) → Answered s.profile s fed qs piece feed.More
over_goes s piece fed held qs e b t =
    let c = stay s.profile fed piece held qs b in (
      (held ++ piece, c, inr (t, e)),
      inl (held ++ piece, c, inl (t, refl)),
    )

answered : (p : Profile) (t u : State) (a b : Feed) (piece fed : List ℕ) (qs : List Received) → (a ≡ b) × (t ≡ u) → Answered p u fed qs piece b → Answered p t fed qs piece a
answered p t u a b piece fed qs e g = subst (λ z. Answered p t fed qs piece z) (sym e.0) (subst (λ z. Answered p z fed qs piece b) (sym e.1) g)

not_over : (q : Phase) → Waits q ⊎ (q ≡ phase.Whole) ⊎ ((status : ℕ) × (q ≡ phase.Failed status)) ⊎ (q ≡ phase.Last) → q ≡ phase.Over → ⊥
not_over q (inl w) e = subst Waits e w
not_over q (inr (inl w)) e = absurd (let x : phase.Whole ≡ phase.Over = sym w ∙ e in cc)
not_over q (inr (inr (inl w))) e = absurd (let x : phase.Failed w.0 ≡ phase.Over = sym w.1 ∙ e in cc)
not_over q (inr (inr (inr w))) e = absurd (let x : phase.Last ≡ phase.Over = sym w ∙ e in cc)

pub goes : (s t : State) (piece : List ℕ) (a : Feed) → t.profile ≡ s.profile → (Waits s.phase → Takes s t piece a) → (Waits s.phase → (held : List ℕ) → Holds s held → Feeds s.profile held piece a)
    → (IsNext s → (a ≡ feed.Request 0) × (t ≡ s)) → (IsFinal s → (a ≡ feed.More) × Passes s t)
    → ((status : ℕ) → s.phase ≡ phase.Failed status → (a ≡ feed.Bad status 0) × (t ≡ s)) → (IsOver s.phase → (a ≡ feed.More) × (t ≡ s))
    → (fed : List ℕ) (qs : List Received) → Session s fed qs → Answered s.profile t fed qs piece a
goes s t piece a same waits feeds whole last failed over fed qs x = by (stands s.phase) x.2
  where
    by : Waits s.phase ⊎ (s.phase ≡ phase.Whole) ⊎ ((status : ℕ) × (s.phase ≡ phase.Failed status)) ⊎ IsOver s.phase
        → (IsFalse (end_session qs) × Holds s x.0) ⊎ (IsTrue (end_session qs) × (s.phase ≡ phase.Over)) → Answered s.profile t fed qs piece a
    by (inl w) (inl d) = waits_go s t piece a same (waits w) fed x.0 qs x.1 d.0 d.1 (feeds w x.0 d.1)
    by (inl w) (inr d) = absurd (not_over s.phase (inl w) d.1)
    by (inr (inl w)) (inl d) = elim (cases_Bool s.close) [
      | inl c ↦ answered s.profile t (record s { phase = phase.Last }) a feed.More piece fed qs (last (w, c)) (last_goes s piece fed x.0 qs w c x.1 d.0 d.1)
      | inr c ↦ answered s.profile t s a (feed.Request 0) piece fed qs (whole (w, c)) (whole_goes s piece fed x.0 qs w x.1 d.0 d.1)
    ]
    by (inr (inl w)) (inr d) = absurd (not_over s.phase (inr (inl w)) d.1)
    by (inr (inr (inl w))) (inl d) = answered s.profile t s a (feed.Bad w.0 0) piece fed qs (failed w.0 w.1) (failed_goes s piece fed x.0 qs w.0 w.1 x.1 d.0 d.1)
    by (inr (inr (inl w))) (inr d) = absurd (not_over s.phase (inr (inr (inl w))) d.1)
    by (inr (inr (inr (inl w)))) (inl d) = answered s.profile t s a feed.More piece fed qs (over (inl w)) (passed_goes s piece fed x.0 qs w x.1 d.0 d.1)
    by (inr (inr (inr (inl w)))) (inr d) = absurd (not_over s.phase (inr (inr (inr w))) d.1)
    by (inr (inr (inr (inr w)))) (inl d) = absurd (as_phase phase.Over s x.0 w d.1)
    by (inr (inr (inr (inr w)))) (inr d) = answered s.profile t s a feed.More piece fed qs (over (inr w)) (over_goes s piece fed x.0 qs w x.1 d.0)

next_session : (s t : State) (fed held rest : List ℕ) (qs : List Received) (q : Received) → Follows s t → t.profile ≡ s.profile → q.close ≡ s.close → (s.close ≡ false → rest ≡ [])
    → Begin s.profile fed qs held → IsFalse (end_session qs) → IsReceived s.profile held q rest → Session t fed (qs ++ q ∷ [])
next_session s t fed held rest qs q (inl e) same c none b f is =
    (rest, subst (λ z. Begin z fed (qs ++ q ∷ []) rest) (sym same) (begin_push s.profile fed held rest qs q f b is), inr (end_push qs q ∙ c ∙ e.0, e.1))
next_session s t fed held rest qs q (inr e) same c none b f is =
    session_of s.profile t fed [] (qs ++ q ∷ []) same (subst (λ r. Begin s.profile fed (qs ++ q ∷ []) r) (none e.0) (begin_push s.profile fed held rest qs q f b is)) (end_push qs q ∙ c ∙ e.0) e.1.1

pub serves : (s t : State) (r : Request) → (s.phase ≡ phase.Whole) ⊎ (s.phase ≡ phase.Last) → Copies s r → Follows s t → t.profile ≡ s.profile → Serves s t r
serves s t r at c follows same fed qs x = by at x.2
  where
    by : (s.phase ≡ phase.Whole) ⊎ (s.phase ≡ phase.Last) → (IsFalse (end_session qs) × Holds s x.0) ⊎ (IsTrue (end_session qs) × (s.phase ≡ phase.Over))
        → (q : Received) × IsRequest q r × Session t fed (qs ++ q ∷ [])
    by (inl w) (inl d) =
        let y = as_phase phase.Whole s x.0 w d.1 in
        let q = received y.0 s.body.bytes in
        (q, copied_request s r c y.0 y.1, next_session s t fed x.0 [] qs q follows same (sym y.1.ends) (λ _. refl) x.1 d.0 y.2)
    by (inl w) (inr d) = absurd (not_over s.phase (inr (inl w)) d.1)
    by (inr w) (inl d) =
        let y = as_phase phase.Last s x.0 w d.1 in
        let q = received y.0 s.body.bytes in
        (q, copied_request s r c y.0 y.1, next_session s t fed x.0 y.3.0 qs q follows same (sym y.1.ends) (λ n. absurd (false≢true (sym n ∙ y.2))) x.1 d.0 y.3.1)
    by (inr w) (inr d) = absurd (not_over s.phase (inr (inr (inr w))) d.1)
