-- Steps one after another.
use Rattle.std.proofs.Common.{◌≡◌, ℕ, ◌+◌, ◌<◌, false, List, [], ◌∷◌, ◌++◌, length, map, take, get_or, refl, sym, ap, subst, ◌∙◌}
use Rattle.std.proofs.lemmas.List.{map-append, take_more}
use Rattle.dkv_base.specs.declared.types.Answer.{Answer}
use Rattle.dkv_base.specs.declared.types.Step.{Step}
use Rattle.dkv_base.specs.Replies.{Reply, said}
use Rattle.dkv_base.specs.Steps.{Situation, step, replies, situation_after}
use Rattle.dkv_core.specs.Cores.{Database}
use Rattle.dkv_core.specs.Runs.{StandsFor, IsStep, situation_of, IsCutShort}
use Rattle.dkv_core.specs.Seats.{AreWatchesOf, rows_beside}
use Rattle.dkv_core.specs.declared.seats.Seat.{Seat}

pub replies-more : (s : Situation) (ps : List Step) (p : Step) → replies s (ps ++ p ∷ []) [] ≡ replies s ps [] ++ (step (situation_after s ps []) p false).0 ∷ []
replies-more s [] p = refl
replies-more s (q ∷ ps) p = ap (λ (rs : List Reply). (step s q false).0 ∷ rs) (replies-more (step s q false).1 ps p)

pub situation_after-more : (s : Situation) (ps : List Step) (p : Step) → situation_after s (ps ++ p ∷ []) [] ≡ (step (situation_after s ps []) p false).1
situation_after-more s [] p = refl
situation_after-more s (q ∷ ps) p = situation_after-more (step s q false).1 ps p

-- these steps from the core c had these answers, and led to the core d and to these seats
pub record Ran (c : Database) (steps : List Step) (given : List Answer) (d : Database) (seats : List Seat) : Type 0 where
  pub answers : map said given ≡ replies (situation_of c) steps []
  pub leads : StandsFor (situation_after (situation_of c) steps []) d
  pub watches : AreWatchesOf (situation_after (situation_of c) steps []).watchers seats

pub ran_none : (c : Database) (seats : List Seat) → seats ≡ [] → Ran c [] [] c seats
ran_none c seats none = record {
  answers = refl;
  leads = record { state = refl; out = λ id. refl; greatest = refl; unstopped = refl; unlimited = refl };
  watches = subst (λ (ss : List Seat). AreWatchesOf [] ss) (sym none) (λ who. tt);
}

pub ran_more : (c d e : Database) (seats new : List Seat) (ps : List Step) (p : Step) (rs : List Answer) (r : Answer) → Ran c ps rs d seats → IsStep d seats p r e new → Ran c (ps ++ p ∷ []) (rs ++ r ∷ []) e new
ran_more c d e seats new ps p rs r ran is =
    let one = is (situation_after (situation_of c) ps []) ran.leads ran.watches in
    record {
      answers = map-append said rs (r ∷ []) ∙ (λ i. ran.answers i ++ sym one.0 i ∷ []) ∙ sym (replies-more (situation_of c) ps p);
      leads = subst (λ (s : Situation). StandsFor s e) (sym (situation_after-more (situation_of c) ps p)) one.1;
      watches = subst (λ (s : Situation). AreWatchesOf s.watchers new) (sym (situation_after-more (situation_of c) ps p)) one.2;
    }

-- the next step of a slice
pub ran_next : (c d e : Database) (seats new : List Seat) (ps : List Step) (i : ℕ) (p : Step) (rs : List Answer) (r : Answer) → i < length ps → p ≡ get_or ps i p → Ran c (take i ps) rs d seats
    → IsStep d seats p r e new → Ran c (take (i + 1) ps) (rs ++ r ∷ []) e new
ran_next c d e seats new ps i p rs r lt is ran next =
    subst (λ (qs : List Step). Ran c qs (rs ++ r ∷ []) e new) (ap (λ (q : Step). take i ps ++ q ∷ []) is ∙ sym (take_more ps i p lt)) (ran_more c d e seats new (take i ps) p rs r ran next)

-- a run stands where it stood when its watches end
pub stays_run : (s : Situation) (d e : Database) (seats : List Seat) → e ≡ record d { watches = rows_beside seats d.watches } → StandsFor s d → StandsFor s e
stays_run s d e seats is stands = subst (λ (v : Database). StandsFor s v) (sym is) (record { state = stands.state; out = stands.out; greatest = stands.greatest; unstopped = stands.unstopped; unlimited = stands.unlimited })

-- a run that ends after the first n steps
pub cut_short : (c d : Database) (ps : List Step) (n : ℕ) → StandsFor (situation_after (situation_of c) (take n ps) []) d → IsCutShort c ps d
cut_short c d ps n leads = (n, leads)
