-- What each step on the table tells: of the step, the seat before, the number found and the seat after.
use Rattle.std.specs.Prelude.{◌≡◌, ◌≢◌, ℕ, ◌%◌, ◌<◌, ◌≤◌, max, List, [], ◌∷◌, length, Option, Some}
use mathlib.Core.List.{IsPrefix}
use mathlib.Core.Option.{some}
use lib.ListN.{get_elem?}
use Rattle.atomic_table.specs.Table.{Me, Step, rest}
use Rattle.dkv_base.specs.declared.moments.TheConstants.{MAX_MOMENT}
use Rattle.dkv_turn.specs.declared.view.Stage.TheVariants.{Idle, Waiting}
use Rattle.dkv_turn.specs.declared.view.View.{View}
use Rattle.dkv_turn.specs.Histories.{NoneSince}
use Rattle.dkv_turn.specs.declared.view.Gone.{Gone}
use Rattle.dkv_turn.specs.Rule.{ticket_cycle, Closed}
use Rattle.dkv_turn.specs.Views.{with_stage, with_seen, with_moment, with_handed, with_turn, with_note, with_loan, grown_view, number_of, log_of, loan_of, shares}

-- a seat: its view, and the slots that it holds
abbrev pub Sat : Type 0 → Type 0 → Type 0 → Type 0
Sat V I G = Me (Option V) (View I G)

module _ {I G V : Type 0} where
  -- it drew a number, and waits with it
  abbrev pub Drew : Step (Option V) → Sat V I G → ℕ → Sat V I G → Type 0
  Drew st m r n = (k : ℕ) × (r ≡ k % ticket_cycle) × (n ≡ (with_stage m.0 (Waiting k), m.1))

  -- it has the turn, and the value, which goes on from all that it had seen, with no item of its number since
  pub record Got (carries : I → ℕ) (items : V → List I) (lent : V → ℕ) (grounds : V → G) (m n : Sat V I G) : Type 0 where
    pub value : V
    pub seat : n ≡ (with_turn m.0 (items value) (lent value), (0, Some value) ∷ m.1)
    pub same_ground : m.0.grounds ≡ Some (grounds value)
    pub begins : IsPrefix m.0.seen (items value)
    pub none_since : NoneSince carries m.0.who m.0.seen (items value)
    pub same_loan : 0 < m.0.loan → lent value ≡ m.0.loan

  -- where its number is served it has the turn, and else nothing changes
  abbrev pub Looked : (I → ℕ) → (V → List I) → (V → ℕ) → (V → G) → Step (Option V) → Sat V I G → ℕ → Sat V I G → Type 0
  Looked carries items lent grounds st m r n = (r ≡ number_of m.0.stage % ticket_cycle → Got carries items lent grounds m n) × (r ≢ number_of m.0.stage % ticket_cycle → n ≡ m)

  -- it found the length of the history, and has seen it
  abbrev pub Learned : Step (Option V) → Sat V I G → ℕ → Sat V I G → Type 0
  Learned st m r n = (r ≡ length (log_of m.0.stage)) × (n ≡ (with_seen m.0 (log_of m.0.stage), m.1))

  -- the history is that of the value in the slot, and it has seen it
  abbrev pub Added : (V → List I) → Step (Option V) → Sat V I G → ℕ → Sat V I G → Type 0
  Added items st m r n = (value : V) → m.1 ≡ (0, Some value) ∷ [] → n ≡ (grown_view m.0 (items value), m.1)

  -- it gave the turn and the slot back
  abbrev pub PassedOn : Step (Option V) → Sat V I G → ℕ → Sat V I G → Type 0
  PassedOn st m r n = n ≡ (with_stage m.0 Idle, rest m.1)

  -- its moment is the greater of the one found, which is no less than its own was, and the step's, which it handed in
  pub record Raised (st : Step (Option V)) (m : Sat V I G) (r : ℕ) (n : Sat V I G) : Type 0 where
    pub seat : n ≡ (with_moment (with_handed m.0 st.first) (max r st.first), m.1)
    pub rises : m.0.at ≤ r
    pub most : r ≤ MAX_MOMENT

  -- it found the loan of the value that it holds, and noted it
  abbrev pub Noted : Step (Option V) → Sat V I G → ℕ → Sat V I G → Type 0
  Noted st m r n = (r ≡ loan_of m.0.stage) × (n ≡ (with_note m.0 r, m.1))

  -- the loan is the step's number
  abbrev pub Changed : Step (Option V) → Sat V I G → ℕ → Sat V I G → Type 0
  Changed st m r n = n ≡ (with_loan m.0 st.first, m.1)

  -- nothing changes, and there is a history that begins with all that was seen and has no items of its numbers but those seen under them
  pub record Recalled (carries : I → ℕ) (m n : Sat V I G) : Type 0 where
    pub log : List I
    pub seat : n ≡ m
    pub begins : IsPrefix m.0.seen log
    pub within : length m.0.within ≤ length m.0.seen
    pub shares_closed : (k : ℕ) (g : Gone I) → get_elem? (shares m.0) k ≡ some g → Closed carries log g

  -- it found what the rule has of it
  abbrev pub Recalls : (I → ℕ) → Step (Option V) → Sat V I G → ℕ → Sat V I G → Type 0
  Recalls carries st m r n = Recalled carries m n
