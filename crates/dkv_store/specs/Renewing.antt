-- What begins a further term.
--     IsRenewed c d      a core of the same state, in which nothing is out
--     IsNextTerm old limit new      the term that begins on the old store's state under this limit
--     IsNoTerm s refusal      why none begins on a store
use Rattle.std.specs.Prelude.{ℕ, ◌≡◌, ◌<◌, ◌≤◌, ◌^◌, []}
use Rattle.dkv_core.specs.Cores.{Database}
use Rattle.dkv_store.specs.Stores.{Contents}
use Rattle.dkv_store.specs.declared.terms.TermRefusal.{TermRefusal}
use Rattle.dkv_store.specs.declared.terms.TermRefusal.TheVariants as term

-- the state as it stands, nothing out, and no moment later than the last commit's
pub record IsRenewed (c d : Database) : Type 0 where
  pub state : d.state ≡ c.state
  pub out : d.out ≡ []
  pub greatest : d.greatest ≡ c.state.moment

-- the old store's state is the base: nothing is out, there is no item, and the files stay with what is in doubt
pub record IsNextTerm {D : Type 0} (old : Contents D) (limit_is : ℕ) (new : Contents D) : Type 0 where
  pub few : old.core.state.number < 2 ^ 62
  pub base : new.base ≡ old.core.state
  pub core : IsRenewed old.core new.core
  pub trail : new.trail ≡ []
  pub roomless : new.roomless ≡ []
  pub doubt : new.doubt ≡ old.doubt
  pub who : new.who ≡ old.who
  pub limit : new.limit ≡ limit_is
  pub record_bytes : new.record_bytes ≡ old.record_bytes
  pub in_use : new.in_use ≡ old.in_use
  pub a : new.a ≡ old.a
  pub b : new.b ≡ old.b
  pub a_first : new.a_first ≡ old.a
  pub b_first : new.b_first ≡ old.b

-- too many commits, or none too many
abbrev pub IsNoTerm : {D : Type 0} → Contents D → TermRefusal → Type 0
IsNoTerm s (term.Worn n) = (2 ^ 62 ≤ s.core.state.number) × (n ≡ s.core.state.number)
IsNoTerm s term.NoMemory = s.core.state.number < 2 ^ 62
