-- What a call of an object in memory does to its plan of faults.
--     IsPlanned plan      the call that comes is to fail
--     FailsAsPlanned other old new result, ReadFailsAsPlanned old new got      a call failed as planned, or because of `other`, and only then
use Rattle.std.specs.Prelude.{◌≡◌, ◌⊎◌, ℕ, Vec, MatchResult, Result}
use Rattle.std.specs.List.{Contains}
use Rattle.std.specs.declared.alloc.Global.{Global}
use Rattle.dkv_io.specs.Causes.{one_more}
use Rattle.dkv_io.specs.declared.fault_plan.FaultPlan.{FaultPlan}
use Rattle.dkv_io.specs.declared.source.Got.{Got}
use Rattle.dkv_io.specs.declared.source.Got.TheVariants.{Bytes, End, Failed}

-- the calls of these numbers are to fail, and none was made yet
abbrev pub new_plan : Vec ℕ Global → FaultPlan
new_plan fails = record { fails = fails; calls = 0; faults = 0 }

-- the call that comes is to fail
abbrev pub IsPlanned : FaultPlan → Type 0
IsPlanned plan = Contains plan.fails.items plan.calls

-- one more call was made
pub record IsCounted (old new : FaultPlan) : Type 0 where
  pub fails : new.fails ≡ old.fails
  pub calls : new.calls ≡ one_more old.calls

-- one more fault was counted
pub record HasOneFault (old new : FaultPlan) : Type 0 where
  pub fails : new.fails ≡ old.fails
  pub calls : new.calls ≡ old.calls
  pub faults : new.faults ≡ one_more old.faults

-- a call that was not to fail, and no fault
pub record IsGoodCall (old new : FaultPlan) : Type 0 where
  pub counted : IsCounted old new
  pub unplanned : IsPlanned old → ⊥
  pub faults : new.faults ≡ old.faults

-- a call that was to fail, or failed because of `other`, and one more fault
pub record IsFailedCall (other : Type 0) (old new : FaultPlan) : Type 0 where
  pub counted : IsCounted old new
  pub cause : IsPlanned old ⊎ other
  pub faults : new.faults ≡ one_more old.faults

-- by what the call returned
abbrev pub FailsAsPlanned : {T E : Type 0} → Type 0 → FaultPlan → FaultPlan → Result T E → Type 0
FailsAsPlanned other old new result = MatchResult result (λ _. IsGoodCall old new) (λ _. IsFailedCall other old new)

-- by what the read gave: it fails as planned, and only then
abbrev pub ReadFailsAsPlanned : FaultPlan → FaultPlan → Got → Type 0
ReadFailsAsPlanned old new (Bytes n) = IsGoodCall old new
ReadFailsAsPlanned old new End = IsGoodCall old new
ReadFailsAsPlanned old new Failed = IsFailedCall ⊥ old new
