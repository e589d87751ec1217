-- What is planned for a request.
--     IsPlan site q t plan      the plan is a whole response, or what the database is asked
--     IsWithin plan      what the database is asked passes no limit
--     IsWanted wants access result, IsPlanned site close t access result      the same before the refusals have their bytes
use Rattle.std.specs.Prelude.{ℕ, ◌≡◌, Bool, List, None, Result, Ok, Err, ⊤}
use Rattle.dkv_base.specs.Limits.{read_limit, write_limit, watch_limit}
use Rattle.dkv_heads.specs.Requests.{Received}
use Rattle.dkv_meta.specs.Reply.{IsExchange}
use Rattle.dkv_msgs.specs.declared.requests.RequestError.{RequestError}
use Rattle.dkv_msgs.specs.declared.requests.RequestError.TheVariants as error
use Rattle.dkv_token.specs.declared.site.Site.{Site}
use Rattle.dkv_route.specs.declared.access.Cause.{Cause}
use Rattle.dkv_route.specs.declared.access.Cause.TheVariants as cause
use Rattle.dkv_route.specs.declared.kinds.Plan.{Plan}
use Rattle.dkv_route.specs.declared.kinds.Plan.TheVariants as plan
use Rattle.dkv_route.specs.declared.bodies.Unplanned.{Unplanned}
use Rattle.dkv_route.specs.declared.bodies.Unplanned.TheVariants as unplanned
use Rattle.dkv_route.specs.Access.{Wanted, exchange, read, write, watch, stop, access}
use Rattle.dkv_route.specs.Answers.{refusal, exchange_response}

-- the plan for what is wanted; an exchange is answered at once
abbrev pub Serves : Site → Bool → ℕ → Wanted → Plan → Type 0
Serves site close t (exchange version) (plan.Reply bytes) =
    (text : List ℕ) × IsExchange site t version text × (bytes ≡ exchange_response close text)
Serves site close t (read ranges) (plan.Read planned) = planned ≡ ranges
Serves site close t (write w) (plan.Write planned) = planned ≡ w
Serves site close t (watch keys) (plan.Watch planned) = planned ≡ keys
Serves site close t stop plan.Stop = ⊤
Serves site close t _ _ = ⊥

-- the plan where access was decided; a refusal is answered at once
abbrev pub Plans : Site → Received → ℕ → Result Wanted Cause → Plan → Type 0
Plans site q t (Err cause) planned = planned ≡ plan.Reply (refusal q.method q.close cause)
Plans site q t (Ok wanted) planned = Serves site q.close t wanted planned

-- the plan for a request at moment t
abbrev pub IsPlan : Site → Received → ℕ → Plan → Type 0
IsPlan site q t planned = Plans site q t (access site q t) planned

-- what the database is asked passes no limit
abbrev pub IsWithin : Plan → Type 0
IsWithin (plan.Read ranges) = read_limit ranges ≡ None
IsWithin (plan.Write w) = write_limit w ≡ None
IsWithin (plan.Watch keys) = watch_limit keys ≡ None
IsWithin _ = ⊤

-- why a body that was not read is refused
abbrev pub unplanned_of : RequestError → Unplanned
unplanned_of (error.Malformed place) = unplanned.Refused (cause.Malformed place)
unplanned_of (error.Limit passed) = unplanned.Refused (cause.Limited passed)
unplanned_of error.NoMemory = unplanned.NoMemory

-- what a call read of a body is what is wanted, or the cause why it is refused; want of memory alone is free
abbrev pub IsWanted : {X : Type 0} → (X → Wanted) → Result Wanted Cause → Result X Unplanned → Type 0
IsWanted wants access (Ok x) = access ≡ Ok (wants x)
IsWanted wants access (Err (unplanned.Refused cause)) = access ≡ Err cause
IsWanted wants access (Err unplanned.NoMemory) = ⊤

-- what a call planned serves what is wanted, or the cause is the one why it is refused; want of memory alone is free
abbrev pub IsPlanned : Site → Bool → ℕ → Result Wanted Cause → Result Plan Unplanned → Type 0
IsPlanned site close t access (Ok planned) = (wanted : Wanted) × (access ≡ Ok wanted) × Serves site close t wanted planned
IsPlanned site close t access (Err (unplanned.Refused cause)) = access ≡ Err cause
IsPlanned site close t access (Err unplanned.NoMemory) = ⊤
