-- Two files that were checked, by the status.
use Rattle.std.proofs.Common.{◌≡◌, ℕ, List, Option, refl}
use Rattle.dkv_app.specs.declared.status.Status.{Status}
use Rattle.dkv_app.specs.declared.status.Status.TheVariants as status
use Rattle.dkv_app.specs.Checking.{Shown, CheckAnswers, IsOf, IsPrinted, OpenCause, Unopens}
use Rattle.dkv_app.specs.Statuses.{Prints}

-- what was printed is of the state that the files recover to
pub printed_answers : (s : Status) (rose : Type 0) (shown : Shown) (fa fb : List ℕ) → IsPrinted s rose → IsOf shown fa fb → CheckAnswers s shown fa fb
printed_answers status.Ok rose shown fa fb printed is = is
printed_answers status.WriteFault rose shown fa fb printed is = is
printed_answers status.BadWords rose shown fa fb printed is = absurd printed
printed_answers status.ReadFault rose shown fa fb printed is = absurd printed
printed_answers status.DiskFault rose shown fa fb printed is = absurd printed
printed_answers status.NoDatabase rose shown fa fb printed is = absurd printed
printed_answers (status.Damaged file at) rose shown fa fb printed is = absurd printed
printed_answers (status.BadFrame at) rose shown fa fb printed is = absurd printed
printed_answers status.Exists rose shown fa fb printed is = absurd printed
printed_answers (status.Worn n) rose shown fa fb printed is = absurd printed
printed_answers status.RandomFault rose shown fa fb printed is = absurd printed
printed_answers status.NoMemory rose shown fa fb printed is = absurd printed
printed_answers (status.NotBuilt at) rose shown fa fb printed is = absurd printed

-- why files are not opened is why they are not checked
pub refused_answers : (s : Status) (rose : Type 0) (shown : Shown) (fa fb : List ℕ) → OpenCause s rose → Unopens s fa fb → CheckAnswers s shown fa fb
refused_answers status.Ok rose shown fa fb cause is = absurd cause
refused_answers status.WriteFault rose shown fa fb cause is = absurd cause
refused_answers status.BadWords rose shown fa fb cause is = is
refused_answers status.ReadFault rose shown fa fb cause is = is
refused_answers status.DiskFault rose shown fa fb cause is = is
refused_answers status.NoDatabase rose shown fa fb cause is = is
refused_answers (status.Damaged file at) rose shown fa fb cause is = is
refused_answers (status.BadFrame at) rose shown fa fb cause is = is
refused_answers status.Exists rose shown fa fb cause is = is
refused_answers (status.Worn n) rose shown fa fb cause is = is
refused_answers status.RandomFault rose shown fa fb cause is = is
refused_answers status.NoMemory rose shown fa fb cause is = is
refused_answers (status.NotBuilt at) rose shown fa fb cause is = is

-- and then nothing is printed
pub refused_prints : {K : Type 0} (s : Status) (rose : Type 0) (held : K → Option (List ℕ)) (sink : K) (text : List ℕ) → OpenCause s rose → Prints s held sink sink text
refused_prints status.Ok rose held sink text cause = absurd cause
refused_prints status.WriteFault rose held sink text cause = absurd cause
refused_prints status.BadWords rose held sink text cause = refl
refused_prints status.ReadFault rose held sink text cause = refl
refused_prints status.DiskFault rose held sink text cause = refl
refused_prints status.NoDatabase rose held sink text cause = refl
refused_prints (status.Damaged file at) rose held sink text cause = refl
refused_prints (status.BadFrame at) rose held sink text cause = refl
refused_prints status.Exists rose held sink text cause = refl
refused_prints (status.Worn n) rose held sink text cause = refl
refused_prints status.RandomFault rose held sink text cause = refl
refused_prints status.NoMemory rose held sink text cause = refl
refused_prints (status.NotBuilt at) rose held sink text cause = refl
