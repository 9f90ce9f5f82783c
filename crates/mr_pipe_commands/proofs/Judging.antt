-- A judgement of an input by its name.
use Rattle.std.proofs.Common.{◌≡◌, ◌<◌, ◌^◌, ℕ, List, [], ◌∷◌, ◌++◌, length, Option, Some, None, Result, Ok, Err, IfOk, IfSome, refl, sym, subst, append-nil}
use Rattle.std.specs.Io.KnownBytes.{Appends}
use Rattle.mr_pipe.specs.declared.fault.PipeFault.{PipeFault}
use Rattle.mr_pipe.specs.declared.form.Form.{Form}
use Rattle.mr_judge.specs.Program.{Judged, Runs, exit_status}
use Rattle.mr_judge.specs.declared.fault.JudgeFault.{JudgeFault}
use Rattle.mr_judge.specs.declared.fault.JudgeFault.TheVariants as fault
use Rattle.mr_judge.specs.declared.verdict.Verdict.{Verdict}
use Rattle.mr_pipe_commands.specs.Named.{AreBytesOf, IsTooLong, JudgesNamed, Known}
use Rattle.mr_pipe_commands.specs.declared.unread.Unread.{Unread}
use Rattle.mr_pipe_commands.specs.declared.unread.Unread.TheVariants.{TooLong, Failed}
use Rattle.mr_pipe_commands.specs.inner.Reading.{IsUnread, status_of_unread}

-- what is said of the bytes that were read is said of what is known
judged : (form : Form) (input was now : Option (List ℕ)) (all : List ℕ) (judgement : Result Verdict JudgeFault) → IfSome input (λ known. all ≡ known) → Judged form (Some all) was now judgement → Judged form input was now judgement
judged form None was now all judgement same holds = tt
judged form (Some known) was now all judgement same holds = subst (λ bytes. Judged form (Some bytes) was now judgement) same holds

runs : (form : Form) (input was now : Option (List ℕ)) (all : List ℕ) (status : ℕ) → IfSome input (λ known. all ≡ known) → (ended : Result (Result Verdict JudgeFault) PipeFault) → status ≡ exit_status ended →
    IfOk ended (λ judgement. Judged form (Some all) was now judgement) → Runs form input was now status
runs form input was now all status same (Ok judgement) is holds = (Ok judgement, is, judged form input was now all judgement same holds)
runs form input was now all status same (Err f) is holds = (Err f, is, tt)

pub judges : (known : Known) (form : Form) (name bytes : List ℕ) (read was now : Option (List ℕ)) (status : ℕ) → AreBytesOf known (name ∷ []) (bytes ∷ []) → read ≡ Some bytes → Runs form read was now status → JudgesNamed known form name was now status
judges known form name bytes read was now status are is ran =
    let from : Runs form (Some bytes) was now status = subst (λ r. Runs form r was now status) is ran in
    runs form (known name) was now bytes status are.0 from.0 from.1 from.2

appends_none : (was : Option (List ℕ)) → Appends was was []
appends_none None = tt
appends_none (Some xs) = sym (append-nil xs)

too_long : (form : Form) (input was : Option (List ℕ)) → IfSome input (λ all. 2 ^ 24 < length all) → Judged form input was was (Err fault.TooLong)
too_long form None was long = tt
too_long form (Some all) was long = (long, appends_none was)

pub refused : (known : Known) (form : Form) (name : List ℕ) (was : Option (List ℕ)) (unread : Unread) (status : ℕ) → IsUnread known name unread → status ≡ status_of_unread unread → JudgesNamed known form name was was status
refused known form name was (TooLong n) status why is = (Ok (Err fault.TooLong), is, too_long form (known name) was why)
refused known form name was (Failed n f) status why is = (Err f, is, tt)
