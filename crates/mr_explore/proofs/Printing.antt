-- What is printed of the runs that were made, and why nothing is.
use Rattle.std.proofs.Common.{◌≡◌, ℕ, List, map, Result, Ok, Err, IfOk, IfErr, IsErrAnd, inl, inr, refl, sym, subst, ◌∙◌}
use Rattle.std.proofs.lemmas.Result.{err_from_is_err_and}
use Rattle.mr_sim_commands.specs.declared.fault.SimFault.{SimFault}
use Rattle.mr_sim_commands.specs.declared.fault.SimFault.TheVariants as fault
use Rattle.mr_sim_commands.specs.Faults.{SeqFails}
use Rattle.mr_play.specs.Text.{job_line}
use Rattle.mr_explore_search.specs.Taking.{no_more}
use Rattle.mr_explore_ends.specs.Table.{all_noted}
use Rattle.mr_explore_ends.specs.Text as ends
use Rattle.mr_explore.specs.declared.asked.Asked.{Asked}
use Rattle.mr_explore.specs.Ends.{TellFails, TellsEnds}
use Rattle.mr_explore.specs.Explored.{ExploredFails, PrintsExplored, found_in, goal_of}
use Rattle.mr_explore.specs.Checks.{IsUnsaid}
use Rattle.mr_explore.specs.Exploring.{Begins, ExploreFails, Fails, IsFullBehind, Made, Remaining, came, found_of}

-- ---- why nothing is printed

pub begins_fails : (asked : Asked) (input : List ℕ) (f : SimFault) → ExploreFails input f → ExploredFails asked input f
begins_fails asked input fault.NoMemory h = tt
begins_fails asked input fault.JournalMismatch h = tt
begins_fails asked input fault.Full (inl h) = inl h
begins_fails asked input fault.Full (inr h) = inr (inl h)
begins_fails asked input fault.Read h = h
begins_fails asked input fault.Write h = h
begins_fails asked input fault.TooLong h = h
begins_fails asked input (fault.BadCommand n) h = h
begins_fails asked input (fault.BadRecord n) h = h
begins_fails asked input (fault.Job e) h = h
begins_fails asked input fault.Refused h = h
begins_fails asked input fault.JobFailed h = h
begins_fails asked input fault.TurnsSpent h = h
begins_fails asked input fault.Thread h = h

pub makes_fails : (asked : Asked) (input : List ℕ) (x : Remaining) (f : SimFault) → Begins input asked.deep asked.faults x → Fails asked.most (goal_of asked) x f → ExploredFails asked input f
makes_fails asked input x fault.NoMemory b h = tt
makes_fails asked input x fault.JournalMismatch b h = tt
makes_fails asked input x fault.Full b h = inr (inr (record { run = b.run; is_run = b.is; full = subst (IsFullBehind asked.most (goal_of asked)) b.left h }))
makes_fails asked input x fault.Read b h = absurd h
makes_fails asked input x fault.Write b h = absurd h
makes_fails asked input x fault.TooLong b h = absurd h
makes_fails asked input x (fault.BadCommand n) b h = absurd h
makes_fails asked input x (fault.BadRecord n) b h = absurd h
makes_fails asked input x (fault.Job e) b h = absurd h
makes_fails asked input x fault.Refused b h = absurd h
makes_fails asked input x fault.JobFailed b h = absurd h
makes_fails asked input x fault.TurnsSpent b h = absurd h
makes_fails asked input x fault.Thread b h = absurd h

pub tells_fails : {A : Type 0} (asked : Asked) (input : List ℕ) (r : Result A SimFault) → IfErr r (TellFails input) → IfErr r (ExploredFails asked input)
tells_fails asked input (Ok a) h = h
tells_fails asked input (Err fault.NoMemory) h = tt
tells_fails asked input (Err fault.JournalMismatch) h = absurd h
tells_fails asked input (Err (fault.Job e)) h = h
tells_fails asked input (Err fault.Full) h = absurd h
tells_fails asked input (Err fault.Read) h = absurd h
tells_fails asked input (Err fault.Write) h = absurd h
tells_fails asked input (Err fault.TooLong) h = absurd h
tells_fails asked input (Err (fault.BadCommand n)) h = absurd h
tells_fails asked input (Err (fault.BadRecord n)) h = absurd h
tells_fails asked input (Err fault.Refused) h = absurd h
tells_fails asked input (Err fault.JobFailed) h = absurd h
tells_fails asked input (Err fault.TurnsSpent) h = absurd h
tells_fails asked input (Err fault.Thread) h = absurd h

pub begins_failed : {A : Type 0} (asked : Asked) (input : List ℕ) (f : SimFault) (r : Result A SimFault) → ExploreFails input f → IsErrAnd r (λ g. g ≡ f) → IfErr r (ExploredFails asked input)
begins_failed {A} asked input f r h is =
    let z = err_from_is_err_and r is in
    subst (λ (y : Result A SimFault). IfErr y (ExploredFails asked input)) (sym z.1) (subst (ExploredFails asked input) (sym z.2) (begins_fails asked input f h))

pub makes_failed : {A : Type 0} (asked : Asked) (input : List ℕ) (x : Remaining) (f : SimFault) (r : Result A SimFault) → Begins input asked.deep asked.faults x → Fails asked.most (goal_of asked) x f → IsErrAnd r (λ g. g ≡ f) → IfErr r (ExploredFails asked input)
makes_failed {A} asked input x f r b h is =
    let z = err_from_is_err_and r is in
    subst (λ (y : Result A SimFault). IfErr y (ExploredFails asked input)) (sym z.1) (subst (ExploredFails asked input) (sym z.2) (makes_fails asked input x f b h))

unsaid_fails : (input : List ℕ) (f : SimFault) → IsUnsaid (job_line input) f → TellFails input f
unsaid_fails input fault.NoMemory h = tt
unsaid_fails input (fault.Job e) h = h
unsaid_fails input fault.JournalMismatch h = absurd h
unsaid_fails input fault.Full h = absurd h
unsaid_fails input fault.Read h = absurd h
unsaid_fails input fault.Write h = absurd h
unsaid_fails input fault.TooLong h = absurd h
unsaid_fails input (fault.BadCommand n) h = absurd h
unsaid_fails input (fault.BadRecord n) h = absurd h
unsaid_fails input fault.Refused h = absurd h
unsaid_fails input fault.JobFailed h = absurd h
unsaid_fails input fault.TurnsSpent h = absurd h
unsaid_fails input fault.Thread h = absurd h

pub unsaid_failed : {A : Type 0} (input : List ℕ) (f : SimFault) (r : Result A SimFault) → IsUnsaid (job_line input) f → IsErrAnd r (λ g. g ≡ f) → IfErr r (TellFails input)
unsaid_failed {A} input f r h is =
    let z = err_from_is_err_and r is in
    subst (λ (y : Result A SimFault). IfErr y (TellFails input)) (sym z.1) (subst (TellFails input) (sym z.2) (unsaid_fails input f h))

-- what `seq` answers where it prints nothing, if its job refuses no line
pub not_refused : (text : List ℕ) (f : SimFault) → SeqFails text f → (f ≡ fault.Refused → ⊥) → IsUnsaid text f
not_refused text fault.NoMemory h other = tt
not_refused text (fault.Job e) h other = h
not_refused text fault.Refused h other = absurd (other refl)
not_refused text fault.JournalMismatch h other = absurd h
not_refused text fault.Full h other = absurd h
not_refused text fault.Read h other = absurd h
not_refused text fault.Write h other = absurd h
not_refused text fault.TooLong h other = absurd h
not_refused text (fault.BadCommand n) h other = absurd h
not_refused text (fault.BadRecord n) h other = absurd h
not_refused text fault.JobFailed h other = absurd h
not_refused text fault.TurnsSpent h other = absurd h
not_refused text fault.Thread h other = absurd h

-- ---- what is printed

found_is : (asked : Asked) (input : List ℕ) (x y : Remaining) (b : Begins input asked.deep asked.faults x) (m : Made asked.most asked.seconds (goal_of asked) x y) → found_of y ≡ found_in asked.faults m.made y.left
found_is asked input x y b m = λ i. record {
  table = (m.table ∙ (λ j. all_noted (map came m.made) (b.table j))) i;
  faults = (m.faults ∙ b.faults) i;
  whole = no_more y.left;
}

pub prints : (asked : Asked) (input text : List ℕ) (x y : Remaining) → Begins input asked.deep asked.faults x → Made asked.most asked.seconds (goal_of asked) x y → TellsEnds input asked.form (goal_of asked) (found_of y) text → PrintsExplored asked input text
prints asked input text x y b m t = record {
  run = b.run;
  is_run = b.is;
  made = m.made;
  rest = y.left;
  are = sym b.left ∙ m.are;
  count = m.count;
  tells = subst (λ (f : ends.Found). TellsEnds input asked.form (goal_of asked) f text) (found_is asked input x y b m) t;
}

-- the same, where there was memory
pub prints_ok : {Text : Type 0} (items : Text → List ℕ) (asked : Asked) (input : List ℕ) (x y : Remaining) (r : Result Text SimFault) → Begins input asked.deep asked.faults x → Made asked.most asked.seconds (goal_of asked) x y → IfOk r (λ text. TellsEnds input asked.form (goal_of asked) (found_of y) (items text)) → IfOk r (λ text. PrintsExplored asked input (items text))
prints_ok items asked input x y (Ok text) b m h = prints asked input (items text) x y b m h
prints_ok items asked input x y (Err f) b m h = h
